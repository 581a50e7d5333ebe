use Rattle.std.proofs.Common.{◌≡◌, ◌-◌, refl, arith, length, get_or}
use Rattle.std.proofs.lemmas.List.{get_or_read}
use Rattle.index_file.proofs.ChainFacts.{all_fit, chained_step, few_in, fit_step, none_chained, none_fit}
use Rattle.index_file.proofs.chains.chain_up.Goals as goal

pub loop-n-init : goal.loop-n-init
loop-n-init c = record {
  size = refl;
  chained = none_chained c.args.entries.now c.args.buckets (length c.args.entries.now) c.in_ok-first.first.items c.in_ok-counts.counts.items c.in_ok-next.next.items refl
      (c.in_ok-first.ensures.items_if_clones_equal (λ y is. is)) (c.in_ok-counts.ensures.items_if_clones_equal (λ y is. is))
      (omega (arith, c.in_ok-next.ensures.len, c.in_ok-next.next.ok.0));
  fit = none_fit c.args.entries.now (length c.args.entries.now) refl;
}

pub overflow_add-index_mut : goal.overflow_add-index_mut
overflow_add-index_mut c =
    let b = c.bucket_of_entry-b.result in
    let inv = c.loop-n.invariant.chained in
    let is : c.index_mut-in-loop-n-2.result.now ≡ get_or c.loop-n.counts.items b 0 = get_or_read c.loop-n.counts.items b _ (omega (arith, inv.numbers, c.bucket_of_entry-b.ensures.there)) c.index_mut-in-loop-n-2.ensures.value 0 in
    omega (arith, is, inv.counted b c.bucket_of_entry-b.ensures.there, few_in c.args.entries.now c.args.buckets (length c.args.entries.now - c.loop-n.n) b, inv.nexts, c.loop-n.next.small)

pub loop-n-preserved : goal.loop-n-preserved
loop-n-preserved c =
    let b = c.bucket_of_entry-b.result in
    let inv = c.loop-n.invariant.chained in
    let there = c.bucket_of_entry-b.ensures.there in
    record {
      size = refl;
      chained = chained_step c.args.entries.now c.args.buckets c.loop-n.n b _ _ c.index-entries-i.result _ _ _ inv (omega arith) c.index-entries-i.is
          c.bucket_of_entry-b.ensures.of_key there
          (get_or_read c.loop-n.counts.items b _ (omega (arith, inv.numbers, there)) c.index_mut-in-loop-n-2.ensures.value 0)
          (get_or_read c.loop-n.first.items b _ (omega (arith, inv.firsts, there)) c.index.ensures 0);
      fit = fit_step c.args.entries.now c.loop-n.n c.index-entries-i.result (omega arith) c.index-entries-i.is c.bucket_of_entry-b.ensures.fit c.loop-n.invariant.fit;
    }

pub returns-clause-fit : goal.returns-clause-fit
returns-clause-fit c = all_fit c.args.entries.now _ (omega (arith, c.loop-n-test.false)) c.loop-n.invariant.fit
