use Rattle.std.proofs.Common.{◌≡◌, ◌+◌, ◌∙◌, nat_lt, false, drop, sym, subst, arith, length, get_or}
use Rattle.std.proofs.lemmas.Bool.{ltb-false}
use Rattle.std.proofs.lemmas.List.{get_or_read}
use Rattle.index_file.specs.Buckets.{in_bucket}
use Rattle.index_file.specs.Chains.{Leads}
use Rattle.index_file.proofs.ChainFacts.{led, same_entry, written_on}
use Rattle.index_file.proofs.chains.bucket_bytes.Goals as goal

pub unreachable-requires : goal.unreachable-requires
unreachable-requires c =
    let es = c.args.entries.now in
    let bucket = in_bucket c.args.buckets es c.args.b in
    let chained = c.requires.chained in
    let count : c.index-count.result.now ≡ length bucket = get_or_read c.args.chains.now.counts.items c.args.b _ (omega (arith, chained.numbers, c.requires.there)) c.index-count.ensures 0 ∙ chained.counted c.args.b c.requires.there in
    let l = led es c.args.chains.now.next.items c.loop-n.at c.loop-n._n bucket (omega (arith, count, c.loop-n-test.true)) c.loop-n.invariant.leads in
    let none : false ≡ nat_lt c.loop-n.at (length es) = c.in-None.ensures.lookup.0 in
    omega (arith, l.within, ltb-false c.loop-n.at (length es) (sym none))

pub index-at-requires-in-loop-n : goal.index-at-requires-in-loop-n
index-at-requires-in-loop-n c =
    let es = c.args.entries.now in
    let bucket = in_bucket c.args.buckets es c.args.b in
    let chained = c.requires.chained in
    let count : c.index-count.result.now ≡ length bucket = get_or_read c.args.chains.now.counts.items c.args.b _ (omega (arith, chained.numbers, c.requires.there)) c.index-count.ensures 0 ∙ chained.counted c.args.b c.requires.there in
    let l = led es c.args.chains.now.next.items c.loop-n.at c.loop-n._n bucket (omega (arith, count, c.loop-n-test.true)) c.loop-n.invariant.leads in
    omega (arith, l.within, chained.nexts, c.args.chains.now.next.ok.0)

pub loop-n-preserved : goal.loop-n-preserved
loop-n-preserved c =
    let es = c.args.entries.now in
    let bucket = in_bucket c.args.buckets es c.args.b in
    let chained = c.requires.chained in
    let next = c.args.chains.now.next.items in
    let count : c.index-count.result.now ≡ length bucket = get_or_read c.args.chains.now.counts.items c.args.b _ (omega (arith, chained.numbers, c.requires.there)) c.index-count.ensures 0 ∙ chained.counted c.args.b c.requires.there in
    let l = led es next c.loop-n.at c.loop-n._n bucket (omega (arith, count, c.loop-n-test.true)) c.loop-n.invariant.leads in
    let at : c.index-at-in-loop-n.result.now ≡ get_or next c.loop-n.at 0 = get_or_read next c.loop-n.at _ (omega (arith, l.within, chained.nexts)) c.index-at-in-loop-n.ensures 0 in
    record {
      leads = subst (λ k. Leads es next k (drop (c.loop-n._n + 1) bucket)) (sym at) l.rest;
      so_far = written_on c.loop-n.out.items _ _ c.loop-n._n bucket l.entry c.in-Some.entry.now c.in_ok-push_entry-in-Some.ensures (same_entry es c.loop-n.at l.entry c.in-Some.entry.now l.is l.within c.in-Some.ensures.lookup.1) l.split c.loop-n.invariant.so_far;
    }
