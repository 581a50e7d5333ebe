use Rattle.std.proofs.Common.{◌∙◌, ap, sym, subst, arith, length, List, ℕ, T, refl, inr, rules}
use Rattle.std.specs.FinMap.{entries, entries_sorted, from_entries, is_sorted}
use Rattle.std.specs.Cmp.Lexicographic.{slice_cmp, nat_list_cmp_total}
use Rattle.std.specs.Ordering.{nat_cmp}
use Rattle.std.proofs.lemmas.List.Sorted.{ranks_by, answers_always}
use Rattle.index_level0.specs.Levels.{Entry, Level}
use Rattle.index_level0.proofs.LevelFacts.{Pairs, sorted_entries}
use Rattle.index_file.proofs.ListingFacts.{level_of}
use Rattle.index_file.proofs.ReaderFacts.{file_damage, knows_still, no_damage, same_read}
use Rattle.index_file.proofs.WholeFacts.{still_whole}
use Rattle.index_file.proofs.listing.entries.Goals as goal

pub invariant_of-file : goal.invariant_of-file
invariant_of-file g c =
    let view = g.R.SealedReader.view in
    let f = c.args.file.now.footer in
    let same = same_read (length f.buckets) (view c.args.file.now.reader) (view c.gather.new.reader) c.gather.result c.gather.ensures.reading in
    record { known = knows_still (view c.args.file.now.reader) (view c.gather.new.reader) f same c.args.file.now.known; numbered = c.args.file.now.numbered; whole = still_whole c.args.file.now.base f (view c.args.file.now.reader) (view c.gather.new.reader) c.args.file.now.notes same c.args.file.now.whole }

pub gather-requires-clause-some : goal.gather-requires-clause-some
gather-requires-clause-some g c = omega (arith, c.args.file.now.numbered)

pub returns-in-Err-clause-damaged : goal.returns-in-Err-clause-damaged
returns-in-Err-clause-damaged g c = file_damage c.in-Err.fault c.args.file.now.base c.args.file.now.number c.args.file.now.footer (g.R.SealedReader.view c.args.file.now.reader) c.in-Err.ensures.damaged

pub returns-in-Err-clause-intact : goal.returns-in-Err-clause-intact
returns-in-Err-clause-intact g c tells level h =
    no_damage c.in-Err.fault c.args.file.now.base c.args.file.now.number c.args.file.now.footer (g.R.SealedReader.view c.args.file.now.reader) level c.args.file.now.known c.in-Err.ensures.damaged tells h

pub returns-then-len-file-clause-damaged : goal.returns-then-len-file-clause-damaged
returns-then-len-file-clause-damaged g c = rw c.fault_of.ensures (inr (record {
  file_is = refl;
  part_is = refl;
  shows = (
    refl,
    λ file told level is.
        let same = (c.in-Ok.ensures.level level (record { file = file; told = told; is = is })).1 in
        omega (arith, same, c.len.ensures, c.in-Ok.all.ok.0, c.if-len-file.true),
  );
}))

pub returns-then-len-file-clause-intact : goal.returns-then-len-file-clause-intact
returns-then-len-file-clause-intact g c tells level h =
    let same = (c.in-Ok.ensures.level level h).1 in
    absurd (omega (arith, same, c.len.ensures, c.in-Ok.all.ok.0, c.if-len-file.true))

key_of : List ℕ × Entry → List ℕ
key_of e = e.0

pub returns-clause-level : goal.returns-clause-level
unfolding key_of
returns-clause-level g c level h =
    sorted_entries c.in-Ok.all.items c.sort_unstable_by.new.self.items c.in-Ok.ensures.distinct c.sort_unstable_by.ensures.permutation
    (c.sort_unstable_by.ensures.sorted _ (ranks_by nat_list_cmp_total key_of) (answers_always _ _ _ (λ f a r f' k. search rules)))
    ∙ ap (λ (l : Level). entries l) (c.in-Ok.ensures.level level h).0

pub returns-clause-listed : goal.returns-clause-listed
unfolding key_of
returns-clause-listed g c file told =
    let has = c.in-Ok.ensures.listed file told in
    record {
      buckets = has.0;
      number = has.1;
      have = has.2;
      counted = omega (arith, ap (λ (xs : Pairs). length xs) has.3, c.len.ensures, c.in-Ok.all.ok.0, c.if-len-file.false);
      level_is =
          level_of c.sort_unstable_by.new.self.items c.in-Ok.all.items
          (sorted_entries c.in-Ok.all.items c.sort_unstable_by.new.self.items c.in-Ok.ensures.distinct c.sort_unstable_by.ensures.permutation
          (c.sort_unstable_by.ensures.sorted _ (ranks_by nat_list_cmp_total key_of) (answers_always _ _ _ (λ f a r f' k. search rules))))
          ∙ ap (λ (xs : Pairs). from_entries xs) has.3;
    }

pub returns-clause-rise : goal.returns-clause-rise
unfolding key_of
returns-clause-rise g c =
    subst (λ (es : Pairs). T (is_sorted (slice_cmp nat_cmp) es))
    (sym (sorted_entries c.in-Ok.all.items c.sort_unstable_by.new.self.items c.in-Ok.ensures.distinct c.sort_unstable_by.ensures.permutation
    (c.sort_unstable_by.ensures.sorted _ (ranks_by nat_list_cmp_total key_of) (answers_always _ _ _ (λ f a r f' k. search rules)))))
    (entries_sorted (from_entries {R = slice_cmp nat_cmp} c.in-Ok.all.items))
