use Rattle.std.proofs.Common.{◌≡◌, ◌-◌, ◌∙◌, ap, sym, subst, arith, length, take, List, ℕ}
use Rattle.std.proofs.Math.Logic.{∥∥₁_elim}
use Rattle.std.specs.Option.{option_map}
use Rattle.std.specs.FinMap.{find}
use Rattle.std.specs.Cmp.Lexicographic.{slice_cmp}
use Rattle.std.specs.Ordering.{nat_cmp}
use Rattle.index_file.specs.Buckets.{Pair}
use Rattle.index_file.specs.Entries.{IsTheBucket, sums_fit, with_base}
use Rattle.index_file.specs.Reads.{bucket_in}
use Rattle.index_file.specs.Reading.{IsBucket}
use Rattle.index_file.proofs.BucketReads.{undigested}
use Rattle.index_file.proofs.EntriesFacts.{belong_sums}
use Rattle.index_file.proofs.ReaderFacts.{failed_after, outside_damage, read_damage, some_mark}
use Rattle.index_file.proofs.WholeFacts.{entry_prop, same_some}
use Rattle.index_file.proofs.look_ups.look_up.Goals as goal

pub returns-in-Err-clause-damaged : goal.returns-in-Err-clause-damaged
returns-in-Err-clause-damaged g c = outside_damage c.in-Err.fault c.args.base c.args.number c.args.b c.args.footer.now (g.R.SealedReader.view c.args.reader.now) c.in-Err.ensures.damaged

pub overflow_sub-end : goal.overflow_sub-end
overflow_sub-end g c =
    let mark = some_mark c.args.footer.now c.args.b c.requires.there in
    omega (arith, c.in-Ok.ensures.long mark.0 mark.1, ap (λ (xs : List ℕ). length xs) c.deref-all.ensures.value)

pub returns-in-Some-clause-entry : goal.returns-in-Some-clause-entry
returns-in-Some-clause-entry g c =
    let f = c.args.footer.now in
    let base = c.args.base in
    let b = c.args.b in
    let view = g.R.SealedReader.view c.args.reader.now in
    let bytes = c.in-Ok.bytes.items in
    ∥∥₁_elim c.requires.whole (entry_prop base f view b c.args.key.now c.in-Some.entry) (λ whole file told mark got.
    let x = whole file told mark got in
    let read : bytes ≡ bucket_in file mark = c.in-Ok.ensures.bytes file told mark got in
    let is = subst (λ (bs : List ℕ). IsTheBucket (length f.buckets) b base bs x.0) (sym read) x.1 in
    let long = c.in-Ok.ensures.long mark got in
    let all = c.deref-all.result.now in
    let end : mark.length ≡ length all - 32 = omega (arith, long, ap (λ (xs : List ℕ). length xs) c.deref-all.ensures.value) in
    let body : IsBucket (take (length all - 32) all) x.0 = subst (λ (bs : List ℕ). IsBucket bs x.0)
    (ap (λ (k : ℕ). take k bytes) end ∙ ap (take (length all - 32)) (sym c.deref-all.ensures.value)) (undigested (length f.buckets) b base mark.length bytes x.0 long is.is) in
    let sums = belong_sums (length f.buckets) b base x.0 is.is.belong in
    (x.0, x.1, same_some c.in-Some.entry (option_map (with_base base) (find (slice_cmp nat_cmp) c.args.key.now x.0)) (c.in-Some.ensures x.0 body sums)))

pub told_entries-requires-clause-long : goal.told_entries-requires-clause-long
told_entries-requires-clause-long g c = λ mark got. ap (λ (xs : List ℕ). length xs) c.deref-all.ensures.value ∙ c.in-Ok.ensures.long mark got

pub find_place-requires : goal.find_place-requires
find_place-requires g c =
    ap (sums_fit c.args.base) c.deref.ensures.value
    ∙ belong_sums (length c.args.footer.now.buckets) c.args.b c.args.base c.in-Ok-told_entries.entries.items c.in-Ok-told_entries.ensures.entries.is.belong

pub returns-clause-entry : goal.returns-clause-entry
returns-clause-entry g c = λ file told mark got.
    let es = c.in-Ok-told_entries.entries.items in (
      es,
      subst (λ (bs : List ℕ). IsTheBucket (length c.args.footer.now.buckets) c.args.b c.args.base bs es) (c.deref-all.ensures.value ∙ c.in-Ok.ensures.bytes file told mark got) c.in-Ok-told_entries.ensures.entries,
      c.find_place.ensures ∙ ap (λ (xs : List Pair). option_map (with_base c.args.base) (find (slice_cmp nat_cmp) c.args.key.now xs)) c.deref.ensures.value,
    )

pub returns-in-Err-told_entries-clause-damaged : goal.returns-in-Err-told_entries-clause-damaged
returns-in-Err-told_entries-clause-damaged g c =
    read_damage c.in-Err-told_entries.fault c.args.base c.args.number c.args.b c.args.footer.now (g.R.SealedReader.view c.args.reader.now) c.deref-all.result.now
    (λ file told mark got. c.deref-all.ensures.value ∙ c.in-Ok.ensures.bytes file told mark got) c.in-Err-told_entries.ensures.damaged

pub returns-in-Err-told_entries-clause-reading : goal.returns-in-Err-told_entries-clause-reading
returns-in-Err-told_entries-clause-reading g c = failed_after _ _ c.in-Err-told_entries.fault c.in-Ok.ensures.reading c.in-Err-told_entries.ensures.unfailed
