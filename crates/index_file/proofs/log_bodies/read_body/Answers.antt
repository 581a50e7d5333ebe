use Rattle.std.proofs.Common.{◌-◌, subst, sym, ◌∙◌, List, IfNone, IfSome, length, take, drop, T}
use Rattle.std.specs.FinMap.{is_sorted}
use Rattle.std.specs.Cmp.Lexicographic.{slice_cmp}
use Rattle.std.specs.Ordering.{nat_cmp}
use Rattle.index_file.specs.Buckets.{Pair}
use Rattle.index_file.specs.Reading.{AreEntries}
use Rattle.index_file.proofs.SequenceFacts.{body_has, no_room, same_entries}
use Rattle.index_file.proofs.log_bodies.read_body.Goals as goal

pub returns-then-bytes-lt12-clause-none : goal.returns-then-bytes-lt12-clause-none
returns-then-bytes-lt12-clause-none c = no_room c.args.bytes.now c.if-bytes-lt12.true

pub returns-else-keys_rise-clause-none : goal.returns-else-keys_rise-clause-none
returns-else-keys_rise-clause-none c edit es is =
    let bytes = c.args.bytes.now in
    let a = c.in-Some-Some.ensures.some in
    let b = c.in-Some-Some.ensures'.some in
    let count = c.in-Some-Some.count in
    let has = body_has bytes c.in-Some-Some.edit count a.0 a.2 b.0 b.2 edit es is in
    let read : AreEntries count (take (length bytes - 12) (drop 12 bytes)) c.in-Some.changes.items =
    subst (λ o. IfSome o (λ v. AreEntries count (take (length bytes - 12) (drop 12 bytes)) v.items)) c.in-Some.is c.in_ok-changes-in-Some-Some.ensures.some in
    let same = same_entries count (take (length bytes - 12) (drop 12 bytes)) es c.in-Some.changes.items has read in
    let rise : T (is_sorted (slice_cmp nat_cmp) c.deref.result.now) = subst (λ xs. T (is_sorted (slice_cmp nat_cmp) xs)) (same ∙ sym c.deref.ensures.value) is.rise in
    subst T (sym c.if-keys_rise.ensures) rise

pub returns-in-None-clause-none : goal.returns-in-None-clause-none
returns-in-None-clause-none c edit es is =
    let bytes = c.args.bytes.now in
    let a = c.in-Some-Some.ensures.some in
    let b = c.in-Some-Some.ensures'.some in
    let count = c.in-Some-Some.count in
    subst (λ o. IfNone o ((es : List Pair) → AreEntries count (take (length bytes - 12) (drop 12 bytes)) es → ⊥)) c.in-None.is c.in_ok-changes-in-Some-Some.ensures.none
    es (body_has bytes c.in-Some-Some.edit count a.0 a.2 b.0 b.2 edit es is)
