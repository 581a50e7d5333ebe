-- One block was read: what is the same then, what is counted, and what is taken of it.
use Rattle.std.proofs.Common.{◌≡◌, ◌≢◌, ap, sym, subst, ◌∙◌, ℕ, ◌/◌, ◌<◌, List, [], ◌∷◌, ◌++◌, length, Some, IfSome, slice_get}
use Rattle.std.specs.Prelude.{Err, IfErr, IsErrOf, Ok, Result}
use Rattle.dev_traits.specs.declared.faults.Damaged.{Damaged}
use Rattle.dev_traits.specs.declared.faults.ReadFault.{ReadFault}
use Rattle.dev_traits.specs.declared.faults.ReadFault.TheVariants as read
use Rattle.pk_values.specs.Schemas.{Layout}
use Rattle.pk_values.specs.declared.cells.Value.{Value}
use Rattle.segment_read.specs.Reads.{OnDamage, Reading}
use Rattle.snapshot_scan.specs.Parts.{AreWrittenIn, IsBlockOf, PartView}
use Rattle.snapshot_scan.specs.Snapshots.{ReadsPart, SnapshotView, fault_count}
use Rattle.partial_loads.specs.declared.folds.Folded.{Folded}
use Rattle.old_rows.specs.PartsByFile.{IsPartOfFile}
use Rattle.old_rows.specs.Reading.{AreFilled, HaveKeys, IsReadingDamage, Olds, ReadBlocks, ReadsCause, SameButCounts, still}
use Rattle.old_rows.specs.Taking.{FillsMore, MayMiss}
use Rattle.old_rows.specs.Wanted.{InOneBlock, block_of}
use Rattle.old_rows.specs.declared.wanted.Wanted.{Wanted}
use Rattle.old_rows.proofs.ReadingFacts.{fills, first_place, misses, part-there, some-part}
use Rattle.old_rows.proofs.StillFacts.{ReadOnce, blocks-read, counted-once, err_same, none-counted, ok_err, part-before, read-once, same-read}

some_same : {X : Type 0} (x y : X) → Some x ≡ Some y → x ≡ y
some_same x y e = cc

module _ {T : Type 0} (v w : SnapshotView) (i : ℕ) (result : Result T ReadFault) (version : w.version ≡ v.version) (schema : w.schema ≡ v.schema)
    (reads : ReadsPart i v.parts w.parts (λ part reader. Reading 1 part.reader reader result)) where
  once : ReadOnce reads.part.reader reads.reader
  once = read-once reads.part.reader reads.reader result reads.how

  pub one-same : SameButCounts v w
  one-same = same-read v w i reads.part reads.reader version schema reads.there reads.now once.same

  pub one-cause : ReadsCause (fault_count v.parts) (fault_count w.parts) result
  one-cause =
      subst (λ ps. ReadsCause (fault_count v.parts) (fault_count ps) result) (sym reads.now)
      (counted-once v.parts i reads.part reads.reader result reads.there reads.how)

  pub one-block : (wanted : List Wanted) → IsPartOfFile v.parts (first_place wanted).segment i
      → (u : Wanted) (us : List Wanted) → wanted ≡ u ∷ us → ReadBlocks (block_of u.place ∷ []) v.parts w.parts
  one-block wanted is u us e =
      subst (λ ws. ReadBlocks (block_of (first_place ws) ∷ []) v.parts w.parts) e
      (subst (ReadBlocks (block_of (first_place wanted) ∷ []) v.parts) (sym reads.now)
      (blocks-read v.parts i ((first_place wanted).row / 1024) reads.part reads.reader (first_place wanted).segment reads.there number once.most))
    where
      number : reads.part.number ≡ (first_place wanted).segment
      number = ap (λ (p : PartView). p.number) (some_same reads.part is.part (sym reads.there ∙ is.there)) ∙ is.number

-- ---- what counts nothing

unfailed-so : {U : Type 0} (result : Result U ReadFault) → IfErr result (λ e. e ≢ read.StoreFault) → ¬ IsErrOf result read.StoreFault
unfailed-so (Ok x) h e = ok_err e
unfailed-so (Err e) h is = h (err_same e read.StoreFault is)

pub cause-after : {T U : Type 0} (old new : ℕ) (first : Result T ReadFault) (x : T) (result : Result U ReadFault) → first ≡ Ok x → ReadsCause old new first
    → IfErr result (λ e. e ≢ read.StoreFault) → ReadsCause old new result
cause-after old new first x result is cause unfailed =
    let same : new ≡ old = cause.well (λ e. ok_err (sym is ∙ e)) in
    subst (λ n. ReadsCause old n result) (sym same) (none-counted old result (unfailed-so result unfailed))

pub cause-err : {T U : Type 0} (old new : ℕ) (first : Result T ReadFault) (e : ReadFault) (result : Result U ReadFault) → first ≡ Err e → result ≡ Err e
    → ReadsCause old new first → ReadsCause old new result
cause-err old new first e result is so cause = record {
  well = λ n. cause.well (λ h. n (so ∙ ap (λ (x : ReadFault). Err x) (err_same e read.StoreFault (sym is ∙ h))));
  failed = λ h. cause.failed (is ∙ ap (λ (x : ReadFault). Err x) (err_same e read.StoreFault (sym so ∙ h)));
}

damaged_failed : (d : Damaged) → read.Damaged d ≡ read.StoreFault → ⊥
damaged_failed d e = cc

pub astray-counts : {U : Type 0} (count : ℕ) (d : Damaged) (e : ReadFault) (result : Result U ReadFault) → e ≡ read.Damaged d → result ≡ Err e → ReadsCause count count result
astray-counts count d e result is so = none-counted count result (λ h. damaged_failed d (sym is ∙ err_same e read.StoreFault (sym so ∙ h)))

-- ---- the part as it is then

module _ (v w : SnapshotView) (same : SameButCounts v w) (file i : ℕ) (is : IsPartOfFile v.parts file i) where
  now-part : (now : PartView) × (slice_get w.parts i ≡ Some now) × (still now ≡ still is.part)
  now-part = part-before w.parts v.parts i is.part (sym same.parts) is.there

  pub now-there : i < length w.parts
  now-there = part-there w.parts file i (record { part = now-part.0; there = now-part.1; number = ap (λ (p : PartView). p.number) now-part.2 ∙ is.number })

  pub dead-is : (dead : List ℕ) → IfSome (slice_get w.parts i) (λ part. dead ≡ part.dead) → dead ≡ is.part.dead
  dead-is dead h = subst (λ o. IfSome o (λ (p : PartView). dead ≡ p.dead)) now-part.1 h ∙ ap (λ (p : PartView). p.dead) now-part.2

module _ (v w : SnapshotView) (keys : List Folded) (wanted : List Wanted) (some : 0 < length wanted) (have : HaveKeys keys wanted) (one : InOneBlock wanted)
    (i : ℕ) (is : IsPartOfFile v.parts (first_place wanted).segment i) (same : SameButCounts v w) (rows : List (List Value))
    (are : IfSome (slice_get v.parts i) (λ part. AreWrittenIn v.schema part ((first_place wanted).row / 1024) rows))
    (bytes : IfSome (slice_get v.parts i) (λ part. IsBlockOf v.schema part ((first_place wanted).row / 1024) rows))
    (inside : IfSome (slice_get v.parts i) (λ part. (first_place wanted).row / 1024 < length part.footer.blocks))
    (s : Layout) (s_is : s ≡ w.schema) (taken : List (List Value)) (taken_is : taken ≡ rows) (dead : List ℕ) (dead_is : IfSome (slice_get w.parts i) (λ part. dead ≡ part.dead)) where
  schema-is : s ≡ v.schema
  schema-is = s_is ∙ same.schema

  dead-same : dead ≡ is.part.dead
  dead-same = dead-is v w same (first_place wanted).segment i is dead dead_is

  are-in : AreWrittenIn v.schema is.part ((first_place wanted).row / 1024) rows
  are-in = some-part v.parts (first_place wanted).segment i (λ part. AreWrittenIn v.schema part ((first_place wanted).row / 1024) rows) is are

  bytes-in : IsBlockOf v.schema is.part ((first_place wanted).row / 1024) rows
  bytes-in = some-part v.parts (first_place wanted).segment i (λ part. IsBlockOf v.schema part ((first_place wanted).row / 1024) rows) is bytes

  inside-in : (first_place wanted).row / 1024 < length is.part.footer.blocks
  inside-in = some-part v.parts (first_place wanted).segment i (λ part. (first_place wanted).row / 1024 < length part.footer.blocks) is inside

  pub block-fills : (old new : Olds) → FillsMore s taken dead keys wanted old new → (done : List Wanted) → AreFilled v keys done old → AreFilled v keys (done ++ wanted) new
  block-fills old new more =
      fills v keys wanted some have one i is rows are-in bytes-in inside-in old new
      (subst (λ x. FillsMore x rows is.part.dead keys wanted old new) schema-is (subst (λ d. FillsMore s rows d keys wanted old new) dead-same (subst (λ rs. FillsMore s rs dead keys wanted old new) taken_is more)))

  pub block-misses : (e : ReadFault) → MayMiss s taken dead keys wanted e → OnDamage e (IsReadingDamage v keys wanted)
  block-misses e may =
      misses v keys wanted some have one i is rows are-in bytes-in inside-in e
      (subst (λ x. MayMiss x rows is.part.dead keys wanted e) schema-is (subst (λ d. MayMiss s rows d keys wanted e) dead-same (subst (λ rs. MayMiss s rs dead keys wanted e) taken_is may)))
