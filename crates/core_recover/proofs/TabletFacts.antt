-- What reading a store answers, by what stands there.
use Rattle.std.proofs.Common.{◌≡◌, ◌⊎◌, inl, inr, refl, ap, sym, subst, ◌∙◌, ℕ, List, [], ◌∷◌, map, Option, Some, None, Result, Ok, Err, IfOk, IfErr, OnOk, IsErrOf, Bool, IsTrue, ◌+◌, ◌-◌, ◌^◌, min, arith}
use Rattle.std.specs.FinMap.{empty}
use Rattle.std.specs.List.{AllByRecursion}
use Rattle.pk_values.specs.Schemas.{Layout}
use Rattle.dev_traits.specs.Causes.{Counts, HasCauseOf, HasReadCause}
use Rattle.dev_traits.specs.Image.{Image, file}
use Rattle.dev_traits.specs.View.{View, Calm, Told}
use Rattle.dev_traits.specs.declared.faults.Damaged.{Damaged}
use Rattle.dev_traits.specs.declared.faults.ReadFault.{ReadFault}
use Rattle.dev_traits.specs.declared.faults.ReadFault.TheVariants as read
use Rattle.pk_model.specs.declared.books.Book.{Book}
use Rattle.rowsets.specs.Live.{Files}
use Rattle.rowsets.specs.Marks.{Rises}
use Rattle.rowsets.specs.Indexing.{CodeMap}
use Rattle.journal_form.specs.declared.records.NewFile.{NewFile}
use Rattle.journal_form.specs.declared.records.ListedFile.{ListedFile}
use Rattle.journal_form.specs.Meaning.{Standing}
use Rattle.journal_form.specs.Versions.{files_of}
use Rattle.journal_form.proofs.Parts.{some_is}
use Rattle.gated_log.specs.Log.{IsSettled}
use Rattle.segment_read.specs.Reads.{OnDamage}
use Rattle.version_journal.specs.Images.{HasNoRecord, IsSaid, Says}
use Rattle.version_journal.specs.Journals.{ReadsAs}
use Rattle.version_journal.specs.Reading.{IsDamagedIn, damage_of}
use Rattle.version_journal.specs.declared.fault.JournalFault.{JournalFault}
use Rattle.version_journal.specs.declared.fault.JournalFault.TheVariants as journal
use Rattle.version_journal.specs.declared.journals.Journal.{Journal}
use Rattle.version_journal.proofs.ReadImages.{damaged_says_nothing, says_one}
use Rattle.tablet_state.specs.Stands.{AreSegments, IsSegment, Stands, part_of, told_file}
use Rattle.tablet_state.specs.State.{AreReadAs, IsInHand, IsReadAs, SameSegments, SegmentView, footers_of, reader_faults}
use Rattle.core_recover.specs.Faults.{of_journal, of_read}
use Rattle.core_recover.specs.Indexing.{HasNoIndex, HasReaderCause, Indexes, ReadsRows, numbers_in}
use Rattle.core_recover.specs.Naming.{IsAmong}
use Rattle.core_recover.specs.Opening.{IsWant}
use Rattle.core_recover.specs.Reading.{AreFiles, HasFiles, IsIndexed, IsReadOf, IsReading, ReadsFiles, named}
use Rattle.core_recover.specs.Replaying.{IsReplayed}
use Rattle.core_recover.specs.declared.faults.OpenFault.{OpenFault}
use Rattle.core_recover.specs.declared.faults.OpenFault.TheVariants as fault
use Rattle.core_recover.specs.declared.replaying.Replayed.{Replayed}
use Rattle.core_recover.proofs.IndexingFacts.{OneByOne, all_read_same, attached_same, numbers_same, one_by_one, read_as_same}
use Rattle.core_recover.proofs.ReadingFacts.{current_files}

-- ---- faults

pub want_journal : (f : JournalFault) → (f ≡ journal.Empty → ⊥) → ((d : Damaged) → f ≡ journal.Damaged d → ⊥) → IsWant (of_journal f)
want_journal journal.Empty none whole = none refl
want_journal (journal.Damaged d) none whole = whole d refl
want_journal journal.StoreFault none whole = tt
want_journal journal.Memory none whole = tt

pub empty_journal : (f : JournalFault) → ((d : Damaged) → f ≡ journal.Damaged d → ⊥) → (of_journal f ≡ fault.Empty) ⊎ IsWant (of_journal f)
empty_journal journal.Empty whole = inl refl
empty_journal (journal.Damaged d) whole = absurd (whole d refl)
empty_journal journal.StoreFault whole = inr tt
empty_journal journal.Memory whole = inr tt

pub want_read : (e : ReadFault) → OnDamage e (λ d. ⊥) → IsWant (of_read e)
want_read read.StoreFault h = tt
want_read (read.Damaged d) h = h
want_read read.Memory h = tt

pub never_empty : (e : ReadFault) → of_read e ≡ fault.Empty → ⊥
never_empty read.StoreFault h = cc
never_empty (read.Damaged d) h = cc
never_empty read.Memory h = cc

pub failed_read : (e : ReadFault) → of_read e ≡ fault.StoreFault → e ≡ read.StoreFault
failed_read read.StoreFault h = refl
failed_read (read.Damaged d) h = cc
failed_read read.Memory h = cc

pub failed_journal : (f : JournalFault) → of_journal f ≡ fault.StoreFault → f ≡ journal.StoreFault
failed_journal journal.Empty h = cc
failed_journal (journal.Damaged d) h = cc
failed_journal journal.StoreFault h = refl
failed_journal journal.Memory h = cc

pub emptied_journal : (f : JournalFault) → of_journal f ≡ fault.Empty → f ≡ journal.Empty
emptied_journal journal.Empty h = refl
emptied_journal (journal.Damaged d) h = cc
emptied_journal journal.StoreFault h = cc
emptied_journal journal.Memory h = cc

err_inner : {T E : Type 0} (x y : E) → ◌≡◌ {A = Result T E} (Err x) (Err y) → x ≡ y
err_inner {T} {E} x y e = cc

pub err_over : {T U E : Type 0} (x y : E) → ◌≡◌ {A = Result T E} (Err x) (Err y) → ◌≡◌ {A = Result U E} (Err x) (Err y)
err_over x y is = ap Err (err_inner x y is)

pub no_err : {T E : Type 0} (x : T) (e : E) → Ok x ≡ Err e → ⊥
no_err x e is = cc

-- a fault of reading, as one of opening
pub cause_read : {T U : Type 0} (before now : ℕ) (e : ReadFault) → HasReadCause {T = T} before now (Err e) → HasCauseOf {T = U} fault.StoreFault before now (Err (of_read e))
cause_read before now e cause = record {
  well = λ not. cause.well (λ is. not (ap Err (ap of_read (err_inner e read.StoreFault is))));
  failed = λ is. cause.failed (ap Err (failed_read e (err_inner (of_read e) fault.StoreFault is)));
}

pub cause_journal : {T U : Type 0} (before now : ℕ) (f : JournalFault) → HasCauseOf {T = T} journal.StoreFault before now (Err f) → HasCauseOf {T = U} fault.StoreFault before now (Err (of_journal f))
cause_journal before now f cause = record {
  well = λ not. cause.well (λ is. not (ap Err (ap of_journal (err_inner f journal.StoreFault is))));
  failed = λ is. cause.failed (ap Err (failed_journal f (err_inner (of_journal f) fault.StoreFault is)));
}

-- ---- the journal that was read

pub one_standing : (image : Image) (m : Standing) (journal_ : Journal) (s : Layout) (b : Book) (stands : Stands s b image) → ReadsAs journal_ (Some m) image → m ≡ stands.standing
one_standing image m journal_ s b stands reads = some_is m stands.standing (says_one image (Some m) (Some stands.standing) reads.says stands.meant)

pub some_record : (image : Image) (m : Standing) → IsSaid image m → HasNoRecord image → ⊥
some_record image m said none = apart (says_one image None (Some m) none said)
  where
    apart : None ≡ Some m → ⊥
    apart e = cc

pub stands_undamaged : (a : ℕ) (image : Image) (s : Layout) (b : Book) → Stands s b image → IsDamagedIn a image → ⊥
stands_undamaged a image s b stands d = damaged_says_nothing a image (Some stands.standing) d stands.meant

pub none_undamaged : (a : ℕ) (image : Image) → HasNoRecord image → IsDamagedIn a image → ⊥
none_undamaged a image none d = damaged_says_nothing a image None d none

-- ---- the files and their rows

both_rows : (s : Layout) (stored : Files) (image : Image) (segs : List SegmentView) (fs : List ListedFile) → AllByRecursion (λ (f : ListedFile). IsSegment s (stored f.file) (told_file f) image) fs
    → AllByRecursion (λ (f : ListedFile). IsReadAs s stored segs (told_file f)) fs → AllByRecursion (ReadsRows s stored segs) fs
both_rows s stored image segs [] a b = tt
both_rows s stored image segs (f ∷ fs) a b = (record { lawful = a.0.lawful; read = b.0 }, both_rows s stored image segs fs a.1 b.1)

pub rows_read : (r : Replayed) (stored : Files) (image : Image) (segs : List SegmentView) → AreFiles r stored image → ReadsFiles r stored segs → AllByRecursion (ReadsRows r.schema stored segs) (files_of r.current)
rows_read r stored image segs are reads =
    both_rows r.schema stored image segs (files_of r.current) (current_files (λ (f : NewFile). IsSegment r.schema (stored f.file) f image) r are.segments) (current_files (λ (f : NewFile). IsReadAs r.schema stored segs f) r reads)

pub index_read : (r : Replayed) (stored : Files) (image : Image) (segs : List SegmentView) (codes : CodeMap) → AreFiles r stored image → ReadsFiles r stored segs → Indexes r.schema (files_of r.current) segs empty codes → IsIndexed r stored codes
index_read r stored image segs codes are reads indexes = indexes stored (rows_read r stored image segs are reads)

pub index_whole : (r : Replayed) (stored : Files) (image : Image) (segs : List SegmentView) → AreFiles r stored image → ReadsFiles r stored segs → HasNoIndex r.schema (files_of r.current) segs → ⊥
index_whole r stored image segs are reads against = against stored (rows_read r stored image segs are reads) are.short

pub index_named : (r : Replayed) (stored : Files) (image : Image) (segs : List SegmentView) (codes : CodeMap) → AreSegments r.schema stored (named r) image → ReadsFiles r stored segs → Indexes r.schema (files_of r.current) segs empty codes
    → IsIndexed r stored codes
index_named r stored image segs codes are reads indexes =
    indexes stored (both_rows r.schema stored image segs (files_of r.current) (current_files (λ (f : NewFile). IsSegment r.schema (stored f.file) f image) r are) (current_files (λ (f : NewFile). IsReadAs r.schema stored segs f) r reads))

reading_each : (image : Image) (old new : List SegmentView) → OneByOne old new → AllByRecursion (IsReading image) old → AllByRecursion (IsReading image) new
reading_each image [] [] same h = tt
reading_each image [] (y ∷ ys) same h = absurd same
reading_each image (x ∷ xs) [] same h = absurd same
reading_each image (x ∷ xs) (y ∷ ys) same h = (record { bytes = same.0.bytes ∙ h.0.bytes ∙ ap (file image) (sym same.0.number) }, reading_each image xs ys same.1 h.1)

pub reading_same : (image : Image) (old new : List SegmentView) → SameSegments old new → AllByRecursion (IsReading image) old → AllByRecursion (IsReading image) new
reading_same image old new same h = reading_each image old new (one_by_one old new same) h

reads_same : (s : Layout) (stored : Files) (old new : List SegmentView) (fs : List NewFile) → SameSegments old new → AreReadAs s stored old fs → AreReadAs s stored new fs
reads_same s stored old new [] same h = tt
reads_same s stored old new (f ∷ fs) same h = (read_as_same s stored old new f (one_by_one old new same) h.0, reads_same s stored old new fs same h.1)

pub files_read_same : (r : Replayed) (stored : Files) (old new : List SegmentView) → SameSegments old new → ReadsFiles r stored old → ReadsFiles r stored new
files_read_same r stored old new same reads = reads_same r.schema stored old new (named r) same reads

only_same : (fs : List NewFile) (old new : List SegmentView) → numbers_in new ≡ numbers_in old → AllByRecursion (λ (g : SegmentView). (rows : ℕ) × IsAmong fs g.number rows) old → AllByRecursion (λ (g : SegmentView). (rows : ℕ) × IsAmong fs g.number rows) new
only_same fs old new same h = back new (subst (AllByRecursion (λ (n : ℕ). (rows : ℕ) × IsAmong fs n rows)) (sym same) (forth old h))
  where
    forth : (gs : List SegmentView) → AllByRecursion (λ (g : SegmentView). (rows : ℕ) × IsAmong fs g.number rows) gs → AllByRecursion (λ (n : ℕ). (rows : ℕ) × IsAmong fs n rows) (numbers_in gs)
    forth [] h = tt
    forth (g ∷ gs) h = (h.0, forth gs h.1)

    back : (gs : List SegmentView) → AllByRecursion (λ (n : ℕ). (rows : ℕ) × IsAmong fs n rows) (numbers_in gs) → AllByRecursion (λ (g : SegmentView). (rows : ℕ) × IsAmong fs g.number rows) gs
    back [] h = tt
    back (g ∷ gs) h = (h.0, back gs h.1)

pub files_same : (r : Replayed) (old new : List SegmentView) → SameSegments old new → reader_faults new ≡ 0 → HasFiles r old → HasFiles r new
files_same r old new same unfailed has =
    let numbers : numbers_in new ≡ numbers_in old = numbers_same old new same.footers in
    record {
      schema = has.schema;
      few = has.few;
      in_hand = subst (λ fs. AllByRecursion (IsInHand fs) (named r)) (sym same.footers) has.in_hand;
      rise = subst Rises (sym numbers) has.rise;
      attached = attached_same r.schema old new (one_by_one old new same) has.attached;
      only = only_same (named r) old new numbers has.only;
      unfailed = unfailed;
    }

-- ---- readers that went back

pub cause_memory : {T U : Type 0} (old mid new k : ℕ) (x : T) → HasReadCause old mid (Ok x) → Counts k mid new → k ≡ 0 → HasCauseOf {T = U} fault.StoreFault old new (Err fault.Memory)
cause_memory old mid new k x cause counts none =
    let same = cause.well (λ is. no_err x read.StoreFault is) in
    record { well = λ not. omega arith; failed = λ is. absurd (apart (err_inner fault.Memory fault.StoreFault is)) }
  where
    apart : fault.Memory ≡ fault.StoreFault → ⊥
    apart e = cc

pub cause_given_back : {T U : Type 0} (old mid new k : ℕ) (e : ReadFault) → mid ≡ old → HasReadCause {T = T} 0 k (Err e) → Counts k mid new → HasCauseOf {T = U} fault.StoreFault old new (Err (of_read e))
cause_given_back old mid new k e same cause counts = record {
  well = λ not. let none = cause.well (λ is. not (ap Err (ap of_read (err_inner e read.StoreFault is)))) in omega arith;
  failed = λ is. let one = cause.failed (ap Err (failed_read e (err_inner (of_read e) fault.StoreFault is))) in omega arith;
}

pub well_opened : {T : Type 0} (old new : ℕ) (x : T) → HasCauseOf {E = OpenFault} fault.StoreFault old new (Ok x) → new ≡ old
well_opened old new x cause = cause.well (λ is. no_err x fault.StoreFault is)

pub settled_calm : (u v : View) (area end : ℕ) (bodies : List (List ℕ)) → Calm u v → IsSettled area bodies end u → IsSettled area bodies end v
settled_calm u v area end bodies calm settled = record {
  honest = subst (λ (b : Bool). IsTrue b) (sym calm.honest) settled.honest;
  each = λ left may. settled.each left ((calm.now left).0 may);
}
