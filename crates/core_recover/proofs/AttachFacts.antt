-- Files that are attached by what versions name.
use Rattle.std.proofs.Common.{◌≡◌, ◌≢◌, ◌⊎◌, inl, inr, refl, ap, sym, subst, ◌∙◌, ℕ, zero, suc, ◌+◌, ◌<◌, ◌≤◌, List, [], ◌∷◌, ◌++◌, map, length, Option, Some, None, IsTrue, Bool, true, false, ◌==◌, slice_get, if◌then◌else◌, arith}
use Rattle.std.specs.List.{AllByRecursion}
use Rattle.pk_values.specs.Schemas.{Layout, schema_fault}
use Rattle.pk_values.specs.declared.cells.Value.{Value}
use Rattle.column_page.specs.Footers.{is_footer}
use Rattle.column_page.specs.declared.footers.Footer.{Footer}
use Rattle.dev_traits.specs.Image.{Image, file}
use Rattle.dev_traits.specs.Reader.{ReaderView}
use Rattle.dev_traits.specs.View.{View, Told}
use Rattle.segment_form.specs.Segments.{footer_of, segment_file}
use Rattle.segment_read.specs.declared.segments.Segment.{Segment}
use Rattle.rowsets.specs.Live.{Files}
use Rattle.rowsets.specs.Marks.{Rises}
use Rattle.journal_form.specs.declared.records.NewFile.{NewFile}
use Rattle.journal_form.specs.declared.records.ListedFile.{ListedFile}
use Rattle.store_files.specs.Named.{AreAttached, AreStored, IsStored, faults_in}
use Rattle.store_files.specs.Named as stored_files
use Rattle.store_files.specs.declared.attaching.NamedFile.{NamedFile}
use Rattle.tablet_state.specs.Seen.{segment_seen, segments_of}
use Rattle.tablet_state.specs.Stands.{AreSegments, IsSegment, told_file}
use Rattle.tablet_state.specs.State.{AreReadAs, HasFewFiles, IsAttached, IsInHand, IsReadAs, SegmentView, footer_at, footers_of, reader_faults, segment_of}
use Rattle.core_recover.specs.declared.replaying.Replayed.{Replayed}
use Rattle.core_recover.specs.Indexing.{ReadsRows, numbers_in}
use Rattle.core_recover.specs.Naming.{AreNamed, Clash, IsAmong, IsListed}
use Rattle.core_recover.specs.Reading.{HasFiles, named, versions_of}
use Rattle.core_recover.proofs.FindingFacts.{rises_tail, segment_is}

some_one : {X : Type 0} (x y : X) → Some x ≡ Some y → x ≡ y
some_one x y e = cc

-- what holds of all holds of one
pub all_one : {X : Type 0} (P : X → Type 0) (xs : List X) (i : ℕ) (x : X) → AllByRecursion P xs → slice_get xs i ≡ Some x → P x
all_one P [] i x h is = absurd (cc is)
all_one P (y ∷ xs) zero x h is = subst P (some_one y x is) h.0
all_one P (y ∷ xs) (suc i) x h is = all_one P xs i x h.1 is

all_to : {X : Type 0} (P Q : X → Type 0) (xs : List X) → ((x : X) → P x → Q x) → AllByRecursion P xs → AllByRecursion Q xs
all_to P Q [] f h = tt
all_to P Q (x ∷ xs) f h = (f x h.0, all_to P Q xs f h.1)

pub footer_found : (gs : List SegmentView) (n : ℕ) (g : SegmentView) → segment_of gs n ≡ Some g → footer_at (footers_of gs) n ≡ Some g.footer
footer_found [] n g is = absurd (cc is)
footer_found (h ∷ gs) n g is = go (h.number == n) is (footer_found gs n g)
  where
    go : (b : Bool) → (if b then Some h else segment_of gs n) ≡ Some g → (segment_of gs n ≡ Some g → footer_at (footers_of gs) n ≡ Some g.footer) → (if b then Some h.footer else footer_at (footers_of gs) n) ≡ Some g.footer
    go true e more = ap (λ (x : SegmentView). Some x.footer) (some_one h g e)
    go false e more = more e

is_stored : (s : Layout) (stored : Files) (x : NamedFile) (image : Image) → IsSegment s (stored x.number) (record { file = x.number; rows = x.rows }) image → IsStored s x (stored x.number) image
is_stored s stored x image is = record { bytes = segment_file s (stored x.number); there = is.spelled; is = record { are = is.lawful; file_is = refl }; counted = is.counted }

-- two numbers of rows for one file: it isn't a segment of both
pub no_clash : (s : Layout) (stored : Files) (fs : List NewFile) (image : Image) → AreSegments s stored fs image → Clash fs → ⊥
no_clash s stored fs image are c =
    let one = all_one (λ (f : NewFile). IsSegment s (stored f.file) f image) fs c.one.0 (record { file = c.number; rows = c.first }) are c.one.1 in
    let other = all_one (λ (f : NewFile). IsSegment s (stored f.file) f image) fs c.other.0 (record { file = c.number; rows = c.second }) are c.other.1 in
    c.apart (sym one.counted ∙ other.counted)

pub all_stored : (s : Layout) (stored : Files) (fs : List NewFile) (files : List NamedFile) (image : Image) → AreSegments s stored fs image → AllByRecursion (λ (x : NamedFile). IsAmong fs x.number x.rows) files → AreStored s stored files image
all_stored s stored fs files image are only =
    all_to (λ (x : NamedFile). IsAmong fs x.number x.rows) (λ (x : NamedFile). IsStored s x (stored x.number) image) files
    (λ x among. is_stored s stored x image (all_one (λ (f : NewFile). IsSegment s (stored f.file) f image) fs among.0 (record { file = x.number; rows = x.rows }) are among.1)) only

module _ {R : Type 0} (view : R → ReaderView) (s : Layout) (v : View) where
  abbrev seen : List (Segment R) → List SegmentView
  seen = segments_of view

  pub numbers_are : (files : List NamedFile) (segs : List (Segment R)) → AreAttached view s v files segs → numbers_in (seen segs) ≡ map (λ (x : NamedFile). x.number) files
  numbers_are [] [] are = refl
  numbers_are [] (g ∷ segs) are = absurd are
  numbers_are (x ∷ files) [] are = absurd are
  numbers_are (x ∷ files) (g ∷ segs) are = λ i. are.0.number i ∷ numbers_are files segs are.1 i

  pub attached_one : (files : List NamedFile) (segs : List (Segment R)) (i : ℕ) (x : NamedFile) → AreAttached view s v files segs → slice_get files i ≡ Some x → (g : Segment R) × ((slice_get segs i ≡ Some g) × stored_files.IsAttached view s v x g)
  attached_one [] [] i x are is = absurd (cc is)
  attached_one [] (g ∷ segs) i x are is = absurd are
  attached_one (y ∷ files) [] i x are is = absurd are
  attached_one (y ∷ files) (g ∷ segs) zero x are is = (g, (refl, subst (λ (z : NamedFile). stored_files.IsAttached view s v z g) (some_one y x is) are.0))
  attached_one (y ∷ files) (g ∷ segs) (suc i) x are is = attached_one files segs i x are.1 is

  -- the segment of a named file
  segment_named : (files : List NamedFile) (segs : List (Segment R)) (f : NewFile) → AreAttached view s v files segs → Rises (numbers_in (seen segs)) → IsListed files f
      → (g : Segment R) × ((segment_of (seen segs) f.file ≡ Some (segment_seen view g)) × stored_files.IsAttached view s v (record { number = f.file; rows = f.rows }) g)
  segment_named files segs f are rise (i, at) =
      let w = attached_one files segs i (record { number = f.file; rows = f.rows }) are at in
      (w.0, (ap (segment_of (seen segs)) (sym w.1.1.number) ∙ segment_is view segs i w.0 rise w.1.0, w.1.1))

  in_hand : (files : List NamedFile) (segs : List (Segment R)) (fs : List NewFile) → AreAttached view s v files segs → Rises (numbers_in (seen segs)) → AllByRecursion (IsListed files) fs → AllByRecursion (IsInHand (footers_of (seen segs))) fs
  in_hand files segs fs are rise has =
      all_to (IsListed files) (IsInHand (footers_of (seen segs))) fs
      (λ f at. let w = segment_named files segs f are rise at in record { footer = w.0.footer; there = footer_found (seen segs) f.file (segment_seen view w.0) w.1.0; rows = w.1.1.counted }) has

  all_attached : (files : List NamedFile) (segs : List (Segment R)) → AreAttached view s v files segs → AllByRecursion (λ (g : Segment R). IsTrue (is_footer g.footer)) segs → AllByRecursion (IsAttached s) (seen segs)
  all_attached [] [] are known = tt
  all_attached [] (g ∷ segs) are known = absurd are
  all_attached (x ∷ files) [] are known = absurd are
  all_attached (x ∷ files) (g ∷ segs) are known = (record { is = known.0; known = are.0.footer }, all_attached files segs are.1 known.1)

  all_among : (fs : List NewFile) (files : List NamedFile) (segs : List (Segment R)) → AreAttached view s v files segs → AllByRecursion (λ (x : NamedFile). IsAmong fs x.number x.rows) files
      → AllByRecursion (λ (g : SegmentView). (rows : ℕ) × IsAmong fs g.number rows) (seen segs)
  all_among fs [] [] are only = tt
  all_among fs [] (g ∷ segs) are only = absurd are
  all_among fs (x ∷ files) [] are only = absurd are
  all_among fs (x ∷ files) (g ∷ segs) are only = ((x.rows, subst (λ (n : ℕ). IsAmong fs n x.rows) (sym are.0.number) only.0), all_among fs files segs are.1 only.1)

  none_failed : (files : List NamedFile) (segs : List (Segment R)) → AreAttached view s v files segs → reader_faults (seen segs) ≡ 0
  none_failed [] [] are = refl
  none_failed [] (g ∷ segs) are = absurd are
  none_failed (x ∷ files) [] are = absurd are
  none_failed (x ∷ files) (g ∷ segs) are = let one = are.0.unfailed in let more = none_failed files segs are.1 in omega arith

  pub has_files : (r : Replayed) (files : List NamedFile) (segs : List (Segment R)) → r.schema ≡ s → schema_fault r.schema.columns r.schema.keys ≡ None → AllByRecursion HasFewFiles (versions_of r) → AreNamed (named r) files → AreAttached view s v files segs
      → AllByRecursion (λ (g : Segment R). IsTrue (is_footer g.footer)) segs → HasFiles r (seen segs)
  has_files r files segs same good few are attached known =
      let rise : Rises (numbers_in (seen segs)) = subst Rises (sym (numbers_are files segs attached)) are.rise in
      record {
        schema = good;
        few = few;
        in_hand = in_hand files segs (named r) attached rise are.has;
        rise = rise;
        attached = subst (λ (x : Layout). AllByRecursion (IsAttached x) (seen segs)) (sym same) (all_attached files segs attached known);
        only = all_among (named r) files segs attached are.only;
        unfailed = none_failed files segs attached;
      }

  pub reads_files : (stored : Files) (fs : List NewFile) (files : List NamedFile) (segs : List (Segment R)) (image : Image) → v.seen ≡ Some image → AreSegments s stored fs image → AreNamed fs files → AreAttached view s v files segs
      → AreReadAs s stored (seen segs) fs
  reads_files stored fs files segs image told are by attached =
      let rise : Rises (numbers_in (seen segs)) = subst Rises (sym (numbers_are files segs attached)) by.rise in
      both fs are by.has rise
    where
      one : (f : NewFile) → IsSegment s (stored f.file) f image → IsListed files f → Rises (numbers_in (seen segs)) → IsReadAs s stored (seen segs) f
      one f is at rise =
          let w = segment_named files segs f attached rise at in
          let segment = w.1.1.stands image told (stored f.file) (is_stored s stored (record { number = f.file; rows = f.rows }) image is) in
          record { segment = segment_seen view w.0; there = w.1.0; bytes = w.1.1.bytes image told ∙ is.spelled; footer = segment.footer_is }

      both : (gs : List NewFile) → AllByRecursion (λ (f : NewFile). IsSegment s (stored f.file) f image) gs → AllByRecursion (IsListed files) gs → Rises (numbers_in (seen segs)) → AreReadAs s stored (seen segs) gs
      both [] a b rise = tt
      both (f ∷ gs) a b rise = (one f a.0 b.0 rise, both gs a.1 b.1 rise)

-- faults are counted alike
pub faults_alike : {R : Type 0} (view : R → ReaderView) (segs : List (Segment R)) → faults_in view segs ≡ reader_faults (segments_of view segs)
faults_alike view [] = refl
faults_alike view (g ∷ segs) = ap (λ (n : ℕ). (view g.reader).faults + n) (faults_alike view segs)

pub numbers_seen : {R : Type 0} (view : R → ReaderView) (segs : List (Segment R)) → map (λ (g : Segment R). g.number) segs ≡ numbers_in (segments_of view segs)
numbers_seen view [] = refl
numbers_seen view (g ∷ segs) = ap (λ (ns : List ℕ). g.number ∷ ns) (numbers_seen view segs)
