-- The parts of a kept version can be a snapshot, and are one of the rows of the book's version.
use Rattle.std.proofs.Common.{◌≡◌, refl, ap, sym, subst, ◌∙◌, ℕ, zero, suc, ◌+◌, ◌*◌, ◌-◌, ◌^◌, ◌<◌, ◌≤◌, List, [], ◌∷◌, ◌++◌, length, length-append, map, slice_get, Option, Some, None, Bool, true, false, ◌&&◌, ◌==◌, nat_lt, nat_le, if◌then◌else◌, is_some, IfSome, IsSome, IsTrue, arith}
use Rattle.std.specs.List.{AllByRecursion, list_all}
use Rattle.std.specs.FinMap.{len}
use Rattle.std.proofs.lemmas.Bool.{and_parts, leb-true}
use Rattle.std.proofs.lemmas.List.Sums.{sum_by-cons}
use Rattle.column_page.specs.declared.footers.Footer.{Footer}
use Rattle.column_page.proofs.FooterParts.{footer_parts}
use Rattle.dev_traits.specs.Image.{Image}
use Rattle.dev_traits.specs.View.{View}
use Rattle.pk_values.specs.Schemas.{Layout}
use Rattle.pk_model.specs.declared.books.Book.{Book}
use Rattle.pk_model.specs.Books.{rows_at}
use Rattle.pk_model.specs.Tables.{Rows}
use Rattle.rowsets.specs.Live.{Part, Version as Rowsets, Files, parts_of}
use Rattle.rowsets.specs.Marks.{Rises}
use Rattle.rowsets.specs.Scans.{AreRowsOf, listed, live_rows, piece_of}
use Rattle.rowsets.specs.Books.{Held, HoldsBook}
use Rattle.rowsets.proofs.BookFacts.{kept_are_held}
use Rattle.rowsets.proofs.ScanFacts.{listed_are_counted, piece_is_counted, version_is_listed}
use Rattle.journal_form.specs.declared.records.NewFile.{NewFile}
use Rattle.journal_form.specs.declared.records.ListedFile.{ListedFile}
use Rattle.journal_form.specs.Versions.{Rowset as ListedRowset, all_below, bound, files_of, rise_from}
use Rattle.journal_form.specs.Meaning.{file_fits}
use Rattle.journal_form.proofs.GoodFiles.{AreGood}
use Rattle.journal_form.proofs.Numbers.{below_head, below_tail}
use Rattle.journal_form.proofs.Applied.{EachGood}
use Rattle.kept_versions.specs.Files.{alive}
use Rattle.snapshot_scan.specs.Parts.{IsPart, IsPieceOf, PartView}
use Rattle.snapshot_scan.specs.Snapshots.{AreParts, ArePieces, IsSnapshotOf}
use Rattle.tablet_state.specs.Contents.{Contents, all_rowsets, begun_of, index_of, standing_of, version_of, versions_of}
use Rattle.tablet_state.specs.Holding.{held}
use Rattle.tablet_state.specs.Snapshots.{ArePartsOf, IsKept, IsPartOf, rowsets_at}
use Rattle.tablet_state.specs.Stands.{IsSegment, files_in, part_of, rowsets_of, told_file}
use Rattle.tablet_state.specs.State.{Has, HasBook, HasFewFiles, HasOwn, IsAttached, IsInHand, IsReadAs, SegmentView, Shown, footer_at, footers_of, segment_of}
use Rattle.tablet_state.proofs.FileFacts.{all-first, all-last}
use Rattle.tablet_state.proofs.HoldFacts.{good_of}
use Rattle.tablet_state.proofs.Lending.{found_there, none_some, parts_long, some_one}
use Rattle.tablet_state.proofs.VersionFacts.{parts, parts_are}

-- ---- lists

all_at : {X : Type 0} (P : X → Type 0) (xs : List X) (i : ℕ) (x : X) → AllByRecursion P xs → slice_get xs i ≡ Some x → P x
all_at P [] i x h is = absurd (none_some x is)
all_at P (y ∷ xs) zero x h is = subst P (some_one y x is) h.0
all_at P (y ∷ xs) (suc i) x h is = all_at P xs i x h.1 is

mapped_get : {X Y : Type 0} (f : X → Y) (xs : List X) (i : ℕ) (x : X) → slice_get xs i ≡ Some x → slice_get (map f xs) i ≡ Some (f x)
mapped_get f [] i x is = absurd (none_some x is)
mapped_get f (y ∷ xs) zero x is = ap (λ z. Some (f z)) (some_one y x is)
mapped_get f (y ∷ xs) (suc i) x is = mapped_get f xs i x is

rises_from : (a : ℕ) (xs : List ℕ) → rise_from a xs ≡ true → Rises xs
rises_from a [] h = tt
rises_from a (x ∷ []) h = tt
rises_from a (x ∷ y ∷ xs) h =
    let p = and_parts (nat_le a x) (rise_from (x + 1) (y ∷ xs)) h in
    let q = and_parts (nat_le (x + 1) y) (rise_from (y + 1) xs) p.1 in
    let le = leb-true (x + 1) y q.0 in
    (omega arith, rises_from (x + 1) (y ∷ xs) p.1)

below_all : (n : ℕ) (xs : List ℕ) → all_below n xs ≡ true → AllByRecursion (λ r. r < n) xs
below_all n [] h = tt
below_all n (x ∷ xs) h = (below_head n x xs h, below_all n xs (below_tail n x xs h))

last_there : {X : Type 0} (xs : List X) (x : X) → slice_get (xs ++ x ∷ []) (length xs) ≡ Some x
last_there [] x = refl
last_there (y ∷ xs) x = last_there xs x

-- ---- what is known of a kept version's files

-- its dead rows rise, and it has them
pub record HasDead (f : ListedFile) : Type 0 where
  pub rise : Rises f.dead
  pub within : AllByRecursion (λ r. r < f.rows) f.dead

has_dead : (fs : List ListedFile) → list_all file_fits fs ≡ true → AllByRecursion HasDead fs
has_dead [] h = tt
has_dead (f ∷ fs) h =
    let p = and_parts (file_fits f) (list_all file_fits fs) h in
    let q = and_parts (nat_lt f.file bound) (rise_from 0 f.dead && all_below f.rows f.dead) p.0 in
    let r = and_parts (rise_from 0 f.dead) (all_below f.rows f.dead) q.1 in
    (record { rise = rises_from 0 f.dead r.0; within = below_all f.rows f.dead r.1 }, has_dead fs p.1)

good_at : (s : Layout) (next : ℕ) (ws : List (List ListedRowset)) (current : List ListedRowset) (i : ℕ) (rowsets : List ListedRowset) → EachGood next (map (version_of s) ws) → AreGood next (files_of current)
    → slice_get (ws ++ current ∷ []) i ≡ Some rowsets → AreGood next (files_of rowsets)
good_at s next [] current zero rowsets each last is = subst (λ (rs : List ListedRowset). AreGood next (files_of rs)) (some_one current rowsets is) last
good_at s next [] current (suc i) rowsets each last is = absurd (none_some rowsets is)
good_at s next (w ∷ ws) current zero rowsets each last is = subst (λ (rs : List ListedRowset). AreGood next (files_of rs)) (some_one w rowsets is) each.0
good_at s next (w ∷ ws) current (suc i) rowsets each last is = good_at s next ws current i rowsets each.1 last is

named_at : (P : NewFile → Type 0) (s : Layout) (ws : List (List ListedRowset)) (current : List ListedRowset) (i : ℕ) (rowsets : List ListedRowset)
    → AllByRecursion P (files_in (map (version_of s) ws ++ version_of s current ∷ [])) → slice_get (ws ++ current ∷ []) i ≡ Some rowsets → AllByRecursion P (map told_file (files_of rowsets))
named_at P s [] current zero rowsets h is =
    subst (λ (rs : List ListedRowset). AllByRecursion P (map told_file (files_of rs))) (some_one current rowsets is) (all-first P (map told_file (files_of current)) [] h)
named_at P s [] current (suc i) rowsets h is = absurd (none_some rowsets is)
named_at P s (w ∷ ws) current zero rowsets h is =
    subst (λ (rs : List ListedRowset). AllByRecursion P (map told_file (files_of rs))) (some_one w rowsets is)
    (all-first P (map told_file (files_of w)) (files_in (map (version_of s) ws ++ version_of s current ∷ [])) h)
named_at P s (w ∷ ws) current (suc i) rowsets h is =
    named_at P s ws current i rowsets (all-last P (map told_file (files_of w)) (files_in (map (version_of s) ws ++ version_of s current ∷ [])) h) is

footer_segment : (gs : List SegmentView) (n : ℕ) (f : Footer) → footer_at (footers_of gs) n ≡ Some f → (g : SegmentView) × (segment_of gs n ≡ Some g) × (g.footer ≡ f)
footer_segment [] n f is = absurd (none_some f is)
footer_segment (g ∷ gs) n f is = go (g.number == n) is (footer_segment gs n f)
  where
    go : (t : Bool) → (if t then Some g.footer else footer_at (footers_of gs) n) ≡ Some f → (footer_at (footers_of gs) n ≡ Some f → (h : SegmentView) × (segment_of gs n ≡ Some h) × (h.footer ≡ f))
        → (h : SegmentView) × ((if t then Some g else segment_of gs n) ≡ Some h) × (h.footer ≡ f)
    go true e more = (g, refl, some_one g.footer f e)
    go false e more = more e

-- a file whose segment is in hand, with its dead rows
pub record IsHeldFile (s : Layout) (segs : List SegmentView) (f : ListedFile) : Type 0 where
  pub segment : SegmentView
  pub there : segment_of segs f.file ≡ Some segment
  pub rows : segment.footer.rows ≡ f.rows
  pub attached : IsAttached s segment
  pub dead : HasDead f

held_files : (s : Layout) (segs : List SegmentView) (fs : List ListedFile) → AllByRecursion (IsAttached s) segs → AllByRecursion (IsInHand (footers_of segs)) (map told_file fs) → AllByRecursion HasDead fs
    → AllByRecursion (IsHeldFile s segs) fs
held_files s segs [] attached hand dead = tt
held_files s segs (f ∷ fs) attached hand dead =
    let x = footer_segment segs f.file hand.0.footer hand.0.there in
    let y = found_there segs f.file x.0 x.1 in (
      record {
        segment = x.0;
        there = x.1;
        rows = ap (λ (g : Footer). g.rows) x.2 ∙ hand.0.rows;
        attached = all_at (IsAttached s) segs y.0 x.0 attached y.1;
        dead = dead.0;
      },
      held_files s segs fs attached hand.1 dead.1,
    )

module _ (c : Contents) (segs : List SegmentView) (own : HasOwn c segs) (i : ℕ) (rowsets : List ListedRowset) (at : slice_get (all_rowsets c) i ≡ Some rowsets) where
  pub version_held : AllByRecursion (IsHeldFile c.schema segs) (files_of rowsets)
  version_held =
      let good = good_of (standing_of c own.kept) own.told in
      held_files c.schema segs (files_of rowsets) own.attached (named_at (IsInHand (footers_of segs)) c.schema c.older c.current i rowsets own.in_hand at)
      (has_dead (files_of rowsets) (good_at c.schema c.next_file c.older c.current i rowsets good.older good.current at).fit)

  pub version_few : length (files_of rowsets) < 2 ^ 44
  version_few = all_at HasFewFiles (all_rowsets c) i rowsets own.few_files at

all_found : (s : Layout) (segs : List SegmentView) (fs : List ListedFile) → AllByRecursion (IsHeldFile s segs) fs → AllByRecursion (λ (f : ListedFile). IsSome (segment_of segs f.file)) fs
all_found s segs [] h = tt
all_found s segs (f ∷ fs) h = (ap is_some h.0.there, all_found s segs fs h.1)

pub version_found : (c : Contents) (segs : List SegmentView) (own : HasOwn c segs) (i : ℕ) (rowsets : List ListedRowset) → slice_get (all_rowsets c) i ≡ Some rowsets
    → AllByRecursion (λ (f : ListedFile). IsSome (segment_of segs f.file)) (files_of rowsets)
version_found c segs own i rowsets at = all_found c.schema segs (files_of rowsets) (version_held c segs own i rowsets at)

-- ---- they can be a snapshot

is_part : (s : Layout) (segs : List SegmentView) (f : ListedFile) (p : PartView) → IsHeldFile s segs f → IsPartOf segs f p → IsPart s p
is_part s segs f p h is =
    let same : is.segment ≡ h.segment = some_one is.segment h.segment (sym is.there ∙ h.there) in
    let footer : p.footer ≡ h.segment.footer = is.footer ∙ ap (λ (g : SegmentView). g.footer) same in
    let bytes : p.reader.bytes ≡ h.segment.reader.bytes = is.same.bytes ∙ ap (λ (g : SegmentView). g.reader.bytes) same in
    let attached : IsAttached s (record h.segment { footer = p.footer }) = subst (λ (x : Footer). IsAttached s (record h.segment { footer = x })) (sym footer) (record { is = h.attached.is; known = h.attached.known }) in
    record {
      is = attached.is;
      known = λ file told. attached.known file (sym bytes ∙ told);
      within = subst (λ ds. AllByRecursion (λ r. r < p.footer.rows) ds) (sym is.dead)
          (subst (λ n. AllByRecursion (λ r. r < n) f.dead) (sym (ap (λ (x : Footer). x.rows) footer ∙ h.rows)) h.dead.within);
    }

all_parts : (s : Layout) (segs : List SegmentView) (fs : List ListedFile) (ps : List PartView) → AllByRecursion (IsHeldFile s segs) fs → ArePartsOf segs fs ps → AllByRecursion (IsPart s) ps
all_parts s segs [] [] h are = tt
all_parts s segs [] (p ∷ ps) h are = absurd are
all_parts s segs (f ∷ fs) [] h are = absurd are
all_parts s segs (f ∷ fs) (p ∷ ps) h are = (is_part s segs f p h.0 are.0, all_parts s segs fs ps h.1 are.1)

pub parts_are_parts : (c : Contents) (segs : List SegmentView) (own : HasOwn c segs) (i : ℕ) (rowsets : List ListedRowset) (ps : List PartView) → slice_get (all_rowsets c) i ≡ Some rowsets
    → ArePartsOf segs (files_of rowsets) ps → AreParts c.schema ps
parts_are_parts c segs own i rowsets ps at are = record {
  each = all_parts c.schema segs (files_of rowsets) ps (version_held c segs own i rowsets at) are;
  few = let long = parts_long segs (files_of rowsets) ps are in let few = version_few c segs own i rowsets at in omega arith;
}

-- ---- a version is kept

pub kept_there : (c : Contents) (v : ℕ) → IsKept c v → v - c.floor < length (all_rowsets c)
kept_there c v kept = let long = length-append c.older (c.current ∷ []) in let low = kept.0 in let high = kept.1 in omega arith

-- ---- they are a snapshot of the version's rows

is_piece : (s : Layout) (stored : Files) (image : Image) (segs : List SegmentView) (f : ListedFile) (p : PartView) → IsReadAs s stored segs (told_file f) → IsSegment s (stored f.file) (told_file f) image → IsPartOf segs f p
    → IsPieceOf s p (piece_of stored (part_of f))
is_piece s stored image segs f p read stands is =
    let same : is.segment ≡ read.segment = some_one is.segment read.segment (sym is.there ∙ read.there) in
    record {
      file = _;
      told = is.same.bytes ∙ ap (λ (g : SegmentView). g.reader.bytes) same ∙ read.bytes;
      is = record { are = stands.lawful; footer_is = is.footer ∙ ap (λ (g : SegmentView). g.footer) same ∙ read.footer; file_is = refl };
      dead = is.dead;
    }

are_pieces : (s : Layout) (stored : Files) (image : Image) (segs : List SegmentView) (fs : List ListedFile) (ps : List PartView) → AllByRecursion (IsReadAs s stored segs) (map told_file fs)
    → AllByRecursion (λ (f : NewFile). IsSegment s (stored f.file) f image) (map told_file fs) → ArePartsOf segs fs ps → ArePieces s ps (map (piece_of stored) (parts fs))
are_pieces s stored image segs [] [] read stands are = tt
are_pieces s stored image segs [] (p ∷ ps) read stands are = absurd are
are_pieces s stored image segs (f ∷ fs) [] read stands are = absurd are
are_pieces s stored image segs (f ∷ fs) (p ∷ ps) read stands are = (is_piece s stored image segs f p read.0 stands.0 are.0, are_pieces s stored image segs fs ps read.1 stands.1 are.1)

-- the rowsets of each version
all_held : (s : Layout) (ws : List (List ListedRowset)) (current : List ListedRowset) (i : ℕ) (rowsets : List ListedRowset) → slice_get (ws ++ current ∷ []) i ≡ Some rowsets
    → slice_get (map rowsets_of (map (version_of s) ws) ++ map parts current ∷ []) i ≡ Some (map parts rowsets)
all_held s [] current zero rowsets is = ap (λ (rs : List ListedRowset). Some (map parts rs)) (some_one current rowsets is)
all_held s [] current (suc i) rowsets is = absurd (none_some rowsets is)
all_held s (w ∷ ws) current zero rowsets is = ap (λ (rs : List ListedRowset). Some (map parts rs)) (some_one w rowsets is)
all_held s (w ∷ ws) current (suc i) rowsets is = all_held s ws current i rowsets is

-- its live rows are those of its map
listed_at : (s : Layout) (stored : Files) (h : Held) (b : Book) (older : List (List ListedRowset)) (current : List ListedRowset) (v i : ℕ) (rowsets : List ListedRowset) (m : Rows)
    → HoldsBook s (λ v. stored) h b → h.older ≡ map rowsets_of (map (version_of s) older) → h.current ≡ map parts current → i ≡ v - b.floor → slice_get (older ++ current ∷ []) i ≡ Some rowsets → rows_at b v ≡ Some m
    → AreRowsOf s (listed (map (piece_of stored) (parts (files_of rowsets)))) m
listed_at s stored h b older current v i rowsets m holds olds last place at rows =
    let kept = (kept_are_held s (λ v. stored) h b v holds).0 m rows in
    let there : slice_get (h.older ++ h.current ∷ []) i ≡ Some (map parts rowsets) =
    ap (λ (ws : List Rowsets). slice_get (ws ++ h.current ∷ []) i) olds ∙ ap (λ (w : Rowsets). slice_get (map rowsets_of (map (version_of s) older) ++ w ∷ []) i) last ∙ all_held s older current i rowsets at in
    let is : kept.0 ≡ map parts rowsets = go kept.0 (nat_lt v b.floor) kept.1 (ap (slice_get (h.older ++ h.current ∷ [])) (sym place) ∙ there) in
    let same : parts_of kept.0 ≡ parts (files_of rowsets) = ap parts_of is ∙ parts_are rowsets in
    subst (λ (ps : List Part). AreRowsOf s (listed (map (piece_of stored) ps)) m) same (version_is_listed s stored (parts_of kept.0) m kept.3 kept.2)
  where
    go : (w : Rowsets) (t : Bool) → (if t then None else slice_get (h.older ++ h.current ∷ []) (v - b.floor)) ≡ Some w → slice_get (h.older ++ h.current ∷ []) (v - b.floor) ≡ Some (map parts rowsets) → w ≡ map parts rowsets
    go w true e f = absurd (none_some w e)
    go w false e f = some_one w (map parts rowsets) (sym e ∙ f)

-- where an image is there, as at an honest store, the parts of a kept version are a snapshot of the book's rows
pub parts_stand : (view : View) (area end : ℕ) (c : Contents) (segs : List SegmentView) (b : Book) → HasBook view area end c segs b → (image : Image) → view.may_leave image
    → (v i : ℕ) (rowsets : List ListedRowset) (ps : List PartView) (m : Rows) → i ≡ v - c.floor → slice_get (all_rowsets c) i ≡ Some rowsets → ArePartsOf segs (files_of rowsets) ps → rows_at b v ≡ Some m
    → IsSnapshotOf (record { version = v; schema = c.schema; parts = ps }) m
parts_stand view area end c segs b has image left v i rowsets ps m place at are rows =
    let holds = has.images.holds in
    let stored = has.images.stored in
    record {
      pieces = map (piece_of stored) (parts (files_of rowsets));
      told = are_pieces c.schema stored image segs (files_of rowsets) ps (named_at (IsReadAs c.schema stored segs) c.schema c.older c.current i rowsets has.read at)
          (named_at (λ (f : NewFile). IsSegment c.schema (stored f.file) f image) c.schema c.older c.current i rowsets (has.images.files image left) at) are;
      rows = listed_at c.schema stored (held (versions_of c) (index_of c) (begun_of c)) b c.older c.current v i rowsets m holds.holds refl refl (place ∙ ap (λ (n : ℕ). v - n) holds.floor) at rows;
    }

-- ---- how many rows are live

counted : (s : Layout) (stored : Files) (image : Image) (fs : List ListedFile) → AllByRecursion HasDead fs → AllByRecursion (λ (f : NewFile). IsSegment s (stored f.file) f image) (map told_file fs)
    → length (listed (map (piece_of stored) (parts fs))) ≡ alive fs
counted s stored image [] dead stands = refl
counted s stored image (f ∷ fs) dead stands =
    let piece = piece_of stored (part_of f) in
    let rows : length (stored f.file) ≡ f.rows = stands.0.counted in
    let one : length (live_rows piece) ≡ length (stored f.file) - length f.dead = piece_is_counted piece dead.0.rise (subst (λ n. AllByRecursion (λ r. r < n) f.dead) (sym rows) dead.0.within) in
    let more = counted s stored image fs dead.1 stands.1 in
    let both = length-append (live_rows piece) (listed (map (piece_of stored) (parts fs))) in
    let sums = sum_by-cons (λ (n : ℕ). n) (f.rows - length f.dead) (map (λ (x : ListedFile). x.rows - length x.dead) fs) in
    omega arith

pub rows_counted : (view : View) (area end : ℕ) (c : Contents) (segs : List SegmentView) (b : Book) → HasOwn c segs → HasBook view area end c segs b → (image : Image) → view.may_leave image → alive (files_of c.current) ≡ len b.current
rows_counted view area end c segs b own has image left =
    let holds = has.images.holds in
    let stored = has.images.stored in
    let good = good_of (standing_of c own.kept) own.told in
    let dead = has_dead (files_of c.current) good.current.fit in
    let stands = named_last (λ (f : NewFile). IsSegment c.schema (stored f.file) f image) c.schema c.older c.current (has.images.files image left) in
    let are : AreRowsOf c.schema (listed (map (piece_of stored) (parts (files_of c.current)))) b.current =
    subst (λ (ps : List Part). AreRowsOf c.schema (listed (map (piece_of stored) ps)) b.current) (parts_are c.current)
    (version_is_listed c.schema stored (parts_of (map parts c.current)) b.current holds.holds.files holds.holds.current) in
    sym (counted c.schema stored image (files_of c.current) dead stands) ∙ listed_are_counted c.schema (listed (map (piece_of stored) (parts (files_of c.current)))) b.current are
  where
    named_last : (P : NewFile → Type 0) (s : Layout) (ws : List (List ListedRowset)) (current : List ListedRowset) → AllByRecursion P (files_in (map (version_of s) ws ++ version_of s current ∷ []))
        → AllByRecursion P (map told_file (files_of current))
    named_last P s ws current h = named_at P s ws current (length ws) current h (last_there ws current)

few_alive : (s : Layout) (segs : List SegmentView) (fs : List ListedFile) → AllByRecursion (IsHeldFile s segs) fs → alive fs ≤ length fs * 65536
few_alive s segs [] h = omega arith
few_alive s segs (f ∷ fs) h =
    let few : h.0.segment.footer.rows ≤ 65536 = (footer_parts h.0.segment.footer h.0.attached.is).few_rows in
    let rows = h.0.rows in
    let more = few_alive s segs fs h.1 in
    let sums = sum_by-cons (λ (n : ℕ). n) (f.rows - length f.dead) (map (λ (x : ListedFile). x.rows - length x.dead) fs) in
    omega arith

pub alive_fits : (c : Contents) (segs : List SegmentView) → HasOwn c segs → alive (files_of c.current) < 2 ^ 64
alive_fits c segs own =
    let held = version_held c segs own (length c.older) c.current (last_there c.older c.current) in
    let few = version_few c segs own (length c.older) c.current (last_there c.older c.current) in
    let most = few_alive c.schema segs (files_of c.current) held in
    omega arith

-- ---- at a state

-- an honest store has an image, which is what it reads as
abbrev pub HonestReads : {S : Type 0} → (S → View) → Type 0
HonestReads {S} view = (store : S) → IsTrue (view store).is_honest → (image : Image) × ((view store).seen ≡ Some image) × (view store).may_leave image

module _ {S : Type 0} (view : S → View) (st : Shown S) (v : ℕ) (rowsets : List ListedRowset) (own : HasOwn st.contents st.segments) (at : rowsets_at st.contents v ≡ Some rowsets) (ps : List PartView)
    (are : ArePartsOf st.segments (files_of rowsets) ps) where
  pub handed_parts : IfSome (rowsets_at st.contents v) (λ (rs : List ListedRowset). ArePartsOf st.segments (files_of rs) ps)
  handed_parts = subst (λ (o : Option (List ListedRowset)). IfSome o (λ (rs : List ListedRowset). ArePartsOf st.segments (files_of rs) ps)) (sym at) are

  pub handed_are : AreParts st.contents.schema ps
  handed_are = parts_are_parts st.contents st.segments own (v - st.contents.floor) rowsets ps at are

  pub handed_stand : HonestReads view → (b : Book) (m : Rows) → Has view st b → st.closed ≡ None → rows_at b v ≡ Some m → IsSnapshotOf (record { version = v; schema = st.contents.schema; parts = ps }) m
  handed_stand reads b m h open_ rows =
      let book = h.opened open_ in
      let image = reads st.store book.images.journal.settled.honest in
      parts_stand (view st.store) st.area st.end st.contents st.segments b book image.0 image.2 v (v - st.contents.floor) rowsets ps m refl at are rows

pub rows_size : {S : Type 0} (view : S → View) (st : Shown S) → HasOwn st.contents st.segments → HonestReads view → (b : Book) → Has view st b → st.closed ≡ None → alive (files_of st.contents.current) ≡ len b.current
rows_size view st own reads b h open_ =
    let book = h.opened open_ in
    let image = reads st.store book.images.journal.settled.honest in
    rows_counted (view st.store) st.area st.end st.contents st.segments b own book image.0 image.2
