-- Places of earlier versions that are still live there, and copies of segments.
use Rattle.std.proofs.Common.{◌≡◌, refl, ap, sym, subst, ◌∙◌, ℕ, zero, suc, ◌+◌, ◌-◌, ◌^◌, ◌<◌, ◌≤◌, min, List, [], ◌∷◌, ◌++◌, length, length-append, map, slice_get, slice_set, Option, Some, None, Bool, true, false, ◌==◌, nat_lt, nat_le, not, cond, if◌then◌else◌, IfSome, IsSome, arith}
use Rattle.std.specs.List.{AllByRecursion, list_any}
use Rattle.std.specs.FinMap.{get}
use Rattle.std.proofs.lemmas.Bool.{and_parts, and_from, ltb-true, lt-ltb, leb-true, leb-false, eqb-true, eq-eqb, ne_eqb}
use Rattle.std.proofs.lemmas.Option.{slice_get_within}
use Rattle.column_page.specs.declared.footers.Footer.{Footer}
use Rattle.pk_values.specs.Schemas.{Layout}
use Rattle.pk_values.specs.declared.cells.Value.{Value}
use Rattle.pk_model.specs.declared.books.Book.{Book}
use Rattle.pk_model.specs.Books.{rows_at}
use Rattle.pk_model.specs.Tables.{Rows}
use Rattle.dev_traits.specs.Image.{Image}
use Rattle.dev_traits.specs.Reader.{IsNew, SameFile}
use Rattle.dev_traits.specs.View.{View}
use Rattle.segment_read.specs.Footers.{HasFooter}
use Rattle.segment_read.specs.Reads.{KnowsFooter}
use Rattle.index_level0.specs.declared.place.Place.{Place}
use Rattle.rowsets.specs.Live.{Part, Files, is_dead, live, parts_of}
use Rattle.rowsets.specs.Marks.{Rises}
use Rattle.rowsets.specs.Books.{Held, held_at}
use Rattle.rowsets.proofs.BookFacts.{kept_are_held}
use Rattle.journal_form.specs.declared.records.ListedFile.{ListedFile}
use Rattle.journal_form.specs.declared.records.NewFile.{NewFile}
use Rattle.journal_form.specs.Versions.{Rowset as ListedRowset, file_numbered, files_of}
use Rattle.journal_form.specs.Meaning.{Entry}
use Rattle.kept_versions.specs.Files.{is_live, row_lives}
use Rattle.tablet_state.specs.Contents.{Contents, all_rowsets, begun_of, current_number, index_of, standing_of, version_of, versions_of}
use Rattle.tablet_state.specs.Holding.{Holds, held}
use Rattle.tablet_state.specs.Moving.{HasAt, HasRowOf, IsCopyOf, KeysAreTold, PlacesAreLive, keeps_live, lives_in, read_more, read_once, total_reads}
use Rattle.tablet_state.specs.Snapshots.{IsKept, rowsets_at}
use Rattle.tablet_state.specs.Stands.{IsSegment, part_of, rowsets_of, told_file}
use Rattle.tablet_state.specs.State.{Has, HasBook, HasOwn, IsAttached, IsReadAs, SegmentView, Shown, segment_of}
use Rattle.tablet_state.proofs.FileFacts.{all-map}
use Rattle.tablet_state.proofs.KeptFacts.{HonestReads, IsHeldFile, kept_there, version_held}
use Rattle.tablet_state.proofs.Lending.{found_there, get_last, none_some, rises_at, some_one, tail_rises}
use Rattle.tablet_state.proofs.RowFacts.{files_of_last}
use Rattle.tablet_state.proofs.VersionFacts.{parts, parts_are}

never : (X : Type 0) → false ≡ true → X
never X e = cc

not_true : (t : Bool) → not t ≡ true → t ≡ false
not_true true e = cc
not_true false e = refl

-- ---- a version that is kept

above : {X : Type 0} (xs : List X) (i : ℕ) → length xs ≤ i → slice_get xs i ≡ None
above [] i le = refl
above (x ∷ xs) zero le = absurd (omega arith)
above (x ∷ xs) (suc i) le = above xs i (omega arith)

there : {X : Type 0} (xs : List X) (i : ℕ) → i < length xs → (x : X) × (slice_get xs i ≡ Some x)
there [] i lt = absurd (omega arith)
there (x ∷ xs) zero lt = (x, refl)
there (x ∷ xs) (suc i) lt = there xs i (omega arith)

le_is : (a b : ℕ) → a ≤ b → nat_le a b ≡ true
le_is a b le = go (nat_le a b) refl
  where
    go : (t : Bool) → nat_le a b ≡ t → nat_le a b ≡ true
    go true e = e
    go false e = absurd (omega (arith, leb-false a b e))

le_not : (a b : ℕ) → b < a → nat_le a b ≡ false
le_not a b lt = go (nat_le a b) refl
  where
    go : (t : Bool) → nat_le a b ≡ t → nat_le a b ≡ false
    go true e = absurd (omega (arith, leb-true a b e))
    go false e = e

pub keeps_below : (c : Contents) (v : ℕ) (p : Place) → v < c.floor → false ≡ keeps_live c v p
keeps_below c v p lt = ap (λ (t : Bool). cond t (lives_in (rowsets_at c v) p) false) (sym (le_not c.floor v lt))

pub keeps_above : (c : Contents) (v : ℕ) (p : Place) → current_number c < v → false ≡ keeps_live c v p
keeps_above c v p lt =
    let long = length-append c.older (c.current ∷ []) in
    go (nat_le c.floor v) (above (all_rowsets c) (v - c.floor) (omega arith))
  where
    go : (t : Bool) → rowsets_at c v ≡ None → false ≡ cond t (lives_in (rowsets_at c v) p) false
    go true e = ap (λ (o : Option (List ListedRowset)). lives_in o p) (sym e)
    go false e = refl

pub keeps_kept : (c : Contents) (v : ℕ) (p : Place) (t : Bool) → IsKept c v → IfSome (rowsets_at c v) (λ (rs : List ListedRowset). t ≡ is_live rs p) → t ≡ keeps_live c v p
keeps_kept c v p t kept h =
    let at = there (all_rowsets c) (v - c.floor) (kept_there c v kept) in
    let is : t ≡ is_live at.0 p = subst (λ (o : Option (List ListedRowset)). IfSome o (λ (rs : List ListedRowset). t ≡ is_live rs p)) at.1 h in
    is ∙ ap (λ (o : Option (List ListedRowset)). lives_in o p) (sym at.1) ∙ ap (λ (b : Bool). cond b (lives_in (rowsets_at c v) p) false) (sym (le_is c.floor v kept.0))

-- a version that keeps a live row
record Keeps (c : Contents) (v : ℕ) (p : Place) : Type 0 where
  floor : c.floor ≤ v
  rowsets : List ListedRowset
  at : rowsets_at c v ≡ Some rowsets
  lives : is_live rowsets p ≡ true

kept_by : (c : Contents) (v : ℕ) (p : Place) → keeps_live c v p ≡ true → Keeps c v p
kept_by c v p e = go (nat_le c.floor v) refl e
  where
    more : (o : Option (List ListedRowset)) → rowsets_at c v ≡ o → lives_in o p ≡ true → c.floor ≤ v → Keeps c v p
    more None at f le = never _ f
    more (Some rs) at f le = record { floor = le; rowsets = rs; at = at; lives = f }

    go : (t : Bool) → nat_le c.floor v ≡ t → cond t (lives_in (rowsets_at c v) p) false ≡ true → Keeps c v p
    go true le f = more (rowsets_at c v) refl f (leb-true c.floor v le)
    go false le f = never _ f

-- ---- its files

found_file : (P : ListedFile → Type 0) (fs : List ListedFile) (n : ℕ) (f : ListedFile) → AllByRecursion P fs → file_numbered n fs ≡ Some f → (f.file ≡ n) × P f
found_file P [] n f all is = absurd (none_some f is)
found_file P (x ∷ fs) n f all is = go (x.file == n) refl is (λ g. found_file P fs n f all.1 g)
  where
    go : (t : Bool) → (x.file == n) ≡ t → cond t (Some x) (file_numbered n fs) ≡ Some f → (file_numbered n fs ≡ Some f → (f.file ≡ n) × P f) → (f.file ≡ n) × P f
    go true e g more = let same = some_one x f g in (ap (λ (y : ListedFile). y.file) (sym same) ∙ eqb-true x.file n e, subst P same all.0)
    go false e g more = more g

pub keeps_there : (c : Contents) (segs : List SegmentView) → HasOwn c segs → (v : ℕ) (p : Place) → keeps_live c v p ≡ true → HasRowOf segs p
keeps_there c segs own v p e =
    let k = kept_by c v p e in
    go (files_of k.rowsets) (file_numbered p.segment (files_of k.rowsets)) refl k.lives (version_held c segs own (v - c.floor) k.rowsets k.at)
  where
    go : (fs : List ListedFile) (o : Option ListedFile) → file_numbered p.segment fs ≡ o → row_lives o p.row ≡ true → AllByRecursion (IsHeldFile c.schema segs) fs → HasRowOf segs p
    go fs None at f all = never _ f
    go fs (Some x) at f all =
        let found = found_file (IsHeldFile c.schema segs) fs p.segment x all at in
        let lt = ltb-true p.row x.rows (and_parts (nat_lt p.row x.rows) (not (list_any (λ d. d == p.row) x.dead)) f).0 in
        let rows = found.1.rows in
        record { segment = found.1.segment; there = subst (λ (n : ℕ). segment_of segs n ≡ Some found.1.segment) found.0 found.1.there; within = omega arith }

-- ---- live rows

live_row : (stored : Files) (ps : List Part) (p : Place) (row : List Value) → live stored ps p ≡ Some row → slice_get (stored p.segment) p.row ≡ Some row
live_row stored [] p row is = absurd (none_some row is)
live_row stored (x ∷ ps) p row is = go (x.file == p.segment) (is_dead x p.row) refl is (live_row stored ps p row)
  where
    go : (a b : Bool) → (x.file == p.segment) ≡ a → cond a (cond b None (slice_get (stored x.file) p.row)) (live stored ps p) ≡ Some row → (live stored ps p ≡ Some row → slice_get (stored p.segment) p.row ≡ Some row) → slice_get (stored p.segment) p.row ≡ Some row
    go true true e f more = absurd (none_some row f)
    go true false e f more = ap (λ (n : ℕ). slice_get (stored n) p.row) (sym (eqb-true x.file p.segment e)) ∙ f
    go false b e f more = more f

lives_then : (stored : Files) (fs : List ListedFile) (p : Place) (row : List Value) → row_lives (file_numbered p.segment fs) p.row ≡ true → slice_get (stored p.segment) p.row ≡ Some row
    → live stored (parts fs) p ≡ Some row
lives_then stored [] p row h at = never _ h
lives_then stored (f ∷ fs) p row h at = go (f.file == p.segment) refl h (λ g. lives_then stored fs p row g at)
  where
    go : (a : Bool) → (f.file == p.segment) ≡ a → row_lives (cond a (Some f) (file_numbered p.segment fs)) p.row ≡ true → (row_lives (file_numbered p.segment fs) p.row ≡ true → live stored (parts fs) p ≡ Some row)
        → cond a (cond (is_dead (part_of f) p.row) None (slice_get (stored f.file) p.row)) (live stored (parts fs) p) ≡ Some row
    go true e g more =
        let alive = not_true _ (and_parts (nat_lt p.row f.rows) (not (list_any (λ d. d == p.row) f.dead)) g).1 in
        ap (λ (b : Bool). cond b None (slice_get (stored f.file) p.row)) alive ∙ ap (λ (n : ℕ). slice_get (stored n) p.row) (eqb-true f.file p.segment e) ∙ at
    go false e g more = more g

rows_lives : (s : Layout) (stored : Files) (segs : List SegmentView) (fs : List ListedFile) (p : Place) (row : List Value) → AllByRecursion (IsHeldFile s segs) fs
    → AllByRecursion (λ (f : ListedFile). IsReadAs s stored segs (told_file f)) fs → live stored (parts fs) p ≡ Some row → row_lives (file_numbered p.segment fs) p.row ≡ true
rows_lives s stored segs [] p row all read is = absurd (none_some row is)
rows_lives s stored segs (f ∷ fs) p row all read is = go (f.file == p.segment) (is_dead (part_of f) p.row) refl is (rows_lives s stored segs fs p row all.1 read.1)
  where
    long : length (stored f.file) ≡ f.rows
    long =
        let same : read.0.segment ≡ all.0.segment = some_one read.0.segment all.0.segment (sym read.0.there ∙ all.0.there) in
        ap (λ (x : Footer). x.rows) (sym read.0.footer) ∙ ap (λ (g : SegmentView). g.footer.rows) same ∙ all.0.rows

    go : (a b : Bool) → is_dead (part_of f) p.row ≡ b → cond a (cond b None (slice_get (stored f.file) p.row)) (live stored (parts fs) p) ≡ Some row
        → (live stored (parts fs) p ≡ Some row → row_lives (file_numbered p.segment fs) p.row ≡ true) → row_lives (cond a (Some f) (file_numbered p.segment fs)) p.row ≡ true
    go true true e g more = absurd (none_some row g)
    go true false e g more =
        let lt : p.row < length (stored f.file) = slice_get_within (stored f.file) p.row row g in
        let many = long in
        and_from (nat_lt p.row f.rows) (not (list_any (λ d. d == p.row) f.dead)) (lt-ltb p.row f.rows (omega arith)) (ap not e)
    go false b e g more = more g

pub places_live : {S : Type 0} (view : S → View) (st : Shown S) → HasOwn st.contents st.segments → PlacesAreLive view st
places_live view st own b h open_ k p at =
    let c = st.contents in
    let book : HasBook (view st.store) st.area st.end c st.segments b = h.opened open_ in
    let stored = book.images.stored in
    let has = (book.images.holds.holds.exact k p).0 at in
    let last : rowsets_at c (current_number c) ≡ Some c.current = get_last c.older c.current (current_number c - c.floor) (omega arith) in
    let held = version_held c st.segments own (current_number c - c.floor) c.current last in
    let read : AllByRecursion (λ (f : ListedFile). IsReadAs c.schema stored st.segments (told_file f)) (files_of c.current) =
    all-map (IsReadAs c.schema stored st.segments) told_file (files_of c.current)
    (files_of_last (IsReadAs c.schema stored st.segments) (map (version_of c.schema) c.older) (version_of c.schema c.current) book.read) in
    let lives : is_live c.current p ≡ true =
    rows_lives c.schema stored st.segments (files_of c.current) p has.0 held read (ap (λ (ps : List Part). live stored ps p) (sym (parts_are c.current)) ∙ has.1) in
    let kept : IsKept c (current_number c) = (omega arith, omega arith) in
    sym (keeps_kept c (current_number c) p true kept (subst (λ (o : Option (List ListedRowset)). IfSome o (λ (rs : List ListedRowset). true ≡ is_live rs p)) (sym last) (sym lives)))

-- ---- what is held for a book tells of a key

all_held : (s : Layout) (ws : List (List ListedRowset)) (current : List ListedRowset) (i : ℕ) (rowsets : List ListedRowset) → slice_get (ws ++ current ∷ []) i ≡ Some rowsets
    → slice_get (map rowsets_of (map (version_of s) ws) ++ map parts current ∷ []) i ≡ Some (map parts rowsets)
all_held s [] current zero rowsets is = ap (λ (rs : List ListedRowset). Some (map parts rs)) (some_one current rowsets is)
all_held s [] current (suc i) rowsets is = absurd (none_some rowsets is)
all_held s (w ∷ ws) current zero rowsets is = ap (λ (rs : List ListedRowset). Some (map parts rs)) (some_one w rowsets is)
all_held s (w ∷ ws) current (suc i) rowsets is = all_held s ws current i rowsets is

lt_not : (a b : ℕ) → b ≤ a → nat_lt a b ≡ false
lt_not a b le = go (nat_lt a b) refl
  where
    go : (t : Bool) → nat_lt a b ≡ t → nat_lt a b ≡ false
    go true e = absurd (omega (arith, ltb-true a b e))
    go false e = e

module _ (c : Contents) (stored : Files) (kept : List Entry) (b : Book) (h : Holds c.schema stored (standing_of c kept) (index_of c) (begun_of c) b) (k : List Value) where
  abbrev is_held : Held
  is_held = held (versions_of c) (index_of c) (begun_of c)

  absent : index_of c k ≡ None → get b.current k ≡ None
  absent none = go (get b.current k) refl
    where
      go : (o : Option (List Value)) → get b.current k ≡ o → get b.current k ≡ None
      go None e = e
      go (Some row) e =
          let at = (h.holds.current.same k row).0 e in
          absurd (none_some at.0 (sym none ∙ (h.holds.exact k at.0).1 (row, at.1, at.2)))

  stood : (v : ℕ) (p : Place) → index_of c k ≡ Some p → keeps_live c v p ≡ true → (m : Rows) × (rows_at b v ≡ Some m) × (get b.current k ≡ get m k)
  stood v p at e =
      let x = kept_by c v p e in
      let has = (h.holds.exact k p).0 at in
      let row = has.0 in
      let here : slice_get (stored p.segment) p.row ≡ Some row = live_row stored (parts_of (rowsets_of (versions_of c).current)) p row has.1 in
      let now : get b.current k ≡ Some row = (h.holds.current.same k row).1 (p, has.1, has.2) in
      let floor : c.floor ≡ b.floor = h.floor in
      let in_held : held_at is_held b.floor v ≡ Some (map parts x.rowsets) =
      ap (λ (t : Bool). if t then None else slice_get (is_held.older ++ is_held.current ∷ []) (v - b.floor)) (lt_not v b.floor (let le = x.floor in omega arith))
      ∙ ap (λ (n : ℕ). slice_get (is_held.older ++ is_held.current ∷ []) (v - n)) (sym floor) ∙ all_held c.schema c.older c.current (v - c.floor) x.rowsets x.at in
      let both = kept_are_held c.schema (λ v. stored) is_held b v h.holds in
      let m = both.1 (map parts x.rowsets) in_held in
      let was = both.0 m.0 m.1 in
      let same : was.0 ≡ map parts x.rowsets = some_one was.0 (map parts x.rowsets) (sym was.1 ∙ in_held) in
      let files : parts_of was.0 ≡ parts (files_of x.rowsets) = ap parts_of same ∙ parts_are x.rowsets in
      let still : live stored (parts_of was.0) p ≡ Some row = ap (λ (ps : List Part). live stored ps p) files ∙ lives_then stored (files_of x.rowsets) p row x.lives here in
      (m.0, m.1, now ∙ sym ((was.2.same k row).1 (p, still, has.2)))

pub keys_are_told : KeysAreTold
keys_are_told c stored kept b h k = record { absent = absent c stored kept b h k; stood = stood c stored kept b h k }

-- ---- copies

pub total_set : (gs : List SegmentView) (i : ℕ) (old new : SegmentView) → slice_get gs i ≡ Some old → new.reader.reads ≤ old.reader.reads + 1 → total_reads (slice_set gs i new) ≤ total_reads gs + 1
total_set [] i old new at le = absurd (none_some old at)
total_set (g ∷ gs) zero old new at le = let same = ap (λ (x : SegmentView). x.reader.reads) (some_one g old at) in omega arith
total_set (g ∷ gs) (suc i) old new at le = let more = total_set gs i old new at le in omega arith

pub told_of : {X : Type 0} (o : Option X) (x : X) → IsSome o → ((y : X) → o ≡ Some y → y ≡ x) → o ≡ Some x
told_of None x some is = absurd (cc some)
told_of (Some y) x some is = ap Some (is y refl)

pub set_same : (gs : List SegmentView) (i : ℕ) (old new : SegmentView) → slice_get gs i ≡ Some old → new ≡ old → slice_set gs i new ≡ gs
set_same [] i old new at same = absurd (none_some old at)
set_same (g ∷ gs) zero old new at same = ap (λ (h : SegmentView). h ∷ gs) (same ∙ sym (some_one g old at))
set_same (g ∷ gs) (suc i) old new at same = ap (λ (hs : List SegmentView). g ∷ hs) (set_same gs i old new at same)

pub read_set : (gs : List SegmentView) (i file : ℕ) (old new : SegmentView) → Rises (map (λ (g : SegmentView). g.number) gs) → slice_get gs i ≡ Some old → old.number ≡ file → new ≡ read_more old → slice_set gs i new ≡ read_once file gs
read_set [] i file old new rise at is more = absurd (none_some old at)
read_set (g ∷ gs) zero file old new rise at is more =
    let same = some_one g old at in
    ap (λ (h : SegmentView). h ∷ gs) (more ∙ ap read_more (sym same))
    ∙ ap (λ (t : Bool). if t then read_more g ∷ gs else g ∷ read_once file gs) (sym (eq-eqb g.number file (ap (λ (h : SegmentView). h.number) same ∙ is)))
read_set (g ∷ gs) (suc i) file old new rise at is more =
    let below = rises_at (g ∷ gs) zero (suc i) g old rise refl at (omega arith) in
    ap (λ (hs : List SegmentView). g ∷ hs) (read_set gs i file old new (tail_rises g gs rise) at is more)
    ∙ ap (λ (t : Bool). if t then read_more g ∷ gs else g ∷ read_once file gs) (sym (ne_eqb g.number file (λ e. omega arith)))

pub seen_same : (g h : SegmentView) → h.number ≡ g.number → h.footer ≡ g.footer → SameFile g.reader h.reader → h.reader.faults ≡ g.reader.faults → h.reader.reads ≡ g.reader.reads → h ≡ g
seen_same g h number footer same faults reads =
    λ i. record { number = number i; reader = record { bytes = same.bytes i; size = same.size i; faults = faults i; reads = reads i }; footer = footer i }

pub seen_read : (g h : SegmentView) → h.number ≡ g.number → h.footer ≡ g.footer → SameFile g.reader h.reader → h.reader.faults ≡ g.reader.faults → h.reader.reads ≡ min (g.reader.reads + 1) (2 ^ 64 - 1) → h ≡ read_more g
seen_read g h number footer same faults reads = seen_same (read_more g) h number footer (record { bytes = same.bytes; size = same.size }) faults reads

pub copied : (gs : List SegmentView) (file place : ℕ) (x copy : SegmentView) → slice_get gs place ≡ Some x → slice_get gs place ≡ segment_of gs file → copy.number ≡ x.number → copy.footer ≡ x.footer
    → SameFile x.reader copy.reader → IsNew copy.reader → IsCopyOf gs file copy
copied gs file place x copy at is number footer same new =
    let there : segment_of gs file ≡ Some x = sym is ∙ at in
    let found = found_there gs file x there in
    record { segment = x; there = there; number = number ∙ found.2; footer = footer; same = same; new = new }

pub copy_known : (s : Layout) (gs : List SegmentView) (file : ℕ) (copy : SegmentView) → AllByRecursion (IsAttached s) gs → IsCopyOf gs file copy → KnowsFooter s copy.reader copy.footer
copy_known s gs file copy all is =
    let found = found_there gs file is.segment is.there in
    let attached : IsAttached s is.segment = at_place (IsAttached s) gs found.0 is.segment all found.1 in
    λ bytes told. subst (λ (f : Footer). HasFooter s f bytes) (sym is.footer) (attached.known bytes (sym is.same.bytes ∙ told))
  where
    at_place : {X : Type 0} (P : X → Type 0) (xs : List X) (i : ℕ) (x : X) → AllByRecursion P xs → slice_get xs i ≡ Some x → P x
    at_place P [] i x h e = absurd (none_some x e)
    at_place P (y ∷ xs) zero x h e = subst P (some_one y x e) h.0
    at_place P (y ∷ xs) (suc i) x h e = at_place P xs i x h.1 e

-- a file that has a live row
live_file : (P : ListedFile → Type 0) (stored : Files) (fs : List ListedFile) (p : Place) (row : List Value) → AllByRecursion P fs → live stored (parts fs) p ≡ Some row → (f : ListedFile) × (f.file ≡ p.segment) × P f
live_file P stored [] p row all is = absurd (none_some row is)
live_file P stored (f ∷ fs) p row all is = go (f.file == p.segment) refl is (λ g. live_file P stored fs p row all.1 g)
  where
    go : (a : Bool) → (f.file == p.segment) ≡ a → cond a (cond (is_dead (part_of f) p.row) None (slice_get (stored f.file) p.row)) (live stored (parts fs) p) ≡ Some row → (live stored (parts fs) p ≡ Some row → (x : ListedFile) × (x.file ≡ p.segment) × P x) → (x : ListedFile) × (x.file ≡ p.segment) × P x
    go true e g more = (f, eqb-true f.file p.segment e, all.0)
    go false e g more = more g

record IsRead (s : Layout) (stored : Files) (segs : List SegmentView) (image : Image) (f : ListedFile) : Type 0 where
  read : IsReadAs s stored segs (told_file f)
  sealed : IsSegment s (stored f.file) (told_file f) image

both : (s : Layout) (stored : Files) (segs : List SegmentView) (image : Image) (fs : List ListedFile) → AllByRecursion (λ (f : ListedFile). IsReadAs s stored segs (told_file f)) fs
    → AllByRecursion (λ (f : ListedFile). IsSegment s (stored f.file) (told_file f) image) fs → AllByRecursion (IsRead s stored segs image) fs
both s stored segs image [] h g = tt
both s stored segs image (f ∷ fs) h g = (record { read = h.0; sealed = g.0 }, both s stored segs image fs h.1 g.1)

pub copy_rows : {S : Type 0} (view : S → View) (st : Shown S) → HonestReads view → (b : Book) (k : List Value) (p : Place) (copy : SegmentView) → IsCopyOf st.segments p.segment copy → Has view st b → st.closed ≡ None
    → index_of st.contents k ≡ Some p → HasAt st.contents.schema copy p.row (get b.current k)
copy_rows view st reads b k p copy is h open_ at =
    let c = st.contents in
    let book : HasBook (view st.store) st.area st.end c st.segments b = h.opened open_ in
    let stored = book.images.stored in
    let holds = book.images.holds.holds in
    let has = (holds.exact k p).0 at in
    let row = has.0 in
    let image = reads st.store book.images.journal.settled.honest in
    let fs = files_of c.current in
    let read : AllByRecursion (λ (f : ListedFile). IsReadAs c.schema stored st.segments (told_file f)) fs =
    all-map (IsReadAs c.schema stored st.segments) told_file fs (files_of_last (IsReadAs c.schema stored st.segments) (map (version_of c.schema) c.older) (version_of c.schema c.current) book.read) in
    let sealed : AllByRecursion (λ (f : ListedFile). IsSegment c.schema (stored f.file) (told_file f) image.0) fs =
    all-map (λ (f : NewFile). IsSegment c.schema (stored f.file) f image.0) told_file fs
    (files_of_last (λ (f : NewFile). IsSegment c.schema (stored f.file) f image.0) (map (version_of c.schema) c.older) (version_of c.schema c.current) (book.images.files image.0 image.2)) in
    let f = live_file (IsRead c.schema stored st.segments image.0) stored fs p row (both c.schema stored st.segments image.0 fs read sealed) (ap (λ (ps : List Part). live stored ps p) (sym (parts_are c.current)) ∙ has.1) in
    let same : is.segment ≡ f.2.read.segment = some_one is.segment f.2.read.segment (sym is.there ∙ ap (segment_of st.segments) (sym f.1) ∙ f.2.read.there) in
    let here : slice_get (stored p.segment) p.row ≡ Some row = live_row stored (parts_of (rowsets_of (versions_of c).current)) p row has.1 in
    record {
      file = _;
      told = is.same.bytes ∙ ap (λ (g : SegmentView). g.reader.bytes) same ∙ f.2.read.bytes;
      rows = stored f.0.file;
      is = record { are = f.2.sealed.lawful; footer_is = is.footer ∙ ap (λ (g : SegmentView). g.footer) same ∙ f.2.read.footer; file_is = refl };
      at = ap (λ (n : ℕ). slice_get (stored n) p.row) f.1 ∙ here ∙ sym ((holds.current.same k row).1 (p, has.1, has.2));
    }
