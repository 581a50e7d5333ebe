-- What was located stands for the rows of the version at which it was.
use Rattle.std.proofs.Common.{◌≡◌, ◌↔◌, refl, ap, sym, subst, ◌∙◌, ℕ, suc, ◌+◌, ◌-◌, ◌≤◌, List, [], ◌∷◌, ◌++◌, map, length, Option, Some, None, Bool as Truth, true, false, ◌||◌, cond, slice_get, get_or, nat_lt, if◌then◌else◌, IfSome, arith}
use Rattle.std.specs.Prelude.{All, IsTrue}
use Rattle.std.specs.List.{AllByRecursion}
use Rattle.std.specs.FinMap.{get}
use Rattle.std.specs.Cmp.Lexicographic.{slice_cmp}
use Rattle.std.specs.Ordering.{eq_by_cmp, nat_cmp}
use Rattle.std.specs.Cmp.{eq_by_cmp_equiv}
use Rattle.std.proofs.lemmas.Bool.{ltb-true}
use Rattle.std.proofs.lemmas.Cmp.{nat_list_cmp_total}
use Rattle.std.proofs.lemmas.Map.Lookups.{exact_bytes}
use Rattle.std.proofs.lemmas.List.Elements.{All-cons, All-nil}
use Rattle.std.proofs.lemmas.Map.Views.{tells_apart}
use Rattle.dev_traits.specs.Image.{Image}
use Rattle.dev_traits.specs.View.{View}
use Rattle.index_level0.specs.declared.place.Place.{Place}
use Rattle.key_code.specs.KeyCode.{key_code}
use Rattle.pk_values.specs.Order.{key_cmp}
use Rattle.pk_values.specs.OrderFacts.{key_exact}
use Rattle.pk_values.specs.Schemas.{Layout, fits_key}
use Rattle.pk_values.specs.declared.cells.Value.{Value}
use Rattle.pk_model.specs.Books.{rows_at, version}
use Rattle.pk_model.specs.Lawful.{IsLawful}
use Rattle.pk_model.specs.Tables.{Rows, key_named, touches}
use Rattle.pk_model.specs.declared.books.Book.{Book}
use Rattle.pk_model.specs.declared.calls.Load.{Load}
use Rattle.pk_model.specs.declared.calls.Op.{Op}
use Rattle.pk_model.specs.declared.calls.Op.TheVariants.{Delete}
use Rattle.rowsets.specs.Live.{Files, FilesOnce, HasKey, Part, StandsFor, is_among, live, parts_of}
use Rattle.rowsets.specs.Scans.{piece_of}
use Rattle.rowsets.specs.Indexing.{CodeMap, CodeMove, code_cmp, place_stored}
use Rattle.journal_form.specs.declared.records.NewFile.{NewFile}
use Rattle.journal_form.specs.declared.records.ListedFile.{ListedFile}
use Rattle.journal_form.specs.Versions.{files_of}
use Rattle.snapshot_scan.specs.Parts.{IsPieceOf, PartView}
use Rattle.snapshot_scan.specs.Snapshots.{IsSnapshotOf, SnapshotView}
use Rattle.tablet_state.specs.Contents.{Contents, current_number, index_of, versions_of}
use Rattle.tablet_state.specs.Snapshots.{ArePartsOf, IsPartOf}
use Rattle.tablet_state.specs.State.{Has, HasBook, IsReadAs, SegmentView, Shown}
use Rattle.tablet_state.specs.Stands.{IsSegment, part_of, rowsets_of, told_file}
use Rattle.tablet_state.proofs.FileFacts.{all-map}
use Rattle.tablet_state.proofs.KeptFacts.{HonestReads}
use Rattle.tablet_state.proofs.Lending.{get_last}
use Rattle.tablet_state.proofs.RowFacts.{files_of_last}
use Rattle.tablet_state.proofs.Publishing.{older_is}
use Rattle.tablet_state.proofs.VersionFacts.{parts, parts_are}
use Rattle.tablet_state.specs.Contents.{version_of}
use Rattle.partial_loads.specs.declared.folds.Folded.{Folded}
use Rattle.partial_loads.specs.Folded.{AreFolded, HasCode, folded_keys}
use Rattle.partial_loads.specs.Lines.{IsShortKey}
use Rattle.partial_loads.specs.Moves.{IsPlaceOf}
use Rattle.core_publish.specs.Lines as published
use Rattle.core_publish.proofs.SettleFacts.{short-keys}
use Rattle.core_partial.specs.Found.{AreKeysOf, AreStored, AreTold, FoundView, IsFoundOf, codes_of, part_seen}

some_one : {X : Type 0} (x y : X) → Some x ≡ Some y → x ≡ y
some_one x y e = cc

-- ---- the keys of a load

touched-same : (ops : List Op) → touches (map (λ op. Delete (key_named op)) ops) ≡ touches ops
touched-same [] = refl
touched-same (op ∷ ops) = ap (λ (ks : List (List Value)). key_named op ∷ ks) (touched-same ops)

codes-are : (s : Layout) (fs : List Folded) → AllByRecursion (HasCode s) fs → map (λ (f : Folded). f.code) fs ≡ map (key_code s) (folded_keys fs)
codes-are s [] h = refl
codes-are s (f ∷ fs) h = λ i. h.0.code i ∷ codes-are s fs h.1 i

short-all : (s : Layout) (fs : List Folded) → AllByRecursion (HasCode s) fs → AllByRecursion (IsShortKey s) (folded_keys fs)
short-all s [] h = tt
short-all s (f ∷ fs) h = (h.0.key, short-all s fs h.1)

pub keys-of : (s : Layout) (load : Load) (lines : List Op) (fs : List Folded) → lines ≡ map (λ op. Delete (key_named op)) load.ops → AreFolded s [] None lines fs
    → AreKeysOf s load (map (λ (f : Folded). f.code) fs)
keys-of s load lines fs same are = record {
  keys = folded_keys fs;
  rise = are.rise;
  named = λ k. are.named k ∙ ap (λ (ops : List Op). is_among (touches ops) k) same ∙ ap (λ (ks : List (List Value)). is_among ks k) (touched-same load.ops);
  short = short-all s fs are.coded;
  codes_are = codes-are s fs are.coded;
}

-- ---- the places that are stored

stored-keeps : (codes : CodeMap) (located : List CodeMove) (code : List ℕ) (old : Option Place) → AreStored codes located → old ≡ get codes code → place_stored located code old ≡ get codes code
stored-keeps codes [] code old h is = is
stored-keeps codes (e ∷ es) code old h is = stored-keeps codes es code (cond (eq_by_cmp code_cmp code e.0) e.1 old) h.1 (go (eq_by_cmp code_cmp code e.0) refl)
  where
    go : (t : Truth) → eq_by_cmp code_cmp code e.0 ≡ t → cond t e.1 old ≡ get codes code
    go true f = h.0 ∙ ap (get codes) (sym (tells_apart exact_bytes code e.0 f))
    go false f = is

head-same : (a b : List ℕ) (xs ys : List (List ℕ)) → a ∷ xs ≡ b ∷ ys → a ≡ b
head-same a b xs ys e = cc

tail-same : (a b : List ℕ) (xs ys : List (List ℕ)) → a ∷ xs ≡ b ∷ ys → xs ≡ ys
tail-same a b xs ys e = cc

none-left : {X : Type 0} (k : List ℕ) (ks : List (List ℕ)) → [] ≡ k ∷ ks → X
none-left k ks e = cc

never : {X : Type 0} → false ≡ true → X
never e = cc

stored-at : (s : Layout) (codes : CodeMap) (located : List CodeMove) (keys : List (List Value)) (k : List Value) (old : Option Place) → AreStored codes located
    → codes_of located ≡ map (key_code s) keys → is_among keys k ≡ true → place_stored located (key_code s k) old ≡ get codes (key_code s k)
stored-at s codes located [] k old h e among = never among
stored-at s codes [] (j ∷ keys) k old h e among = none-left (key_code s j) (map (key_code s) keys) e
stored-at s codes (x ∷ es) (j ∷ keys) k old h e among = go (eq_by_cmp key_cmp k j) refl among (λ g. stored-at s codes es keys k (cond (eq_by_cmp code_cmp (key_code s k) x.0) x.1 old) h.1 (tail-same x.0 (key_code s j) (codes_of es) (map (key_code s) keys) e) g)
  where
    code : x.0 ≡ key_code s j
    code = head-same x.0 (key_code s j) (codes_of es) (map (key_code s) keys) e

    go : (t : Truth) → eq_by_cmp key_cmp k j ≡ t → (t || is_among keys k) ≡ true → (is_among keys k ≡ true → place_stored es (key_code s k) (cond (eq_by_cmp code_cmp (key_code s k) x.0) x.1 old) ≡ get codes (key_code s k))
        → place_stored es (key_code s k) (cond (eq_by_cmp code_cmp (key_code s k) x.0) x.1 old) ≡ get codes (key_code s k)
    go true f g more =
        let same : x.0 ≡ key_code s k = code ∙ ap (key_code s) (sym (tells_apart key_exact k j f)) in
        let itself : eq_by_cmp code_cmp (key_code s k) x.0 ≡ true = ap (eq_by_cmp code_cmp (key_code s k)) same ∙ (eq_by_cmp_equiv nat_list_cmp_total).refl (key_code s k) in
        stored-keeps codes es (key_code s k) (cond (eq_by_cmp code_cmp (key_code s k) x.0) x.1 old) h.1
        (ap (λ (t : Truth). cond t x.1 old) itself ∙ h.0 ∙ ap (get codes) same)
    go false f g more = more g

-- ---- the parts of a version

parts-seen : (segs : List SegmentView) (fs : List ListedFile) (ps : List PartView) → ArePartsOf segs fs ps → map part_seen ps ≡ parts fs
parts-seen segs [] [] h = refl
parts-seen segs [] (p ∷ ps) h = absurd h
parts-seen segs (f ∷ fs) [] h = absurd h
parts-seen segs (f ∷ fs) (p ∷ ps) h = λ i. record { file = h.0.number i; dead = h.0.dead i } ∷ parts-seen segs fs ps h.1 i

is-piece : (s : Layout) (stored : Files) (image : Image) (segs : List SegmentView) (f : ListedFile) (p : PartView) → IsReadAs s stored segs (told_file f) → IsSegment s (stored f.file) (told_file f) image
    → IsPartOf segs f p → IsPieceOf s p (record { rows = stored p.number; dead = p.dead })
is-piece s stored image segs f p read stands is =
    let same : is.segment ≡ read.segment = some_one is.segment read.segment (sym is.there ∙ read.there) in
    let rows : stored f.file ≡ stored p.number = ap stored (sym is.number) in
    subst (λ (rs : List (List Value)). IsPieceOf s p (record { rows = rs; dead = p.dead })) rows (record {
      file = _;
      told = is.same.bytes ∙ ap (λ (g : SegmentView). g.reader.bytes) same ∙ read.bytes;
      is = record { are = stands.lawful; footer_is = is.footer ∙ ap (λ (g : SegmentView). g.footer) same ∙ read.footer; file_is = refl };
      dead = refl;
    })

are-told : (s : Layout) (stored : Files) (image : Image) (segs : List SegmentView) (fs : List ListedFile) (ps : List PartView) → AllByRecursion (λ (f : ListedFile). IsReadAs s stored segs (told_file f)) fs
    → AllByRecursion (λ (f : ListedFile). IsSegment s (stored f.file) (told_file f) image) fs → ArePartsOf segs fs ps → AreTold s stored ps
are-told s stored image segs [] [] read stands h = tt
are-told s stored image segs [] (p ∷ ps) read stands h = absurd h
are-told s stored image segs (f ∷ fs) [] read stands h = absurd h
are-told s stored image segs (f ∷ fs) (p ∷ ps) read stands h = (is-piece s stored image segs f p read.0 stands.0 h.0, are-told s stored image segs fs ps read.1 stands.1 h.1)

-- ---- what was located

fits-among : (s : Layout) (keys : List (List Value)) (k : List Value) → AllByRecursion (IsShortKey s) keys → is_among keys k ≡ true → fits_key s k ≡ true
fits-among s [] k h e = never e
fits-among s (j ∷ keys) k h e = go (eq_by_cmp key_cmp k j) refl e (fits-among s keys k h.1)
  where
    go : (t : Truth) → eq_by_cmp key_cmp k j ≡ t → (t || is_among keys k) ≡ true → (is_among keys k ≡ true → fits_key s k ≡ true) → fits_key s k ≡ true
    go true f g more = subst (λ (q : List Value). fits_key s q ≡ true) (sym (tells_apart key_exact k j f)) h.0.fits
    go false f g more = more g

lt-not : (a b : ℕ) → b ≤ a → nat_lt a b ≡ false
lt-not a b le = go (nat_lt a b) refl
  where
    go : (t : Truth) → nat_lt a b ≡ t → nat_lt a b ≡ false
    go true e = absurd (omega (arith, ltb-true a b e))
    go false e = e

current-at : (b : Book) (v : ℕ) (m : Rows) → rows_at b v ≡ Some m → v ≡ version b → m ≡ b.current
current-at b v m e at =
    let last : slice_get (b.older ++ b.current ∷ []) (v - b.floor) ≡ Some b.current = get_last b.older b.current (v - b.floor) (omega arith) in
    some_one m b.current (sym e ∙ ap (λ (t : Truth). if t then None else slice_get (b.older ++ b.current ∷ []) (v - b.floor)) (lt-not v b.floor (omega arith)) ∙ last)

pub found-of : {S : Type 0} (view : S → View) (st : Shown S) → HonestReads view → (b : Book) → Has view st b → st.closed ≡ None → (f : FoundView) (m : Rows)
    → f.snapshot.schema ≡ st.contents.schema → f.snapshot.version ≡ current_number st.contents → rows_at b f.snapshot.version ≡ Some m → IsSnapshotOf f.snapshot m
    → ArePartsOf st.segments (files_of st.contents.current) f.snapshot.parts → AreKeysOf st.contents.schema f.load (codes_of f.located) → AreStored st.contents.codes f.located → IsFoundOf f m
found-of view st reads b h open_ f m schema current rows is are keys kept =
    let c : Contents = st.contents in
    let book : HasBook (view st.store) st.area st.end c st.segments b = h.opened open_ in
    let stored : Files = book.images.stored in
    let holds = book.images.holds in
    let image = reads st.store book.images.journal.settled.honest in
    let fs : List ListedFile = files_of c.current in
    let read : AllByRecursion (λ (x : ListedFile). IsReadAs c.schema stored st.segments (told_file x)) fs =
    all-map (IsReadAs c.schema stored st.segments) told_file fs (files_of_last (IsReadAs c.schema stored st.segments) (map (version_of c.schema) c.older) (version_of c.schema c.current) book.read) in
    let sealed : AllByRecursion (λ (x : ListedFile). IsSegment c.schema (stored x.file) (told_file x) image.0) fs =
    all-map (λ (x : NewFile). IsSegment c.schema (stored x.file) x image.0) told_file fs
    (files_of_last (λ (x : NewFile). IsSegment c.schema (stored x.file) x image.0) (map (version_of c.schema) c.older) (version_of c.schema c.current) (book.images.files image.0 image.2)) in
    let seen : map part_seen f.snapshot.parts ≡ parts_of (rowsets_of (versions_of c).current) = parts-seen st.segments fs f.snapshot.parts are ∙ sym (parts_are c.current) in
    let many = older_is (view st.store) st.area st.end c b book.images in
    let floor : c.floor ≡ b.floor = holds.floor in
    let now : m ≡ b.current = current-at b f.snapshot.version m rows (omega arith) in
    let stands : StandsFor c.schema (live stored (map part_seen f.snapshot.parts)) m =
    subst (λ (ps : List Part). StandsFor c.schema (live stored ps) m) (sym seen) (subst (StandsFor c.schema (live stored (parts_of (rowsets_of (versions_of c).current)))) (sym now) holds.holds.current) in
    let places : (k : List Value) → is_among (touches f.load.ops) k ≡ true → IsPlaceOf c.schema (live stored (map part_seen f.snapshot.parts)) k (place_stored f.located (key_code c.schema k) None) = λ k among.
    let here : is_among keys.keys k ≡ true = keys.named k ∙ among in
    let at : place_stored f.located (key_code c.schema k) None ≡ index_of c k =
    stored-at c.schema c.codes f.located keys.keys k None kept keys.codes_are here ∙ sym (ap (λ (t : Truth). cond t (get c.codes (key_code c.schema k)) None) (fits-among c.schema keys.keys k keys.short here)) in
    subst (λ (o : Option Place). IsPlaceOf c.schema (live stored (map part_seen f.snapshot.parts)) k o) (sym at)
    (subst (λ (ps : List Part). IsPlaceOf c.schema (live stored ps) k (index_of c k)) (sym seen) (λ p. holds.holds.exact k p)) in
    record {
      snapshot = is;
      stored = stored;
      told = subst (λ (s : Layout). AreTold s stored f.snapshot.parts) (sym schema) (are-told c.schema stored image.0 st.segments fs f.snapshot.parts read sealed are);
      once = subst FilesOnce (sym seen) holds.holds.files;
      stands = subst (λ (s : Layout). StandsFor s (live stored (map part_seen f.snapshot.parts)) m) (sym schema) stands;
      places = λ k among. subst (λ (s : Layout). IsPlaceOf s (live stored (map part_seen f.snapshot.parts)) k (place_stored f.located (key_code s k) None)) (sym schema) (places k among);
    }

-- ---- the keys of lines are short

abbrev del : Op → Op
del op = Delete (key_named op)

short-deletes : (s : Layout) (ops : List Op) → All (λ op. published.IsShortKey s (key_named op)) ops → All (λ op. IsShortKey s (key_named op)) (map del ops)
short-deletes s [] h = All-nil (λ op. IsShortKey s (key_named op))
short-deletes s (op ∷ ops) h =
    All-cons (λ op. IsShortKey s (key_named op)) (del op) (map del ops) (let x = h 0 op (omega arith) in record { fits = x.fits; short = x.short })
    (short-deletes s ops (λ i d lt. h (suc i) d (omega arith)))

pub short-lines : (s : Layout) (load : Load) (lines : List Op) → IsLawful s load → lines ≡ map del load.ops → All (λ op. IsShortKey s (key_named op)) lines
short-lines s load lines lawful same = subst (All (λ op. IsShortKey s (key_named op))) (sym same) (short-deletes s load.ops (short-keys s load load.ops refl lawful))

-- ---- one key more

pub stored-more : (codes : CodeMap) (es : List CodeMove) (e : CodeMove) → AreStored codes es → e.1 ≡ get codes e.0 → AreStored codes (es ++ e ∷ [])
stored-more codes [] e h g = (g, tt)
stored-more codes (x ∷ es) e h g = (h.0, stored-more codes es e h.1 g)
