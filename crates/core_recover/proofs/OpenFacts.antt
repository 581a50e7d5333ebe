-- Images that are like the one that is read, and the store that is left.
use Rattle.std.proofs.Common.{◌≡◌, ◌⊎◌, inl, inr, ⊎_elim, refl, ap, sym, subst, ◌∙◌, ℕ, zero, suc, ◌+◌, ◌<◌, ◌≤◌, List, [], ◌∷◌, ◌++◌, map, length, get_or, slice_get, Option, Some, None, IsTrue, Bool, true, false, ◌==◌, ◌||◌, if◌then◌else◌, cond, Contains, unwrap_or, arith}
use Rattle.std.specs.List.{AllByRecursion, list_any}
use Rattle.std.specs.List.Sorted.{IsStrictlyIncreasing}
use Rattle.std.specs.Option.{option_map}
use Rattle.std.specs.FinMap.{get, get-retain_keys, nat_cmp-IsAntisymmetric}
use Rattle.std.specs.Ordering.{eq_by_cmp, is_eq, nat_cmp}
use Rattle.std.proofs.lemmas.Bool.{eq-eqb, eqb-true, ne_eqb}
use Rattle.std.proofs.lemmas.Option.{slice_get_within, unwrap_or-slice_get}
use Rattle.pk_values.specs.Schemas.{Layout}
use Rattle.pk_values.specs.declared.cells.Value.{Value}
use Rattle.column_page.specs.declared.footers.Footer.{Footer}
use Rattle.dev_traits.specs.Image.{Image, area_of, file, with_files_of, Forgets}
use Rattle.dev_traits.specs.View.{View, EachImage, Leaves, LeavesOnly, Told}
use Rattle.gated_log.specs.Log.{EndsAt, HasNone, IsLog, IsReady, IsSettled, IsSynced}
use Rattle.pk_model.specs.Durable.{durable}
use Rattle.pk_model.specs.declared.books.Book.{Book}
use Rattle.segment_form.specs.Segments.{segment_file}
use Rattle.rowsets.specs.Live.{Files}
use Rattle.rowsets.specs.Marks.{Rises}
use Rattle.journal_form.specs.declared.records.NewFile.{NewFile}
use Rattle.journal_form.specs.Meaning.{Standing}
use Rattle.journal_form.specs.Versions.{Versions}
use Rattle.version_journal.specs.Areas.{area_of_epoch, other_area}
use Rattle.version_journal.specs.Images.{HasNoRecord, IsMeant, IsSaid}
use Rattle.tablet_state.specs.Stands.{AreSegments, IsSegment, Stands, all_versions, files_in}
use Rattle.tablet_state.specs.State.{IsInHand, SegmentView, footer_at, footers_of}
use Rattle.core_recover.specs.Areas.{IsLike}
use Rattle.core_recover.specs.Indexing.{numbers_in}
use Rattle.core_recover.proofs.NamingFacts.{eq_is}

-- ---- areas

pub no_log : (bodies : List (List ℕ)) → IsLog bodies [] → bodies ≡ []
no_log [] h = refl
no_log (body ∷ bodies) h = let e = h.1 in absurd (cc e)

closed : ◌≡◌ {A = ℕ} 0 165 → ⊥
closed e = absurd (omega arith)

pub log_like : (log : List (List ℕ)) (was now : List ℕ) → (now ≡ was) ⊎ ((was ≡ []) × (now ≡ 0 ∷ [])) → IsLog log was → IsLog log now
log_like log was now (inl same) is = subst (IsLog log) (sym same) is
log_like log was now (inr (none, blank)) is =
    let empty : log ≡ [] = no_log log (subst (IsLog log) none is) in
    subst (λ (l : List (List ℕ)). IsLog l now) (sym empty) (subst HasNone (sym blank) closed)

pub none_like : (was now : List ℕ) → (now ≡ was) ⊎ ((was ≡ []) × (now ≡ 0 ∷ [])) → HasNone was → HasNone now
none_like was now (inl same) is = subst HasNone (sym same) is
none_like was now (inr (none, blank)) is = subst HasNone (sym blank) closed

none_back : (was now : List ℕ) → (now ≡ was) ⊎ ((was ≡ []) × (now ≡ 0 ∷ [])) → HasNone now → HasNone was
none_back was now (inl same) is = subst HasNone same is
none_back was now (inr (none, blank)) is = subst HasNone (sym none) tt

pub like_none : (image left : Image) → IsLike image left → HasNoRecord image → HasNoRecord left
like_none image left like none = (none_like (area_of image 0) (area_of left 0) (like.areas 0 (omega arith)) none.0, none_like (area_of image 1) (area_of left 1) (like.areas 1 (omega arith)) none.1)

pub like_back : (image left : Image) → IsLike image left → HasNoRecord left → HasNoRecord image
like_back image left like none = (none_back (area_of image 0) (area_of left 0) (like.areas 0 (omega arith)) none.0, none_back (area_of image 1) (area_of left 1) (like.areas 1 (omega arith)) none.1)

pub epoch_area : (e : ℕ) → area_of_epoch e < 3
epoch_area e = omega arith

pub other_small : (e : ℕ) → other_area e < 3
other_small e = omega arith

pub said_like : (image left : Image) (m : Standing) → ((a : ℕ) → a < 3 → (area_of left a ≡ area_of image a) ⊎ ((area_of image a ≡ []) × (area_of left a ≡ 0 ∷ []))) → IsSaid image m → IsSaid left m
said_like image left m like said = record {
  meant = record {
    log = said.meant.log;
    other = said.meant.other;
    is_log = log_like said.meant.log (area_of image (area_of_epoch m.epoch)) (area_of left (area_of_epoch m.epoch)) (like (area_of_epoch m.epoch) (epoch_area m.epoch)) said.meant.is_log;
    other_log = log_like said.meant.other (area_of image (other_area m.epoch)) (area_of left (other_area m.epoch)) (like (other_area m.epoch) (other_small m.epoch)) said.meant.other_log;
    means = said.meant.means;
    before = said.meant.before;
  };
  built = said.built;
}

-- ---- files

pub segments_kept : (s : Layout) (stored : Files) (fs : List NewFile) (image left : Image) → AllByRecursion (λ (f : NewFile). (bytes : List ℕ) → file image f.file ≡ Some bytes → file left f.file ≡ Some bytes) fs
    → AreSegments s stored fs image → AreSegments s stored fs left
segments_kept s stored [] image left same h = tt
segments_kept s stored (f ∷ fs) image left same h =
    (record { lawful = h.0.lawful; spelled = same.0 (segment_file s (stored f.file)) h.0.spelled; counted = h.0.counted }, segments_kept s stored fs image left same.1 h.1)

abbrev pub left_stands : (s : Layout) (b : Book) (image left : Image) (stands : Stands s b image) → ((a : ℕ) → a < 3 → (area_of left a ≡ area_of image a) ⊎ ((area_of image a ≡ []) × (area_of left a ≡ 0 ∷ [])))
    → AllByRecursion (λ (f : NewFile). (bytes : List ℕ) → file image f.file ≡ Some bytes → file left f.file ≡ Some bytes) (files_in (all_versions stands.standing.versions)) → Stands s (durable b) left
left_stands s b image left stands like same = record {
  standing = stands.standing;
  meant = said_like image left stands.standing like stands.meant;
  stored = stands.stored;
  files = segments_kept s stands.stored (files_in (all_versions stands.standing.versions)) image left same stands.files;
  book = record {
    schemas = stands.book.schemas;
    floor = stands.book.floor;
    older = stands.book.older;
    current = stands.book.current;
    rowsets = stands.book.rowsets;
    older_short = stands.book.older_short;
    short = stands.book.short;
  };
}

abbrev pub every : (P : NewFile → Type 0) (fs : List NewFile) → ((f : NewFile) → P f) → AllByRecursion P fs
every P [] h = tt
every P (f ∷ fs) h = (h f, every P fs h)

abbrev pub like_stands : (s : Layout) (b : Book) (image left : Image) → Stands s b image → IsLike image left → Stands s (durable b) left
like_stands s b image left stands like =
    left_stands s b image left stands like.areas
    (every (λ (f : NewFile). (bytes : List ℕ) → file image f.file ≡ Some bytes → file left f.file ≡ Some bytes) (files_in (all_versions stands.standing.versions)) (λ f bytes is. like.files f.file bytes is))

-- ---- files that are kept

pub among_numbers : (gs : List SegmentView) (n : ℕ) (f : Footer) → footer_at (footers_of gs) n ≡ Some f → (i : ℕ) × (slice_get (numbers_in gs) i ≡ Some n)
among_numbers [] n f is = absurd (cc is)
among_numbers (g ∷ gs) n f is = go (g.number == n) refl is (among_numbers gs n f)
  where
    go : (b : Bool) → (g.number == n) ≡ b → (if b then Some g.footer else footer_at (footers_of gs) n) ≡ Some f → (footer_at (footers_of gs) n ≡ Some f → (i : ℕ) × (slice_get (numbers_in gs) i ≡ Some n)) → (i : ℕ) × (slice_get (numbers_in (g ∷ gs)) i ≡ Some n)
    go true e k more = (0, ap Some (eqb-true g.number n e))
    go false e k more = let w = more k in (suc w.0, w.1)

pub contained : (ns : List ℕ) (i n : ℕ) → slice_get ns i ≡ Some n → Contains ns n
contained ns i n is = (i, slice_get_within ns i n is, sym (unwrap_or-slice_get ns i n) ∙ ap (λ (o : Option ℕ). unwrap_or o n) is)

pub listed_any : (ns : List ℕ) (i n : ℕ) → slice_get ns i ≡ Some n → list_any (eq_by_cmp nat_cmp n) ns ≡ true
listed_any [] i n is = absurd (cc is)
listed_any (m ∷ ns) zero n is =
    let same : m ≡ n = cc in
    ap (λ (b : Bool). b || list_any (eq_by_cmp nat_cmp n) ns) (eq_is n m ∙ eq-eqb n m (sym same))
listed_any (m ∷ ns) (suc i) n is = go (eq_by_cmp nat_cmp n m) (listed_any ns i n is)
  where
    go : (b : Bool) → list_any (eq_by_cmp nat_cmp n) ns ≡ true → (b || list_any (eq_by_cmp nat_cmp n) ns) ≡ true
    go true h = refl
    go false h = h

none_any : (ns : List ℕ) (next n : ℕ) → AllByRecursion (λ m. m < next) ns → next ≤ n → list_any (eq_by_cmp nat_cmp n) ns ≡ false
none_any [] next n below le = refl
none_any (m ∷ ns) next n below le =
    let lt = below.0 in
    ap (λ (b : Bool). b || list_any (eq_by_cmp nat_cmp n) ns) (eq_is n m ∙ ne_eqb n m (λ e. absurd (omega arith))) ∙ none_any ns next n below.1 le

pub file_of : (ns : List ℕ) (image : Image) (n : ℕ) → file (with_files_of ns image) n ≡ cond (list_any (eq_by_cmp nat_cmp n) ns) (file image n) None
file_of ns image n = get-retain_keys image.files (λ m. list_any (eq_by_cmp nat_cmp m) ns) n (λ x same. ap (λ (m : ℕ). list_any (eq_by_cmp nat_cmp m) ns) (sym (nat_cmp-IsAntisymmetric n x same)))

pub kept_file : (ns : List ℕ) (image : Image) (i n : ℕ) → slice_get ns i ≡ Some n → file (with_files_of ns image) n ≡ file image n
kept_file ns image i n is = file_of ns image n ∙ ap (λ (b : Bool). cond b (file image n) None) (listed_any ns i n is)

pub free_file : (ns : List ℕ) (image : Image) (next n : ℕ) → AllByRecursion (λ m. m < next) ns → next ≤ n → file (with_files_of ns image) n ≡ None
free_file ns image next n below le = file_of ns image n ∙ ap (λ (b : Bool). cond b (file image n) None) (none_any ns next n below le)

module _ (segs : List SegmentView) (ns : List ℕ) (numbers : ns ≡ numbers_in segs) where
  pub at_number : (f : NewFile) → IsInHand (footers_of segs) f → (i : ℕ) × (slice_get ns i ≡ Some f.file)
  at_number f hand = let w = among_numbers segs f.file hand.footer hand.there in (w.0, ap (λ (xs : List ℕ). slice_get xs w.0) numbers ∙ w.1)

  pub forget_kept : (fs : List NewFile) (image d i : Image) → AllByRecursion (IsInHand (footers_of segs)) fs → IsLike image d → Forgets ns d i
      → AllByRecursion (λ (f : NewFile). (bytes : List ℕ) → file image f.file ≡ Some bytes → file i f.file ≡ Some bytes) fs
  forget_kept [] image d i hand like is = tt
  forget_kept (f ∷ fs) image d i hand like is =
      let at = at_number f hand.0 in
      (λ bytes told. is.kept f.file (contained ns at.0 f.file at.1) ∙ like.files f.file bytes told, forget_kept fs image d i hand.1 like is)

  pub read_kept : (fs : List NewFile) (image d : Image) → AllByRecursion (IsInHand (footers_of segs)) fs → IsLike image d
      → AllByRecursion (λ (f : NewFile). (bytes : List ℕ) → file image f.file ≡ Some bytes → file (with_files_of ns d) f.file ≡ Some bytes) fs
  read_kept [] image d hand like = tt
  read_kept (f ∷ fs) image d hand like =
      let at = at_number f hand.0 in
      (λ bytes told. kept_file ns d at.0 f.file at.1 ∙ like.files f.file bytes told, read_kept fs image d hand.1 like)

-- numbers that rise, one by one
pub rises_each : (ns : List ℕ) → Rises ns → IsStrictlyIncreasing ns
rises_each [] h k lt = absurd (omega arith)
rises_each (n ∷ []) h k lt = absurd (omega arith)
rises_each (n ∷ m ∷ ns) h zero lt = h.0
rises_each (n ∷ m ∷ ns) h (suc k) lt =
    let e : suc (k + 1) ≡ suc k + 1 = omega arith in
    subst (λ (j : ℕ). get_or (n ∷ m ∷ ns) (suc k) 0 < get_or (n ∷ m ∷ ns) j 0) e (rises_each (m ∷ ns) h.1 k (omega arith))

-- ---- the journal's log, once files were forgotten

pub settled_still : (ns : List ℕ) (u v : View) (area end : ℕ) (bodies : List (List ℕ)) → v.is_honest ≡ u.is_honest → Leaves (Forgets ns) u v → IsSettled area bodies end u → IsSettled area bodies end v
settled_still ns u v area end bodies honest call settled = record {
  honest = subst (λ (b : Bool). IsTrue b) (sym honest) settled.honest;
  each = λ left may. let from = call.now left may in subst (EndsAt bodies end) (sym (from.2.areas area)) (settled.each from.0 from.1);
}
