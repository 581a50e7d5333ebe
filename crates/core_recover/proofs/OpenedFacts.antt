-- A state over a store that was read, and whose other files were forgotten.
use Rattle.std.proofs.Common.{◌≡◌, ◌⊎◌, inl, inr, ⊎_elim, refl, ap, sym, subst, ◌∙◌, ℕ, zero, suc, ◌+◌, ◌<◌, ◌≤◌, List, [], ◌∷◌, map, length, Option, Some, None, is_some, IsTrue, Bool, true, false, arith}
use Rattle.std.specs.List.{AllByRecursion}
use Rattle.std.specs.Option.{option_map}
use Rattle.pk_values.specs.Schemas.{Layout}
use Rattle.dev_traits.specs.Image.{Image, area_of, file, with_files_of, Forgets}
use Rattle.dev_traits.specs.View.{View, Calm, EachImage, Leaves, LeavesOnly, Told}
use Rattle.dev_traits.proofs.Moments.{leaves_only_by, leaves_only_then}
use Rattle.gated_log.specs.Log.{EndsAt, IsReady, IsSettled, IsSynced}
use Rattle.pk_model.specs.Durable.{durable}
use Rattle.pk_model.specs.declared.books.Book.{Book}
use Rattle.rowsets.specs.Live.{Files}
use Rattle.rowsets.specs.Indexing.{CodeMap}
use Rattle.journal_form.specs.declared.records.NewFile.{NewFile}
use Rattle.journal_form.specs.Meaning.{Standing}
use Rattle.journal_form.specs.Versions.{Versions}
use Rattle.version_journal.specs.Areas.{area_of_epoch}
use Rattle.version_journal.specs.Images.{HasNoRecord, IsSaid}
use Rattle.version_journal.specs.Journals.{ReadsAs}
use Rattle.version_journal.specs.declared.journals.Journal.{Journal}
use Rattle.store_files.specs.Indexes.{CodesFindRows, LiveAreMoved, all_moved}
use Rattle.tablet_state.specs.Contents.{Contents}
use Rattle.tablet_state.specs.Holding.{IsTold}
use Rattle.tablet_state.specs.Opening.{IsRead}
use Rattle.tablet_state.specs.Stands.{Stands, all_versions, files_in}
use Rattle.tablet_state.specs.State.{AreReadAs, IsInHand, IsOpen, SegmentView, footers_of}
use Rattle.core_recover.specs.Areas.{BlanksEmpty, IsLike}
use Rattle.core_recover.specs.declared.replaying.Replayed.{Replayed}
use Rattle.core_recover.specs.Indexing.{numbers_in}
use Rattle.core_recover.specs.Reading.{HasFiles, IsIndexed, IsOpened, IsReadOf, ReadsFiles, contents, named}
use Rattle.core_recover.specs.Replaying.{IsReplayed, versions_in}
use Rattle.core_recover.proofs.AreaFacts.{blanks_like, told_after}
use Rattle.core_recover.proofs.OpenFacts.{forget_kept, free_file, left_stands, like_back, like_none, like_stands, read_kept, settled_still}
use Rattle.core_recover.proofs.CreateFacts.{calm_only, only_after}
use Rattle.core_recover.proofs.ReadingFacts.{below_next, index_there, moved_there, named_is, standing_is}
use Rattle.tablet_state.proofs.VersionFacts.{parts}
use Rattle.journal_form.specs.Versions.{files_of}

some_one : {X : Type 0} (x y : X) → Some x ≡ Some y → x ≡ y
some_one x y e = cc

-- what is read once files were forgotten
pub forgot_read : (ns : List ℕ) (u v : View) (after : Image) → v.seen ≡ option_map (with_files_of ns) u.seen → v.seen ≡ Some after → (before : Image) × ((u.seen ≡ Some before) × (after ≡ with_files_of ns before))
forgot_read ns u v after forgot told = go u.seen refl
  where
    apart : v.seen ≡ None → v.seen ≡ Some after → ⊥
    apart a b = cc

    go : (o : Option Image) → u.seen ≡ o → (before : Image) × ((u.seen ≡ Some before) × (after ≡ with_files_of ns before))
    go None e = absurd (apart (forgot ∙ ap (option_map (with_files_of ns)) e) told)
    go (Some before) e = (before, (e, some_one after (with_files_of ns before) (sym told ∙ forgot ∙ ap (option_map (with_files_of ns)) e)))

below_numbers : (segs : List SegmentView) (next : ℕ) → AllByRecursion (λ (g : SegmentView). g.number < next) segs → AllByRecursion (λ m. m < next) (numbers_in segs)
below_numbers [] next h = tt
below_numbers (g ∷ segs) next h = (h.0, below_numbers segs next h.1)

-- which numbers are free, and where the log ends
pub open_so : (r : Replayed) (codes : CodeMap) (s : Standing) (segs : List SegmentView) (ns : List ℕ) (journal : Journal) (u v : View) → ns ≡ numbers_in segs → IsReplayed r s → IsTold s → HasFiles r segs
    → Told u (ReadsAs journal (Some s)) → v.seen ≡ option_map (with_files_of ns) u.seen → IsReady journal.log.area journal.log.end v → IsOpen v journal.log.area journal.log.end (contents r codes) segs
open_so r codes s segs ns journal u v numbers is told has reads forgot ready =
    let below = below_next r s segs is told has in
    record {
      log = λ after seen. let w = forgot_read ns u v after forgot seen in
          let read = reads w.0 w.1.0 in
          (read.bodies, subst (λ (i : Image). EndsAt read.bodies journal.log.end (area_of i journal.log.area)) (sym w.1.1) read.ends);
      ready = ready;
      free = λ after seen number le. let w = forgot_read ns u v after forgot seen in
          ap (λ (i : Image). file i number) w.1.1 ∙ free_file ns w.0 r.next_file number (subst (AllByRecursion (λ m. m < r.next_file)) (sym numbers) (below_numbers segs r.next_file below)) le;
      numbered = below;
    }

-- the files that a standing names, in the words of what was replayed
in_words : (P : NewFile → Type 0) (r : Replayed) (m : Standing) → IsReplayed r m → AllByRecursion P (named r) → AllByRecursion P (files_in (all_versions m.versions))
in_words P r m is h = subst (λ (vs : Versions). AllByRecursion P (files_in (all_versions vs))) (sym is.versions) (subst (AllByRecursion P) (sym (named_is r)) h)

in_hand_words : (r : Replayed) (m : Standing) (segs : List SegmentView) → IsReplayed r m → HasFiles r segs → AllByRecursion (IsInHand (footers_of segs)) (files_in (all_versions m.versions))
in_hand_words r m segs is has = in_words (IsInHand (footers_of segs)) r m is has.in_hand

-- while files are forgotten each image stands for the book
pub forget_stands : (r : Replayed) (segs : List SegmentView) (ns : List ℕ) (s : Layout) (b : Book) (image d i : Image) → ns ≡ numbers_in segs → (stands : Stands s b image) → IsReplayed r stands.standing → HasFiles r segs → IsLike image d → Forgets ns d i
    → Stands s (durable b) i
forget_stands r segs ns s b image d i numbers stands is has like forgets =
    left_stands s b image i stands (λ a lt. go a (like.areas a lt))
    (forget_kept segs ns numbers (files_in (all_versions stands.standing.versions)) image d i (in_hand_words r stands.standing segs is has) like forgets)
  where
    go : (a : ℕ) → (area_of d a ≡ area_of image a) ⊎ ((area_of image a ≡ []) × (area_of d a ≡ 0 ∷ [])) → (area_of i a ≡ area_of image a) ⊎ ((area_of image a ≡ []) × (area_of i a ≡ 0 ∷ []))
    go a (inl same) = inl (forgets.areas a ∙ same)
    go a (inr blank) = inr (blank.0, forgets.areas a ∙ blank.1)

-- the state was read of an image that stands for the book
module _ (r : Replayed) (codes : CodeMap) (segs : List SegmentView) (ns : List ℕ) (journal : Journal) (u v : View) (numbers : ns ≡ numbers_in segs) (has : HasFiles r segs)
    (moved_law : LiveAreMoved) (found_law : CodesFindRows) (b : Book) (image mid : Image) (like : IsLike image mid) (seen : u.seen ≡ Some mid) (forgot : v.seen ≡ option_map (with_files_of ns) u.seen) (honest : IsTrue v.is_honest)
    (call : Leaves (Forgets ns) u v) (synced : (a : ℕ) → a < 2 → IsSynced a u) (m : Standing) (said : Told u (ReadsAs journal (Some m))) (epoch : m.epoch ≡ 0)
    (settled : (bodies : List (List ℕ)) × IsSettled journal.log.area bodies journal.log.end v) where
  pub opened_here : (stands : Stands r.schema b image) → IsReplayed r stands.standing → AreReadAs r.schema stands.stored segs (named r) → IsIndexed r stands.stored codes
      → IsOpened v journal.log.area journal.log.end (contents r codes) segs r.schema (durable b)
  opened_here stands is reads indexed = record {
    schema = refl;
    image = with_files_of ns mid;
    read = record {
      honest = honest;
      reads = forgot ∙ ap (option_map (with_files_of ns)) seen;
      synced = λ a lt left may. let from = call.now left may in from.2.areas a ∙ synced a lt mid seen from.0 from.1;
      stands = left_stands r.schema b image (with_files_of ns mid) stands like.areas
          (read_kept segs ns numbers (files_in (all_versions stands.standing.versions)) image mid (in_hand_words r stands.standing segs is has) like);
      same = sym (standing_is r codes stands.standing is);
      in_force = (said mid seen).counted.area ∙ ap area_of_epoch epoch;
      bodies = settled.0;
      settled = settled.1;
      read = subst (AreReadAs r.schema stands.stored segs) (sym (named_is r)) reads;
      moved = all_moved r.schema stands.stored (parts (files_of r.current));
      places = moved_there r r.schema b image stands is moved_law;
      index = index_there r r.schema b image stands is has.schema found_law codes indexed;
      plan = refl;
    };
  }

  pub opened_so : (s : Layout) (stands : Stands s b image) → IsReadOf r segs codes s stands.standing stands.stored → IsOpened v journal.log.area journal.log.end (contents r codes) segs s (durable b)
  opened_so s stands read = by s read.schema stands read
    where
      Goal : Layout → Type 0
      Goal x = (stands : Stands x b image) → IsReadOf r segs codes x stands.standing stands.stored → IsOpened v journal.log.area journal.log.end (contents r codes) segs x (durable b)

      by : (x : Layout) → r.schema ≡ x → Goal x
      by x e = subst Goal e (λ stands read. opened_here stands read.means read.reads read.indexed)

-- each image of the book before
pub like_book : (u v : View) (image : Image) (s : Layout) (b : Book) → Stands s b image → LeavesOnly (λ left. u.may_leave left ⊎ IsLike image left) u v → LeavesOnly (λ left. u.may_leave left ⊎ Stands s (durable b) left) u v
like_book u v image s b stands only =
    leaves_only_by (λ left. u.may_leave left ⊎ IsLike image left) (λ left. u.may_leave left ⊎ Stands s (durable b) left) u v only (λ i h. ⊎_elim (λ may. inl may) (λ like. inr (like_stands s b image i stands like)) h)

-- ---- at each moment

pub from_calm : (P : Image → Type 0) (u v w : View) → Calm u v → LeavesOnly (λ left. v.may_leave left ⊎ P left) v w → LeavesOnly (λ left. u.may_leave left ⊎ P left) u w
from_calm P u v w calm only = only_after (λ left. u.may_leave left ⊎ P left) u v w calm
    (leaves_only_by (λ left. v.may_leave left ⊎ P left) (λ left. u.may_leave left ⊎ P left) v w only (λ i h. ⊎_elim (λ may. inl ((calm.now i).0 may)) (λ is. inr is) h))

pub at_first : (P : Image → Type 0) (u v : View) → ((i : Image) → u.might_since u.moment i → u.may_leave i) → Calm u v → LeavesOnly (λ left. u.may_leave left ⊎ P left) u v
at_first P u v only calm = calm_only (λ left. u.may_leave left ⊎ P left) u v only calm (λ i may. inl may)

pub while_kept : (r : Replayed) (segs : List SegmentView) (ns : List ℕ) (s : Layout) (b : Book) (image : Image) (u v w : View) → ns ≡ numbers_in segs → (stands : Stands s b image) → IsReplayed r stands.standing → HasFiles r segs
    → LeavesOnly (λ left. u.may_leave left ⊎ Stands s (durable b) left) u v → EachImage v (IsLike image) → Leaves (Forgets ns) v w → LeavesOnly (λ left. u.may_leave left ⊎ Stands s (durable b) left) u w
while_kept r segs ns s b image u v w numbers stands is has so_far like call =
    leaves_only_then (Forgets ns) (λ left. u.may_leave left ⊎ Stands s (durable b) left) u v w so_far call (λ d i may forgets. inr (forget_stands r segs ns s b image d i numbers stands is has (like d may) forgets))

pub like_none_book : (u v : View) (image : Image) → HasNoRecord image → LeavesOnly (λ left. u.may_leave left ⊎ IsLike image left) u v → LeavesOnly (λ left. u.may_leave left ⊎ HasNoRecord left) u v
like_none_book u v image none only =
    leaves_only_by (λ left. u.may_leave left ⊎ IsLike image left) (λ left. u.may_leave left ⊎ HasNoRecord left) u v only (λ i h. ⊎_elim (λ may. inl may) (λ like. inr (like_none image i like none)) h)

-- ---- the store as it was settled and read

pub synced_calm : (a : ℕ) (u v : View) → Calm u v → IsSynced a u → IsSynced a v
synced_calm a u v calm synced image told left may = synced image (sym calm.seen ∙ told) left ((calm.now left).0 may)

pub none_each : (v : View) (image : Image) → HasNoRecord image → EachImage v (IsLike image) → EachImage v HasNoRecord
none_each v image none like left may = like_none image left (like left may) none

-- from the store handed in to the one that is read: what stands there, and at every moment
pub record IsSettledFrom (u v w : View) : Type 0 where
  pub calm : Calm u v
  pub tells : is_some w.seen ≡ is_some v.seen
  pub seen : Told v (λ before. Told w (BlanksEmpty before))
  pub like : IsTrue v.is_honest → Told v (λ image. EachImage w (IsLike image))
  pub moments : IsTrue v.is_honest → Told v (λ image. LeavesOnly (λ left. v.may_leave left ⊎ IsLike image left) v w)

module _ (u v w : View) (p : IsSettledFrom u v w) (image : Image) (told : u.seen ≡ Some image) where
  pub told_one : v.seen ≡ Some image
  told_one = p.calm.seen ∙ told

  honest_one : IsTrue u.is_honest → IsTrue v.is_honest
  honest_one honest = subst (λ (b : Bool). IsTrue b) (sym p.calm.honest) honest

  abbrev pub mid : (image : Image) × (w.seen ≡ Some image)
  mid = told_after v w image p.tells told_one

  pub settled_blanks : BlanksEmpty image mid.0
  settled_blanks = p.seen image told_one mid.0 mid.1

  pub mid_like : IsLike image mid.0
  mid_like = blanks_like image mid.0 (p.seen image told_one mid.0 mid.1)

  abbrev pub mid_stands : (s : Layout) (b : Book) → Stands s b image → Stands s (durable b) mid.0
  mid_stands s b stands = like_stands s b image mid.0 stands mid_like

  pub each_like : IsTrue u.is_honest → EachImage w (IsLike image)
  each_like honest = p.like (honest_one honest) image told_one

  pub settled_moments : IsTrue u.is_honest → LeavesOnly (λ left. u.may_leave left ⊎ IsLike image left) u w
  settled_moments honest = from_calm (IsLike image) u v w p.calm (p.moments (honest_one honest) image told_one)

-- an image without a record was one before
pub empty_before : (u v w : View) → IsSettledFrom u v w → Told w HasNoRecord → Told u HasNoRecord
empty_before u v w p none image told =
    let m = told_after v w image p.tells (p.calm.seen ∙ told) in
    like_back image m.0 (blanks_like image m.0 (p.seen image (p.calm.seen ∙ told) m.0 m.1)) (none m.0 m.1)
