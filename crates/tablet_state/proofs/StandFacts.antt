-- Which book images stand for.
use Rattle.std.proofs.Common.{◌≡◌, inl, inr, ⊎_elim, refl, ap, sym, subst, ◌∙◌, ℕ, ◌+◌, ◌<◌, ◌≤◌, List, [], ◌∷◌, ◌++◌, map, length, Option, Some, None, Bool, true, false, ◌||◌, ◌==◌, nat_lt, if◌then◌else◌, cond, arith, not}
use Rattle.std.specs.List.{list_any, AllByRecursion}
use Rattle.std.proofs.lemmas.Bool.{and_parts, eq-eqb, eqb-true, ne_eqb, ltb-true}
use Rattle.std.proofs.lemmas.List.{length-map}
use Rattle.pk_values.specs.Schemas.{Layout}
use Rattle.pk_values.specs.declared.cells.Value.{Value}
use Rattle.dev_traits.specs.Image.{Image}
use Rattle.pk_model.specs.declared.books.Book.{Book}
use Rattle.pk_model.specs.declared.books.Plan.{Plan}
use Rattle.pk_model.specs.declared.calls.Load.{Load}
use Rattle.pk_model.specs.declared.calls.Call.{Call}
use Rattle.pk_model.specs.declared.calls.Call.TheVariants as call
use Rattle.pk_model.specs.declared.calls.Reply.TheVariants as reply
use Rattle.pk_model.specs.Books.{answer, answer_unless, change, change_end, change_expire, change_unless, is_full, next, open_answer, open_change, plan_at, publish, version}
use Rattle.rowsets.specs.Live.{Version as Rowsets, Files, FilesOnce, Index, names, parts_of}
use Rattle.rowsets.specs.Merging.{with_files}
use Rattle.rowsets.proofs.IndexFacts.{places_make_index}
use Rattle.rowsets.proofs.BookFacts.{as_many_versions}
use Rattle.rowsets.proofs.WrittenFacts.{lower_files_stay}
use Rattle.journal_form.specs.declared.records.NewFile.{NewFile}
use Rattle.journal_form.specs.declared.records.DeadRows.{DeadRows}
use Rattle.journal_form.specs.declared.records.ListedFile.{ListedFile}
use Rattle.journal_form.specs.declared.records.Record.TheVariants.{Publish, Compact, Floor}
use Rattle.journal_form.specs.Versions.{Version, all_below, bound, current_number, files_of}
use Rattle.journal_form.specs.Meaning.{Standing, distinct, step, with_epoch}
use Rattle.journal_form.proofs.StepFacts.{gives_publish, steps}
use Rattle.journal_form.proofs.GoodFiles.{AreGood, numbers}
use Rattle.journal_form.proofs.Applied.{EachGood}
use Rattle.version_journal.specs.Images.{IsMeant}
use Rattle.pk_model.specs.Durable.{durable}
use Rattle.tablet_state.specs.Stands.{AreSegments, IsSegment, Stands, all_versions, files_in, rowsets_of, told_file}
use Rattle.tablet_state.specs.Holding.{Holds, IsTold, held, told_files}
use Rattle.tablet_state.specs.Turns.{HeldStands, AreNew, PublicationStands, CompactionStands, FloorStands, OpeningHolds, CheckpointHolds, PublishedIsAStep, ManyVersionsIsAStep, ClosedIsAStep}
use Rattle.tablet_state.proofs.VersionFacts.{parts, parts_are}
use Rattle.tablet_state.proofs.FileFacts.{all-append, files_grow}
use Rattle.tablet_state.proofs.HoldFacts.{good_of, publication_is_held, compaction_is_held, floor_is_held}

pub told_in : (image : Image) (m : Standing) → IsMeant image m → IsTold m
told_in image m meant = record { edit = meant.means.edit; opening = meant.means.opening; records = meant.means.records; means = meant.means.means }

pub held_stands : HeldStands
held_stands s stored m index plan b image holds meant files = record {
  standing = m;
  meant = meant;
  stored = stored;
  files = files;
  book = record { schemas = holds.schemas; floor = holds.floor; older = holds.holds.older; current = holds.holds.current; rowsets = holds.holds.rowsets; older_short = holds.holds.older_short; short = holds.holds.short };
}

-- ---- files that stay

all_below_one : (next : ℕ) (fs : List ListedFile) → all_below next (numbers fs) ≡ true → AllByRecursion (λ (f : NewFile). f.file < next) (map told_file fs)
all_below_one next [] h = tt
all_below_one next (f ∷ fs) h = let p = and_parts (nat_lt f.file next) (all_below next (numbers fs)) h in (ltb-true f.file next p.0, all_below_one next fs p.1)

files_below : (next : ℕ) (vs : List Version) → EachGood next vs → AllByRecursion (λ (f : NewFile). f.file < next) (files_in vs)
files_below next [] good = tt
files_below next (v ∷ vs) good = all-append (λ (f : NewFile). f.file < next) (map told_file (files_of v.rowsets)) (files_in vs) (all_below_one next (files_of v.rowsets) good.0.below) (files_below next vs good.1)

each_append : (next : ℕ) (vs : List Version) (v : Version) → EachGood next vs → AreGood next (files_of v.rowsets) → EachGood next (vs ++ v ∷ [])
each_append next [] v h g = (g, tt)
each_append next (w ∷ vs) v h g = (h.0, each_append next vs v h.1 g)

pub named_files_below : (m : Standing) → IsTold m → AllByRecursion (λ (f : NewFile). f.file < m.versions.next_file) (files_in (all_versions m.versions))
named_files_below m told = let good = good_of m told in files_below m.versions.next_file (all_versions m.versions) (each_append m.versions.next_file m.versions.older m.versions.current good.older good.current)

-- by what is stored under their numbers alone
segments_by : (s : Layout) (stored others : Files) (fs : List NewFile) (image : Image) → AllByRecursion (λ (f : NewFile). stored f.file ≡ others f.file) fs → AreSegments s stored fs image → AreSegments s others fs image
segments_by s stored others [] image same h = tt
segments_by s stored others (f ∷ fs) image same h = (subst (λ (rows : List (List Value)). IsSegment s rows f image) same.0 h.0, segments_by s stored others fs image same.1 h.1)

-- new files
told_from : (least first : ℕ) (files : List (List (List Value))) → least ≤ first → AllByRecursion (λ (f : NewFile). least ≤ f.file) (told_files first files)
told_from least first [] le = tt
told_from least first (rows ∷ files) le = (le, told_from least (first + 1) files (omega arith))

all_by : {X : Type 0} (P Q : X → Type 0) (xs : List X) → ((x : X) → P x → Q x) → AllByRecursion P xs → AllByRecursion Q xs
all_by P Q [] f h = tt
all_by P Q (x ∷ xs) f h = (f x h.0, all_by P Q xs f h.1)

pub new_segments : (s : Layout) (stored : Files) (first : ℕ) (files : List (List (List Value))) (image : Image) → AreNew s first files image → AreSegments s (with_files first files stored) (told_files first files) image
new_segments s stored first [] image h = tt
new_segments s stored first (rows ∷ files) image h = (
  subst (λ (xs : List (List Value)). IsSegment s xs (record { file = first; rows = length rows }) image) (sym (ap (λ b. cond b rows (with_files (first + 1) files stored first)) (eq-eqb first first refl))) h.0,
  segments_by s (with_files (first + 1) files stored) (with_files first (rows ∷ files) stored) (told_files (first + 1) files) image
      (all_by (λ (f : NewFile). first + 1 ≤ f.file) (λ (f : NewFile). with_files (first + 1) files stored f.file ≡ with_files first (rows ∷ files) stored f.file) (told_files (first + 1) files)
      (λ f le. sym (ap (λ b. cond b rows (with_files (first + 1) files stored f.file)) (ne_eqb f.file first (λ e. omega arith))))
      (told_from (first + 1) (first + 1) files (omega arith)))
      (new_segments s stored (first + 1) files image h.1),
)

segments_stay : (s : Layout) (stored : Files) (next first : ℕ) (files : List (List (List Value))) (fs : List NewFile) (image : Image) → next ≤ first → AllByRecursion (λ (f : NewFile). f.file < next) fs
    → AreSegments s stored fs image → AreSegments s (with_files first files stored) fs image
segments_stay s stored next first files [] image le below h = tt
segments_stay s stored next first files (f ∷ fs) image le below h =
    let lt : f.file < next = below.0 in
    (subst (λ (rows : List (List Value)). IsSegment s rows f image) (sym (lower_files_stay first f.file files stored (omega arith))) h.0, segments_stay s stored next first files fs image le below.1 h.1)

pub old_segments : (s : Layout) (stored : Files) (m : Standing) (first : ℕ) (files : List (List (List Value))) (image : Image) → IsTold m → m.versions.next_file ≤ first
    → AreSegments s stored (files_in (all_versions m.versions)) image → AreSegments s (with_files first files stored) (files_in (all_versions m.versions)) image
old_segments s stored m first files image told le h = segments_stay s stored m.versions.next_file first files (files_in (all_versions m.versions)) image le (named_files_below m told) h

-- ---- the book's change

pub opened_change : (s : Layout) (b : Book) (seq : ℕ) (c : Call) → b.closed ≡ None → change s b seq c ≡ open_change s b seq c
opened_change s b seq c none = ap (λ (o : Option ℕ). change_unless o b (open_change s b seq c)) none

pub opened_answer : (b : Book) (c : Call) → b.closed ≡ None → answer b c ≡ open_answer b c
opened_answer b c none = ap (λ (o : Option ℕ). answer_unless o (open_answer b c)) none

pub load_change : (s : Layout) (b : Book) (seq : ℕ) (load : Load) (full : Bool) → b.closed ≡ None → is_full b ≡ full → change s b seq (call.Load load) ≡ (if full then b else publish s b load)
load_change s b seq load full none is = opened_change s b seq (call.Load load) none ∙ ap (λ (f : Bool). if f then b else publish s b load) is

pub load_answer : (b : Book) (load : Load) (full : Bool) → b.closed ≡ None → is_full b ≡ full → answer b (call.Load load) ≡ (if full then reply.ManyVersions else reply.Published (version b + 1))
load_answer b load full none is = opened_answer b (call.Load load) none ∙ ap (λ (f : Bool). if f then reply.ManyVersions else reply.Published (version b + 1)) is

plan_here : (b : Book) (p : Plan) → b.plan ≡ Some p → plan_at b.plan p.place ≡ Some p
plan_here b p is = ap (λ (o : Option Plan). plan_at o p.place) is ∙ ap (λ (t : Bool). if t then Some p else None) (eq-eqb p.place p.place refl)

pub end_change : (s : Layout) (b : Book) (seq : ℕ) (p : Plan) → b.closed ≡ None → b.plan ≡ Some p → change s b seq (call.End p.place) ≡ change_end b (Some p)
end_change s b seq p none is = opened_change s b seq (call.End p.place) none ∙ ap (change_end b) (plan_here b p is)

-- what a record of a load tells of the book
module _ (s : Layout) (stored : Files) (m t : Standing) (index : Index) (plan : Option Rowsets) (b : Book) (holds : Holds s stored m index plan b) where
  pub many : length m.versions.older ≡ length b.older
  many = sym (length-map m.versions.older rowsets_of) ∙ as_many_versions s (λ v. stored) (held m.versions index plan) b holds.holds

  at_floor : m.versions.floor ≡ b.floor
  at_floor = holds.floor

  not_many : (n : ℕ) → n ≡ length b.older → n + 1 < 1000 → is_full b ≡ false
  not_many n same lt = go (is_full b) refl
    where
      go : (c : Bool) → is_full b ≡ c → c ≡ false
      go false e = refl
      go true e = let f = eqb-true (length b.older + 1) 1000 e in absurd (omega arith)

  pub due : (version_ : ℕ) (files : List NewFile) (changed : List DeadRows) → step m (Publish version_ files changed) ≡ Some t → (is_full b ≡ false) × (version_ ≡ version b + 1)
  due version_ files changed st =
      let g = gives_publish (m.edit + 1) version_ files changed m t (steps m t (Publish version_ files changed) st).1 in
      let one = and_parts (version_ == current_number m.versions + 1) _ g.fits in
      let two = and_parts (nat_lt version_ bound) _ one.1 in
      let three = and_parts (nat_lt (length m.versions.older + 1) 1000) _ two.1 in
      let is = eqb-true version_ (current_number m.versions + 1) one.0 in
      let few = ltb-true (length m.versions.older + 1) 1000 three.0 in
      let same = many in
      let floor = at_floor in
      (not_many (length m.versions.older) same few, omega arith)

pub publication_stands : PublicationStands
publication_stands s stored m t index plan b seq load version_ first files changed moves image holds none le st p means =
    let now : Files = with_files first files stored in
    let old = old_segments s stored m first files image holds.told le means.old in
    let left : change s b seq (call.Load load) ≡ publish s b load = load_change s b seq load false none (due s stored m t index plan b holds version_ (told_files first files) changed st).0 in
    ⊎_elim (λ meant. inl (held_stands s stored m index plan b image holds meant means.old))
    (λ meant. inr (subst (λ (x : Book). Stands s (durable x) image) (sym left)
    (held_stands s now t _ plan (publish s b load) image (publication_is_held s stored m t index plan b load version_ first files changed moves holds le st p) meant.0
    (files_grow (λ (f : NewFile). IsSegment s (now f.file) f image) m t old (Publish version_ (told_files first files) changed) st (new_segments s stored first files image meant.1)))))
    means.meant

pub compaction_stands : CompactionStands
compaction_stands s stored m t index begun b seq p version_ first files changed levels image holds none at_book le st merged means =
    let now : Files = with_files first files stored in
    let old = old_segments s stored m first files image holds.told le means.old in
    let left : change s b seq (call.End p.place) ≡ change_end b (Some p) = end_change s b seq p none at_book in
    ⊎_elim (λ meant. inl (held_stands s stored m index (Some begun) b image holds meant means.old))
    (λ meant. inr (subst (λ (x : Book). Stands s (durable x) image) (sym left)
    (held_stands s now t _ None (change_end b (Some p)) image (compaction_is_held s stored m t index begun b p version_ first files changed levels holds at_book le st merged).0 meant.0
    (files_grow (λ (f : NewFile). IsSegment s (now f.file) f image) m t old (Compact version_ (length begun) (told_files first files) changed levels) st (new_segments s stored first files image meant.1)))))
    means.meant

pub floor_stands : FloorStands
floor_stands s stored m t index plan b seq floor image holds none st means =
    let left : change s b seq (call.Expire floor) ≡ change_expire b floor = opened_change s b seq (call.Expire floor) none in
    ⊎_elim (λ meant. inl (held_stands s stored m index plan b image holds meant means.old))
    (λ meant. inr (subst (λ (x : Book). Stands s (durable x) image) (sym left)
    (held_stands s stored t index plan (change_expire b floor) image (floor_is_held s stored m t index plan b floor holds st) meant.0
    (files_grow (λ (f : NewFile). IsSegment s (stored f.file) f image) m t means.old (Floor floor) st tt))))
    means.meant

-- ---- opening

once_of : (fs : List ListedFile) → distinct (numbers fs) ≡ true → FilesOnce (parts fs)
once_of [] h = tt
once_of (f ∷ fs) h =
    let p = and_parts (not (list_any (λ m. m == f.file) (numbers fs))) (distinct (numbers fs)) h in
    (same fs f.file (list_any (λ m. m == f.file) (numbers fs)) refl p.0, once_of fs p.1)
  where
    among : (gs : List ListedFile) (n : ℕ) → names (parts gs) n ≡ list_any (λ m. m == n) (numbers gs)
    among [] n = refl
    among (g ∷ gs) n = ap (λ b. (g.file == n) || b) (among gs n)

    same : (gs : List ListedFile) (n : ℕ) (b : Bool) → list_any (λ m. m == n) (numbers gs) ≡ b → not b ≡ true → names (parts gs) n ≡ false
    same gs n true e g = absurd (cc g)
    same gs n false e g = among gs n ∙ e

version_once : (next : ℕ) (v : Version) → AreGood next (files_of v.rowsets) → FilesOnce (parts_of (rowsets_of v))
version_once next v good = subst FilesOnce (sym (parts_are v.rowsets)) (once_of (files_of v.rowsets) good.once)

versions_once : (next : ℕ) (vs : List Version) → EachGood next vs → AllByRecursion (λ (v : Rowsets). FilesOnce (parts_of v)) (map rowsets_of vs)
versions_once next [] good = tt
versions_once next (v ∷ vs) good = (version_once next v good.0, versions_once next vs good.1)

pub opening_holds : OpeningHolds
opening_holds s b image stands moved are =
    let m = stands.standing in
    let told = told_in image m stands.meant.meant in
    let good = good_of m told in
    record {
      told = told;
      schemas = stands.book.schemas;
      floor = stands.book.floor;
      holds = record {
        older = stands.book.older;
        current = stands.book.current;
        exact = places_make_index s _ b.current moved stands.book.current are;
        rowsets = stands.book.rowsets;
        plan = tt;
        older_files = versions_once m.versions.next_file m.versions.older good.older;
        files = version_once m.versions.next_file m.versions.current good.current;
        older_short = stands.book.older_short;
        short = stands.book.short;
      };
    }

pub checkpoint_holds : CheckpointHolds
checkpoint_holds s stored m index plan b image epoch holds meant = record { told = told_in image (with_epoch epoch m) meant; schemas = holds.schemas; floor = holds.floor; holds = holds.holds }

-- ---- replies

pub published_is_a_step : PublishedIsAStep
published_is_a_step s stored m t index plan b seq load version_ first files changed holds none st =
    let d = due s stored m t index plan b holds version_ (told_files first files) changed st in
    (inl (ap reply.Published d.1 ∙ sym (load_answer b load false none d.0)), refl)

pub many_versions_is_a_step : ManyVersionsIsAStep
many_versions_is_a_step s b seq load none full = (inl (sym (load_answer b load true none full)), load_change s b seq load true none full)

pub closed_is_a_step : ClosedIsAStep
closed_is_a_step s b seq place c is = (inl (sym (ap (λ (o : Option ℕ). answer_unless o (open_answer b c)) is)), ap (λ (o : Option ℕ). change_unless o b (open_change s b seq c)) is)
