-- What stands in a store that is left.
use Rattle.std.proofs.Common.{◌≡◌, ◌⊎◌, inl, inr, refl, ap, sym, subst, ◌∙◌, ℕ, zero, suc, List, [], ◌∷◌, Option, Some, None, slice_get, Result, Err, Bool, true, false, ◌||◌, cond}
use Rattle.std.specs.List.{AllByRecursion, list_any}
use Rattle.std.specs.FinMap.{get}
use Rattle.std.specs.Ordering.{eq_by_cmp, nat_cmp}
use Rattle.std.proofs.lemmas.Bool.{eqb-true, ne_eqb}
use Rattle.pk_values.specs.Schemas.{Layout}
use Rattle.dev_traits.specs.Image.{Image, area_of, file, with_files_of, Forgets, ForgetsSome, Same}
use Rattle.dev_traits.specs.View.{View, Calm, Told, EachImage, Leaves, LeavesOnly}
use Rattle.dev_traits.proofs.Moments.{calm_leaves, leaves_by}
use Rattle.dev_traits.specs.declared.faults.Damaged.{Damaged}
use Rattle.pk_model.specs.Durable.{durable}
use Rattle.pk_model.specs.declared.books.Book.{Book}
use Rattle.journal_form.specs.declared.records.NewFile.{NewFile}
use Rattle.journal_form.specs.Meaning.{Standing}
use Rattle.journal_form.specs.Versions.{Versions}
use Rattle.rowsets.specs.Indexing.{CodeMap}
use Rattle.rowsets.specs.Live.{Files}
use Rattle.journal_form.proofs.Parts.{some_is}
use Rattle.version_journal.specs.Images.{HasNoRecord, IsSaid}
use Rattle.version_journal.proofs.ReadImages.{says_one}
use Rattle.tablet_state.specs.Contents.{Contents}
use Rattle.tablet_state.specs.Stands.{AreSegments, Stands, all_versions, files_in}
use Rattle.tablet_state.specs.State.{IsInHand, SegmentView, footers_of}
use Rattle.core_recover.specs.Areas.{BlanksEmpty}
use Rattle.core_recover.specs.Damages.{kept_files}
use Rattle.core_recover.specs.Indexing.{numbers_in}
use Rattle.core_recover.specs.Keeping.{HoldsRecords, IsKeptOrForgotten, IsThere, IsUnforgotten, IsUnnamed, ReadsNamed, StillReads}
use Rattle.core_recover.specs.Naming.{IsAmong}
use Rattle.core_recover.specs.Opening.{IsWant}
use Rattle.core_recover.specs.Reading.{HasFiles, IsIndexed, IsReading, contents, named}
use Rattle.core_recover.specs.Replaying.{IsReplayed}
use Rattle.core_recover.specs.declared.faults.OpenFault.{OpenFault}
use Rattle.core_recover.specs.declared.faults.OpenFault.TheVariants as fault
use Rattle.core_recover.specs.declared.replaying.Replayed.{Replayed}
use Rattle.core_recover.proofs.AreaFacts.{none_blanked}
use Rattle.core_recover.proofs.AttachFacts.{all_one}
use Rattle.core_recover.proofs.NamingFacts.{eq_is}
use Rattle.core_recover.proofs.OpenFacts.{at_number, contained, every, file_of, kept_file, left_stands, listed_any, none_like, said_like, segments_kept}
use Rattle.core_recover.proofs.ReadingFacts.{named_is, standing_is}
use Rattle.core_recover.proofs.ToldFacts.{said_back, there_back}

pub some_one : {X : Type 0} (x y : X) → Some x ≡ Some y → x ≡ y
some_one x y e = cc

-- what holds of each image holds of the one that is read
pub read_each : (v : View) (P : Image → Type 0) → (image : Image) × (v.seen ≡ Some image) × v.may_leave image → EachImage v P → Told v P
read_each v P reads each image told = subst P (some_one reads.0 image (sym reads.1 ∙ told)) (each reads.0 reads.2)

-- ---- as it read before

pub still_blanks : (before after : Image) → BlanksEmpty before after → StillReads before after
still_blanks before after blanks = record { areas = blanks.areas; files = λ number. inl (ap (λ fs. get fs number) blanks.files) }

pub still_same : (u v : View) → v.seen ≡ u.seen → Told u (λ before. Told v (StillReads before))
still_same u v same before told after told' = still_blanks before after (none_blanked u v same before told after told')

-- what stood for a book stands for it, and what had no record has none
pub still_stands : (s : Layout) (b : Book) (before after : Image) → StillReads before after → Stands s b before → Stands s (durable b) after
still_stands s b before after still stands =
    left_stands s b before after stands (λ a lt. still.areas a) (kept (files_in (all_versions stands.standing.versions)) (λ i f at. (i, at)))
  where
    apart : (m : Standing) → IsSaid before m → (f : NewFile) → IsUnnamed (kept_files m) f.file → IsAmong (kept_files stands.standing) f.file f.rows → ⊥
    apart m said f none at =
        let same : m ≡ stands.standing = some_is m stands.standing (says_one before (Some m) (Some stands.standing) said stands.meant) in
        none f.rows (subst (λ (x : Standing). IsAmong (kept_files x) f.file f.rows) (sym same) at)

    one : (f : NewFile) → IsAmong (kept_files stands.standing) f.file f.rows → IsKeptOrForgotten before after f.file → (bytes : List ℕ) → file before f.file ≡ Some bytes → file after f.file ≡ Some bytes
    one f at (inl same) bytes told = same ∙ told
    one f at (inr (m, said, unnamed, none)) bytes told = absurd (apart m said f unnamed at)

    kept : (fs : List NewFile) → ((i : ℕ) (f : NewFile) → slice_get fs i ≡ Some f → IsAmong (kept_files stands.standing) f.file f.rows) → AllByRecursion (λ (f : NewFile). (bytes : List ℕ) → file before f.file ≡ Some bytes → file after f.file ≡ Some bytes) fs
    kept [] all = tt
    kept (f ∷ fs) all = (one f (all 0 f refl) (still.files f.file), kept fs (λ i g at. all (suc i) g at))

pub still_none : (before after : Image) → StillReads before after → HasNoRecord before → HasNoRecord after
still_none before after still none = (none_like (area_of before 0) (area_of after 0) (still.areas 0) none.0, none_like (area_of before 1) (area_of after 1) (still.areas 1) none.1)

-- ---- nothing is forgotten

forgets_same : (ns : List ℕ) (image : Image) → ForgetsSome ns image image
forgets_same ns image = record { forgets = record { areas = λ b. refl; kept = λ number within. refl }; others = λ number. inl refl }

pub calm_forgets : (ns : List ℕ) (u v : View) → Calm u v → Leaves (Forgets ns) u v
calm_forgets ns u v calm = leaves_by Same (Forgets ns) u v (calm_leaves u v calm) (λ d i left same. subst (Forgets ns d) (sym same) (forgets_same ns d).forgets)

pub forgets_none : (ns : List ℕ) (u v : View) → v.seen ≡ u.seen → Told u (λ before. Told v (ForgetsSome ns before))
forgets_none ns u v same before told after told' = subst (ForgetsSome ns before) (sym (some_one after before (sym told' ∙ same ∙ told))) (forgets_same ns before)

-- ---- files that are named

any_contains : (ns : List ℕ) (n : ℕ) → list_any (eq_by_cmp nat_cmp n) ns ≡ true → (i : ℕ) × (slice_get ns i ≡ Some n)
any_contains [] n h = absurd (cc h)
any_contains (m ∷ ns) n h = go (eq_by_cmp nat_cmp n m) refl h (any_contains ns n)
  where
    go : (b : Bool) → eq_by_cmp nat_cmp n m ≡ b → (b || list_any (eq_by_cmp nat_cmp n) ns) ≡ true → (list_any (eq_by_cmp nat_cmp n) ns ≡ true → (i : ℕ) × (slice_get ns i ≡ Some n)) → (i : ℕ) × (slice_get (m ∷ ns) i ≡ Some n)
    go true e k more = (0, ap Some (sym (eqb-true n m (sym (eq_is n m) ∙ e))))
    go false e k more = let w = more k in (suc w.0, w.1)

unnamed_any : (fs : List NewFile) (gs : List SegmentView) (n : ℕ) → IsUnnamed fs n → AllByRecursion (λ (g : SegmentView). (rows : ℕ) × IsAmong fs g.number rows) gs → list_any (eq_by_cmp nat_cmp n) (numbers_in gs) ≡ false
unnamed_any fs [] n none h = refl
unnamed_any fs (g ∷ gs) n none h =
    ap (λ (b : Bool). b || list_any (eq_by_cmp nat_cmp n) (numbers_in gs)) (eq_is n g.number ∙ ne_eqb n g.number (λ e. none h.0.0 (subst (λ (k : ℕ). IsAmong fs k h.0.0) (sym e) h.0.1)))
    ∙ unnamed_any fs gs n none h.1

-- the store that was read is left with the files of its kept versions
module _ (r : Replayed) (segs : List SegmentView) (ns : List ℕ) (numbers : ns ≡ numbers_in segs) (m : Standing) (is : IsReplayed r m) (has : HasFiles r segs) (before mid : Image) (blanks : BlanksEmpty before mid)
    (said : IsSaid mid m) where
  in_list : (number rows : ℕ) → IsAmong (named r) number rows → (i : ℕ) × (slice_get ns i ≡ Some number)
  in_list number rows among =
      at_number segs ns numbers (record { file = number; rows = rows }) (all_one (IsInHand (footers_of segs)) (named r) among.0 (record { file = number; rows = rows }) has.in_hand among.1)

  kept_are : kept_files m ≡ named r
  kept_are = ap (λ (vs : Versions). files_in (all_versions vs)) is.versions ∙ named_is r

  not_named : (number : ℕ) → list_any (eq_by_cmp nat_cmp number) ns ≡ false → IsUnnamed (kept_files m) number
  not_named number none rows among =
      let w = in_list number rows (subst (λ (fs : List NewFile). IsAmong fs number rows) kept_are among) in
      let yes = listed_any ns w.0 number w.1 in
      absurd (cc yes)

  same_file : (number : ℕ) → file mid number ≡ file before number
  same_file number = ap (λ fs. get fs number) blanks.files

  pub still_kept : (after : Image) → ForgetsSome ns mid after → StillReads before after
  still_kept after forgets = record { areas = λ a. area a (blanks.areas a); files = λ number. go number (list_any (eq_by_cmp nat_cmp number) ns) refl (forgets.others number) }
    where
      area : (a : ℕ) → (area_of mid a ≡ area_of before a) ⊎ ((area_of before a ≡ []) × (area_of mid a ≡ 0 ∷ [])) → (area_of after a ≡ area_of before a) ⊎ ((area_of before a ≡ []) × (area_of after a ≡ 0 ∷ []))
      area a (inl same) = inl (forgets.forgets.areas a ∙ same)
      area a (inr (none, blank)) = inr (none, forgets.forgets.areas a ∙ blank)

      go : (number : ℕ) (b : Bool) → list_any (eq_by_cmp nat_cmp number) ns ≡ b → (file after number ≡ file mid number) ⊎ (file after number ≡ None) → IsKeptOrForgotten before after number
      go number true e either = let w = any_contains ns number e in inl (forgets.forgets.kept number (contained ns w.0 number w.1) ∙ same_file number)
      go number false e (inl same) = inl (same ∙ same_file number)
      go number false e (inr none) = inr (m, said_back before mid m blanks said, not_named number e, none)

  pub held_so : (codes : CodeMap) (after : Image) → after ≡ with_files_of ns mid → AllByRecursion (IsThere r.schema mid) (named r) → HoldsRecords (contents r codes) before after
  held_so codes after left there = record {
    kept = m.kept;
    said = subst (IsSaid before) (standing_is r codes m is) (said_back before mid m blanks said);
    again = subst (IsSaid after) (standing_is r codes m is) (said_like mid after m (λ a lt. inl (ap (λ (i : Image). area_of i a) left)) said);
    there = subst (AllByRecursion (IsThere r.schema before)) (sym (named_is r)) (there_back r.schema (named r) before mid blanks there);
    same = subst (AllByRecursion (λ (f : NewFile). file after f.file ≡ file before f.file)) (sym (named_is r)) (all_same (named r) has.in_hand);
    plan = refl;
    others = λ number none. ap (λ (i : Image). file i number) left ∙ file_of ns mid number ∙ ap (λ (b : Bool). cond b (file mid number) None)
        (ap (list_any (eq_by_cmp nat_cmp number)) numbers ∙ unnamed_any (named r) segs number (subst (λ (fs : List NewFile). IsUnnamed fs number) (named_is r) none) has.only);
  }
    where
      all_same : (fs : List NewFile) → AllByRecursion (IsInHand (footers_of segs)) fs → AllByRecursion (λ (f : NewFile). file after f.file ≡ file before f.file) fs
      all_same [] h = tt
      all_same (f ∷ fs) h =
          let w = at_number segs ns numbers f h.0 in
          (ap (λ (i : Image). file i f.file) left ∙ kept_file ns mid w.0 f.file w.1 ∙ same_file f.file, all_same fs h.1)

-- what the segments read, and the codes
pub readers_so : (r : Replayed) (codes : CodeMap) (segs : List SegmentView) (before mid : Image) → BlanksEmpty before mid → HasFiles r segs → AllByRecursion (IsReading mid) segs
    → ((stored : Files) → AreSegments r.schema stored (named r) mid → IsIndexed r stored codes) → ReadsNamed (contents r codes) segs before
readers_so r codes segs before mid blanks has reading indexed = record {
  reading = back segs reading;
  rise = has.rise;
  in_hand = subst (AllByRecursion (IsInHand (footers_of segs))) (sym (named_is r)) has.in_hand;
  only = subst (λ (fs : List NewFile). AllByRecursion (λ (g : SegmentView). (rows : ℕ) × IsAmong fs g.number rows) segs) (sym (named_is r)) has.only;
  indexed = λ stored are. indexed stored (segments_kept r.schema stored (named r) before mid
      (every (λ (f : NewFile). (bytes : List ℕ) → file before f.file ≡ Some bytes → file mid f.file ≡ Some bytes) (named r) (λ f bytes told. ap (λ fs. get fs f.file) blanks.files ∙ told))
      (subst (λ (fs : List NewFile). AreSegments r.schema stored fs before) (named_is r) are));
}
  where
    back : (gs : List SegmentView) → AllByRecursion (IsReading mid) gs → AllByRecursion (IsReading before) gs
    back [] h = tt
    back (g ∷ gs) h = (record { bytes = h.0.bytes ∙ ap (λ fs. get fs g.number) blanks.files }, back gs h.1)

-- ---- faults

pub store_or_memory : {T : Type 0} → ◌≡◌ {A = Result T OpenFault} (Err fault.StoreFault) (Err fault.Memory) → ⊥
store_or_memory is = cc

pub memory_keeps : {T : Type 0} (e : OpenFault) → ◌≡◌ {A = Result T OpenFault} (Err e) (Err fault.Memory) → IsUnforgotten e
memory_keeps e is = let same : e ≡ fault.Memory = cc is in subst IsUnforgotten (sym same) tt

pub want_whole : (e : OpenFault) (d : Damaged) → IsWant e → e ≡ fault.Damaged d → ⊥
want_whole fault.StoreFault d want is = cc
want_whole fault.Memory d want is = cc
want_whole fault.Empty d want is = want
want_whole (fault.Damaged x) d want is = want

-- the store didn't fail
pub unfailed : {T : Type 0} (H : Type 0) (e : OpenFault) → H ⊎ (e ≡ fault.StoreFault → ⊥) → H ⊎ (◌≡◌ {A = Result T OpenFault} (Err e) (Err fault.StoreFault) → ⊥)
unfailed H e (inl honest) = inl honest
unfailed H e (inr none) = inr (λ is. none (cc is))

-- each image that is left stands for the book for which each stood
pub each_left : (s : Layout) (b : Book) (u v : View) → EachImage u (Stands s (durable b)) → LeavesOnly (λ left. u.may_leave left ⊎ Stands s (durable (durable b)) left) u v → EachImage v (Stands s (durable b))
each_left s b u v each only left may = elim (only.now left may) [
  | inl was ↦ each left was
  | inr stands ↦ stands
]

-- what the segments of a state read is told by what it holds
pub named_readers : {c d : Contents} {segs others : List SegmentView} (before : Image) → c ≡ d → segs ≡ others → ReadsNamed d others before → ReadsNamed c segs before
named_readers {c} {d} {segs} {others} before p q reads = subst (λ x. ReadsNamed x segs before) (sym p) (subst (λ xs. ReadsNamed d xs before) (sym q) reads)
