-- A store that comes to be a tablet's.
use Rattle.std.proofs.Common.{◌≡◌, ◌≢◌, ◌⊎◌, inl, inr, ⊎_elim, refl, ap, sym, subst, ◌∙◌, ℕ, zero, suc, ◌+◌, ◌<◌, ◌≤◌, ◌^◌, List, [], ◌∷◌, ◌++◌, length, Option, Some, None, is_some, IsTrue, Bool, true, false, Result, Ok, Err, OnOk, cond, ◌==◌, arith}
use Rattle.std.specs.Option.{option_map}
use Rattle.std.specs.FinMap.{get, empty, get-empty, get-retain_keys}
use Rattle.std.proofs.lemmas.Bool.{eqb-true, eqb-false}
use Rattle.std.proofs.lemmas.List.{get_or-set_same, get_or-set_other}
use Rattle.pk_values.specs.Schemas.{Layout, schema_fault}
use Rattle.pk_values.specs.declared.cells.Value.{Value}
use Rattle.dev_traits.specs.Image.{Image, area_of, file, with_area, with_files_of, Same, Blanked, Elsewhere, Forgets}
use Rattle.dev_traits.specs.View.{View, Told, EachImage, Leaves, LeavesOnly, Calm, ReadsElsewhere}
use Rattle.dev_traits.proofs.Moments.{leaves_by, leaves_only_by, leaves_only_here, leaves_only_then, leaves_then}
use Rattle.gated_log.specs.Log.{EndsAt, HasNone, IsReady, IsSettled, IsSynced}
use Rattle.journal_form.specs.Meaning.{Standing, no_versions}
use Rattle.version_journal.specs.Commits.{IsDue, Joins}
use Rattle.version_journal.specs.Images.{HasNoRecord, IsSaid}
use Rattle.version_journal.specs.Journals.{HasJournal, IsCounted, ReadsAs}
use Rattle.version_journal.specs.declared.journals.Journal.{Journal}
use Rattle.core_recover.specs.Areas.{IsEmptyOrBlank}
use Rattle.core_recover.specs.Creating.{BlanksBoth, Clears, HasBegun, HasNoFile, IsBlank, IsClean, IsStart, KeepsRest, first_standing}
use Rattle.core_recover.proofs.AreaFacts.{told_after, told_before}

-- ---- clearing

forget_clears : (d i : Image) → Forgets [] d i → Clears d i
forget_clears d i is = record { areas = λ a. inl (is.areas a) }

blank_clears : (a : ℕ) (d i : Image) → Blanked a d i → Clears d i
blank_clears a d i is = record { areas = λ b. go b (b == a) refl }
  where
    go : (b : ℕ) (t : Bool) → (b == a) ≡ t → (area_of i b ≡ area_of d b) ⊎ (area_of i b ≡ 0 ∷ [])
    go b false e = inl (is.elsewhere.areas b (eqb-false b a e))
    go b true e = subst (λ n. (area_of i n ≡ area_of d n) ⊎ (area_of i n ≡ 0 ∷ [])) (sym (eqb-true b a e)) is.blank

clears_then : (d e i : Image) → Clears d e → Clears e i → Clears d i
clears_then d e i first second = record { areas = λ a. go a (second.areas a) (first.areas a) }
  where
    go : (a : ℕ) → (area_of i a ≡ area_of e a) ⊎ (area_of i a ≡ 0 ∷ []) → (area_of e a ≡ area_of d a) ⊎ (area_of e a ≡ 0 ∷ []) → (area_of i a ≡ area_of d a) ⊎ (area_of i a ≡ 0 ∷ [])
    go a (inr blank) before = inr blank
    go a (inl same) (inl was) = inl (same ∙ was)
    go a (inl same) (inr was) = inr (same ∙ was)

pub forgets_clear : (u v : View) → Leaves (Forgets []) u v → Leaves Clears u v
forgets_clear u v call = leaves_by (Forgets []) Clears u v call (λ d i left is. forget_clears d i is)

pub then_clears : (a : ℕ) (u v w : View) → Leaves Clears u v → Leaves (Blanked a) v w → Leaves Clears u w
then_clears a u v w first second = leaves_then Clears (Blanked a) Clears u v w first second (λ d i left is. is) (λ d e i left one from two. clears_then d e i one (blank_clears a e i two))

pub forgot_none : (u v : View) → v.seen ≡ option_map (with_files_of []) u.seen → Told v HasNoFile
forgot_none u v forgot after told number = go u.seen refl
  where
    apart : v.seen ≡ None → v.seen ≡ Some after → ⊥
    apart a b = cc

    some_one : (i j : Image) → Some i ≡ Some j → i ≡ j
    some_one i j e = cc

    go : (o : Option Image) → u.seen ≡ o → file after number ≡ None
    go None e = absurd (apart (forgot ∙ ap (option_map (with_files_of [])) e) told)
    go (Some image) e =
        let is : v.seen ≡ Some (with_files_of [] image) = forgot ∙ ap (option_map (with_files_of [])) e in
        ap (λ (i : Image). file i number) (some_one after (with_files_of [] image) (sym told ∙ is)) ∙ get-retain_keys image.files (λ n. false) number (λ x e. refl)

pub none_elsewhere : (v w : View) (a : ℕ) → is_some w.seen ≡ is_some v.seen → Told v HasNoFile → ReadsElsewhere a v w → Told w HasNoFile
none_elsewhere v w a tells none elsewhere after told number =
    let before = told_before v w after tells told in
    ap (λ fs. get fs number) (elsewhere before.0 before.1 after told).files ∙ none before.0 before.1 number

-- ---- areas 0 and 1

blank_rest : (a : ℕ) (d i : Image) → a < 2 → Blanked a d i → BlanksBoth d i
blank_rest a d i lt is = record { rest = record { files = is.elsewhere.files; index = is.elsewhere.areas 2 (λ e. absurd (omega arith)) }; areas = (blank_clears a d i is).areas }

rest_then : (d e i : Image) → BlanksBoth d e → BlanksBoth e i → BlanksBoth d i
rest_then d e i first second = record {
  rest = record { files = second.rest.files ∙ first.rest.files; index = second.rest.index ∙ first.rest.index };
  areas = (clears_then d e i (record { areas = first.areas }) (record { areas = second.areas })).areas;
}

pub one_blanked : (a : ℕ) (u v : View) → a < 2 → Leaves (Blanked a) u v → Leaves BlanksBoth u v
one_blanked a u v lt call = leaves_by (Blanked a) BlanksBoth u v call (λ d i left is. blank_rest a d i lt is)

pub two_blanked : (u v w : View) → Leaves (Blanked 0) u v → Leaves (Blanked 1) v w → Leaves BlanksBoth u w
two_blanked u v w first second =
    leaves_then BlanksBoth BlanksBoth BlanksBoth u v w (one_blanked 0 u v (omega arith) first) (one_blanked 1 v w (omega arith) second) (λ d i left is. is) (λ d e i left one from two. rest_then d e i one two)

pub one_rest : (a : ℕ) (u v : View) → a < 2 → ReadsElsewhere a u v → Told u (λ before. Told v (KeepsRest before))
one_rest a u v lt elsewhere before told after told' =
    let is = elsewhere before told after told' in
    record { files = is.files; index = is.areas 2 (λ e. absurd (omega arith)) }

pub two_rest : (u v w : View) → is_some w.seen ≡ is_some v.seen → ReadsElsewhere 0 u v → ReadsElsewhere 1 v w → Told u (λ before. Told w (KeepsRest before))
two_rest u v w tells first second before told after told' =
    let mid = told_before v w after tells told' in
    let one = one_rest 0 u v (omega arith) first before told mid.0 mid.1 in
    let two = one_rest 1 v w (omega arith) second mid.0 mid.1 after told' in
    record { files = two.files ∙ one.files; index = two.index ∙ one.index }

pub blank_reads : (v w : View) → is_some w.seen ≡ is_some v.seen → Told v (λ image. area_of image 0 ≡ 0 ∷ []) → ReadsElsewhere 1 v w → Told w (λ image. area_of image 1 ≡ 0 ∷ []) → Told w IsBlank
blank_reads v w tells first elsewhere second after told =
    let mid = told_before v w after tells told in
    ((elsewhere mid.0 mid.1 after told).areas 0 (λ e. absurd (omega arith)) ∙ first mid.0 mid.1, second after told)

-- ---- all of it

pub both_clear : (u v w : View) → Leaves Clears u v → Leaves BlanksBoth v w → Leaves Clears u w
both_clear u v w first second = leaves_then Clears BlanksBoth Clears u v w first second (λ d i left is. is) (λ d e i left one from two. clears_then d e i one (record { areas = two.areas }))

pub clean_so : (v w : View) → is_some w.seen ≡ is_some v.seen → Told v HasNoFile → Told v (λ before. Told w (KeepsRest before)) → Told w IsBlank → Told w IsClean
clean_so v w tells none rest blank after told =
    let before = told_before v w after tells told in
    record { blank = blank after told; none = λ number. ap (λ fs. get fs number) (rest before.0 before.1 after told).files ∙ none before.0 before.1 number }

index_same : (before after : Image) → area_of after 2 ≡ area_of before 2 → IsEmptyOrBlank 2 before → IsEmptyOrBlank 2 after
index_same before after same (inl e) = inl (same ∙ e)
index_same before after same (inr e) = inr (same ∙ e)

pub index_rest : (v w : View) → is_some w.seen ≡ is_some v.seen → Told v (IsEmptyOrBlank 2) → Told v (λ before. Told w (KeepsRest before)) → Told w (IsEmptyOrBlank 2)
index_rest v w tells was rest after told =
    let before = told_before v w after tells told in
    index_same before.0 after (rest before.0 before.1 after told).index (was before.0 before.1)

pub each_rest : (v w : View) → EachImage v (IsEmptyOrBlank 2) → Leaves BlanksBoth v w → EachImage w (IsEmptyOrBlank 2)
each_rest v w was call left may = let from = call.now left may in index_same from.0 left from.2.rest.index (was from.0 from.1)

pub index_elsewhere : (v w : View) (a : ℕ) → a ≡ 0 → is_some w.seen ≡ is_some v.seen → Told v (IsEmptyOrBlank 2) → ReadsElsewhere a v w → Told w (IsEmptyOrBlank 2)
index_elsewhere v w a is tells was elsewhere after told =
    let before = told_before v w after tells told in
    index_same before.0 after ((elsewhere before.0 before.1 after told).areas 2 (λ e. absurd (omega arith))) (was before.0 before.1)

pub each_joined : (v w : View) (a : ℕ) (t : Standing) → a ≡ 0 → EachImage v (IsEmptyOrBlank 2) → Leaves (Joins a None t) v w → EachImage w (IsEmptyOrBlank 2)
each_joined v w a t is was call left may = let from = call.now left may in index_same from.0 left (from.2.elsewhere.areas 2 (λ e. absurd (omega arith))) (was from.0 from.1)

pub blank_so : (v w : View) → EachImage v (λ left. area_of left 0 ≡ 0 ∷ []) → Leaves (Blanked 1) v w → EachImage w (λ left. area_of left 1 ≡ 0 ∷ []) → EachImage w IsBlank
blank_so v w first call second left may = let from = call.now left may in (from.2.elsewhere.areas 0 (λ e. absurd (omega arith)) ∙ first from.0 from.1, second left may)

-- ---- a blank store has no record

closed_gate : ◌≢◌ {A = ℕ} 0 165
closed_gate e = absurd (omega arith)

none_of : (bytes : List ℕ) → bytes ≡ 0 ∷ [] → HasNone bytes
none_of bytes is = subst HasNone (sym is) closed_gate

pub blank_none : (image : Image) → IsBlank image → HasNoRecord image
blank_none image is = (none_of (area_of image 0) is.0, none_of (area_of image 1) is.1)

clears_none : (d i : Image) → HasNoRecord d → Clears d i → HasNoRecord i
clears_none d i none is = (go 0 none.0 (is.areas 0), go 1 none.1 (is.areas 1))
  where
    go : (a : ℕ) → HasNone (area_of d a) → (area_of i a ≡ area_of d a) ⊎ (area_of i a ≡ 0 ∷ []) → HasNone (area_of i a)
    go a h (inl same) = subst HasNone (sym same) h
    go a h (inr blank) = none_of (area_of i a) blank

ends_blank : (bytes : List ℕ) → bytes ≡ 0 ∷ [] → EndsAt [] 0 bytes
ends_blank bytes is = subst (EndsAt [] 0) (sym is) (record { gate = 0; rest = []; split = refl; closed = closed_gate; size = refl; sizes = tt })

ends_in : (journal : Journal) (image : Image) → IsStart journal → area_of image 0 ≡ 0 ∷ [] → EndsAt [] journal.log.end (area_of image journal.log.area)
ends_in journal image start is = subst (λ (n : ℕ). EndsAt [] n (area_of image journal.log.area)) (sym start.end) (subst (λ (a : ℕ). EndsAt [] 0 (area_of image a)) (sym start.area) (ends_blank (area_of image 0) is))

start_counted : (journal : Journal) → IsStart journal → IsCounted journal None
start_counted journal start = record { area = start.area; epoch = start.epoch; edits = start.edits }

pub start_log : (journal : Journal) (v : View) → IsStart journal → Told v IsClean → Told v (λ image. (bodies : List (List ℕ)) × EndsAt bodies journal.log.end (area_of image journal.log.area))
start_log journal v start clean image told = ([], ends_in journal image start (clean image told).blank.0)

pub start_reads : (journal : Journal) (image : Image) → IsStart journal → IsClean image → ReadsAs journal None image
start_reads journal image start clean = record { says = blank_none image clean.blank; counted = start_counted journal start; bodies = []; ends = ends_in journal image start clean.blank.0 }

start_settled : (journal : Journal) (v : View) → IsStart journal → EachImage v IsBlank → IsTrue v.is_honest → IsSettled journal.log.area [] journal.log.end v
start_settled journal v start blank honest = record { honest = honest; each = λ left may. ends_in journal left start (blank left may).0 }

pub start_ready : (journal : Journal) (v : View) → IsStart journal → EachImage v IsBlank → IsReady journal.log.area journal.log.end v
start_ready journal v start blank honest = ([], start_settled journal v start blank honest)

pub start_has : (journal : Journal) (v : View) → IsStart journal → EachImage v IsBlank → IsTrue v.is_honest → HasJournal journal None v
start_has journal v start blank honest = record {
  each = λ left may. blank_none left (blank left may);
  counted = start_counted journal start;
  bodies = [];
  settled = start_settled journal v start blank honest;
}

-- ---- the first record

pub begun_so : (old new : Journal) (t : Standing) (v w : View) → IsStart old → new.log.area ≡ old.log.area → EachImage v IsBlank → Told v IsClean → is_some w.seen ≡ is_some v.seen → Leaves (Joins old.log.area None t) v w
    → ReadsElsewhere old.log.area v w → Told w (λ after. EachImage w (λ left. area_of left new.log.area ≡ area_of after new.log.area)) → HasJournal new (Some t) w → HasBegun new t w
begun_so old new t v w start at blank clean tells call elsewhere durable has = record { has = has; synced = λ a lt. go a lt }
  where
    one_apart : 1 ≡ old.log.area → ⊥
    one_apart e = let z = start.area in absurd (omega arith)

    go : (a : ℕ) → a < 2 → IsSynced a w
    go zero lt after told left may = subst (λ (a : ℕ). area_of left a ≡ area_of after a) (at ∙ start.area) (durable after told left may)
    go (suc zero) lt after told left may =
        let before = told_before v w after tells told in
        let from = call.now left may in
        from.2.elsewhere.areas 1 one_apart ∙ (blank from.0 from.1).1 ∙ sym ((elsewhere before.0 before.1 after told).areas 1 one_apart ∙ (clean before.0 before.1).blank.1)
    go (suc (suc n)) lt after told left may = absurd (omega arith)

pub files_none : (v w : View) (a : ℕ) → is_some w.seen ≡ is_some v.seen → Told v IsClean → ReadsElsewhere a v w → Told w (λ image. (number : ℕ) → file image number ≡ None)
files_none v w a tells clean elsewhere after told number =
    let before = told_before v w after tells told in
    ap (λ fs. get fs number) (elsewhere before.0 before.1 after told).files ∙ (clean before.0 before.1).none number

abbrev Either : Standing → Image → Type 0
Either t left = HasNoRecord left ⊎ IsSaid left t

pub while_cleared : (t : Standing) (u v : View) → ((i : Image) → u.might_since u.moment i → u.may_leave i) → EachImage u HasNoRecord → Leaves Clears u v → LeavesOnly (λ left. HasNoRecord left ⊎ IsSaid left t) u v
while_cleared t u v only none call =
    leaves_only_by HasNoRecord (Either t) u v (leaves_only_then Clears HasNoRecord u u v (leaves_only_here HasNoRecord u only none) call (λ d i may is. clears_none d i (none d may) is)) (λ i h. inl h)

pub while_begun : (t : Standing) (a : ℕ) (u v w : View) → ((i : Image) → u.might_since u.moment i → u.may_leave i) → EachImage u HasNoRecord → Leaves Clears u v → Leaves (Joins a None t) v w → LeavesOnly (λ left. HasNoRecord left ⊎ IsSaid left t) u w
while_begun t a u v w only none first second = leaves_only_then (Joins a None t) (Either t) u v w (while_cleared t u v only none first) second (λ d i may is. is.says)

-- ---- calls that write nothing, around it

pub calm_each : (P : Image → Type 0) (u v : View) → Calm u v → EachImage u P → EachImage v P
calm_each P u v calm each left may = each left ((calm.now left).0 may)

pub calm_only : (P : Image → Type 0) (u v : View) → ((i : Image) → u.might_since u.moment i → u.may_leave i) → Calm u v → EachImage u P → LeavesOnly P u v
calm_only P u v only calm each = record {
  later = let m = calm.moment in omega arith;
  now = calm_each P u v calm each;
  since = λ i since. each i (only i ((calm.since u.moment i).0 since));
  before = λ t i le since. inl ((calm.since t i).0 since);
  keeps = λ t i le since. (calm.since t i).1 since;
}

pub only_behind : (P : Image → Type 0) (u v w : View) → LeavesOnly P u v → Calm v w → LeavesOnly P u w
only_behind P u v w only calm = record {
  later = let m = calm.moment in let l = only.later in omega arith;
  now = calm_each P v w calm only.now;
  since = λ i since. only.since i ((calm.since u.moment i).0 since);
  before = λ t i le since. only.before t i le ((calm.since t i).0 since);
  keeps = λ t i le since. (calm.since t i).1 (only.keeps t i le since);
}

pub only_after : (P : Image → Type 0) (u v w : View) → Calm u v → LeavesOnly P v w → LeavesOnly P u w
only_after P u v w calm only = record {
  later = let m = calm.moment in let l = only.later in omega arith;
  now = only.now;
  since = λ i since. only.since i (subst (λ (n : ℕ). w.might_since n i) (sym calm.moment) since);
  before = λ t i le since. ⊎_elim (λ past. inl ((calm.since t i).0 past)) (λ has. inr has) (only.before t i (let m = calm.moment in omega arith) since);
  keeps = λ t i le since. only.keeps t i (let m = calm.moment in omega arith) ((calm.since t i).1 since);
}
