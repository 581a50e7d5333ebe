-- What an image says while a record joins its journal.
use Rattle.std.proofs.Common.{◌≡◌, ◌≢◌, ℕ, ◌+◌, List, [], ◌∷◌, ◌++◌, refl, sym, ap, subst, ◌∙◌, arith, Option, Some, None, inl, inr, ⊎_elim, ◌&&◌, ◌==◌}
use Rattle.std.specs.List.{AllByRecursion}
use Rattle.dev_traits.specs.Image.{Image, area_of, Elsewhere}
use Rattle.dev_traits.specs.View.{View, EachImage, Leaves}
use Rattle.dev_traits.proofs.Moments.{leaves_by}
use Rattle.gated_log.specs.Log.{Appends, EndsAt, HasNone, IsLog, IsSettled}
use Rattle.gated_log.proofs.Bytes.{ends_is_log}
use Rattle.pk_values.specs.Schemas.{Layout}
use Rattle.journal_form.specs.declared.records.Record.{Record}
use Rattle.journal_form.specs.declared.records.Record.TheVariants.{Create, Publish, Compact, Floor, Levels, Checkpoint}
use Rattle.journal_form.specs.Meaning.{Standing, created, is_form, no_versions, opens, step}
use Rattle.journal_form.specs.Standings.{begun, edit_due, joined}
use Rattle.journal_form.proofs.Parts.{then_some}
use Rattle.journal_form.proofs.StepFacts.{steps_count}
use Rattle.journal_bytes.specs.Records.{RecordFits, record_bytes}
use Rattle.journal_bytes.specs.Bodies.{Means}
use Rattle.version_journal.specs.declared.journals.Journal.{Journal}
use Rattle.version_journal.specs.Areas.{area_of_epoch, other_area}
use Rattle.version_journal.specs.Images.{HasNoRecord, IsBuilt, IsMeant, IsSaid, Says}
use Rattle.version_journal.specs.Journals.{HasJournal, IsCounted, ReadsAs, area_now, epoch_now}
use Rattle.version_journal.specs.Commits.{IsDue, Joins}
use Rattle.version_journal.proofs.Logs.{one_log}
use Rattle.version_journal.proofs.Meanings.{appended, not_yet}

-- ---- the first record

pub record Begun (told : Record) (t : Standing) : Type 0 where
  pub form : ℕ
  pub schema : Layout
  pub is : told ≡ Create form schema
  pub opened : opens 0 (created form schema) ≡ Some t

pub begun_is : (told : Record) (t : Standing) → begun told ≡ Some t → Begun told t
begun_is (Create form schema) t h = record { form = form; schema = schema; is = refl; opened = h }
begun_is (Publish version files rows) t h = cc
begun_is (Compact version replaced files rows levels) t h = cc
begun_is (Floor floor) t h = cc
begun_is (Levels levels) t h = cc
begun_is (Checkpoint epoch form schema next_file floor rowsets kept levels) t h = cc

pub record AtFirst (t : Standing) : Type 0 where
  pub epoch : t.epoch ≡ 0
  pub edit : t.edit ≡ 0

pub at_first : (form : ℕ) (schema : Layout) (t : Standing) → opens 0 (created form schema) ≡ Some t → AtFirst t
at_first form schema t h =
    let p = then_some ((0 == 0) && is_form form) (record { form = form; epoch = 0; edit = 0; versions = no_versions schema; kept = []; levels = None }) t h in
    record { epoch = sym (ap (λ (x : Standing). x.epoch) p.1); edit = sym (ap (λ (x : Standing). x.edit) p.1) }

pub due_first : (body : List ℕ) (t : Standing) → IsDue body None t → AtFirst t
due_first body t due = let b = begun_is due.told t due.joins in at_first b.form b.schema t b.opened

one_apart : ◌≢◌ {A = ℕ} 1 0
one_apart e = absurd (omega arith)

still_none : (old new : Image) → HasNoRecord old → Elsewhere 0 old new → HasNone (area_of new 0) → HasNoRecord new
still_none old new none elsewhere zero = (zero, subst HasNone (sym (elsewhere.areas 1 one_apart)) none.1)

first_means : (body : List ℕ) (t : Standing) → IsDue body None t → Means (body ∷ []) t
first_means body t due =
    let b = begun_is due.told t due.joins in
    record {
      edit = 0;
      opening = created b.form b.schema;
      records = [];
      first_fits = subst (RecordFits 0) b.is due.fits;
      kept_fit = tt;
      later_fit = tt;
      spelled = ap (λ (x : List ℕ). x ∷ []) (due.spelled ∙ ap (record_bytes 0) b.is);
      means = b.opened;
    }

first_said : (old new : Image) (body : List ℕ) (t : Standing) → HasNoRecord old → IsDue body None t → Elsewhere 0 old new → IsLog (body ∷ []) (area_of new 0) → IsSaid new t
first_said old new body t none due elsewhere is =
    let epoch = (due_first body t due).epoch in
    record {
      meant = record {
        log = body ∷ [];
        other = [];
        is_log = subst (λ (e : ℕ). IsLog (body ∷ []) (area_of new (area_of_epoch e))) (sym epoch) is;
        other_log = subst (λ (e : ℕ). HasNone (area_of new (other_area e))) (sym epoch) (subst HasNone (sym (elsewhere.areas 1 one_apart)) none.1);
        means = first_means body t due;
        before = tt;
      };
      built = (record { edit = 0; told = due.told; fits = due.fits; spelled = due.spelled; built = due.built }, tt);
    }

-- ---- a later one

all_push : (bodies : List (List ℕ)) (body : List ℕ) → AllByRecursion IsBuilt bodies → IsBuilt body → AllByRecursion IsBuilt (bodies ++ body ∷ [])
all_push [] body all one = (one, tt)
all_push (b ∷ bodies) body all one = (all.0, all_push bodies body all.1 one)

later_said : (old new : Image) (bodies : List (List ℕ)) (body : List ℕ) (s t : Standing) → IsSaid old s → IsLog bodies (area_of old (area_of_epoch s.epoch)) → IsDue body (Some s) t
    → Elsewhere (area_of_epoch s.epoch) old new → IsLog (bodies ++ body ∷ []) (area_of new (area_of_epoch s.epoch)) → IsSaid new t
later_said old new bodies body s t said log due elsewhere is =
    let same : said.meant.log ≡ bodies = one_log said.meant.log bodies (area_of old (area_of_epoch s.epoch)) said.meant.is_log log in
    let is' : IsLog (bodies ++ record_bytes (s.edit + 1) due.told ∷ []) (area_of new (area_of_epoch s.epoch)) = subst (λ (b : List ℕ). IsLog (bodies ++ b ∷ []) (area_of new (area_of_epoch s.epoch))) due.spelled is in
    let m = appended old new bodies s t due.told said.meant log due.fits due.joins elsewhere is' in
    let epoch : t.epoch ≡ s.epoch = (steps_count s t due.told due.joins).epoch in
    let now : m.log ≡ bodies ++ record_bytes (s.edit + 1) due.told ∷ [] =
    one_log m.log (bodies ++ record_bytes (s.edit + 1) due.told ∷ []) (area_of new (area_of_epoch s.epoch)) (subst (λ (e : ℕ). IsLog m.log (area_of new (area_of_epoch e))) epoch m.is_log) is' in
    record {
      meant = m;
      built = subst (AllByRecursion IsBuilt) (sym now) (all_push bodies (record_bytes (s.edit + 1) due.told) (subst (AllByRecursion IsBuilt) same said.built)
          (record { edit = s.edit + 1; told = due.told; fits = due.fits; spelled = refl; built = due.built }));
    }

still_said : (old new : Image) (bodies : List (List ℕ)) (s : Standing) → IsSaid old s → IsLog bodies (area_of old (area_of_epoch s.epoch)) → Elsewhere (area_of_epoch s.epoch) old new
    → IsLog bodies (area_of new (area_of_epoch s.epoch)) → IsSaid new s
still_said old new bodies s said log elsewhere is =
    let same : said.meant.log ≡ bodies = one_log said.meant.log bodies (area_of old (area_of_epoch s.epoch)) said.meant.is_log log in
    let m = not_yet old new bodies s said.meant log elsewhere is in
    let now : m.log ≡ bodies = one_log m.log bodies (area_of new (area_of_epoch s.epoch)) m.is_log is in
    record { meant = m; built = subst (AllByRecursion IsBuilt) (same ∙ sym now) said.built }

-- ---- either one

-- the record is there
pub says_more : (old new : Image) (bodies : List (List ℕ)) (body : List ℕ) (s : Option Standing) (t : Standing) → Says old s → IsLog bodies (area_of old (area_now s)) → IsDue body s t
    → Elsewhere (area_now s) old new → IsLog (bodies ++ body ∷ []) (area_of new (area_now s)) → IsSaid new t
says_more old new bodies body None t says log due elsewhere is =
    let none : bodies ≡ [] = one_log bodies [] (area_of old 0) log says.0 in
    first_said old new body t says due elsewhere (subst (λ (l : List (List ℕ)). IsLog (l ++ body ∷ []) (area_of new 0)) none is)
says_more old new bodies body (Some s) t says log due elsewhere is = later_said old new bodies body s t says log due elsewhere is

-- or not yet
pub says_still : (old new : Image) (bodies : List (List ℕ)) (s : Option Standing) → Says old s → IsLog bodies (area_of old (area_now s)) → Elsewhere (area_now s) old new
    → IsLog bodies (area_of new (area_now s)) → Says new s
says_still old new bodies None says log elsewhere is =
    let none : bodies ≡ [] = one_log bodies [] (area_of old 0) log says.0 in
    still_none old new says elsewhere (subst (λ (l : List (List ℕ)). IsLog l (area_of new 0)) none is)
says_still old new bodies (Some s) says log elsewhere is = still_said old new bodies s says log elsewhere is

pub append_joins : (old new : Image) (area : ℕ) (bodies : List (List ℕ)) (body : List ℕ) (s : Option Standing) (t : Standing) → area ≡ area_now s → Says old s → IsLog bodies (area_of old area)
    → IsDue body s t → Appends area bodies body old new → Joins area s t old new
append_joins old new area bodies body s t at says log due step =
    let log' : IsLog bodies (area_of old (area_now s)) = subst (λ (a : ℕ). IsLog bodies (area_of old a)) at log in
    let elsewhere : Elsewhere (area_now s) old new = subst (λ (a : ℕ). Elsewhere a old new) at step.elsewhere in
    record {
      elsewhere = step.elsewhere;
      says = ⊎_elim (λ was. inl (says_still old new bodies s says log' elsewhere (subst (λ (a : ℕ). IsLog bodies (area_of new a)) at was)))
          (λ is. inr (says_more old new bodies body s t says log' due elsewhere (subst (λ (a : ℕ). IsLog (bodies ++ body ∷ []) (area_of new a)) at is))) step.log;
    }

-- ---- the journal in hand

pub record Advances (old new : Journal) : Type 0 where
  pub area : new.log.area ≡ old.log.area
  pub epoch : new.epoch ≡ old.epoch
  pub edits : new.edits ≡ old.edits + 1

pub counts_on : (old new : Journal) (body : List ℕ) (s : Option Standing) (t : Standing) → IsCounted old s → IsDue body s t → Advances old new → IsCounted new (Some t)
counts_on old new body None t counted due on =
    let first = due_first body t due in
    let edits = on.edits in
    let was = counted.edits in
    let edit = first.edit in
    record {
      area = on.area ∙ counted.area ∙ sym (ap area_of_epoch first.epoch);
      epoch = on.epoch ∙ counted.epoch ∙ sym first.epoch;
      edits = omega arith;
    }
counts_on old new body (Some s) t counted due on =
    let next = steps_count s t due.told due.joins in
    let edits = on.edits in
    let was = counted.edits in
    let edit = next.edit in
    record {
      area = on.area ∙ counted.area ∙ sym (ap area_of_epoch next.epoch);
      epoch = on.epoch ∙ counted.epoch ∙ sym next.epoch;
      edits = omega arith;
    }

-- as it is read
pub reads_on : (before after : Image) (old new : Journal) (body : List ℕ) (s : Option Standing) (t : Standing) → ReadsAs old s before → IsDue body s t → Advances old new
    → Elsewhere old.log.area before after
    → ((bodies : List (List ℕ)) → EndsAt bodies old.log.end (area_of before old.log.area) → EndsAt (bodies ++ body ∷ []) new.log.end (area_of after new.log.area))
    → ReadsAs new (Some t) after
reads_on before after old new body s t reads due on elsewhere appended_ =
    let ends = appended_ reads.bodies reads.ends in
    let at = reads.counted.area in
    record {
      says = says_more before after reads.bodies body s t reads.says
          (subst (λ (a : ℕ). IsLog reads.bodies (area_of before a)) at (ends_is_log reads.bodies old.log.end (area_of before old.log.area) reads.ends))
          due (subst (λ (a : ℕ). Elsewhere a before after) at elsewhere)
          (subst (λ (a : ℕ). IsLog (reads.bodies ++ body ∷ []) (area_of after a)) (on.area ∙ at) (ends_is_log (reads.bodies ++ body ∷ []) new.log.end (area_of after new.log.area) ends));
      counted = counts_on old new body s t reads.counted due on;
      bodies = reads.bodies ++ body ∷ [];
      ends = ends;
    }

-- and over all images
module _ (u v : View) (old : Journal) (body : List ℕ) (s : Option Standing) (t : Standing) (has : HasJournal old s u) (due : IsDue body s t)
    (moments : (bodies : List (List ℕ)) → IsSettled old.log.area bodies old.log.end u → Leaves (Appends old.log.area bodies body) u v) where
  call : Leaves (Appends old.log.area has.bodies body) u v
  call = moments has.bodies has.settled

  log : (d : Image) → u.may_leave d → IsLog has.bodies (area_of d old.log.area)
  log d left = ends_is_log has.bodies old.log.end (area_of d old.log.area) (has.settled.each d left)

  pub joining : Leaves (Joins old.log.area s t) u v
  joining = leaves_by (Appends old.log.area has.bodies body) (Joins old.log.area s t) u v call
      (λ d i left step. append_joins d i old.log.area has.bodies body s t has.counted.area (has.each d left) (log d left) due step)

  pub has_on : (new : Journal) → Advances old new → ((bodies : List (List ℕ)) → IsSettled old.log.area bodies old.log.end u → IsSettled new.log.area (bodies ++ body ∷ []) new.log.end v) → HasJournal new (Some t) v
  has_on new on settles =
      let settled = settles has.bodies has.settled in
      let at = has.counted.area in
      record {
        each = λ i left.
            let from = call.now i left in
            says_more from.0 i has.bodies body s t (has.each from.0 from.1) (subst (λ (a : ℕ). IsLog has.bodies (area_of from.0 a)) at (log from.0 from.1)) due
            (subst (λ (a : ℕ). Elsewhere a from.0 i) at from.2.elsewhere)
            (subst (λ (a : ℕ). IsLog (has.bodies ++ body ∷ []) (area_of i a)) (on.area ∙ at) (ends_is_log (has.bodies ++ body ∷ []) new.log.end (area_of i new.log.area) (settled.each i left)));
        counted = counts_on old new body s t has.counted due on;
        bodies = has.bodies ++ body ∷ [];
        settled = settled;
      }
