-- What images mean, at each moment.
use Rattle.std.proofs.Common.{◌≡◌, ◌≢◌, ℕ, ◌+◌, ◌<◌, ◌≤◌, List, [], ◌∷◌, ◌++◌, refl, sym, ap, subst, ◌∙◌, arith, Bool, true, false, Option, Some, None, nat_lt, ◌==◌, if◌then◌else◌, inl, inr, ⊎_elim, ◌&&◌}
use Rattle.std.specs.Option.{option_map}
use Rattle.std.proofs.lemmas.Bool.{cases_eq, lt-ltb, le-ltb, ltb-true, ltb-false}
use Rattle.dev_traits.specs.Image.{Image, area_of, Elsewhere}
use Rattle.gated_log.specs.Log.{HasNone, IsLog}
use Rattle.journal_form.specs.declared.records.Record.{Record}
use Rattle.journal_form.specs.Versions.{Versions}
use Rattle.journal_form.specs.Meaning.{Opening, Standing, created, is_form, listed, listed_versions, listing_fits, listing_of, no_versions, opens, step, with_epoch}
use Rattle.journal_form.specs.Laws.{HasCheckpoint}
use Rattle.journal_form.proofs.Parts.{mapped, some_is, then_is, then_some}
use Rattle.journal_form.proofs.StepFacts.{steps_count}
use Rattle.journal_bytes.specs.Records.{RecordFits, record_bytes}
use Rattle.journal_bytes.specs.Bodies.{Means, bodies_from, first_record, opening_body}
use Rattle.journal_bytes.proofs.BodiesTell.{body_is_a_step, checkpoint_stands_alone, goes_on-keeps, one_meaning}
use Rattle.version_journal.specs.Areas.{Begins, BeginsIn, log_of, OpensBefore, area_in_force, area_of_epoch, epoch_in, epoch_told, first_epoch, greater_epoch, other_area}
use Rattle.version_journal.specs.Images.{IsMeant}
use Rattle.version_journal.specs.Laws.{AppendIsAStep, AreaIsTold, LogsTellMeaning, BlankingKeeps, CheckpointKeeps, ImageMeansOne}
use Rattle.version_journal.proofs.Logs.{begins-one, epoch_is_told, one_log}

-- ---- the first body

pub opens-epoch : (edit : ℕ) (o : Opening) (s : Standing) → opens edit o ≡ Some s → first_epoch (first_record o) ≡ Some s.epoch
opens-epoch edit (created form schema) s h =
    let p = then_some ((edit == 0) && is_form form) (record { form = form; epoch = 0; edit = 0; versions = no_versions schema; kept = []; levels = None }) s h in
    ap (λ (x : Standing). Some x.epoch) p.1
opens-epoch edit (listed l) s h =
    let f : Versions → Standing = λ vs. record { form = l.form; epoch = l.epoch; edit = edit; versions = vs; kept = l.kept; levels = l.levels } in
    let p = then_is (listing_fits edit l) (option_map f (listed_versions l)) s h in
    let m = mapped f (listed_versions l) s p.1 in
    ap (λ (x : Standing). Some x.epoch) m.2

pub record Headed (bodies : List (List ℕ)) (s : Standing) : Type 0 where
  pub body : List ℕ
  pub later : List (List ℕ)
  pub split : bodies ≡ body ∷ later
  pub begins : Begins s.epoch body

pub headed : (bodies : List (List ℕ)) (s : Standing) → Means bodies s → Headed bodies s
headed bodies s m =
    let all = goes_on-keeps (λ t n. first_epoch (first_record m.opening) ≡ Some t.epoch) (λ t u n r fits is h. is ∙ ap Some (sym (steps_count t u r h).epoch))
    m.records (m.edit + 1) (opens m.edit m.opening) s m.later_fit (λ x e. opens-epoch m.edit m.opening x e) m.means in
    record {
      body = opening_body m.edit m.opening;
      later = bodies_from (m.edit + 1) m.records;
      split = m.spelled;
      begins = record { edit = m.edit; told = first_record m.opening; fits = m.first_fits; spelled = refl; first = all.2 };
    }

before_body : (epoch e : ℕ) (bodies later : List (List ℕ)) (body : List ℕ) → bodies ≡ body ∷ later → Begins e body → OpensBefore epoch bodies → e < epoch
before_body epoch e bodies later body split begins before =
    let b : OpensBefore epoch (body ∷ later) = subst (OpensBefore epoch) split before in
    let same = begins-one b.0 e body b.1 begins in
    let lt = b.2 in
    omega arith

-- ---- one meaning

pub image_means_one : ImageMeansOne
image_means_one image s t m n = elim (cases_eq (area_of_epoch s.epoch) (area_of_epoch t.epoch)) [
  | inl same ↦
      let log : m.log ≡ n.log = one_log m.log n.log (area_of image (area_of_epoch s.epoch)) m.is_log (subst (λ (a : ℕ). IsLog n.log (area_of image a)) (sym same) n.is_log) in
      one_meaning n.log s t (subst (λ (l : List (List ℕ)). Means l s) log m.means) n.means
  | inr apart ↦
      let s_area : other_area s.epoch ≡ area_of_epoch t.epoch = omega arith in
      let t_area : other_area t.epoch ≡ area_of_epoch s.epoch = omega arith in
      let there : m.other ≡ n.log = one_log m.other n.log (area_of image (other_area s.epoch)) m.other_log (subst (λ (a : ℕ). IsLog n.log (area_of image a)) (sym s_area) n.is_log) in
      let here : n.other ≡ m.log = one_log n.other m.log (area_of image (other_area t.epoch)) n.other_log (subst (λ (a : ℕ). IsLog m.log (area_of image a)) (sym t_area) m.is_log) in
      let s_head = headed m.log s m.means in
      let t_head = headed n.log t n.means in
      let less = before_body s.epoch t.epoch m.other t_head.later t_head.body (there ∙ t_head.split) t_head.begins m.before in
      let more = before_body t.epoch s.epoch n.other s_head.later s_head.body (here ∙ s_head.split) s_head.begins n.before in
      absurd (omega arith)
]

-- ---- the area in force

when_lt : (e f x y : ℕ) → e < f → (if nat_lt e f then x else y) ≡ x
when_lt e f x y lt = ap (λ (b : Bool). if b then x else y) (lt-ltb e f lt)

when_ge : (e f x y : ℕ) → f ≤ e → (if nat_lt e f then x else y) ≡ y
when_ge e f x y le = ap (λ (b : Bool). if b then x else y) (le-ltb e f le)

force_zero : (epoch : ℕ) (log other : List (List ℕ)) → epoch_told log ≡ Some epoch → OpensBefore epoch other → area_in_force log other ≡ Some 0
force_zero epoch log [] told before = ap (λ (o : Option ℕ). greater_epoch o None) told
force_zero epoch log (body ∷ bodies) told before =
    let e = epoch_is_told before.0 body before.1 in
    let lt = before.2 in
    ap (λ (o : Option ℕ). greater_epoch o (Some (epoch_in body))) told ∙ ap Some (when_ge epoch (epoch_in body) 1 0 (omega arith))

force_one : (epoch : ℕ) (log other : List (List ℕ)) → epoch_told log ≡ Some epoch → OpensBefore epoch other → area_in_force other log ≡ Some 1
force_one epoch log [] told before = ap (λ (o : Option ℕ). greater_epoch None o) told
force_one epoch log (body ∷ bodies) told before =
    let e = epoch_is_told before.0 body before.1 in
    let lt = before.2 in
    ap (λ (o : Option ℕ). greater_epoch (Some (epoch_in body)) o) told ∙ ap Some (when_lt (epoch_in body) epoch 1 0 (omega arith))

pub area_is_told : AreaIsTold
area_is_told image s zero_log one_log_ m at_zero at_one =
    let head = headed m.log s m.means in
    let told : epoch_told m.log ≡ Some s.epoch = ap epoch_told head.split ∙ ap Some (epoch_is_told s.epoch head.body head.begins) in
    elim (cases_eq (area_of_epoch s.epoch) 0) [
      | inl even ↦
          let odd : other_area s.epoch ≡ 1 = omega arith in
          let first : m.log ≡ zero_log = one_log m.log zero_log (area_of image 0) (subst (λ (a : ℕ). IsLog m.log (area_of image a)) even m.is_log) at_zero in
          let second : m.other ≡ one_log_ = one_log m.other one_log_ (area_of image 1) (subst (λ (a : ℕ). IsLog m.other (area_of image a)) odd m.other_log) at_one in
          force_zero s.epoch zero_log one_log_ (subst (λ (l : List (List ℕ)). epoch_told l ≡ Some s.epoch) first told) (subst (OpensBefore s.epoch) second m.before) ∙ ap Some (sym even)
      | inr uneven ↦
          let odd : area_of_epoch s.epoch ≡ 1 = omega arith in
          let even : other_area s.epoch ≡ 0 = omega arith in
          let first : m.log ≡ one_log_ = one_log m.log one_log_ (area_of image 1) (subst (λ (a : ℕ). IsLog m.log (area_of image a)) odd m.is_log) at_one in
          let second : m.other ≡ zero_log = one_log m.other zero_log (area_of image 0) (subst (λ (a : ℕ). IsLog m.other (area_of image a)) even m.other_log) at_zero in
          force_one s.epoch one_log_ zero_log (subst (λ (l : List (List ℕ)). epoch_told l ≡ Some s.epoch) first told) (subst (OpensBefore s.epoch) second m.before) ∙ ap Some (sym odd)
    ]

-- ---- a record more

apart_areas : (epoch : ℕ) → other_area epoch ≢ area_of_epoch epoch
apart_areas epoch e = absurd (omega arith)

-- the record is there
pub appended : (old new : Image) (bodies : List (List ℕ)) (s t : Standing) (r : Record)
    → IsMeant old s → IsLog bodies (area_of old (area_of_epoch s.epoch)) → RecordFits (s.edit + 1) r → step s r ≡ Some t
    → Elsewhere (area_of_epoch s.epoch) old new → IsLog (bodies ++ record_bytes (s.edit + 1) r ∷ []) (area_of new (area_of_epoch s.epoch)) → IsMeant new t
appended old new bodies s t r m log fits h elsewhere is =
    let same : m.log ≡ bodies = one_log m.log bodies (area_of old (area_of_epoch s.epoch)) m.is_log log in
    let other : IsLog m.other (area_of new (other_area s.epoch)) = subst (IsLog m.other) (sym (elsewhere.areas (other_area s.epoch) (apart_areas s.epoch))) m.other_log in
    let epoch : s.epoch ≡ t.epoch = sym (steps_count s t r h).epoch in
    record {
      log = bodies ++ record_bytes (s.edit + 1) r ∷ [];
      other = m.other;
      is_log = subst (λ (e : ℕ). IsLog (bodies ++ record_bytes (s.edit + 1) r ∷ []) (area_of new (area_of_epoch e))) epoch is;
      other_log = subst (λ (e : ℕ). IsLog m.other (area_of new (other_area e))) epoch other;
      means = body_is_a_step bodies s t r (subst (λ (l : List (List ℕ)). Means l s) same m.means) fits h;
      before = subst (λ (e : ℕ). OpensBefore e m.other) epoch m.before;
    }

-- or not yet
pub not_yet : (old new : Image) (bodies : List (List ℕ)) (s : Standing) → IsMeant old s → IsLog bodies (area_of old (area_of_epoch s.epoch)) → Elsewhere (area_of_epoch s.epoch) old new → IsLog bodies (area_of new (area_of_epoch s.epoch)) → IsMeant new s
not_yet old new bodies s m log elsewhere is =
    let same : m.log ≡ bodies = one_log m.log bodies (area_of old (area_of_epoch s.epoch)) m.is_log log in
    record {
      log = bodies;
      other = m.other;
      is_log = is;
      other_log = subst (IsLog m.other) (sym (elsewhere.areas (other_area s.epoch) (apart_areas s.epoch))) m.other_log;
      means = subst (λ (l : List (List ℕ)). Means l s) same m.means;
      before = m.before;
    }

pub append_is_a_step : AppendIsAStep
append_is_a_step old new bodies s t r m log fits h appends =
    ⊎_elim (λ was. inl (not_yet old new bodies s m log appends.elsewhere was)) (λ is. inr (appended old new bodies s t r m log fits h appends.elsewhere is)) appends.log

-- ---- a checkpoint

blank_none : (bytes : List ℕ) → bytes ≡ 0 ∷ [] → IsLog [] bytes
blank_none bytes e = subst HasNone (sym e) closed
  where
    closed : HasNone (0 ∷ [])
    closed g = cc

pub blanking_keeps : BlankingKeeps
blanking_keeps old new s m blanked =
    let is : IsLog m.log (area_of new (area_of_epoch s.epoch)) = subst (IsLog m.log) (sym (blanked.elsewhere.areas (area_of_epoch s.epoch) (λ e. apart_areas s.epoch (sym e)))) m.is_log in
    ⊎_elim (λ same. record { log = m.log; other = m.other; is_log = is; other_log = subst (IsLog m.other) (sym same) m.other_log; means = m.means; before = m.before })
    (λ blank. record { log = m.log; other = []; is_log = is; other_log = blank_none (area_of new (other_area s.epoch)) blank; means = m.means; before = tt }) blanked.blank

area_kept : (old new : Image) (s : Standing) (m : IsMeant old s) → Elsewhere (other_area s.epoch) old new → IsLog m.log (area_of new (area_of_epoch s.epoch))
area_kept old new s m elsewhere = subst (IsLog m.log) (sym (elsewhere.areas (area_of_epoch s.epoch) (λ e. apart_areas s.epoch (sym e)))) m.is_log

-- the checkpoint is there
pub renewed : (old new : Image) (s : Standing) → IsMeant old s → HasCheckpoint s → RecordFits s.edit (first_record (listed (listing_of s)))
    → Elsewhere (other_area s.epoch) old new → IsLog (opening_body s.edit (listed (listing_of s)) ∷ []) (area_of new (other_area s.epoch)) → IsMeant new (with_epoch (s.epoch + 1) s)
renewed old new s m c fits elsewhere one =
    let head = headed m.log s m.means in
    let next : area_of_epoch (s.epoch + 1) ≡ other_area s.epoch = omega arith in
    let last : other_area (s.epoch + 1) ≡ area_of_epoch s.epoch = omega arith in
    let body = opening_body s.edit (listed (listing_of s)) in
    record {
      log = body ∷ [];
      other = m.log;
      is_log = subst (λ (a : ℕ). IsLog (body ∷ []) (area_of new a)) (sym next) one;
      other_log = subst (λ (a : ℕ). IsLog m.log (area_of new a)) (sym last) (area_kept old new s m elsewhere);
      means = checkpoint_stands_alone m.log s m.means c fits;
      before = subst (OpensBefore (s.epoch + 1)) (sym head.split) (s.epoch, head.begins, omega arith, sym last);
    }

-- or not yet
not_renewed : (old new : Image) (s : Standing) → IsMeant old s → Elsewhere (other_area s.epoch) old new → IsLog [] (area_of new (other_area s.epoch)) → IsMeant new s
not_renewed old new s m elsewhere none = record { log = m.log; other = []; is_log = area_kept old new s m elsewhere; other_log = none; means = m.means; before = tt }

pub checkpoint_keeps : CheckpointKeeps
checkpoint_keeps old new s m c fits appends =
    ⊎_elim (λ none. inl (not_renewed old new s m appends.elsewhere none)) (λ one. inr (renewed old new s m c fits appends.elsewhere one)) appends.log

-- ---- from two logs

-- the log in force has the greater epoch
before_zero : (epoch : ℕ) (log other : List (List ℕ)) → area_of_epoch epoch ≡ 0 → epoch_told log ≡ Some epoch → BeginsIn (other_area epoch) other → area_in_force log other ≡ Some 0 → OpensBefore epoch other
before_zero epoch log [] even told begins force = tt
before_zero epoch log (body ∷ bodies) even told begins force =
    let e = epoch_is_told begins.0 body begins.1 in
    let area = begins.2 in
    let both : Some (if nat_lt epoch (epoch_in body) then 1 else 0) ≡ Some 0 = ap (λ (o : Option ℕ). greater_epoch o (Some (epoch_in body))) (sym told) ∙ force in
    let low : epoch_in body ≤ epoch = ltb-false epoch (epoch_in body) (zero_is (nat_lt epoch (epoch_in body)) (some_is (if nat_lt epoch (epoch_in body) then 1 else 0) 0 both)) in
    (begins.0, begins.1, omega arith, area)
  where
    zero_is : (b : Bool) → ◌≡◌ {A = ℕ} (if b then 1 else 0) 0 → b ≡ false
    zero_is true h = absurd (omega arith)
    zero_is false h = refl

before_one : (epoch : ℕ) (log other : List (List ℕ)) → area_of_epoch epoch ≡ 1 → epoch_told log ≡ Some epoch → BeginsIn (other_area epoch) other → area_in_force other log ≡ Some 1 → OpensBefore epoch other
before_one epoch log [] odd told begins force = tt
before_one epoch log (body ∷ bodies) odd told begins force =
    let e = epoch_is_told begins.0 body begins.1 in
    let area = begins.2 in
    let both : Some (if nat_lt (epoch_in body) epoch then 1 else 0) ≡ Some 1 = ap (λ (o : Option ℕ). greater_epoch (Some (epoch_in body)) o) (sym told) ∙ force in
    let low : epoch_in body < epoch = ltb-true (epoch_in body) epoch (one_is (nat_lt (epoch_in body) epoch) (some_is (if nat_lt (epoch_in body) epoch then 1 else 0) 1 both)) in
    (begins.0, begins.1, omega arith, area)
  where
    one_is : (b : Bool) → ◌≡◌ {A = ℕ} (if b then 1 else 0) 1 → b ≡ true
    one_is true h = refl
    one_is false h = absurd (omega arith)

pub logs_tell_meaning : LogsTellMeaning
logs_tell_meaning image zero_log one_log_ s at_zero at_one force means begins = elim (cases_eq (area_of_epoch s.epoch) 0) [
  | inl even ↦
      let odd : other_area s.epoch ≡ 1 = omega arith in
      let log : log_of (area_of_epoch s.epoch) zero_log one_log_ ≡ zero_log = ap (λ (a : ℕ). log_of a zero_log one_log_) even in
      let rest : log_of (other_area s.epoch) zero_log one_log_ ≡ one_log_ = ap (λ (a : ℕ). log_of a zero_log one_log_) odd in
      let means' : Means zero_log s = subst (λ (l : List (List ℕ)). Means l s) log means in
      let head = headed zero_log s means' in
      let told : epoch_told zero_log ≡ Some s.epoch = ap epoch_told head.split ∙ ap Some (epoch_is_told s.epoch head.body head.begins) in
      record {
        log = zero_log;
        other = one_log_;
        is_log = subst (λ (a : ℕ). IsLog zero_log (area_of image a)) (sym even) at_zero;
        other_log = subst (λ (a : ℕ). IsLog one_log_ (area_of image a)) (sym odd) at_one;
        means = means';
        before = before_zero s.epoch zero_log one_log_ even told (subst (BeginsIn (other_area s.epoch)) rest begins) (force ∙ ap Some even);
      }
  | inr uneven ↦
      let odd : area_of_epoch s.epoch ≡ 1 = omega arith in
      let even : other_area s.epoch ≡ 0 = omega arith in
      let log : log_of (area_of_epoch s.epoch) zero_log one_log_ ≡ one_log_ = ap (λ (a : ℕ). log_of a zero_log one_log_) odd in
      let rest : log_of (other_area s.epoch) zero_log one_log_ ≡ zero_log = ap (λ (a : ℕ). log_of a zero_log one_log_) even in
      let means' : Means one_log_ s = subst (λ (l : List (List ℕ)). Means l s) log means in
      let head = headed one_log_ s means' in
      let told : epoch_told one_log_ ≡ Some s.epoch = ap epoch_told head.split ∙ ap Some (epoch_is_told s.epoch head.body head.begins) in
      record {
        log = one_log_;
        other = zero_log;
        is_log = subst (λ (a : ℕ). IsLog one_log_ (area_of image a)) (sym odd) at_one;
        other_log = subst (λ (a : ℕ). IsLog zero_log (area_of image a)) (sym even) at_zero;
        means = means';
        before = before_one s.epoch one_log_ zero_log odd told (subst (BeginsIn (other_area s.epoch)) rest begins) (force ∙ ap Some odd);
      }
]
