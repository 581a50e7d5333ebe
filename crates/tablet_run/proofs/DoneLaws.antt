-- One job after the other, over a tablet.
use Rattle.std.specs.List.{AllByRecursion}
use Rattle.std.proofs.Common.{◌≡◌, refl, ap, sym, subst, ◌∙◌, ◌⊎◌, inl, inr, ℕ, zero, suc, ◌+◌, ◌*◌, ◌-◌, ◌^◌, ◌≤◌, min, arith, List, [], ◌∷◌, ◌++◌, length, Option, Some, None, IsTrue, length-append}
use Rattle.dev_traits.specs.Causes.{Counts, RoseBy}
use Rattle.dev_traits.specs.Image.{Image}
use Rattle.dev_traits.specs.View.{Calm, View, EachImage}
use Rattle.dev_traits.proofs.Moments.{calm_then}
use Rattle.pk_values.specs.Schemas.{Layout}
use Rattle.pk_model.specs.declared.books.Book.{Book}
use Rattle.pk_model.specs.Durable.{durable}
use Rattle.script_text.specs.declared.outcomes.Item.{Item}
use Rattle.script_text.specs.declared.outcomes.Outcome.{Outcome}
use Rattle.reports.specs.declared.jobs.FiledJob.{FiledJob}
use Rattle.reports.specs.Bearing.{AreBorneOut, TellsIntact}
use Rattle.reports.specs.Shutting.{ShutsBy}
use Rattle.pk_model.specs.Books.{Entry, IsLegal, replay}
use Rattle.reports.specs.Plain.{PhasesRise}
use Rattle.reports.specs.Progress.{HasCome, IsRun}
use Rattle.reports.specs.Notes.{Note, turns_in}
use Rattle.reports.specs.declared.turns.Turn.{Turn}
use Rattle.reports.proofs.BearingLaws.{borne-more, borne-none}
use Rattle.reports.proofs.PlainLaws.{outcomes-append}
use Rattle.reports.proofs.ProgressLaws.{add-note, come-none, seen-is}
use Rattle.reports.proofs.ProgressRuns.{come-goes, come-runs}
use Rattle.tablet_state.specs.Stands.{Stands}
use Rattle.tablet_state.specs.State.{Has, Rests, Shown, faults_of, reader_faults}
use Rattle.tablet_run.specs.Doing.{Acts, AreOfJob, Does, HadBy, HasDone, IsAfter, entries_of, faults_beside, items_of, parts_of, turns_at}
use Rattle.tablet_run.specs.Stores.{HasOpened, Opens, Runs}
use Rattle.tablet_run.specs.declared.done.Done.{Done}
use Rattle.tablet_run.specs.declared.done.Parts.{Parts}
use Rattle.tablet_run.specs.declared.done.Parts.TheVariants as parts
use Rattle.tablet_run.specs.Worn.{BearsOut, IsWornOut, OnWorn}
use Rattle.tablet_run.proofs.DoingFacts.{calm-shut}
use Rattle.tablet_run.proofs.TookFacts.{shuts-then, turns-count, turns-items, turns-listed, turns-ordered, turns-own, turns-rise, turns-stood}
use Rattle.tablet_run.proofs.WornFacts.{all-worn-go, number-borne, worn-goes}

-- no job has more than three turns
parts-few : (number : ℕ) (p : Parts) → length (items_of number (parts_of p)) ≤ 3
parts-few number parts.None = omega arith
parts-few number parts.Whole = omega arith
parts-few number parts.First = omega arith
parts-few number parts.FirstLast = omega arith
parts-few number parts.FirstGaveUp = omega arith
parts-few number parts.FirstLastGaveUp = omega arith

module _ {S : Type 0} (view : S → View) (s : Layout) (opened : Shown S) where
  -- no job was done
  pub done-none : (before : ℕ) (order : List Item) (outcomes : List Outcome) → opened.contents.schema ≡ s → opened.closed ≡ None → order ≡ [] → outcomes ≡ []
      → HasDone view s opened opened before before [] order outcomes
  done-none before order outcomes schema unshut order_is outcomes_are =
      subst (λ os. HasDone view s opened opened before before [] order os) (sym outcomes_are) (subst (λ is. HasDone view s opened opened before before [] is []) (sym order_is) (record {
        schema = schema;
        honest = refl;
        come = subst (λ c. HasCome s (HadBy view opened) (IsAfter view s opened) c [] [] []) (sym unshut)
            (come-none s (HadBy view opened) (IsAfter view s opened) (λ b has. record { has = has; shut = λ p e. absurd (none-some p (sym unshut ∙ e)) }));
        borne = subst (λ c. AreBorneOut before before c []) (sym unshut) (borne-none before before (omega arith));
        ended = tt;
        worn = λ b has. tt;
        few = omega arith;
        each = refl;
      }))
    where
      none-some : (p : ℕ) → None ≡ Some p → ⊥
      none-some p e = cc

  -- one job more
  pub done-next : (old new : Shown S) (start mid now place number : ℕ) (jobs : List FiledJob) (j : FiledJob) (order order_now : List Item) (outcomes outcomes_now : List Outcome) (d : Done)
      → HasDone view s opened old start mid jobs order outcomes
      → Does view j place old new mid now d
      → place ≡ length order + 1 → number ≡ length jobs + 1
      → order_now ≡ order ++ items_of number (parts_of d.parts) → outcomes_now ≡ outcomes ++ d.outcome ∷ []
      → HasDone view s opened new start now (jobs ++ j ∷ []) order_now outcomes_now
  done-next old new start mid now place number jobs j order order_now outcomes outcomes_now d h does here numbered order_is outcomes_are =
      let jobs_count = length-append jobs (j ∷ []) in
      let outs_count = length-append outcomes (d.outcome ∷ []) in
      let each = h.each in
      let sizes = ap length outcomes_are in
      record {
        schema = acts.schema ∙ h.schema;
        honest = acts.honest ∙ h.honest;
        come = come;
        borne = subst (AreBorneOut start now new.closed) (sym outcomes_are) (borne-more start mid now old.closed new.closed outcomes d.outcome h.borne acts.rose acts.goes);
        ended = subst (AllByRecursion (λ o. OnWorn o (λ n. 2 ^ 62 ≤ n))) (sym outcomes_are)
            (outcomes-append (λ o. OnWorn o (λ n. 2 ^ 62 ≤ n)) outcomes d.outcome h.ended (worn-goes (IsWornOut new) (λ n. 2 ^ 62 ≤ n) (λ n w. w.ended) d.outcome acts.worn));
        worn = λ b has. let after = (h.come.over b has).1 in subst (AllByRecursion (λ o. OnWorn o (IsWornOut new))) (sym outcomes_are)
            (outcomes-append (λ o. OnWorn o (IsWornOut new)) outcomes d.outcome
            (all-worn-go (IsWornOut old) (IsWornOut new) (acts.stays (replay s b 1 h.come.seen) after.has) outcomes (h.worn b has)) acts.worn);
        few = few;
        each = omega (arith, jobs_count, outs_count, each, sizes);
      }
    where
      acts : Acts view s place old new mid now does.took d.outcome
      acts = subst (λ t. Acts view t place old new mid now does.took d.outcome) h.schema does.acts

      of_job : AreOfJob s j place does.took d.outcome
      of_job = subst (λ t. AreOfJob t j place does.took d.outcome) h.schema does.of_job

      seen : List Entry
      seen = h.come.seen

      -- the job's number, and the place of its first turn
      here_is : place ≡ suc (length seen)
      here_is = let count = seen-is s (HadBy view opened) (IsAfter view s old) old.closed jobs order outcomes h.come in omega (arith, here, count)

      mine : List Turn
      mine = turns_at number place does.took

      noted : Note
      noted = record { job = number; turns = mine; outcome = d.outcome }

      come : HasCome s (HadBy view opened) (IsAfter view s new) new.closed (jobs ++ j ∷ []) order_now outcomes_now
      come =
          let next_place : 1 + length seen ≡ place = omega (arith, here_is) in
          let at : place ≡ length seen + 1 = omega (arith, here_is) in
          add-note s (HadBy view opened) (IsAfter view s old) old.closed jobs order outcomes h.come (IsAfter view s new) new.closed j noted (entries_of does.took) order_now outcomes_now
          numbered
          (record {
            own = turns-own number place does.took;
            rise = turns-rise number 0 place does.took (omega (arith, here_is));
            stood = turns-stood s j mine number place seen does.took here_is (of_job.calls number);
            listed = turns-listed j number place does.took of_job.listed;
            course = of_job.course number;
          })
          (shuts-then None old.closed new.closed 1 seen (entries_of does.took) h.come.shuts (subst (λ n. ShutsBy old.closed n (entries_of does.took) new.closed) (sym next_place) acts.shuts))
          (λ b after. let over = acts.over b seen at after in (
            subst (λ n. IsLegal s (replay s b 1 seen) n (entries_of does.took)) (sym next_place) over.legal,
            over.rows number,
            over.intact,
            over.now,
          ))
          (turns-rise number (length seen) place does.took (omega (arith, here_is)))
          (turns-ordered number place does.took)
          (turns-count number place does.took)
          acts.run
          (order_is ∙ ap (λ is. order ++ is) (sym (turns-items number place does.took ∙ ap (items_of number) does.parts)))
          outcomes_are

      few : length order_now ≤ 3 * length (jobs ++ j ∷ [])
      few =
          let jobs_count = length-append jobs (j ∷ []) in
          let count = length-append order (items_of number (parts_of d.parts)) in
          let three = parts-few number d.parts in
          let size = ap length order_is in
          let old_few = h.few in
          omega (arith, jobs_count, count, three, size, old_few)

-- ---- the store that is left

module _ {S : Type 0} (view : S → View) (s : Layout) (opened now : Shown S) (start count : ℕ) (jobs : List FiledJob) (order : List Item) (outcomes : List Outcome)
    (h : HasDone view s opened now start count jobs order outcomes) where
  -- jobs that were done ran over the store that the tablet is given up for
  pub done-runs : PhasesRise jobs → (left : View) → RoseBy 0 count left.faults
      → Calm (view now.store) left
      → ((b : Book) → Has view now b → now.closed ≡ None → EachImage left (Stands s (durable b)))
      → (IsTrue left.is_honest → (image : Image) × (left.seen ≡ Some image) × left.may_leave image)
      → Runs s (HadBy view opened) start left jobs order outcomes
  done-runs rise left counts calm stands reads = record {
    turns = turns_in h.come.notes;
    entries = h.come.seen;
    closed = now.closed;
    order_is = h.come.gone.order_is;
    goes = come-goes s (HadBy view opened) (IsAfter view s now) now.closed jobs order outcomes h.come rise;
    run = subst (AllByRecursion IsRun) (sym h.come.gone.outcomes_are) h.come.gone.run;
    shuts = h.come.shuts;
    borne = record { rose = let rose = h.borne.rose in omega (arith, counts, rose); shut = h.borne.shut; opened = h.borne.opened };
    ended = h.ended;
    over = λ b opens. let over = h.come.over b opens in record {
      run = come-runs s (HadBy view opened) (IsAfter view s now) now.closed jobs order outcomes h.come rise b over.0;
      intact = subst (AllByRecursion TellsIntact) (sym h.come.gone.outcomes_are) over.0.intact;
      worn = all-worn-go (IsWornOut now) (BearsOut left)
          (λ n w. number-borne view now (replay s b 1 h.come.seen) left n over.1.has w calm reads) outcomes (h.worn b opens);
      images = record {
        opened = λ e. stands (replay s b 1 h.come.seen) over.1.has e;
        shut = λ p e. calm-shut (view now.store) left calm s b h.come.seen p (over.1.shut p e);
      };
      again = λ e honest. let read = reads honest in
          let stood = stands (replay s b 1 h.come.seen) over.1.has e read.0 read.2 in
          (read.0, record { honest = honest; seen = read.1 }, inr (durable (replay s b 1 h.come.seen), stood, refl));
    };
  }

-- faults count on from an earlier count
borne-earlier : (earlier before now : ℕ) (closed : Option ℕ) (outcomes : List Outcome) → RoseBy 0 earlier before → AreBorneOut before now closed outcomes → AreBorneOut earlier now closed outcomes
borne-earlier earlier before now closed outcomes r h = record { rose = let rose = h.rose in omega (arith, r, rose); shut = h.shut; opened = h.opened }

-- a run from a tablet that was opened is one from the store
pub runs-from : {S : Type 0} (view : S → View) (s : Layout) (store : S) (st : Shown S) (left : View) (jobs : List FiledJob) (order : List Item) (outcomes : List Outcome)
    → HasOpened view s store st → Runs s (HadBy view st) (faults_of view st) left jobs order outcomes → Runs s (Opens (view store) s) (view store).faults left jobs order outcomes
runs-from view s store st left jobs order outcomes opened runs = record {
  turns = runs.turns;
  entries = runs.entries;
  closed = runs.closed;
  order_is = runs.order_is;
  goes = runs.goes;
  run = runs.run;
  shuts = runs.shuts;
  borne = borne-earlier (view store).faults (faults_of view st) left.faults runs.closed outcomes opened.counts runs.borne;
  ended = runs.ended;
  over = λ b opens. runs.over b (opened.books b opens);
}

-- ---- a lane over a tablet, which is given up behind it

count-left : (sf mf rf a left : ℕ) → min (sf + mf + rf) (2 ^ 64 - 1) ≡ a → Counts (mf + rf) sf left → RoseBy 0 a left
count-left sf mf rf a left e h = omega (arith, e, h)

count-begun : (f0 f1 m1 : ℕ) → f1 ≡ f0 → RoseBy 0 f0 (min (f1 + m1) (2 ^ 64 - 1))
count-begun f0 f1 m1 e = omega (arith, e)

module _ {S : Type 0} (view : S → View) (st0 st1 st2 st3 : Shown S) (rests : Rests view st0 st1) (has : (b : Book) → Has view st0 b → Has view st1 b)
    (over_rests : Rests view st2 st3) (over_has : (b : Book) → Has view st2 b → Has view st3 b) (left : View) (calm : Calm (view st3.store) left)
    (stands : (b : Book) → Has view st3 b → st3.closed ≡ None → EachImage left (Stands st3.contents.schema (durable b))) where
  -- the lane did its jobs
  pub lane-runs : (m1 m2 : ℕ) (jobs : List FiledJob) (order : List Item) (outcomes : List Outcome)
      → faults_of view st1 ≡ faults_of view st0
      → HasDone view st1.contents.schema st1 st2 (faults_beside view st1 m1) (faults_beside view st2 m2) jobs order outcomes
      → PhasesRise jobs
      → faults_of view st3 ≡ faults_beside view st2 m2
      → Counts (st3.maker_faults + reader_faults st3.segments) (view st3.store).faults left.faults
      → (IsTrue left.is_honest → (image : Image) × (left.seen ≡ Some image) × left.may_leave image)
      → Runs st0.contents.schema (HadBy view st0) (faults_of view st0) left jobs order outcomes
  lane-runs m1 m2 jobs order outcomes faults h rise after counts reads = subst (λ s. Runs s (HadBy view st0) (faults_of view st0) left jobs order outcomes) begun (record {
    turns = base.turns;
    entries = base.entries;
    closed = base.closed;
    order_is = base.order_is;
    goes = base.goes;
    run = base.run;
    shuts = base.shuts;
    borne = borne-earlier (faults_of view st0) (faults_beside view st1 m1) left.faults base.closed outcomes (count-begun (faults_of view st0) (faults_of view st1) m1 faults) base.borne;
    ended = base.ended;
    over = λ b had. base.over b (has b had);
  })
    where
      begun : st1.contents.schema ≡ st0.contents.schema
      begun = ap (λ c. c.schema) rests.contents

      kept : st3.contents.schema ≡ st1.contents.schema
      kept = ap (λ c. c.schema) over_rests.contents ∙ h.schema

      base : Runs st1.contents.schema (HadBy view st1) (faults_beside view st1 m1) left jobs order outcomes
      base = done-runs view st1.contents.schema st1 st2 (faults_beside view st1 m1) (faults_beside view st2 m2) jobs order outcomes h rise left
          (count-left (view st3.store).faults st3.maker_faults (reader_faults st3.segments) (faults_beside view st2 m2) left.faults after counts)
          (calm_then (view st2.store) (view st3.store) left over_rests.calm calm)
          (λ b had unshut. subst (λ t. EachImage left (Stands t (durable b))) kept (stands b (over_has b had) (over_rests.closed ∙ unshut)))
          reads

  -- the lane did none, and the tablet is as it was
  pub lane-kept : st2 ≡ st1 → st0.closed ≡ None → (b : Book) → Has view st0 b → EachImage left (Stands st0.contents.schema (durable b))
  lane-kept same unshut b had =
      subst (λ t. EachImage left (Stands t (durable b))) (ap (λ c. c.schema) over_rests.contents ∙ ap (λ (st : Shown S). st.contents.schema) same ∙ ap (λ c. c.schema) rests.contents)
      (stands b (over_has b (subst (λ st. Has view st b) (sym same) (has b had))) (over_rests.closed ∙ ap (λ (st : Shown S). st.closed) same ∙ rests.closed ∙ unshut))

-- no lane was begun
pub unbegun-kept : {S : Type 0} (view : S → View) (st0 st1 : Shown S) (left : View) → Rests view st0 st1 → ((b : Book) → Has view st0 b → Has view st1 b)
    → ((b : Book) → Has view st1 b → st1.closed ≡ None → EachImage left (Stands st1.contents.schema (durable b)))
    → st0.closed ≡ None → (b : Book) → Has view st0 b → EachImage left (Stands st0.contents.schema (durable b))
unbegun-kept view st0 st1 left rests has stands unshut b had =
    subst (λ t. EachImage left (Stands t (durable b))) (ap (λ c. c.schema) rests.contents) (stands b (has b had) (rests.closed ∙ unshut))
