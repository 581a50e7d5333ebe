-- What the calls of a tablet do in the turns of a job, whichever job it is.
use Rattle.std.proofs.Common.{◌≡◌, ◌≢◌, refl, ap, sym, subst, ◌∙◌, ◌⊎◌, inl, inr, ℕ, zero, suc, ◌+◌, ◌-◌, ◌^◌, ◌≤◌, arith, List, [], ◌∷◌, ◌++◌, length, map, take, min, Option, Some, None, IsSomeAnd, length-append}
use Rattle.std.specs.Prelude.{⊤}
use Rattle.std.specs.List.{AllByRecursion}
use Rattle.std.proofs.lemmas.List.{append-nil, append_assoc, take_all}
use Rattle.dev_traits.specs.Causes.{RoseBy}
use Rattle.dev_traits.specs.View.{Calm, View}
use Rattle.dev_traits.proofs.Moments.{calm_none}
use Rattle.dev_traits.specs.declared.faults.Damaged.{Damaged}
use Rattle.dev_traits.specs.declared.faults.OutsideFault.{OutsideFault}
use Rattle.pk_values.specs.Schemas.{Layout}
use Rattle.pk_model.specs.declared.books.Book.{Book}
use Rattle.pk_model.specs.declared.calls.Call.{Call}
use Rattle.pk_model.specs.declared.calls.Call.TheVariants as call
use Rattle.pk_model.specs.declared.calls.Load.{Load}
use Rattle.pk_model.specs.declared.calls.Want.{Want}
use Rattle.pk_model.specs.declared.calls.Reply.{Reply}
use Rattle.pk_model.specs.declared.calls.Reply.TheVariants as reply
use Rattle.pk_model.specs.Books.{Entry, IsLegal, IsOfDevice, MayReply, next, replay}
use Rattle.pk_model.proofs.HistoryLaws.{replay-append}
use Rattle.script_text.specs.declared.outcomes.ItemPart.{ItemPart}
use Rattle.script_text.specs.declared.outcomes.ItemPart.TheVariants as part
use Rattle.script_text.specs.declared.outcomes.Outcome.{Outcome}
use Rattle.script_text.specs.declared.outcomes.Outcome.TheVariants as outcome
use Rattle.reports.specs.declared.jobs.FiledJob.{FiledJob}
use Rattle.reports.specs.declared.turns.Turn.{Turn}
use Rattle.reports.specs.Bearing.{GoesShut, TellsIntact, told_by}
use Rattle.reports.specs.Courses.{IsCourse}
use Rattle.reports.specs.Jobs.{PartMayGet, call_of}
use Rattle.reports.specs.Progress.{IsRun, Over, Turns}
use Rattle.reports.specs.Reports.{HasItsRows, book_at}
use Rattle.reports.specs.Shutting.{ShutsBy, TellsShut, shut_after}
use Rattle.reports.proofs.BearingLaws.{rose-beside}
use Rattle.core_publish.specs.Replies.{IsOpening, told_by_reply}
use Rattle.tablet_state.specs.Contents.{worn_of}
use Rattle.tablet_state.specs.State.{Has, Shown, StandsThroughout, Steps, faults_of}
use Rattle.tablet_run.specs.Doing.{Acts, ActsOver, AreOfJob, IsAfter, Took, entries_of, faults_beside, turns_at}
use Rattle.tablet_run.specs.Scanning.{IsIdle}
use Rattle.tablet_run.specs.Worn.{IsWornOut, OnWorn}
use Rattle.tablet_run.proofs.DoingFacts.{committed, goes-on, goes-turn, intact-turn, opened, opened-leaves, opening-intact, opening-stays, opening-tells, rests-after, told-turn}
use Rattle.tablet_run.proofs.TookFacts.{legal-one, turns-plain}
use Rattle.tablet_run.proofs.WornFacts.{load-stays, load-worn, opening-worn, same-worn, worn-goes}

-- ---- over a book

pub none-over : (s : Layout) (Now : Over) (b : Book) (seen : List Entry) (place : ℕ) (o : Outcome) → Now b seen → TellsIntact o → ActsOver s Now b seen place [] o
none-over s Now b seen place o now intact = record { legal = tt; now = subst (Now b) (sym (append-nil seen)) now; rows = λ number. tt; intact = intact }

pub one-over : (s : Layout) (Now : Over) (b : Book) (seen : List Entry) (place : ℕ) (t : Took) (o : Outcome) → place ≡ length seen + 1
    → Turns s Now b seen t.call t.reply o → ActsOver s Now b seen place (t ∷ []) o
one-over s Now b seen place t o here turn =
    let count = length-append seen ((t.call, t.reply) ∷ []) in
    let plus : 1 + length seen ≡ length seen + 1 = omega arith in
    let left : book_at s b (seen ++ (t.call, t.reply) ∷ []) place ≡ next s (replay s b 1 seen) (length seen + 1) t.call t.reply =
    ap (replay s b 1) (take_all place (seen ++ (t.call, t.reply) ∷ []) (omega (arith, count, here))) ∙ replay-append s b 1 seen ((t.call, t.reply) ∷ [])
    ∙ ap (λ n. next s (replay s b 1 seen) n t.call t.reply) plus in
    record {
      legal = (turn.may, tt);
      now = turn.now;
      rows = λ number. (subst (λ d. HasItsRows d o) (sym left) turn.rows, tt);
      intact = turn.intact;
    }

-- a turn, and others behind it, of which no rows are told
pub first-over : (s : Layout) (Now : Over) (b : Book) (seen : List Entry) (place : ℕ) (t : Took) (took : List Took) (o : Outcome) → place ≡ length seen + 1
    → MayReply (replay s b 1 seen) t.call t.reply → ((d : Book) → HasItsRows d o)
    → ActsOver s Now b (seen ++ (t.call, t.reply) ∷ []) (place + 1) took o → ActsOver s Now b seen place (t ∷ took) o
first-over s Now b seen place t took o here may plain later =
    let moved : (seen ++ (t.call, t.reply) ∷ []) ++ entries_of took ≡ seen ++ (t.call, t.reply) ∷ entries_of took = append_assoc seen ((t.call, t.reply) ∷ []) (entries_of took) in
    record {
      legal = legal-one s b seen place (t.call, t.reply) (entries_of took) here may later.legal;
      now = subst (Now b) moved later.now;
      rows = λ number. turns-plain (book_at s b (seen ++ (t.call, t.reply) ∷ entries_of took)) o plain number place (t ∷ took);
      intact = later.intact;
    }

-- ---- jobs

pub none-of-job : (s : Layout) (j : FiledJob) (place : ℕ) (o : Outcome) → IsCourse s j [] o → AreOfJob s j place [] o
none-of-job s j place o course = record { calls = λ number. tt; listed = tt; course = λ number. course }

pub one-of-job : (s : Layout) (j : FiledJob) (place : ℕ) (t : Took) (o : Outcome)
    → ((mine : List Turn) → call_of s j mine t.part ≡ Some t.call)
    → (IsOfDevice t.reply → PartMayGet j.job.act t.part t.reply)
    → ((u : Turn) → u.part ≡ t.part → u.reply ≡ t.reply → IsCourse s j (u ∷ []) o)
    → AreOfJob s j place (t ∷ []) o
one-of-job s j place t o calls listed course = record {
  calls = λ number. (calls (turns_at number place (t ∷ [])), tt);
  listed = (listed, tt);
  course = λ number. course (record { job = number; part = t.part; place = place; reply = t.reply }) refl refl;
}

-- ---- a tablet

pub idle-self : {S : Type 0} (view : S → View) (st : Shown S) → IsIdle view st st
idle-self view st = record { has = λ b h. h; calm = calm_none (view st.store); contents = refl; closed = refl }

rose-self : (n : ℕ) → RoseBy 0 n n
rose-self n = omega arith

module _ {S : Type 0} (view : S → View) (place : ℕ) where
  -- no turn
  pub none-acts : (st : Shown S) (o : Outcome) (before now : ℕ) → RoseBy (told_by o) before now → GoesShut st.closed st.closed o → IsRun o → OnWorn o (IsWornOut st)
      → ((b : Book) (seen : List Entry) → IsAfter view st.contents.schema st b seen → TellsIntact o)
      → Acts view st.contents.schema place st st before now [] o
  none-acts st o before now rose goes run worn intact = record {
    schema = refl;
    honest = refl;
    rose = rose;
    goes = goes;
    run = run;
    worn = worn;
    stays = λ b has n h. h;
    shuts = refl;
    over = λ b seen here h. none-over st.contents.schema (IsAfter view st.contents.schema st) b seen place o h (intact b seen h);
  }

  -- a load that is published
  pub published-acts : (p : ItemPart) (old new : Shown S) (load : Load) (r : Reply) (n m : ℕ) → m ≡ n
      → ((b : Book) → Has view old b → Steps view new b place (call.Load load) r)
      → ((b : Book) → Has view old b → old.closed ≡ None → StandsThroughout old.contents.schema b place (call.Load load) (view old.store) (view new.store))
      → ((b : Book) → Has view old b → (d : Damaged) → r ≡ reply.Damaged d → ⊥)
      → TellsShut old.closed r → new.closed ≡ shut_after old.closed place r → ((q : ℕ) → old.closed ≡ Some q → new ≡ old)
      → new.contents.schema ≡ old.contents.schema → (view new.store).is_honest ≡ (view old.store).is_honest
      → RoseBy (told_by_reply r) (faults_of view old) (faults_of view new)
      → ((k : ℕ) → r ≡ reply.Worn k → (worn_of old.contents ≡ Some k) × (new ≡ old))
      → ((k : ℕ) → old.closed ≡ None → worn_of old.contents ≡ Some k → r ≡ reply.Worn k)
      → Acts view old.contents.schema place old new (faults_beside view old n) (faults_beside view new m) ((record { part = p; call = call.Load load; reply = r }) ∷ []) (outcome.Turn r)
  published-acts p old new load r n m same turn moment intact tells shut stays schema honest rose worn stays_worn =
      let s = old.contents.schema in record {
        schema = schema;
        honest = honest;
        rose = subst (λ k. RoseBy (told_by (outcome.Turn r)) (faults_beside view old n) (faults_beside view new k)) (sym same)
            (rose-beside (told_by (outcome.Turn r)) n 0 (faults_of view old) (faults_of view new)
            (subst (λ k. RoseBy k (faults_of view old) (faults_of view new)) (sym (told-turn r)) rose));
        goes = subst (λ c. GoesShut old.closed c (outcome.Turn r)) (sym shut) (goes-turn old.closed place r tells);
        run = tt;
        worn = load-worn old new r tells worn;
        stays = λ b has k h. load-stays old new r worn stays_worn k h;
        shuts = (tells, shut);
        over = λ b seen here h. let step = turn (replay s b 1 seen) h.has in
            one-over s (IsAfter view s new) b seen place (record { part = p; call = call.Load load; reply = r }) (outcome.Turn r) here (record {
              may = step.0;
              now = committed view s old new b seen place (call.Load load) r refl schema here h step.1 (moment (replay s b 1 seen) h.has) shut stays;
              rows = tt;
              intact = intact-turn r (intact (replay s b 1 seen) h.has);
            });
      }

  -- a version that wasn't opened
  pub unopened-acts : (p : ItemPart) (want : Want) (old new : Shown S) (r : Reply) (n : ℕ)
      → ((b : Book) → Has view old b → Steps view new b place (call.Open want) r) → IsOpening r
      → TellsShut old.closed r → new.closed ≡ old.closed → new.contents ≡ old.contents → Calm (view old.store) (view new.store)
      → faults_of view new ≡ faults_of view old
      → Acts view old.contents.schema place old new (faults_beside view old n) (faults_beside view new n) ((record { part = p; call = call.Open want; reply = r }) ∷ []) (outcome.Turn r)
  unopened-acts p want old new r n turn only tells closed contents calm faults =
      let s = old.contents.schema in
      let schema : new.contents.schema ≡ old.contents.schema = ap (λ c. c.schema) contents in
      let shut : new.closed ≡ shut_after old.closed place r = closed ∙ sym (opening-stays old.closed place r only) in
      record {
        schema = schema;
        honest = calm.honest;
        rose = rose-beside (told_by (outcome.Turn r)) n 0 (faults_of view old) (faults_of view new)
            (subst (λ k. RoseBy (told_by (outcome.Turn r)) (faults_of view old) k) (sym faults) (subst (λ k. RoseBy k (faults_of view old) (faults_of view old)) (sym (opening-tells r only)) (rose-self (faults_of view old))));
        goes = subst (λ c. GoesShut old.closed c (outcome.Turn r)) (sym shut) (goes-turn old.closed place r tells);
        run = tt;
        worn = opening-worn (IsWornOut new) r only;
        stays = λ b has k h. same-worn old new contents closed k h;
        shuts = (tells, shut);
        over = λ b seen here h. let step = turn (replay s b 1 seen) h.has in
            one-over s (IsAfter view s new) b seen place (record { part = p; call = call.Open want; reply = r }) (outcome.Turn r) here (record {
              may = step.0;
              now = opened view s old new new b seen place (call.Open want) r schema here h step.1 calm closed (idle-self view new);
              rows = tt;
              intact = opening-intact r only;
            });
      }

  -- a version that was opened, and turns behind that, of which no rows are told
  pub opened-then : (p : ItemPart) (want : Want) (old mid new : Shown S) (v : ℕ) (took : List Took) (o : Outcome) (before mid_count now : ℕ)
      → ((b : Book) → Has view old b → Steps view mid b place (call.Open want) (reply.Opened v))
      → TellsShut old.closed (reply.Opened v) → mid.closed ≡ old.closed → mid.contents ≡ old.contents → Calm (view old.store) (view mid.store)
      → mid_count ≡ before → ((d : Book) → HasItsRows d o)
      → Acts view mid.contents.schema (place + 1) mid new mid_count now took o
      → Acts view old.contents.schema place old new before now ((record { part = p; call = call.Open want; reply = reply.Opened v }) ∷ took) o
  opened-then p want old mid new v took o before mid_count now turn tells closed contents calm count plain acts =
      let s = old.contents.schema in
      let first : Took = record { part = p; call = call.Open want; reply = reply.Opened v } in
      let schema : mid.contents.schema ≡ s = ap (λ c. c.schema) contents in
      let stays : shut_after old.closed place (reply.Opened v) ≡ mid.closed = opening-stays old.closed place (reply.Opened v) tt ∙ sym closed in
      let later : Acts view s (place + 1) mid new mid_count now took o = subst (λ t. Acts view t (place + 1) mid new mid_count now took o) schema acts in
      record {
        schema = acts.schema ∙ schema;
        honest = acts.honest ∙ calm.honest;
        rose = subst (λ k. RoseBy (told_by o) k now) count acts.rose;
        goes = subst (λ c. GoesShut c new.closed o) closed acts.goes;
        run = acts.run;
        worn = acts.worn;
        stays = λ b has k h. acts.stays b (subst (Has view mid) (opened-leaves mid.contents.schema b place want v) (turn b has).1) k (same-worn old mid contents closed k h);
        shuts = (tells, subst (λ c. ShutsBy c (place + 1) (entries_of took) new.closed) (sym stays) acts.shuts);
        over = λ b seen here h.
            let step = turn (replay s b 1 seen) h.has in
            let count = length-append seen ((call.Open want, reply.Opened v) ∷ []) in
            first-over s (IsAfter view s new) b seen place first took o here step.0 plain
            (later.over b (seen ++ (call.Open want, reply.Opened v) ∷ []) (omega (arith, here, count))
            (opened view s old mid mid b seen place (call.Open want) (reply.Opened v) schema here h step.1 calm closed (idle-self view mid)));
      }

  -- turns, and a tablet that then writes nothing
  pub acts-rest : (s : Layout) (old mid new : Shown S) (before now later : ℕ) (took : List Took) (o : Outcome)
      → Acts view s place old mid before now took o → IsIdle view mid new → later ≡ now → Acts view s place old new before later took o
  acts-rest s old mid new before now later took o acts rests count = record {
    schema = ap (λ c. c.schema) rests.contents ∙ acts.schema;
    honest = rests.calm.honest ∙ acts.honest;
    rose = subst (RoseBy (told_by o) before) (sym count) acts.rose;
    goes = subst (λ c. GoesShut old.closed c o) (sym rests.closed) acts.goes;
    run = acts.run;
    worn = worn-goes (IsWornOut mid) (IsWornOut new) (same-worn mid new rests.contents rests.closed) o acts.worn;
    stays = λ b has k h. same-worn mid new rests.contents rests.closed k (acts.stays b has k h);
    shuts = subst (ShutsBy old.closed place (entries_of took)) (sym rests.closed) acts.shuts;
    over = λ b seen here h. let over = acts.over b seen here h in record {
      legal = over.legal;
      now = rests-after view s mid new rests b (seen ++ entries_of took) over.now;
      rows = over.rows;
      intact = over.intact;
    };
  }
