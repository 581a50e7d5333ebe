-- Each kind of job with one turn, over a tablet.
use Rattle.std.proofs.Common.{◌≡◌, ◌≢◌, refl, ap, sym, subst, ◌∙◌, ◌⊎◌, inl, inr, ℕ, zero, suc, ◌+◌, ◌-◌, ◌^◌, ◌≤◌, arith, List, [], ◌∷◌, ◌++◌, length, drop, min, Option, Some, None, IsSomeAnd, Result, Ok, Err, true, false}
use Rattle.std.specs.Prelude.{⊤}
use Rattle.std.specs.FinMap as fin
use Rattle.std.proofs.lemmas.List.{length-drop}
use Rattle.dev_traits.specs.Causes.{Counts, RoseBy}
use Rattle.dev_traits.specs.Faults.{outside_of_make}
use Rattle.dev_traits.specs.View.{Calm, View}
use Rattle.dev_traits.specs.declared.faults.Damaged.{Damaged}
use Rattle.dev_traits.specs.declared.faults.MakeFault.{MakeFault}
use Rattle.dev_traits.specs.declared.faults.MakeFault.TheVariants as make
use Rattle.load_csv.specs.declared.loads.LoadFault.{LoadFault}
use Rattle.load_csv.specs.declared.loads.LoadFault.TheVariants as fault
use Rattle.load_csv.specs.Loads.{load_of, others, places}
use Rattle.pk_values.specs.Schemas.{Layout, schema_fault}
use Rattle.pk_values.specs.SchemaFacts.{keys_within}
use Rattle.pk_values.specs.declared.cells.Column.{Column}
use Rattle.pk_model.specs.declared.books.Book.{Book}
use Rattle.pk_model.specs.declared.calls.Call.TheVariants as call
use Rattle.pk_model.specs.declared.calls.Load.{Load}
use Rattle.pk_model.specs.declared.calls.Want.{Want}
use Rattle.pk_model.specs.declared.calls.Reply.{Reply}
use Rattle.pk_model.specs.declared.calls.Reply.TheVariants as reply
use Rattle.pk_model.specs.Books.{Entry, IsOfDevice, answer, replay, rows_at}
use Rattle.pk_model.specs.Tables.{Rows}
use Rattle.script_text.specs.declared.scripts.JobAct.{JobAct}
use Rattle.script_text.specs.declared.scripts.JobAct.TheVariants as act
use Rattle.script_text.specs.declared.outcomes.ItemPart.TheVariants as part
use Rattle.script_text.specs.declared.outcomes.Outcome.{Outcome}
use Rattle.script_text.specs.declared.outcomes.Outcome.TheVariants as outcome
use Rattle.script_text.specs.Texts.{rows_text}
use Rattle.reports.specs.declared.jobs.FiledJob.{FiledJob}
use Rattle.reports.specs.declared.turns.Turn.{Turn}
use Rattle.reports.specs.Bearing.{GoesShut, TellsIntact, TellsOpen, told_by}
use Rattle.reports.specs.Courses.{AreRowsOf, HasTurns, IsOutside, ReadingTells, ScanEnds, WithoutTurn}
use Rattle.reports.specs.Jobs.{PartMayGet, call_of, first_place, is_partial, load_call, load_in, part_call}
use Rattle.reports.specs.Progress.{IsRun}
use Rattle.reports.specs.Reports.{HasItsRows}
use Rattle.reports.specs.Shutting.{TellsShut, shut_after}
use Rattle.reports.proofs.BearingLaws.{rose-beside}
use Rattle.reports.proofs.PlainSteps.{load-is, opened-kept, refused-tells}
use Rattle.core_publish.specs.Replies.{IsOpening, IsStat, told_by_reply}
use Rattle.tablet_state.specs.Contents.{worn_of}
use Rattle.tablet_state.specs.State.{Has, Shown, StandsThroughout, Steps, faults_of}
use Rattle.tablet_run.specs.Doing.{Does, IsAfter, Took, faults_beside}
use Rattle.tablet_run.specs.Scanning.{IsIdle, RowsTold}
use Rattle.tablet_run.specs.Worn.{IsWornOut}
use Rattle.tablet_run.specs.declared.done.Done.{Done}
use Rattle.tablet_run.specs.declared.done.Parts.TheVariants as parts
use Rattle.tablet_run.proofs.ActFacts.{none-acts, none-of-job, one-of-job, one-over, published-acts, unopened-acts}
use Rattle.tablet_run.proofs.DoingFacts.{shut-longer, goes-on, goes-turn, opened, opened-answer, opened-leaves, opening-listed, opening-stays, replay-one, scan-refused, stat-intact, stat-leaves, stat-listed, stat-stays, stat-tells}
use Rattle.tablet_run.proofs.WornFacts.{rows-worn, same-worn, stat-worn}

-- ---- counts

pub rose-same : (f n : ℕ) → RoseBy 0 (min (f + n) (2 ^ 64 - 1)) (min (f + n) (2 ^ 64 - 1))
rose-same f n = omega arith

pub rose-one : (f n m : ℕ) → Counts 1 n m → RoseBy 1 (min (f + n) (2 ^ 64 - 1)) (min (f + m) (2 ^ 64 - 1))
rose-one f n m h = omega (arith, h)

-- ---- loads

length-places : (n : ℕ) (cs : List Column) → length (places n cs) ≡ length cs
length-places n [] = refl
length-places n (c ∷ cs) = ap suc (length-places (n + 1) cs)

-- a load that carries all columns outside the key is a whole one
pub whole-load : (s : Layout) (given : List ℕ) → schema_fault s.columns s.keys ≡ None → given ≡ others s → s.keys + length given ≡ length s.columns
whole-load s given valid e =
    let within = keys_within s.columns s.keys valid in
    let count = length-drop s.keys s.columns in
    let size : length given ≡ length (drop s.keys s.columns) = ap length e ∙ length-places s.keys (drop s.keys s.columns) in
    omega (arith, within, count, size)

module _ {S : Type 0} (view : S → View) (j : FiledJob) (place : ℕ) (name : List ℕ) (is : j.job.act ≡ act.Load name) where
  load-listed : (r : Reply) → IsOfDevice r → PartMayGet j.job.act part.Whole r
  load-listed r d = subst (λ a. PartMayGet a part.Whole r) (sym is) d

  load-course : (r : Reply) (t : Turn) → t.part ≡ part.Whole → t.reply ≡ r → HasTurns j.job.act (t ∷ []) (outcome.Turn r)
  load-course r t p e = subst (λ a. HasTurns a (t ∷ []) (outcome.Turn r)) (sym is) (p, ap outcome.Turn (sym e))

  load-call-is : (s : Layout) (load : Load) → load_in s j ≡ Ok load → (mine : List Turn) → call_of s j mine part.Whole ≡ Some (call.Load load)
  load-call-is s load read mine = ap (λ a. part_call a (load_in s j) (first_place mine) part.Whole) is ∙ ap load_call read

  -- a load that was prepared
  pub publish-does : (old new : Shown S) (load : Load) (r : Reply) (n m : ℕ) → load_in old.contents.schema j ≡ Ok load → m ≡ n
      → ((b : Book) → Has view old b → Steps view new b place (call.Load load) r)
      → ((b : Book) → Has view old b → old.closed ≡ None → StandsThroughout old.contents.schema b place (call.Load load) (view old.store) (view new.store))
      → ((b : Book) → Has view old b → (d : Damaged) → r ≡ reply.Damaged d → ⊥)
      → TellsShut old.closed r → new.closed ≡ shut_after old.closed place r → ((p : ℕ) → old.closed ≡ Some p → new ≡ old)
      → new.contents.schema ≡ old.contents.schema → (view new.store).is_honest ≡ (view old.store).is_honest
      → RoseBy (told_by_reply r) (faults_of view old) (faults_of view new)
      → ((k : ℕ) → r ≡ reply.Worn k → (worn_of old.contents ≡ Some k) × (new ≡ old))
      → ((k : ℕ) → old.closed ≡ None → worn_of old.contents ≡ Some k → r ≡ reply.Worn k)
      → Does view j place old new (faults_beside view old n) (faults_beside view new m) (record { parts = parts.Whole; outcome = outcome.Turn r })
  publish-does old new load r n m read same turn moment intact tells shut stays schema honest rose worn stays_worn = record {
    took = (record { part = part.Whole; call = call.Load load; reply = r }) ∷ [];
    parts = refl;
    acts = published-acts view place part.Whole old new load r n m same turn moment intact tells shut stays schema honest rose worn stays_worn;
    of_job = one-of-job old.contents.schema j place (record { part = part.Whole; call = call.Load load; reply = r }) (outcome.Turn r)
        (load-call-is old.contents.schema load read) (load-listed r) (λ t p e. load-course r t p e);
  }

  -- one whose files weren't made
  made-intact : (f : MakeFault) → TellsIntact (outcome.Outside (outside_of_make f))
  made-intact make.StoreFault = tt
  made-intact make.Memory = tt

  made-course : (s : Layout) (load : Load) (f : MakeFault) → load_in s j ≡ Ok load → WithoutTurn j.job.act (load_in s j) (outcome.Outside (outside_of_make f))
  made-course s load f read =
      subst (λ a. WithoutTurn a (load_in s j) (outcome.Outside (outside_of_make f))) (sym is)
      (subst (λ l. WithoutTurn (act.Load name) l (outcome.Outside (outside_of_make f))) (sym read) (of-making f))
    where
      of-making : (f : MakeFault) → WithoutTurn (act.Load name) (Ok load) (outcome.Outside (outside_of_make f))
      of-making make.StoreFault = tt
      of-making make.Memory = tt

  pub unmade-does : (old : Shown S) (load : Load) (f : MakeFault) (n m : ℕ) → load_in old.contents.schema j ≡ Ok load
      → (f ≡ make.StoreFault → Counts 1 n m) → ((f ≡ make.StoreFault → ⊥) → m ≡ n)
      → Does view j place old old (faults_beside view old n) (faults_beside view old m) (record { parts = parts.None; outcome = outcome.Outside (outside_of_make f) })
  unmade-does old load f n m read counts same = record {
    took = [];
    parts = refl;
    acts = none-acts view place old (outcome.Outside (outside_of_make f)) (faults_beside view old n) (faults_beside view old m) (by f counts same)
        (goes-on old.closed (outcome.Outside (outside_of_make f)) tt) tt tt (λ b seen h. made-intact f);
    of_job = none-of-job old.contents.schema j place (outcome.Outside (outside_of_make f)) (made-course old.contents.schema load f read);
  }
    where
      unlike : make.Memory ≡ make.StoreFault → ⊥
      unlike e = cc

      by : (f : MakeFault) → (f ≡ make.StoreFault → Counts 1 n m) → ((f ≡ make.StoreFault → ⊥) → m ≡ n)
          → RoseBy (told_by (outcome.Outside (outside_of_make f))) (faults_beside view old n) (faults_beside view old m)
      by make.StoreFault c s = rose-one (faults_of view old) n m (c refl)
      by make.Memory c s = subst (λ k. RoseBy 0 (faults_beside view old n) (faults_beside view old k)) (sym (s unlike)) (rose-same (faults_of view old) n)

  -- one whose file was refused
  pub unread-does : (old : Shown S) (file : List ℕ) (f : LoadFault) (n : ℕ) → j.file ≡ file → (f ≢ fault.Memory → load_of old.contents.schema false file ≡ Err f)
      → Does view j place old old (faults_beside view old n) (faults_beside view old n) (record { parts = parts.None; outcome = outcome.Load f })
  unread-does old file f n same told = record {
    took = [];
    parts = refl;
    acts = none-acts view place old (outcome.Load f) (faults_beside view old n) (faults_beside view old n) (rose-same (faults_of view old) n)
        (goes-on old.closed (outcome.Load f) tt) tt tt (λ b seen h. tt);
    of_job = none-of-job old.contents.schema j place (outcome.Load f)
        (subst (λ a. WithoutTurn a (load_in old.contents.schema j) (outcome.Load f)) (sym is)
        (subst (λ l. ReadingTells l f) (sym (load-is old.contents.schema j false file (ap is_partial is) same)) (refused-tells (load_of old.contents.schema false file) f told)));
  }

-- ---- scans

told-rows : (v : ℕ) (m : Rows) (b : Book) (o : Outcome) → rows_at b v ≡ Some m → RowsTold v m o → HasItsRows b o × TellsIntact o
told-rows v m b o kept h = elim h [
  | inl is ↦ subst (λ p. HasItsRows b p × TellsIntact p) (sym is)
      (subst (λ k. IsSomeAnd k (λ (n : Rows). (fin.len m ≡ fin.len n) × (rows_text (fin.values m) ≡ rows_text (fin.values n)))) (sym kept) (refl, refl), tt)
  | inr out ↦ (outside-rows o out.0, out.1)
]
  where
    outside-rows : (o : Outcome) → IsOutside o → HasItsRows b o
    outside-rows (outcome.Turn r) h = absurd h
    outside-rows (outcome.Rows n c t) h = absurd h
    outside-rows (outcome.Load f) h = absurd h
    outside-rows (outcome.Outside f) h = tt
    outside-rows outcome.NotRun h = absurd h

rows-open : (v : ℕ) (o : Outcome) → AreRowsOf v o → TellsOpen o × IsRun o
rows-open v (outcome.Turn r) h = absurd h
rows-open v (outcome.Rows n c t) h = (tt, tt)
rows-open v (outcome.Load f) h = absurd h
rows-open v (outcome.Outside f) h = (tt, tt)
rows-open v outcome.NotRun h = absurd h

module _ {S : Type 0} (view : S → View) (j : FiledJob) (place : ℕ) (want : Want) (is : j.job.act ≡ act.Scan want) where
  scan-call : (s : Layout) (mine : List Turn) → call_of s j mine part.Whole ≡ Some (call.Open want)
  scan-call s mine = ap (λ a. part_call a (load_in s j) (first_place mine) part.Whole) is

  scan-listed : (r : Reply) → IsOpening r → IsOfDevice r → PartMayGet j.job.act part.Whole r
  scan-listed r only d = subst (λ a. PartMayGet a part.Whole r) (sym is) (opening-listed r only d)

  scan-course : (r : Reply) (o : Outcome) → ScanEnds r o → (t : Turn) → t.part ≡ part.Whole → t.reply ≡ r → HasTurns j.job.act (t ∷ []) o
  scan-course r o ends t p e = subst (λ a. HasTurns a (t ∷ []) o) (sym is) (p, subst (λ x. ScanEnds x o) (sym e) ends)

  -- a version was opened, and its rows were read
  pub scan-does : (old mid new : Shown S) (v : ℕ) (o : Outcome) (n : ℕ)
      → ((b : Book) → Has view old b → Steps view mid b place (call.Open want) (reply.Opened v))
      → ((b : Book) → Has view old b → (m : Rows) → rows_at b v ≡ Some m → RowsTold v m o)
      → TellsShut old.closed (reply.Opened v) → mid.closed ≡ old.closed → mid.contents ≡ old.contents → Calm (view old.store) (view mid.store)
      → faults_of view mid ≡ faults_of view old
      → AreRowsOf v o → RoseBy (told_by o) (faults_of view mid) (faults_of view new) → IsIdle view mid new
      → Does view j place old new (faults_beside view old n) (faults_beside view new n) (record { parts = parts.Whole; outcome = o })
  scan-does old mid new v o n turn rows tells closed contents calm faults of rose rests =
      let schema : mid.contents.schema ≡ old.contents.schema = ap (λ c. c.schema) contents in
      let same : new.closed ≡ old.closed = rests.closed ∙ closed in
      let stays = opening-stays old.closed place (reply.Opened v) tt in
      let turned : Took = record { part = part.Whole; call = call.Open want; reply = reply.Opened v } in
      record {
        took = turned ∷ [];
        parts = refl;
        acts = record {
          schema = ap (λ c. c.schema) (rests.contents ∙ contents);
          honest = rests.calm.honest ∙ calm.honest;
          rose = rose-beside (told_by o) n 0 (faults_of view old) (faults_of view new) (subst (λ k. RoseBy (told_by o) k (faults_of view new)) faults rose);
          goes = subst (λ c. GoesShut old.closed c o) (sym same) (goes-on old.closed o (rows-open v o of).0);
          run = (rows-open v o of).1;
          worn = rows-worn (IsWornOut new) v o of;
          stays = λ b has k h. same-worn old new (rests.contents ∙ contents) same k h;
          shuts = (tells, same ∙ sym stays);
          over = λ b seen here h. let book = replay old.contents.schema b 1 seen in let step = turn book h.has in let kept = opened-kept book want v (sym (opened-answer book want v step.0)) in
              let told = rows-of book h.has (rows_at book v) refl kept in
              one-over old.contents.schema (IsAfter view old.contents.schema new) b seen place turned o here (record {
                may = step.0;
                now = opened view old.contents.schema old mid new b seen place (call.Open want) (reply.Opened v) schema here h step.1 calm closed rests;
                rows = subst (λ d. HasItsRows d o) (sym (opened-leaves old.contents.schema book (length seen + 1) want v)) told.0;
                intact = told.1;
              });
        };
        of_job = one-of-job old.contents.schema j place turned o (scan-call old.contents.schema) (scan-listed (reply.Opened v) tt) (λ t p e. scan-course (reply.Opened v) o of t p e);
      }
    where
      rows-of : (b : Book) → Has view old b → (k : Option Rows) → rows_at b v ≡ k → IsSomeAnd k (λ m. ⊤) → HasItsRows b o × TellsIntact o
      rows-of b has None e h = absurd h
      rows-of b has (Some m) e h = told-rows v m b o e (rows b has m e)

  -- none was
  pub unopened-does : (old new : Shown S) (r : Reply) (n : ℕ)
      → ((b : Book) → Has view old b → Steps view new b place (call.Open want) r) → ((v : ℕ) → r ≡ reply.Opened v → ⊥) → IsOpening r
      → TellsShut old.closed r → new.closed ≡ old.closed → new.contents ≡ old.contents → Calm (view old.store) (view new.store)
      → faults_of view new ≡ faults_of view old
      → Does view j place old new (faults_beside view old n) (faults_beside view new n) (record { parts = parts.Whole; outcome = outcome.Turn r })
  unopened-does old new r n turn none only tells closed contents calm faults = record {
    took = (record { part = part.Whole; call = call.Open want; reply = r }) ∷ [];
    parts = refl;
    acts = unopened-acts view place part.Whole want old new r n turn only tells closed contents calm faults;
    of_job = one-of-job old.contents.schema j place (record { part = part.Whole; call = call.Open want; reply = r }) (outcome.Turn r)
        (scan-call old.contents.schema) (scan-listed r only) (λ t p e. scan-course r (outcome.Turn r) (scan-refused r none) t p e);
  }

-- ---- counts of rows

module _ {S : Type 0} (view : S → View) (j : FiledJob) (place : ℕ) (is : j.job.act ≡ act.Stat) where
  pub stat-does : (st : Shown S) (r : Reply) (n : ℕ) → ((b : Book) → Has view st b → r ≡ answer b call.Stat) → IsStat r → TellsShut st.closed r
      → Does view j place st st (faults_beside view st n) (faults_beside view st n) (record { parts = parts.Whole; outcome = outcome.Turn r })
  stat-does st r n turn only tells =
      let stays = stat-stays st.closed place r only in
      let turned : Took = record { part = part.Whole; call = call.Stat; reply = r } in
      record {
        took = turned ∷ [];
        parts = refl;
        acts = record {
          schema = refl;
          honest = refl;
          rose = subst (λ k. RoseBy k (faults_beside view st n) (faults_beside view st n)) (sym (stat-tells r only)) (rose-same (faults_of view st) n);
          goes = subst (λ c. GoesShut st.closed c (outcome.Turn r)) stays (goes-turn st.closed place r tells);
          run = tt;
          worn = stat-worn (IsWornOut st) r only;
          stays = λ b has k h. h;
          shuts = (tells, sym stays);
          over = λ b seen here h. one-over st.contents.schema (IsAfter view st.contents.schema st) b seen place turned (outcome.Turn r) here (record {
            may = inl (turn (replay st.contents.schema b 1 seen) h.has);
            now = counted b seen here h;
            rows = tt;
            intact = stat-intact r only;
          });
        };
        of_job = one-of-job st.contents.schema j place turned (outcome.Turn r) (λ mine. ap (λ a. part_call a (load_in st.contents.schema j) (first_place mine) part.Whole) is)
            (λ d. absurd (stat-listed r only d)) (λ t p e. subst (λ a. HasTurns a (t ∷ []) (outcome.Turn r)) (sym is) (p, ap outcome.Turn (sym e)));
      }
    where
      counted : (b : Book) (seen : List Entry) → place ≡ length seen + 1 → IsAfter view st.contents.schema st b seen → IsAfter view st.contents.schema st b (seen ++ (call.Stat, r) ∷ [])
      counted b seen here h = record {
        has = subst (Has view st) (sym (replay-one st.contents.schema b seen place call.Stat r here ∙ stat-leaves st.contents.schema (replay st.contents.schema b 1 seen) place r only)) h.has;
        shut = λ p e. shut-longer (view st.store) st.contents.schema b seen ((call.Stat, r) ∷ []) p (h.shut p e);
      }
