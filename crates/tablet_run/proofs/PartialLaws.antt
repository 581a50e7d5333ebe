-- Partial loads, over a tablet.
use Rattle.std.proofs.Common.{◌≡◌, ◌≢◌, refl, ap, sym, subst, ◌∙◌, ◌⊎◌, inl, inr, ℕ, ◌+◌, ◌-◌, ◌^◌, ◌≤◌, arith, List, [], ◌∷◌, map, min, Option, Some, None, IsSomeAnd, Result, Ok, Err, true}
use Rattle.std.specs.Prelude.{⊤}
use Rattle.std.specs.List.{AllByRecursion}
use Rattle.dev_traits.specs.View.{Calm, View}
use Rattle.load_csv.specs.declared.loads.LoadFault.{LoadFault}
use Rattle.load_csv.specs.declared.loads.LoadFault.TheVariants as fault
use Rattle.load_csv.specs.Loads.{load_of}
use Rattle.pk_values.specs.Schemas.{Layout}
use Rattle.pk_model.specs.declared.books.Book.{Book}
use Rattle.pk_model.specs.declared.calls.Call.{Call}
use Rattle.pk_model.specs.declared.calls.Call.TheVariants as call
use Rattle.pk_model.specs.declared.calls.Load.{Load}
use Rattle.pk_model.specs.declared.calls.Want.TheVariants.{Latest}
use Rattle.pk_model.specs.declared.calls.Reply.{Reply}
use Rattle.pk_model.specs.declared.calls.Reply.TheVariants as reply
use Rattle.pk_model.specs.Books.{IsOfDevice}
use Rattle.script_text.specs.declared.scripts.JobAct.TheVariants as act
use Rattle.script_text.specs.declared.outcomes.ItemPart.{ItemPart}
use Rattle.script_text.specs.declared.outcomes.ItemPart.TheVariants as part
use Rattle.script_text.specs.declared.outcomes.Outcome.{Outcome}
use Rattle.script_text.specs.declared.outcomes.Outcome.TheVariants as outcome
use Rattle.reports.specs.declared.jobs.FiledJob.{FiledJob}
use Rattle.reports.specs.declared.turns.Turn.{Turn}
use Rattle.reports.specs.Courses.{HasTurns, IsCourse, IsOutside, PartialGoesOn, ReadingTells, WithoutTurn}
use Rattle.reports.specs.Jobs.{PartMayGet, call_of, first_place, is_partial, load_call, load_in, look_up_call, part_call}
use Rattle.reports.specs.Reports.{HasItsRows}
use Rattle.reports.specs.Shutting.{TellsShut}
use Rattle.reports.proofs.PlainSteps.{load-is, refused-tells}
use Rattle.core_publish.specs.Replies.{IsOpening}
use Rattle.tablet_state.specs.State.{Has, Shown, Steps, faults_of}
use Rattle.tablet_run.specs.Doing.{Acts, AreOfJob, Does, Took, faults_beside, parts_of, turns_at}
use Rattle.tablet_run.specs.Partials.{EndsFound, IsLast, IsUnready}
use Rattle.tablet_run.specs.declared.done.Done.{Done}
use Rattle.tablet_run.specs.declared.done.Parts.{Parts}
use Rattle.tablet_run.specs.declared.done.Parts.TheVariants as parts
use Rattle.tablet_run.proofs.ActFacts.{none-acts, none-of-job, one-of-job, opened-then, unopened-acts}
use Rattle.tablet_run.proofs.DoingFacts.{goes-on, opening-listed}
use Rattle.tablet_run.proofs.DoingLaws.{rose-same}

-- a look-up that opened no version ends a partial load
look-up-refused : (r : Reply) → ((v : ℕ) → r ≡ reply.Opened v → ⊥) → PartialGoesOn (outcome.Turn r) r []
look-up-refused (reply.Published v) n = (refl, refl)
look-up-refused (reply.Opened v) n = absurd (n v refl)
look-up-refused (reply.Begun v) n = (refl, refl)
look-up-refused (reply.Compacted before after rows late) n = (refl, refl)
look-up-refused (reply.Floor f) n = (refl, refl)
look-up-refused (reply.Stat floor version rows rowsets) n = (refl, refl)
look-up-refused reply.GaveUp n = (refl, refl)
look-up-refused (reply.Expired f) n = (refl, refl)
look-up-refused (reply.NotYet v) n = (refl, refl)
look-up-refused (reply.Busy v) n = (refl, refl)
look-up-refused reply.ManyVersions n = (refl, refl)
look-up-refused (reply.Closed at) n = (refl, refl)
look-up-refused (reply.StoreFault k) n = (refl, refl)
look-up-refused (reply.Damaged d) n = (refl, refl)
look-up-refused reply.Memory n = (refl, refl)
look-up-refused reply.NoPlan n = (refl, refl)
look-up-refused (reply.Worn k) n = (refl, refl)

-- a fault outside a turn tells no rows
outside-plain : (o : Outcome) → IsOutside o → (d : Book) → HasItsRows d o
outside-plain (outcome.Turn r) h d = absurd h
outside-plain (outcome.Rows n c t) h d = absurd h
outside-plain (outcome.Load f) h d = absurd h
outside-plain (outcome.Outside f) h d = tt
outside-plain outcome.NotRun h d = absurd h

module _ {S : Type 0} (view : S → View) (j : FiledJob) (place : ℕ) (name : List ℕ) (is : j.job.act ≡ act.Partial name) where
  -- one whose file was refused
  pub unread-partial : (old : Shown S) (file : List ℕ) (f : LoadFault) (n : ℕ) → j.file ≡ file → (f ≢ fault.Memory → load_of old.contents.schema true file ≡ Err f)
      → Does view j place old old (faults_beside view old n) (faults_beside view old n) (record { parts = parts.None; outcome = outcome.Load f })
  unread-partial old file f n same told = record {
    took = [];
    parts = refl;
    acts = none-acts view place old (outcome.Load f) (faults_beside view old n) (faults_beside view old n) (rose-same (faults_of view old) n)
        (goes-on old.closed (outcome.Load f) tt) tt tt (λ b seen h. tt);
    of_job = none-of-job old.contents.schema j place (outcome.Load f)
        (subst (λ a. WithoutTurn a (load_in old.contents.schema j) (outcome.Load f)) (sym is)
        (subst (λ l. ReadingTells l f) (sym (load-is old.contents.schema j true file (ap is_partial is) same)) (refused-tells (load_of old.contents.schema true file) f told)));
  }

  module _ (s : Layout) (load : Load) (read : load_in s j ≡ Ok load) where
    first-call : (mine : List Turn) → call_of s j mine part.First ≡ Some (call.Open Latest)
    first-call mine = ap (λ a. part_call a (load_in s j) (first_place mine) part.First) is ∙ ap look_up_call read

    last-call : (mine : List Turn) → call_of s j mine part.Last ≡ Some (call.Load load)
    last-call mine = ap (λ a. part_call a (load_in s j) (first_place mine) part.Last) is ∙ ap load_call read

    first-listed : (r : Reply) → IsOpening r → IsOfDevice r → PartMayGet j.job.act part.First r
    first-listed r only d = subst (λ a. PartMayGet a part.First r) (sym is) (subst (λ q. PartMayGet (act.Partial name) part.First q) (sym (opening-listed r only d)) tt)

    last-listed : (r : Reply) → IsOfDevice r → PartMayGet j.job.act part.Last r
    last-listed r d = subst (λ a. PartMayGet a part.Last r) (sym is) d

    course : (t : Turn) (ts : List Turn) (o : Outcome) → t.part ≡ part.First → PartialGoesOn o t.reply ts → HasTurns j.job.act (t ∷ ts) o
    course t ts o p goes = subst (λ a. HasTurns a (t ∷ ts) o) (sym is) (p, goes)

    -- the look-up's turn alone
    pub refused-of-job : (r : Reply) → IsOpening r → ((v : ℕ) → r ≡ reply.Opened v → ⊥)
        → AreOfJob s j place ((record { part = part.First; call = call.Open Latest; reply = r }) ∷ []) (outcome.Turn r)
    refused-of-job r only none = one-of-job s j place (record { part = part.First; call = call.Open Latest; reply = r }) (outcome.Turn r) first-call (first-listed r only)
        (λ t p e. course t [] (outcome.Turn r) p (subst (λ q. PartialGoesOn (outcome.Turn r) q []) (sym e) (look-up-refused r none)))

    pub unready-of-job : (v : ℕ) (o : Outcome) → IsOutside o → AreOfJob s j place ((record { part = part.First; call = call.Open Latest; reply = reply.Opened v }) ∷ []) o
    unready-of-job v o out = one-of-job s j place (record { part = part.First; call = call.Open Latest; reply = reply.Opened v }) o first-call (first-listed (reply.Opened v) tt)
        (λ t p e. course t [] o p (subst (λ q. PartialGoesOn o q []) (sym e) out))

    -- and with the last one
    pub last-of-job : (v : ℕ) (r : Reply)
        → AreOfJob s j place ((record { part = part.First; call = call.Open Latest; reply = reply.Opened v }) ∷ (record { part = part.Last; call = call.Load load; reply = r }) ∷ []) (outcome.Turn r)
    last-of-job v r = record {
      calls = λ number. let mine = turns_at number place took in (first-call mine, (last-call mine, tt));
      listed = (first-listed (reply.Opened v) tt, (last-listed r, tt));
      course = λ number. course (record { job = number; part = part.First; place = place; reply = reply.Opened v })
          ((record { job = number; part = part.Last; place = place + 1; reply = r }) ∷ []) (outcome.Turn r) refl (refl, (refl, refl));
    }
      where
        took : List Took
        took = (record { part = part.First; call = call.Open Latest; reply = reply.Opened v }) ∷ (record { part = part.Last; call = call.Load load; reply = r }) ∷ []

  -- one whose keys weren't looked up
  pub unfound-does : (old new : Shown S) (load : Load) (r : Reply) (n : ℕ) → load_in old.contents.schema j ≡ Ok load
      → ((b : Book) → Has view old b → Steps view new b place (call.Open Latest) r) → ((v : ℕ) → r ≡ reply.Opened v → ⊥) → IsOpening r
      → TellsShut old.closed r → new.closed ≡ old.closed → new.contents ≡ old.contents → Calm (view old.store) (view new.store)
      → faults_of view new ≡ faults_of view old
      → Does view j place old new (faults_beside view old n) (faults_beside view new n) (record { parts = parts.First; outcome = outcome.Turn r })
  unfound-does old new load r n read turn none only tells closed contents calm faults = record {
    took = (record { part = part.First; call = call.Open Latest; reply = r }) ∷ [];
    parts = refl;
    acts = unopened-acts view place part.First Latest old new r n turn only tells closed contents calm faults;
    of_job = refused-of-job old.contents.schema load read r only none;
  }

  -- one whose keys were
  pub found-does : (old mid new : Shown S) (load : Load) (v : ℕ) (before count now : ℕ) (d : Done) → load_in old.contents.schema j ≡ Ok load
      → ((b : Book) → Has view old b → Steps view mid b place (call.Open Latest) (reply.Opened v))
      → TellsShut old.closed (reply.Opened v) → mid.closed ≡ old.closed → mid.contents ≡ old.contents → Calm (view old.store) (view mid.store)
      → count ≡ before
      → EndsFound view mid.contents.schema load (place + 1) mid new count now d
      → Does view j place old new before now d
  found-does old mid new load v before count now d read turn tells closed contents calm same ends = record {
    took = first ∷ ends.took;
    parts = elim ends.ends [
      | inl none ↦ ap (λ ts. map (λ (t : Took). t.part) (first ∷ ts)) none.none ∙ sym (ap parts_of none.parts)
      | inr last ↦ ap (λ ts. map (λ (t : Took). t.part) (first ∷ ts)) last.one ∙ sym (ap parts_of last.parts)
    ];
    acts = opened-then view place part.First Latest old mid new v ends.took d.outcome before count now turn tells closed contents calm same plain ends.acts;
    of_job = of_job;
  }
    where
      first : Took
      first = record { part = part.First; call = call.Open Latest; reply = reply.Opened v }

      plain : (b : Book) → HasItsRows b d.outcome
      plain = elim ends.ends [
        | inl none ↦ outside-plain d.outcome none.outside
        | inr last ↦ λ b. subst (HasItsRows b) (sym last.told) tt
      ]

      of_job : AreOfJob old.contents.schema j place (first ∷ ends.took) d.outcome
      of_job = elim ends.ends [
        | inl none ↦ subst (λ ts. AreOfJob old.contents.schema j place (first ∷ ts) d.outcome) (sym none.none) (unready-of-job old.contents.schema load read v d.outcome none.outside)
        | inr last ↦ subst (λ ts. AreOfJob old.contents.schema j place (first ∷ ts) d.outcome) (sym last.one)
            (subst (AreOfJob old.contents.schema j place (first ∷ (record { part = part.Last; call = call.Load load; reply = last.reply }) ∷ [])) (sym last.told)
            (last-of-job old.contents.schema load read v last.reply))
      ]
