-- Expiries, over a tablet.
use Rattle.std.proofs.Common.{◌≡◌, refl, ap, sym, subst, ◌∙◌, ◌⊎◌, inl, inr, ℕ, ◌+◌, ◌-◌, ◌^◌, ◌≤◌, arith, List, [], ◌∷◌, length, min, Option, Some, None, Bool as Truth, true, false, nat_lt, nat_le, if◌then◌else◌}
use Rattle.std.specs.Prelude.{⊤}
use Rattle.dev_traits.specs.Causes.{RoseBy}
use Rattle.dev_traits.specs.View.{View}
use Rattle.pk_model.specs.declared.books.Book.{Book}
use Rattle.pk_model.specs.declared.calls.Call.TheVariants as call
use Rattle.pk_model.specs.declared.calls.Reply.{Reply}
use Rattle.pk_model.specs.declared.calls.Reply.TheVariants as reply
use Rattle.pk_model.specs.Books.{Entry, IsOfDevice, replay}
use Rattle.script_text.specs.declared.scripts.JobAct.TheVariants as act
use Rattle.script_text.specs.declared.outcomes.ItemPart.TheVariants as part
use Rattle.script_text.specs.declared.outcomes.Outcome.{Outcome}
use Rattle.script_text.specs.declared.outcomes.Outcome.TheVariants as outcome
use Rattle.reports.specs.declared.jobs.FiledJob.{FiledJob}
use Rattle.reports.specs.declared.turns.Turn.{Turn}
use Rattle.reports.specs.Bearing.{GoesShut, TellsIntact, told_by}
use Rattle.reports.specs.Courses.{HasTurns}
use Rattle.reports.specs.Jobs.{PartMayGet, first_place, load_in, part_call}
use Rattle.reports.proofs.BearingLaws.{rose-beside}
use Rattle.core_publish.specs.Replies as told
use Rattle.core_publish.specs.Replies.{told_by_reply}
use Rattle.core_compact.specs.Expiring.{IsExpiry, IsRaise}
use Rattle.tablet_state.specs.Contents.{current_number, worn_of}
use Rattle.tablet_state.specs.Floors.{floor_answer, floor_refusal, raised_contents, worn_answer}
use Rattle.tablet_state.specs.State.{Has, Rests, Shown, StandsThroughout, Steps, faults_of}
use Rattle.tablet_run.specs.Doing.{Does, IsAfter, Took, faults_beside}
use Rattle.tablet_run.specs.Worn.{IsWornOut}
use Rattle.tablet_run.specs.declared.done.Parts.TheVariants as parts
use Rattle.tablet_run.proofs.ActFacts.{one-of-job, one-over}
use Rattle.tablet_run.proofs.DoingFacts.{committed, goes-turn, told-turn}
use Rattle.tablet_run.proofs.LaneFacts.{same-shut, tells-shut}
use Rattle.tablet_run.proofs.WornFacts.{load-worn, reaches-worn}

-- ---- replies

expiry-intact : (r : Reply) → IsExpiry r → TellsIntact (outcome.Turn r)
expiry-intact (reply.Published v) h = tt
expiry-intact (reply.Opened v) h = tt
expiry-intact (reply.Begun v) h = tt
expiry-intact (reply.Compacted before after rows late) h = tt
expiry-intact (reply.Floor f) h = tt
expiry-intact (reply.Stat floor version rows rowsets) h = tt
expiry-intact reply.GaveUp h = tt
expiry-intact (reply.Expired f) h = tt
expiry-intact (reply.NotYet v) h = tt
expiry-intact (reply.Busy v) h = tt
expiry-intact reply.ManyVersions h = tt
expiry-intact (reply.Closed at) h = tt
expiry-intact (reply.StoreFault n) h = tt
expiry-intact (reply.Damaged d) h = absurd h
expiry-intact reply.Memory h = tt
expiry-intact reply.NoPlan h = tt
expiry-intact (reply.Worn n) h = tt

-- a device gives it only what writing may meet
expiry-listed : (v : ℕ) (r : Reply) → IsExpiry r → IsOfDevice r → PartMayGet (act.Expire v) part.Whole r
expiry-listed v (reply.Published u) h d = absurd h
expiry-listed v (reply.Opened u) h d = absurd h
expiry-listed v (reply.Begun u) h d = absurd h
expiry-listed v (reply.Compacted before after rows late) h d = absurd h
expiry-listed v (reply.Floor f) h d = absurd d
expiry-listed v (reply.Stat floor version rows rowsets) h d = absurd h
expiry-listed v reply.GaveUp h d = absurd h
expiry-listed v (reply.Expired f) h d = absurd h
expiry-listed v (reply.NotYet u) h d = absurd d
expiry-listed v (reply.Busy u) h d = absurd h
expiry-listed v reply.ManyVersions h d = absurd h
expiry-listed v (reply.Closed at) h d = absurd d
expiry-listed v (reply.StoreFault n) h d = tt
expiry-listed v (reply.Damaged k) h d = absurd h
expiry-listed v reply.Memory h d = tt
expiry-listed v reply.NoPlan h d = absurd h
expiry-listed v (reply.Worn n) h d = d

-- ---- what is refused before the floor is raised

-- a number at its end that is told is the tablet's
answer-worn : (closed worn : Option ℕ) (floor current v k : ℕ) → floor_answer closed worn floor current v ≡ Some (reply.Worn k) → worn ≡ Some k
answer-worn (Some place) worn floor current v k e = absurd (unlike e)
  where
    unlike : Some (reply.Closed place) ≡ Some (reply.Worn k) → ⊥
    unlike e = cc e
answer-worn None worn floor current v k e = go (nat_lt current v) (nat_le v floor) worn e
  where
    go : (a b : Truth) (o : Option ℕ) → (if a then Some (reply.NotYet current) else (if b then Some (reply.Floor floor) else worn_answer o)) ≡ Some (reply.Worn k) → o ≡ Some k
    go true b o e = cc e
    go false true o e = cc e
    go false false None e = cc e
    go false false (Some n) e = cc e

-- where a number has come to its end, the floor isn't raised
answer-some : (closed worn : Option ℕ) (floor current v m : ℕ) → worn ≡ Some m → floor_answer closed worn floor current v ≡ None → ⊥
answer-some (Some place) worn floor current v m w e = unlike e
  where
    unlike : Some (reply.Closed place) ≡ None → ⊥
    unlike e = cc e
answer-some None worn floor current v m w e = go (nat_lt current v) (nat_le v floor) worn w e
  where
    go : (a b : Truth) (o : Option ℕ) → o ≡ Some m → (if a then Some (reply.NotYet current) else (if b then Some (reply.Floor floor) else worn_answer o)) ≡ None → ⊥
    go true b o w e = cc e
    go false true o w e = cc e
    go false false None w e = cc w
    go false false (Some n) w e = cc e

module _ {S : Type 0} (view : S → View) (old new : Shown S) (v : ℕ) (r : Reply)
    (refused : (q : Reply) → floor_refusal old v ≡ Some q → (r ≡ q) × (new ≡ old))
    (raised : floor_refusal old v ≡ None → IsRaise v r) where
  -- a closed tablet stays as it was
  expiry-closed : (p : ℕ) → old.closed ≡ Some p → new ≡ old
  expiry-closed p e = (refused (reply.Closed p) (ap (λ (o : Option ℕ). floor_answer o (worn_of old.contents) old.contents.floor (current_number old.contents) v) e)).1

  expiry-worn : (k : ℕ) → r ≡ reply.Worn k → (worn_of old.contents ≡ Some k) × (new ≡ old)
  expiry-worn k e = go (floor_refusal old v) refl
    where
      go : (o : Option Reply) → floor_refusal old v ≡ o → (worn_of old.contents ≡ Some k) × (new ≡ old)
      go None is = absurd (subst (IsRaise v) e (raised is))
      go (Some q) is =
          let both = refused q is in
          (answer-worn old.closed (worn_of old.contents) old.contents.floor (current_number old.contents) v k (is ∙ ap Some (sym both.0 ∙ e)), both.1)

  expiry-stays : (k : ℕ) → IsWornOut old k → IsWornOut new k
  expiry-stays k h = go (floor_refusal old v) refl
    where
      go : (o : Option Reply) → floor_refusal old v ≡ o → IsWornOut new k
      go None is =
          let worn = reaches-worn old.contents k h.ended h.reaches in
          absurd (answer-some old.closed (worn_of old.contents) old.contents.floor (current_number old.contents) v worn.0 worn.1 is)
      go (Some q) is = subst (λ (st : Shown S). IsWornOut st k) (sym (refused q is).1) h

  expiry-schema : (floor_refusal old v ≡ None → r ≡ reply.Floor v → new.contents ≡ raised_contents v old.contents)
      → (r ≡ reply.Memory → Rests view old new) → ((n : ℕ) → r ≡ reply.StoreFault n → new.contents ≡ old.contents)
      → new.contents.schema ≡ old.contents.schema
  expiry-schema floor memory same = go (floor_refusal old v) refl
    where
      by : (q : Reply) → r ≡ q → IsRaise v q → floor_refusal old v ≡ None → new.contents.schema ≡ old.contents.schema
      by (reply.Published u) e h is = absurd h
      by (reply.Opened u) e h is = absurd h
      by (reply.Begun u) e h is = absurd h
      by (reply.Compacted before after rows late) e h is = absurd h
      by (reply.Floor f) e h is = ap (λ c. c.schema) (floor is (e ∙ ap reply.Floor h))
      by (reply.Stat floors version rows rowsets) e h is = absurd h
      by reply.GaveUp e h is = absurd h
      by (reply.Expired f) e h is = absurd h
      by (reply.NotYet u) e h is = absurd h
      by (reply.Busy u) e h is = absurd h
      by reply.ManyVersions e h is = absurd h
      by (reply.Closed at) e h is = absurd h
      by (reply.StoreFault n) e h is = ap (λ c. c.schema) (same n e)
      by (reply.Damaged d) e h is = absurd h
      by reply.Memory e h is = ap (λ c. c.schema) (memory e).contents
      by reply.NoPlan e h is = absurd h
      by (reply.Worn n) e h is = absurd h

      go : (o : Option Reply) → floor_refusal old v ≡ o → new.contents.schema ≡ old.contents.schema
      go None is = by r refl (raised is) is
      go (Some q) is = ap (λ (st : Shown S). st.contents.schema) (refused q is).1

  -- ---- the job

  pub expire-does : (j : FiledJob) (place n : ℕ) → j.job.act ≡ act.Expire v
      → (floor_refusal old v ≡ None → r ≡ reply.Floor v → new.contents ≡ raised_contents v old.contents)
      → (r ≡ reply.Memory → Rests view old new) → ((n : ℕ) → r ≡ reply.StoreFault n → new.contents ≡ old.contents)
      → ((b : Book) → Has view old b → Steps view new b place (call.Expire v) r)
      → ((b : Book) → Has view old b → old.closed ≡ None → StandsThroughout old.contents.schema b place (call.Expire v) (view old.store) (view new.store))
      → IsExpiry r → told.TellsShut old.closed r → new.closed ≡ told.shut_after old.closed place r
      → (view new.store).is_honest ≡ (view old.store).is_honest → RoseBy (told_by_reply r) (faults_of view old) (faults_of view new)
      → Does view j place old new (faults_beside view old n) (faults_beside view new n) (record { parts = parts.Whole; outcome = outcome.Turn r })
  expire-does j place n is floor memory same turn moment only tells shut honest rose =
      let s = old.contents.schema in
      let schema = expiry-schema floor memory same in
      let own_tells = tells-shut old.closed r tells in
      let own_shut = shut ∙ same-shut old.closed place r in
      let turned : Took = record { part = part.Whole; call = call.Expire v; reply = r } in
      record {
        took = turned ∷ [];
        parts = refl;
        acts = record {
          schema = schema;
          honest = honest;
          rose = rose-beside (told_by (outcome.Turn r)) n 0 (faults_of view old) (faults_of view new)
              (subst (λ k. RoseBy k (faults_of view old) (faults_of view new)) (sym (told-turn r)) rose);
          goes = subst (λ c. GoesShut old.closed c (outcome.Turn r)) (sym own_shut) (goes-turn old.closed place r own_tells);
          run = tt;
          worn = load-worn old new r own_tells expiry-worn;
          stays = λ b has k h. expiry-stays k h;
          shuts = (own_tells, own_shut);
          over = λ b seen here h. let step = turn (replay s b 1 seen) h.has in
              one-over s (IsAfter view s new) b seen place turned (outcome.Turn r) here (record {
                may = step.0;
                now = committed view s old new b seen place (call.Expire v) r refl schema here h step.1
                    (moment (replay s b 1 seen) h.has) own_shut expiry-closed;
                rows = tt;
                intact = expiry-intact r only;
              });
        };
        of_job = one-of-job s j place turned (outcome.Turn r) (λ mine. ap (λ a. part_call a (load_in s j) (first_place mine) part.Whole) is)
            (λ d. subst (λ a. PartMayGet a part.Whole r) (sym is) (expiry-listed v r only d))
            (λ t p e. subst (λ a. HasTurns a (t ∷ []) (outcome.Turn r)) (sym is) (p, ap outcome.Turn (sym e)));
      }
