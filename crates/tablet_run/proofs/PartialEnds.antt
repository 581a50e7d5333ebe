-- What becomes of a partial load whose keys were found.
use Rattle.std.proofs.Common.{◌≡◌, refl, ap, sym, subst, ◌∙◌, ◌⊎◌, inl, inr, ℕ, ◌+◌, ◌-◌, ◌^◌, ◌≤◌, arith, List, [], ◌∷◌, min, Option, Some, None, IsSomeAnd, Result, Ok, Err}
use Rattle.std.specs.Prelude.{⊤}
use Rattle.dev_traits.specs.Causes.{Counts, HasOutsideCause, RoseBy}
use Rattle.dev_traits.specs.View.{View}
use Rattle.dev_traits.specs.declared.faults.Damaged.{Damaged}
use Rattle.dev_traits.specs.declared.faults.OutsideFault.{OutsideFault}
use Rattle.dev_traits.specs.declared.faults.OutsideFault.TheVariants as outside
use Rattle.pk_values.specs.Schemas.{Layout}
use Rattle.pk_model.specs.declared.books.Book.{Book}
use Rattle.pk_model.specs.declared.calls.Call.TheVariants as call
use Rattle.pk_model.specs.declared.calls.Load.{Load}
use Rattle.pk_model.specs.declared.calls.Reply.{Reply}
use Rattle.pk_model.specs.declared.calls.Reply.TheVariants as reply
use Rattle.pk_model.specs.Books.{replay}
use Rattle.script_text.specs.declared.outcomes.ItemPart.TheVariants as part
use Rattle.script_text.specs.declared.outcomes.Outcome.{Outcome}
use Rattle.script_text.specs.declared.outcomes.Outcome.TheVariants as outcome
use Rattle.reports.specs.Bearing.{TellsIntact, told_by}
use Rattle.core_publish.specs.Replies as told
use Rattle.core_publish.specs.Replies.{told_by_reply}
use Rattle.core_partial.specs.Preparing.{OnOutsideDamage}
use Rattle.tablet_state.specs.Contents.{worn_of}
use Rattle.tablet_state.specs.State.{Has, Shown, StandsThroughout, Steps, faults_of}
use Rattle.tablet_run.specs.Doing.{Acts, faults_beside}
use Rattle.tablet_run.specs.Partials.{EndsFound}
use Rattle.tablet_run.specs.Scanning.{IsIdle}
use Rattle.tablet_run.specs.declared.done.Done.{Done}
use Rattle.tablet_run.specs.declared.done.Parts.TheVariants as parts
use Rattle.tablet_run.proofs.ActFacts.{acts-rest, none-acts, published-acts}
use Rattle.tablet_run.proofs.DoingFacts.{goes-on}
use Rattle.tablet_run.proofs.LaneFacts.{same-shut, tells-shut}

-- ---- counts

beside-min : (f n : ℕ) → min (f + min n (2 ^ 64 - 1)) (2 ^ 64 - 1) ≡ min (f + n) (2 ^ 64 - 1)
beside-min f n = omega arith

rose-none : (f n m : ℕ) → min m (2 ^ 64 - 1) ≡ min n (2 ^ 64 - 1) → RoseBy 0 (min (f + n) (2 ^ 64 - 1)) (min (f + m) (2 ^ 64 - 1))
rose-none f n m e = omega (arith, e)

rose-one : (f n m : ℕ) → Counts 1 (min n (2 ^ 64 - 1)) (min m (2 ^ 64 - 1)) → RoseBy 1 (min (f + n) (2 ^ 64 - 1)) (min (f + m) (2 ^ 64 - 1))
rose-one f n m h = omega (arith, h)

unready-rose : {T : Type 0} (f : OutsideFault) (k n m : ℕ) → HasOutsideCause {T = T} (min n (2 ^ 64 - 1)) (min m (2 ^ 64 - 1)) (Err f)
    → RoseBy (told_by (outcome.Outside f)) (min (k + n) (2 ^ 64 - 1)) (min (k + m) (2 ^ 64 - 1))
unready-rose outside.Fault k n m h = rose-one k n m (h.failed refl)
unready-rose (outside.Damaged d) k n m h = rose-none k n m (h.well (λ e. cc e))
unready-rose outside.Memory k n m h = rose-none k n m (h.well (λ e. cc e))

pub prepared-count : {T : Type 0} (x : T) (n m : ℕ) → HasOutsideCause {T = T} n m (Ok x) → m ≡ n
prepared-count x n m h = h.well (λ e. cc e)

-- ---- damage outside a turn

pub on-damage : (f : OutsideFault) (P Q : Damaged → Type 0) → ((d : Damaged) → P d → Q d) → OnOutsideDamage f P → OnOutsideDamage f Q
on-damage outside.Fault P Q g h = tt
on-damage (outside.Damaged d) P Q g h = g d h
on-damage outside.Memory P Q g h = tt

undamaged : (f : OutsideFault) → OnOutsideDamage f (λ d. ⊥) → TellsIntact (outcome.Outside f)
undamaged outside.Fault h = tt
undamaged (outside.Damaged d) h = h
undamaged outside.Memory h = tt

-- what holds of no rows is contradicted by some
pub some-rows : {X : Type 0} (o : Option X) (P : X → Type 0) → IsSomeAnd o P → ((x : X) → P x → ⊥) → ⊥
some-rows None P h n = absurd h
some-rows (Some x) P h n = n x h

module _ {S : Type 0} (view : S → View) (place : ℕ) (load : Load) where
  -- it wasn't prepared
  pub unready-ends : {T : Type 0} (st : Shown S) (f : OutsideFault) (n m : ℕ) → HasOutsideCause {T = T} (min n (2 ^ 64 - 1)) (min m (2 ^ 64 - 1)) (Err f)
      → ((b : Book) → Has view st b → OnOutsideDamage f (λ d. ⊥))
      → EndsFound view st.contents.schema load place st st (faults_beside view st n) (faults_beside view st m) (record { parts = parts.First; outcome = outcome.Outside f })
  unready-ends st f n m cause intact = record {
    took = [];
    acts = none-acts view place st (outcome.Outside f) (faults_beside view st n) (faults_beside view st m) (unready-rose f (faults_of view st) n m cause)
        (goes-on st.closed (outcome.Outside f) tt) tt tt (λ b seen h. undamaged f (intact (replay st.contents.schema b 1 seen) h.has));
    ends = inl (record { parts = refl; none = refl; outside = tt });
  }

  -- it was published
  pub published-ends : (old new : Shown S) (given : Load) (r : Reply) (n m : ℕ) → given ≡ load → min m (2 ^ 64 - 1) ≡ min n (2 ^ 64 - 1)
      → ((b : Book) → Has view old b → Steps view new b place (call.Load given) r)
      → ((b : Book) → Has view old b → old.closed ≡ None → StandsThroughout old.contents.schema b place (call.Load given) (view old.store) (view new.store))
      → ((b : Book) → Has view old b → (d : Damaged) → r ≡ reply.Damaged d → ⊥)
      → told.TellsShut old.closed r → new.closed ≡ told.shut_after old.closed place r → ((p : ℕ) → old.closed ≡ Some p → new ≡ old)
      → new.contents.schema ≡ old.contents.schema → (view new.store).is_honest ≡ (view old.store).is_honest
      → RoseBy (told_by_reply r) (faults_of view old) (faults_of view new)
      → ((k : ℕ) → r ≡ reply.Worn k → (worn_of old.contents ≡ Some k) × (new ≡ old))
      → ((k : ℕ) → old.closed ≡ None → worn_of old.contents ≡ Some k → r ≡ reply.Worn k)
      → EndsFound view old.contents.schema load place old new (faults_beside view old n) (faults_beside view new m) (record { parts = parts.FirstLast; outcome = outcome.Turn r })
  published-ends old new given r n m same count turn moment intact tells shut stays schema honest rose worn stays_worn =
      let acts = published-acts view place part.Last old new load r (min n (2 ^ 64 - 1)) (min m (2 ^ 64 - 1)) count
      (subst (λ l. (b : Book) → Has view old b → Steps view new b place (call.Load l) r) same turn)
      (subst (λ l. (b : Book) → Has view old b → old.closed ≡ None → StandsThroughout old.contents.schema b place (call.Load l) (view old.store) (view new.store)) same moment)
      intact (tells-shut old.closed r tells) (shut ∙ same-shut old.closed place r) stays schema honest rose worn stays_worn in
      let took = (record { part = part.Last; call = call.Load load; reply = r }) ∷ [] in
      record {
        took = took;
        acts = subst (λ k. Acts view old.contents.schema place old new k (faults_beside view new m) took (outcome.Turn r)) (beside-min (faults_of view old) n)
            (subst (λ k. Acts view old.contents.schema place old new (faults_beside view old (min n (2 ^ 64 - 1))) k took (outcome.Turn r)) (beside-min (faults_of view new) m) acts);
        ends = inr (record { reply = r; parts = refl; one = refl; told = refl });
      }

-- ---- what was found goes back to the tablet

pub back-count : (f n k g : ℕ) → g ≡ min (f + k) (2 ^ 64 - 1) → min (g + n) (2 ^ 64 - 1) ≡ min (f + (n + k)) (2 ^ 64 - 1)
back-count f n k g e = omega (arith, e)

-- ---- rows

pub at-rows : {X : Type 0} (P : X → Type 0) (o : Option X) (x : X) → o ≡ Some x → IsSomeAnd o P → P x
at-rows P o x e h = subst (λ o. IsSomeAnd o P) e h

-- ---- a tablet that was open

closed-unlike : (v p : ℕ) → reply.Opened v ≡ reply.Closed p → ⊥
closed-unlike v p e = cc e

pub opened-open : (o : Option ℕ) (v : ℕ) → told.TellsShut o (reply.Opened v) → o ≡ None
opened-open None v h = refl
opened-open (Some p) v h = absurd (closed-unlike v p h)

pub ends-rest : {S : Type 0} (view : S → View) (s : Layout) (load : Load) (place : ℕ) (old mid new : Shown S) (before now later : ℕ) (d : Done)
    → EndsFound view s load place old mid before now d → IsIdle view mid new → later ≡ now → EndsFound view s load place old new before later d
ends-rest view s load place old mid new before now later d ends rests count = record {
  took = ends.took;
  acts = acts-rest view place s old mid new before now later ends.took d.outcome ends.acts rests count;
  ends = ends.ends;
}

pub found-count : (f g n k : ℕ) → g ≡ f → k ≡ 0 → min (g + (n + k)) (2 ^ 64 - 1) ≡ min (f + n) (2 ^ 64 - 1)
found-count f g n k same none = omega (arith, same, none)
