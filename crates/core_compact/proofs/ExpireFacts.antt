-- When an expiry goes on to raise the floor.
use Rattle.std.proofs.Common.{◌≡◌, refl, subst, ℕ, ◌<◌, ◌≤◌, Option, Some, None, Bool as Truth, true, false, if◌then◌else◌}
use Rattle.std.specs.Prelude.{nat_le, nat_lt}
use Rattle.std.proofs.lemmas.Bool.{leb-false, ltb-false}
use Rattle.dev_traits.specs.View.{Calm, View}
use Rattle.dev_traits.proofs.Moments.{calm_leaves, leaves_only_join}
use Rattle.pk_model.specs.declared.books.Book.{Book}
use Rattle.pk_model.specs.declared.calls.Call.{Call}
use Rattle.pk_model.specs.declared.calls.Reply.{Reply}
use Rattle.pk_model.specs.declared.calls.Reply.TheVariants as reply
use Rattle.tablet_state.specs.Contents.{Contents, current_number, worn_of}
use Rattle.tablet_state.specs.Floors.{floor_answer, floor_refusal, worn_answer}
use Rattle.tablet_state.specs.State.{Has, Shown, StandsThroughout}
use Rattle.tablet_state.specs.Turns.{StandsEither}
use Rattle.tablet_state.proofs.Turning.{OnlyNow, only_still}

-- it is open, the version is there and above the floor, and no number has come to its end
pub record Raising (closed worn : Option ℕ) (floor current v : ℕ) : Type 0 where
  pub open_ : closed ≡ None
  pub unworn : worn ≡ None
  pub above : floor < v
  pub reached : v ≤ current

never : {X : Type 0} (r : Reply) → Some r ≡ None → X
never r e = absurd (cc e)

raising : (closed worn : Option ℕ) (floor current v : ℕ) → floor_answer closed worn floor current v ≡ None → Raising closed worn floor current v
raising (Some place) worn floor current v e = never (reply.Closed place) e
raising None worn floor current v e = go (nat_lt current v) (nat_le v floor) worn refl refl e
  where
    go : (a b : Truth) (o : Option ℕ) → nat_lt current v ≡ a → nat_le v floor ≡ b
        → (if a then Some (reply.NotYet current) else (if b then Some (reply.Floor floor) else worn_answer o)) ≡ None → Raising None o floor current v
    go true b o x y e = never (reply.NotYet current) e
    go false true o x y e = never (reply.Floor floor) e
    go false false (Some n) x y e = never (reply.Worn n) e
    go false false None x y e = record { open_ = refl; unworn = refl; above = above_of y; reached = reached_of x }
      where
        above_of : nat_le v floor ≡ false → floor < v
        above_of y = leb-false v floor y

        reached_of : nat_lt current v ≡ false → v ≤ current
        reached_of x = ltb-false current v x

pub goes_on : {S : Type 0} (st : Shown S) (v : ℕ) → floor_refusal st v ≡ None → Raising st.closed (worn_of st.contents) st.contents.floor (current_number st.contents) v
goes_on st v e = raising st.closed (worn_of st.contents) st.contents.floor (current_number st.contents) v e

-- calls that write nothing
pub moments_still : {S : Type 0} (view : S → View) (old new : Shown S) (b : Book) (seq : ℕ) (turn : Call) → OnlyNow (view old.store) → Has view old b → old.closed ≡ None → Calm (view old.store) (view new.store)
    → StandsThroughout old.contents.schema b seq turn (view old.store) (view new.store)
moments_still view old new b seq turn only h open_ calm =
    only_still (view old.store) (view new.store) old.area old.end old.contents b seq turn only (calm_leaves (view old.store) (view new.store) calm) (h.opened open_).images

-- and others behind them
pub moments_then : {S : Type 0} (view : S → View) (old mid : Shown S) (w : View) (b : Book) (seq : ℕ) (turn : Call) → OnlyNow (view old.store) → Has view old b → old.closed ≡ None → Calm (view old.store) (view mid.store)
    → mid.contents ≡ old.contents → StandsThroughout mid.contents.schema b seq turn (view mid.store) w → StandsThroughout old.contents.schema b seq turn (view old.store) w
moments_then view old mid w b seq turn only h open_ calm same second =
    leaves_only_join (StandsEither old.contents.schema b seq turn) (view old.store) (view mid.store) w (moments_still view old mid b seq turn only h open_ calm)
    (subst (λ (c : Contents). StandsThroughout c.schema b seq turn (view mid.store) w) same second)
