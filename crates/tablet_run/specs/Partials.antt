-- What becomes of a partial load whose keys were looked up.
use Rattle.std.specs.Prelude.{◌≡◌, ◌⊎◌, ℕ, List, [], ◌∷◌}
use Rattle.dev_traits.specs.View.{View}
use Rattle.pk_values.specs.Schemas.{Layout}
use Rattle.pk_model.specs.declared.calls.Call.TheVariants as call
use Rattle.pk_model.specs.declared.calls.Load.{Load}
use Rattle.pk_model.specs.declared.calls.Reply.{Reply}
use Rattle.script_text.specs.declared.outcomes.ItemPart.TheVariants as part
use Rattle.script_text.specs.declared.outcomes.Outcome.TheVariants as outcome
use Rattle.reports.specs.Courses.{IsOutside}
use Rattle.tablet_state.specs.State.{Shown}
use Rattle.tablet_run.specs.Doing.{Acts, Took}
use Rattle.tablet_run.specs.declared.done.Done.{Done}
use Rattle.tablet_run.specs.declared.done.Parts.TheVariants as parts

-- a fault outside a turn ended it
pub record IsUnready (took : List Took) (d : Done) : Type 0 where
  pub parts : d.parts ≡ parts.First
  pub none : took ≡ []
  pub outside : IsOutside d.outcome

-- or it had its last turn, whose reply is what became of it
pub record IsLast (load : Load) (took : List Took) (d : Done) : Type 0 where
  pub reply : Reply
  pub parts : d.parts ≡ parts.FirstLast
  pub one : took ≡ (record { part = part.Last; call = call.Load load; reply = reply }) ∷ []
  pub told : d.outcome ≡ outcome.Turn reply

-- what it does from the place behind its first turn on
pub record EndsFound {S : Type 0} (view : S → View) (s : Layout) (load : Load) (place : ℕ) (old new : Shown S) (before now : ℕ) (d : Done) : Type 0 where
  pub took : List Took
  pub acts : Acts view s place old new before now took d.outcome
  pub ends : IsUnready took d ⊎ IsLast load took d
