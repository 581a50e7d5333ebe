use Rattle.std.proofs.Common.{ℕ, refl, subst, inl, inr}
use Rattle.command_line.specs.Words.{files_view, texts}
use Rattle.tablet_run.specs.Asks.{most_text}
use Rattle.tablet_run.specs.Runs.{InputCause}
use Rattle.tablet_run.specs.Steps.{StopsAt}
use Rattle.tablet_run.proofs.InputLaws.{stops-at}
use Rattle.tablet_run.proofs.inputs.find_texts.Goals as goal

pub returns-in-Err-clause-stopped : goal.returns-in-Err-clause-stopped
returns-in-Err-clause-stopped g c =
    stops-at (g.I.Inputs.files c.args.inputs.now) (texts c.args.words.now) c.in-Ok.named.table.now most_text most_text c.in-Err.cause
    (inl ((files_view c.in-Ok.named, c.in-Ok.ensures.files, refl), refl, refl))
    c.in-Err.ensures.stopped

pub returns-in-Err-input-clause-stopped : goal.returns-in-Err-input-clause-stopped
returns-in-Err-input-clause-stopped g c =
    let files = g.I.Inputs.files c.args.inputs.now in
    stops-at files (texts c.args.words.now) c.in-Ok.named.script.now most_text most_text c.in-Err-input.cause
    (inr (inl ((files_view c.in-Ok.named, c.in-Ok-input.table.items, c.in-Ok.ensures.files, c.in-Ok-input.ensures.read, refl), refl, refl)))
    (subst (λ f. StopsAt f c.in-Ok.named.script.now most_text most_text c.in-Err-input.cause) c.input.ensures.same c.in-Err-input.ensures.stopped)

pub returns-in-Err-input-clause-cause : goal.returns-in-Err-input-clause-cause
returns-in-Err-input-clause-cause g c =
    subst (λ (n : ℕ). InputCause n (g.I.Inputs.faults c.input-2.new.inputs) c.in-Err-input.cause) c.in-Ok-input.ensures.cause c.in-Err-input.ensures.cause
