use Rattle.std.proofs.Common.{refl, sym, subst, ℕ}
use Rattle.command_line.specs.Words.{texts}
use Rattle.tablet_run.specs.Runs.{InputCause}
use Rattle.tablet_run.proofs.EndLaws.{stop-ends, untouched}
use Rattle.tablet_run.proofs.runs.attempt.Goals as goal

pub returns-in-Ok-clause-inputs : goal.returns-in-Ok-clause-inputs
returns-in-Ok-clause-inputs g c =
    let before = g.I.Inputs.faults c.args.inputs.now in
    subst (λ (n : ℕ). InputCause before n c.serve.result.cause) (sym c.in-Ok.ensures.cause) (c.serve.ensures.inputs before)

pub returns-in-Ok-clause-ends : goal.returns-in-Ok-clause-ends
returns-in-Ok-clause-ends g c = c.serve.ensures.ends (g.I.Inputs.files c.args.inputs.now) (texts c.args.words.now) c.in-Ok.ensures.asked

pub returns-in-Err-clause-ends : goal.returns-in-Err-clause-ends
returns-in-Err-clause-ends g c =
    let held = g.O.Sink.held c.args.out.now in
    let view = g.S.Store.view c.args.store in
    stop-ends (record { files = g.I.Inputs.files c.args.inputs.now; words = texts c.args.words.now; before = held; now = held; store = view; left = view })
    c.in-Err.cause c.in-Err.ensures.stopped refl (untouched view)
