use Rattle.std.proofs.Common.{◌≡◌, ℕ, List, rules, sym, subst}
use Rattle.tablet_run.specs.Steps.{StopsAt}
use Rattle.tablet_run.specs.Streams.{StopsInput}
use Rattle.tablet_run.proofs.inputs.input.Goals as goal

pub returns-in-Err-clause-stopped : goal.returns-in-Err-clause-stopped
returns-in-Err-clause-stopped g c =
    let files = g.I.Inputs.files c.args.inputs.now in
    let copied : c.in-Ok.kept ≡ c.args.name.now = search rules in
    subst (λ (n : List ℕ). StopsAt files n c.args.most c.args.limit c.stopped.result) copied
    (c.stopped.ensures.stopped files c.args.most (subst (λ (n : List ℕ). StopsInput files n c.args.most c.in-Err.stop) (sym copied) c.in-Err.ensures.stopped))

pub returns-in-Err-clause-cause : goal.returns-in-Err-clause-cause
returns-in-Err-clause-cause g c = c.stopped.ensures.cause (g.I.Inputs.faults c.args.inputs.now) (g.I.Inputs.faults c.read_input.new.inputs) c.in-Err.ensures.cause
