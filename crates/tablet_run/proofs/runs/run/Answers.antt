use Rattle.std.proofs.Common.{subst}
use Rattle.command_line.specs.Words.{texts}
use Rattle.tablet_run.specs.Runs.{Ends, Setting}
use Rattle.tablet_run.proofs.EndLaws.{ends-counted, ends-intact, ends-well}
use Rattle.tablet_run.proofs.runs.run.Goals as goal

pub returns-clause-counted : goal.returns-clause-counted
returns-clause-counted g c = λ e.
    let r : Setting = record { files = g.I.Inputs.files c.args.inputs.now; words = texts c.args.words.now; before = g.O.Sink.held c.args.out.now; now = g.O.Sink.held c.attempt-cause.new.out; store = g.S.Store.view c.args.store; left = g.S.Store.view c.attempt-cause.result.store } in
    ends-counted r (subst (Ends r) e c.attempt-cause.ensures.ends)

pub returns-clause-intact : goal.returns-clause-intact
returns-clause-intact g c = λ d e.
    let r : Setting = record { files = g.I.Inputs.files c.args.inputs.now; words = texts c.args.words.now; before = g.O.Sink.held c.args.out.now; now = g.O.Sink.held c.attempt-cause.new.out; store = g.S.Store.view c.args.store; left = g.S.Store.view c.attempt-cause.result.store } in
    ends-intact r d (subst (Ends r) e c.attempt-cause.ensures.ends)

pub returns-clause-complete : goal.returns-clause-complete
returns-clause-complete g c = λ files s jobs told asked b opens no_input no_sink no_store.
    let r : Setting = record { files = g.I.Inputs.files c.args.inputs.now; words = texts c.args.words.now; before = g.O.Sink.held c.args.out.now; now = g.O.Sink.held c.attempt-cause.new.out; store = g.S.Store.view c.args.store; left = g.S.Store.view c.attempt-cause.result.store } in
    ends-well r files s jobs b (g.I.Inputs.faults c.args.inputs.now) (g.I.Inputs.faults c.attempt-cause.new.inputs) (g.O.Sink.faults c.args.out.now) (g.O.Sink.faults c.attempt-cause.new.out) c.attempt-cause.result.cause
    told asked opens no_input no_sink no_store c.attempt-cause.ensures.inputs c.attempt-cause.ensures.sink c.attempt-cause.ensures.ends
