use Rattle.std.proofs.Common.{◌≡◌, ap, sym, subst, ◌∙◌, Ok, Err, true}
use Rattle.load_csv.specs.Loads.{load_of}
use Rattle.reports.specs.Jobs.{is_partial}
use Rattle.reports.proofs.PlainSteps.{load-is}
use Rattle.tablet_run.proofs.PartialLaws.{unread-partial}
use Rattle.tablet_run.proofs.partials.partial_file.Goals as goal

pub returns-in-Ok : goal.returns-in-Ok
returns-in-Ok g c = λ j name is same. c.publish_partly.ensures j name is
    (load-is c.args.state.now.contents.schema j true c.args.file.now (ap is_partial is) same
    ∙ subst (λ s. load_of s true c.args.file.now ≡ Ok c.in-Ok.load) c.schema.ensures c.in-Ok.ensures.ok)

pub returns-in-Err : goal.returns-in-Err
returns-in-Err g c = λ j name is same.
    unread-partial g.S.Store.view j c.args.place name is c.args.state.now c.args.file.now c.in-Err.fault _ same
    (λ other. subst (λ s. load_of s true c.args.file.now ≡ Err c.in-Err.fault) c.schema.ensures (c.in-Err.ensures.fault other))
