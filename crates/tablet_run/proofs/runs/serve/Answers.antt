use Rattle.std.proofs.Common.{◌∙◌, refl, sym, subst, List}
use Rattle.reports.specs.declared.jobs.FiledJob.{FiledJob}
use Rattle.dev_traits.specs.View.{EachImage}
use Rattle.pk_model.specs.declared.books.Book.{Book}
use Rattle.pk_model.specs.Durable.{durable}
use Rattle.tablet_state.specs.Stands.{Stands}
use Rattle.tablet_state.specs.State.{Has, faults_of}
use Rattle.tablet_run.specs.Doing.{HadBy}
use Rattle.tablet_run.specs.Stores.{Runs}
use Rattle.tablet_run.specs.Runs.{Setting}
use Rattle.tablet_run.specs.declared.lanes.Told.{Told}
use Rattle.tablet_run.specs.declared.causes.Cause.TheVariants as cause
use Rattle.tablet_run.proofs.DoneLaws.{runs-from}
use Rattle.tablet_run.proofs.EndLaws.{told-ends, unopened-ends}
use Rattle.tablet_run.proofs.LaneFacts.{at-none, at-some}
use Rattle.tablet_run.proofs.OpenLaws.{opened-kept}
use Rattle.tablet_run.proofs.runs.serve.Goals as goal

pub returns-in-Err-clause-ends : goal.returns-in-Err-clause-ends
returns-in-Err-clause-ends g c = λ files words asked.
    let held = g.O.Sink.held c.args.out.now in
    unopened-ends (record { files = files; words = words; before = held; now = held; store = g.S.Store.view c.args.store; left = g.S.Store.view c.in-Err.store })
    c.in-Err.cause (c.args.asked.now.schema, c.args.asked.now.jobs.items, asked, refl, c.in-Err.ensures.refused)

pub returns-in-Some-clause-ends : goal.returns-in-Some-clause-ends
returns-in-Some-clause-ends g c = λ files words asked.
    let view = g.S.Store.view in
    let s = c.args.asked.now.schema in
    let jobs = c.args.asked.now.jobs.items in
    let st = c.in-Ok.state in
    let opened = c.in-Ok.ensures.opened in
    let left = view c.run_jobs-store.result.store in
    let told = c.in-Some.told in
    let ran : Runs st.contents.schema (HadBy view st) (faults_of view st) left c.as_slice.result.now told.order told.outcomes =
    at-some (λ (t : Told). Runs st.contents.schema (HadBy view st) (faults_of view st) left c.as_slice.result.now t.order t.outcomes) c.run_jobs-store.result.told told c.in-Some.is c.run_jobs-store.ensures.ran in
    let of_jobs : Runs st.contents.schema (HadBy view st) (faults_of view st) left jobs told.order told.outcomes =
    subst (λ (js : List FiledJob). Runs st.contents.schema (HadBy view st) (faults_of view st) left js told.order told.outcomes) c.as_slice.ensures.value ran in
    let of_table = subst (λ t. Runs t (HadBy view st) (faults_of view st) left jobs told.order told.outcomes) opened.schema of_jobs in
    told-ends (record { files = files; words = words; before = g.O.Sink.held c.args.out.now; now = g.O.Sink.held c.tell.new.out; store = view c.args.store; left = left }) told.order told.outcomes c.tell.result
    (record { s = s; jobs = jobs; asked = asked; table = opened.table; runs = runs-from view s c.args.store st left jobs told.order told.outcomes opened of_table })
    c.tell.ensures.told

pub returns-in-None-clause-ends : goal.returns-in-None-clause-ends
returns-in-None-clause-ends g c = λ files words asked.
    let view = g.S.Store.view in
    let held = g.O.Sink.held c.args.out.now in
    let st = c.in-Ok.state in
    let left = view c.run_jobs-store.result.store in
    let kept = at-none ((b : Book) → Has view st b → EachImage left (Stands st.contents.schema (durable b))) c.run_jobs-store.result.told c.in-None.is c.run_jobs-store.ensures.kept in
    unopened-ends (record { files = files; words = words; before = held; now = held; store = view c.args.store; left = left }) cause.Memory
    (c.args.asked.now.schema, c.args.asked.now.jobs.items, asked, refl, opened-kept view c.args.asked.now.schema c.args.store st left c.in-Ok.ensures.opened c.run_jobs-store.ensures.honest kept)
