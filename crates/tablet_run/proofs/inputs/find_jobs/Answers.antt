use Rattle.std.proofs.Common.{◌≡◌, subst, arith, length}
use Rattle.command_line.specs.Words.{texts}
use Rattle.tablet_run.specs.Steps.{JobsStop}
use Rattle.tablet_run.proofs.InputLaws.{all-built, few-filed, jobs-stop, phases-rise, same-count}
use Rattle.tablet_run.proofs.inputs.find_jobs.Goals as goal

pub returns-in-Ok-read_files-clause-few : goal.returns-in-Ok-read_files-clause-few
returns-in-Ok-read_files-clause-few g c =
    let count = same-count (g.I.Inputs.files c.find_texts.new.inputs) c.as_slice.result.now c.in-Ok-read_files.jobs.items c.in-Ok-read_files.ensures.filed in
    let few = c.in-Ok-plan_from.ensures.lawful.few in
    let same : length c.as_slice.result.now ≡ length c.in-Ok-plan_from.plan.jobs = (λ i. length (c.as_slice.ensures i)) in
    omega (arith, count, few, same)

pub returns-in-Ok-read_files-clause-within : goal.returns-in-Ok-read_files-clause-within
returns-in-Ok-read_files-clause-within g c = few-filed (g.I.Inputs.files c.find_texts.new.inputs) c.in-Ok-read_files.jobs.items c.in-Ok-read_files.ensures.filed.held

pub returns-in-Ok-read_files-clause-phases : goal.returns-in-Ok-read_files-clause-phases
returns-in-Ok-read_files-clause-phases g c = phases-rise c.in-Ok-read_files.jobs.items c.in-Ok-plan_from.plan.jobs (rw c.as_slice.ensures at c.in-Ok-read_files.ensures.filed.jobs_are) c.in-Ok-plan_from.ensures.lawful.rising

pub returns-clause-stopped : goal.returns-clause-stopped
returns-clause-stopped g c =
    let files = g.I.Inputs.files c.args.inputs.now in
    let plan = c.in-Ok-plan_from.plan in
    jobs-stop files (texts c.args.words.now) plan.schema plan.jobs c.in-Err-read_files.cause
    (record {
      table = c.in-Ok.texts.table.items;
      script = c.in-Ok.texts.script.items;
      texts = c.in-Ok.ensures.read;
      table_is = c.in-Ok-plan_from.ensures.table;
      script_is = c.in-Ok-plan_from.ensures.script;
    })
    c.in-Ok-plan_from.ensures.built
    (subst (λ f. JobsStop f plan.jobs c.in-Err-read_files.cause) c.find_texts.ensures.same
    (subst (λ js. JobsStop (g.I.Inputs.files c.find_texts.new.inputs) js c.in-Err-read_files.cause) c.as_slice.ensures c.in-Err-read_files.ensures.stopped))

pub returns-in-Ok-read_files-clause-built : goal.returns-in-Ok-read_files-clause-built
returns-in-Ok-read_files-clause-built g c =
    all-built 1 c.in-Ok-plan_from.plan.jobs c.in-Ok-read_files.jobs.items (rw c.as_slice.ensures at c.in-Ok-read_files.ensures.filed.jobs_are) c.in-Ok-plan_from.ensures.built
