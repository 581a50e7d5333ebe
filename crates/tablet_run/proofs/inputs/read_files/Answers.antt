use Rattle.std.proofs.Common.{◌≡◌, ◌≤◌, ℕ, refl, ap, sym, subst, ◌∙◌, arith, ◌+◌, ◌++◌, ◌∷◌, [], get_or, length, take}
use Rattle.std.proofs.lemmas.List.{get_or_default}
use Rattle.script_text.specs.declared.scripts.Job.{Job}
use Rattle.reports.specs.declared.jobs.FiledJob.{FiledJob}
use Rattle.reports.specs.Filed.{AreFiled, AreHeld, bytes_in, file_name, most_files}
use Rattle.tablet_run.specs.Runs.{InputCause}
use Rattle.tablet_run.specs.Steps.{FileStops}
use Rattle.tablet_run.proofs.InputLaws.{bytes-more, filed-none, filed-push, next-stops, take-next}
use Rattle.tablet_run.proofs.inputs.read_files.Goals as goal

pub loop-i-init : goal.loop-i-init
loop-i-init g c =
    let files = g.I.Inputs.files c.args.inputs.now in
    let none = c.new-filed.ensures.items in
    (refl, refl, subst (AreFiled files []) (sym none) (filed-none files), sym (ap bytes_in none), omega arith)

pub returns-in-Err-clause-stopped : goal.returns-in-Err-clause-stopped
returns-in-Err-clause-stopped g c =
    let jobs = c.args.jobs.now in
    let i = c.loop-i.i in
    let job = get_or jobs i c.index-jobs-i.result in
    next-stops (g.I.Inputs.files c.args.inputs.now) jobs i job c.loop-i.filed.items c.loop-i.read c.in-Err.cause
    c.loop-i-test.true
    (get_or_default jobs i c.index-jobs-i.result job c.loop-i-test.true)
    c.loop-i.invariant.2
    c.loop-i.invariant.3
    (subst (λ f. FileStops f (file_name job.act) c.loop-i.read c.in-Err.cause) c.loop-i.invariant.0 c.in-Err.ensures.stopped)

pub returns-in-Err-clause-cause : goal.returns-in-Err-clause-cause
returns-in-Err-clause-cause g c =
    subst (λ (n : ℕ). InputCause n (g.I.Inputs.faults c.read_file.new.inputs) c.in-Err.cause) c.loop-i.invariant.1 c.in-Err.ensures.cause

pub loop-i-preserved : goal.loop-i-preserved
loop-i-preserved g c =
    let files = g.I.Inputs.files c.args.inputs.now in
    let jobs = c.args.jobs.now in
    let i = c.loop-i.i in
    let job = get_or jobs i c.index-jobs-i.result in
    let done = c.loop-i.filed.items in
    let file = c.in-Ok.file in
    let one : FiledJob = record { job = job; file = file } in
    let sum = bytes-more done one in
    let before = c.loop-i.invariant.3 in
    let within = c.in-Ok.ensures.within in
    let few : bytes_in done + length file ≤ most_files = omega (arith, before, within) in
    let are : AreFiled files (take i jobs ++ job ∷ []) (done ++ one ∷ []) =
    filed-push files (take i jobs) done job file c.loop-i.invariant.2 (subst (λ f. AreHeld f (file_name job.act) file) c.loop-i.invariant.0 c.in-Ok.ensures.held) few in
    let place : c.index-jobs-i-in-loop-i.result ≡ job = c.index-jobs-i-in-loop-i.is ∙ get_or_default jobs i c.index-jobs-i-in-loop-i.result c.index-jobs-i.result c.loop-i-test.true in
    let pushed : c.push.new.filed.items ≡ done ++ one ∷ [] = c.in-Ok-push.ensures ∙ ap (λ (j : Job). done ++ (record { job = j; file = file }) ∷ []) place in
    let total : bytes_in c.push.new.filed.items ≡ bytes_in done + length file = ap bytes_in pushed ∙ sum in
    let size : length c.as_slice.result.now ≡ length file = ap length c.as_slice.ensures in (
      c.read_file.ensures.same ∙ c.loop-i.invariant.0,
      c.in-Ok.ensures.cause ∙ c.loop-i.invariant.1,
      subst (λ js. AreFiled files js c.push.new.filed.items) (sym (take-next jobs i c.index-jobs-i.result c.loop-i-test.true)) (subst (λ fs. AreFiled files (take i jobs ++ job ∷ []) fs) (sym pushed) are),
      omega (arith, total, before, size),
      omega (arith, size, within),
    )
