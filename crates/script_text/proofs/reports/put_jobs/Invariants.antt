use Rattle.std.proofs.Common.{◌≡◌, ◌++◌, ◌+◌, drop}
use Rattle.script_text.specs.Texts.{jobs_text}
use Rattle.script_text.proofs.reports.put_jobs.Given as goal

abbrev pub invariant-loop-outcome : goal.invariant-loop-outcome
invariant-loop-outcome l = record {
  number : l.number ≡ l.outcome-index + 1;
  text : l.out.items ++ jobs_text l.number (drop l.outcome-index l.outcomes) ≡ l.initial.out.items ++ jobs_text 1 l.outcomes;
}
