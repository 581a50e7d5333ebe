use Rattle.std.proofs.Common.{◌≡◌, ◌≤◌, ◌+◌, length}
use Rattle.std.specs.Prelude.{[]}
use Rattle.std.specs.Str.Lines.{lines}
use Rattle.script_text.specs.Answers.{AreJobs, AreWithin}
use Rattle.script_text.specs.Scripts.{jobs_of}
use Rattle.script_text.proofs.reading.read_script.Given as goal

abbrev pub invariant-loop-text : goal.invariant-loop-text
invariant-loop-text l = record {
  same : jobs_of l.number l.phase l.jobs (lines l.rest) ≡ jobs_of 1 1 [] (lines l.fn.bytes);
  lawful : AreJobs l.jobs;
  within : AreWithin l.phase l.jobs;
  phase_from : 1 ≤ l.phase;
  phase_to : l.phase ≤ l.number;
  number_to : l.number + length l.rest ≤ length l.fn.bytes + 1;
}

abbrev pub decreases-loop-text : goal.decreases-loop-text
decreases-loop-text l = length l.rest
