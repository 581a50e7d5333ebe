use Rattle.std.proofs.Common.{◌≡◌, length, ◌-◌, ◌≤◌, take}
use Rattle.tablet_run.specs.Streams.{HeldAfter}
use Rattle.tablet_run.proofs.streams.put_whole.Given as goal

abbrev pub invariant-loop-at : goal.invariant-loop-at
invariant-loop-at g l = record {
  within : l.at ≤ length l.text;
  put : HeldAfter (g.O.Sink.held l.initial.out) (g.O.Sink.held l.out) (take l.at l.text);
  counts : g.O.Sink.faults l.out ≡ g.O.Sink.faults l.initial.out;
}

abbrev pub decreases-loop-at : goal.decreases-loop-at
decreases-loop-at g l = length l.text - l.at
