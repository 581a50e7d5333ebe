use Rattle.std.proofs.Common.{arith, ◌-◌, ◌+◌, ◌/◌}
use Rattle.kept_versions.proofs.FindFacts.{before_here, behind_here}
use Rattle.kept_versions.proofs.lookups.place_of.Goals as goal

pub loop-low-preserved-then-changed-middle : goal.loop-low-preserved-then-changed-middle
loop-low-preserved-then-changed-middle c =
    let inv = c.loop-low.invariant in
    let middle = c.loop-low.low + (c.loop-low.high - c.loop-low.low) / 2 in
    record {
      low = omega (arith, c.loop-low-test.true);
      high = inv.high;
      before = before_here c.args.changed.now c.args.file middle c.index-changed-middle.result c.requires (omega (arith, inv.high, c.loop-low-test.true)) c.if-changed-middle.true;
      behind = inv.behind;
    }

pub loop-low-preserved : goal.loop-low-preserved
loop-low-preserved c =
    let inv = c.loop-low.invariant in
    let middle = c.loop-low.low + (c.loop-low.high - c.loop-low.low) / 2 in
    record {
      low = omega arith;
      high = omega (arith, inv.high, c.loop-low-test.true);
      before = inv.before;
      behind = behind_here c.args.changed.now c.args.file middle c.index-changed-middle.result c.requires (omega (arith, inv.high, c.loop-low-test.true)) c.if-changed-middle.false;
    }
