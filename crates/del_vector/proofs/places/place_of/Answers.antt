use Rattle.std.proofs.Common.{arith, ◌-◌, ◌+◌, ◌/◌}
use Rattle.del_vector.proofs.DeadFacts.{before_middle, behind_middle}
use Rattle.del_vector.proofs.places.place_of.Goals as goal

pub loop-low-preserved-then-rows-middle : goal.loop-low-preserved-then-rows-middle
loop-low-preserved-then-rows-middle c =
    let inv = c.loop-low.invariant in
    record {
      low = omega (arith, c.loop-low-test.true);
      high = inv.high;
      before = before_middle c.args.rows.now c.args.row (c.loop-low.low + (c.loop-low.high - c.loop-low.low) / 2) c.requires (omega (arith, inv.high, c.loop-low-test.true)) c.if-rows-middle.true;
      behind = inv.behind;
    }

pub loop-low-preserved : goal.loop-low-preserved
loop-low-preserved c =
    let inv = c.loop-low.invariant in
    record {
      low = omega arith;
      high = omega (arith, inv.high, c.loop-low-test.true);
      before = inv.before;
      behind = behind_middle c.args.rows.now c.args.row (c.loop-low.low + (c.loop-low.high - c.loop-low.low) / 2) c.requires c.if-rows-middle.false;
    }
