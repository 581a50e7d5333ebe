use Rattle.std.proofs.Common.{refl, arith}
use Rattle.tablet_state.proofs.Counting.{mapped_at}
use Rattle.tablet_state.proofs.Readying.{told_next}
use Rattle.tablet_state.proofs.ready.told_files.Goals as goal

pub loop-made-preserved : goal.loop-made-preserved
loop-made-preserved g c =
    let was = c.loop-made.invariant in
    let i = c.loop-made.made-index in
    record {
      told = told_next c.args.first _ i _ c.loop-made.file c.rows.result c.loop-made.told.items c.push.new.self.items
          (mapped_at _ c.args.files.now c.args.files.now i c.made-item.result refl c.loop-made-test.true c.made-item.is)
          was.told was.number c.rows.ensures c.in_ok-push.ensures.items;
      number = omega (arith, was.number);
    }
