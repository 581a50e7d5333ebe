use Rattle.std.proofs.Common.{subst, sym, ◌+◌, arith}
use Rattle.old_rows.proofs.TakeFacts.{at-index}
use Rattle.old_rows.specs.Wanted.{AreWanted}
use Rattle.old_rows.proofs.WantedFacts.{wanted-next}
use Rattle.old_rows.proofs.wanted.asked_rows.Goals as goal

pub loop-i-preserved : goal.loop-i-preserved
loop-i-preserved c =
    subst (AreWanted c.args.keys.now c.args.located.now (c.loop-i.i + 1)) (sym c.in_ok-add_wanted.ensures)
    (wanted-next c.args.keys.now c.args.located.now c.loop-i.i c.loop-i.wanted.items c.index-keys-i.result c.index-located-i.result c.asked-place.result c.loop-i.invariant (at-index c.args.keys.now c.loop-i.i c.index-keys-i.result (omega arith) c.index-keys-i.is) (at-index c.args.located.now c.loop-i.i c.index-located-i.result (omega (arith, c.requires)) c.index-located-i.is) c.asked-place.ensures)
