use Rattle.std.proofs.Common.{refl, arith}
use Rattle.segment_form.proofs.Rising.{not_below, rise_from}
use Rattle.segment_form.proofs.keys.keys_rise.Goals as goal

pub returns-then-not-is_below : goal.returns-then-not-is_below
returns-then-not-is_below c =
    (λ t. cc, λ rise. absurd (not_below c.args.schema.now c.args.rows.now c.loop-i.i c.index-rows-i.result c.index-rows-i-in-loop-i.result c.is_below.result (omega arith) (omega arith) c.index-rows-i.is c.index-rows-i-in-loop-i.is c.is_below.ensures c.if-not-is_below.true rise))

pub returns : goal.returns
returns c = (λ t. rise_from c.args.schema.now c.args.rows.now (λ k d lt. c.loop-i.invariant k d (omega arith)), λ rise. refl)
