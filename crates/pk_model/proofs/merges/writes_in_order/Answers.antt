use Rattle.std.proofs.Common.{ap, sym, ◌∙◌, ◌||◌, ◌+◌, drop}
use Rattle.pk_model.specs.Tables.{writes}
use Rattle.pk_model.proofs.WriteLaws.{in-order-step, told}
use Rattle.pk_model.proofs.merges.writes_in_order.Goals as goal

pub returns-then-is_last_upsert : goal.returns-then-is_last_upsert
returns-then-is_last_upsert c =
    let step = in-order-step c.args.ops.now c.loop-i.i c.index-ops-i.result c.index-ops-i.result c.loop-i-test.true c.index-ops-i.is c.loop-i.invariant.1 in
    ap (λ b. b || writes (drop (c.loop-i.i + 1) c.args.ops.now)) (sym c.if-is_last_upsert.true ∙ told c.index-ops-i.result c.args.ops.now (c.loop-i.i + 1) _ c.is_last_upsert.ensures) ∙ sym step.0 ∙ c.loop-i.invariant.0

pub loop-i-preserved : goal.loop-i-preserved
loop-i-preserved c =
    let step = in-order-step c.args.ops.now c.loop-i.i c.index-ops-i.result c.index-ops-i.result c.loop-i-test.true c.index-ops-i.is c.loop-i.invariant.1 in
    (ap (λ b. b || writes (drop (c.loop-i.i + 1) c.args.ops.now)) (sym c.if-is_last_upsert.false ∙ told c.index-ops-i.result c.args.ops.now (c.loop-i.i + 1) _ c.is_last_upsert.ensures) ∙ sym step.0 ∙ c.loop-i.invariant.0, step.1)
