use Rattle.std.proofs.Common.{sym}
use Rattle.std.specs.FinMap.{from_sorted, entries-from_sorted}
use Rattle.pk_values.specs.Order.{key_cmp}
use Rattle.pk_model.specs.Tables.{after}
use Rattle.pk_model.specs.Runs.{written}
use Rattle.pk_model.proofs.MergeLaws.{load-merged, merged-order, merged-map}
use Rattle.pk_model.proofs.tables.Table.after.Goals as goal

pub invariant_of-result : goal.invariant_of-result
invariant_of-result c =
    merged-order (after c.args.schema.now c.args.load c.args.self) (written c.in_ok-run.run')
    (load-merged c.args.schema.now c.args.load c.args.self (from_sorted {R = key_cmp} (written c.self.inside.run)) c.as_slice.result.now c.into_vec.result.items c.in_ok-ops.ops.items (written c.in_ok-run.run')
    (sym c.self.view_is) c.into_vec.ensures c.as_slice.ensures (c.in_ok-ops.ensures.same c.args.schema.now c.args.load.given (from_sorted {R = key_cmp} (written c.self.inside.run)))
    (c.in_ok-run.ensures (from_sorted {R = key_cmp} (written c.self.inside.run)) (entries-from_sorted key_cmp (written c.self.inside.run) c.self.invariant)))

pub returns-clause-rows : goal.returns-clause-rows
returns-clause-rows c =
    merged-map (after c.args.schema.now c.args.load c.args.self) (written c.in_ok-run.run')
    (load-merged c.args.schema.now c.args.load c.args.self (from_sorted {R = key_cmp} (written c.self.inside.run)) c.as_slice.result.now c.into_vec.result.items c.in_ok-ops.ops.items (written c.in_ok-run.run')
    (sym c.self.view_is) c.into_vec.ensures c.as_slice.ensures (c.in_ok-ops.ensures.same c.args.schema.now c.args.load.given (from_sorted {R = key_cmp} (written c.self.inside.run)))
    (c.in_ok-run.ensures (from_sorted {R = key_cmp} (written c.self.inside.run)) (entries-from_sorted key_cmp (written c.self.inside.run) c.self.invariant)))
