use Rattle.std.proofs.Common.{◌≡◌, ◌++◌, length, T}
use Rattle.std.specs.FinMap.{entries}
use Rattle.std.specs.FinMap.Entries.{is_sorted}
use Rattle.pk_values.specs.Order.{key_cmp}
use Rattle.pk_model.specs.Tables.{Rows, after_lines}
use Rattle.pk_model.specs.Runs.{written, unread}
use Rattle.pk_model.specs.Merges.{rise, await}
use Rattle.pk_model.proofs.merges.merge.Given as goal

abbrev pub invariant-loop-op : goal.invariant-loop-op
invariant-loop-op l = record {
  merged : (m : Rows) → entries m ≡ written l.fn.table
      → (n : Rows) × (entries n ≡ written l.done ++ unread l.rest)
      × (after_lines l.schema l.given l.lines.items n ≡ after_lines l.schema l.given l.fn.ops.items m);
  in_order : T (is_sorted key_cmp (written l.done ++ unread l.rest));
  lines_rise : T (rise l.lines.items);
  awaited : T (await l.lines.items (written l.done));
}

abbrev pub decreases-loop-op : goal.decreases-loop-op
decreases-loop-op l = length l.lines.items
