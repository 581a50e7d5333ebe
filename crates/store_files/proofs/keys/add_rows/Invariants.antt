use Rattle.std.proofs.Common.{◌≡◌, ◌≤◌, ◌+◌, ◌++◌, length, All, IsTrue}
use Rattle.std.specs.Vec.Iter.{into_iter_items, into_iter_len}
use Rattle.pk_values.specs.Schemas.{fits_row}
use Rattle.store_files.specs.Keys.{live_codes, HasLongCode}
use Rattle.store_files.proofs.keys.add_rows.Given as goal

abbrev pub invariant-loop-row : goal.invariant-loop-row
invariant-loop-row l = record {
  so_far : l.keys.items ++ live_codes l.schema l.file l.dead l.number (into_iter_items l.left) ≡ l.fn.keys.items ++ live_codes l.schema l.file l.dead l.first l.fn.rows.items;
  within : l.number + length (into_iter_items l.left) ≤ 65536;
  fit : All (λ row. IsTrue (fits_row l.schema row)) (into_iter_items l.left);
  long : HasLongCode l.schema l.dead l.number (into_iter_items l.left) → HasLongCode l.schema l.dead l.first l.fn.rows.items;
}

abbrev pub decreases-loop-row : goal.decreases-loop-row
decreases-loop-row l = into_iter_len l.left
