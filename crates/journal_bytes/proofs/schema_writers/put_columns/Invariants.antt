use Rattle.std.proofs.Common.{◌≡◌, ◌++◌, take}
use Rattle.std.specs.List.{flat_map}
use Rattle.journal_bytes.specs.Schemas.{column as the_field}
use Rattle.journal_bytes.proofs.schema_writers.put_columns.Given as goal

abbrev pub invariant-loop-column : goal.invariant-loop-column
invariant-loop-column l = l.out.items ≡ l.fn.out.items ++ flat_map (the_field).bytes (take l.column-index l.columns)
