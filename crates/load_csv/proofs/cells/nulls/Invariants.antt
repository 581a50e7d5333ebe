use Rattle.std.proofs.Common.{◌≡◌, ◌++◌, drop, map}
use Rattle.pk_values.specs.declared.cells.Value.TheVariants.{Null}
use Rattle.load_csv.proofs.cells.nulls.Given as goal

abbrev pub invariant-loop-column : goal.invariant-loop-column
invariant-loop-column l = l.cells.items ++ map (λ c. Null) (drop l.column-index l.columns) ≡ map (λ c. Null) l.columns
