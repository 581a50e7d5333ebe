-- The law of merges: rising lists of a map's rows make the map's rows in the order of their keys.
use Rattle.std.specs.Prelude.{◌≡◌, List, [], ◌∷◌, ◌++◌}
use Rattle.std.specs.List.{AllByRecursion}
use Rattle.std.specs.FinMap.{values}
use Rattle.pk_values.specs.Schemas.{Layout}
use Rattle.pk_values.specs.declared.cells.Value.{Value}
use Rattle.pk_model.specs.Tables.{Rows}
use Rattle.rowsets.specs.Scans.{AreRowsOf, RowsRise}
use Rattle.row_merge.specs.Merge.{merge_all}

-- the lists one behind the other
abbrev pub joined : List (List (List Value)) → List (List Value)
joined [] = []
joined (xs ∷ lists) = xs ++ joined lists

abbrev pub MergeGivesMap : Type 0
MergeGivesMap = (s : Layout) (lists : List (List (List Value))) (m : Rows) → AllByRecursion (RowsRise s) lists → AreRowsOf s (joined lists) m
    → merge_all s lists ≡ values m
