-- What lines in the order of their keys leave in rows and entries.
use Rattle.std.specs.Prelude.{◌≡◌, List, ◌++◌, length}
use Rattle.pk_values.specs.Schemas.{Layout}
use Rattle.pk_values.specs.declared.cells.Value.{Value}
use Rattle.pk_model.specs.declared.calls.Op.{Op}
use Rattle.rowsets.specs.Indexing.{CodeMove}
use Rattle.core_publish.specs.Results.{placed, results, rows_left}
use Rattle.core_publish.specs.declared.results.Results.{Results}

-- what the lines leave, behind what stood there before, is what fewer lines leave behind what stands there now
pub record LeavesMore (s : Layout) (ops later : List Op) (old new : Results) : Type 0 where
  pub rows : new.rows.items ++ rows_left (results later) ≡ old.rows.items ++ rows_left (results ops)
  pub entries : new.entries.items ++ placed s (length new.rows.items) (results later) ≡ old.entries.items ++ placed s (length old.rows.items) (results ops)

-- the rows and entries that the lines leave
pub record HasResults (s : Layout) (ops : List Op) (rows : List (List Value)) (entries : List CodeMove) : Type 0 where
  pub rows_are : rows ≡ rows_left (results ops)
  pub entries_are : entries ≡ placed s 0 (results ops)
