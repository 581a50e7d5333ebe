-- How far rows were written into files.
use Rattle.std.specs.Prelude.{◌≡◌, ℕ, List, ◌++◌, Option}
use Rattle.pk_values.specs.Schemas.{Layout}
use Rattle.pk_values.specs.declared.cells.Value.{Value}
use Rattle.column_page.specs.declared.footers.Footer.{Footer}
use Rattle.core_publish.specs.Prepared.{AreSealedOf, files_of}

-- the first files hold the rows before these
pub record WritesOn (s : Layout) (rows rest : List (List Value)) (files : List (Option (List ℕ) × Footer)) : Type 0 where
  pub done : List (List (List Value))
  pub split : files_of rows ≡ done ++ files_of rest
  pub sealed : AreSealedOf s done files
