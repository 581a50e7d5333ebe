-- The dead rows of a file: a rising list of rows below 65,536.
use Rattle.std.specs.Prelude.{ℕ, ◌<◌, List}
use Rattle.std.specs.List.{AllByRecursion}
use Rattle.rowsets.specs.Marks.{Rises}

-- no file has more rows
abbrev pub most_rows : ℕ
most_rows = 65536

abbrev pub AreRows : List ℕ → Type 0
AreRows rows = AllByRecursion (λ row. row < most_rows) rows

pub record AreDeadRows (rows : List ℕ) : Type 0 where
  pub rise : Rises rows
  pub below : AreRows rows
