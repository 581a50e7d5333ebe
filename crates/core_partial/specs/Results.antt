-- Where the rows of keys stand among all that are written.
use Rattle.std.specs.Prelude.{ℕ, List, Option, Some, None}
use Rattle.pk_values.specs.declared.cells.Value.{Value}
use Rattle.index_level0.specs.declared.place.Place.{Place}
use Rattle.core_publish.specs.Results.{place_at}

-- the place of a key's row, if it has one, where so many rows are before it
abbrev pub place_for : ℕ → Option (List Value) → Option Place
place_for n None = None
place_for n (Some row) = Some (place_at n)
