-- Lines that give each column its cell, in the order of the schema.
use Rattle.std.specs.Prelude.{ℕ, ◌+◌, List, [], ◌∷◌, length, drop, Bool as Truth, true, ◌&&◌, ◌==◌}
use Rattle.pk_values.specs.Schemas.{Layout}

-- these places count up from the first one
abbrev pub are_counted : ℕ → List ℕ → Truth
are_counted first [] = true
are_counted first (place ∷ places) = (place == first) && are_counted (first + 1) places

-- a key of so many cells has one for each key column, and so many others stand one in each other column
abbrev pub is_whole : Layout → List ℕ → ℕ → ℕ → Truth
is_whole s given key cells =
    (key == s.keys) && (length given == length (drop s.keys s.columns)) && (cells == length (drop s.keys s.columns))
    && are_counted s.keys given
