-- Where the located keys stand now, as their codes tell it.
use Rattle.std.specs.Prelude.{◌≡◌, ℕ, List, map, count_by, Option, Bool as Truth, true}
use Rattle.std.specs.List.{AllByRecursion}
use Rattle.pk_values.specs.Schemas.{Layout, fits_key}
use Rattle.pk_values.specs.declared.cells.Value.{Value}
use Rattle.key_code.specs.KeyCode.{key_code}
use Rattle.index_level0.specs.declared.place.Place.{Place}
use Rattle.rowsets.specs.Live.{Index}
use Rattle.rowsets.specs.Indexing.{CodeMove, by_code}
use Rattle.partial_loads.specs.declared.standings.Standing.{Standing}
use Rattle.partial_loads.specs.Moves.{Located, has_moved}

-- what is stored at the code of a key
abbrev pub Stored : Type 0
Stored = List ℕ → Option Place

abbrev pub standing_of : Stored → (Place → Truth) → CodeMove → Standing
standing_of stored stays e = record { place = stored e.0; moved = has_moved stays e.1 (stored e.0) }

-- where each of them stands, and whether it moved
abbrev pub standings_of : Stored → (Place → Truth) → List CodeMove → List Standing
standings_of stored stays located = map (standing_of stored stays) located

-- located keys by their codes
abbrev pub located_codes : Layout → List Located → List CodeMove
located_codes s located = map (λ e. (key_code s e.key, e.place)) located

-- each key fits, so that its code tells it
abbrev pub HaveKeysThatFit : Layout → List Located → Type 0
HaveKeysThatFit s located = AllByRecursion (λ e. fits_key s e.key ≡ true) located

-- the index that is stored by codes
abbrev pub index_by : Layout → Stored → Index
index_by s stored = by_code (fits_key s) (key_code s) stored

-- codes tell where the keys stand, and which moved
abbrev pub CodesTellStandings : Type 0
CodesTellStandings = (s : Layout) (stored : Stored) (stays : Place → Truth) (located : List Located) → HaveKeysThatFit s located
    → standings_of stored stays (located_codes s located)
    ≡ map (λ e. record { place = index_by s stored e.key; moved = has_moved stays e.place (index_by s stored e.key) }) located

-- so they tell how many keys moved
abbrev pub StandingsCount : Type 0
StandingsCount = (s : Layout) (stored : Stored) (stays : Place → Truth) (located : List Located) → HaveKeysThatFit s located
    → count_by (λ standing. standing.moved) (standings_of stored stays (located_codes s located))
    ≡ count_by (λ e. has_moved stays e.place (index_by s stored e.key)) located
