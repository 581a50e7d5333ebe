-- How a compaction ends, and two ways in which it must not, on one key that is loaded again while it is under way.
use Rattle.std.specs.Prelude.{◌≡◌, ℕ, List, [], ◌∷◌, Some, None, pos, cond, ◌==◌}
use Rattle.pk_values.specs.declared.cells.Value.{Value}
use Rattle.pk_values.specs.declared.cells.Value.TheVariants.{Num}
use Rattle.index_level0.specs.declared.place.Place.{Place}
use Rattle.rowsets.specs.Live.{Version, parts_of, Files, live, Index}
use Rattle.rowsets.specs.Ending.{compacted, found_late}
use Rattle.rowsets.specs.Merging.{all_live}

abbrev first : List Value
first = Num (pos 7) ∷ Num (pos 1) ∷ []

abbrev second : List Value
second = Num (pos 7) ∷ Num (pos 2) ∷ []

-- file 1 was there at the begin, file 2 came since, and the merge wrote file 3
abbrev pub example_rows : Files
example_rows n = cond (n == 2) (second ∷ []) (cond (n == 1) (first ∷ []) (cond (n == 3) (first ∷ []) []))

abbrev pub row_of : ℕ → Place
row_of n = record { segment = n; row = 0 }

abbrev pub example_version : Version
example_version = (record { file = 1; dead = 0 ∷ [] } ∷ []) ∷ (all_live 2 ∷ []) ∷ []

abbrev pub example_index : Index
example_index k = Some (row_of 2)

abbrev pub example_late : List Place
example_late = found_late example_index (all_live 1 ∷ []) (record { key = Num (pos 7) ∷ []; place = row_of 3 } ∷ [])

-- The merged row of the key is dead, and the row that came since is live.
abbrev pub RightEnd : Type 0
RightEnd = (example_late ≡ row_of 3 ∷ [])
    × (live example_rows (parts_of (compacted example_late (all_live 3 ∷ []) 1 example_version)) (row_of 3) ≡ None)
    × (live example_rows (parts_of (compacted example_late (all_live 3 ∷ []) 1 example_version)) (row_of 2) ≡ Some second)

-- where every merged row is live, the key stands twice
abbrev pub TwiceAtWrongEnd : Type 0
TwiceAtWrongEnd = (live example_rows (parts_of (compacted [] (all_live 3 ∷ []) 1 example_version)) (row_of 3) ≡ Some first)
    × (live example_rows (parts_of (compacted [] (all_live 3 ∷ []) 1 example_version)) (row_of 2) ≡ Some second)

-- where the later rowsets give way too, it has no row
abbrev pub LostAtWrongEnd : Type 0
LostAtWrongEnd = (p : Place) → live example_rows (parts_of (compacted example_late (all_live 3 ∷ []) 2 example_version)) p ≡ None
