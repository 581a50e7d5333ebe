-- The files of a version: which of their rows are live.
use Rattle.std.specs.Prelude.{◌≡◌, ◌⊎◌, ℕ, ◌-◌, ◌<◌, ⊤, List, [], ◌∷◌, length, map, sum, Option, Some, None, Bool as Truth, false, ◌&&◌, not, nat_lt, ◌==◌}
use Rattle.std.specs.List.{list_any}
use Rattle.index_level0.specs.declared.place.Place.{Place}
use Rattle.journal_form.specs.declared.records.ListedFile.{ListedFile}
use Rattle.journal_form.specs.Versions.{Rowset, file_numbered, files_of}

-- the file is there, it has the row, and the row isn't dead
abbrev pub row_lives : Option ListedFile → ℕ → Truth
row_lives None row = false
row_lives (Some f) row = nat_lt row f.rows && not (list_any (λ d. d == row) f.dead)

-- a version has a live row at this place
abbrev pub is_live : List Rowset → Place → Truth
is_live rowsets p = row_lives (file_numbered p.segment (files_of rowsets)) p.row

-- and a delete vector can hold it: no file of a table has more than 65,536 rows
abbrev pub can_die : List Rowset → Place → Truth
can_die rowsets p = nat_lt p.row 65536 && is_live rowsets p

-- how many rows files have, less the dead ones
abbrev pub alive : List ListedFile → ℕ
alive files = sum (map (λ f. f.rows - length f.dead) files)

-- the place of an earlier file, or of an earlier row of one file
abbrev pub place_below : Place → Place → Type 0
place_below p q = (p.segment < q.segment) ⊎ ((p.segment ≡ q.segment) × (p.row < q.row))

-- each place is below the next one
abbrev pub PlacesRise : List Place → Type 0
PlacesRise [] = ⊤
PlacesRise (p ∷ []) = ⊤
PlacesRise (p ∷ q ∷ ps) = place_below p q × PlacesRise (q ∷ ps)
