-- A load whose rows were made before the turn, and those of some keys again in it, in the words of what is published: its
-- files of rows in one list, numbered from the next file number on.
use Rattle.std.specs.Prelude.{◌≡◌, ℕ, ◌+◌, ◌≤◌, List, [], ◌++◌, length, map, Some, None, true, false}
use Rattle.std.specs.List.{AllByRecursion}
use Rattle.std.specs.FinMap.{get}
use Rattle.pk_values.specs.Schemas.{Layout}
use Rattle.pk_values.specs.declared.cells.Value.{Value}
use Rattle.pk_model.specs.declared.calls.Load.{Load}
use Rattle.pk_model.specs.Laws.{KeysStandFirst}
use Rattle.pk_model.specs.Lawful.{IsLawful}
use Rattle.pk_model.specs.Tables.{Rows}
use Rattle.index_level0.specs.declared.place.Place.{Place}
use Rattle.rowsets.specs.Live.{Files, live, names, is_among, Index}
use Rattle.rowsets.specs.Marks.{marked, stands_in}
use Rattle.rowsets.specs.Loads.{ComeWithRow}
use Rattle.rowsets.specs.Merging.{all_live, all_rows, moved_to, numbered, with_files}
use Rattle.rowsets.specs.Indexing.{Move, merged_place, places_of}
use Rattle.rowsets.specs.Steps.{IsReady}
use Rattle.partial_loads.specs.declared.folds.Folded.{Folded}
use Rattle.partial_loads.specs.Folded.{AreFolded, folded_keys}
use Rattle.partial_loads.specs.Making.{HaveChanges, made_rows}
use Rattle.partial_loads.specs.Moves.{NoneTwice}

-- the rows of new files, which have the numbers from the first on
abbrev pub fresh : ℕ → List (List (List Value)) → Files
fresh first files = with_files first files (λ n. [])

-- where the row of a key stands in these files, if it has one there
abbrev pub places_in : Layout → ℕ → List (List (List Value)) → Index
places_in s first files = merged_place (moved_to s (fresh first files) (numbered first files))

-- each of these keys with the place of its row in these files, or none
abbrev pub moves_into : Layout → ℕ → List (List (List Value)) → List (List Value) → List Move
moves_into s first files keys = map (λ k. record { key = k; place = places_in s first files k }) keys

-- each file has a row
abbrev pub HaveRows : List (List (List Value)) → Type 0
HaveRows files = AllByRecursion (λ rows. 1 ≤ length rows) files

-- The files `made` hold the rows that the folded changes of a load make of the rows `was`, and the files `remade` those
-- that the changes `again`, of some of its keys, make of the rows `now`. Each other key of the load has in both the same
-- row.
pub record AreMadeTwice (s : Layout) (load : Load) (was now : Rows) (folded again : List Folded)
    (made remade : List (List (List Value))) : Type 0 where
  pub folds : AreFolded s load.given None load.ops folded
  pub changes : HaveChanges load again
  pub once : NoneTwice (folded_keys again)
  pub among : (k : List Value) → is_among (folded_keys again) k ≡ true → is_among (folded_keys folded) k ≡ true
  pub same : (k : List Value) → is_among (folded_keys folded) k ≡ true → is_among (folded_keys again) k ≡ false
      → get now k ≡ get was k
  pub first : all_rows made ≡ made_rows s load.given was folded
  pub second : all_rows remade ≡ made_rows s load.given now again
  pub made_some : HaveRows made
  pub remade_some : HaveRows remade

-- A load is ready to be published over the rows `m`: its new files, the rows of these that are dead from the first,
-- and where its keys stand from then on.
pub record IsReadyLoad (s : Layout) (load : Load) (m : Rows) (index : Index) (first : ℕ)
    (files : List (List (List Value))) (looked_up : List (List Value)) (stale : List Place)
    (moves : List Move) : Type 0 where
  pub ready : IsReady s load m index (live (fresh first files)
      (marked stale (map all_live (numbered first files)))) looked_up moves
  pub of_new : (p : Place) → stands_in stale p ≡ true → names (map all_live (numbered first files)) p.segment ≡ true
  pub of_rows : (p : Place) → stands_in stale p ≡ true
      → (row : List Value) × (live (fresh first files) (map all_live (numbered first files)) p ≡ Some row)
  pub come : ComeWithRow (fresh first files) stale (map all_live (numbered first files))

-- where the rows stand that were made for keys whose rows were made again
abbrev pub superseded : Layout → ℕ → List (List (List Value)) → List Folded → List Place
superseded s first made again = places_of (places_in s first made) (folded_keys again)

-- where the keys stand from then on: in the files made before, and those whose rows were made again in the others
abbrev pub moves_of_both : Layout → ℕ → List (List (List Value)) → List (List (List Value)) → List Folded → List Folded
    → List Move
moves_of_both s first made remade folded again =
    moves_into s first made (folded_keys folded) ++ moves_into s (first + length made) remade (folded_keys again)

-- Such a load is ready to be published over the rows of now, whatever numbers its files get and whatever the index
-- answers, with the superseded rows as the stale ones.
abbrev pub TwiceMadeIsReady : Type 0
TwiceMadeIsReady = (s : Layout) (load : Load) (was now : Rows) (index : Index) (folded again : List Folded)
    (made remade : List (List (List Value))) (first : ℕ)
    → IsLawful s load → KeysStandFirst s was → KeysStandFirst s now
    → AreMadeTwice s load was now folded again made remade
    → IsReadyLoad s load now index first (made ++ remade) (folded_keys folded) (superseded s first made again)
    (moves_of_both s first made remade folded again)
