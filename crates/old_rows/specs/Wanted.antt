-- Which old rows the changes of a load's keys ask for, and in which blocks they stand.
use Rattle.std.specs.Prelude.{◌≡◌, ◌⊎◌, ℕ, ◌+◌, ◌/◌, ◌<◌, ◌≤◌, List, [], ◌∷◌, map, length, take, drop, Option, Some, None, Bool as Truth, true, ◌&&◌, ◌==◌, cond, slice_get, All, ⊤}
use Rattle.std.specs.List.{list_any}
use Rattle.index_level0.specs.declared.place.Place.{Place}
use Rattle.rowsets.specs.Indexing.{CodeMove}
use Rattle.partial_loads.specs.Folds.{overlays}
use Rattle.partial_loads.specs.declared.folds.Folded.{Folded}
use Rattle.old_rows.specs.declared.wanted.Wanted.{Wanted}

-- the place of the old row that a key's change asks for
abbrev pub asked : Folded → CodeMove → Option Place
asked f e = cond (overlays f.change) e.1 None

-- the row at a place, if there is one, as that of a key
abbrev pub wanted_at : ℕ → Option Place → List Wanted
wanted_at key None = []
wanted_at key (Some p) = record { place = p; key = key } ∷ []

-- a row that is wanted is the one that a key's change asks for
pub record IsWanted (keys : List Folded) (located : List CodeMove) (w : Wanted) : Type 0 where
  pub key : Folded
  pub there : slice_get keys w.key ≡ Some key
  pub entry : CodeMove
  pub at : slice_get located w.key ≡ Some entry
  pub asks : asked key entry ≡ Some w.place

abbrev pub is_of : ℕ → Wanted → Truth
is_of i w = w.key == i

-- they are just those that the changes of the first keys ask for
pub record AreWanted (keys : List Folded) (located : List CodeMove) (count : ℕ) (wanted : List Wanted) : Type 0 where
  pub each : All (IsWanted keys located) wanted
  pub all : (i : ℕ) (f : Folded) (e : CodeMove) (p : Place) → i < count → slice_get keys i ≡ Some f → slice_get located i ≡ Some e
      → asked f e ≡ Some p → list_any (is_of i) wanted ≡ true

abbrev pub place_wanted : Wanted → Place
place_wanted w = w.place

-- of an earlier file, or of no later row of one file
abbrev pub is_not_above : Place → Place → Type 0
is_not_above p q = (p.segment < q.segment) ⊎ ((p.segment ≡ q.segment) × (p.row ≤ q.row))

abbrev pub PlacesInOrder : List Place → Type 0
PlacesInOrder [] = ⊤
PlacesInOrder (p ∷ []) = ⊤
PlacesInOrder (p ∷ q ∷ ps) = is_not_above p q × PlacesInOrder (q ∷ ps)

abbrev pub same_block : Place → Place → Truth
same_block p q = (p.segment == q.segment) && (p.row / 1024 == q.row / 1024)

-- a block of 1,024 rows: its file, and its number there
abbrev pub Block : Type 0
Block = ℕ × ℕ

abbrev pub block_of : Place → Block
block_of p = (p.segment, p.row / 1024)

-- the blocks in which rows stand, of rows one after the other in one block once
abbrev pub runs : List Place → List Block
runs [] = []
runs (p ∷ []) = block_of p ∷ []
runs (p ∷ q ∷ ps) = cond (same_block p q) (runs (q ∷ ps)) (block_of p ∷ runs (q ∷ ps))

-- so many rows at the front stand in the block of the first, and the others begin with another block
pub record IsRun (count : ℕ) (wanted : List Wanted) : Type 0 where
  pub some : 1 ≤ count
  pub most : count ≤ length wanted
  pub one : (w : Wanted) (ws : List Wanted) → wanted ≡ w ∷ ws → All (λ v. block_of v.place ≡ block_of w.place) (take count wanted)
  pub rest : (w : Wanted) (ws : List Wanted) → wanted ≡ w ∷ ws
      → runs (map place_wanted wanted) ≡ block_of w.place ∷ runs (map place_wanted (drop count wanted))

-- each block is below the next one
abbrev pub block_below : Block → Block → Type 0
block_below a b = (a.0 < b.0) ⊎ ((a.0 ≡ b.0) × (a.1 < b.1))

abbrev pub BlocksRise : List Block → Type 0
BlocksRise [] = ⊤
BlocksRise (a ∷ []) = ⊤
BlocksRise (a ∷ b ∷ bs) = block_below a b × BlocksRise (b ∷ bs)

-- how many of these blocks are in a file
abbrev pub blocks_in : ℕ → List Block → ℕ
blocks_in n [] = 0
blocks_in n (b ∷ bs) = cond (b.0 == n) 1 0 + blocks_in n bs

-- all of these stand in one block
abbrev pub InOneBlock : List Wanted → Type 0
InOneBlock wanted = (w : Wanted) (ws : List Wanted) → wanted ≡ w ∷ ws → All (λ v. block_of v.place ≡ block_of w.place) wanted
