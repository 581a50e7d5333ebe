-- The live rows of a version, and the map and the index that they are.
use Rattle.std.specs.Prelude.{◌≡◌, ◌↔◌, ℕ, ◌≤◌, length, List, [], ◌∷◌, ◌++◌, Option, Some, None, Bool as Truth, true, false, ◌==◌, cond, slice_get, ⊤}
use Rattle.std.specs.List.{list_any}
use Rattle.std.specs.FinMap.{get}
use Rattle.std.specs.Ordering.{eq_by_cmp}
use Rattle.pk_values.specs.Order.{key_cmp}
use Rattle.pk_values.specs.Schemas.{Layout, key_of}
use Rattle.pk_values.specs.declared.cells.Value.{Value}
use Rattle.key_code.specs.KeyCode.{key_code}
use Rattle.pk_model.specs.Lawful.{most_code_bytes}
use Rattle.pk_model.specs.Tables.{Rows}
use Rattle.index_level0.specs.declared.place.Place.{Place}

-- a file of a rowset by its number, and the numbers of its dead rows
pub record Part : Type 0 where
  pub file : ℕ
  pub dead : List ℕ

-- the files that one load or one compaction made
abbrev pub Rowset : Type 0
Rowset = List Part

-- the rowsets of a version, the oldest first
abbrev pub Version : Type 0
Version = List Rowset

-- all parts of a version
abbrev pub parts_of : Version → List Part
parts_of [] = []
parts_of (r ∷ rs) = r ++ parts_of rs

-- the rows of each file, as a version reads them
abbrev pub Files : Type 0
Files = ℕ → List (List Value)

-- the row at each place that has a live one
abbrev pub Live : Type 0
Live = Place → Option (List Value)

abbrev pub is_dead : Part → ℕ → Truth
is_dead part row = list_any (λ r. r == row) part.dead

-- a file's rows outside its dead rows
abbrev pub live : Files → List Part → Live
live rows [] p = None
live rows (part ∷ parts) p = cond (part.file == p.segment) (cond (is_dead part p.row) None (slice_get (rows part.file) p.row)) (live rows parts p)

-- a file of this number is among them
abbrev pub names : List Part → ℕ → Truth
names parts n = list_any (λ part. part.file == n) parts

-- no file is among both
abbrev pub Apart : List Part → List Part → Type 0
Apart old new = (n : ℕ) → names old n ≡ true → names new n ≡ false

-- each file is named once
abbrev pub FilesOnce : List Part → Type 0
FilesOnce [] = ⊤
FilesOnce (part ∷ parts) = (names parts part.file ≡ false) × FilesOnce parts

-- the key is one of these
abbrev pub is_among : List (List Value) → List Value → Truth
is_among keys k = list_any (eq_by_cmp key_cmp k) keys

-- the row at this place is live and has this key
abbrev pub HasKey : Layout → Live → Place → List Value → Type 0
HasKey s rows p k = (row : List Value) × (rows p ≡ Some row) × (key_of s row ≡ k)

-- this row is live, and has this key
abbrev pub HasRow : Layout → Live → List Value → List Value → Type 0
HasRow s rows k row = (p : Place) × (rows p ≡ Some row) × (key_of s row ≡ k)

-- the map has exactly the live rows, each at its key, and no key stands twice
pub record StandsFor (s : Layout) (rows : Live) (m : Rows) : Type 0 where
  pub same : (k row : List Value) → (get m k ≡ Some row) ↔ HasRow s rows k row
  pub once : (p q : Place) (k : List Value) → HasKey s rows p k → HasKey s rows q k → p ≡ q

-- no key of the map has a code that is too long
abbrev pub HasShortKeys : Layout → Rows → Type 0
HasShortKeys s m = (k row : List Value) → get m k ≡ Some row → length (key_code s k) ≤ most_code_bytes

-- what an index answers to each key: the place of its row, or none
abbrev pub Index : Type 0
Index = List Value → Option Place

-- the index gives a key a place exactly where the live row there has this key
abbrev pub IsIndex : Layout → Live → Index → Type 0
IsIndex s rows index = (k : List Value) (p : Place) → (index k ≡ Some p) ↔ HasKey s rows p k
