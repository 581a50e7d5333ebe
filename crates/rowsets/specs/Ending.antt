-- The end of a compaction: its rows take the place of the plan's rowsets, less those that come too late.
use Rattle.std.specs.Prelude.{◌≡◌, ◌↔◌, ℕ, List, [], ◌∷◌, ◌++◌, map, length, drop, Option, Some, None, Bool as Truth, true, false, cond, not}
use Rattle.std.specs.List.{AllByRecursion}
use Rattle.std.specs.FinMap.{get, keys, len}
use Rattle.pk_values.specs.Schemas.{Layout, key_of}
use Rattle.pk_values.specs.declared.cells.Value.{Value}
use Rattle.pk_model.specs.declared.books.Plan.{Plan}
use Rattle.pk_model.specs.declared.books.Book.{Book}
use Rattle.pk_model.specs.Books.{late, rowsets_after}
use Rattle.pk_model.specs.Tables.{Rows}
use Rattle.index_level0.specs.declared.place.Place.{Place}
use Rattle.rowsets.specs.Live.{Part, Version, parts_of, Files, Live, live, names, Apart, is_among, HasKey, HasRow, StandsFor, Index, IsIndex}
use Rattle.rowsets.specs.Marks.{marked, stands_in}
use Rattle.rowsets.specs.Changes.{one_rowset}
use Rattle.rowsets.specs.Plans.{HasPlan}

-- both have the same live rows, at any places, and no key stands twice in the second
pub record HasSameRows (s : Layout) (old new : Live) : Type 0 where
  pub same : (k row : List Value) → HasRow s old k row ↔ HasRow s new k row
  pub once : (p q : Place) (k : List Value) → HasKey s new p k → HasKey s new q k → p ≡ q

-- rows that stand for one map are the same
abbrev pub OneMapSameRows : Type 0
OneMapSameRows = (s : Layout) (old new : Live) (m : Rows) → StandsFor s old m → StandsFor s new m → HasSameRows s old new

-- these are dead of the merged rows: those whose keys were touched since the plan began
abbrev pub AreLate : Layout → Live → List (List Value) → List Place → Type 0
AreLate s merged touched dead = (p : Place) (row : List Value) → merged p ≡ Some row → stands_in dead p ≡ is_among touched (key_of s row)

-- the version after a compaction of its first r rowsets: the merged rowset stands first
abbrev pub compacted : List Place → List Part → ℕ → Version → Version
compacted dead merged r v = one_rowset (marked dead merged) ++ drop r v

-- the end of a compaction leaves the map as it was, and no key stands twice
abbrev pub EndingStands : Type 0
EndingStands = (s : Layout) (rows : Files) (begun v : Version) (touched : List (List Value)) (merged : List Part) (dead : List Place) (m : Rows)
    → StandsFor s (live rows (parts_of v)) m → HasPlan s rows begun touched v
    → HasSameRows s (live rows (parts_of begun)) (live rows merged) → Apart (parts_of v) merged → AreLate s (live rows merged) touched dead
    → StandsFor s (live rows (parts_of (compacted dead merged (length begun) v))) m

-- The index after a compaction: a touched key keeps its place, and any other key has its place among the merged rows.
abbrev pub index_after_end : List (List Value) → Index → Index → Index
index_after_end touched index placed k = cond (is_among touched k) (index k) (placed k)

abbrev pub EndingKeepsIndex : Type 0
EndingKeepsIndex = (s : Layout) (rows : Files) (begun v : Version) (touched : List (List Value)) (merged : List Part) (dead : List Place) (m : Rows) (index placed next : Index)
    → StandsFor s (live rows (parts_of v)) m → IsIndex s (live rows (parts_of v)) index → HasPlan s rows begun touched v
    → HasSameRows s (live rows (parts_of begun)) (live rows merged) → Apart (parts_of v) merged → AreLate s (live rows merged) touched dead
    → IsIndex s (live rows merged) placed
    → ((k : List Value) → next k ≡ index_after_end touched index placed k)
    → IsIndex s (live rows (parts_of (compacted dead merged (length begun) v))) next

-- the place is in one of these files
abbrev pub is_in : List Part → Option Place → Truth
is_in parts None = false
is_in parts (Some p) = names parts p.segment

-- a key of the plan was touched exactly where the index doesn't place it in the plan's files
abbrev pub IndexTellsLate : Type 0
IndexTellsLate = (s : Layout) (rows : Files) (begun v : Version) (touched : List (List Value)) (index : Index) (k row : List Value)
    → IsIndex s (live rows (parts_of v)) index → HasPlan s rows begun touched v → HasRow s (live rows (parts_of begun)) k row
    → is_among touched k ≡ not (is_in (parts_of begun) (index k))

-- a merged row: its key, and the place that it was written to
pub record Moved : Type 0 where
  pub key : List Value
  pub place : Place

-- the places of the merged rows whose keys the index doesn't place in the plan's files
abbrev pub found_late : Index → List Part → List Moved → List Place
found_late index begun [] = []
found_late index begun (e ∷ es) = cond (is_in begun (index e.key)) (found_late index begun es) (e.place ∷ found_late index begun es)

-- these are the keys and places of all merged rows
pub record AreMoved (s : Layout) (merged : Live) (moved : List Moved) : Type 0 where
  pub each : AllByRecursion (λ e. HasKey s merged e.place e.key) moved
  pub all : (p : Place) (row : List Value) → merged p ≡ Some row → stands_in (map (λ e. e.place) moved) p ≡ true

-- what the index finds are the late rows, as many as the book's plan says
abbrev pub IndexFindsLate : Type 0
IndexFindsLate = (s : Layout) (rows : Files) (begun v : Version) (p : Plan) (merged : List Part) (index : Index) (moved : List Moved)
    → IsIndex s (live rows (parts_of v)) index → HasPlan s rows begun p.touched v
    → HasSameRows s (live rows (parts_of begun)) (live rows merged) → AreMoved s (live rows merged) moved
    → AreLate s (live rows merged) p.touched (found_late index (parts_of begun) moved)
    × (map (λ e. e.key) moved ≡ keys p.rows → length (found_late index (parts_of begun) moved) ≡ late p)

-- the merged rowset takes the place of the plan's, so there are as many as the book says
abbrev pub RowsetsAreCounted : Type 0
RowsetsAreCounted = (b : Book) (p : Plan) (begun v : Version) (dead : List Place) (merged : List Part)
    → b.rowsets ≡ length v → p.rowsets ≡ length begun → (merged ≡ []) ↔ (len p.rows ≡ 0)
    → length (compacted dead merged (length begun) v) ≡ rowsets_after b p

-- to leave the merged row of a touched key live is wrong
abbrev pub LeavingIsWrong : Type 0
LeavingIsWrong = (s : Layout) (rows : Files) (begun v : Version) (touched : List (List Value)) (merged : List Part) (dead : List Place) (m : Rows) (p : Place) (k : List Value)
    → StandsFor s (live rows (parts_of v)) m → HasPlan s rows begun touched v → Apart (parts_of v) merged
    → HasKey s (live rows merged) p k → is_among touched k ≡ true → stands_in dead p ≡ false
    → ¬ (StandsFor s (live rows (parts_of (compacted dead merged (length begun) v))) m)

-- to drop a key that has a row is wrong
abbrev pub DroppingIsWrong : Type 0
DroppingIsWrong = (s : Layout) (new : Live) (m : Rows) (k row : List Value)
    → get m k ≡ Some row → ((p : Place) → ¬ (HasKey s new p k)) → ¬ (StandsFor s new m)
