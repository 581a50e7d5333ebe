-- How an index comes to be what it has to be: from the moves of keys, over a map from codes, and over levels of such maps.
use Rattle.std.specs.Prelude.{◌≡◌, ◌↔◌, ℕ, List, [], ◌∷◌, ◌++◌, map, Option, Some, None, Bool as Truth, true, false, cond, option_to_list, is_some, ⊤, slice_get}
use Rattle.std.specs.List.{list_any, AllByRecursion}
use Rattle.std.specs.Cmp.Lexicographic.{slice_cmp}
use Rattle.std.specs.Ordering.{eq_by_cmp, nat_cmp}
use Rattle.std.specs.FinMap.{FinMap, get, insert, remove}
use Rattle.std.specs.declared.cmp.Ordering.{Ordering}
use Rattle.pk_values.specs.Order.{key_cmp}
use Rattle.pk_values.specs.Schemas.{Layout}
use Rattle.pk_values.specs.declared.cells.Value.{Value}
use Rattle.pk_model.specs.Tables.{Rows}
use Rattle.index_level0.specs.declared.place.Place.{Place}
use Rattle.rowsets.specs.Live.{Part, Version, parts_of, Files, Live, live, is_among, HasKey, HasRow, StandsFor, Index, IsIndex}
use Rattle.rowsets.specs.Changes.{AreOldRows, IsIndexAfter}
use Rattle.rowsets.specs.Plans.{HasPlan}
use Rattle.rowsets.specs.Ending.{HasSameRows, Moved, AreMoved, is_in, index_after_end}

-- where a key stands from now on, or that it has no row
pub record Move : Type 0 where
  pub key : List Value
  pub place : Option Place

abbrev pub is_moved : List Move → List Value → Truth
is_moved moves k = list_any (λ c. eq_by_cmp key_cmp k c.key) moves

-- where a key stands after moves, of which the last one counts
abbrev pub place_after : List Move → List Value → Option Place → Option Place
place_after [] k old = old
place_after (c ∷ cs) k old = place_after cs k (cond (eq_by_cmp key_cmp k c.key) c.place old)

abbrev pub moved_index : List Move → Index → Index
moved_index moves index k = place_after moves k (index k)

-- the places at which the index has these keys
abbrev pub places_of : Index → List (List Value) → List Place
places_of index [] = []
places_of index (k ∷ ks) = option_to_list (index k) ++ places_of index ks

-- Keys that cover a change: each is touched, and each touched key that stands somewhere is one.
pub record Cover (touched : List (List Value)) (index : Index) (keys : List Value → Truth) : Type 0 where
  pub only : (k : List Value) → keys k ≡ true → is_among touched k ≡ true
  pub all : (k : List Value) → is_among touched k ≡ true → keys k ≡ false → index k ≡ None

-- an exact index finds the old rows of such keys
abbrev pub PlacesAreOldRows : Type 0
PlacesAreOldRows = (s : Layout) (touched keys : List (List Value)) (old : Live) (index : Index)
    → IsIndex s old index → Cover touched index (is_among keys) → AreOldRows s touched old (places_of index keys)

-- and moves of such keys to their new rows make the index after the change
abbrev pub MovesMakeIndex : Type 0
MovesMakeIndex = (s : Layout) (touched : List (List Value)) (fresh : Live) (index : Index) (moves : List Move)
    → Cover touched index (is_moved moves) → ((k : List Value) (p : Place) → (place_after moves k None ≡ Some p) ↔ HasKey s fresh p k)
    → IsIndexAfter s touched fresh index (moved_index moves index)

-- the place of a merged row
abbrev pub merged_place : List Moved → Index
merged_place [] k = None
merged_place (e ∷ es) k = cond (eq_by_cmp key_cmp k e.key) (Some e.place) (merged_place es k)

-- each key moves once
abbrev pub MovesOnce : List Move → Type 0
MovesOnce [] = ⊤
MovesOnce (c ∷ cs) = (is_moved cs c.key ≡ false) × MovesOnce cs

-- moves lead to the live rows, each to its own place
pub record LeadTo (s : Layout) (fresh : Live) (moves : List Move) : Type 0 where
  pub each : (i : ℕ) (c : Move) (p : Place) → slice_get moves i ≡ Some c → c.place ≡ Some p → HasKey s fresh p c.key
  pub all : (p : Place) (k : List Value) → HasKey s fresh p k → (i : ℕ) × (slice_get moves i ≡ Some (record { key = k; place = Some p }))

abbrev pub MovesLead : Type 0
MovesLead = (s : Layout) (fresh : Live) (moves : List Move) → MovesOnce moves → LeadTo s fresh moves → (k : List Value) (p : Place) → (place_after moves k None ≡ Some p) ↔ HasKey s fresh p k

-- live rows have one exact index
abbrev pub OneIndex : Type 0
OneIndex = (s : Layout) (rows : Live) (index other : Index) → IsIndex s rows index → IsIndex s rows other → (k : List Value) → index k ≡ other k

-- and the places of all of them make it
abbrev pub PlacesMakeIndex : Type 0
PlacesMakeIndex = (s : Layout) (rows : Live) (m : Rows) (moved : List Moved) → StandsFor s rows m → AreMoved s rows moved → IsIndex s rows (merged_place moved)

-- the moves of the merged rows that aren't late
abbrev pub kept_moves : Index → List Part → List Moved → List Move
kept_moves index begun [] = []
kept_moves index begun (e ∷ es) = cond (is_in begun (index e.key)) (record { key = e.key; place = Some e.place } ∷ kept_moves index begun es) (kept_moves index begun es)

-- at the end of a compaction these moves make the index
abbrev pub KeptMovesMakeIndex : Type 0
KeptMovesMakeIndex = (s : Layout) (rows : Files) (begun v : Version) (touched : List (List Value)) (merged : List Part) (index : Index) (moved : List Moved)
    → IsIndex s (live rows (parts_of v)) index → HasPlan s rows begun touched v
    → HasSameRows s (live rows (parts_of begun)) (live rows merged) → AreMoved s (live rows merged) moved
    → IsIndex s (live rows merged) (merged_place moved)
    × ((k : List Value) → moved_index (kept_moves index (parts_of begun) moved) index k ≡ index_after_end touched index (merged_place moved) k)

-- what is stored at the code of each key that passes a test
abbrev pub by_code : (List Value → Truth) → (List Value → List ℕ) → (List ℕ → Option Place) → Index
by_code fits code at k = cond (fits k) (at (code k)) None

-- different keys that pass the test have different codes
abbrev pub TellsKeys : (List Value → Truth) → (List Value → List ℕ) → Type 0
TellsKeys fits code = (j k : List Value) → fits j ≡ true → fits k ≡ true → code j ≡ code k → j ≡ k

-- moves as they are stored
abbrev pub CodeMove : Type 0
CodeMove = List ℕ × Option Place

abbrev pub code_moves : (List Value → List ℕ) → List Move → List CodeMove
code_moves code moves = map (λ c. (code c.key, c.place)) moves

abbrev pub code_cmp : List ℕ → List ℕ → Ordering
code_cmp = slice_cmp nat_cmp

abbrev pub place_stored : List CodeMove → List ℕ → Option Place → Option Place
place_stored [] code old = old
place_stored (c ∷ cs) code old = place_stored cs code (cond (eq_by_cmp code_cmp code c.0) c.1 old)

-- an index over stored moves is the moved index
abbrev pub StoredMovesMoveIndex : Type 0
StoredMovesMoveIndex = (fits : List Value → Truth) (code : List Value → List ℕ) (moves : List Move) (at after : List ℕ → Option Place)
    → TellsKeys fits code → AllByRecursion (λ c. fits c.key ≡ true) moves
    → ((c : List ℕ) → after c ≡ place_stored (code_moves code moves) c (at c))
    → (k : List Value) → by_code fits code after k ≡ moved_index moves (by_code fits code at) k

-- one map from codes to places
abbrev pub CodeMap : Type 0
CodeMap = FinMap code_cmp Place

abbrev pub put : List ℕ → Option Place → CodeMap → CodeMap
put code None m = remove m code
put code (Some p) m = insert m code p

abbrev pub put_all : List CodeMove → CodeMap → CodeMap
put_all [] m = m
put_all (c ∷ cs) m = put_all cs (put c.0 c.1 m)

abbrev pub MapStoresMoves : Type 0
MapStoresMoves = (moves : List CodeMove) (m : CodeMap) (c : List ℕ) → get (put_all moves m) c ≡ place_stored moves c (get m c)

-- levels of maps from codes to places or tombstones, the newest first: the first level that has a code answers
abbrev pub Level : Type 0
Level = FinMap code_cmp (Option Place)

abbrev pub two_levels : Option (Option Place) → Option Place → Option Place
two_levels None older = older
two_levels (Some answer) older = answer

abbrev pub in_levels : List Level → List ℕ → Option Place
in_levels [] c = None
in_levels (l ∷ ls) c = two_levels (get l c) (in_levels ls c)

abbrev pub put_level : List CodeMove → Level → Level
put_level [] l = l
put_level (c ∷ cs) l = put_level cs (insert l c.0 c.1)

abbrev pub LevelsStoreMoves : Type 0
LevelsStoreMoves = (moves : List CodeMove) (l : Level) (ls : List Level) (c : List ℕ) → in_levels (put_level moves l ∷ ls) c ≡ place_stored moves c (in_levels (l ∷ ls) c)

-- Where the newer levels have the touched keys of the plan, and no key that isn't touched, the merged places may take the place of the older levels.
abbrev pub LevelsGiveWay : Type 0
LevelsGiveWay = (s : Layout) (begun merged : Live) (touched : List (List Value)) (index old placed : Index) (newer : List Value → Option (Option Place))
    → HasSameRows s begun merged → IsIndex s begun old → IsIndex s merged placed
    → ((k : List Value) → index k ≡ two_levels (newer k) (old k))
    → ((k row : List Value) → HasRow s begun k row → is_some (newer k) ≡ is_among touched k)
    → ((k : List Value) → is_some (newer k) ≡ true → is_among touched k ≡ true)
    → (k : List Value) → two_levels (newer k) (placed k) ≡ index_after_end touched index placed k
