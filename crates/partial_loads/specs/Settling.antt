-- Rows made before the turn, and rows made again in it.
use Rattle.std.specs.Prelude.{◌≡◌, ◌≢◌, ◌↔◌, ℕ, ◌+◌, List, [], ◌++◌, map, Option, Some, None, true, false, cond, ◌||◌}
use Rattle.std.specs.FinMap.{get}
use Rattle.pk_values.specs.Schemas.{Layout}
use Rattle.pk_values.specs.declared.cells.Value.{Value}
use Rattle.pk_model.specs.declared.books.Book.{Book}
use Rattle.pk_model.specs.declared.calls.Load.{Load}
use Rattle.pk_model.specs.Books.{publish, version}
use Rattle.pk_model.specs.Lawful.{IsLawful}
use Rattle.pk_model.specs.Tables.{Rows, after, touches}
use Rattle.index_level0.specs.declared.place.Place.{Place}
use Rattle.rowsets.specs.Live.{Part, Version, parts_of, Files, Live, live, names, Apart, FilesOnce, is_among, HasKey, HasRow, StandsFor, Index, IsIndex}
use Rattle.rowsets.specs.Marks.{marked, stands_in}
use Rattle.rowsets.specs.Changes.{AreResults, AreOldRows, published}
use Rattle.rowsets.specs.Loads.{AreResultsOver, IsLoadChange, ComeWithRow}
use Rattle.rowsets.specs.Indexing.{Move, moved_index, places_of}
use Rattle.rowsets.specs.Steps.{IsReady}
use Rattle.rowsets.specs.Books.{Held, Readings, HoldsBook, ReadAlike, held_after, held_at}
use Rattle.partial_loads.specs.Folds.{apply, change_at}
use Rattle.partial_loads.specs.Moves.{Located, stays_live, ReadsAlike, IsMeanwhile, HadRows, WereLocated, moved, keys_of}

-- the rows that a load's keys get from their changes over the rows `was`, and no others, are its results over these rows
abbrev pub MadeByKey : Type 0
MadeByKey = (s : Layout) (load : Load) (was : Rows) (made : Live)
    → IsLawful s load
    → ((k row : List Value) → is_among (touches load.ops) k ≡ true → (apply s load.given None k (change_at load.given None load.ops k) (get was k) ≡ Some row) ↔ HasRow s made k row)
    → ((p : Place) (k : List Value) → HasKey s made p k → is_among (touches load.ops) k ≡ true)
    → AreResultsOver s load was made

-- Rows `made` of a load over the rows `was`, and rows `remade` of some of its keys over the rows `now`. Just the rows of these keys are dead of those made before, and none of those made again.
pub record AreSettled (s : Layout) (load : Load) (was now : Rows) (again : List (List Value)) (made remade : Live) (dead : List Place) : Type 0 where
  pub before : AreResultsOver s load was made
  pub since : AreResults s again (after s load now) remade
  pub superseded : AreOldRows s again made dead
  pub stay : AreOldRows s [] remade dead

-- these are keys of the load, and each other key of it gets from the load what it would have got before
pub record AreAgain (s : Layout) (load : Load) (was now : Rows) (again : List (List Value)) : Type 0 where
  pub named : (k : List Value) → is_among again k ≡ true → is_among (touches load.ops) k ≡ true
  pub same : (k : List Value) → is_among (touches load.ops) k ≡ true → is_among again k ≡ false → get (after s load now) k ≡ get (after s load was) k

-- the keys that moved are such
abbrev pub MovedAreAgain : Type 0
MovedAreAgain = (s : Layout) (load : Load) (past : Files) (was : Rows) (kept : Option Version) (rows : Files) (current : Version) (index : Index) (now : Rows) (located : List Located)
    → IsMeanwhile s past was kept rows current index now → WereLocated (touches load.ops) was located
    → AreAgain s load was now (keys_of (moved (stays_live past kept) index located))

-- What is live of both is the results of the load over the rows of now.
abbrev pub SettledAreResults : Type 0
SettledAreResults = (s : Layout) (load : Load) (rows : Files) (was now : Rows) (again : List (List Value)) (made remade : List Part) (dead : List Place)
    → AreSettled s load was now again (live rows made) (live rows remade) dead → AreAgain s load was now again → Apart made remade
    → AreResultsOver s load now (live rows (marked dead (made ++ remade)))

-- where each key stands after it
abbrev pub settled_index : List (List Value) → List (List Value) → Index → Index → Index → Index
settled_index touched again made_at remade_at index k = cond (is_among touched k) (cond (is_among again k) (remade_at k) (made_at k)) (index k)

-- With the old rows of its keys dead, this is a change that is the load's over the rows of now.
abbrev pub SettledMakesLoad : Type 0
SettledMakesLoad = (s : Layout) (load : Load) (rows : Files) (old : Live) (was now : Rows) (again : List (List Value)) (made remade : List Part) (dead : List Place) (index made_at remade_at : Index)
    → AreSettled s load was now again (live rows made) (live rows remade) dead → AreAgain s load was now again → Apart made remade
    → AreOldRows s (touches load.ops) old dead → IsIndex s (live rows made) made_at → IsIndex s (live rows remade) remade_at
    → IsLoadChange s load old index now (live rows (marked dead (made ++ remade))) dead (settled_index (touches load.ops) again made_at remade_at index)

-- these places are in these files
abbrev pub AreIn : List Part → List Place → Type 0
AreIn parts places = (p : Place) → stands_in places p ≡ true → names parts p.segment ≡ true

-- what is dead of the old rows and what is superseded make one list, since all files are different
abbrev pub DeadOfBoth : Type 0
DeadOfBoth = (s : Layout) (past rows : Files) (touched again : List (List Value)) (current made remade : List Part) (dead superseded all_dead : List Place)
    → Apart current made → Apart current remade → Apart made remade → AreIn current dead → AreIn made superseded
    → ((p : Place) → stands_in all_dead p ≡ (stands_in dead p || stands_in superseded p))
    → AreOldRows s touched (live past current) dead → AreOldRows s again (live rows made) superseded
    → AreOldRows s touched (live past current) all_dead × AreOldRows s again (live rows made) all_dead × AreOldRows s [] (live rows remade) all_dead

-- both groups of files come with a live row, where there is a file
abbrev pub SettledHasRow : Type 0
SettledHasRow = (s : Layout) (load : Load) (rows : Files) (was now : Rows) (again : List (List Value)) (made remade : List Part) (dead : List Place)
    → AreSettled s load was now again (live rows made) (live rows remade) dead → AreAgain s load was now again → Apart made remade
    → ComeWithRow rows [] made → ComeWithRow rows [] remade
    → ComeWithRow rows dead (made ++ remade)

-- A load was located at an earlier version, and its rows were made over that version's rows `was`. With the rows of the keys that moved made again over the rows of now it makes of the current
-- version one that stands for the load over the rows of now, and the index stays exact.
abbrev pub LocatedLoadStands : Type 0
LocatedLoadStands = (s : Layout) (load : Load) (past : Files) (was : Rows) (kept : Option Version) (rows : Files) (current : Version) (index : Index) (now : Rows) (located : List Located)
    (made remade : List Part) (dead : List Place) (made_at remade_at : Index)
    → let again = keys_of (moved (stays_live past kept) index located) in
    IsMeanwhile s past was kept rows current index now → WereLocated (touches load.ops) was located
    → AreSettled s load was now again (live rows made) (live rows remade) dead → AreOldRows s (touches load.ops) (live rows (parts_of current)) dead
    → Apart (parts_of current) (made ++ remade) → Apart made remade → IsIndex s (live rows made) made_at → IsIndex s (live rows remade) remade_at
    → let next = published dead (made ++ remade) current in
    IsIndex s (live rows (parts_of next)) (settled_index (touches load.ops) again made_at remade_at index) × StandsFor s (live rows (parts_of next)) (after s load now)

-- the moves of the keys to their new rows
abbrev pub settled_moves : List (List Value) → Index → Index → List Located → List Move
settled_moves again made_at remade_at located = map (λ e. record { key = e.key; place = cond (is_among again e.key) (remade_at e.key) (made_at e.key) }) located

abbrev pub SettledMovesMove : Type 0
SettledMovesMove = (touched again : List (List Value)) (index made_at remade_at : Index) (located : List Located) → ((k : List Value) → is_among (keys_of located) k ≡ is_among touched k)
    → (k : List Value) → moved_index (settled_moves again made_at remade_at located) index k ≡ settled_index touched again made_at remade_at index k

-- So both groups are ready to be published, with their superseded rows as the stale ones.
abbrev pub SettledIsReady : Type 0
SettledIsReady = (s : Layout) (load : Load) (rows : Files) (was now : Rows) (again : List (List Value)) (made remade : List Part) (stale : List Place) (index made_at remade_at : Index) (located : List Located)
    → AreSettled s load was now again (live rows made) (live rows remade) stale → AreAgain s load was now again → Apart made remade
    → IsIndex s (live rows made) made_at → IsIndex s (live rows remade) remade_at → ((k : List Value) → is_among (keys_of located) k ≡ is_among (touches load.ops) k)
    → IsReady s load now index (live rows (marked stale (made ++ remade))) (keys_of located) (settled_moves again made_at remade_at located)

-- The two groups of new files that a located load is published with, the rows marked dead at it, and where the keys stand in the groups.
pub record AreGroups (s : Layout) (load : Load) (was now : Rows) (again : List (List Value)) (rows : Files) (current made remade : List Part) (dead : List Place) (made_at remade_at : Index) : Type 0 where
  pub settled : AreSettled s load was now again (live rows made) (live rows remade) dead
  pub made_places : IsIndex s (live rows made) made_at
  pub remade_places : IsIndex s (live rows remade) remade_at
  pub apart : Apart made remade
  pub new : Apart current (made ++ remade)
  pub once : FilesOnce (made ++ remade)
  pub made_some : ComeWithRow rows [] made
  pub remade_some : ComeWithRow rows [] remade

-- So what is held after it is the book after the load.
abbrev pub LocatedLoadIsHeld : Type 0
LocatedLoadIsHeld = (s : Layout) (load : Load) (rows : Readings) (h : Held) (b : Book) (v : ℕ) (was : Rows) (located : List Located)
    (made remade : List Part) (dead : List Place) (made_at remade_at : Index)
    → let again = keys_of (moved (stays_live (rows v) (held_at h b.floor v)) h.index located) in
    let next = rows (version b + 1) in
    HoldsBook s rows h b → HadRows b v was → ReadsAlike (rows v) (held_at h b.floor v) (rows (version b)) h.current → ReadAlike (rows (version b)) next (parts_of h.current)
    → IsLawful s load → WereLocated (touches load.ops) was located → AreOldRows s (touches load.ops) (live (rows (version b)) (parts_of h.current)) dead
    → AreGroups s load was b.current again next (parts_of h.current) made remade dead made_at remade_at
    → HoldsBook s rows (held_after dead (made ++ remade) (settled_index (touches load.ops) again made_at remade_at h.index) h) (publish s b load)

-- the places at which an index has some keys are in its files
abbrev pub FoundAreIn : Type 0
FoundAreIn = (s : Layout) (rows : Files) (parts : List Part) (index : Index) (keys : List (List Value)) → IsIndex s (live rows parts) index → AreIn parts (places_of index keys)

-- What is to be marked dead: where the keys of the load stand now, and where those that moved stand among the rows made before.
abbrev pub FoundAreDead : Type 0
FoundAreDead = (s : Layout) (past rows : Files) (touched : List (List Value)) (located again : List Located) (current made remade : List Part) (index made_at : Index) (dead : List Place)
    → IsIndex s (live past current) index → IsIndex s (live rows made) made_at → ((k : List Value) → is_among (keys_of located) k ≡ is_among touched k)
    → Apart current made → Apart current remade → Apart made remade
    → ((p : Place) → stands_in dead p ≡ (stands_in (places_of index (keys_of located)) p || stands_in (places_of made_at (keys_of again)) p))
    → AreOldRows s touched (live past current) dead × AreOldRows s (keys_of again) (live rows made) dead × AreOldRows s [] (live rows remade) dead

-- a live row that the load doesn't give over the rows of now is wrong, as one that was made before for a key that moved
abbrev pub StaleIsWrong : Type 0
StaleIsWrong = (s : Layout) (load : Load) (now : Rows) (new : Live) (k stale : List Value) → HasRow s new k stale → get (after s load now) k ≢ Some stale → ¬ (StandsFor s new (after s load now))
