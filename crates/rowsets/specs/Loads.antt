-- When a change is that of a load.
use Rattle.std.specs.Prelude.{◌≡◌, ◌↔◌, ◌+◌, List, [], length, Some, None, true, false, if◌then◌else◌, IsTrue, ◌⊎◌}
use Rattle.std.specs.FinMap.{get}
use Rattle.pk_values.specs.Schemas.{Layout, fits_row}
use Rattle.pk_values.specs.declared.cells.Value.{Value}
use Rattle.pk_model.specs.declared.calls.Load.{Load}
use Rattle.pk_model.specs.Laws.{result_for, KeysStandFirst}
use Rattle.pk_model.specs.Lawful.{IsLawful}
use Rattle.pk_model.specs.Tables.{Rows, after, touches, writes}
use Rattle.index_level0.specs.declared.place.Place.{Place}
use Rattle.rowsets.specs.Live.{Part, Version, Files, Live, live, is_among, HasKey, HasRow, StandsFor, HasShortKeys, Index}
use Rattle.rowsets.specs.Marks.{marked}
use Rattle.rowsets.specs.Changes.{AreResults, AreOldRows, IsIndexAfter, IsChange, published}

-- new rows that hold the results of a load over a map
abbrev pub AreResultsOver : Layout → Load → Rows → Live → Type 0
AreResultsOver s load m fresh = AreResults s (touches load.ops) (after s load m) fresh

-- a change that is a load's over this map
abbrev pub IsLoadChange : Layout → Load → Live → Index → Rows → Live → List Place → Index → Type 0
IsLoadChange s load old index m fresh dead next = IsChange s old index m (touches load.ops) (after s load m) fresh dead next

-- the rows of a map fit, and stand at their keys
pub record AreRows (s : Layout) (m : Rows) : Type 0 where
  pub keys : KeysStandFirst s m
  pub fit : (k row : List Value) → get m k ≡ Some row → IsTrue (fits_row s row)

-- where live rows fit, so do the rows of the map that they stand for
abbrev pub LiveRowsFit : Type 0
LiveRowsFit = (s : Layout) (rows : Live) (m : Rows) → StandsFor s rows m → ((p : Place) (row : List Value) → rows p ≡ Some row → IsTrue (fits_row s row)) → AreRows s m

-- new rows that hold the results of a load over each map: it doesn't ask what stood there
abbrev pub AreResultsAnyhow : Layout → Load → Live → Type 0
AreResultsAnyhow s load fresh = (m : Rows) → AreRows s m → AreResultsOver s load m fresh

-- results, old rows and places make a load's change
abbrev pub PartsMakeLoad : Type 0
PartsMakeLoad = (s : Layout) (load : Load) (old : Live) (index : Index) (m : Rows) (fresh : Live) (dead : List Place) (next : Index)
    → AreResultsOver s load m fresh → AreOldRows s (touches load.ops) old dead → IsIndexAfter s (touches load.ops) fresh index next
    → IsLoadChange s load old index m fresh dead next

-- each key's result is that of its own lines over the row that the map has there
abbrev pub ResultsByKey : Type 0
ResultsByKey = (s : Layout) (load : Load) (m : Rows) (fresh : Live)
    → ((k row : List Value) → is_among (touches load.ops) k ≡ true → (result_for s load.given load.ops k (get m k) ≡ Some row) ↔ HasRow s fresh k row)
    → ((p : Place) (k : List Value) → HasKey s fresh p k → is_among (touches load.ops) k ≡ true)
    → AreResultsOver s load m fresh

-- a load that only takes rows away has no row as a result
abbrev pub NoWriteNoRow : Type 0
NoWriteNoRow = (s : Layout) (load : Load) (m : Rows) (k : List Value) → writes load.ops ≡ false → is_among (touches load.ops) k ≡ true → get (after s load m) k ≡ None

-- a load that the table takes leaves keys with codes that are short enough
abbrev pub LoadsKeepShortKeys : Type 0
LoadsKeepShortKeys = (s : Layout) (load : Load) (m : Rows) → IsLawful s load → HasShortKeys s m → HasShortKeys s (after s load m)

-- new files, of which these rows are dead, come with a live row
abbrev pub ComeWithRow : Files → List Place → List Part → Type 0
ComeWithRow rows dead new = (new ≡ []) ⊎ ((p : Place) × (row : List Value) × (live rows (marked dead new) p ≡ Some row))

-- the number of rowsets rises by one exactly where the load writes
abbrev pub RowsetsRise : Type 0
RowsetsRise = (s : Layout) (load : Load) (m : Rows) (rows : Files) (dead : List Place) (new : List Part) (v : Version)
    → AreResultsOver s load m (live rows (marked dead new)) → ComeWithRow rows dead new
    → length (published dead new v) ≡ length v + (if writes load.ops then 1 else 0)

-- it carries each column outside the key
abbrev pub IsWhole : Layout → Load → Type 0
IsWhole s load = s.keys + length load.given ≡ length s.columns

-- of a whole load, the result at a key that it names doesn't ask what stood there
abbrev pub WholeLoadsAskNothing : Type 0
WholeLoadsAskNothing = (s : Layout) (load : Load) (m : Rows) (k : List Value) → IsLawful s load → IsWhole s load → AreRows s m → is_among (touches load.ops) k ≡ true
    → result_for s load.given load.ops k (get m k) ≡ result_for s load.given load.ops k None

-- so new rows that hold its results over no row hold them over each map
abbrev pub WholeLoadResults : Type 0
WholeLoadResults = (s : Layout) (load : Load) (fresh : Live) → IsLawful s load → IsWhole s load
    → ((k row : List Value) → is_among (touches load.ops) k ≡ true → (result_for s load.given load.ops k None ≡ Some row) ↔ HasRow s fresh k row)
    → ((p : Place) (k : List Value) → HasKey s fresh p k → is_among (touches load.ops) k ≡ true)
    → AreResultsAnyhow s load fresh
