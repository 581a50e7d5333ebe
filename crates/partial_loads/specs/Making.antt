-- The rows that the changes of some keys make.
use Rattle.std.specs.Prelude.{◌≡◌, ℕ, List, [], ◌∷◌, ◌++◌, map, None, option_to_list, T}
use Rattle.std.specs.List.{AllByRecursion}
use Rattle.std.specs.FinMap.{get}
use Rattle.pk_values.specs.Schemas.{Layout, key_of}
use Rattle.pk_values.specs.declared.cells.Value.{Value}
use Rattle.pk_model.specs.declared.calls.Load.{Load}
use Rattle.pk_model.specs.Laws.{KeysStandFirst}
use Rattle.pk_model.specs.Lawful.{IsLawful}
use Rattle.pk_model.specs.Tables.{Rows, after}
use Rattle.rowsets.specs.Live.{Files, Live, live, is_among, IsIndex, StandsFor}
use Rattle.rowsets.specs.Changes.{AreResults}
use Rattle.rowsets.specs.Loads.{AreResultsOver}
use Rattle.rowsets.specs.Merging.{all_live, written, moved_to}
use Rattle.rowsets.specs.Indexing.{merged_place}
use Rattle.partial_loads.specs.declared.folds.Folded.{Folded}
use Rattle.partial_loads.specs.Folds.{apply, change_at}
use Rattle.partial_loads.specs.Folded.{AreFolded, folded_keys, rise_strictly}
use Rattle.partial_loads.specs.Moves.{NoneTwice}

-- the rows that some keys get over these rows, in the order of the keys
abbrev pub made_rows : Layout → List ℕ → Rows → List Folded → List (List Value)
made_rows s given m [] = []
made_rows s given m (f ∷ fs) = option_to_list (apply s given None f.key f.change (get m f.key)) ++ made_rows s given m fs

-- each key has the change that the lines of the load come to
abbrev pub HaveChanges : Load → List Folded → Type 0
HaveChanges load fs = AllByRecursion (λ f. f.change ≡ change_at load.given None load.ops f.key) fs

-- files of these rows hold the results of the load over these rows at these keys
abbrev pub MadeAreResults : Type 0
MadeAreResults = (s : Layout) (load : Load) (m : Rows) (rows : Files) (files : List ℕ) (fs : List Folded)
    → IsLawful s load → KeysStandFirst s m → HaveChanges load fs → written rows files ≡ made_rows s load.given m fs
    → AreResults s (folded_keys fs) (after s load m) (live rows (map all_live files))

-- and those of all its keys hold its results
abbrev pub FoldedAreResults : Type 0
FoldedAreResults = (s : Layout) (load : Load) (m : Rows) (rows : Files) (files : List ℕ) (folded : List Folded)
    → IsLawful s load → KeysStandFirst s m → AreFolded s load.given None load.ops folded → written rows files ≡ made_rows s load.given m folded
    → AreResultsOver s load m (live rows (map all_live files))

-- folded keys have the changes of the load
abbrev pub FoldedHaveChanges : Type 0
FoldedHaveChanges = (s : Layout) (load : Load) (folded : List Folded) → AreFolded s load.given None load.ops folded → HaveChanges load folded

-- live rows stand for a map whose rows stand at their keys
abbrev pub StoodKeysFirst : Type 0
StoodKeysFirst = (s : Layout) (rows : Live) (m : Rows) → StandsFor s rows m → KeysStandFirst s m

-- of keys that are each there once, no made row's key stands twice
abbrev pub MadeOnce : Type 0
MadeOnce = (s : Layout) (load : Load) (m : Rows) (fs : List Folded) → IsLawful s load → KeysStandFirst s m → HaveChanges load fs → NoneTwice (folded_keys fs)
    → NoneTwice (map (key_of s) (made_rows s load.given m fs))

-- where no key stands twice in files, the places of their rows are an index of them
abbrev pub WrittenIsIndexed : Type 0
WrittenIsIndexed = (s : Layout) (rows : Files) (files : List ℕ) → NoneTwice (map (key_of s) (written rows files))
    → IsIndex s (live rows (map all_live files)) (merged_place (moved_to s rows files))

-- keys that rise are each there once
abbrev pub RisingOnce : Type 0
RisingOnce = (ks : List (List Value)) → T (rise_strictly ks) → NoneTwice ks

-- and are told by their members, so located and folded keys stand in the same order
abbrev pub OneKeyList : Type 0
OneKeyList = (xs ys : List (List Value)) → T (rise_strictly xs) → T (rise_strictly ys) → ((k : List Value) → is_among xs k ≡ is_among ys k) → xs ≡ ys
