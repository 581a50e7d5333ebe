-- What a partial load becomes before its turn: the whole rows that it leaves, made over the rows of an earlier version.
use Rattle.std.specs.Prelude.{◌≡◌, ℕ, List, [], map, Option, None, Bool as Truth, Some}
use Rattle.std.specs.FinMap.{get}
use Rattle.std.specs.List.{AllByRecursion}
use Rattle.key_code.specs.KeyCode.{key_code}
use Rattle.pk_values.specs.Schemas.{Layout}
use Rattle.pk_values.specs.declared.cells.Value.{Value}
use Rattle.pk_model.specs.Laws.{KeysStandFirst}
use Rattle.pk_model.specs.Lawful.{IsLawful}
use Rattle.pk_model.specs.declared.books.Book.{Book}
use Rattle.pk_model.specs.Books.{rows_at}
use Rattle.pk_model.specs.Tables.{Rows}
use Rattle.pk_model.specs.declared.calls.Load.{Load}
use Rattle.index_level0.specs.declared.place.Place.{Place}
use Rattle.rowsets.specs.Indexing.{CodeMove, code_moves}
use Rattle.tablet_state.specs.Readies.{NewSegment}
use Rattle.partial_loads.specs.Folded.{AreFolded, folded_keys}
use Rattle.partial_loads.specs.Making.{made_rows}
use Rattle.partial_loads.specs.declared.folds.Folded.{Folded}
use Rattle.core_publish.specs.Prepared.{AreSealedOf, files_of, moves_to}
use Rattle.core_partial.specs.declared.keys.PreparedKey.{PreparedKey}

-- Rows that were made again: the moves of the keys that moved to their rows, in files numbered from 0; where rows of
-- these keys were made before, which are superseded; the rows; and their files.
pub record AgainView : Type 0 where
  pub moves : List CodeMove
  pub stale : List Place
  pub rows : List (List Value)
  pub files : List NewSegment

abbrev pub nothing_again : AgainView
nothing_again = record { moves = []; stale = []; rows = []; files = [] }

-- A prepared partial load: the version at which it was located, its keys, the rows that were made of them and their
-- files, what was made again since, and whether it was used up.
pub record PreparedPartialView : Type 0 where
  pub schema : Layout
  pub load : Load
  pub version : ℕ
  pub keys : List PreparedKey
  pub rows : List (List Value)
  pub files : List NewSegment
  pub again : AgainView
  pub spent : Truth

-- a key with what its lines come to
abbrev pub folded_of : PreparedKey → Folded
folded_of k = record { code = k.code; key = k.key; change = k.change }

-- a key's code with the place at which it was located
abbrev pub located_move : PreparedKey → CodeMove
located_move k = (k.code, k.was)

-- a key's code with the place of its row
abbrev pub made_move : PreparedKey → CodeMove
made_move k = (k.code, k.made)

-- The files hold these rows, and the moves tell where the rows of the keys stand in them, numbered from 0.
pub record AreFilesOf (s : Layout) (keys : List (List Value)) (rows : List (List Value)) (files : List NewSegment)
    (moves : List CodeMove) : Type 0 where
  pub sealed : AreSealedOf s (files_of rows) files
  pub moves_are : moves ≡ code_moves (key_code s) (moves_to s 0 (files_of rows) keys)

-- The rows are those that a load's changes make of the rows of a map, in which no key has a row that was located without
-- a place.
pub record IsMadeOver (s : Layout) (load : Load) (keys : List PreparedKey) (rows : List (List Value)) (m : Rows) : Type 0 where
  pub rows_are : rows ≡ made_rows s load.given m (map folded_of keys)
  pub absent : AllByRecursion (λ k. k.was ≡ None → get m k.key ≡ None) keys

-- the prepared load was made over this map
abbrev pub WasMadeOver : PreparedPartialView → Rows → Type 0
WasMadeOver p m = IsMadeOver p.schema p.load p.keys p.rows m

-- where a book keeps the version at which it was located, it was made over the rows that the version has
abbrev pub WasLocatedIn : Book → PreparedPartialView → Type 0
WasLocatedIn b p = (m : Rows) → rows_at b p.version ≡ Some m → WasMadeOver p m

-- a prepared load that isn't used up: its keys are those that its lines name, with what these come to, and its rows were
-- made over some map
pub record IsPreparedPartial (p : PreparedPartialView) : Type 0 where
  pub lawful : IsLawful p.schema p.load
  pub folds : AreFolded p.schema p.load.given None p.load.ops (map folded_of p.keys)
  pub files : AreFilesOf p.schema (folded_keys (map folded_of p.keys)) p.rows p.files (map made_move p.keys)
  pub made : Rows
  pub first : KeysStandFirst p.schema made
  pub over : WasMadeOver p made
