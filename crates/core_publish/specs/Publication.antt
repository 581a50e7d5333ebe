-- What a prepared load is ready for.
use Rattle.std.specs.Prelude.{◌≡◌, ℕ, ◌+◌, ◌<◌, List, map, Option, Some, None}
use Rattle.std.specs.List.{AllByRecursion}
use Rattle.std.specs.Prelude.{⊤}
use Rattle.std.specs.FinMap.{empty, values}
use Rattle.key_code.specs.KeyCode.{key_code}
use Rattle.column_page.specs.declared.footers.Footer.{Footer}
use Rattle.pk_values.specs.Schemas.{Layout}
use Rattle.pk_values.specs.declared.cells.Value.{Value}
use Rattle.pk_model.specs.Tables.{Rows, after}
use Rattle.pk_model.specs.declared.calls.Load.{Load}
use Rattle.index_level0.specs.declared.place.Place.{Place}
use Rattle.rowsets.specs.Live.{Index, live}
use Rattle.rowsets.specs.Loads.{AreRows}
use Rattle.rowsets.specs.Merging.{all_live, all_rows, numbered}
use Rattle.rowsets.specs.Indexing.{CodeMove, code_moves}
use Rattle.rowsets.specs.Steps.{IsReady}
use Rattle.core_publish.specs.Prepared.{IsPrepared, files_of, fresh, moves_to}

-- the rows of each file of a load
abbrev pub written_files : Layout → Load → List (List (List Value))
written_files s load = files_of (values (after s load empty))

-- they are all the rows that it leaves of no row
abbrev pub AllAreWritten : Type 0
AllAreWritten = (s : Layout) (load : Load) → all_rows (written_files s load) ≡ values (after s load empty)

-- A prepared load is ready for every map whose rows fit and every index, whatever numbers its files get: its keys are looked up, and its moves lead to
-- its rows.
abbrev pub PreparedIsReady : Type 0
PreparedIsReady = (s : Layout) (load : Load) (files : List (Option (List ℕ) × Footer)) (entries : List CodeMove) (prepared : IsPrepared s load files entries)
    (first : ℕ) (m : Rows) (index : Index) → AreRows s m
    → IsReady s load m index (live (fresh first (written_files s load)) (map all_live (numbered first (written_files s load))))
    prepared.moves.keys (moves_to s first (written_files s load) prepared.moves.keys)

-- a place whose file is numbered from `first` on
abbrev pub placed_from : ℕ → Option Place → Option Place
placed_from first None = None
placed_from first (Some p) = Some (record { segment = p.segment + first; row = p.row })

abbrev pub entry_from : ℕ → CodeMove → CodeMove
entry_from first e = (e.0, placed_from first e.1)

-- the entries tell the moves, once their places are those of files with these numbers
abbrev pub EntriesAreMoves : Type 0
EntriesAreMoves = (s : Layout) (load : Load) (files : List (Option (List ℕ) × Footer)) (entries : List CodeMove) (prepared : IsPrepared s load files entries)
    (first : ℕ) → map (entry_from first) entries ≡ code_moves (key_code s) (moves_to s first (written_files s load) prepared.moves.keys)

-- a load has at most four files, and its entries name no other
abbrev pub IsInFour : Option Place → Type 0
IsInFour None = ⊤
IsInFour (Some p) = p.segment < 4

abbrev pub EntriesAreInFour : Type 0
EntriesAreInFour = (s : Layout) (load : Load) (files : List (Option (List ℕ) × Footer)) (entries : List CodeMove) → IsPrepared s load files entries
    → AllByRecursion (λ e. IsInFour e.1) entries
