-- What preparing a partial load reads and makes of what was found, and what it may tell.
use Rattle.std.specs.Prelude.{◌≡◌, ℕ, List, map, Option, Some, None, All, IsTrue, true, ⊤}
use Rattle.dev_traits.specs.declared.faults.Damaged.{Damaged}
use Rattle.dev_traits.specs.declared.faults.OutsideFault.{OutsideFault}
use Rattle.dev_traits.specs.declared.faults.OutsideFault.TheVariants as outside
use Rattle.key_code.specs.KeyCode.{key_code}
use Rattle.pk_values.specs.Schemas.{Layout, fits_row}
use Rattle.pk_values.specs.declared.cells.Value.{Value}
use Rattle.pk_model.specs.Laws.{KeysStandFirst}
use Rattle.pk_model.specs.Lawful.{IsLawful}
use Rattle.pk_model.specs.Tables.{Rows, touches}
use Rattle.pk_model.specs.declared.calls.Op.{Op}
use Rattle.index_level0.specs.declared.place.Place.{Place}
use Rattle.rowsets.specs.Live.{is_among}
use Rattle.rowsets.specs.Indexing.{CodeMove, code_moves, place_stored}
use Rattle.snapshot_scan.specs.Snapshots.{SnapshotView}
use Rattle.segment_form.specs.Segments.{KeysRise}
use Rattle.partial_loads.specs.declared.folds.Folded.{Folded}
use Rattle.partial_loads.specs.Folded.{AreFolded, folded_keys}
use Rattle.partial_loads.specs.Folds.{change_at, overlays}
use Rattle.core_publish.specs.Prepared.{files_of, moves_to}
use Rattle.partial_loads.specs.Olds.{made_of as rows_made}
use Rattle.old_rows.specs.Reading.{AreOldsRead, ReadBlocks, TellsReadDamage}
use Rattle.old_rows.specs.Wanted.{Block, BlocksRise, block_of}
use Rattle.core_partial.specs.Found.{FoundView}
use Rattle.core_partial.specs.Prepared.{IsMadeOver, folded_of, located_move, made_move}
use Rattle.core_partial.specs.declared.making.MadeKeys.{MadeKeys}

-- this holds where damage is told
abbrev pub OnOutsideDamage : OutsideFault → (Damaged → Type 0) → Type 0
OnOutsideDamage (outside.Damaged damaged) P = P damaged
OnOutsideDamage outside.Fault P = ⊤
OnOutsideDamage outside.Memory P = ⊤

-- a load with these columns and lines that was located in a snapshot
abbrev pub found_in : List ℕ → List Op → SnapshotView → List CodeMove → FoundView
found_in given ops snapshot located = record { load = record { given = given; ops = ops }; snapshot = snapshot; located = located }

-- The load names this key, its change asks for the old row, and it is located at this place.
pub record AsksFor (f : FoundView) (p : Place) : Type 0 where
  pub key : List Value
  pub named : is_among (touches f.load.ops) key ≡ true
  pub asks : overlays (change_at f.load.given None f.load.ops key) ≡ true
  pub at : place_stored f.located (key_code f.snapshot.schema key) None ≡ Some p

-- The blocks that were read, each once: in each stands an old row that is asked for, and of each part no more were read.
pub record ReadsFound (old new : FoundView) : Type 0 where
  pub blocks : List Block
  pub once : BlocksRise blocks
  pub asked_for : All (λ b. (p : Place) × AsksFor old p × (block_of p ≡ b)) blocks
  pub read : ReadBlocks blocks old.snapshot.parts new.snapshot.parts

-- Over every reader: the rows are made of old rows that were read, of each key the one at its place, and none where its
-- change doesn't ask for one or it has no place.
pub record IsMadeOfRead (f : FoundView) (keys : List Folded) (rows : List (List Value)) : Type 0 where
  pub olds : List (Option (List Value))
  pub read : AreOldsRead f.snapshot keys f.located olds
  pub rows_are : rows ≡ rows_made f.snapshot.schema f.load.given keys olds

-- what reading the old rows of the folded keys may tell as damage
pub record IsFoundDamage (f : FoundView) (d : Damaged) : Type 0 where
  pub keys : List Folded
  pub folds : AreFolded f.snapshot.schema f.load.given None f.load.ops keys
  pub damage : TellsReadDamage f.snapshot keys f.located d

-- The keys of the load with what their lines come to, the places at which they were located, and where the rows stand
-- that are made of them; and these rows were made over some map.
pub record AreFoundKeys (f : FoundView) (made : MadeKeys) : Type 0 where
  pub lawful : IsLawful f.snapshot.schema f.load
  pub folds : AreFolded f.snapshot.schema f.load.given None f.load.ops (map folded_of made.keys.items)
  pub places : map located_move made.keys.items ≡ f.located
  pub fit : All (λ row. IsTrue (fits_row f.snapshot.schema row)) made.results.rows.items
  pub rise : KeysRise f.snapshot.schema made.results.rows.items
  pub moves : map made_move made.keys.items ≡ code_moves (key_code f.snapshot.schema)
      (moves_to f.snapshot.schema 0 (files_of made.results.rows.items) (folded_keys (map folded_of made.keys.items)))
  pub was : Rows
  pub first : KeysStandFirst f.snapshot.schema was
  pub over : IsMadeOver f.snapshot.schema f.load made.keys.items made.results.rows.items was
