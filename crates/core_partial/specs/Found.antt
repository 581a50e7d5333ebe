-- What a partial load is located as: the rows of a version, and where the load's keys stand there.
use Rattle.std.specs.Prelude.{◌≡◌, ℕ, ⊤, List, [], ◌∷◌, map, Option, None, true, T}
use Rattle.std.specs.FinMap.{get}
use Rattle.std.specs.List.{AllByRecursion}
use Rattle.key_code.specs.KeyCode.{key_code}
use Rattle.pk_values.specs.Schemas.{Layout}
use Rattle.pk_values.specs.declared.cells.Value.{Value}
use Rattle.pk_model.specs.Lawful.{IsLawful}
use Rattle.pk_model.specs.Tables.{Rows, touches}
use Rattle.pk_model.specs.declared.calls.Load.{Load}
use Rattle.index_level0.specs.declared.place.Place.{Place}
use Rattle.rowsets.specs.Live.{Files, FilesOnce, Live, Part, StandsFor, is_among, live}
use Rattle.rowsets.specs.Indexing.{CodeMap, CodeMove, place_stored}
use Rattle.snapshot_scan.specs.Parts.{IsPieceOf, PartView}
use Rattle.snapshot_scan.specs.Snapshots.{IsSnapshotOf, SnapshotView}
use Rattle.partial_loads.specs.Folded.{rise_strictly}
use Rattle.partial_loads.specs.Lines.{IsShortKey}
use Rattle.partial_loads.specs.Moves.{IsPlaceOf}

-- the load, the snapshot of the version at which it was located, and the code of each key that it names, each once and in
-- the order of the keys, with the place of its live row there, or none
pub record FoundView : Type 0 where
  pub load : Load
  pub snapshot : SnapshotView
  pub located : List CodeMove

-- the codes of the keys that a load names, each once and in the order of the keys
pub record AreKeysOf (s : Layout) (load : Load) (codes : List (List ℕ)) : Type 0 where
  pub keys : List (List Value)
  pub rise : T (rise_strictly keys)
  pub named : (k : List Value) → is_among keys k ≡ is_among (touches load.ops) k
  pub short : AllByRecursion (IsShortKey s) keys
  pub codes_are : codes ≡ map (key_code s) keys

abbrev pub codes_of : List CodeMove → List (List ℕ)
codes_of located = map (λ e. e.0) located

-- a load that the table takes, and its keys
pub record IsLocated (s : Layout) (load : Load) (located : List CodeMove) : Type 0 where
  pub lawful : IsLawful s load
  pub keys : AreKeysOf s load (codes_of located)

-- each code with the place that is stored at it
abbrev pub AreStored : CodeMap → List CodeMove → Type 0
AreStored codes located = AllByRecursion (λ e. e.1 ≡ get codes e.0) located

abbrev pub part_seen : PartView → Part
part_seen p = record { file = p.number; dead = p.dead }

-- each part's file has these rows
abbrev pub AreTold : Layout → Files → List PartView → Type 0
AreTold s stored parts = AllByRecursion (λ p. IsPieceOf s p (record { rows = stored p.number; dead = p.dead })) parts

-- What was located stands for a map: the live rows of the snapshot are the map's, and each key of the load has exactly
-- the place of its live row, if it has one.
pub record IsFoundOf (f : FoundView) (m : Rows) : Type 0 where
  pub snapshot : IsSnapshotOf f.snapshot m
  pub stored : Files
  pub told : AreTold f.snapshot.schema stored f.snapshot.parts
  pub once : FilesOnce (map part_seen f.snapshot.parts)
  pub stands : StandsFor f.snapshot.schema (live stored (map part_seen f.snapshot.parts)) m
  pub places : (k : List Value) → is_among (touches f.load.ops) k ≡ true
      → IsPlaceOf f.snapshot.schema (live stored (map part_seen f.snapshot.parts)) k
      (place_stored f.located (key_code f.snapshot.schema k) None)
