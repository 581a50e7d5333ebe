-- What a snapshot is and what it stands for.
use Rattle.std.specs.Prelude.{◌≡◌, ℕ, ◌+◌, ◌-◌, ◌^◌, ◌<◌, List, [], ◌∷◌, length, slice_get, slice_set, Some, ⊤}
use Rattle.std.specs.List.{AllByRecursion}
use Rattle.pk_values.specs.Schemas.{Layout}
use Rattle.pk_model.specs.Tables.{Rows}
use Rattle.dev_traits.specs.Reader.{ReaderView}
use Rattle.rowsets.specs.Scans.{Piece, AreRowsOf, listed}
use Rattle.snapshot_scan.specs.Parts.{PartView, IsPart, IsPieceOf, read_by}

pub record SnapshotView : Type 0 where
  pub version : ℕ
  pub schema : Layout
  pub parts : List PartView

-- fewer than 2^44 parts
pub record AreParts (s : Layout) (parts : List PartView) : Type 0 where
  pub each : AllByRecursion (IsPart s) parts
  pub few : length parts < 2 ^ 44

-- the parts' files hold these pieces, one each
abbrev pub ArePieces : Layout → List PartView → List Piece → Type 0
ArePieces s [] [] = ⊤
ArePieces s [] (piece ∷ pieces) = ⊥
ArePieces s (part ∷ parts) [] = ⊥
ArePieces s (part ∷ parts) (piece ∷ pieces) = IsPieceOf s part piece × ArePieces s parts pieces

-- the live rows of its parts are the map's rows, and no key stands twice
pub record IsSnapshotOf (v : SnapshotView) (m : Rows) : Type 0 where
  pub pieces : List Piece
  pub told : ArePieces v.schema v.parts pieces
  pub rows : AreRowsOf v.schema (listed pieces) m

-- as many as the files have, less the dead ones
abbrev pub live_count : List PartView → ℕ
live_count [] = 0
live_count (part ∷ parts) = part.footer.rows - length part.dead + live_count parts

abbrev pub fault_count : List PartView → ℕ
fault_count [] = 0
fault_count (part ∷ parts) = part.reader.faults + fault_count parts

abbrev pub read_count : List PartView → ℕ
read_count [] = 0
read_count (part ∷ parts) = part.reader.reads + read_count parts

-- the reader of part i alone has changed, and this is how
pub record ReadsPart (i : ℕ) (old new : List PartView) (How : PartView → ReaderView → Type 0) : Type 0 where
  pub part : PartView
  pub there : slice_get old i ≡ Some part
  pub reader : ReaderView
  pub now : new ≡ slice_set old i (read_by reader part)
  pub how : How part reader
