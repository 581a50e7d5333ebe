-- What the old rows of keys are read as, of a snapshot.
use Rattle.std.specs.Prelude.{◌≡◌, ◌⊎◌, ℕ, ◌+◌, ◌-◌, ◌^◌, ◌/◌, ◌%◌, ◌<◌, ◌≤◌, min, List, map, length, Option, Some, true, false, ◌==◌, slice_get, All, IsTrue, Result, IsErrOf}
use Rattle.std.specs.List.{list_any, AllByRecursion}
use Rattle.dev_traits.specs.Causes.{Counts}
use Rattle.dev_traits.specs.declared.faults.Damaged.{Damaged}
use Rattle.dev_traits.specs.declared.faults.ReadFault.{ReadFault}
use Rattle.dev_traits.specs.declared.faults.ReadFault.TheVariants as read
use Rattle.pk_values.specs.Schemas.{Layout, fits_row, key_of}
use Rattle.pk_values.specs.declared.cells.Value.{Value}
use Rattle.index_level0.specs.declared.place.Place.{Place}
use Rattle.dev_traits.specs.declared.faults.Part.TheVariants as part
use Rattle.dev_traits.specs.declared.faults.Shown.TheVariants as shown
use Rattle.rowsets.specs.Live.{Files, FilesOnce, HasKey, Live, Part, live}
use Rattle.rowsets.specs.Scans.{Piece}
use Rattle.segment_read.specs.Blocks.{AreTheRows}
use Rattle.segment_read.specs.Reads.{OfBlock, OfFile, block_in}
use Rattle.snapshot_scan.specs.Parts.{IsPieceOf, PartView}
use Rattle.snapshot_scan.specs.Scans.{IsBlockDamage}
use Rattle.snapshot_scan.specs.Snapshots.{SnapshotView}
use Rattle.partial_loads.specs.declared.folds.Folded.{Folded}
use Rattle.rowsets.specs.Indexing.{CodeMove}
use Rattle.old_rows.specs.Wanted.{AreWanted, Block, BlocksRise, asked, block_of, blocks_in}
use Rattle.old_rows.specs.declared.wanted.Wanted.{Wanted}

-- ---- what a snapshot tells

-- a part as a version names it
abbrev pub part_seen : PartView → Part
part_seen p = record { file = p.number; dead = p.dead }

-- each part's reader tells the file of these rows
abbrev pub AreTold : Layout → Files → List PartView → Type 0
AreTold s stored parts = AllByRecursion (λ p. IsPieceOf s p (record { rows = stored p.number; dead = p.dead })) parts

-- a part, whatever its reader counted
abbrev pub still : PartView → PartView
still p = record p { reader = record p.reader { faults = 0; reads = 0 } }

-- the same snapshot, whatever its readers counted
pub record SameButCounts (old new : SnapshotView) : Type 0 where
  pub version : new.version ≡ old.version
  pub schema : new.schema ≡ old.schema
  pub parts : map still new.parts ≡ map still old.parts

-- the live rows at the places of a snapshot whose files have these rows
abbrev pub live_at : Files → SnapshotView → Live
live_at stored v = live stored (map part_seen v.parts)

-- the readers tell files of these rows, no file twice
pub record TellsRows (v : SnapshotView) (stored : Files) : Type 0 where
  pub told : AreTold v.schema stored v.parts
  pub once : FilesOnce (map part_seen v.parts)

-- The row in a place of a part, which isn't dead: where the reader tells, the bytes of its block are those of rows among
-- which it stands there.
pub record StandsIn (s : Layout) (part : PartView) (p : Place) (row : List Value) : Type 0 where
  pub block : p.row / 1024 < length part.footer.blocks
  pub lives : list_any (λ r. r == p.row) part.dead ≡ false
  pub bytes : OfFile part.reader (λ file. OfBlock part.footer (p.row / 1024) (λ mark. (rows : List (List Value))
      × AreTheRows s mark (block_in file mark) rows × (slice_get rows (p.row % 1024) ≡ Some row)))

-- the row at a place of a snapshot: that in this place of a part of its file
pub record StandsAt (v : SnapshotView) (p : Place) (row : List Value) : Type 0 where
  pub i : ℕ
  pub part : PartView
  pub there : slice_get v.parts i ≡ Some part
  pub file : part.number ≡ p.segment
  pub stands : StandsIn v.schema part p row

-- a row that fits and has this key, and stands at this place; and where the readers tell rows, it is the live one there
pub record IsOldRow (v : SnapshotView) (p : Place) (key row : List Value) : Type 0 where
  pub stands : StandsAt v p row
  pub fits : IsTrue (fits_row v.schema row)
  pub key_is : key_of v.schema row ≡ key
  pub lives : (stored : Files) → TellsRows v stored → live_at stored v p ≡ Some row

-- ---- old rows of keys

abbrev pub Olds : Type 0
Olds = List (Option (List Value))

-- the row is an old one of a key that was wanted, at its place
pub record IsWantedRow (v : SnapshotView) (done : List Wanted) (i : ℕ) (key row : List Value) : Type 0 where
  pub wanted : Wanted
  pub at : ℕ
  pub among : slice_get done at ≡ Some wanted
  pub of_key : wanted.key ≡ i
  pub old : IsOldRow v wanted.place key row

-- Each key has one old row or none. Those that there are are the keys' rows at the places at which they were wanted, and
-- each wanted one is there.
pub record AreFilled (v : SnapshotView) (keys : List Folded) (done : List Wanted) (olds : Olds) : Type 0 where
  pub long : length olds ≡ length keys
  pub good : (i : ℕ) (f : Folded) (row : List Value) → slice_get keys i ≡ Some f → slice_get olds i ≡ Some (Some row)
      → IsWantedRow v done i f.key row
  pub full : AllByRecursion (λ w. (row : List Value) × (slice_get olds w.key ≡ Some (Some row))) done

-- these keys are there
abbrev pub HaveKeys : List Folded → List Wanted → Type 0
HaveKeys keys wanted = All (λ w. w.key < length keys) wanted

-- ---- damage

-- the index is damaged
abbrev pub index_damage : Damaged
index_damage = record { file = 0; part = part.Area 2; shown = shown.Form }

-- a row of another key stands at a place of a part, or none, as the bytes of its block tell where the reader tells them
abbrev pub HasNoneAt : Layout → PartView → Place → List Value → Type 0
HasNoneAt s part p key = OfFile part.reader (λ file. OfBlock part.footer (p.row / 1024) (λ mark.
    (rows : List (List Value)) × AreTheRows s mark (block_in file mark) rows
    × ((row : List Value) → slice_get rows (p.row % 1024) ≡ Some row → key_of s row ≡ key → ⊥)))

-- no live row of a key stands at a place of a part: the file has fewer rows, or the row there is dead, or another key's
abbrev pub IsWrongIn : Layout → PartView → Place → List Value → Type 0
IsWrongIn s part p key = (part.footer.rows ≤ p.row) ⊎ (list_any (λ r. r == p.row) part.dead ≡ true) ⊎ HasNoneAt s part p key

-- a place is wrong for a key: no part is of its file, or in one that is no live row of the key stands there
abbrev pub IsWrongPlace : SnapshotView → Place → List Value → Type 0
IsWrongPlace v p key = ((i : ℕ) (part : PartView) → slice_get v.parts i ≡ Some part → part.number ≡ p.segment → ⊥)
    ⊎ ((i : ℕ) × (part : PartView) × (slice_get v.parts i ≡ Some part) × (part.number ≡ p.segment) × IsWrongIn v.schema part p key)

-- The index names for a key a place where no live row of the key stands.
pub record IsLost (v : SnapshotView) (keys : List Folded) (wanted : List Wanted) (d : Damaged) : Type 0 where
  pub told : d ≡ index_damage
  pub at : ℕ
  pub row : Wanted
  pub among : slice_get wanted at ≡ Some row
  pub key : Folded
  pub is : slice_get keys row.key ≡ Some key
  pub wrong : IsWrongPlace v row.place key.key
  pub lost : (stored : Files) → TellsRows v stored → HasKey v.schema (live_at stored v) row.place key.key → ⊥

-- a block in which a wanted row stands is damaged, and its file isn't one of rows
pub record IsBroken (v : SnapshotView) (wanted : List Wanted) (d : Damaged) : Type 0 where
  pub i : ℕ
  pub part : PartView
  pub there : slice_get v.parts i ≡ Some part
  pub at : ℕ
  pub row : Wanted
  pub among : slice_get wanted at ≡ Some row
  pub file : part.number ≡ row.place.segment
  pub damage : IsBlockDamage v.schema part (row.place.row / 1024) d
  pub none : (piece : Piece) → IsPieceOf v.schema part piece → ⊥

abbrev pub IsReadingDamage : SnapshotView → List Folded → List Wanted → Damaged → Type 0
IsReadingDamage v keys wanted d = IsLost v keys wanted d ⊎ IsBroken v wanted d

-- ---- counts

-- one more is counted, in any sum that it is a part of, as far as a u64 goes
abbrev pub OneMore : ℕ → ℕ → Type 0
OneMore old new = (more : ℕ) → Counts 1 (min (more + old) (2 ^ 64 - 1)) (min (more + new) (2 ^ 64 - 1))

-- a fault of a reader is counted once, and nothing else is
pub record ReadsCause {T : Type 0} (old new : ℕ) (result : Result T ReadFault) : Type 0 where
  pub well : ¬ IsErrOf result read.StoreFault → new ≡ old
  pub failed : IsErrOf result read.StoreFault → OneMore old new

-- of each part at most these blocks were read
pub record ReadBlocks (blocks : List Block) (old new : List PartView) : Type 0 where
  pub long : length new ≡ length old
  pub each : (i : ℕ) (part now : PartView) → slice_get old i ≡ Some part → slice_get new i ≡ Some now
      → now.reader.reads ≤ part.reader.reads + blocks_in part.number blocks

-- ---- old rows that were asked for

-- The old rows of keys: none where the key's change doesn't ask for one, or the key has no place; else the row at its
-- place.
pub record AreOldsRead (v : SnapshotView) (keys : List Folded) (located : List CodeMove) (olds : Olds) : Type 0 where
  pub long : length olds ≡ length keys
  pub good : (i : ℕ) (f : Folded) (e : CodeMove) (row : List Value) → slice_get keys i ≡ Some f → slice_get located i ≡ Some e
      → slice_get olds i ≡ Some (Some row) → (p : Place) × (asked f e ≡ Some p) × IsOldRow v p f.key row
  pub all : (i : ℕ) (f : Folded) (e : CodeMove) (p : Place) → slice_get keys i ≡ Some f → slice_get located i ≡ Some e
      → asked f e ≡ Some p → (row : List Value) × (slice_get olds i ≡ Some (Some row))

-- one of the rows that are asked for isn't there, or its block is damaged
pub record TellsReadDamage (v : SnapshotView) (keys : List Folded) (located : List CodeMove) (d : Damaged) : Type 0 where
  pub wanted : List Wanted
  pub are : AreWanted keys located (length keys) wanted
  pub damage : IsReadingDamage v keys wanted d

-- The blocks that were read, each once: in each stands a row that is asked for, and of each part no more were read.
pub record ReadsAsked (keys : List Folded) (located : List CodeMove) (old new : List PartView) : Type 0 where
  pub blocks : List Block
  pub once : BlocksRise blocks
  pub asked_for : All (λ b. (i : ℕ) × (f : Folded) × (e : CodeMove) × (p : Place) × (slice_get keys i ≡ Some f)
      × (slice_get located i ≡ Some e) × (asked f e ≡ Some p) × (block_of p ≡ b)) blocks
  pub read : ReadBlocks blocks old new

-- none of so many
pub record HasNoOlds (count : ℕ) (olds : Olds) : Type 0 where
  pub long : length olds ≡ count
  pub none : (i : ℕ) (row : List Value) → slice_get olds i ≡ Some (Some row) → ⊥
