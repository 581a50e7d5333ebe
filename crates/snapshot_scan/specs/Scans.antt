-- A scan under way, and the rows that it has still to give.
use Rattle.std.specs.Prelude.{◌≡◌, ◌≢◌, ◌⊎◌, ℕ, ◌+◌, ◌*◌, ◌-◌, ◌<◌, ◌≤◌, List, [], ◌∷◌, ◌++◌, Option, Some, None, length, drop, map, slice_get, slice_set, false, ◌==◌, IfSome, IfNone, IfOk, IfErr, Result}
use Rattle.std.specs.List.{list_any}
use Rattle.pk_values.specs.Schemas.{Layout}
use Rattle.pk_values.specs.declared.cells.Value.{Value}
use Rattle.dev_traits.specs.declared.faults.ReadFault.{ReadFault}
use Rattle.dev_traits.specs.declared.faults.ReadFault.TheVariants as read
use Rattle.dev_traits.specs.Reader.{ReaderView}
use Rattle.dev_traits.specs.declared.faults.Damaged.{Damaged}
use Rattle.dev_traits.specs.declared.faults.Part.TheVariants as place
use Rattle.segment_read.specs.Blocks.{BlockShown}
use Rattle.segment_read.specs.Reads.{block_in, HasFailed, IsDamage, MayHaveRead, OfBlock, OfFile, OnDamage, Reading}
use Rattle.rowsets.specs.Scans.{Piece, live_rows}
use Rattle.row_merge.specs.Brackets.{end, IsStale, start}
use Rattle.row_merge.specs.declared.brackets.Bracket.{Bracket}
use Rattle.row_merge.specs.Cursors.{CursorView, Fit, front_at}
use Rattle.row_merge.specs.Merge.{merge_all}
use Rattle.snapshot_scan.specs.Parts.{IsWhole, PartView, IsPieceOf, live_from, read_by, ToldOfNoPiece}
use Rattle.snapshot_scan.specs.Snapshots.{ArePieces, fault_count, read_count, ReadsPart, SnapshotView}

-- the snapshot, where the scan stands in each of its parts, and the fault that ended it
pub record ScanView : Type 0 where
  pub snapshot : SnapshotView
  pub cursors : List CursorView
  pub fault : Option ReadFault

-- the live rows of a part from the next block on
abbrev pub rows_ahead : Option ℕ → Piece → List (List Value)
rows_ahead None piece = []
rows_ahead (Some b) piece = live_from b piece

-- the rows that each part has left
abbrev pub rows_left : List CursorView → List Piece → List (List (List Value))
rows_left [] pieces = []
rows_left (c ∷ cs) [] = []
rows_left (c ∷ cs) (piece ∷ pieces) = (c.rows ++ rows_ahead c.ahead piece) ∷ rows_left cs pieces

-- the parts' files hold pieces, and these are all rows that they have left, in the order of keys
pub record AreToCome (v : ScanView) (rows : List (List Value)) : Type 0 where
  pub pieces : List Piece
  pub told : ArePieces v.snapshot.schema v.snapshot.parts pieces
  pub merged : rows ≡ merge_all v.snapshot.schema (rows_left v.cursors pieces)

-- no row of part i is at hand, and its block b has to be read before the next row can be told
abbrev pub IsDue : List CursorView → ℕ → ℕ → Type 0
IsDue cursors i b = slice_get cursors i ≡ Some (record { rows = []; ahead = Some b })

-- no block has to be read before the next row can be told
abbrev pub NoneDue : List CursorView → Type 0
NoneDue cursors = (i b : ℕ) → IsDue cursors i b → ⊥

-- what a call gives of the rows to come, and what holds of the others then
abbrev pub Gives : Option (List Value) → List (List Value) → (List (List Value) → Type 0) → Type 0
Gives None rows Then = (rows ≡ []) × Then []
Gives (Some row) rows Then = (rest : List (List Value)) × (rows ≡ row ∷ rest) × Then rest

-- want of memory is forgotten, and any other fault is kept
abbrev pub IsKept : ReadFault → Option ReadFault → Type 0
IsKept read.StoreFault kept = kept ≡ Some read.StoreFault
IsKept (read.Damaged damaged) kept = kept ≡ Some (read.Damaged damaged)
IsKept read.Memory kept = kept ≡ None

-- where a reader's failure is told, it was counted
abbrev pub IsCounted : List PartView → ReadFault → Type 0
IsCounted parts fault = fault ≡ read.StoreFault → 1 ≤ fault_count parts

-- a row of block b is live, in a file with so many rows
pub record HasLive (rows : ℕ) (dead : List ℕ) (b : ℕ) : Type 0 where
  pub row : ℕ
  pub from : b * 1024 ≤ row
  pub within : row < b * 1024 + 1024
  pub there : row < rows
  pub live : list_any (λ d. d == row) dead ≡ false

-- the rows at hand fit the table, and the next block has a live row
abbrev pub IsCursor : Layout → PartView → CursorView → Type 0
IsCursor s part c = Fit s c × IfSome c.ahead (HasLive part.footer.rows part.dead)

-- a cursor for each part
pub record AreCursors (v : SnapshotView) (cursors : List CursorView) : Type 0 where
  pub long : length cursors ≡ length v.parts
  pub each : (i : ℕ) (part : PartView) (c : CursorView) → slice_get v.parts i ≡ Some part → slice_get cursors i ≡ Some c → IsCursor v.schema part c

-- a block of this part isn't due
abbrev pub IsSettled : List CursorView → ℕ → Type 0
IsSettled cursors i = (b : ℕ) → IsDue cursors i b → ⊥

-- the damage of block b of a part
abbrev pub IsBlockDamage : Layout → PartView → ℕ → Damaged → Type 0
IsBlockDamage s part b = IsDamage part.number (place.Block b) (λ shown. OfFile part.reader (λ file. OfBlock part.footer b (λ mark. BlockShown s mark (block_in file mark) shown)))

-- block b of a part was read, by one read, and the cursor stands at its live rows, of which there is one
pub record ReadOn (s : Layout) (part : PartView) (b : ℕ) (reader : ReaderView) (result : Result CursorView ReadFault) : Type 0 where
  pub reading : Reading 1 part.reader reader result
  pub within : b < length part.footer.blocks
  pub onward : IfOk result (λ c. IfSome c.ahead (λ next. b < next))
  pub cursor : IfOk result (IsCursor s part)
  pub some : IfOk result (λ c. c.rows ≡ [] → ⊥)
  pub rows : IfOk result (λ c. (piece : Piece) → IsPieceOf s part piece → c.rows ++ rows_ahead c.ahead piece ≡ live_from b piece)
  pub damaged : IfErr result (λ e. OnDamage e (IsBlockDamage s part b))
  pub intact : IfErr result (ToldOfNoPiece s part)
  pub whole : IfOk result (λ _. IsWhole s part b)

-- the block of part i that is due was read, by one read, as the rows that its bytes stand for, and nothing else; why not, if it wasn't
abbrev pub ReadsDue : {T : Type 0} → Layout → ℕ → ℕ → List PartView → List PartView → Result T ReadFault → Type 0
ReadsDue s i b old new result = ReadsPart i old new (λ part reader.
    Reading 1 part.reader reader result × IfErr result (λ e. OnDamage e (IsBlockDamage s part b)) × IfOk result (λ _. IsWhole s part b))

-- a bracket of all cursors, but for the matches of one part
pub record IsPlayed (s : Layout) (cursors : List CursorView) (last : ℕ) (bracket : Bracket) : Type 0 where
  pub there : last < length cursors
  pub stale : IsStale s (front_at cursors) (length cursors) last bracket
  pub from : start bracket ≡ 0
  pub to : end bracket ≡ length cursors

-- the first row of cursor i was taken, if it had one
pub record Taken (old : List CursorView) (i : ℕ) (new : List CursorView) : Type 0 where
  pub cursor : CursorView
  pub there : slice_get old i ≡ Some cursor
  pub now : new ≡ slice_set old i (record { rows = drop 1 cursor.rows; ahead = cursor.ahead })

-- The cursors of a scan, of which no block is due but of the part that gave the last row; a bracket of them, unless there
-- is no part; and a fault that lasts, if there was one.
pub record IsScanning (v : SnapshotView) (cursors : List CursorView) (bracket : Option Bracket) (last : ℕ) (fault : Option ReadFault) : Type 0 where
  pub are : AreCursors v cursors
  pub settled : (i : ℕ) → (i ≡ last → ⊥) → IsSettled cursors i
  pub played : IfSome bracket (IsPlayed v.schema cursors last)
  pub empty : IfNone bracket (cursors ≡ [])
  pub lasts : IfSome fault (λ e. IsKept e fault)
  pub counted : IfSome fault (IsCounted v.parts)

-- each part with its reader as it is after calls that did so much
pub record ReadsEach (old new : List PartView) (Did : ReaderView → ReaderView → Type 0) : Type 0 where
  pub long : length new ≡ length old
  pub each : (i : ℕ) (part : PartView) → slice_get old i ≡ Some part → (reader : ReaderView) × (slice_get new i ≡ Some (read_by reader part)) × Did part.reader reader

-- each reader was read at most once
abbrev pub ReadsOnce : List PartView → List PartView → Type 0
ReadsOnce old new = ReadsEach old new (MayHaveRead 1)

-- a part failed when its first block with a live row was read
pub record PartFailed (s : Layout) (fault : ReadFault) (old new : List PartView) : Type 0 where
  pub i : ℕ
  pub part : PartView
  pub there : slice_get old i ≡ Some part
  pub reader : ReaderView
  pub now : slice_get new i ≡ Some (read_by reader part)
  pub failed : HasFailed 1 part.reader reader fault
  pub block : ℕ
  pub live : HasLive part.footer.rows part.dead block
  pub damaged : OnDamage fault (IsBlockDamage s part block)

-- why a scan didn't begin: a part failed, or memory was wanted
pub record ScanFailed (s : Layout) (fault : ReadFault) (old new : List PartView) : Type 0 where
  pub reads : ReadsEach old new (λ before now. MayHaveRead 1 before now ⊎ HasFailed 1 before now fault)
  pub cause : (fault ≢ read.Memory) → PartFailed s fault old new

-- how many blocks there are
abbrev pub block_count : List PartView → ℕ
block_count [] = 0
block_count (part ∷ parts) = length part.footer.blocks + block_count parts

-- of so many blocks those from the next one on
abbrev pub blocks_ahead : Option ℕ → ℕ → ℕ
blocks_ahead None n = 0
blocks_ahead (Some b) n = n - b

abbrev pub blocks_left : List PartView → List CursorView → ℕ
blocks_left [] cursors = 0
blocks_left (part ∷ parts) [] = 0
blocks_left (part ∷ parts) (c ∷ cursors) = blocks_ahead c.ahead (length part.footer.blocks) + blocks_left parts cursors

-- the reads that were made, and those that it takes at most to read each block that is left once
abbrev pub reads_in_all : List PartView → List CursorView → ℕ
reads_in_all parts cursors = read_count parts + blocks_left parts cursors

-- the readers tell the same files, and the parts have the same rows left
abbrev pub KeepsLeft : SnapshotView → List CursorView → SnapshotView → List CursorView → Type 0
KeepsLeft old cursors now new =
    (pieces : List Piece) → ArePieces old.schema old.parts pieces
    → ArePieces now.schema now.parts pieces × (rows_left new pieces ≡ rows_left cursors pieces)

-- the readers tell the same files, and all their live rows are left
abbrev pub LeavesAll : SnapshotView → SnapshotView → List CursorView → Type 0
LeavesAll old now new =
    (pieces : List Piece) → ArePieces old.schema old.parts pieces
    → ArePieces now.schema now.parts pieces × (rows_left new pieces ≡ map live_rows pieces)

-- damage isn't told where the files hold pieces
abbrev pub ToldOfNoPieces : SnapshotView → ReadFault → Type 0
ToldOfNoPieces v fault = OnDamage fault (λ damaged. (pieces : List Piece) → ArePieces v.schema v.parts pieces → ⊥)

-- of what is left the first row is given, and then the others are left
abbrev pub GivesLeft : Layout → List CursorView → Option (List Value) → List CursorView → Type 0
GivesLeft s old row new =
    (pieces : List Piece) → length pieces ≡ length old
    → Gives row (merge_all s (rows_left old pieces)) (λ rest. rest ≡ merge_all s (rows_left new pieces))

-- the cursor has all these rows of the part's file at hand and ahead
abbrev pub HasLeft : Layout → PartView → (Piece → List (List Value)) → CursorView → Type 0
HasLeft s part rows c = (piece : Piece) → IsPieceOf s part piece → c.rows ++ rows_ahead c.ahead piece ≡ rows piece

-- a scan that was begun takes at most one read for each block
abbrev pub ReadsAllOnce : List PartView → List PartView → List CursorView → Type 0
ReadsAllOnce old now cursors = reads_in_all now cursors ≤ read_count old + block_count old
