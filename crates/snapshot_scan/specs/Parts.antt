-- What contracts see of a part of a snapshot: a segment and its dead rows.
use Rattle.std.specs.Prelude.{◌≡◌, ℕ, ◌<◌, ◌*◌, List, Some, drop, take, IsTrue}
use Rattle.std.specs.List.{AllByRecursion}
use Rattle.pk_values.specs.Schemas.{Layout}
use Rattle.pk_values.specs.declared.cells.Value.{Value}
use Rattle.column_page.specs.Footers.{is_footer}
use Rattle.column_page.specs.declared.footers.Footer.{Footer}
use Rattle.dev_traits.specs.Reader.{ReaderView}
use Rattle.dev_traits.specs.declared.faults.ReadFault.{ReadFault}
use Rattle.segment_read.specs.Blocks.{AreTheRows}
use Rattle.segment_read.specs.Reads.{KnowsFooter, OfBlock, OfFile, OnDamage, block_in}
use Rattle.segment_read.specs.Rows.{IsSegmentOf}
use Rattle.segment_read.specs.declared.segments.Segment.{Segment}
use Rattle.rowsets.specs.Scans.{Piece, alive, live_rows}

pub record PartView : Type 0 where
  pub number : ℕ
  pub reader : ReaderView
  pub footer : Footer
  pub dead : List ℕ

abbrev pub seen : {R : Type 0} → (R → ReaderView) → Segment R × List ℕ → PartView
seen view p = record { number = p.0.number; reader = view p.0.reader; footer = p.0.footer; dead = p.1 }

-- where the reader tells, the footer is that of its file; and each dead row is one of the file
pub record IsPart (s : Layout) (part : PartView) : Type 0 where
  pub is : IsTrue (is_footer part.footer)
  pub known : KnowsFooter s part.reader part.footer
  pub within : AllByRecursion (λ r. r < part.footer.rows) part.dead

-- the reader tells the file of these rows, of which the same are dead
pub record IsPieceOf (s : Layout) (part : PartView) (piece : Piece) : Type 0 where
  pub file : List ℕ
  pub told : part.reader.bytes ≡ Some file
  pub is : IsSegmentOf s part.footer file piece.rows
  pub dead : part.dead ≡ piece.dead

-- the part with another reader
abbrev pub read_by : ReaderView → PartView → PartView
read_by reader part = record part { reader = reader }

-- the rows of block b
abbrev pub block_at : ℕ → List (List Value) → List (List Value)
block_at b rows = take 1024 (drop (b * 1024) rows)

-- the live rows of block b, and those from block b on
abbrev pub live_in : ℕ → Piece → List (List Value)
live_in b piece = alive piece.dead (b * 1024) (block_at b piece.rows)

abbrev pub live_from : ℕ → Piece → List (List Value)
live_from b piece = alive piece.dead (b * 1024) (drop (b * 1024) piece.rows)

-- these are the live rows of the part's file, and those of its block b
abbrev pub AreLive : Layout → PartView → List (List Value) → Type 0
AreLive s part rows = (piece : Piece) → IsPieceOf s part piece → rows ≡ live_rows piece

abbrev pub AreLiveIn : Layout → PartView → ℕ → List (List Value) → Type 0
AreLiveIn s part b rows = (piece : Piece) → IsPieceOf s part piece → rows ≡ live_in b piece

-- these are all rows of block b of the part's file, the dead ones among them
abbrev pub AreWrittenIn : Layout → PartView → ℕ → List (List Value) → Type 0
AreWrittenIn s part b rows = (piece : Piece) → IsPieceOf s part piece → rows ≡ block_at b piece.rows

-- where the reader tells, the bytes of block b are those of these rows
abbrev pub IsBlockOf : Layout → PartView → ℕ → List (List Value) → Type 0
IsBlockOf s part b rows = OfFile part.reader (λ file. OfBlock part.footer b (λ mark. AreTheRows s mark (block_in file mark) rows))

-- where the reader tells, the bytes of block b are those of rows
abbrev pub IsWhole : Layout → PartView → ℕ → Type 0
IsWhole s part b = OfFile part.reader (λ file. OfBlock part.footer b (λ mark. (rows : List (List Value)) × AreTheRows s mark (block_in file mark) rows))

-- so it is of all blocks
abbrev pub IsAllWhole : Layout → PartView → Type 0
IsAllWhole s part = OfFile part.reader (λ file. (rows : List (List Value)) × IsSegmentOf s part.footer file rows)

-- damage isn't told where the file holds a piece
abbrev pub ToldOfNoPiece : Layout → PartView → ReadFault → Type 0
ToldOfNoPiece s part fault = OnDamage fault (λ damaged. (piece : Piece) → IsPieceOf s part piece → ⊥)
