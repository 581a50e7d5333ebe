-- What the bytes of a block are read as, by what the footer tells of it.
use Rattle.std.specs.Prelude.{◌≡◌, ◌≢◌, ℕ, ◌≤◌, List, length, take, drop, slice_get, Some, All, IsTrue, ⊤}
use Rattle.sha2.specs.Sha256.{sha256}
use Rattle.pk_values.specs.Schemas.{Layout, fits_row}
use Rattle.pk_values.specs.declared.cells.Value.{Value}
use Rattle.column_page.specs.declared.footers.BlockMark.{BlockMark}
use Rattle.segment_form.specs.Segments.{block_file, block_mark, KeysRise}
use Rattle.dev_traits.specs.declared.faults.Digest.{Digest}
use Rattle.dev_traits.specs.declared.faults.Shown.{Shown}
use Rattle.dev_traits.specs.declared.faults.Shown.TheVariants.{Digests, Form, Absent}
use Rattle.segment_read.specs.declared.faults.PartFault.{PartFault}
use Rattle.segment_read.specs.declared.faults.PartFault.TheVariants as part

-- 1 to 1,024 rows that fit, with rising keys, which the footer tells of and whose block is these bytes
pub record AreBlockRows (s : Layout) (mark : BlockMark) (bytes : List ℕ) (rows : List (List Value)) : Type 0 where
  pub fit : All (λ row. IsTrue (fits_row s row)) rows
  pub rise : KeysRise s rows
  pub some : 1 ≤ length rows
  pub few : length rows ≤ 1024
  pub told : block_mark s mark.place rows ≡ mark
  pub written : block_file s rows ≡ bytes

-- these rows and no others
pub record AreTheRows (s : Layout) (mark : BlockMark) (bytes : List ℕ) (rows : List (List Value)) : Type 0 where
  pub are : AreBlockRows s mark bytes rows
  pub only : (others : List (List Value)) → AreBlockRows s mark bytes others → rows ≡ others

-- a digest is kept behind so many bytes, and they have another one
pub record Differs (len : ℕ) (bytes : List ℕ) (kept found : Digest) : Type 0 where
  pub kept_is : kept.bytes ≡ drop len bytes
  pub found_is : found.bytes ≡ sha256 (take len bytes)
  pub differ : kept ≢ found

-- the digests, where they differ
abbrev pub DigestsShown : ℕ → List ℕ → Shown → Type 0
DigestsShown len bytes (Digests kept found) = Differs len bytes kept found
DigestsShown len bytes Form = ⊥
DigestsShown len bytes Absent = ⊥

-- the bytes have the digest that is kept behind them, and no rows are their block
pub record IsFormless (s : Layout) (mark : BlockMark) (bytes : List ℕ) : Type 0 where
  pub agree : drop mark.length bytes ≡ sha256 (take mark.length bytes)
  pub none : (rows : List (List Value)) → AreBlockRows s mark bytes rows → ⊥

-- how the bytes of a block are damaged
abbrev pub BlockShown : Layout → BlockMark → List ℕ → Shown → Type 0
BlockShown s mark bytes (Digests kept found) = Differs mark.length bytes kept found
BlockShown s mark bytes Form = IsFormless s mark bytes
BlockShown s mark bytes Absent = ⊥

-- what is told of the damage, where an error is one
abbrev pub OnShown : PartFault → (Shown → Type 0) → Type 0
OnShown (part.Damaged shown) P = P shown
OnShown part.Memory P = ⊤

-- the row in a place of the rows of a block
pub record IsRowOf (s : Layout) (mark : BlockMark) (bytes : List ℕ) (place : ℕ) (row : List Value) : Type 0 where
  pub rows : List (List Value)
  pub are : AreTheRows s mark bytes rows
  pub at : slice_get rows place ≡ Some row
