-- The codes of the keys of a file's live rows, with the places of these rows.
use Rattle.std.specs.Prelude.{◌≡◌, ◌⊎◌, ℕ, ◌+◌, ◌*◌, ◌<◌, ◌≤◌, ◌==◌, List, [], ◌∷◌, length, slice_get, Some, false, cond}
use Rattle.std.specs.List.{list_any}
use Rattle.pk_values.specs.Schemas.{Layout, key_of}
use Rattle.pk_values.specs.declared.cells.Value.{Value}
use Rattle.key_code.specs.KeyCode.{key_code}
use Rattle.column_page.specs.declared.footers.BlockMark.{BlockMark}
use Rattle.column_page.specs.declared.footers.Footer.{Footer}
use Rattle.dev_traits.specs.Reader.{ReaderView}
use Rattle.dev_traits.specs.declared.faults.Damaged.{Damaged}
use Rattle.dev_traits.specs.declared.faults.Part.TheVariants as part
use Rattle.dev_traits.specs.declared.faults.Shown.{Shown}
use Rattle.dev_traits.specs.declared.faults.Shown.TheVariants.{Form}
use Rattle.pk_model.specs.Lawful.{most_code_bytes}
use Rattle.rowsets.specs.Indexing.{CodeMove}
use Rattle.segment_read.specs.Blocks.{AreTheRows, BlockShown}
use Rattle.segment_read.specs.Reads.{block_in, IsDamage, OfBlock, OfFile}
use Rattle.segment_read.specs.Rows.{IsSegmentOf}

-- the code of a row's key, and the row's place
abbrev pub code_at : Layout → ℕ → ℕ → List Value → CodeMove
code_at s file i row = (key_code s (key_of s row), Some (record { segment = file; row = i }))

-- of the rows of a file from number i on, the codes and places of the live ones
abbrev pub live_codes : Layout → ℕ → List ℕ → ℕ → List (List Value) → List CodeMove
live_codes s file dead i [] = []
live_codes s file dead i (row ∷ rows) = cond (list_any (λ r. r == i) dead) (live_codes s file dead (i + 1) rows) (code_at s file i row ∷ live_codes s file dead (i + 1) rows)

-- a live one of these rows, of which the first has number i, has a key whose code is too long
pub record HasLongCode (s : Layout) (dead : List ℕ) (i : ℕ) (rows : List (List Value)) : Type 0 where
  pub place : ℕ
  pub row : List Value
  pub there : slice_get rows place ≡ Some row
  pub live : list_any (λ r. r == i + place) dead ≡ false
  pub long : most_code_bytes < length (key_code s (key_of s row))

-- block b has a row that isn't dead
pub record HasLive (dead : List ℕ) (rows b : ℕ) : Type 0 where
  pub row : ℕ
  pub from : b * 1024 ≤ row
  pub within : row < b * 1024 + 1024
  pub there : row < rows
  pub live : list_any (λ r. r == row) dead ≡ false

-- the block has rows, and its bytes are theirs
abbrev pub IsWhole : Layout → Footer → List ℕ → ℕ → Type 0
IsWhole s f file b = OfBlock f b (λ mark. (rows : List (List Value)) × AreTheRows s mark (block_in file mark) rows)

-- the block has rows, and the key of a live one of them has a code that is too long
pub record HasLongKey (s : Layout) (dead : List ℕ) (b : ℕ) (mark : BlockMark) (bytes : List ℕ) (shown : Shown) : Type 0 where
  pub form : shown ≡ Form
  pub rows : List (List Value)
  pub are : AreTheRows s mark bytes rows
  pub long : HasLongCode s dead (b * 1024) rows

-- the damage is that of a block with a live row: the block's own, or a key whose code is too long
pub record IsKeyDamage (s : Layout) (f : Footer) (number : ℕ) (dead : List ℕ) (reader : ReaderView) (b : ℕ) (damaged : Damaged) : Type 0 where
  pub there : b < length f.blocks
  pub live : HasLive dead f.rows b
  pub is : IsDamage number (part.Block b) (λ shown. OfFile reader (λ file. OfBlock f b (λ mark.
      BlockShown s mark (block_in file mark) shown ⊎ HasLongKey s dead b mark (block_in file mark) shown))) damaged

abbrev pub IsKeysDamage : Layout → Footer → ℕ → List ℕ → ReaderView → Damaged → Type 0
IsKeysDamage s f number dead reader damaged = (b : ℕ) × IsKeyDamage s f number dead reader b damaged

-- the keys of the live ones of these rows, of which the first has number i, have codes that are short enough
abbrev pub HaveShortCodes : Layout → List ℕ → ℕ → List (List Value) → Type 0
HaveShortCodes s dead i rows = HasLongCode s dead i rows → ⊥

-- the file isn't that of rows whose live ones have short codes
abbrev pub IsNoShortSegment : Layout → Footer → List ℕ → List ℕ → Type 0
IsNoShortSegment s f dead file = (rows : List (List Value)) → IsSegmentOf s f file rows → HaveShortCodes s dead 0 rows → ⊥
