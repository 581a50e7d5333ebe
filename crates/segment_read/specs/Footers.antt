-- The footer that a file has, and how it is damaged.
use Rattle.std.specs.Prelude.{◌≡◌, ◌≢◌, ℕ, ◌+◌, ◌≤◌, List, [], ◌∷◌, ◌++◌, length, take, drop}
use Rattle.sha2.specs.Sha256.{sha256}
use Rattle.pk_values.specs.Schemas.{Layout}
use Rattle.column_page.specs.Footers.{footer_bytes, u32_bytes}
use Rattle.column_page.specs.FooterReading.{IsSegmentFooter}
use Rattle.column_page.specs.declared.footers.BlockMark.{BlockMark}
use Rattle.column_page.specs.declared.footers.Footer.{Footer}
use Rattle.dev_traits.specs.declared.faults.Digest.{Digest}
use Rattle.dev_traits.specs.declared.faults.Shown.{Shown}
use Rattle.dev_traits.specs.declared.faults.Shown.TheVariants.{Digests, Form, Absent}
use Rattle.segment_form.specs.Segments.{tail_of}
pub use Rattle.segment_form.specs.Segments.{blocks_end}
use Rattle.segment_read.specs.Blocks.{Differs}

-- the footer of a table's file: it stands behind the blocks, and its length ends the file
pub record HasFooter (s : Layout) (f : Footer) (file : List ℕ) : Type 0 where
  pub is : IsSegmentFooter f
  pub columns : f.columns ≡ length s.columns
  pub blocks : List ℕ
  pub ends : length blocks ≡ blocks_end 0 f.blocks
  pub split : file ≡ blocks ++ tail_of f

-- no footer is longer: 64 blocks of 64 columns, each mark with 34 bytes
abbrev pub longest_footer : ℕ
longest_footer = 140337

-- a file ends with a body, 32 bytes for its digest, and the length of both, which is no longer than a footer can be
pub record HasTail (file body digest : List ℕ) : Type 0 where
  pub front : List ℕ
  pub split : file ≡ front ++ (body ++ (digest ++ u32_bytes (length body + 32)))
  pub is_long : length digest ≡ 32
  pub is_short : length body + 32 ≤ longest_footer

-- the digest that is kept isn't that of the body before it
pub record TailDiffers (file : List ℕ) (kept found : Digest) : Type 0 where
  pub body : List ℕ
  pub tail : HasTail file body kept.bytes
  pub found_is : found.bytes ≡ sha256 body
  pub differ : kept ≢ found

-- the body has the digest that is kept behind it, if there are such, and the file has no footer
pub record HasNoFooter (s : Layout) (file : List ℕ) : Type 0 where
  pub agree : (body digest : List ℕ) → HasTail file body digest → digest ≡ sha256 body
  pub none : (f : Footer) → HasFooter s f file → ⊥

-- how the footer of a file is damaged
abbrev pub FooterShown : Layout → List ℕ → Shown → Type 0
FooterShown s file (Digests kept found) = TailDiffers file kept found
FooterShown s file Form = HasNoFooter s file
FooterShown s file Absent = ⊥

-- ---- the footer between the place where the blocks end and its length

pub record IsFooterAt (s : Layout) (at : ℕ) (bytes : List ℕ) (f : Footer) : Type 0 where
  pub is : IsSegmentFooter f
  pub columns : f.columns ≡ length s.columns
  pub ends : blocks_end 0 f.blocks ≡ at
  pub written : footer_bytes f ≡ bytes

pub record IsTheFooter (s : Layout) (at : ℕ) (bytes : List ℕ) (f : Footer) : Type 0 where
  pub is : IsFooterAt s at bytes f
  pub only : (other : Footer) → IsFooterAt s at bytes other → f ≡ other

-- the bytes but the last 32 have these for a digest, and no footer has them
pub record IsNoFooter (s : Layout) (at len : ℕ) (bytes : List ℕ) : Type 0 where
  pub agree : drop len bytes ≡ sha256 (take len bytes)
  pub none : (f : Footer) → IsFooterAt s at bytes f → ⊥

abbrev pub TailShown : Layout → ℕ → ℕ → List ℕ → Shown → Type 0
TailShown s at len bytes (Digests kept found) = Differs len bytes kept found
TailShown s at len bytes Form = IsNoFooter s at len bytes
TailShown s at len bytes Absent = ⊥
