-- The footer that a file has, and how it is damaged.
use Rattle.std.specs.Prelude.{◌≡◌, ◌≢◌, ℕ, ◌+◌, ◌<◌, ◌^◌, ◌==◌, ◌&&◌, Bool as Truth, List, [], ◌∷◌, ◌++◌, length, take, drop, All, IsTrue}
use Rattle.sha2.specs.Sha256.{sha256}
use Rattle.dev_traits.specs.declared.faults.Digest.{Digest}
use Rattle.dev_traits.specs.declared.faults.Shown.{Shown}
use Rattle.dev_traits.specs.declared.faults.Shown.TheVariants.{Digests, Form, Absent}
use Rattle.index_file.specs.declared.footers.BucketMark.{BucketMark}
use Rattle.index_file.specs.declared.footers.IndexFooter.{IndexFooter}
use Rattle.index_file.specs.Buckets.{buckets_for, footer_bytes, tail_of, u64_bytes}

-- a digest is kept behind so many bytes, and they have another one
pub record Differs (len : ℕ) (bytes : List ℕ) (kept found : Digest) : Type 0 where
  pub kept_is : kept.bytes ≡ drop len bytes
  pub found_is : found.bytes ≡ sha256 (take len bytes)
  pub differ : kept ≢ found

-- the digests, where they differ
abbrev pub DigestsShown : ℕ → List ℕ → Shown → Type 0
DigestsShown len bytes (Digests kept found) = Differs len bytes kept found
DigestsShown len bytes Form = ⊥
DigestsShown len bytes Absent = ⊥

-- from a place on each bucket, with its digest, begins where the one before it ends, and the last one ends at `end`
abbrev pub stand_until : ℕ → ℕ → List BucketMark → Truth
stand_until end at [] = at == end
stand_until end at (m ∷ ms) = (m.place == at) && stand_until end (at + m.length + 32) ms

abbrev pub MarkFits : BucketMark → Type 0
MarkFits m = (m.place < 2 ^ 64) × (m.length < 2 ^ 64)

-- the numbers of a footer fit their fields
pub record FooterFits (f : IndexFooter) : Type 0 where
  pub entries : f.entries < 2 ^ 64
  pub number : length f.buckets < 2 ^ 64
  pub marks : All MarkFits f.buckets

-- the footer of a file whose buckets end at a place: one bucket for each 32 entries, which stand one after the other
pub record IsFooter (f : IndexFooter) (end : ℕ) : Type 0 where
  pub fits : FooterFits f
  pub number : length f.buckets ≡ buckets_for f.entries
  pub stand : IsTrue (stand_until end 0 f.buckets)

-- the footer stands behind the buckets, and its length ends the file
pub record HasFooter (f : IndexFooter) (file : List ℕ) : Type 0 where
  pub buckets : List ℕ
  pub is : IsFooter f (length buckets)
  pub short : length (footer_bytes f) < 2 ^ 64
  pub split : file ≡ buckets ++ tail_of f

-- a file ends with a body, 32 bytes for its digest, and the length of both
pub record HasTail (file body digest : List ℕ) : Type 0 where
  pub front : List ℕ
  pub split : file ≡ front ++ (body ++ (digest ++ u64_bytes (length body + 32)))
  pub is_long : length digest ≡ 32
  pub is_short : length body + 32 < 2 ^ 64

-- the digest that is kept isn't that of the body before it
pub record TailDiffers (file : List ℕ) (kept found : Digest) : Type 0 where
  pub body : List ℕ
  pub tail : HasTail file body kept.bytes
  pub found_is : found.bytes ≡ sha256 body
  pub differ : kept ≢ found

-- the body has the digest that is kept behind it, if there are such, and the file has no footer
pub record HasNoFooter (file : List ℕ) : Type 0 where
  pub agree : (body digest : List ℕ) → HasTail file body digest → digest ≡ sha256 body
  pub none : (f : IndexFooter) → HasFooter f file → ⊥

-- how the footer of a file is damaged
abbrev pub FooterShown : List ℕ → Shown → Type 0
FooterShown file (Digests kept found) = TailDiffers file kept found
FooterShown file Form = HasNoFooter file
FooterShown file Absent = ⊥

-- ---- the footer between the place where the buckets end and its length

pub record IsFooterAt (at : ℕ) (bytes : List ℕ) (f : IndexFooter) : Type 0 where
  pub is : IsFooter f at
  pub written : footer_bytes f ≡ bytes

pub record IsTheFooter (at : ℕ) (bytes : List ℕ) (f : IndexFooter) : Type 0 where
  pub is : IsFooterAt at bytes f
  pub only : (other : IndexFooter) → IsFooterAt at bytes other → f ≡ other

-- the bytes but the last 32 have these for a digest, and no footer has them
pub record IsNoFooter (at len : ℕ) (bytes : List ℕ) : Type 0 where
  pub agree : drop len bytes ≡ sha256 (take len bytes)
  pub none : (f : IndexFooter) → IsFooterAt at bytes f → ⊥

abbrev pub TailShown : ℕ → ℕ → List ℕ → Shown → Type 0
TailShown at len bytes (Digests kept found) = Differs len bytes kept found
TailShown at len bytes Form = IsNoFooter at len bytes
TailShown at len bytes Absent = ⊥
