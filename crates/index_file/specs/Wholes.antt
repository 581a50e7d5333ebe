-- The buckets of a file that were found whole.
use Rattle.std.specs.Prelude.{◌≡◌, ◌⊎◌, ℕ, Bool as Truth, true, false, List, [], length, get_or, Option, Some, None}
use Rattle.dev_traits.specs.Reader.{ReaderView}
use Rattle.index_file.specs.declared.footers.IndexFooter.{IndexFooter}
use Rattle.index_file.specs.Buckets.{Pair}
use Rattle.index_file.specs.Entries.{IsTheBucket}
use Rattle.index_file.specs.Reads.{bucket_in, OfBucket, OnFile}

-- where the reader tells its bytes, bucket b is one: entries have its bytes, with their digest
abbrev pub IsWhole : ℕ → IndexFooter → ReaderView → ℕ → Type 0
IsWhole base f reader b = OnFile reader (λ file. OfBucket f b (λ mark. (es : List Pair) × IsTheBucket (length f.buckets) b base (bucket_in file mark) es))

-- each bucket with a note is whole
abbrev pub AreWhole : ℕ → IndexFooter → ReaderView → List Truth → Type 0
AreWhole base f reader notes = (b : ℕ) → get_or notes b false ≡ true → IsWhole base f reader b

-- bucket b has a note where it had none, and no other has a note that it had not
abbrev pub AddsNote : ℕ → List Truth → List Truth → Type 0
AddsNote b old new = (i : ℕ) → get_or new i false ≡ true → (i ≡ b) ⊎ (get_or old i false ≡ true)

-- no flags, or these
abbrev pub flags_of : Option (List Truth) → List Truth
flags_of None = []
flags_of (Some flags) = flags
