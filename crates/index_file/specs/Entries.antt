-- What the bytes of a bucket are read as, in a file with a base.
use Rattle.std.specs.Prelude.{◌≡◌, ℕ, ◌+◌, ◌^◌, ◌<◌, ◌==◌, ◌&&◌, nat_lt, Bool as Truth, true, List, length, map, take, drop, IsTrue, Some, None, T}
use Rattle.std.specs.List.{AllByRecursion, list_all}
use Rattle.std.specs.FinMap.{entries, is_sorted}
use Rattle.std.specs.Cmp.Lexicographic.{slice_cmp}
use Rattle.std.specs.Ordering.{nat_cmp}
use Rattle.sha2.specs.Sha256.{sha256}
use Rattle.dev_traits.specs.Reader.{ReaderView}
use Rattle.dev_traits.specs.declared.faults.Shown.{Shown}
use Rattle.dev_traits.specs.declared.faults.Shown.TheVariants.{Digests, Form, Absent}
use Rattle.index_level0.specs.Levels.{Entry, Level}
use Rattle.index_file.specs.declared.footers.IndexFooter.{IndexFooter}
use Rattle.index_file.specs.Buckets.{LevelFits, Pair, PairFits, bucket_file, bucket_of, footer_of, index_file}
use Rattle.index_file.specs.Footers.{Differs}

-- a place counted from a base; a tombstone stays one
abbrev pub with_base : ℕ → Entry → Entry
with_base base None = None
with_base base (Some place) = Some (record { segment = base + place.segment; row = place.row })

abbrev pub pair_with_base : ℕ → Pair → Pair
pair_with_base base e = (e.0, with_base base e.1)

-- the segment's number and the base have a sum in a u64
abbrev pub sum_fits : ℕ → Entry → Truth
sum_fits base None = true
sum_fits base (Some place) = nat_lt (base + place.segment) (2 ^ 64)

-- each of these entries has such a sum
abbrev pub sums_fit : ℕ → List Pair → Truth
sums_fit base es = list_all (λ e. sum_fits base e.1) es

-- an entry of a bucket: its key has the bucket's hash, and its sum fits
abbrev pub belongs : ℕ → ℕ → ℕ → Pair → Truth
belongs buckets b base e = (bucket_of buckets e.0 == b) && sum_fits base e.1

-- entries whose keys rise, all of them of this bucket among so many, whose bytes these are
pub record IsBucketOf (buckets b base : ℕ) (bytes : List ℕ) (es : List Pair) : Type 0 where
  pub fit : AllByRecursion PairFits es
  pub few : length es < 2 ^ 64
  pub rise : T (is_sorted (slice_cmp nat_cmp) es)
  pub belong : IsTrue (list_all (belongs buckets b base) es)
  pub written : bucket_file es ≡ bytes

-- these entries and no others
pub record IsTheBucket (buckets b base : ℕ) (bytes : List ℕ) (es : List Pair) : Type 0 where
  pub is : IsBucketOf buckets b base bytes es
  pub only : (others : List Pair) → IsBucketOf buckets b base bytes others → es ≡ others

-- the bytes have the digest that is kept behind them, and no entries are their bucket
pub record IsNoBucket (buckets b base len : ℕ) (bytes : List ℕ) : Type 0 where
  pub agree : drop len bytes ≡ sha256 (take len bytes)
  pub none : (es : List Pair) → IsBucketOf buckets b base bytes es → ⊥

-- how the bytes of a bucket are damaged
abbrev pub BucketShown : ℕ → ℕ → ℕ → ℕ → List ℕ → Shown → Type 0
BucketShown buckets b base len bytes (Digests kept found) = Differs len bytes kept found
BucketShown buckets b base len bytes Form = IsNoBucket buckets b base len bytes
BucketShown buckets b base len bytes Absent = ⊥

-- The file is that of a stored level, and this level is the stored one with the base added to each place; each sum fits.
pub record IsFileOf (base : ℕ) (f : IndexFooter) (file : List ℕ) (level : Level) : Type 0 where
  pub stored : Level
  pub fits : LevelFits stored
  pub sums : IsTrue (sums_fit base (entries stored))
  pub footer_is : f ≡ footer_of stored
  pub file_is : file ≡ index_file stored
  pub level_is : entries level ≡ map (pair_with_base base) (entries stored)

-- the reader tells its file's bytes, and they are the level's
pub record HasLevel (base : ℕ) (f : IndexFooter) (reader : ReaderView) (level : Level) : Type 0 where
  pub file : List ℕ
  pub told : reader.bytes ≡ Some file
  pub is : IsFileOf base f file level
