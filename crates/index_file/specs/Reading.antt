-- What stands at the front of bytes.
use Rattle.std.specs.List.{AllByRecursion, flat_map}
use Rattle.std.specs.Prelude.{◌≡◌, ℕ, ◌≤◌, ◌<◌, ◌^◌, List, ◌++◌, length, drop, Option, Some, None, T}
use Rattle.std.specs.FinMap.{is_sorted}
use Rattle.std.specs.Cmp.Lexicographic.{slice_cmp}
use Rattle.std.specs.Ordering.{nat_cmp}
use Rattle.index_level0.specs.Levels.{Entry}
use Rattle.index_file.specs.Buckets.{Pair, PairFits, PlaceFits, bucket_body, entry_bytes, place_bytes, u32_bytes, u64_bytes}

-- the place or tombstone at the front, and how many bytes it takes; nothing where none stands there
abbrev pub IsPlaceFront : List ℕ → Option (Entry × ℕ) → Type 0
IsPlaceFront bytes (Some p) = PlaceFits p.0 × (bytes ≡ place_bytes p.0 ++ drop p.1 bytes) × (p.1 ≤ length bytes)
IsPlaceFront bytes None = (x : Entry) (more : List ℕ) → PlaceFits x → bytes ≡ place_bytes x ++ more → ⊥

-- the entry at the front, and how many bytes it takes; nothing where none stands there
abbrev pub IsEntryFront : List ℕ → Option (Pair × ℕ) → Type 0
IsEntryFront bytes (Some p) = PairFits p.0 × (bytes ≡ entry_bytes p.0 ++ drop p.1 bytes) × (p.1 ≤ length bytes)
IsEntryFront bytes None = (e : Pair) (more : List ℕ) → PairFits e → bytes ≡ entry_bytes e ++ more → ⊥

-- entries that fit, as many as are told, whose bytes these are
pub record AreEntries (count : ℕ) (bytes : List ℕ) (es : List Pair) : Type 0 where
  pub number : length es ≡ count
  pub fit : AllByRecursion PairFits es
  pub written : flat_map entry_bytes es ≡ bytes

-- the entries of a bucket without its digest
pub record IsBucket (bytes : List ℕ) (es : List Pair) : Type 0 where
  pub fit : AllByRecursion PairFits es
  pub few : length es < 2 ^ 64
  pub written : bucket_body es ≡ bytes

-- a body of the index log: its edit and its changes, whose keys rise
pub record IsBodyOf (bytes : List ℕ) (edit : ℕ) (es : List Pair) : Type 0 where
  pub edit_fits : edit < 2 ^ 64
  pub fit : AllByRecursion PairFits es
  pub few : length es < 2 ^ 32
  pub rise : T (is_sorted (slice_cmp nat_cmp) es)
  pub written : u64_bytes edit ++ (u32_bytes (length es) ++ flat_map entry_bytes es) ≡ bytes
