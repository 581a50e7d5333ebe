-- The file of an index: the entries of a level in buckets by the hash of their keys.
use Rattle.std.specs.Prelude.{ℕ, ◌+◌, ◌/◌, ◌%◌, ◌^◌, ◌<◌, ◌≤◌, ◌==◌, max, List, [], ◌∷◌, ◌++◌, length, map, Some, None, All, ⊤}
use Rattle.std.specs.List.{AllByRecursion, filter, flat_map, range_with_len}
use Rattle.std.specs.FinMap.{entries, len}
use Rattle.byteorder.specs.Endian.{big_bytes}
use Rattle.sha2.specs.Sha256.{sha256}
use Rattle.index_level0.specs.Levels.{Entry, Level}
use Rattle.index_file.specs.Hash.{hash}
use Rattle.index_file.specs.declared.footers.BucketMark.{BucketMark}
use Rattle.index_file.specs.declared.footers.IndexFooter.{IndexFooter}

-- numbers in four and in eight bytes, the high one first
unfoldable pub u32_bytes : ℕ → List ℕ
u32_bytes n = big_bytes 4 n

unfoldable pub u64_bytes : ℕ → List ℕ
u64_bytes n = big_bytes 8 n

-- ---- entries

abbrev pub Pair : Type 0
Pair = List ℕ × Entry

-- 00 for a tombstone, or 01 and the place
abbrev pub place_bytes : Entry → List ℕ
place_bytes None = 0 ∷ []
place_bytes (Some place) = 1 ∷ (u64_bytes place.segment ++ u32_bytes place.row)

-- the length of the key, the key, and its place or tombstone
abbrev pub entry_bytes : Pair → List ℕ
entry_bytes e = length e.0 ∷ (e.0 ++ place_bytes e.1)

-- ---- buckets

-- how many buckets so many entries have
abbrev pub buckets_for : ℕ → ℕ
buckets_for n = max 1 ((n + 31) / 32)

-- the bucket of a key among so many
abbrev pub bucket_of : ℕ → List ℕ → ℕ
bucket_of buckets key = hash key % buckets

-- the entries whose keys have this bucket, in their order
abbrev pub in_bucket : ℕ → List Pair → ℕ → List Pair
in_bucket buckets es b = filter (λ e. bucket_of buckets e.0 == b) es

abbrev pub buckets_of : Level → List (List Pair)
buckets_of level = map (in_bucket (buckets_for (len level)) (entries level)) (range_with_len 0 (buckets_for (len level)))

-- the number of entries, and the entries
abbrev pub bucket_body : List Pair → List ℕ
bucket_body es = u64_bytes (length es) ++ flat_map entry_bytes es

-- and their digest
abbrev pub bucket_file : List Pair → List ℕ
bucket_file es = bucket_body es ++ sha256 (bucket_body es)

-- ---- the footer

-- the marks of buckets that stand one after the other from a place on
abbrev pub marks_from : ℕ → List (List Pair) → List BucketMark
marks_from place [] = []
marks_from place (b ∷ bs) = record { place = place; length = length (bucket_body b) } ∷ marks_from (place + length (bucket_file b)) bs

abbrev pub footer_of : Level → IndexFooter
footer_of level = record { entries = len level; buckets = marks_from 0 (buckets_of level) }

abbrev pub mark_bytes : BucketMark → List ℕ
mark_bytes mark = u64_bytes mark.place ++ u64_bytes mark.length

-- `PKIX`, the form 1, the numbers of entries and of buckets, and the marks
abbrev pub footer_body : IndexFooter → List ℕ
footer_body f = 80 ∷ 75 ∷ 73 ∷ 88 ∷ 1 ∷ (u64_bytes f.entries ++ (u64_bytes (length f.buckets) ++ flat_map mark_bytes f.buckets))

-- and their digest
abbrev pub footer_bytes : IndexFooter → List ℕ
footer_bytes f = footer_body f ++ sha256 (footer_body f)

-- ---- the file

-- the footer and its length
abbrev pub tail_of : IndexFooter → List ℕ
tail_of f = footer_bytes f ++ u64_bytes (length (footer_bytes f))

-- the buckets, the footer and its length
abbrev pub index_file : Level → List ℕ
index_file level = flat_map bucket_file (buckets_of level) ++ tail_of (footer_of level)

-- the numbers of a place fit their types
abbrev pub PlaceFits : Entry → Type 0
PlaceFits None = ⊤
PlaceFits (Some place) = (place.segment < 2 ^ 64) × (place.row < 2 ^ 32)

-- a key of at most 128 bytes, and such a place
abbrev pub PairFits : Pair → Type 0
PairFits e = (length e.0 ≤ 128) × All (λ byte. byte < 256) e.0 × PlaceFits e.1

-- the level can be written as a file
pub record LevelFits (level : Level) : Type 0 where
  pub each : AllByRecursion PairFits (entries level)
  pub few : len level < 2 ^ 64
  pub size : length (index_file level) < 2 ^ 64
