-- The laws of index files and of bodies.
use Rattle.std.specs.Prelude.{◌≡◌, ℕ, ◌+◌, ◌<◌, List, [], ◌∷◌, length, take, drop, Some, slice_get}
use Rattle.std.specs.FinMap.{find, get, len}
use Rattle.std.specs.Cmp.Lexicographic.{slice_cmp}
use Rattle.std.specs.Ordering.{nat_cmp}
use Rattle.index_level0.specs.Levels.{Level}
use Rattle.index_levels.specs.IndexLog.{Body}
use Rattle.index_file.specs.Hash.{hash}
use Rattle.index_file.specs.Buckets.{LevelFits, Pair, bucket_file, bucket_of, buckets_for, buckets_of, footer_of, index_file}
use Rattle.index_file.specs.Entries.{IsFileOf}
use Rattle.index_file.specs.Footers.{HasFooter}
use Rattle.index_file.specs.Reading.{IsBucket}
use Rattle.index_file.specs.declared.footers.BucketMark.{BucketMark}
use Rattle.index_file.specs.declared.footers.IndexFooter.{IndexFooter}
use Rattle.index_file.specs.Bodies.{BodyFits, body_bytes}

abbrev pub HashVectors : Type 0
HashVectors = (hash [] ≡ 0xcbf29ce484222325) × (hash (0x61 ∷ []) ≡ 0xaf63dc4c8601ec8c)

-- a key's bucket is one of the file's
abbrev pub KeyHasBucket : Type 0
KeyHasBucket = (level : Level) (key : List ℕ) → bucket_of (buckets_for (len level)) key < length (buckets_of level)

-- what the file has at a key stands in the key's bucket, and nowhere else
abbrev pub BucketTells : Type 0
BucketTells = (level : Level) (key : List ℕ) (bucket : List Pair)
    → slice_get (buckets_of level) (bucket_of (buckets_for (len level)) key) ≡ Some bucket → find (slice_cmp nat_cmp) key bucket ≡ get level key

-- a bucket and its digest stand where the footer says
abbrev pub BucketStandsThere : Type 0
BucketStandsThere = (level : Level) (b : ℕ) (mark : BucketMark) → slice_get (footer_of level).buckets b ≡ Some mark
    → (bucket : List Pair) × (slice_get (buckets_of level) b ≡ Some bucket) × (take (mark.length + 32) (drop mark.place (index_file level)) ≡ bucket_file bucket)

-- a file is of one level alone
abbrev pub FileOfOneLevel : Type 0
FileOfOneLevel = (a b : Level) → LevelFits a → LevelFits b → index_file a ≡ index_file b → a ≡ b

-- a body is of one edit with its changes alone
abbrev pub BytesOfOneBody : Type 0
BytesOfOneBody = (a b : Body) → BodyFits a → BodyFits b → body_bytes a ≡ body_bytes b → (a.edit ≡ b.edit) × (a.changes ≡ b.changes)

-- the bytes of a bucket are those of one list of entries
abbrev pub BucketOfOneList : Type 0
BucketOfOneList = (bytes : List ℕ) (a b : List Pair) → IsBucket bytes a → IsBucket bytes b → a ≡ b

-- a file that was made has the footer that it was made with, and this tells of as many buckets as its entries need
abbrev pub MadeHasFooter : Type 0
MadeHasFooter = (base : ℕ) (f : IndexFooter) (file : List ℕ) (level : Level) → IsFileOf base f file level → HasFooter f file

abbrev pub FooterIsNumbered : Type 0
FooterIsNumbered = (level : Level) → length (footer_of level).buckets ≡ buckets_for (footer_of level).entries
