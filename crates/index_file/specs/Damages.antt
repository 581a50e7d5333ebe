-- The damage that is told where a key is asked, and where all entries of a file are read.
use Rattle.std.specs.Prelude.{◌≡◌, ◌⊎◌, ℕ, ◌<◌, List, length}
use Rattle.dev_traits.specs.Reader.{ReaderView}
use Rattle.dev_traits.specs.declared.faults.Damaged.{Damaged}
use Rattle.dev_traits.specs.declared.faults.Part.TheVariants as part
use Rattle.dev_traits.specs.declared.faults.Shown.TheVariants.{Form}
use Rattle.index_level0.specs.Levels.{Level}
use Rattle.index_file.specs.declared.footers.IndexFooter.{IndexFooter}
use Rattle.index_file.specs.Buckets.{bucket_of}
use Rattle.index_file.specs.Entries.{BucketShown, IsFileOf}
use Rattle.index_file.specs.Reads.{bucket_in, IsDamage, OfBucket, OnFile}

-- a bucket of the file is damaged
pub record IsBucketDamage (base : ℕ) (f : IndexFooter) (number : ℕ) (reader : ReaderView) (damaged : Damaged) : Type 0 where
  pub bucket : ℕ
  pub there : bucket < length f.buckets
  pub is : IsDamage number (part.Bucket bucket) (λ shown. OnFile reader (λ file. OfBucket f bucket (λ mark. BucketShown (length f.buckets) bucket base mark.length (bucket_in file mark) shown))) damaged

-- the bucket of a key is damaged
abbrev pub IsDamageAt : ℕ → IndexFooter → ℕ → ReaderView → List ℕ → Damaged → Type 0
IsDamageAt base f number reader key damaged = IsDamage number (part.Bucket (bucket_of (length f.buckets) key)) (λ shown. OnFile reader (λ file. OfBucket f (bucket_of (length f.buckets) key) (λ mark.
    BucketShown (length f.buckets) (bucket_of (length f.buckets) key) base mark.length (bucket_in file mark) shown))) damaged

-- the footer tells another number of entries than the buckets have: the file is no level's
abbrev pub IsCountDamage : ℕ → IndexFooter → ℕ → ReaderView → Damaged → Type 0
IsCountDamage base f number reader damaged = IsDamage number part.Footer (λ shown. (shown ≡ Form) × OnFile reader (λ file. (level : Level) → IsFileOf base f file level → ⊥)) damaged

abbrev pub IsFileDamage : ℕ → IndexFooter → ℕ → ReaderView → Damaged → Type 0
IsFileDamage base f number reader damaged = IsBucketDamage base f number reader damaged ⊎ IsCountDamage base f number reader damaged
