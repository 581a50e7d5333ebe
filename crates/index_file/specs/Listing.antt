-- What the buckets of a file list.
use Rattle.std.specs.Prelude.{◌≡◌, ℕ, ◌+◌, List, [], ◌∷◌, length, map, Option}
use Rattle.std.specs.Option.{option_map}
use Rattle.std.specs.List.{flat_map}
use Rattle.std.specs.FinMap.{find, from_entries}
use Rattle.std.specs.Cmp.Lexicographic.{slice_cmp}
use Rattle.std.specs.Ordering.{nat_cmp}
use Rattle.dev_traits.specs.Reader.{ReaderView}
use Rattle.index_level0.specs.Levels.{Entry, Level}
use Rattle.index_file.specs.declared.footers.IndexFooter.{IndexFooter}
use Rattle.index_file.specs.Buckets.{Pair, bucket_of}
use Rattle.index_file.specs.Entries.{IsTheBucket, pair_with_base, with_base}
use Rattle.index_file.specs.Reads.{bucket_in, OfBucket, OnFile}

-- where the reader tells its bytes, bucket b is one, and this is what it has at a key, counted from the base
abbrev pub HasEntryIn : ℕ → IndexFooter → ReaderView → ℕ → List ℕ → Option Entry → Type 0
HasEntryIn base f reader b key entry = OnFile reader (λ file. OfBucket f b (λ mark.
    (es : List Pair) × IsTheBucket (length f.buckets) b base (bucket_in file mark) es × (entry ≡ option_map (with_base base) (find (slice_cmp nat_cmp) key es))))

-- the same of the bucket of the key
abbrev pub HasEntry : ℕ → IndexFooter → ReaderView → List ℕ → Option Entry → Type 0
HasEntry base f reader key entry = HasEntryIn base f reader (bucket_of (length f.buckets) key) key entry

-- from bucket b on, the buckets of the file have these entries, each bucket by its digest and its form
abbrev pub HaveEntries : ℕ → IndexFooter → List ℕ → ℕ → List (List Pair) → Type 0
HaveEntries base f file b [] = Unit {0}
HaveEntries base f file b (es ∷ more) =
    OfBucket f b (λ mark. IsTheBucket (length f.buckets) b base (bucket_in file mark) es) × HaveEntries base f file (b + 1) more

-- the entries of all buckets, counted from the base
abbrev pub all_based : ℕ → List (List Pair) → List Pair
all_based base buckets = map (pair_with_base base) (flat_map (λ es. es) buckets)

-- The entries of all buckets, counted from the base, are those of a level. None of the buckets is damaged, and they have
-- as many entries as the footer tells.
pub record Lists (base : ℕ) (f : IndexFooter) (file : List ℕ) (level : Level) : Type 0 where
  pub buckets : List (List Pair)
  pub number : length buckets ≡ length f.buckets
  pub have : HaveEntries base f file 0 buckets
  pub counted : length (all_based base buckets) ≡ f.entries
  pub level_is : level ≡ from_entries (all_based base buckets)

-- the same, where the reader tells its bytes
abbrev pub ReadsAs : ℕ → IndexFooter → ReaderView → Level → Type 0
ReadsAs base f reader level = OnFile reader (λ file. Lists base f file level)
