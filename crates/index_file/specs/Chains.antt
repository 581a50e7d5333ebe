-- The entries of each bucket, as chains of places: a place tells the next one of its bucket.
use Rattle.std.specs.Prelude.{◌≡◌, ℕ, ◌<◌, ◌≤◌, List, [], ◌∷◌, length, drop, get_or, slice_get, Some}
use Rattle.index_file.specs.Buckets.{Pair, in_bucket}

-- from a place on, the chain leads through these entries, in rising places, to the end
abbrev pub Leads : List Pair → List ℕ → ℕ → List Pair → Type 0
Leads es next at [] = at ≡ length es
Leads es next at (e ∷ out) = (slice_get es at ≡ Some e) × (at < get_or next at 0) × Leads es next (get_or next at 0) out

-- Of the entries from place k on: where the chain of each bucket begins, and how many entries it has.
pub record Chained (es : List Pair) (buckets k : ℕ) (first counts next : List ℕ) : Type 0 where
  pub firsts : length first ≡ buckets
  pub numbers : length counts ≡ buckets
  pub nexts : length next ≡ length es
  pub later : (b : ℕ) → b < buckets → k ≤ get_or first b 0
  pub leads : (b : ℕ) → b < buckets → Leads es next (get_or first b 0) (in_bucket buckets (drop k es) b)
  pub counted : (b : ℕ) → b < buckets → get_or counts b 0 ≡ length (in_bucket buckets (drop k es) b)
