-- What the buckets of a file list, bucket by bucket.
use Rattle.std.proofs.Common.{◌≡◌, refl, ap, sym, subst, ◌∙◌, ℕ, suc, ◌+◌, arith, List, [], ◌∷◌, ◌++◌, append_assoc, length, map, T}
use Rattle.std.proofs.lemmas.List.{append-nil}
use Rattle.std.specs.List.{flat_map}
use Rattle.std.specs.FinMap.{entries, entries_sorted, entries-from_sorted, from_entries, from_sorted, is_sorted, same_entries_map}
use Rattle.std.specs.Cmp.Lexicographic.{slice_cmp}
use Rattle.std.specs.Ordering.{nat_cmp}
use Rattle.index_file.specs.declared.footers.IndexFooter.{IndexFooter}
use Rattle.index_file.specs.Buckets.{Pair}
use Rattle.index_file.specs.Entries.{IsTheBucket, pair_with_base}
use Rattle.index_file.specs.Listing.{all_based, HaveEntries}
use Rattle.index_file.specs.Reads.{bucket_in, OfBucket}
use Rattle.index_file.proofs.EntriesFacts.{based}

pub one_more : (buckets : List (List Pair)) (es : List Pair) (b : ℕ) → length buckets ≡ b → length (buckets ++ es ∷ []) ≡ b + 1
one_more buckets es b number = omega (arith, longer buckets, number)
  where
    longer : (bs : List (List Pair)) → length (bs ++ es ∷ []) ≡ length bs + 1
    longer [] = refl
    longer (x ∷ bs) = let k = longer bs in omega (arith, k)

pub entries_on : (base : ℕ) (f : IndexFooter) (file : List ℕ) (b : ℕ) (buckets : List (List Pair)) (es : List Pair) → HaveEntries base f file b buckets
    → OfBucket f (b + length buckets) (λ mark. IsTheBucket (length f.buckets) (b + length buckets) base (bucket_in file mark) es) → HaveEntries base f file b (buckets ++ es ∷ [])
entries_on base f file b [] es have one =
    let same : b + 0 ≡ b = omega arith in
    (subst (λ (k : ℕ). OfBucket f k (λ mark. IsTheBucket (length f.buckets) k base (bucket_in file mark) es)) same one, tt)
entries_on base f file b (x ∷ buckets) es have one =
    let same : b + suc (length buckets) ≡ b + 1 + length buckets = omega arith in
    (have.0, entries_on base f file (b + 1) buckets es have.1 (subst (λ (k : ℕ). OfBucket f k (λ mark. IsTheBucket (length f.buckets) k base (bucket_in file mark) es)) same one))

joined_end : (buckets : List (List Pair)) (es : List Pair) → flat_map (λ b. b) (buckets ++ es ∷ []) ≡ flat_map (λ b. b) buckets ++ es
joined_end [] es = append-nil es
joined_end (x ∷ buckets) es = ap (λ (t : List Pair). x ++ t) (joined_end buckets es) ∙ sym (append_assoc x (flat_map (λ b. b) buckets) es)

based_end : (base : ℕ) (xs ys : List Pair) → map (pair_with_base base) (xs ++ ys) ≡ map (pair_with_base base) xs ++ map (pair_with_base base) ys
based_end base [] ys = refl
based_end base (x ∷ xs) ys = ap (λ (t : List Pair). pair_with_base base x ∷ t) (based_end base xs ys)

pub based_on : (base : ℕ) (buckets : List (List Pair)) (es all new : List Pair) → all ≡ all_based base buckets → new ≡ all ++ based base es → new ≡ all_based base (buckets ++ es ∷ [])
based_on base buckets es all new so_far put =
    put ∙ ap (λ (xs : List Pair). xs ++ based base es) so_far
    ∙ sym (ap (map (pair_with_base base)) (joined_end buckets es) ∙ based_end base (flat_map (λ b. b) buckets) es)

pub level_of : (es all : List Pair) → es ≡ entries (from_entries {R = slice_cmp nat_cmp} all) → from_sorted {R = slice_cmp nat_cmp} es ≡ from_entries all
level_of es all is =
    let rise : T (is_sorted (slice_cmp nat_cmp) es) = subst (λ (xs : List Pair). T (is_sorted (slice_cmp nat_cmp) xs)) (sym is) (entries_sorted (from_entries {R = slice_cmp nat_cmp} all)) in
    same_entries_map (from_sorted es) (from_entries all) (entries-from_sorted (slice_cmp nat_cmp) es rise ∙ is)
