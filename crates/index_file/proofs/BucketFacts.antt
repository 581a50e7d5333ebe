-- What a bucket tells of a key, and where it stands.
use Rattle.std.proofs.Common.{◌≡◌, refl, ap, sym, subst, ◌∙◌, ℕ, suc, zero, ◌+◌, ◌<◌, arith, List, [], ◌∷◌, ◌++◌, length, map, take, drop, Some, None, true, cond, ◌==◌}
use Rattle.std.specs.List.{flat_map, range_with_len, slice_get}
use Rattle.std.specs.Option.{option_map}
use Rattle.std.specs.FinMap.{entries, find, get-entries, len}
use Rattle.std.specs.FinMap.Entries.{find-where_key}
use Rattle.std.specs.Cmp.Lexicographic.{slice_cmp}
use Rattle.std.specs.Ordering.{nat_cmp}
use Rattle.std.proofs.lemmas.Bool.Decides.{nat_tests}
use Rattle.std.proofs.lemmas.List.{append_assoc, length-append}
use Rattle.std.proofs.lemmas.List.FromFn.{length-range_with_len}
use Rattle.std.proofs.lemmas.Map.Lookups.{exact_bytes}
use Rattle.std.proofs.lemmas.Option.{slice_get-map}
use Rattle.std.proofs.Math.Nat.{mod-lt}
use Rattle.std.proofs.Math.Seq.{drop-append-add, take-append_seam}
use Rattle.sha2.specs.Sha256.{sha256}
use Rattle.sha2.proofs.Facts256.{length-sha256}
use Rattle.index_level0.specs.Levels.{Level}
use Rattle.index_file.specs.Hash.{hash}
use Rattle.index_file.specs.Buckets.{Pair, bucket_body, bucket_file, bucket_of, buckets_for, buckets_of, footer_bytes, footer_of, in_bucket, index_file, marks_from, u64_bytes}
use Rattle.index_file.specs.declared.footers.BucketMark.{BucketMark}
use Rattle.index_file.specs.FormLaws.{BucketStandsThere, BucketTells, KeyHasBucket}

length_mapped : {A B : Type 0} (f : A → B) (xs : List A) → length (map f xs) ≡ length xs
length_mapped f [] = refl
length_mapped f (x ∷ xs) = ap suc (length_mapped f xs)

pub length-buckets_of : (level : Level) → length (buckets_of level) ≡ buckets_for (len level)
length-buckets_of level = length_mapped (in_bucket (buckets_for (len level)) (entries level)) (range_with_len 0 (buckets_for (len level))) ∙ length-range_with_len 0 (buckets_for (len level))

some_buckets : (n : ℕ) → 0 < buckets_for n
some_buckets n = omega arith

pub key_has_bucket : KeyHasBucket
key_has_bucket level key =
    let n = buckets_for (len level) in
    let some : 0 < n = some_buckets (len level) in
    subst (λ m. bucket_of n key < m) (sym (length-buckets_of level)) (mod-lt (hash key) some)

slice_get-range : (a n i : ℕ) → i < n → slice_get (range_with_len a n) i ≡ Some (a + i)
slice_get-range a zero i less = absurd (omega arith)
slice_get-range a (suc n) zero less = let e : a ≡ a + 0 = omega arith in ap (λ (k : ℕ). Some k) e
slice_get-range a (suc n) (suc i) less = let k : i < n = omega arith in let e : (a + 1) + i ≡ a + suc i = omega arith in slice_get-range (a + 1) n i k ∙ ap (λ (k : ℕ). Some k) e

pub bucket_at : (level : Level) (b : ℕ) → b < buckets_for (len level) → slice_get (buckets_of level) b ≡ Some (in_bucket (buckets_for (len level)) (entries level) b)
bucket_at level b less =
    slice_get-map (in_bucket (buckets_for (len level)) (entries level)) (range_with_len 0 (buckets_for (len level))) b
    ∙ ap (option_map (in_bucket (buckets_for (len level)) (entries level))) (slice_get-range 0 (buckets_for (len level)) b less ∙ ap (λ (k : ℕ). Some k) (omega arith))

itself : (n : ℕ) → (n == n) ≡ true
itself n = grind (arith, nat_tests)

same_some : {A : Type 0} (x y : A) → Some x ≡ Some y → x ≡ y
same_some x y e = cc

pub bucket_tells : BucketTells
bucket_tells level key bucket there =
    let n = buckets_for (len level) in
    let b = bucket_of n key in
    let has = subst (λ m. bucket_of n key < m) (length-buckets_of level) (key_has_bucket level key) in
    let is = same_some bucket (in_bucket n (entries level) b) (sym there ∙ bucket_at level b has) in
    ap (find (slice_cmp nat_cmp) key) is
    ∙ find-where_key (slice_cmp nat_cmp) (λ k. bucket_of n k == b) key (λ x tied. ap (λ k. bucket_of n k == b) (sym (exact_bytes key x tied))) (entries level)
    ∙ ap (λ t. cond t (find (slice_cmp nat_cmp) key (entries level)) None) (itself b)
    ∙ sym (get-entries level key)

-- ---- where a bucket stands

pub length-bucket_file : (es : List Pair) → length (bucket_file es) ≡ length (bucket_body es) + 32
length-bucket_file es = length-append (bucket_body es) (sha256 (bucket_body es)) ∙ ap (λ n. length (bucket_body es) + n) (length-sha256 (bucket_body es))

record Stands (place : ℕ) (mark : BucketMark) (bs : List (List Pair)) (b : ℕ) (tail : List ℕ) : Type 0 where
  bucket : List Pair
  is : slice_get bs b ≡ Some bucket
  offset : ℕ
  from : mark.place ≡ place + offset
  bytes : take (mark.length + 32) (drop offset (flat_map bucket_file bs ++ tail)) ≡ bucket_file bucket

stands : (place : ℕ) (bs : List (List Pair)) (b : ℕ) (mark : BucketMark) (tail : List ℕ) → slice_get (marks_from place bs) b ≡ Some mark → Stands place mark bs b tail
stands place [] b mark tail there = absurd (no_mark there)
  where
    no_mark : None ≡ Some mark → ⊥
    no_mark e = cc
stands place (x ∷ bs) zero mark tail there =
    let is = same_some (record { place = place; length = length (bucket_body x) }) mark there in
    record {
      bucket = x;
      is = refl;
      offset = 0;
      from = ap (λ (m : BucketMark). m.place) (sym is) ∙ omega arith;
      bytes =
          ap (λ n. take n ((bucket_file x ++ flat_map bucket_file bs) ++ tail)) (ap (λ (m : BucketMark). m.length + 32) (sym is) ∙ sym (length-bucket_file x))
          ∙ ap (take (length (bucket_file x))) (append_assoc (bucket_file x) (flat_map bucket_file bs) tail)
          ∙ take-append_seam (bucket_file x) (flat_map bucket_file bs ++ tail);
    }
stands place (x ∷ bs) (suc b) mark tail there =
    let s = stands (place + length (bucket_file x)) bs b mark tail there in
    record {
      bucket = s.bucket;
      is = s.is;
      offset = length (bucket_file x) + s.offset;
      from = s.from ∙ omega arith;
      bytes =
          ap (λ ys. take (mark.length + 32) (drop (length (bucket_file x) + s.offset) ys)) (append_assoc (bucket_file x) (flat_map bucket_file bs) tail)
          ∙ ap (take (mark.length + 32)) (drop-append-add (bucket_file x) (flat_map bucket_file bs ++ tail) s.offset)
          ∙ s.bytes;
    }

pub bucket_stands_there : BucketStandsThere
bucket_stands_there level b mark there =
    let s = stands 0 (buckets_of level) b mark (footer_bytes (footer_of level) ++ u64_bytes (length (footer_bytes (footer_of level)))) there in
    let e : mark.place ≡ s.offset = s.from ∙ omega arith in
    (s.bucket, s.is, ap (λ n. take (mark.length + 32) (drop n (index_file level))) e ∙ s.bytes)
