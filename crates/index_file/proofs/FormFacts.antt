-- A file is of one level alone.
use Rattle.std.proofs.Common.{◌≡◌, ap, sym, subst, ◌∙◌, ℕ, ◌<◌, ◌≤◌, ◌^◌, arith, List, [], ◌∷◌, ◌++◌, length, map, Some, Bool as Truth, true, false, cond, ◌==◌}
use Rattle.std.specs.List.{AllByRecursion, filter, flat_map, range_with_len, slice_get}
use Rattle.std.specs.FinMap.{entries, get, len, len-entries, same_map}
use Rattle.std.specs.Cmp.Lexicographic.{nat_list_cmp_total}
use Rattle.std.proofs.lemmas.List.{append_assoc, length-append}
use Rattle.std.proofs.lemmas.Map.Lookups.{exact_bytes}
use Rattle.sha2.specs.Sha256.{sha256}
use Rattle.sha2.proofs.Facts256.{length-sha256}
use Rattle.index_level0.specs.Levels.{Level}
use Rattle.index_file.specs.Buckets.{LevelFits, Pair, PairFits, bucket_file, bucket_of, buckets_for, buckets_of, footer_body, footer_bytes, footer_of, in_bucket, mark_bytes, u64_bytes}
use Rattle.index_file.specs.FormLaws.{FileOfOneLevel}
use Rattle.index_file.proofs.Fronts.{BucketFits, buckets_front, ends, length-u64, u64_front}
use Rattle.index_file.proofs.BucketFacts.{bucket_at, bucket_tells, key_has_bucket, length-buckets_of}

pub all_kept : (p : Pair → Truth) (es : List Pair) → AllByRecursion PairFits es → AllByRecursion PairFits (filter p es)
all_kept p [] all = tt
all_kept p (e ∷ es) all = go (p e) (all_kept p es all.1)
  where
    go : (t : Truth) → AllByRecursion PairFits (filter p es) → AllByRecursion PairFits (cond t (e ∷ filter p es) (filter p es))
    go true rest = (all.0, rest)
    go false rest = rest

pub few_kept : (p : Pair → Truth) (es : List Pair) → length (filter p es) ≤ length es
few_kept p [] = omega arith
few_kept p (e ∷ es) = go (p e) (few_kept p es)
  where
    go : (t : Truth) → length (filter p es) ≤ length es → length (cond t (e ∷ filter p es) (filter p es)) ≤ length (e ∷ es)
    go true few = omega arith
    go false few = omega arith

each_fits : (n : ℕ) (es : List Pair) → AllByRecursion PairFits es → length es < 2 ^ 64 → (bs : List ℕ) → AllByRecursion BucketFits (map (in_bucket n es) bs)
each_fits n es all few [] = tt
each_fits n es all few (b ∷ bs) =
    (record { each = all_kept (λ e. bucket_of n e.0 == b) es all; few = omega (arith, few_kept (λ e. bucket_of n e.0 == b) es) }, each_fits n es all few bs)

buckets_fit : (level : Level) → LevelFits level → AllByRecursion BucketFits (buckets_of level)
buckets_fit level f = each_fits (buckets_for (len level)) (entries level) f.each (subst (λ n. n < 2 ^ 64) (len-entries level) f.few) (range_with_len 0 (buckets_for (len level)))

five : (r s : List ℕ) → 80 ∷ 75 ∷ 73 ∷ 88 ∷ 1 ∷ r ≡ 80 ∷ 75 ∷ 73 ∷ 88 ∷ 1 ∷ s → r ≡ s
five r s e = cc

-- equal footers tell of as many entries
footer_counts : (a b : Level) → len a < 2 ^ 64 → len b < 2 ^ 64 → footer_bytes (footer_of a) ≡ footer_bytes (footer_of b) → len a ≡ len b
footer_counts a b f g e =
    let fa = footer_of a in
    let fb = footer_of b in
    let body = (ends (footer_body fa) (footer_body fb) (sha256 (footer_body fa)) (sha256 (footer_body fb)) (length-sha256 (footer_body fa) ∙ sym (length-sha256 (footer_body fb))) e).0 in
    (u64_front (len a) (len b) (u64_bytes (length fa.buckets) ++ flat_map mark_bytes fa.buckets) (u64_bytes (length fb.buckets) ++ flat_map mark_bytes fb.buckets) f g (five _ _ body)).0

same_lengths : (n m : ℕ) → n < 2 ^ 64 → m < 2 ^ 64 → u64_bytes n ≡ u64_bytes m → n ≡ m
same_lengths n m f g e = (u64_front n m [] [] f g (ap (λ (bytes : List ℕ). bytes ++ []) e)).0

pub short_footer : (level : Level) → LevelFits level → length (footer_bytes (footer_of level)) < 2 ^ 64
short_footer level f =
    let foot = footer_bytes (footer_of level) in
    let all = flat_map bucket_file (buckets_of level) in
    omega (arith, f.size, length-append all (foot ++ u64_bytes (length foot)), length-append foot (u64_bytes (length foot)))

pub file_of_one_level : FileOfOneLevel
file_of_one_level a b f g e = same_map nat_list_cmp_total exact_bytes a b alike
  where
    foot : Level → List ℕ
    foot level = footer_bytes (footer_of level)

    whole : (flat_map bucket_file (buckets_of a) ++ footer_bytes (footer_of a)) ++ u64_bytes (length (footer_bytes (footer_of a)))
        ≡ (flat_map bucket_file (buckets_of b) ++ footer_bytes (footer_of b)) ++ u64_bytes (length (footer_bytes (footer_of b)))
    whole = append_assoc (flat_map bucket_file (buckets_of a)) (footer_bytes (footer_of a)) (u64_bytes (length (footer_bytes (footer_of a)))) ∙ e
        ∙ sym (append_assoc (flat_map bucket_file (buckets_of b)) (footer_bytes (footer_of b)) (u64_bytes (length (footer_bytes (footer_of b)))))

    cut : (flat_map bucket_file (buckets_of a) ++ footer_bytes (footer_of a) ≡ flat_map bucket_file (buckets_of b) ++ footer_bytes (footer_of b))
        × (u64_bytes (length (footer_bytes (footer_of a))) ≡ u64_bytes (length (footer_bytes (footer_of b))))
    cut = ends (flat_map bucket_file (buckets_of a) ++ footer_bytes (footer_of a)) (flat_map bucket_file (buckets_of b) ++ footer_bytes (footer_of b))
        (u64_bytes (length (footer_bytes (footer_of a)))) (u64_bytes (length (footer_bytes (footer_of b))))
        (length-u64 (length (footer_bytes (footer_of a))) ∙ sym (length-u64 (length (footer_bytes (footer_of b))))) whole

    two : (flat_map bucket_file (buckets_of a) ≡ flat_map bucket_file (buckets_of b)) × (footer_bytes (footer_of a) ≡ footer_bytes (footer_of b))
    two = ends (flat_map bucket_file (buckets_of a)) (flat_map bucket_file (buckets_of b)) (footer_bytes (footer_of a)) (footer_bytes (footer_of b))
        (same_lengths (length (footer_bytes (footer_of a))) (length (footer_bytes (footer_of b))) (short_footer a f) (short_footer b g) cut.1) cut.0

    count : len a ≡ len b
    count = footer_counts a b f.few g.few two.1

    number : buckets_for (len a) ≡ buckets_for (len b)
    number = ap buckets_for count

    same : buckets_of a ≡ buckets_of b
    same = buckets_front (buckets_of a) (buckets_of b) (length-buckets_of a ∙ number ∙ sym (length-buckets_of b)) (buckets_fit a f) (buckets_fit b g) two.0

    alike : (key : List ℕ) → get a key ≡ get b key
    alike key =
        let n = bucket_of (buckets_for (len b)) key in
        let has = subst (λ m. n < m) (length-buckets_of b) (key_has_bucket b key) in
        let bucket = in_bucket (buckets_for (len b)) (entries b) n in
        let there : slice_get (buckets_of b) n ≡ Some bucket = bucket_at b n has in
        let there_too : slice_get (buckets_of a) (bucket_of (buckets_for (len a)) key) ≡ Some bucket =
        ap (λ (m : ℕ). slice_get (buckets_of a) (bucket_of m key)) number ∙ ap (λ (bs : List (List Pair)). slice_get bs n) same ∙ there in
        sym (bucket_tells a key bucket there_too) ∙ bucket_tells b key bucket there
