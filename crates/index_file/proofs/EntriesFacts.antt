-- The entries of all buckets of a file.
use Rattle.std.proofs.Common.{◌≡◌, refl, ap, sym, subst, ◌∙◌, ℕ, zero, suc, ◌+◌, ◌<◌, ◌≤◌, ◌==◌, ◌&&◌, arith, List, [], ◌∷◌, ◌++◌, append_assoc, length, map, take, Some, None, Bool as Truth, true, false, cond, T, slice_get}
use Rattle.std.specs.Prelude.{Option}
use Rattle.std.specs.List.{AllByRecursion, IsDistinct, flat_map, list_all, range_with_len}
use Rattle.std.specs.Map.{keys_of}
use Rattle.std.specs.Option.{option_map, option_or}
use Rattle.std.specs.FinMap.{entries, find, from_entries, get, get-entries, get-from_entries, is_sorted, len, len-entries, same_map}
use Rattle.std.specs.FinMap.Entries.{below_all, find-where_key}
use Rattle.std.specs.Cmp.Lexicographic.{slice_cmp, nat_list_cmp_total}
use Rattle.std.specs.Ordering.{eq_by_cmp, is_eq, is_lt, nat_cmp}
use Rattle.std.specs.declared.cmp.Ordering.{Ordering}
use Rattle.std.specs.declared.cmp.Ordering.TheVariants.{Less, Equal, Greater}
use Rattle.std.proofs.lemmas.Bool.{and_parts}
use Rattle.std.proofs.lemmas.Bool.Decides.{nat_tests}
use Rattle.std.proofs.lemmas.List.{append-nil, take_all, take_more}
use Rattle.std.proofs.lemmas.Map.Lookups.{exact_bytes}
use Rattle.std.proofs.lemmas.Map.Views.{tells_apart}
use Rattle.std.proofs.lemmas.Option.{get_or_from_slice_get, slice_get_within}
use Rattle.std.proofs.Math.Nat.{mod-lt}
use Rattle.index_level0.specs.Levels.{Entry, Level}
use Rattle.index_level0.proofs.LevelFacts.{len_level, same_key}
use Rattle.index_file.specs.Hash.{hash}
use Rattle.index_file.specs.declared.footers.BucketMark.{BucketMark}
use Rattle.index_file.specs.declared.footers.IndexFooter.{IndexFooter}
use Rattle.index_file.specs.Buckets.{Pair, bucket_of, buckets_for, buckets_of, in_bucket}
use Rattle.index_file.specs.Entries.{belongs, IsFileOf, IsTheBucket, pair_with_base, sum_fits, with_base}
use Rattle.index_file.specs.Reads.{bucket_in}
use Rattle.index_file.proofs.BucketFacts.{bucket_at, length-buckets_of}
use Rattle.index_file.proofs.IntactFacts.{bucket_is, buckets_number, find_mapped, level_entry}

-- ---- keys that differ

abbrev pub AllBelow : ℕ → ℕ → List (List ℕ) → Type 0
AllBelow n b ks = AllByRecursion (λ k. bucket_of n k < b) ks

abbrev pub AllOf : ℕ → ℕ → List (List ℕ) → Type 0
AllOf n b ks = AllByRecursion (λ k. bucket_of n k ≡ b) ks

all_join : {X : Type 0} (P : X → Type 0) (xs ys : List X) → AllByRecursion P xs → AllByRecursion P ys → AllByRecursion P (xs ++ ys)
all_join P [] ys a b = b
all_join P (x ∷ xs) ys a b = (a.0, all_join P xs ys a.1 b)

apart_from : (n b : ℕ) (k : List ℕ) (ks : List (List ℕ)) → bucket_of n k < b → AllOf n b ks → AllByRecursion (λ y. same_key k y ≡ false) ks
apart_from n b k [] below of_b = tt
apart_from n b k (y ∷ ys) below of_b = (go (same_key k y) refl, apart_from n b k ys below of_b.1)
  where
    go : (t : Truth) → same_key k y ≡ t → t ≡ false
    go true is = absurd (omega (arith, below, ap (bucket_of n) (tells_apart exact_bytes k y is), of_b.0))
    go false is = refl

pub distinct_more : (n b : ℕ) (xs ys : List (List ℕ)) → AllBelow n b xs → IsDistinct same_key xs → AllOf n b ys → IsDistinct same_key ys → IsDistinct same_key (xs ++ ys)
unfolding IsDistinct
distinct_more n b [] ys below apart of_b more = more
distinct_more n b (x ∷ xs) ys below apart of_b more = (all_join (λ y. same_key x y ≡ false) xs ys apart.0 (apart_from n b x ys below.0 of_b), distinct_more n b xs ys below.1 apart.1 of_b more)

next_below : (n b : ℕ) (xs : List (List ℕ)) → AllBelow n b xs → AllBelow n (b + 1) xs
next_below n b [] below = tt
next_below n b (x ∷ xs) below = (omega (arith, below.0), next_below n b xs below.1)

of_below : (n b : ℕ) (ys : List (List ℕ)) → AllOf n b ys → AllBelow n (b + 1) ys
of_below n b [] of_b = tt
of_below n b (y ∷ ys) of_b = (omega (arith, of_b.0), of_below n b ys of_b.1)

pub below_more : (n b : ℕ) (xs ys : List (List ℕ)) → AllBelow n b xs → AllOf n b ys → AllBelow n (b + 1) (xs ++ ys)
below_more n b xs ys below of_b = all_join (λ k. bucket_of n k < b + 1) xs ys (next_below n b xs below) (of_below n b ys of_b)

belong_of : (n b base : ℕ) (es : List Pair) → list_all (belongs n b base) es ≡ true → AllOf n b (keys_of es)
belong_of n b base [] all = tt
belong_of n b base (e ∷ es) all =
    let parts = and_parts (belongs n b base e) (list_all (belongs n b base) es) all in
    let own = and_parts (bucket_of n e.0 == b) (sum_fits base e.1) parts.0 in
    (grind (arith, nat_tests, own.0), belong_of n b base es parts.1)

pub belong_sums : (n b base : ℕ) (es : List Pair) → list_all (belongs n b base) es ≡ true → list_all (λ e. sum_fits base e.1) es ≡ true
belong_sums n b base [] all = refl
belong_sums n b base (e ∷ es) all =
    let parts = and_parts (belongs n b base e) (list_all (belongs n b base) es) all in
    let own = and_parts (bucket_of n e.0 == b) (sum_fits base e.1) parts.0 in
    ap (λ (t : Truth). t && list_all (λ x. sum_fits base x.1) es) own.1 ∙ belong_sums n b base es parts.1

first_part : (a b : Truth) → T (a && b) → T a
first_part true b p = tt
first_part false b p = p

second_part : (a b : Truth) → T (a && b) → T b
second_part true b p = p
second_part false b p = absurd p

apart_by_less : (k : List ℕ) (es : List Pair) → T (below_all (slice_cmp nat_cmp) k es) → AllByRecursion (λ y. same_key k y ≡ false) (keys_of es)
apart_by_less k [] below = tt
apart_by_less k (e ∷ es) below =
    (unlike (slice_cmp nat_cmp k e.0) (first_part (is_lt (slice_cmp nat_cmp k e.0)) (below_all (slice_cmp nat_cmp) k es) below), apart_by_less k es (second_part (is_lt (slice_cmp nat_cmp k e.0)) (below_all (slice_cmp nat_cmp) k es) below))
  where
    unlike : (r : Ordering) → T (is_lt r) → is_eq r ≡ false
    unlike Less p = refl
    unlike Equal p = absurd p
    unlike Greater p = absurd p

distinct_risen : (es : List Pair) → T (is_sorted (slice_cmp nat_cmp) es) → IsDistinct same_key (keys_of es)
unfolding IsDistinct
distinct_risen [] rise = tt
distinct_risen (e ∷ es) rise =
    (apart_by_less e.0 es (first_part (below_all (slice_cmp nat_cmp) e.0 es) (is_sorted (slice_cmp nat_cmp) es) rise), distinct_risen es (second_part (below_all (slice_cmp nat_cmp) e.0 es) (is_sorted (slice_cmp nat_cmp) es) rise))

abbrev pub based : ℕ → List Pair → List Pair
based base es = map (pair_with_base base) es

keys_based : (base : ℕ) (es : List Pair) → keys_of (based base es) ≡ keys_of es
keys_based base [] = refl
keys_based base (e ∷ es) = ap (λ (ks : List (List ℕ)). e.0 ∷ ks) (keys_based base es)

keys_join : (xs ys : List Pair) → keys_of (xs ++ ys) ≡ keys_of xs ++ keys_of ys
keys_join [] ys = refl
keys_join (x ∷ xs) ys = ap (λ (ks : List (List ℕ)). x.0 ∷ ks) (keys_join xs ys)

-- what was gathered from the first b buckets
pub record Gathered (n b : ℕ) (all : List Pair) : Type 0 where
  pub distinct : IsDistinct same_key (keys_of all)
  pub below : AllBelow n b (keys_of all)

pub none_gathered : (n : ℕ) → Gathered n 0 []
unfolding IsDistinct
none_gathered n = record { distinct = tt; below = tt }

pub gathered_more : (n b base : ℕ) (all es new : List Pair) → Gathered n b all → T (is_sorted (slice_cmp nat_cmp) es) → list_all (belongs n b base) es ≡ true → new ≡ all ++ based base es → Gathered n (b + 1) new
gathered_more n b base all es new g rise belong is =
    let keys : keys_of new ≡ keys_of all ++ keys_of es = ap keys_of is ∙ keys_join all (based base es) ∙ ap (λ (ks : List (List ℕ)). keys_of all ++ ks) (keys_based base es) in
    let of_b = belong_of n b base es belong in
    record {
      distinct = subst (λ ks. IsDistinct same_key ks) (sym keys) (distinct_more n b (keys_of all) (keys_of es) g.below g.distinct of_b (distinct_risen es rise));
      below = subst (λ ks. AllBelow n (b + 1) ks) (sym keys) (below_more n b (keys_of all) (keys_of es) g.below of_b);
    }

-- ---- of the file of a level

abbrev pub joined : List (List Pair) → List Pair
joined bs = flat_map (λ b. b) bs

joined_more : (xs ys : List (List Pair)) → joined (xs ++ ys) ≡ joined xs ++ joined ys
joined_more [] ys = refl
joined_more (x ∷ xs) ys = ap (λ (t : List Pair). x ++ t) (joined_more xs ys) ∙ sym (append_assoc x (joined xs) (joined ys))

based_join : (base : ℕ) (xs ys : List Pair) → based base (xs ++ ys) ≡ based base xs ++ based base ys
based_join base [] ys = refl
based_join base (x ∷ xs) ys = ap (λ (t : List Pair). pair_with_base base x ∷ t) (based_join base xs ys)

pub joined_on : (base : ℕ) (f : IndexFooter) (file : List ℕ) (level : Level) (h : IsFileOf base f file level) (b : ℕ) (mark : BucketMark) (all es new : List Pair) → slice_get f.buckets b ≡ Some mark
    → IsTheBucket (length f.buckets) b base (bucket_in file mark) es → all ≡ based base (joined (take b (buckets_of h.stored))) → new ≡ all ++ based base es → new ≡ based base (joined (take (b + 1) (buckets_of h.stored)))
joined_on base f file level h b mark all es new there is so_far put =
    let bs = buckets_of h.stored in
    let n = buckets_for (len h.stored) in
    let number : length f.buckets ≡ n = ap (λ (g : IndexFooter). length g.buckets) h.footer_is ∙ buckets_number h.stored in
    let less : b < n = omega (arith, slice_get_within f.buckets b mark there, number) in
    let at = bucket_at h.stored b less in
    let own : es ≡ in_bucket n (entries h.stored) b = bucket_is base f file level h b mark es there is in
    let next : take (b + 1) bs ≡ take b bs ++ es ∷ [] =
    take_more bs b [] (slice_get_within bs b (in_bucket n (entries h.stored) b) at) ∙ ap (λ (x : List Pair). take b bs ++ x ∷ []) (get_or_from_slice_get bs b (in_bucket n (entries h.stored) b) [] at ∙ sym own) in
    put ∙ ap (λ (xs : List Pair). xs ++ based base es) so_far ∙ sym (based_join base (joined (take b bs)) es)
    ∙ ap (based base) (sym (joined_more (take b bs) (es ∷ []) ∙ ap (λ (t : List Pair). joined (take b bs) ++ t) (append-nil es)) ∙ ap joined (sym next))

or_none : (x : Option Entry) → option_or x None ≡ x
or_none None = refl
or_none (Some x) = refl

find_join : (q : List ℕ) (xs ys : List Pair) → find (slice_cmp nat_cmp) q (xs ++ ys) ≡ option_or (find (slice_cmp nat_cmp) q xs) (find (slice_cmp nat_cmp) q ys)
find_join q [] ys = refl
find_join q (x ∷ xs) ys = go (eq_by_cmp (slice_cmp nat_cmp) q x.0) (find_join q xs ys)
  where
    go : (t : Truth) → find (slice_cmp nat_cmp) q (xs ++ ys) ≡ option_or (find (slice_cmp nat_cmp) q xs) (find (slice_cmp nat_cmp) q ys)
        → cond t (Some x.1) (find (slice_cmp nat_cmp) q (xs ++ ys)) ≡ option_or (cond t (Some x.1) (find (slice_cmp nat_cmp) q xs)) (find (slice_cmp nat_cmp) q ys)
    go true rest = refl
    go false rest = rest

find_in : (n a : ℕ) (q : List ℕ) (es : List Pair) → find (slice_cmp nat_cmp) q (in_bucket n es a) ≡ cond (bucket_of n q == a) (find (slice_cmp nat_cmp) q es) None
find_in n a q es = find-where_key (slice_cmp nat_cmp) (λ k. bucket_of n k == a) q (λ x tied. ap (λ k. bucket_of n k == a) (sym (exact_bytes q x tied))) es

unequal : (x y : ℕ) → (x ≡ y → ⊥) → (x == y) ≡ false
unequal x y not = grind (arith, nat_tests, not)

not_in : (n : ℕ) (q : List ℕ) (es : List Pair) (a m : ℕ) → bucket_of n q < a → find (slice_cmp nat_cmp) q (joined (map (in_bucket n es) (range_with_len a m))) ≡ None
not_in n q es a zero less = refl
not_in n q es a (suc m) less =
    let next : bucket_of n q < a + 1 = omega (arith, less) in
    let other : (bucket_of n q == a) ≡ false = unequal (bucket_of n q) a (λ same. omega (arith, same, less)) in
    find_join q (in_bucket n es a) (joined (map (in_bucket n es) (range_with_len (a + 1) m)))
    ∙ ap (λ (x : Option Entry). option_or x (find (slice_cmp nat_cmp) q (joined (map (in_bucket n es) (range_with_len (a + 1) m))))) (find_in n a q es ∙ ap (λ (t : Truth). cond t (find (slice_cmp nat_cmp) q es) None) other)
    ∙ not_in n q es (a + 1) m next

found_in : (n : ℕ) (q : List ℕ) (es : List Pair) (a m : ℕ) → a ≤ bucket_of n q → bucket_of n q < a + m → find (slice_cmp nat_cmp) q (joined (map (in_bucket n es) (range_with_len a m))) ≡ find (slice_cmp nat_cmp) q es
found_in n q es a zero low high = absurd (omega (arith, low, high))
found_in n q es a (suc m) low high = go (bucket_of n q == a) refl (λ next. found_in n q es (a + 1) m next (omega (arith, high)))
  where
    rest : Option Entry
    rest = find (slice_cmp nat_cmp) q (joined (map (in_bucket n es) (range_with_len (a + 1) m)))

    start : (t : Truth) → (bucket_of n q == a) ≡ t → find (slice_cmp nat_cmp) q (joined (map (in_bucket n es) (range_with_len a (suc m)))) ≡ option_or (cond t (find (slice_cmp nat_cmp) q es) None) rest
    start t is =
        find_join q (in_bucket n es a) (joined (map (in_bucket n es) (range_with_len (a + 1) m)))
        ∙ ap (λ (x : Option Entry). option_or x rest) (find_in n a q es ∙ ap (λ (t : Truth). cond t (find (slice_cmp nat_cmp) q es) None) is)

    go : (t : Truth) → (bucket_of n q == a) ≡ t → (a + 1 ≤ bucket_of n q → rest ≡ find (slice_cmp nat_cmp) q es) → find (slice_cmp nat_cmp) q (joined (map (in_bucket n es) (range_with_len a (suc m)))) ≡ find (slice_cmp nat_cmp) q es
    go true is later =
        let same : bucket_of n q ≡ a = grind (arith, nat_tests, is) in
        start true is ∙ ap (λ (x : Option Entry). option_or (find (slice_cmp nat_cmp) q es) x) (not_in n q es (a + 1) m (omega (arith, same))) ∙ or_none (find (slice_cmp nat_cmp) q es)
    go false is later =
        let other : bucket_of n q ≡ a → ⊥ = λ same. grind (arith, nat_tests, is, same) in
        let next : a + 1 ≤ bucket_of n q = above low other in
        start false is ∙ later next
      where
        above : a ≤ bucket_of n q → (bucket_of n q ≡ a → ⊥) → a + 1 ≤ bucket_of n q
        above l o = omega (arith, l, o)

some_buckets : (n : ℕ) → 0 < buckets_for n
some_buckets n = omega arith

all_taken : (level : Level) (b : ℕ) → buckets_for (len level) ≤ b → take b (buckets_of level) ≡ buckets_of level
all_taken level b past = take_all b (buckets_of level) (omega (arith, past, length-buckets_of level))

-- the entries of all buckets are the level's
pub level_of_all : (base : ℕ) (f : IndexFooter) (file : List ℕ) (level : Level) (h : IsFileOf base f file level) (b : ℕ) (all : List Pair) → length f.buckets ≤ b → all ≡ based base (joined (take b (buckets_of h.stored))) → from_entries {R = slice_cmp nat_cmp} all ≡ level
level_of_all base f file level h b all past is = same_map nat_list_cmp_total exact_bytes (from_entries all) level alike
  where
    n : ℕ
    n = buckets_for (len h.stored)

    number : length f.buckets ≡ n
    number = ap (λ (g : IndexFooter). length g.buckets) h.footer_is ∙ buckets_number h.stored

    whole : all ≡ based base (joined (buckets_of h.stored))
    whole = is ∙ ap (λ (bs : List (List Pair)). based base (joined bs)) (all_taken h.stored b (omega (arith, past, number)))

    alike : (q : List ℕ) → get (from_entries {R = slice_cmp nat_cmp} all) q ≡ get level q
    alike q =
        get-from_entries nat_list_cmp_total all q ∙ ap (find (slice_cmp nat_cmp) q) whole ∙ find_mapped base q (joined (buckets_of h.stored))
        ∙ ap (option_map (with_base base)) (found_in n q (entries h.stored) 0 n (omega arith) (high (mod-lt (hash q) (some_buckets (len h.stored)))) ∙ sym (get-entries h.stored q))
        ∙ sym (level_entry base f file level h q)
      where
        high : bucket_of n q < n → bucket_of n q < 0 + n
        high l = omega (arith, l)

-- and there are as many as the footer tells
pub as_many : (base : ℕ) (f : IndexFooter) (file : List ℕ) (level : Level) (h : IsFileOf base f file level) (b : ℕ) (all : List Pair) → length f.buckets ≤ b → all ≡ based base (joined (take b (buckets_of h.stored))) → IsDistinct same_key (keys_of all) → length all ≡ f.entries
as_many base f file level h b all past is apart =
    sym (len_level all apart) ∙ ap len (level_of_all base f file level h b all past is) ∙ len-entries level ∙ ap length h.level_is ∙ length_based (entries h.stored) ∙ sym (len-entries h.stored) ∙ ap (λ (g : IndexFooter). g.entries) (sym h.footer_is)
  where
    length_based : (es : List Pair) → length (based base es) ≡ length es
    length_based [] = refl
    length_based (e ∷ es) = ap suc (length_based es)
