-- One bucket more, in what was made and in the marks.
use Rattle.std.proofs.Common.{◌≡◌, refl, ap, sym, subst, ◌∙◌, ℕ, ◌+◌, ◌<◌, ◌≤◌, arith, List, [], ◌∷◌, ◌++◌, append_assoc, length, map, drop, Some, None, T, true, ◌&&◌, ◌^◌}
use Rattle.std.specs.Prelude.{Option}
use Rattle.std.specs.List.{AllByRecursion, flat_map}
use Rattle.std.specs.Option.{option_map}
use Rattle.std.specs.FinMap.{entries, entries-from_sorted, from_sorted, is_sorted, len, len-entries}
use Rattle.std.specs.Cmp.Lexicographic.{slice_cmp}
use Rattle.std.specs.Ordering.{nat_cmp}
use Rattle.std.proofs.lemmas.List.{append-nil, drop_all, drop_more}
use Rattle.std.proofs.lemmas.Option.{get_or_from_slice_get, slice_get_within}
use Rattle.std.proofs.lemmas.Bool.Decides.{nat_tests}
use Rattle.index_level0.specs.Levels.{Entry, Level}
use Rattle.index_file.specs.declared.footers.BucketMark.{BucketMark}
use Rattle.index_file.specs.declared.footers.IndexFooter.{IndexFooter}
use Rattle.index_file.specs.Buckets.{Pair, bucket_body, bucket_file, buckets_for, buckets_of, footer_of, in_bucket, index_file, marks_from, PairFits, PlaceFits, tail_of}
use Rattle.index_file.specs.Entries.{IsFileOf, pair_with_base, sum_fits, sums_fit, with_base}
use Rattle.index_file.proofs.BucketFacts.{bucket_at, length-bucket_file, length-buckets_of}

abbrev pub level_of : List Pair → Level
level_of es = from_sorted {R = slice_cmp nat_cmp} es

pub entries_are : (es : List Pair) → T (is_sorted (slice_cmp nat_cmp) es) → entries (level_of es) ≡ es
entries_are es rise = entries-from_sorted (slice_cmp nat_cmp) es rise

pub len_is : (es : List Pair) → T (is_sorted (slice_cmp nat_cmp) es) → len (level_of es) ≡ length es
len_is es rise = len-entries (level_of es) ∙ ap (λ (xs : List Pair). length xs) (entries_are es rise)

-- the buckets from one on
pub next_bucket : (es : List Pair) (buckets b : ℕ) → T (is_sorted (slice_cmp nat_cmp) es) → buckets ≡ buckets_for (length es) → b < buckets → drop b (buckets_of (level_of es)) ≡ in_bucket buckets es b ∷ drop (b + 1) (buckets_of (level_of es))
next_bucket es buckets b rise number less =
    let level = level_of es in
    let same : buckets_for (len level) ≡ buckets = ap buckets_for (len_is es rise) ∙ sym number in
    let at = bucket_at level b (subst (λ (n : ℕ). b < n) (sym same) less) in
    let here : in_bucket (buckets_for (len level)) (entries level) b ≡ in_bucket buckets es b = ap (λ (n : ℕ). in_bucket n (entries level) b) same ∙ ap (λ (xs : List Pair). in_bucket buckets xs b) (entries_are es rise) in
    let within = slice_get_within (buckets_of level) b (in_bucket (buckets_for (len level)) (entries level) b) at in
    drop_more (buckets_of level) b [] within
    ∙ ap (λ (x : List Pair). x ∷ drop (b + 1) (buckets_of level)) (get_or_from_slice_get (buckets_of level) b (in_bucket (buckets_for (len level)) (entries level) b) [] at ∙ here)

pub no_bucket : (es : List Pair) (buckets b : ℕ) → T (is_sorted (slice_cmp nat_cmp) es) → buckets ≡ buckets_for (length es) → buckets ≤ b → drop b (buckets_of (level_of es)) ≡ []
no_bucket es buckets b rise number less =
    let level = level_of es in
    let same : buckets_for (len level) ≡ buckets = ap buckets_for (len_is es rise) ∙ sym number in
    drop_all b (buckets_of level) (omega (arith, length-buckets_of level, same, less))

abbrev pub with_buckets : List (List Pair) → Option (List ℕ) → Option (List ℕ)
with_buckets bs made = option_map (λ bytes. bytes ++ flat_map bucket_file bs) made

made_more : (b : List Pair) (bs : List (List Pair)) (old : Option (List ℕ)) → with_buckets bs (option_map (λ bytes. bytes ++ bucket_file b) old) ≡ with_buckets (b ∷ bs) old
made_more b bs None = refl
made_more b bs (Some bytes) = ap Some (append_assoc bytes (bucket_file b) (flat_map bucket_file bs))

pub made_next : (rest bs : List (List Pair)) (b : List Pair) (old new whole : Option (List ℕ)) → rest ≡ b ∷ bs → new ≡ option_map (λ bytes. bytes ++ bucket_file b) old → with_buckets rest old ≡ whole → with_buckets bs new ≡ whole
made_next rest bs b old new whole e added so_far =
    ap (with_buckets bs) added ∙ made_more b bs old ∙ ap (λ (xs : List (List Pair)). with_buckets xs old) (sym e) ∙ so_far

pub made_all : (rest : List (List Pair)) (made whole : Option (List ℕ)) → rest ≡ [] → with_buckets rest made ≡ whole → made ≡ whole
made_all rest made whole e so_far = sym (nothing made) ∙ ap (λ (xs : List (List Pair)). with_buckets xs made) (sym e) ∙ so_far
  where
    nothing : (made : Option (List ℕ)) → with_buckets [] made ≡ made
    nothing None = refl
    nothing (Some bytes) = ap Some (append-nil bytes)

pub marks_next : (rest bs : List (List Pair)) (b : List Pair) (marks whole : List BucketMark) (mark : BucketMark) (place next : ℕ) → rest ≡ b ∷ bs → mark ≡ record { place = place; length = length (bucket_body b) } → next ≡ mark.place + mark.length + 32
    → marks ++ marks_from place rest ≡ whole → (marks ++ mark ∷ []) ++ marks_from next bs ≡ whole
marks_next rest bs b marks whole mark place next e is there so_far =
    let at : next ≡ place + length (bucket_file b) = omega (arith, there, ap (λ (m : BucketMark). m.place) is, ap (λ (m : BucketMark). m.length) is, length-bucket_file b) in
    append_assoc marks (mark ∷ []) (marks_from next bs)
    ∙ ap (λ (m : BucketMark). marks ++ m ∷ marks_from next bs) is
    ∙ ap (λ (n : ℕ). marks ++ made_mark ∷ marks_from n bs) at
    ∙ ap (λ (xs : List (List Pair)). marks ++ marks_from place xs) (sym e) ∙ so_far
  where
    made_mark : BucketMark
    made_mark = record { place = place; length = length (bucket_body b) }

pub marks_all : (rest : List (List Pair)) (marks whole : List BucketMark) (place : ℕ) → rest ≡ [] → marks ++ marks_from place rest ≡ whole → marks ≡ whole
marks_all rest marks whole place e so_far = sym (append-nil marks) ∙ ap (λ (xs : List (List Pair)). marks ++ marks_from place xs) (sym e) ∙ so_far

abbrev pub made_footer : ℕ → List BucketMark → IndexFooter
made_footer n bs = record { entries = n; buckets = bs }

-- the footer of these entries
pub footer_made : (es : List Pair) (buckets : List BucketMark) → T (is_sorted (slice_cmp nat_cmp) es) → buckets ≡ marks_from 0 (buckets_of (level_of es)) → made_footer (length es) buckets ≡ footer_of (level_of es)
footer_made es buckets rise is = ap (λ (bs : List BucketMark). made_footer (length es) bs) is ∙ ap (λ (n : ℕ). made_footer n (marks_from 0 (buckets_of (level_of es)))) (sym (len_is es rise))

-- the whole file was made, where a maker tells its bytes
pub whole_file : (level : Level) (footer : IndexFooter) (tail : List ℕ) (sealed last before started old : Option (List ℕ)) (bytes : List ℕ) → footer ≡ footer_of level → tail ≡ tail_of footer → sealed ≡ last
    → last ≡ option_map (λ made. made ++ tail) before → before ≡ option_map (λ made. made ++ flat_map bucket_file (buckets_of level)) started → started ≡ option_map (λ made. []) old → sealed ≡ Some bytes → bytes ≡ index_file level
whole_file level footer tail sealed last before started old bytes is tail_is s l b n told = go old (sym told ∙ s ∙ l ∙ ap (option_map (λ made. made ++ tail)) (b ∙ ap (option_map (λ made. made ++ flat_map bucket_file (buckets_of level))) n))
  where
    go : (old : Option (List ℕ)) → Some bytes ≡ option_map (λ made. made ++ tail) (option_map (λ made. made ++ flat_map bucket_file (buckets_of level)) (option_map (λ made. []) old)) → bytes ≡ index_file level
    go None e = absurd (no_some e)
      where
        no_some : Some bytes ≡ None → ⊥
        no_some h = cc
    go (Some x) e = same (flat_map bucket_file (buckets_of level) ++ tail) e ∙ ap (λ (t : List ℕ). flat_map bucket_file (buckets_of level) ++ t) (tail_is ∙ ap tail_of is)
      where
        same : (y : List ℕ) → Some bytes ≡ Some y → bytes ≡ y
        same y h = cc

-- ---- the file of these entries

sums_at_0 : (es : List Pair) → AllByRecursion PairFits es → sums_fit 0 es ≡ true
sums_at_0 [] fit = refl
sums_at_0 (e ∷ es) fit = ap (λ t. t && sums_fit 0 es) (one e.1 fit.0.2) ∙ sums_at_0 es fit.1
  where
    one : (x : Entry) → PlaceFits x → sum_fits 0 x ≡ true
    one None fits = refl
    one (Some p) fits = let small : 0 + p.segment < 2 ^ 64 = omega (arith, fits.0) in grind (arith, nat_tests, small)

same_at_0 : (es : List Pair) → es ≡ map (pair_with_base 0) es
same_at_0 [] = refl
same_at_0 (e ∷ es) = λ i. (e.0, one e.1 i) ∷ same_at_0 es i
  where
    one : (x : Entry) → x ≡ with_base 0 x
    one None = refl
    one (Some p) = let s : p.segment ≡ 0 + p.segment = omega arith in λ i. Some (record { segment = s i; row = p.row })

pub file_of : (es : List Pair) (f : IndexFooter) (bytes : List ℕ) → T (is_sorted (slice_cmp nat_cmp) es) → AllByRecursion PairFits es → length es < 2 ^ 64 → length bytes < 2 ^ 64
    → f ≡ footer_of (level_of es) → bytes ≡ index_file (level_of es) → IsFileOf 0 f bytes (level_of es)
file_of es f bytes rise fit few short footer is =
    let all = entries_are es rise in
    record {
      stored = level_of es;
      fits = record {
        each = subst (λ (xs : List Pair). AllByRecursion PairFits xs) (sym all) fit;
        few = omega (arith, few, len_is es rise);
        size = omega (arith, short, ap (λ (bs : List ℕ). length bs) is);
      };
      sums = ap (sums_fit 0) all ∙ sums_at_0 es fit;
      footer_is = footer;
      file_is = is;
      level_is = same_at_0 (entries (level_of es));
    }
