-- The buckets of the file of a level.
use Rattle.std.proofs.Common.{◌≡◌, refl, ap, sym, subst, ◌∙◌, ℕ, suc, ◌+◌, ◌<◌, ◌^◌, ◌==◌, ◌&&◌, arith, List, [], ◌∷◌, length, map, take, drop, Some, Bool as Truth, true, false, cond, slice_get}
use Rattle.std.specs.Prelude.{Option}
use Rattle.std.specs.List.{list_all}
use Rattle.std.specs.Option.{option_map}
use Rattle.std.specs.FinMap.{entries, entries_sorted, find, get, get-entries, len, len-entries}
use Rattle.std.specs.FinMap.Entries.{is_sorted-where_key}
use Rattle.std.specs.Cmp.Lexicographic.{slice_cmp}
use Rattle.std.specs.Ordering.{eq_by_cmp, nat_cmp}
use Rattle.std.proofs.lemmas.Bool.{and_parts}
use Rattle.std.proofs.lemmas.List.{drop_at, length-append, length-take-le, length-drop, take_at}
use Rattle.std.proofs.lemmas.Option.{slice_get_within}
use Rattle.sha2.specs.Sha256.{sha256}
use Rattle.sha2.proofs.Facts256.{length-sha256}
use Rattle.dev_traits.specs.declared.faults.Digest.{Digest}
use Rattle.dev_traits.specs.declared.faults.Shown.{Shown}
use Rattle.dev_traits.specs.declared.faults.Shown.TheVariants.{Digests, Form, Absent}
use Rattle.index_level0.specs.Levels.{Entry, Level}
use Rattle.index_file.specs.declared.footers.BucketMark.{BucketMark}
use Rattle.index_file.specs.declared.footers.IndexFooter.{IndexFooter}
use Rattle.index_file.specs.Buckets.{Pair, bucket_body, bucket_file, bucket_of, buckets_for, buckets_of, footer_of, in_bucket, marks_from}
use Rattle.index_file.specs.Entries.{belongs, BucketShown, IsBucketOf, IsFileOf, IsTheBucket, pair_with_base, sum_fits, with_base}
use Rattle.index_file.specs.Footers.{HasFooter}
use Rattle.index_file.specs.Reads.{bucket_in}
use Rattle.index_file.proofs.BucketFacts.{bucket_at, bucket_stands_there, bucket_tells, length-buckets_of}
use Rattle.index_file.proofs.FooterFacts.{bucket_within}
use Rattle.index_file.proofs.FormFacts.{all_kept, few_kept}

length_marks : (place : ℕ) (bs : List (List Pair)) → length (marks_from place bs) ≡ length bs
length_marks place [] = refl
length_marks place (b ∷ bs) = ap suc (length_marks (place + length (bucket_file b)) bs)

pub buckets_number : (level : Level) → length (footer_of level).buckets ≡ buckets_for (len level)
buckets_number level = length_marks 0 (buckets_of level) ∙ length-buckets_of level

all_belong : (n b base : ℕ) (es : List Pair) → list_all (λ e. sum_fits base e.1) es ≡ true → list_all (belongs n b base) (in_bucket n es b) ≡ true
all_belong n b base [] sums = refl
all_belong n b base (e ∷ es) sums =
    let parts = and_parts (sum_fits base e.1) (list_all (λ e. sum_fits base e.1) es) sums in
    go (bucket_of n e.0 == b) refl parts.0 (all_belong n b base es parts.1)
  where
    go : (t : Truth) → (bucket_of n e.0 == b) ≡ t → sum_fits base e.1 ≡ true → list_all (belongs n b base) (in_bucket n es b) ≡ true → list_all (belongs n b base) (cond t (e ∷ in_bucket n es b) (in_bucket n es b)) ≡ true
    go true is fits rest = ap (λ (t : Truth). (t && sum_fits base e.1) && list_all (belongs n b base) (in_bucket n es b)) is ∙ ap (λ (t : Truth). t && list_all (belongs n b base) (in_bucket n es b)) fits ∙ rest
    go false is fits rest = rest

same_some : {A : Type 0} (x y : A) → Some x ≡ Some y → x ≡ y
same_some x y e = cc

-- what stands in a bucket of a level's file
pub intact_bucket : (base : ℕ) (f : IndexFooter) (file : List ℕ) (level : Level) (h : IsFileOf base f file level) (b : ℕ) (mark : BucketMark) → slice_get f.buckets b ≡ Some mark
    → IsBucketOf (length f.buckets) b base (bucket_in file mark) (in_bucket (buckets_for (len h.stored)) (entries h.stored) b)
intact_bucket base f file level h b mark there =
    let n = buckets_for (len h.stored) in
    let es = entries h.stored in
    let number : length f.buckets ≡ n = ap (λ (g : IndexFooter). length g.buckets) h.footer_is ∙ buckets_number h.stored in
    let less : b < n = omega (arith, slice_get_within f.buckets b mark there, number) in
    let mark_there : slice_get (footer_of h.stored).buckets b ≡ Some mark = ap (λ (g : IndexFooter). slice_get g.buckets b) (sym h.footer_is) ∙ there in
    let stands = bucket_stands_there h.stored b mark mark_there in
    let is : stands.0 ≡ in_bucket n es b = same_some stands.0 (in_bucket n es b) (sym stands.1 ∙ bucket_at h.stored b less) in
    let few : length es < 2 ^ 64 = subst (λ (k : ℕ). k < 2 ^ 64) (len-entries h.stored) h.fits.few in
    subst (λ (k : ℕ). IsBucketOf k b base (bucket_in file mark) (in_bucket n es b)) (sym number) (record {
      fit = all_kept (λ e. bucket_of n e.0 == b) es h.fits.each;
      few = omega (arith, few, few_kept (λ e. bucket_of n e.0 == b) es);
      rise = is_sorted-where_key (slice_cmp nat_cmp) (λ k. bucket_of n k == b) es (entries_sorted h.stored);
      belong = all_belong n b base es h.sums;
      written = ap bucket_file (sym is) ∙ sym stands.2 ∙ ap (λ (bytes : List ℕ). bucket_in bytes mark) (sym h.file_is);
    })

pub bucket_is : (base : ℕ) (f : IndexFooter) (file : List ℕ) (level : Level) (h : IsFileOf base f file level) (b : ℕ) (mark : BucketMark) (es : List Pair) → slice_get f.buckets b ≡ Some mark
    → IsTheBucket (length f.buckets) b base (bucket_in file mark) es → es ≡ in_bucket (buckets_for (len h.stored)) (entries h.stored) b
bucket_is base f file level h b mark es there is = is.only (in_bucket (buckets_for (len h.stored)) (entries h.stored) b) (intact_bucket base f file level h b mark there)

-- no damage is told of it
pub not_shown : (buckets b base len : ℕ) (bytes : List ℕ) (es : List Pair) (shown : Shown) → length bytes ≡ len + 32 → IsBucketOf buckets b base bytes es → BucketShown buckets b base len bytes shown → ⊥
not_shown buckets b base len bytes es (Digests kept found) long is differs =
    let body = bucket_body es in
    let counted : length body ≡ len = omega (arith, long, ap length is.written, length-append body (sha256 body), length-sha256 body) in
    let front : take len bytes ≡ body = ap (take len) (sym is.written) ∙ take_at body (sha256 body) len counted in
    let back : drop len bytes ≡ sha256 body = ap (drop len) (sym is.written) ∙ drop_at body (sha256 body) len counted in
    differs.differ (same kept found (differs.kept_is ∙ back ∙ ap sha256 (sym front) ∙ sym differs.found_is))
  where
    same : (x y : Digest) → x.bytes ≡ y.bytes → x ≡ y
    same x y e i = record { bytes = e i }
not_shown buckets b base len bytes es Form long is none = none.none es is
not_shown buckets b base len bytes es Absent long is none = none

pub intact_not_shown : (base : ℕ) (f : IndexFooter) (file : List ℕ) (level : Level) → IsFileOf base f file level → HasFooter f file → (b : ℕ) (mark : BucketMark) (shown : Shown) → slice_get f.buckets b ≡ Some mark
    → BucketShown (length f.buckets) b base mark.length (bucket_in file mark) shown → ⊥
intact_not_shown base f file level h has b mark shown there shows =
    let within = bucket_within f file b mark has there in
    let long : length (bucket_in file mark) ≡ mark.length + 32 = length-take-le (mark.length + 32) (drop mark.place file) (omega (arith, within, length-drop mark.place file)) in
    not_shown (length f.buckets) b base mark.length (bucket_in file mark) (in_bucket (buckets_for (len h.stored)) (entries h.stored) b) shown long (intact_bucket base f file level h b mark there) shows

-- ---- what the level has at a key

pub find_mapped : (base : ℕ) (key : List ℕ) (es : List Pair) → find (slice_cmp nat_cmp) key (map (pair_with_base base) es) ≡ option_map (with_base base) (find (slice_cmp nat_cmp) key es)
find_mapped base key [] = refl
find_mapped base key (e ∷ es) = go (eq_by_cmp (slice_cmp nat_cmp) key e.0) (find_mapped base key es)
  where
    go : (t : Truth) → find (slice_cmp nat_cmp) key (map (pair_with_base base) es) ≡ option_map (with_base base) (find (slice_cmp nat_cmp) key es)
        → cond t (Some (with_base base e.1)) (find (slice_cmp nat_cmp) key (map (pair_with_base base) es)) ≡ option_map (with_base base) (cond t (Some e.1) (find (slice_cmp nat_cmp) key es))
    go true rest = refl
    go false rest = rest

pub level_entry : (base : ℕ) (f : IndexFooter) (file : List ℕ) (level : Level) (h : IsFileOf base f file level) (key : List ℕ) → get level key ≡ option_map (with_base base) (get h.stored key)
level_entry base f file level h key =
    get-entries level key ∙ ap (find (slice_cmp nat_cmp) key) h.level_is ∙ find_mapped base key (entries h.stored) ∙ ap (option_map (with_base base)) (sym (get-entries h.stored key))

-- a probe of the key's bucket
pub probed : (base : ℕ) (f : IndexFooter) (file : List ℕ) (level : Level) (h : IsFileOf base f file level) (key : List ℕ) (b : ℕ) (mark : BucketMark) (es : List Pair) (found : Option Entry) → b ≡ bucket_of (length f.buckets) key
    → slice_get f.buckets b ≡ Some mark → IsTheBucket (length f.buckets) b base (bucket_in file mark) es → found ≡ option_map (with_base base) (find (slice_cmp nat_cmp) key es) → found ≡ get level key
probed base f file level h key b mark es found b_is there is found_is =
    let n = buckets_for (len h.stored) in
    let number : length f.buckets ≡ n = ap (λ (g : IndexFooter). length g.buckets) h.footer_is ∙ buckets_number h.stored in
    let of_key : b ≡ bucket_of n key = b_is ∙ ap (λ (k : ℕ). bucket_of k key) number in
    let less : b < n = omega (arith, slice_get_within f.buckets b mark there, number) in
    let bucket = in_bucket n (entries h.stored) b in
    let stored : slice_get (buckets_of h.stored) (bucket_of n key) ≡ Some bucket = ap (λ (k : ℕ). slice_get (buckets_of h.stored) k) (sym of_key) ∙ bucket_at h.stored b less in
    found_is ∙ ap (λ (xs : List Pair). option_map (with_base base) (find (slice_cmp nat_cmp) key xs)) (bucket_is base f file level h b mark es there is)
    ∙ ap (option_map (with_base base)) (bucket_tells h.stored key bucket stored) ∙ sym (level_entry base f file level h key)

-- an entry that was found has a sum that fits
pub found_fits : (base : ℕ) (key : List ℕ) (es : List Pair) (entry : Entry) → list_all (λ e. sum_fits base e.1) es ≡ true → Some entry ≡ find (slice_cmp nat_cmp) key es → sum_fits base entry ≡ true
found_fits base key [] entry sums found = cc
found_fits base key (e ∷ es) entry sums found = go (eq_by_cmp (slice_cmp nat_cmp) key e.0) (found_fits base key es entry parts.1) found
  where
    parts : (sum_fits base e.1 ≡ true) × (list_all (λ e. sum_fits base e.1) es ≡ true)
    parts = and_parts (sum_fits base e.1) (list_all (λ e. sum_fits base e.1) es) sums

    go : (t : Truth) → (Some entry ≡ find (slice_cmp nat_cmp) key es → sum_fits base entry ≡ true) → Some entry ≡ cond t (Some e.1) (find (slice_cmp nat_cmp) key es) → sum_fits base entry ≡ true
    go true later is = ap (sum_fits base) (same_some entry e.1 is) ∙ parts.0
    go false later is = later is
