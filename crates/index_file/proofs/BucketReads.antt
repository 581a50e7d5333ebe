-- The entries that the bytes of a bucket are.
use Rattle.std.proofs.Common.{◌≡◌, ap, sym, subst, ◌∙◌, ℕ, ◌+◌, arith, List, length, take, drop, Some, Bool as Truth, true, false, refl, T, slice_get}
use Rattle.std.specs.List.{list_all}
use Rattle.std.specs.FinMap.{is_sorted}
use Rattle.std.specs.Cmp.Lexicographic.{slice_cmp}
use Rattle.std.specs.Ordering.{nat_cmp}
use Rattle.std.proofs.lemmas.List.{length-append, take_at}
use Rattle.sha2.specs.Sha256.{sha256}
use Rattle.sha2.proofs.Facts256.{length-sha256}
use Rattle.index_file.specs.declared.footers.BucketMark.{BucketMark}
use Rattle.index_file.specs.Buckets.{Pair, bucket_body, bucket_file}
use Rattle.index_file.specs.Entries.{belongs, IsBucketOf, IsNoBucket, IsTheBucket}
use Rattle.index_file.specs.Reading.{IsBucket}
use Rattle.index_file.proofs.FooterFacts.{with_digest}
use Rattle.index_file.proofs.SequenceFacts.{bucket_of_one_list}

body_in : (es : List Pair) (bytes : List ℕ) (len : ℕ) → length bytes ≡ len + 32 → bucket_file es ≡ bytes → bucket_body es ≡ take len bytes
body_in es bytes len long is =
    let body = bucket_body es in
    let counted : length body ≡ len = omega (arith, long, ap length is, length-append body (sha256 body), length-sha256 body) in
    sym (take_at body (sha256 body) len counted) ∙ ap (take len) is

pub undigested : (buckets b base len : ℕ) (bytes : List ℕ) (es : List Pair) → length bytes ≡ len + 32 → IsBucketOf buckets b base bytes es → IsBucket (take len bytes) es
undigested buckets b base len bytes es long is = record { fit = is.fit; few = is.few; written = body_in es bytes len long is.written }

pub the_bucket : (buckets b base len : ℕ) (bytes : List ℕ) (es : List Pair) → length bytes ≡ len + 32 → drop len bytes ≡ sha256 (take len bytes) → IsBucket (take len bytes) es
    → is_sorted (slice_cmp nat_cmp) es ≡ true → list_all (belongs buckets b base) es ≡ true → IsTheBucket buckets b base bytes es
the_bucket buckets b base len bytes es long agree is rise belong = record {
  is = record { fit = is.fit; few = is.few; rise = subst T (sym rise) tt; belong = belong; written = with_digest (bucket_body es) bytes len is.written agree };
  only = λ others has. bucket_of_one_list (take len bytes) es others is (undigested buckets b base len bytes others long has);
}

pub no_other_bucket : (buckets b base len : ℕ) (bytes : List ℕ) (es : List Pair) → length bytes ≡ len + 32 → drop len bytes ≡ sha256 (take len bytes) → IsBucket (take len bytes) es
    → (is_sorted (slice_cmp nat_cmp) es ≡ true → list_all (belongs buckets b base) es ≡ true → ⊥) → IsNoBucket buckets b base len bytes
no_other_bucket buckets b base len bytes es long agree is not = record {
  agree = agree;
  none = λ others has.
      let same : others ≡ es = bucket_of_one_list (take len bytes) others es (undigested buckets b base len bytes others long has) is in
      let has_es : IsBucketOf buckets b base bytes es = subst (λ (xs : List Pair). IsBucketOf buckets b base bytes xs) same has in
      not (is_true (is_sorted (slice_cmp nat_cmp) es) has_es.rise) has_es.belong;
}
  where
    is_true : (t : Truth) → T t → t ≡ true
    is_true true h = refl
    is_true false h = absurd h

pub no_bucket_at_all : (buckets b base len : ℕ) (bytes : List ℕ) → length bytes ≡ len + 32 → drop len bytes ≡ sha256 (take len bytes) → ((es : List Pair) → IsBucket (take len bytes) es → ⊥) → IsNoBucket buckets b base len bytes
no_bucket_at_all buckets b base len bytes long agree none = record { agree = agree; none = λ es has. none es (undigested buckets b base len bytes es long has) }

pub same_mark : (marks : List BucketMark) (b : ℕ) (mark other : BucketMark) → slice_get marks b ≡ Some mark → slice_get marks b ≡ Some other → mark ≡ other
same_mark marks b mark other got also = same mark other (sym got ∙ also)
  where
    same : (x y : BucketMark) → Some x ≡ Some y → x ≡ y
    same x y e = cc
