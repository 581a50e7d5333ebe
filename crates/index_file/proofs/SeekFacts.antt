-- What is seen of the entries of a bucket, one after the other.
use Rattle.std.proofs.Common.{◌≡◌, refl, ap, sym, subst, ◌∙◌, ℕ, ◌+◌, ◌-◌, ◌<◌, ◌≤◌, arith, List, [], ◌∷◌, ◌++◌, length, take, drop, get_or, Some, None, cond}
use Rattle.std.specs.List.{AllByRecursion, flat_map}
use Rattle.std.specs.FinMap.{find}
use Rattle.std.specs.Cmp.Lexicographic.{slice_cmp}
use Rattle.std.specs.Ordering.{eq_by_cmp, nat_cmp}
use Rattle.std.proofs.lemmas.List.{append_assoc, length-append, take_at, drop_at, drop_more, drop_all}
use Rattle.index_level0.specs.Levels.{Entry}
use Rattle.index_file.specs.declared.seeking.Front.TheVariants.{Found, NoEntry, Other}
use Rattle.index_file.specs.Buckets.{Pair, PairFits, entry_bytes, place_bytes, u32_bytes, u64_bytes}
use Rattle.index_file.specs.Reading.{AreEntries}
use Rattle.index_file.specs.Seeking.{Sees}
use Rattle.index_file.proofs.Fronts.{length-u32, length-u64}
use Rattle.index_file.proofs.ReadingFacts.{rest_is, twice}

-- ---- how many bytes a place takes

first_is : (bytes more : List ℕ) (n : ℕ) → bytes ≡ n ∷ more → get_or bytes 0 0 ≡ n
first_is bytes more n e = ap (λ xs. get_or xs 0 0) e

pub one_byte : (bytes : List ℕ) → get_or bytes 0 0 ≡ 0 → (x : Entry) (more : List ℕ) → bytes ≡ place_bytes x ++ more → Some 1 ≡ Some (length (place_bytes x))
one_byte bytes is None more e = refl
one_byte bytes is (Some p) more e = absurd (omega (arith, is, first_is bytes ((u64_bytes p.segment ++ u32_bytes p.row) ++ more) 1 e))

thirteen : (x : Entry) → (x ≡ None → ⊥) → length (place_bytes x) ≡ 13
thirteen None some = absurd (some refl)
thirteen (Some p) some = omega (arith, length-append (u64_bytes p.segment) (u32_bytes p.row), length-u64 p.segment, length-u32 p.row)

no_tombstone : (bytes : List ℕ) → (get_or bytes 0 0 ≡ 0 → ⊥) → (x : Entry) (more : List ℕ) → bytes ≡ place_bytes x ++ more → x ≡ None → ⊥
no_tombstone bytes not_0 x more e none = not_0 (first_is bytes more 0 (e ∙ ap (λ (y : Entry). place_bytes y ++ more) none))

pub so_short : (bytes : List ℕ) → (get_or bytes 0 0 ≡ 0 → ⊥) → length bytes < 13 → (x : Entry) (more : List ℕ) → bytes ≡ place_bytes x ++ more → ⊥
so_short bytes not_0 short x more e = omega (arith, short, ap length e, length-append (place_bytes x) more, thirteen x (no_tombstone bytes not_0 x more e))

pub thirteen_bytes : (bytes : List ℕ) → (get_or bytes 0 0 ≡ 0 → ⊥) → (x : Entry) (more : List ℕ) → bytes ≡ place_bytes x ++ more → Some 13 ≡ Some (length (place_bytes x))
thirteen_bytes bytes not_0 x more e = ap Some (sym (thirteen x (no_tombstone bytes not_0 x more e)))

-- ---- the parts of an entry at the front

pub record Parts (bytes : List ℕ) (e : Pair) (more : List ℕ) (len : ℕ) : Type 0 where
  pub long : 1 + len ≤ length bytes
  pub key : take ((1 + len) - 1) (drop 1 bytes) ≡ e.0
  pub place : take (length bytes - (1 + len)) (drop (1 + len) bytes) ≡ place_bytes e.1 ++ more
  pub same : len ≡ length e.0

pub parts_of : (bytes : List ℕ) (e : Pair) (more : List ℕ) (len : ℕ) → len ≡ get_or bytes 0 0 → bytes ≡ entry_bytes e ++ more → Parts bytes e more len
parts_of bytes e more len is split =
    let one : len ≡ length e.0 = is ∙ first_is bytes ((e.0 ++ place_bytes e.1) ++ more) (length e.0) split in
    let behind : drop 1 bytes ≡ e.0 ++ (place_bytes e.1 ++ more) = ap (drop 1) split ∙ append_assoc e.0 (place_bytes e.1) more in
    let n : (1 + len) - 1 ≡ len = omega arith in
    record {
      long = omega (arith, one, ap length split, length-append (e.0 ++ place_bytes e.1) more, length-append e.0 (place_bytes e.1));
      key = ap (λ k. take k (drop 1 bytes)) n ∙ ap (take len) behind ∙ take_at e.0 (place_bytes e.1 ++ more) len (sym one);
      place = rest_is (1 + len) bytes ∙ sym (twice 1 len bytes) ∙ ap (drop len) behind ∙ drop_at e.0 (place_bytes e.1 ++ more) len (sym one);
      same = one;
    }

pub entry_length : (e : Pair) → length (entry_bytes e) ≡ 1 + length e.0 + length (place_bytes e.1)
entry_length e = omega (arith, length-append e.0 (place_bytes e.1))

-- ---- one entry after the other

-- from a place on stand the entries from the n-th on, and none before it has the key
pub record Left (bytes key : List ℕ) (n at : ℕ) (es : List Pair) : Type 0 where
  pub rest : drop at bytes ≡ flat_map entry_bytes (drop n es)
  pub fit : AllByRecursion PairFits (drop n es)
  pub same : find (slice_cmp nat_cmp) key (drop n es) ≡ find (slice_cmp nat_cmp) key es

pub all_left : (bytes key : List ℕ) (count : ℕ) (es : List Pair) → AreEntries count (take (length bytes - 8) (drop 8 bytes)) es → Left bytes key 0 8 es
all_left bytes key count es are = record { rest = sym (rest_is 8 bytes) ∙ sym are.written; fit = are.fit; same = refl }

-- the next entry is seen at the front
record Next (bytes key : List ℕ) (n at : ℕ) (es : List Pair) : Type 0 where
  e : Pair
  is : drop n es ≡ e ∷ drop (n + 1) es
  fits : PairFits e
  fit : AllByRecursion PairFits (drop (n + 1) es)
  rest : take (length bytes - at) (drop at bytes) ≡ entry_bytes e ++ flat_map entry_bytes (drop (n + 1) es)
  behind : drop (at + length (entry_bytes e)) bytes ≡ flat_map entry_bytes (drop (n + 1) es)
  same : cond (eq_by_cmp (slice_cmp nat_cmp) key e.0) (Some e.1) (find (slice_cmp nat_cmp) key (drop (n + 1) es)) ≡ find (slice_cmp nat_cmp) key es

next_of : (bytes key : List ℕ) (n at : ℕ) (es : List Pair) → n < length es → Left bytes key n at es → Next bytes key n at es
next_of bytes key n at es less left =
    let d : Pair = ([], None) in
    let e = get_or es n d in
    let more = drop (n + 1) es in
    let is : drop n es ≡ e ∷ more = drop_more es n d less in
    let fit : AllByRecursion PairFits (e ∷ more) = subst (λ xs. AllByRecursion PairFits xs) is left.fit in
    let rest : drop at bytes ≡ entry_bytes e ++ flat_map entry_bytes more = left.rest ∙ ap (flat_map entry_bytes) is in
    record {
      e = e;
      is = is;
      fits = fit.0;
      fit = fit.1;
      rest = rest_is at bytes ∙ rest;
      behind = sym (twice at (length (entry_bytes e)) bytes) ∙ ap (drop (length (entry_bytes e))) rest ∙ drop_at (entry_bytes e) (flat_map entry_bytes more) (length (entry_bytes e)) refl;
      same = ap (find (slice_cmp nat_cmp) key) (sym is) ∙ left.same;
    }

pub found_here : (bytes key : List ℕ) (n at : ℕ) (es : List Pair) (place : Entry) → n < length es → Left bytes key n at es → Sees (take (length bytes - at) (drop at bytes)) key (Found place)
    → Some place ≡ find (slice_cmp nat_cmp) key es
found_here bytes key n at es place less left sees =
    let next = next_of bytes key n at es less left in
    let seen = sees next.e (flat_map entry_bytes (drop (n + 1) es)) next.fits next.rest in
    ap Some seen.1 ∙ sym (ap (λ t. cond t (Some next.e.1) (find (slice_cmp nat_cmp) key (drop (n + 1) es))) seen.0) ∙ next.same

pub left_on : (bytes key : List ℕ) (n at taken : ℕ) (es : List Pair) → n < length es → Left bytes key n at es → Sees (take (length bytes - at) (drop at bytes)) key (Other taken)
    → Left bytes key (n + 1) (at + taken) es
left_on bytes key n at taken es less left sees =
    let next = next_of bytes key n at es less left in
    let seen = sees next.e (flat_map entry_bytes (drop (n + 1) es)) next.fits next.rest in
    record {
      rest = ap (λ k. drop (at + k) bytes) seen.1 ∙ next.behind;
      fit = next.fit;
      same = sym (ap (λ t. cond t (Some next.e.1) (find (slice_cmp nat_cmp) key (drop (n + 1) es))) seen.0) ∙ next.same;
    }

pub none_missed : (bytes key : List ℕ) (n at : ℕ) (es : List Pair) → n < length es → Left bytes key n at es → Sees (take (length bytes - at) (drop at bytes)) key NoEntry → ⊥
none_missed bytes key n at es less left sees =
    let next = next_of bytes key n at es less left in
    sees next.e (flat_map entry_bytes (drop (n + 1) es)) next.fits next.rest

pub none_found : (bytes key : List ℕ) (n at count : ℕ) (es : List Pair) → length es ≤ n → Left bytes key n at es → None ≡ find (slice_cmp nat_cmp) key es
none_found bytes key n at count es all left = ap (find (slice_cmp nat_cmp) key) (sym (drop_all n es all)) ∙ left.same
