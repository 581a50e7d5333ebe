-- Numbers, entries and buckets at the front of bytes are the only ones that can stand there.
use Rattle.std.proofs.Common.{◌≡◌, refl, ap, sym, ◌∙◌, ℕ, ◌<◌, ◌^◌, arith, List, [], ◌∷◌, ◌++◌, length, Some, None}
use Rattle.std.specs.List.{AllByRecursion, flat_map}
use Rattle.std.specs.FinMap.{entries, len, len-entries, same_entries_map}
use Rattle.std.proofs.lemmas.List.{append_assoc, append_cancel_left, length-append}
use Rattle.byteorder.specs.Endian.{big_bytes, big_number}
use Rattle.byteorder.specs.Numbers.{big_number-reads_back, length-bytes_high_first}
use Rattle.sha2.specs.Sha256.{sha256}
use Rattle.index_level0.specs.declared.place.Place.{Place}
use Rattle.index_level0.specs.Levels.{Entry}
use Rattle.index_file.specs.Buckets.{Pair, PairFits, PlaceFits, bucket_body, bucket_file, entry_bytes, place_bytes, u32_bytes, u64_bytes}
use Rattle.index_file.specs.FormLaws.{BytesOfOneBody}

pub heads : (x y : ℕ) (xs ys : List ℕ) → x ∷ xs ≡ y ∷ ys → (x ≡ y) × (xs ≡ ys)
heads x y xs ys e = (cc, cc)

pub parts : (a b r s : List ℕ) → length a ≡ length b → a ++ r ≡ b ++ s → (a ≡ b) × (r ≡ s)
parts [] [] r s same e = (refl, e)
parts [] (y ∷ b) r s same e = absurd (omega arith)
parts (x ∷ a) [] r s same e = absurd (omega arith)
parts (x ∷ a) (y ∷ b) r s same e =
    let h = heads x y (a ++ r) (b ++ s) e in
    let len : length a ≡ length b = omega arith in
    let p = parts a b r s len h.1 in
    (λ i. h.0 i ∷ p.0 i, p.1)

-- the ends have the same length
pub ends : (a b r s : List ℕ) → length r ≡ length s → a ++ r ≡ b ++ s → (a ≡ b) × (r ≡ s)
ends a b r s same e = parts a b r s (omega (arith, ap length e, length-append a r, length-append b s)) e

number_front : (w n m : ℕ) (r s : List ℕ) → n < 256 ^ w → m < 256 ^ w → big_bytes w n ++ r ≡ big_bytes w m ++ s → (n ≡ m) × (r ≡ s)
number_front w n m r s f g e =
    let same : n ≡ m = sym (big_number-reads_back w n r f) ∙ ap (big_number w) e ∙ big_number-reads_back w m s g in
    (same, append_cancel_left (big_bytes w m) r s (ap (λ (k : ℕ). big_bytes w k ++ r) (sym same) ∙ e))

pub u32_front : (n m : ℕ) (r s : List ℕ) → n < 2 ^ 32 → m < 2 ^ 32 → u32_bytes n ++ r ≡ u32_bytes m ++ s → (n ≡ m) × (r ≡ s)
unfolding u32_bytes
u32_front n m r s f g e = number_front 4 n m r s f g e

pub u64_front : (n m : ℕ) (r s : List ℕ) → n < 2 ^ 64 → m < 2 ^ 64 → u64_bytes n ++ r ≡ u64_bytes m ++ s → (n ≡ m) × (r ≡ s)
unfolding u64_bytes
u64_front n m r s f g e = number_front 8 n m r s f g e

pub length-u64 : (n : ℕ) → length (u64_bytes n) ≡ 8
unfolding u64_bytes
length-u64 n = length-bytes_high_first 8 n

pub length-u32 : (n : ℕ) → length (u32_bytes n) ≡ 4
unfolding u32_bytes
length-u32 n = length-bytes_high_first 4 n

same_place : (p q : Place) → p.segment ≡ q.segment → p.row ≡ q.row → p ≡ q
same_place p q e f i = record { segment = e i; row = f i }

pub place_front : (x y : Entry) (r s : List ℕ) → PlaceFits x → PlaceFits y → place_bytes x ++ r ≡ place_bytes y ++ s → (x ≡ y) × (r ≡ s)
place_front None None r s f g e = (refl, (heads 0 0 r s e).1)
place_front None (Some q) r s f g e = absurd (omega (arith, (heads 0 1 r ((u64_bytes q.segment ++ u32_bytes q.row) ++ s) e).0))
place_front (Some p) None r s f g e = absurd (omega (arith, (heads 1 0 ((u64_bytes p.segment ++ u32_bytes p.row) ++ r) s e).0))
place_front (Some p) (Some q) r s f g e =
    let t = (heads 1 1 ((u64_bytes p.segment ++ u32_bytes p.row) ++ r) ((u64_bytes q.segment ++ u32_bytes q.row) ++ s) e).1 in
    let a = u64_front p.segment q.segment (u32_bytes p.row ++ r) (u32_bytes q.row ++ s) f.0 g.0
    (sym (append_assoc (u64_bytes p.segment) (u32_bytes p.row) r) ∙ t ∙ append_assoc (u64_bytes q.segment) (u32_bytes q.row) s) in
    let b = u32_front p.row q.row r s f.1 g.1 a.1 in
    (ap (λ (x : Place). Some x) (same_place p q a.0 b.0), b.1)

entry_front : (x y : Pair) (r s : List ℕ) → PairFits x → PairFits y → entry_bytes x ++ r ≡ entry_bytes y ++ s → (x ≡ y) × (r ≡ s)
entry_front x y r s f g e =
    let h = heads (length x.0) (length y.0) ((x.0 ++ place_bytes x.1) ++ r) ((y.0 ++ place_bytes y.1) ++ s) e in
    let k = parts x.0 y.0 (place_bytes x.1 ++ r) (place_bytes y.1 ++ s) h.0 (sym (append_assoc x.0 (place_bytes x.1) r) ∙ h.1 ∙ append_assoc y.0 (place_bytes y.1) s) in
    let p = place_front x.1 y.1 r s f.2 g.2 k.1 in
    (λ i. (k.0 i, p.0 i), p.1)

pub entries_front : (xs ys : List Pair) (r s : List ℕ) → length xs ≡ length ys → AllByRecursion PairFits xs → AllByRecursion PairFits ys
    → flat_map entry_bytes xs ++ r ≡ flat_map entry_bytes ys ++ s → (xs ≡ ys) × (r ≡ s)
entries_front [] [] r s same f g e = (refl, e)
entries_front [] (y ∷ ys) r s same f g e = absurd (omega arith)
entries_front (x ∷ xs) [] r s same f g e = absurd (omega arith)
entries_front (x ∷ xs) (y ∷ ys) r s same f g e =
    let a = entry_front x y (flat_map entry_bytes xs ++ r) (flat_map entry_bytes ys ++ s) f.0 g.0
    (sym (append_assoc (entry_bytes x) (flat_map entry_bytes xs) r) ∙ e ∙ append_assoc (entry_bytes y) (flat_map entry_bytes ys) s) in
    let len : length xs ≡ length ys = omega arith in
    let b = entries_front xs ys r s len f.1 g.1 a.1 in
    (λ i. a.0 i ∷ b.0 i, b.1)

pub record BucketFits (es : List Pair) : Type 0 where
  pub each : AllByRecursion PairFits es
  pub few : length es < 2 ^ 64

bucket_front : (xs ys : List Pair) (r s : List ℕ) → BucketFits xs → BucketFits ys → bucket_file xs ++ r ≡ bucket_file ys ++ s → (xs ≡ ys) × (r ≡ s)
bucket_front xs ys r s f g e =
    let open_ : (es : List Pair) (t : List ℕ) → bucket_file es ++ t ≡ u64_bytes (length es) ++ (flat_map entry_bytes es ++ (sha256 (bucket_body es) ++ t)) = opened in
    let a = u64_front (length xs) (length ys) (flat_map entry_bytes xs ++ (sha256 (bucket_body xs) ++ r)) (flat_map entry_bytes ys ++ (sha256 (bucket_body ys) ++ s)) f.few g.few (sym (open_ xs r) ∙ e ∙ open_ ys s) in
    let b = entries_front xs ys (sha256 (bucket_body xs) ++ r) (sha256 (bucket_body ys) ++ s) a.0 f.each g.each a.1 in
    let c = parts (sha256 (bucket_body xs)) (sha256 (bucket_body ys)) r s (ap (λ (es : List Pair). length (sha256 (bucket_body es))) b.0) b.1 in
    (b.0, c.1)
  where
    opened : (es : List Pair) (t : List ℕ) → bucket_file es ++ t ≡ u64_bytes (length es) ++ (flat_map entry_bytes es ++ (sha256 (bucket_body es) ++ t))
    opened es t = append_assoc (bucket_body es) (sha256 (bucket_body es)) t ∙ append_assoc (u64_bytes (length es)) (flat_map entry_bytes es) (sha256 (bucket_body es) ++ t)

pub buckets_front : (bs cs : List (List Pair)) → length bs ≡ length cs → AllByRecursion BucketFits bs → AllByRecursion BucketFits cs
    → flat_map bucket_file bs ≡ flat_map bucket_file cs → bs ≡ cs
buckets_front [] [] same f g e = refl
buckets_front [] (c ∷ cs) same f g e = absurd (omega arith)
buckets_front (b ∷ bs) [] same f g e = absurd (omega arith)
buckets_front (b ∷ bs) (c ∷ cs) same f g e =
    let a = bucket_front b c (flat_map bucket_file bs) (flat_map bucket_file cs) f.0 g.0 e in
    let len : length bs ≡ length cs = omega arith in
    let rest = buckets_front bs cs len f.1 g.1 a.1 in
    λ i. a.0 i ∷ rest i

append_nil : (xs : List ℕ) → xs ++ [] ≡ xs
append_nil [] = refl
append_nil (x ∷ xs) = ap (λ ys. x ∷ ys) (append_nil xs)

pub bytes_of_one_body : BytesOfOneBody
bytes_of_one_body a b f g e =
    let x = entries a.changes in
    let y = entries b.changes in
    let p = u64_front a.edit b.edit (u32_bytes (len a.changes) ++ flat_map entry_bytes x) (u32_bytes (len b.changes) ++ flat_map entry_bytes y) f.edit g.edit e in
    let q = u32_front (len a.changes) (len b.changes) (flat_map entry_bytes x) (flat_map entry_bytes y) f.few g.few p.1 in
    let r = entries_front x y [] [] (sym (len-entries a.changes) ∙ q.0 ∙ len-entries b.changes) f.each g.each (append_nil (flat_map entry_bytes x) ∙ q.1 ∙ sym (append_nil (flat_map entry_bytes y))) in
    (p.0, same_entries_map a.changes b.changes r.0)
