-- Entries one after the other.
use Rattle.std.proofs.Common.{◌≡◌, refl, ap, sym, subst, ◌∙◌, ℕ, suc, zero, ◌+◌, ◌-◌, ◌<◌, ◌≤◌, ◌^◌, arith, List, [], ◌∷◌, ◌++◌, length, take, drop, Some, None}
use Rattle.std.specs.List.{AllByRecursion, flat_map}
use Rattle.std.proofs.lemmas.List.{append_assoc, length-append, length-drop, take-append-drop}
use Rattle.index_file.specs.Buckets.{Pair, PairFits, entry_bytes, u32_bytes, u64_bytes}
use Rattle.index_file.specs.Reading.{AreEntries, IsBodyOf, IsBucket, IsEntryFront}
use Rattle.index_file.specs.FormLaws.{BucketOfOneList}
use Rattle.index_file.proofs.Fronts.{entries_front, length-u32, length-u64, u32_front, u64_front}
use Rattle.index_file.proofs.ReadingFacts.{parted, rest_is, twice}

flat_append : (xs ys : List Pair) → flat_map entry_bytes (xs ++ ys) ≡ flat_map entry_bytes xs ++ flat_map entry_bytes ys
flat_append [] ys = refl
flat_append (x ∷ xs) ys = ap (λ bs. entry_bytes x ++ bs) (flat_append xs ys) ∙ sym (append_assoc (entry_bytes x) (flat_map entry_bytes xs) (flat_map entry_bytes ys))

append_nil : (xs : List ℕ) → xs ++ [] ≡ xs
append_nil [] = refl
append_nil (x ∷ xs) = ap (λ ys. x ∷ ys) (append_nil xs)

all_push : (xs : List Pair) (x : Pair) → AllByRecursion PairFits xs → PairFits x → AllByRecursion PairFits (xs ++ x ∷ [])
all_push [] x all one = (one, tt)
all_push (y ∷ ys) x all one = (all.0, all_push ys x all.1 one)

all_take : (n : ℕ) (xs : List Pair) → AllByRecursion PairFits xs → AllByRecursion PairFits (take n xs)
all_take zero xs all = tt
all_take (suc n) [] all = tt
all_take (suc n) (x ∷ xs) all = (all.0, all_take n xs all.1)

all_drop : (n : ℕ) (xs : List Pair) → AllByRecursion PairFits xs → AllByRecursion PairFits (drop n xs)
all_drop zero xs all = all
all_drop (suc n) [] all = tt
all_drop (suc n) (x ∷ xs) all = all_drop n xs all.1

length_taken : (n : ℕ) (xs : List Pair) → n ≤ length xs → length (take n xs) ≡ n
length_taken zero xs less = refl
length_taken (suc n) [] less = absurd (omega arith)
length_taken (suc n) (x ∷ xs) less = let k : n ≤ length xs = omega arith in ap suc (length_taken n xs k)

length_pushed : (xs : List Pair) (x : Pair) → length (xs ++ x ∷ []) ≡ length xs + 1
length_pushed [] x = omega arith
length_pushed (y ∷ ys) x = let e = length_pushed ys x in omega arith

-- one more entry was read
pub record ReadSoFar (bytes : List ℕ) (n at : ℕ) (es : List Pair) : Type 0 where
  pub inside : at ≤ length bytes
  pub number : length es ≡ n
  pub fit : AllByRecursion PairFits es
  pub split : flat_map entry_bytes es ++ drop at bytes ≡ bytes

pub reads_on : (bytes : List ℕ) (n at taken : ℕ) (done new : List Pair) (e : Pair) → ReadSoFar bytes n at done
    → IsEntryFront (take (length bytes - at) (drop at bytes)) (Some (e, taken)) → new ≡ done ++ e ∷ [] → ReadSoFar bytes (n + 1) (at + taken) new
reads_on bytes n at taken done new e so_far front is =
    let f : IsEntryFront (drop at bytes) (Some (e, taken)) = subst (λ xs. IsEntryFront xs (Some (e, taken))) (rest_is at bytes) front in
    record {
      inside = omega (arith, so_far.inside, f.2, length-drop at bytes);
      number = ap length is ∙ length_pushed done e ∙ omega (arith, so_far.number);
      fit = subst (λ es. AllByRecursion PairFits es) (sym is) (all_push done e so_far.fit f.0);
      split =
          ap (λ es. flat_map entry_bytes es ++ drop (at + taken) bytes) is
          ∙ ap (λ xs. xs ++ drop (at + taken) bytes) (flat_append done (e ∷ []) ∙ ap (λ xs. flat_map entry_bytes done ++ xs) (append_nil (entry_bytes e)))
          ∙ append_assoc (flat_map entry_bytes done) (entry_bytes e) (drop (at + taken) bytes)
          ∙ ap (λ xs. flat_map entry_bytes done ++ xs) (ap (λ xs. entry_bytes e ++ xs) (sym (twice at taken bytes)) ∙ sym f.1)
          ∙ so_far.split;
    }

-- no entries can be the bytes where the next one can't be read
pub none_next : (bytes : List ℕ) (n at count : ℕ) (done : List Pair) → ReadSoFar bytes n at done → n < count
    → IsEntryFront (take (length bytes - at) (drop at bytes)) None → (es : List Pair) → AreEntries count bytes es → ⊥
none_next bytes n at count done so_far less front es are =
    let f : IsEntryFront (drop at bytes) None = subst (λ xs. IsEntryFront xs None) (rest_is at bytes) front in
    let there : n ≤ length es = omega (arith, are.number) in
    let whole : flat_map entry_bytes done ++ drop at bytes ≡ flat_map entry_bytes (take n es) ++ flat_map entry_bytes (drop n es) =
    so_far.split ∙ sym are.written ∙ ap (flat_map entry_bytes) (sym (take-append-drop n es)) ∙ flat_append (take n es) (drop n es) in
    let same = entries_front done (take n es) (drop at bytes) (flat_map entry_bytes (drop n es)) (so_far.number ∙ sym (length_taken n es there)) so_far.fit (all_take n es are.fit) whole in
    one (drop n es) (drop at bytes) (all_drop n es are.fit) (omega (arith, length-drop n es, are.number)) same.1 f
  where
    one : (xs : List Pair) (rest : List ℕ) → AllByRecursion PairFits xs → 0 < length xs → rest ≡ flat_map entry_bytes xs → IsEntryFront rest None → ⊥
    one [] rest fit some is none = omega arith
    one (x ∷ xs) rest fit some is none = none x (flat_map entry_bytes xs) fit.0 is

-- nor where bytes are left
pub none_left : (bytes : List ℕ) (n at count : ℕ) (done : List Pair) → ReadSoFar bytes n at done → n ≡ count → (at ≡ length bytes → ⊥) → (es : List Pair) → AreEntries count bytes es → ⊥
none_left bytes n at count done so_far all left es are =
    let whole : flat_map entry_bytes done ++ drop at bytes ≡ flat_map entry_bytes es ++ [] = so_far.split ∙ sym are.written ∙ sym (append_nil (flat_map entry_bytes es)) in
    let same = entries_front done es (drop at bytes) [] (so_far.number ∙ all ∙ sym are.number) so_far.fit are.fit whole in
    let none : length (drop at bytes) ≡ 0 = ap length same.1 in
    left (omega (arith, none, length-drop at bytes, so_far.inside))

-- ---- a bucket

pub bucket_has : (bytes : List ℕ) (count : ℕ) (es : List Pair) → count < 2 ^ 64 → take 8 bytes ≡ u64_bytes count → IsBucket bytes es → AreEntries count (take (length bytes - 8) (drop 8 bytes)) es
bucket_has bytes count es fits front is =
    let p = u64_front (length es) count (flat_map entry_bytes es) (drop 8 bytes) is.few fits (is.written ∙ parted 8 bytes (u64_bytes count) front) in
    record { number = p.0; fit = is.fit; written = p.1 ∙ sym (rest_is 8 bytes) }

pub bucket_is : (bytes : List ℕ) (count : ℕ) (es : List Pair) → count < 2 ^ 64 → take 8 bytes ≡ u64_bytes count → AreEntries count (take (length bytes - 8) (drop 8 bytes)) es → IsBucket bytes es
bucket_is bytes count es fits front are =
    record {
      fit = are.fit;
      few = omega (arith, are.number, fits);
      written = ap (λ n. u64_bytes n ++ flat_map entry_bytes es) are.number ∙ ap (λ xs. u64_bytes count ++ xs) (are.written ∙ rest_is 8 bytes) ∙ sym (parted 8 bytes (u64_bytes count) front);
    }

pub too_short : (bytes : List ℕ) (es : List Pair) → length bytes < 8 → IsBucket bytes es → ⊥
too_short bytes es short is = omega (arith, short, ap length is.written, length-append (u64_bytes (length es)) (flat_map entry_bytes es), length-u64 (length es))

pub bucket_of_one_list : BucketOfOneList
bucket_of_one_list bytes a b x y =
    let p = u64_front (length a) (length b) (flat_map entry_bytes a) (flat_map entry_bytes b) x.few y.few (x.written ∙ sym y.written) in
    (entries_front a b [] [] p.0 x.fit y.fit (append_nil (flat_map entry_bytes a) ∙ p.1 ∙ sym (append_nil (flat_map entry_bytes b)))).0

-- ---- a body of the log

pub body_has : (bytes : List ℕ) (told count : ℕ) → told < 2 ^ 64 → take 8 bytes ≡ u64_bytes told → count < 2 ^ 32 → take 4 (take (length bytes - 8) (drop 8 bytes)) ≡ u32_bytes count
    → (edit : ℕ) (es : List Pair) → IsBodyOf bytes edit es → AreEntries count (take (length bytes - 12) (drop 12 bytes)) es
body_has bytes told count fits front few behind edit es is =
    let p = u64_front edit told (u32_bytes (length es) ++ flat_map entry_bytes es) (drop 8 bytes) is.edit_fits fits (is.written ∙ parted 8 bytes (u64_bytes told) front) in
    let next : take 4 (drop 8 bytes) ≡ u32_bytes count = ap (take 4) (sym (rest_is 8 bytes)) ∙ behind in
    let q = u32_front (length es) count (flat_map entry_bytes es) (drop 4 (drop 8 bytes)) is.few few (p.1 ∙ parted 4 (drop 8 bytes) (u32_bytes count) next) in
    record { number = q.0; fit = is.fit; written = q.1 ∙ twice 8 4 bytes ∙ sym (rest_is 12 bytes) }

pub same_entries : (count : ℕ) (bytes : List ℕ) (a b : List Pair) → AreEntries count bytes a → AreEntries count bytes b → a ≡ b
same_entries count bytes a b x y =
    (entries_front a b [] [] (x.number ∙ sym y.number) x.fit y.fit (append_nil (flat_map entry_bytes a) ∙ x.written ∙ sym y.written ∙ sym (append_nil (flat_map entry_bytes b)))).0

pub no_room : (bytes : List ℕ) → length bytes < 12 → (edit : ℕ) (es : List Pair) → IsBodyOf bytes edit es → ⊥
no_room bytes short edit es is =
    omega (
      arith,
      short,
      ap length is.written,
      length-append (u64_bytes edit) (u32_bytes (length es) ++ flat_map entry_bytes es),
      length-append (u32_bytes (length es)) (flat_map entry_bytes es),
      length-u64 edit,
      length-u32 (length es),
    )
