-- What stands at the front of bytes.
use Rattle.std.proofs.Common.{◌≡◌, refl, ap, sym, subst, ◌∙◌, ℕ, suc, zero, ◌+◌, ◌-◌, ◌<◌, ◌≤◌, arith, List, [], ◌∷◌, ◌++◌, length, take, drop, get_or, All, Some, None, Fits, w8}
use Rattle.std.proofs.lemmas.List.{append_assoc, length-append, length-take, length-drop, take-append-drop, take_all}
use Rattle.std.proofs.lemmas.List.Elements.{All-drop, All-take}
use Rattle.std.proofs.Math.Seq.{drop-append_seam}
use Rattle.index_level0.specs.declared.place.Place.{Place}
use Rattle.index_level0.specs.Levels.{Entry}
use Rattle.index_file.specs.Buckets.{Pair, entry_bytes, place_bytes, u32_bytes, u64_bytes}
use Rattle.index_file.specs.Reading.{IsEntryFront, IsPlaceFront}
use Rattle.index_file.proofs.Fronts.{length-u32, length-u64}

pub rest_is : (n : ℕ) (bytes : List ℕ) → take (length bytes - n) (drop n bytes) ≡ drop n bytes
rest_is n bytes = take_all (length bytes - n) (drop n bytes) (omega (arith, length-drop n bytes))

pub parted : (n : ℕ) (bytes front : List ℕ) → take n bytes ≡ front → bytes ≡ front ++ drop n bytes
parted n bytes front is = sym (take-append-drop n bytes) ∙ ap (λ xs. xs ++ drop n bytes) is

nothing : (n : ℕ) → drop {A = ℕ} n [] ≡ []
nothing zero = refl
nothing (suc n) = refl

pub twice : (n m : ℕ) (bytes : List ℕ) → drop m (drop n bytes) ≡ drop (n + m) bytes
twice zero m bytes = let e : m ≡ 0 + m = omega arith in ap (λ k. drop k bytes) e
twice (suc n) m [] = nothing m ∙ sym (nothing (suc n + m))
twice (suc n) m (x ∷ bytes) = let e : suc (n + m) ≡ suc n + m = omega arith in twice n m bytes ∙ ap (λ k. drop k (x ∷ bytes)) e

-- ---- a place

pub tombstone_there : (bytes : List ℕ) → 1 ≤ length bytes → get_or bytes 0 0 ≡ 0 → bytes ≡ 0 ∷ drop 1 bytes
tombstone_there [] some is = absurd (omega arith)
tombstone_there (x ∷ bytes) some is = ap (λ y. y ∷ bytes) is

pub place_there : (bytes : List ℕ) (p : Place) → 13 ≤ length bytes → get_or bytes 0 0 ≡ 1 → take 8 (drop 1 bytes) ≡ u64_bytes p.segment → take 4 (drop 8 (drop 1 bytes)) ≡ u32_bytes p.row
    → bytes ≡ (1 ∷ (u64_bytes p.segment ++ u32_bytes p.row)) ++ drop 13 bytes
place_there [] p some is segment row = absurd (omega arith)
place_there (x ∷ bytes) p some is segment row =
    ap (λ y. y ∷ bytes) is
    ∙ ap (λ xs. 1 ∷ xs)
    (parted 8 bytes (u64_bytes p.segment) segment
    ∙ ap (λ xs. u64_bytes p.segment ++ xs) (parted 4 (drop 8 bytes) (u32_bytes p.row) row ∙ ap (λ xs. u32_bytes p.row ++ xs) (twice 8 4 bytes))
    ∙ sym (append_assoc (u64_bytes p.segment) (u32_bytes p.row) (drop 12 bytes)))

pub none_in_nothing : (bytes : List ℕ) → length bytes ≡ 0 → (x : Entry) (more : List ℕ) → bytes ≡ place_bytes x ++ more → ⊥
none_in_nothing bytes none None more e = let f = ap length e in omega (arith, f, none)
none_in_nothing bytes none (Some p) more e = let f = ap length e in omega (arith, f, none)

first_is : (bytes more : List ℕ) (n : ℕ) → bytes ≡ n ∷ more → get_or bytes 0 0 ≡ n
first_is bytes more n e = ap (λ xs. get_or xs 0 0) e

pub none_at_mark : (bytes : List ℕ) → (get_or bytes 0 0 ≡ 0 → ⊥) → (get_or bytes 0 0 ≡ 1 → ⊥) → (x : Entry) (more : List ℕ) → bytes ≡ place_bytes x ++ more → ⊥
none_at_mark bytes not_0 not_1 None more e = not_0 (first_is bytes more 0 e)
none_at_mark bytes not_0 not_1 (Some p) more e = not_1 (first_is bytes ((u64_bytes p.segment ++ u32_bytes p.row) ++ more) 1 e)

pub none_so_short : (bytes : List ℕ) → get_or bytes 0 0 ≡ 1 → length (drop 1 bytes) < 12 → (x : Entry) (more : List ℕ) → bytes ≡ place_bytes x ++ more → ⊥
none_so_short bytes is short None more e = omega (arith, is, first_is bytes more 0 e)
none_so_short bytes is short (Some p) more e =
    omega (arith, short, ap (λ xs. length (drop 1 xs)) e, length-append (u64_bytes p.segment ++ u32_bytes p.row) more, length-append (u64_bytes p.segment) (u32_bytes p.row), length-u64 p.segment, length-u32 p.row)

-- ---- an entry

any_default : (bytes : List ℕ) (k d : ℕ) → k < length bytes → get_or bytes k 0 ≡ get_or bytes k d
any_default [] k d less = absurd (omega arith)
any_default (x ∷ bytes) zero d less = refl
any_default (x ∷ bytes) (suc k) d less = let l : k < length bytes = omega arith in any_default bytes k d l

pub all_bytes : (bytes : List ℕ) → ((i : ℕ) → Fits w8 (get_or bytes i 0)) → All (λ byte. byte < 256) bytes
all_bytes bytes fit k d less = omega (arith, fit k, any_default bytes k d less)

pub key_fits : (bytes : List ℕ) (n m : ℕ) → ((i : ℕ) → Fits w8 (get_or bytes i 0)) → All (λ byte. byte < 256) (take n (drop m bytes))
key_fits bytes n m fit = All-take (λ byte. byte < 256) n (drop m bytes) (All-drop (λ byte. byte < 256) m bytes (all_bytes bytes fit))

pub entry_there : (bytes : List ℕ) (len taken : ℕ) (x : Entry) → get_or bytes 0 0 ≡ len → 1 + len ≤ length bytes
    → drop (1 + len) bytes ≡ place_bytes x ++ drop taken (drop (1 + len) bytes)
    → bytes ≡ entry_bytes (take len (drop 1 bytes), x) ++ drop (1 + len + taken) bytes
entry_there [] len taken x is there rest = absurd (omega arith)
entry_there (b ∷ bytes) len taken x is there rest =
    let e : 1 + len ≡ suc len = omega arith in
    let f : 1 + len + taken ≡ suc (len + taken) = omega arith in
    let key = take len bytes in
    let long : length key ≡ len = length-take len bytes ∙ omega arith in
    let past : drop len bytes ≡ place_bytes x ++ drop taken (drop len bytes) =
    subst (λ n. drop n (b ∷ bytes) ≡ place_bytes x ++ drop taken (drop n (b ∷ bytes))) e rest in
    ap (λ y. y ∷ bytes) (is ∙ sym long)
    ∙ ap (λ xs. length key ∷ xs)
    (parted len bytes key refl ∙ ap (λ xs. key ++ xs) (past ∙ ap (λ xs. place_bytes x ++ xs) (twice len taken bytes)) ∙ sym (append_assoc key (place_bytes x) (drop (len + taken) bytes)))
    ∙ ap (λ n. entry_bytes (key, x) ++ drop n (b ∷ bytes)) (sym f)

-- an entry at the front has its length first, then its key, and then its place
pub entry_opens : (bytes more : List ℕ) (e : Pair) → bytes ≡ entry_bytes e ++ more
    → (get_or bytes 0 0 ≡ length e.0) × (1 + length e.0 ≤ length bytes) × (drop (1 + length e.0) bytes ≡ place_bytes e.1 ++ more)
entry_opens bytes more e is =
    let n = length e.0 in
    let f : 1 + n ≡ suc n = omega arith in (
      first_is bytes ((e.0 ++ place_bytes e.1) ++ more) n is,
      omega (arith, ap length is, length-append (e.0 ++ place_bytes e.1) more, length-append e.0 (place_bytes e.1)),
      ap (drop (1 + n)) is ∙ ap (λ k. drop k (entry_bytes e ++ more)) f ∙ ap (drop n) (append_assoc e.0 (place_bytes e.1) more) ∙ drop-append_seam e.0 (place_bytes e.1 ++ more),
    )

pub entry_read : (bytes key : List ℕ) (len taken : ℕ) (x : Entry) → ((i : ℕ) → Fits w8 (get_or bytes i 0)) → get_or bytes 0 0 ≡ len → len ≤ 128 → 1 + len ≤ length bytes
    → key ≡ take ((1 + len) - 1) (drop 1 bytes) → IsPlaceFront (take (length bytes - (1 + len)) (drop (1 + len) bytes)) (Some (x, taken)) → IsEntryFront bytes (Some ((key, x), 1 + len + taken))
entry_read bytes key len taken x fit is short there key_is front =
    let e : (1 + len) - 1 ≡ len = omega arith in
    let k : key ≡ take len (drop 1 bytes) = key_is ∙ ap (λ n. take n (drop 1 bytes)) e in
    let f : IsPlaceFront (drop (1 + len) bytes) (Some (x, taken)) = subst (λ xs. IsPlaceFront xs (Some (x, taken))) (rest_is (1 + len) bytes) front in
    let long : length key ≡ len = ap length k ∙ length-take len (drop 1 bytes) ∙ omega (arith, length-drop 1 bytes) in (
      (omega (arith, long), subst (λ xs. All (λ byte. byte < 256) xs) (sym k) (key_fits bytes len 1 fit), f.0),
      entry_there bytes len taken x is there f.1 ∙ ap (λ xs. entry_bytes (xs, x) ++ drop (1 + len + taken) bytes) (sym k),
      omega (arith, f.2, length-drop (1 + len) bytes),
    )
