-- Bytes that are put behind others in 128 places.
use Rattle.std.proofs.Common.{◌≡◌, ◌≤◌, ◌<◌, ℕ, zero, suc, ◌+◌, ◌-◌, ◌^◌, List, [], ◌∷◌, ◌++◌, refl, sym, ap, ◌∙◌, arith, take, drop, length, length-append, append_assoc, append-nil, ◌==◌, Bool, true, false, if◌then◌else◌}
use Rattle.std.specs.Prelude.{slice_index}
use Rattle.std.proofs.lemmas.List.{drop_more, take_all, take_at, length-take-le}
use Rattle.std.proofs.Math.Seq.{take-append-add}
use Rattle.key_code.specs.Drafts.{Draft, draft_of, with_more}
use Rattle.key_code.specs.Escapes.{escaped, escaped_byte}

-- the first n places of more that is cut to n
pub take_front : (n : ℕ) (xs ys : List ℕ) → take n (take n xs ++ ys) ≡ take n (xs ++ ys)
take_front zero xs ys = refl
take_front (suc n) [] ys = refl
take_front (suc n) (x ∷ xs) ys = ap (λ (t : List ℕ). x ∷ t) (take_front n xs ys)

-- bytes behind bytes
pub joined : (d : Draft) (a b : List ℕ) → with_more (with_more d a) b ≡ with_more d (a ++ b)
joined d a b =
    let first : take 128 (take 128 (d.first ++ a) ++ b) ≡ take 128 (d.first ++ (a ++ b)) = take_front 128 (d.first ++ a) b ∙ ap (take 128) (append_assoc d.first a b) in
    let count : d.count + length a + length b ≡ d.count + length (a ++ b) = omega (arith, length-append a b) in
    λ i. record { first = first i; count = count i }

-- with no place left
pub full : (bytes piece : List ℕ) (count : ℕ) → length bytes ≡ 128 → 128 ≤ count → take (count + length piece) bytes ≡ take 128 (take count bytes ++ piece)
full bytes piece count size le =
    take_all (count + length piece) bytes (omega arith) ∙ sym (take_at bytes piece 128 size)
    ∙ ap (λ (t : List ℕ). take 128 (t ++ piece)) (sym (take_all count bytes (omega arith)))

-- with a place for the whole piece
pub whole_piece : (bytes piece rest : List ℕ) (count : ℕ) → length bytes ≡ 128 → count + length piece ≤ 128
    → take (count + length piece) (take count bytes ++ (piece ++ rest)) ≡ take 128 (take count bytes ++ piece)
whole_piece bytes piece rest count size le =
    let front : length (take count bytes) ≡ count = length-take-le count bytes (omega arith) in
    let size' : length (take count bytes ++ piece) ≡ count + length piece = omega (arith, length-append (take count bytes) piece) in
    ap (take (count + length piece)) (sym (append_assoc (take count bytes) piece rest)) ∙ take_at (take count bytes ++ piece) rest (count + length piece) size'
    ∙ sym (take_all 128 (take count bytes ++ piece) (omega arith))

-- with a place for a part of the piece
pub part_piece : (bytes piece rest : List ℕ) (count : ℕ) → length bytes ≡ 128 → count < 128 → 128 - count < length piece → rest ≡ []
    → take (count + length piece) (take count bytes ++ (take (128 - count) piece ++ rest)) ≡ take 128 (take count bytes ++ piece)
part_piece bytes piece rest count size lt more none =
    let front : length (take count bytes) ≡ count = length-take-le count bytes (omega arith) in
    let behind : length (take (128 - count) piece) ≡ 128 - count = length-take-le (128 - count) piece (omega arith) in
    let all : length (take count bytes) + (128 - count) ≡ 128 = omega arith in
    ap (λ (t : List ℕ). take (count + length piece) (take count bytes ++ t)) (ap (λ (t : List ℕ). take (128 - count) piece ++ t) none ∙ append-nil (take (128 - count) piece))
    ∙ take_all (count + length piece) (take count bytes ++ take (128 - count) piece) (omega (arith, length-append (take count bytes) (take (128 - count) piece)))
    ∙ sym (take-append-add (take count bytes) piece (128 - count)) ∙ ap (λ (n : ℕ). take n (take count bytes ++ piece)) all

one_byte : (first : Bool) (c : ℕ) (rest : List ℕ) → (if first then 0 ∷ 1 ∷ rest else c ∷ rest) ≡ (if first then 0 ∷ 1 ∷ [] else c ∷ []) ++ rest
one_byte true c rest = refl
one_byte false c rest = refl

-- the byte at a place, and what follows it
pub escaped_at : (text : List ℕ) (i : ℕ) → i < length text → escaped (drop i text) ≡ escaped_byte (slice_index text i) ++ escaped (drop (i + 1) text)
escaped_at text i lt = ap escaped (drop_more text i 0 lt) ∙ one_byte (slice_index text i == 0) (slice_index text i) (escaped (drop (i + 1) text))

pub escaped_step : (old now more : Draft) (text : List ℕ) (i : ℕ) → i < length text → now ≡ with_more old (escaped_byte (slice_index text i)) → with_more old (escaped (drop i text)) ≡ more
    → with_more now (escaped (drop (i + 1) text)) ≡ more
escaped_step old now more text i lt e inv =
    ap (λ (d : Draft). with_more d (escaped (drop (i + 1) text))) e ∙ joined old (escaped_byte (slice_index text i)) (escaped (drop (i + 1) text))
    ∙ ap (with_more old) (sym (escaped_at text i lt)) ∙ inv

short_take : (n : ℕ) (xs : List ℕ) → length (take n xs) ≤ n
short_take zero xs = omega arith
short_take (suc n) [] = omega arith
short_take (suc n) (x ∷ xs) = let ih = short_take n xs in omega arith

-- a draft keeps at most 128 bytes
pub short_more : (old now : Draft) (a : List ℕ) → now ≡ with_more old a → length now.first ≤ 128
short_more old now a e = omega (arith, ap (λ (d : Draft). length d.first) e, short_take 128 (old.first ++ a))

-- there is room for a part of what is still to come
pub room_in : (d : Draft) (a b rest whole : List ℕ) → rest ≡ a ++ b → with_more d rest ≡ draft_of whole → length whole < 2 ^ 64 → d.count + length a < 2 ^ 64
room_in d a b rest whole e inv lt =
    let count : d.count + length rest ≡ length whole = ap (λ (x : Draft). x.count) inv in
    omega (arith, ap length e, length-append a b)

-- one part of what is still to come is written
pub part_written : (old now more : Draft) (a b rest : List ℕ) → rest ≡ a ++ b → now ≡ with_more old a → with_more old rest ≡ more → with_more now b ≡ more
part_written old now more a b rest split e inv =
    ap (λ (d : Draft). with_more d b) e ∙ joined old a b ∙ ap (with_more old) (sym split) ∙ inv

nothing_more : (d : Draft) → length d.first ≤ 128 → with_more d [] ≡ d
nothing_more d short =
    let first : take 128 (d.first ++ []) ≡ d.first = take_all 128 (d.first ++ []) (omega (arith, ap length (append-nil d.first))) ∙ append-nil d.first in
    let count : d.count + 0 ≡ d.count = omega arith in
    λ i. record { first = first i; count = count i }

-- nothing is still to come
pub all_written : (d more : Draft) (rest : List ℕ) → rest ≡ [] → length d.first ≤ 128 → with_more d rest ≡ more → d ≡ more
all_written d more rest none short inv = sym (nothing_more d short) ∙ ap (with_more d) (sym none) ∙ inv
