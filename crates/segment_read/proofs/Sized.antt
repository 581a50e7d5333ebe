-- A page behind its length is the only one at the front of its bytes.
use Rattle.std.proofs.Common.{◌≡◌, ℕ, ◌+◌, ◌<◌, ◌≤◌, ◌^◌, List, ◌++◌, length, take, drop, refl, sym, ap, ◌∙◌, append_assoc, arith, length-append, length-drop}
use Rattle.std.proofs.lemmas.List.{drop_at, take_at}
use Rattle.column_page.specs.Footers.{u32_bytes}
use Rattle.column_page.proofs.Lengths.{length-u32}
use Rattle.column_page.proofs.SequenceFacts.{u32_long, u32_step}
use Rattle.segment_form.specs.Segments.{sized}

pub sized_open : (p rest bytes : List ℕ) → sized p ++ rest ≡ bytes → u32_bytes (length p) ++ (p ++ rest) ≡ bytes
sized_open p rest bytes e = sym (append_assoc (u32_bytes (length p)) p rest) ∙ e

-- bytes that are too short for a length
pub sized_short : (p rest bytes : List ℕ) → length bytes < 4 → sized p ++ rest ≡ bytes → ⊥
sized_short p rest bytes short e = u32_long (length p) bytes (p ++ rest) short (sized_open p rest bytes e)

-- bytes that are too short for the page
pub sized_cut : (n : ℕ) (p rest bytes : List ℕ) → n < 2 ^ 32 → take 4 bytes ≡ u32_bytes n → 4 ≤ length bytes → length bytes < 4 + n → length p < 2 ^ 32 → sized p ++ rest ≡ bytes → ⊥
sized_cut n p rest bytes small front long cut short e =
    let step = u32_step n (length p) bytes (p ++ rest) small short front (sized_open p rest bytes e) in
    let l : length (drop 4 bytes) ≡ length (p ++ rest) = ap length step.1 in
    absurd (omega (arith, length-drop 4 bytes, length-append p rest, step.0))

pub sized_within : (p rest bytes : List ℕ) → sized p ++ rest ≡ bytes → 4 + length p ≤ length bytes
sized_within p rest bytes e =
    omega (arith, ap length e, length-append (sized p) rest, length-append (u32_bytes (length p)) p, length-u32 (length p))

pub same_front : (p q rest tail : List ℕ) → length p ≡ length q → p ++ rest ≡ q ++ tail → (p ≡ q) × (rest ≡ tail)
same_front p q rest tail same e = (
  sym (take_at p rest (length p) refl) ∙ ap (take (length p)) e ∙ take_at q tail (length p) (sym same),
  sym (drop_at p rest (length p) refl) ∙ ap (drop (length p)) e ∙ drop_at q tail (length p) (sym same),
)

pub sized_one : (p q rest tail bytes : List ℕ) → length p < 2 ^ 32 → length q < 2 ^ 32 → sized p ++ rest ≡ bytes → sized q ++ tail ≡ bytes → (p ≡ q) × (rest ≡ tail)
sized_one p q rest tail bytes short short' e e' =
    let whole : u32_bytes (length p) ++ (p ++ rest) ≡ bytes = sized_open p rest bytes e in
    let front : take 4 bytes ≡ u32_bytes (length p) = ap (take 4) (sym whole) ∙ take_at (u32_bytes (length p)) (p ++ rest) 4 (length-u32 (length p)) in
    let back : drop 4 bytes ≡ p ++ rest = ap (drop 4) (sym whole) ∙ drop_at (u32_bytes (length p)) (p ++ rest) 4 (length-u32 (length p)) in
    let step = u32_step (length p) (length q) bytes (q ++ tail) short short' front (sized_open q tail bytes e') in
    same_front p q rest tail step.0 (sym back ∙ step.1)
