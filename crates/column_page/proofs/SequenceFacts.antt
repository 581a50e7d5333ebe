-- Numbers and elements that stand one after the other are the only ones that can.
use Rattle.std.proofs.Common.{◌≡◌, ℕ, ◌+◌, ◌<◌, ◌≤◌, ◌^◌, List, [], ◌∷◌, ◌++◌, length, get_or, take, drop, refl, sym, ap, ◌∙◌, arith}
use Rattle.std.specs.Prelude.{ℤ}
use Rattle.std.specs.List.{flat_map}
use Rattle.std.proofs.lemmas.List.{append_assoc, append_cancel_left, drop-drop, drop_all, drop_more, length-append, take-append-drop, take_all, take_more}
use Rattle.byteorder.specs.Endian.{big_bytes, big_number}
use Rattle.byteorder.specs.Numbers.{big_number-reads_back, length-bytes_high_first}
use Rattle.fixed_code.specs.NumberCode.{FitsBytes, number_code}
use Rattle.column_page.specs.Footers.{u32_bytes, u64_bytes, wide_bytes}
use Rattle.column_page.specs.FooterReading.{HaveElements, SequenceThen}
use Rattle.column_page.proofs.OneCell.{code_one}
use Rattle.column_page.proofs.Lengths.{length-code}

number_step : (w n m : ℕ) (bytes tail : List ℕ) → n < 256 ^ w → m < 256 ^ w → take w bytes ≡ big_bytes w n → big_bytes w m ++ tail ≡ bytes → (n ≡ m) × (drop w bytes ≡ tail)
number_step w n m bytes tail f g front e =
    let whole : big_bytes w n ++ drop w bytes ≡ bytes = ap (λ (t : List ℕ). t ++ drop w bytes) (sym front) ∙ take-append-drop w bytes in
    let same : n ≡ m = sym (big_number-reads_back w n (drop w bytes) f) ∙ ap (big_number w) (whole ∙ sym e) ∙ big_number-reads_back w m tail g in
    (same, append_cancel_left (big_bytes w m) (drop w bytes) tail (ap (λ (k : ℕ). big_bytes w k ++ drop w bytes) (sym same) ∙ whole ∙ sym e))

number_long : (w m : ℕ) (bytes tail : List ℕ) → length bytes < w → big_bytes w m ++ tail ≡ bytes → ⊥
number_long w m bytes tail short e =
    let k = length-append (big_bytes w m) tail in
    let l : length (big_bytes w m) ≡ w = length-bytes_high_first w m in
    let h : length (big_bytes w m ++ tail) ≡ length bytes = ap length e in
    omega arith

pub u32_step : (n m : ℕ) (bytes tail : List ℕ) → n < 2 ^ 32 → m < 2 ^ 32 → take 4 bytes ≡ u32_bytes n → u32_bytes m ++ tail ≡ bytes → (n ≡ m) × (drop 4 bytes ≡ tail)
unfolding u32_bytes
u32_step n m bytes tail f g front e = number_step 4 n m bytes tail f g front e

pub u32_long : (m : ℕ) (bytes tail : List ℕ) → length bytes < 4 → u32_bytes m ++ tail ≡ bytes → ⊥
unfolding u32_bytes
u32_long m bytes tail short e = number_long 4 m bytes tail short e

pub u64_step : (n m : ℕ) (bytes tail : List ℕ) → n < 2 ^ 64 → m < 2 ^ 64 → take 8 bytes ≡ u64_bytes n → u64_bytes m ++ tail ≡ bytes → (n ≡ m) × (drop 8 bytes ≡ tail)
unfolding u64_bytes
u64_step n m bytes tail f g front e = number_step 8 n m bytes tail f g front e

pub u64_long : (m : ℕ) (bytes tail : List ℕ) → length bytes < 8 → u64_bytes m ++ tail ≡ bytes → ⊥
unfolding u64_bytes
u64_long m bytes tail short e = number_long 8 m bytes tail short e

code_step : (w : ℕ) (y z : ℤ) → 1 ≤ w → w ≤ 16 → (bytes tail : List ℕ) → FitsBytes w y → FitsBytes w z → take w bytes ≡ number_code w y → number_code w z ++ tail ≡ bytes → (y ≡ z) × (drop w bytes ≡ tail)
code_step w y z low high bytes tail f g front e =
    let whole : number_code w y ++ drop w bytes ≡ bytes = ap (λ (t : List ℕ). t ++ drop w bytes) (sym front) ∙ take-append-drop w bytes in
    let same : y ≡ z = code_one w y z low high f g (drop w bytes) tail (whole ∙ sym e) in
    (same, append_cancel_left (number_code w z) (drop w bytes) tail (ap (λ (k : ℤ). number_code w k ++ drop w bytes) (sym same) ∙ whole ∙ sym e))

code_long : (w : ℕ) (z : ℤ) (bytes tail : List ℕ) → length bytes < w → number_code w z ++ tail ≡ bytes → ⊥
code_long w z bytes tail short e =
    let k = length-append (number_code w z) tail in
    let l = length-code w z in
    let h : length (number_code w z ++ tail) ≡ length bytes = ap length e in
    omega arith

pub wide_step : (y z : ℤ) (bytes tail : List ℕ) → FitsBytes 16 y → FitsBytes 16 z → take 16 bytes ≡ wide_bytes y → wide_bytes z ++ tail ≡ bytes → (y ≡ z) × (drop 16 bytes ≡ tail)
unfolding wide_bytes
wide_step y z bytes tail f g front e = code_step 16 y z (omega arith) (omega arith) bytes tail f g front e

pub wide_long : (z : ℤ) (bytes tail : List ℕ) → length bytes < 16 → wide_bytes z ++ tail ≡ bytes → ⊥
unfolding wide_bytes
wide_long z bytes tail short e = code_long 16 z bytes tail short e

module _ {X : Type 0} (IsOne : X → Type 0) (code : X → List ℕ) where
  -- what is known of the next element
  pub record NextElement (x : X) (piece tail : List ℕ) : Type 0 where
    pub fit : IsOne x
    pub stands : code x ++ tail ≡ piece

  pub next_element : (count k at : ℕ) (values : List X) (bytes piece : List ℕ) (xs : List X) (rest : List ℕ) (d : X) → SequenceThen IsOne code count bytes xs rest → k < count → HaveElements code values k at bytes xs rest → piece ≡ drop at bytes
      → NextElement (get_or xs k d) piece (flat_map code (drop (k + 1) xs) ++ rest)
  next_element count k at values bytes piece xs rest d then lt have e =
      let number : length xs ≡ count = then.number in
      let lt' : k < length xs = omega arith in
      record {
        fit = then.fit k d lt';
        stands = sym (append_assoc (code (get_or xs k d)) (flat_map code (drop (k + 1) xs)) rest)
            ∙ ap (λ (t : List X). flat_map code t ++ rest) (sym (drop_more xs k d lt')) ∙ sym have.back ∙ sym e;
      }

  pub element_more : (count k at n : ℕ) (values : List X) (v : X) (bytes piece : List ℕ) (xs : List X) (rest : List ℕ) (d : X) → SequenceThen IsOne code count bytes xs rest → k < count → HaveElements code values k at bytes xs rest → piece ≡ drop at bytes
      → v ≡ get_or xs k d → drop n piece ≡ flat_map code (drop (k + 1) xs) ++ rest → HaveElements code (values ++ v ∷ []) (k + 1) (at + n) bytes xs rest
  element_more count k at n values v bytes piece xs rest d then lt have e same after =
      let number : length xs ≡ count = then.number in
      let lt' : k < length xs = omega arith in
      record {
        front = ap (λ (t : List X). t ++ v ∷ []) have.front ∙ ap (λ (x : X). take k xs ++ x ∷ []) same ∙ sym (take_more xs k d lt');
        back = sym (drop-drop n at bytes) ∙ ap (drop n) (sym e) ∙ after;
      }

  pub no_elements : (count : ℕ) (bytes : List ℕ) (xs : List X) (rest : List ℕ) → SequenceThen IsOne code count bytes xs rest → HaveElements code [] 0 0 bytes xs rest
  no_elements count bytes xs rest then = record { front = refl; back = sym then.joined }

  pub all_elements : (count k at : ℕ) (values : List X) (bytes : List ℕ) (xs : List X) (rest : List ℕ) → SequenceThen IsOne code count bytes xs rest → count ≤ k → HaveElements code values k at bytes xs rest → (values ≡ xs) × (drop at bytes ≡ rest)
  all_elements count k at values bytes xs rest then le have =
      let number : length xs ≡ count = then.number in
      let le' : length xs ≤ k = omega arith in
      (have.front ∙ take_all k xs le', have.back ∙ ap (λ (t : List X). flat_map code t ++ rest) (drop_all k xs le'))
