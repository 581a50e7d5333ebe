-- Codes of different prefixes compare as these do.
use Rattle.std.proofs.Common.{◌≡◌, ◌≤◌, ◌<◌, ℕ, zero, suc, ◌*◌, ◌^◌, List, [], ◌∷◌, refl, ap, inl, inr, arith}
use Rattle.std.specs.Cmp.Lexicographic.{slice_cmp}
use Rattle.std.specs.Ordering.{nat_cmp, ordering_then}
use Rattle.std.specs.declared.cmp.Ordering.{Ordering}
use Rattle.std.specs.declared.cmp.Ordering.TheVariants.{Less, Equal, Greater}
use Rattle.std.proofs.lemmas.Bool.{cases_order}
use Rattle.std.proofs.Math.Nat.{mul-le-mul_right}
use Rattle.byteorder.specs.Endian.{big_from}
use Rattle.byteorder.specs.Numbers.{big_from-cons, big_from-lt}
use Rattle.fixed_code.proofs.Codes.{less_is, same_is}
use Rattle.key_code.specs.Prefixes.{AreBytes}

nothing_read : (i n : ℕ) → big_from i n [] ≡ 0
nothing_read i zero = refl
nothing_read i (suc n) = let ih = nothing_read (suc i) n in omega arith

first_less : (o p : Ordering) → o ≡ Less → ordering_then o p ≡ Less
first_less Less p e = refl
first_less Equal p e = cc
first_less Greater p e = cc

then_less : (o p : Ordering) → o ≡ Equal → p ≡ Less → ordering_then o p ≡ Less
then_less Less p e f = cc
then_less Equal p e f = f
then_less Greater p e f = cc

-- the greater prefix is that of the greater code
pub less_by_prefix : (n : ℕ) (a b : List ℕ) → AreBytes a → AreBytes b → big_from 0 n a < big_from 0 n b → slice_cmp nat_cmp a b ≡ Less
less_by_prefix zero a b fa fb lt = absurd (omega arith)
less_by_prefix (suc n) [] [] fa fb lt = absurd (omega arith)
less_by_prefix (suc n) [] (y ∷ ys) fa fb lt = refl
less_by_prefix (suc n) (x ∷ xs) [] fa fb lt = let none = nothing_read 0 (suc n) in absurd (omega arith)
less_by_prefix (suc n) (x ∷ xs) (y ∷ ys) fa fb lt =
    let ga : AreBytes xs = λ k. fa (suc k) in
    let gb : AreBytes ys = λ k. fb (suc k) in
    let ea : big_from 1 n (x ∷ xs) ≡ big_from 0 n xs = big_from-cons 0 n x xs in
    let eb : big_from 1 n (y ∷ ys) ≡ big_from 0 n ys = big_from-cons 0 n y ys in
    let small : big_from 0 n ys < 256 ^ n = big_from-lt 0 n ys gb in
    elim (cases_order x y) [
      | inl e ↦
          let top : x * 256 ^ n ≡ y * 256 ^ n = ap (λ (z : ℕ). z * 256 ^ n) e in
          then_less (nat_cmp x y) _ (same_is x y e) (less_by_prefix n xs ys ga gb (omega arith))
      | inr o ↦ elim o [
        | inl l ↦ first_less (nat_cmp x y) _ (less_is x y l)
        | inr l ↦
            let most : suc y * 256 ^ n ≤ x * 256 ^ n = mul-le-mul_right (256 ^ n) l in
            absurd (omega arith)
      ]
    ]
