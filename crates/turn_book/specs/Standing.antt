-- An entry that stands at a place of a history, whose places are numbered from 1: so a pass has seen
-- this entry at its place.
use Rattle.std.specs.Prelude.{◌≡◌, ℕ, ◌+◌, List, [], ◌∷◌, ◌++◌, length}
use Rattle.std.proofs.Common.{refl, sym, ap, ◌∙◌, append_assoc, arith, length-append, subst}
use mathlib.Core.List.{IsPrefix}

module _ {E : Type 0} where
  pub record StandsAt (h : List E) (place : ℕ) (e : E) : Type 0 where
    pub before : List E
    pub later : List E
    pub parts : before ++ e ∷ later ≡ h
    pub counted : length before + 1 ≡ place

  -- what stands in a history stands in a longer one
  pub stands_longer : (h k : List E) (place : ℕ) (e : E) → StandsAt h place e → StandsAt (h ++ k) place e
  stands_longer h k place e s = record {
    before = s.before;
    later = s.later ++ k;
    parts = sym (append_assoc s.before (e ∷ s.later) k) ∙ ap (λ l. l ++ k) s.parts;
    counted = s.counted;
  }

  pub stands_begun : (h k : List E) (place : ℕ) (e : E) → IsPrefix h k → StandsAt h place e → StandsAt k place e
  stands_begun h k place e p s = subst (λ l. StandsAt l place e) p.1 (stands_longer h p.0 place e s)

  pub stands_last : (h : List E) (place : ℕ) (e : E) → length (h ++ e ∷ []) ≡ place → StandsAt (h ++ e ∷ []) place e
  stands_last h place e long = record {
    before = h;
    later = [];
    parts = refl;
    counted = let n = length-append h (e ∷ []) in omega arith;
  }
