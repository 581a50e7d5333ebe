-- What the calls on passes say, from what the steps tell.
use Rattle.std.proofs.Common.{◌≡◌, ◌⊎◌, ℕ, ◌+◌, List, length, sym, ap, ◌∙◌, subst, ⊎_elim}
use mathlib.Core.List.{IsPrefix}
use Rattle.turn_book.specs.Places.{Rises, Has, merged}
use Rattle.turn_book.specs.Plays.{longer, shorter_of}
use Rattle.turn_book.specs.Passes.{Holding, Both}
use Rattle.turn_book.proofs.Merging.{longer_of, merged_apart, prefix_both, merged_length}

module _ {E O : Type 0} where
  pub both_of : (a b c : Holding E O) (xs ys : List E) (ps qs : List ℕ) → xs ≡ a.seen → ys ≡ b.seen → ps ≡ a.mine → qs ≡ b.mine → c.seen ≡ longer xs ys → c.mine ≡ merged ps qs → c.left ≡ a.left + b.left
      → IsPrefix (shorter_of xs ys) (longer xs ys) → Rises 0 (merged ps qs) → Both a b c
  both_of a b c xs ys ps qs ex ey ep eq seen mine left short rising =
      let l = longer_of xs ys short in
      let P : List E → List E → List E → Type 0 = λ x y z. ((z ≡ x) ⊎ (z ≡ y)) × IsPrefix x z × IsPrefix y z in
      let got : P a.seen b.seen c.seen = subst (λ (t : List E × List E × List E). P t.0 t.1 t.2) (λ i. (ex i, ey i, sym seen i)) l in
      let no_both : (p : ℕ) → Has a.mine p → Has b.mine p → ⊥ = subst (λ (t : List ℕ × List ℕ). (p : ℕ) → Has t.0 p → Has t.1 p → ⊥) (λ i. (ep i, eq i)) (merged_apart 0 ps qs rising) in record {
        one = got.0;
        first = got.1;
        second = got.2;
        calls = mine ∙ (λ i. merged (ep i) (eq i));
        used = ap length mine ∙ (merged_length ps qs ∙ λ i. length (ep i) + length (eq i));
        apart = no_both;
        turns = left;
      }

  -- each of two passes has taken the other's copy in
  pub met : (a x c b y d : Holding E O) → Both a x c → Both b y d → a.seen ≡ y.seen → x.seen ≡ b.seen → c.seen ≡ d.seen
  met a x c b y d m n e f = prefix_both c.seen d.seen
      (⊎_elim (λ (q : c.seen ≡ a.seen). subst (λ (z : List E). IsPrefix z d.seen) (sym (q ∙ e)) n.second) (λ (q : c.seen ≡ x.seen). subst (λ (z : List E). IsPrefix z d.seen) (sym (q ∙ f)) n.first) m.one)
      (⊎_elim (λ (q : d.seen ≡ b.seen). subst (λ (z : List E). IsPrefix z c.seen) (f ∙ sym q) m.second) (λ (q : d.seen ≡ y.seen). subst (λ (z : List E). IsPrefix z c.seen) (e ∙ sym q) m.first) n.one)
