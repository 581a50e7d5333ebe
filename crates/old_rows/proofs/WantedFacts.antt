-- Which rows are wanted, found key by key, and sorted by their places.
use Rattle.std.proofs.Common.{◌≡◌, ◌⊎◌, inl, inr, refl, ap, sym, subst, ◌∙◌, ℕ, ◌+◌, ◌<◌, List, [], ◌∷◌, ◌++◌, Option, Some, None, Bool as Truth, true, false, ◌||◌, slice_get, arith}
use Rattle.std.specs.Prelude.{IsPermutation}
use Rattle.std.specs.List.{list_any}
use Rattle.std.proofs.lemmas.Bool.{cases_order, eq-eqb}
use Rattle.std.proofs.lemmas.List.Elements.{All-nil, All-push}
use Rattle.std.proofs.lemmas.List.{append-nil}
use Rattle.std.proofs.lemmas.List.Folds.{list_any-append}
use Rattle.std.proofs.lemmas.List.Sorted.{All-permutation, list_any-IsPermutation}
use Rattle.index_level0.specs.declared.place.Place.{Place}
use Rattle.rowsets.specs.Indexing.{CodeMove}
use Rattle.partial_loads.specs.declared.folds.Folded.{Folded}
use Rattle.old_rows.specs.Wanted.{AreWanted, IsWanted, asked, is_of, wanted_at}
use Rattle.old_rows.specs.declared.wanted.Wanted.{Wanted}

some_same : {X : Type 0} (x y : X) → Some x ≡ Some y → x ≡ y
some_same x y e = cc

none_some : {X : Type 0} (x : X) → None ≡ Some x → ⊥
none_some x e = cc

pub wanted-none : (keys : List Folded) (located : List CodeMove) → AreWanted keys located 0 []
wanted-none keys located = record { each = All-nil (IsWanted keys located); all = λ i f e p lt. absurd (omega arith) }

module _ (keys : List Folded) (located : List CodeMove) (n : ℕ) (wanted : List Wanted) (are : AreWanted keys located n wanted) (f : Folded) (e : CodeMove)
    (there : slice_get keys n ≡ Some f) (at : slice_get located n ≡ Some e) where
  pub wanted-more : (p : Place) → asked f e ≡ Some p → AreWanted keys located (n + 1) (wanted ++ record { place = p; key = n } ∷ [])
  wanted-more p asks = record {
    each = All-push (IsWanted keys located) wanted one are.each (record { key = f; there = there; entry = e; at = at; asks = asks });
    all = λ i g d q lt has had more. list_any-append (is_of i) wanted (one ∷ []) ∙ go i g d q has had more (cases_order i n) lt;
  }
    where
      one : Wanted
      one = record { place = p; key = n }

      or_left : (a b : Truth) → a ≡ true → (a || b) ≡ true
      or_left true b h = refl
      or_left false b h = cc

      or_right : (a b : Truth) → b ≡ true → (a || b) ≡ true
      or_right true b h = refl
      or_right false b h = h

      go : (i : ℕ) (g : Folded) (d : CodeMove) (q : Place) → slice_get keys i ≡ Some g → slice_get located i ≡ Some d → asked g d ≡ Some q
          → (i ≡ n) ⊎ ((i < n) ⊎ (n < i)) → i < n + 1 → (list_any (is_of i) wanted || list_any (is_of i) (one ∷ [])) ≡ true
      go i g d q has had more (inl same) lt =
          or_right (list_any (is_of i) wanted) (list_any (is_of i) (one ∷ [])) (ap (λ t. t || false) (eq-eqb n i (sym same)))
      go i g d q has had more (inr (inl below)) lt = or_left (list_any (is_of i) wanted) (list_any (is_of i) (one ∷ [])) (are.all i g d q below has had more)
      go i g d q has had more (inr (inr above)) lt = absurd (omega arith)

  pub wanted-skip : asked f e ≡ None → AreWanted keys located (n + 1) wanted
  wanted-skip none = record { each = are.each; all = λ i g d q lt has had more. go i g d q has had more (cases_order i n) lt }
    where
      go : (i : ℕ) (g : Folded) (d : CodeMove) (q : Place) → slice_get keys i ≡ Some g → slice_get located i ≡ Some d → asked g d ≡ Some q
          → (i ≡ n) ⊎ ((i < n) ⊎ (n < i)) → i < n + 1 → list_any (is_of i) wanted ≡ true
      go i g d q has had more (inl same) lt =
          let key : f ≡ g = some_same f g (sym there ∙ ap (slice_get keys) (sym same) ∙ has) in
          let entry : e ≡ d = some_same e d (sym at ∙ ap (slice_get located) (sym same) ∙ had) in
          absurd (none_some q (sym none ∙ (λ i. asked (key i) (entry i)) ∙ more))
      go i g d q has had more (inr (inl below)) lt = are.all i g d q below has had more
      go i g d q has had more (inr (inr above)) lt = absurd (omega arith)

pub wanted-next : (keys : List Folded) (located : List CodeMove) (n : ℕ) (wanted : List Wanted) (f : Folded) (e : CodeMove) (place : Option Place) → AreWanted keys located n wanted
    → slice_get keys n ≡ Some f → slice_get located n ≡ Some e → place ≡ asked f e → AreWanted keys located (n + 1) (wanted ++ wanted_at n place)
wanted-next keys located n wanted f e None are there at is =
    subst (AreWanted keys located (n + 1)) (sym (append-nil wanted)) (wanted-skip keys located n wanted are f e there at (sym is))
wanted-next keys located n wanted f e (Some p) are there at is = wanted-more keys located n wanted are f e there at p (sym is)

pub wanted-sorted : (keys : List Folded) (located : List CodeMove) (n : ℕ) (xs ys : List Wanted) → IsPermutation xs ys → AreWanted keys located n xs → AreWanted keys located n ys
wanted-sorted keys located n xs ys moved are = record {
  each = All-permutation (IsWanted keys located) xs ys moved are.each;
  all = λ i f e p lt there at asks. sym (list_any-IsPermutation (is_of i) xs ys moved) ∙ are.all i f e p lt there at asks;
}
