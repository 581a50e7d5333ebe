-- How first rows compare.
use Rattle.std.proofs.Common.{◌≡◌, refl, ap, sym, subst, ◌∙◌, ℕ, List, [], ◌∷◌, Option, Some, None, Bool, true, false}
use Rattle.std.specs.Ordering.{is_lt, is_gt, ordering_reverse}
use Rattle.std.specs.declared.cmp.Ordering.{Ordering}
use Rattle.std.specs.declared.cmp.Ordering.TheVariants.{Less, Equal, Greater}
use Rattle.std.specs.Cmp.{IsTotalOrder}
use Rattle.std.proofs.lemmas.Cmp.{upto, tied_itself}
use Rattle.pk_values.specs.Order.{key_cmp}
use Rattle.pk_values.specs.OrderFacts.{key_total}
use Rattle.pk_values.specs.Schemas.{Layout, key_of}
use Rattle.pk_values.specs.declared.cells.Value.{Value}
use Rattle.row_merge.specs.Merge.{below, comes_before}

abbrev Row : Type 0
Row = List Value

turned : (o p : Ordering) → o ≡ ordering_reverse p → is_lt o ≡ is_gt p
turned o Less e = ap is_lt e
turned o Equal e = ap is_lt e
turned o Greater e = ap is_lt e

pub below-gt : (s : Layout) (a b : Row) → below s a b ≡ is_gt (key_cmp (key_of s b) (key_of s a))
below-gt s a b = turned (key_cmp (key_of s a) (key_of s b)) (key_cmp (key_of s b) (key_of s a)) (key_total.antisymm (key_of s a) (key_of s b))

-- what isn't below a row that isn't below a third one isn't below the third
pub not_below : (s : Layout) (a b c : Row) → below s a b ≡ false → below s b c ≡ false → below s a c ≡ false
not_below s a b c e f = below-gt s a c ∙ upto key_total (key_of s c) (key_of s b) (key_of s a) (sym (below-gt s b c) ∙ f) (sym (below-gt s a b) ∙ e)

pub below_back : (s : Layout) (a b : Row) → below s a b ≡ true → below s b a ≡ false
below_back s a b e = below-gt s b a ∙ go (key_cmp (key_of s a) (key_of s b)) e
  where
    go : (o : Ordering) → is_lt o ≡ true → is_gt o ≡ false
    go Less e = refl
    go Equal e = cc
    go Greater e = cc

clash : (b : Bool) → b ≡ true → b ≡ false → ⊥
clash b e f = cc (sym e ∙ f)

by_test : (b : Bool) → (b ≡ false → ⊥) → b ≡ true
by_test true h = refl
by_test false h = absurd (h refl)

-- a row below one that isn't above a third one is below the third
pub below_upto : (s : Layout) (a b c : Row) → below s a b ≡ true → below s c b ≡ false → below s a c ≡ true
below_upto s a b c e f = by_test (below s a c) (λ g. clash (below s a b) e (not_below s a c b g f))

pub below_both : (s : Layout) (a b c : Row) → below s a b ≡ true → below s b c ≡ true → below s a c ≡ true
below_both s a b c e f = below_upto s a b c e (below_back s b c f)

-- ---- the same of first rows

pub before_back : (s : Layout) (a b : Option Row) → comes_before s a b ≡ true → comes_before s b a ≡ false
before_back s None b e = cc
before_back s (Some a) None e = refl
before_back s (Some a) (Some b) e = below_back s a b e

pub not_before : (s : Layout) (a b c : Option Row) → comes_before s a b ≡ false → comes_before s b c ≡ false → comes_before s a c ≡ false
not_before s None b c e f = refl
not_before s (Some a) None c e f = cc
not_before s (Some a) (Some b) None e f = cc
not_before s (Some a) (Some b) (Some c) e f = not_below s a b c e f

pub before_upto : (s : Layout) (a b c : Option Row) → comes_before s a b ≡ true → comes_before s c b ≡ false → comes_before s a c ≡ true
before_upto s a b c e f = by_test (comes_before s a c) (λ g. clash (comes_before s a b) e (not_before s a c b g f))

pub before_both : (s : Layout) (a b c : Option Row) → comes_before s a b ≡ true → comes_before s b c ≡ true → comes_before s a c ≡ true
before_both s a b c e f = before_upto s a b c e (before_back s b c f)

pub not_before_itself : (s : Layout) (a : Option Row) → comes_before s a a ≡ false
not_before_itself s None = refl
not_before_itself s (Some a) = ap is_lt (tied_itself key_total (key_of s a))
