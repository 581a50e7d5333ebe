-- Some of the keys of a load, in their order.
use Rattle.std.proofs.Common.{◌≡◌, refl, ap, sym, subst, ◌∙◌, ℕ, List, [], ◌∷◌, ◌++◌, map, Option, Some, None, Bool as Truth, true, false, ◌||◌, ◌&&◌, cond, T}
use Rattle.std.specs.Prelude.{IsTrue}
use Rattle.std.specs.List.{AllByRecursion, filter}
use Rattle.std.specs.Ordering.{eq_by_cmp, is_lt}
use Rattle.std.proofs.lemmas.Map.Views.{tells_apart}
use Rattle.pk_values.specs.Order.{key_cmp}
use Rattle.pk_values.specs.OrderFacts.{key_exact}
use Rattle.pk_values.specs.declared.cells.Value.{Value}
use Rattle.pk_model.proofs.RunLaws as run
use Rattle.rowsets.specs.Live.{is_among}
use Rattle.partial_loads.specs.Folded.{folded_keys, rise_strictly}
use Rattle.partial_loads.proofs.FoldedFacts.{skip-first}
use Rattle.core_partial.specs.Prepared.{folded_of}
use Rattle.core_partial.specs.declared.keys.PreparedKey.{PreparedKey}

abbrev pub keys_in : List PreparedKey → List (List Value)
keys_in ks = folded_keys (map folded_of ks)

never : {X : Type 0} → false ≡ true → X
never e = cc

not_so : {X : Type 0} → true ≡ false → X
not_so e = cc

-- what holds of all holds of some
pub all-filtered : (P : PreparedKey → Type 0) (test : PreparedKey → Truth) (ks : List PreparedKey) → AllByRecursion P ks → AllByRecursion P (filter test ks)
all-filtered P test [] h = tt
all-filtered P test (k ∷ ks) h = go (test k) (all-filtered P test ks h.1)
  where
    go : (t : Truth) → AllByRecursion P (filter test ks) → AllByRecursion P (cond t (k ∷ filter test ks) (filter test ks))
    go true more = (h.0, more)
    go false more = more

join : (a b : Truth) → T a → T b → T (a && b)
join true b h g = g
join false b h g = absurd h

-- they rise
rises-above : (test : PreparedKey → Truth) (j : List Value) (ks : List PreparedKey) → T (rise_strictly (j ∷ keys_in ks)) → T (rise_strictly (j ∷ keys_in (filter test ks)))
rises-above test j [] h = h
rises-above test j (k ∷ ks) h = go (test k) (rises-above test k.key ks (run.second (is_lt (key_cmp j k.key)) (rise_strictly (keys_in (k ∷ ks))) h)) (rises-above test j ks (skip-first j k.key (keys_in ks) h))
  where
    go : (t : Truth) → T (rise_strictly (k.key ∷ keys_in (filter test ks))) → T (rise_strictly (j ∷ keys_in (filter test ks)))
        → T (rise_strictly (j ∷ keys_in (cond t (k ∷ filter test ks) (filter test ks))))
    go true after skipped = join (is_lt (key_cmp j k.key)) (rise_strictly (k.key ∷ keys_in (filter test ks))) (run.first (is_lt (key_cmp j k.key)) (rise_strictly (keys_in (k ∷ ks))) h) after
    go false after skipped = skipped

rest-rises : (j : List Value) (ks : List PreparedKey) → T (rise_strictly (j ∷ keys_in ks)) → T (rise_strictly (keys_in ks))
rest-rises j [] h = tt
rest-rises j (k ∷ ks) h = run.second (is_lt (key_cmp j k.key)) (rise_strictly (keys_in (k ∷ ks))) h

pub rises-filtered : (test : PreparedKey → Truth) (ks : List PreparedKey) → T (rise_strictly (keys_in ks)) → T (rise_strictly (keys_in (filter test ks)))
rises-filtered test [] h = h
rises-filtered test (k ∷ ks) h = go (test k) (rises-above test k.key ks h) (rises-filtered test ks (rest-rises k.key ks h))
  where
    go : (t : Truth) → T (rise_strictly (k.key ∷ keys_in (filter test ks))) → T (rise_strictly (keys_in (filter test ks)))
        → T (rise_strictly (keys_in (cond t (k ∷ filter test ks) (filter test ks))))
    go true first rest = first
    go false first rest = rest

-- they are among all
pub among-filtered : (test : PreparedKey → Truth) (ks : List PreparedKey) (k : List Value) → is_among (keys_in (filter test ks)) k ≡ true → is_among (keys_in ks) k ≡ true
among-filtered test [] k h = h
among-filtered test (x ∷ ks) k h = go (test x) (eq_by_cmp key_cmp k x.key) refl h (among-filtered test ks k)
  where
    go : (t b : Truth) → eq_by_cmp key_cmp k x.key ≡ b → is_among (keys_in (cond t (x ∷ filter test ks) (filter test ks))) k ≡ true
        → (is_among (keys_in (filter test ks)) k ≡ true → is_among (keys_in ks) k ≡ true) → (b || is_among (keys_in ks) k) ≡ true
    go t true e h more = refl
    go true false e h more = more (sym (ap (λ b. b || is_among (keys_in (filter test ks)) k) e) ∙ h)
    go false false e h more = more h

-- a key that isn't among some of them is one that doesn't pass the test
pub record IsLeftOut (P : PreparedKey → Type 0) (test : PreparedKey → Truth) (k : List Value) : Type 0 where
  pub at : PreparedKey
  pub has : P at
  pub key : at.key ≡ k
  pub fails : test at ≡ false

pub left-out : (P : PreparedKey → Type 0) (test : PreparedKey → Truth) (ks : List PreparedKey) (k : List Value) → AllByRecursion P ks
    → is_among (keys_in ks) k ≡ true → is_among (keys_in (filter test ks)) k ≡ false → IsLeftOut P test k
left-out P test [] k all there gone = never there
left-out P test (x ∷ ks) k all there gone = go (test x) (eq_by_cmp key_cmp k x.key) refl refl there gone (λ a b. left-out P test ks k all.1 a b)
  where
    go : (t b : Truth) → test x ≡ t → eq_by_cmp key_cmp k x.key ≡ b → (b || is_among (keys_in ks) k) ≡ true
        → is_among (keys_in (cond t (x ∷ filter test ks) (filter test ks))) k ≡ false
        → (is_among (keys_in ks) k ≡ true → is_among (keys_in (filter test ks)) k ≡ false → IsLeftOut P test k) → IsLeftOut P test k
    go true true e f there gone more = not_so (sym (ap (λ b. b || is_among (keys_in (filter test ks)) k) f) ∙ gone)
    go false true e f there gone more = record { at = x; has = all.0; key = sym (tells_apart key_exact k x.key f); fails = e }
    go true false e f there gone more = more there (sym (ap (λ b. b || is_among (keys_in (filter test ks)) k) f) ∙ gone)
    go false false e f there gone more = more there gone
