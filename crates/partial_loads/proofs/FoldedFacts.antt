-- Lines in the order of their keys, folded from the last one on.
use Rattle.std.proofs.Common.{◌≡◌, refl, ap, sym, subst, ◌∙◌, ℕ, suc, List, [], ◌∷◌, ◌++◌, Option, Bool as Truth, true, false, ◌||◌, cond, T, arith}
use Rattle.std.specs.Prelude.{All}
use Rattle.std.specs.List.{AllByRecursion}
use Rattle.std.specs.Ordering.{eq_by_cmp, is_lt, is_le, is_eq}
use Rattle.std.specs.declared.cmp.Ordering.{Ordering}
use Rattle.std.specs.declared.cmp.Ordering.TheVariants.{Less, Equal, Greater}
use Rattle.std.specs.Cmp.{eq_by_cmp_equiv}
use Rattle.std.proofs.lemmas.Map.Views.{tells_apart}
use Rattle.pk_values.specs.Order.{key_cmp}
use Rattle.pk_values.specs.OrderFacts.{key_total, key_exact}
use Rattle.pk_values.specs.declared.cells.Value.{Value}
use Rattle.pk_model.specs.declared.calls.Op.{Op}
use Rattle.pk_model.specs.Merges.{rise}
use Rattle.pk_model.specs.Tables.{key_named, touches}
use Rattle.pk_model.proofs.RunLaws as run
use Rattle.rowsets.specs.Live.{is_among}
use Rattle.partial_loads.specs.declared.changes.KeyChange.{KeyChange}
use Rattle.partial_loads.specs.declared.changes.KeyChange.TheVariants.{Keep, Remove, Renew, Overlay}
use Rattle.partial_loads.specs.declared.folds.Folded.{Folded}
use Rattle.partial_loads.specs.Folds.{change_of, change_at, composed}
use Rattle.pk_values.specs.Schemas.{Layout}
use Rattle.partial_loads.specs.declared.lines.Line.{Line}
use Rattle.partial_loads.specs.Lines.{AreSorted, IsCoded, ops_of}
use Rattle.partial_loads.specs.Folded.{folded_keys, rise_strictly, change_in, AreFolded, HasCode, first_change, others, with_line, folded_lines}

-- a change after none
pub keep-first : (given : List ℕ) (when : Option ℕ) (c : KeyChange) → composed given when Keep c ≡ c
keep-first given when Keep = refl
keep-first given when Remove = refl
keep-first given when (Renew cells) = refl
keep-first given when (Overlay cells) = refl

-- the order of keys
lt_less : (o : Ordering) → T (is_lt o) → o ≡ Less
lt_less Less h = refl
lt_less Equal h = absurd h
lt_less Greater h = absurd h

below-below : (a b c : List Value) → T (is_lt (key_cmp a b)) → T (is_lt (key_cmp b c)) → T (is_lt (key_cmp a c))
below-below a b c h g = subst (λ o. T (is_lt o)) (sym (key_total.trans a b c (lt_less (key_cmp a b) h) (lt_less (key_cmp b c) g))) tt

apart-below : (a b : List Value) → T (is_lt (key_cmp a b)) → eq_by_cmp key_cmp a b ≡ false
apart-below a b h = ap is_eq (lt_less (key_cmp a b) h)

next-below : (a b : List Value) → T (is_le (key_cmp a b)) → eq_by_cmp key_cmp a b ≡ false → T (is_lt (key_cmp a b))
next-below a b h e = go (key_cmp a b) h e
  where
    go : (o : Ordering) → T (is_le o) → is_eq o ≡ false → T (is_lt o)
    go Less h e = tt
    go Equal h e = cc
    go Greater h e = absurd h

same-key : (a b : List Value) → eq_by_cmp key_cmp a b ≡ true → a ≡ b
same-key a b e = tells_apart key_exact a b e

swapped : (a b : List Value) → eq_by_cmp key_cmp a b ≡ eq_by_cmp key_cmp b a
swapped a b = (eq_by_cmp_equiv key_total).symm a b

pub skip-first : (a b : List Value) (ks : List (List Value)) → T (rise_strictly (a ∷ b ∷ ks)) → T (rise_strictly (a ∷ ks))
skip-first a b [] h = tt
skip-first a b (c ∷ ks) h =
    let rest = run.second (is_lt (key_cmp a b)) (rise_strictly (b ∷ c ∷ ks)) h in
    run.both (is_lt (key_cmp a c)) (rise_strictly (c ∷ ks))
    (below-below a b c (run.first (is_lt (key_cmp a b)) (rise_strictly (b ∷ c ∷ ks)) h) (run.first (is_lt (key_cmp b c)) (rise_strictly (c ∷ ks)) rest))
    (run.second (is_lt (key_cmp b c)) (rise_strictly (c ∷ ks)) rest)

-- the first of rising keys isn't among the others
pub not-among : (a : List Value) (ks : List (List Value)) → T (rise_strictly (a ∷ ks)) → is_among ks a ≡ false
not-among a [] h = refl
not-among a (b ∷ ks) h =
    ap (λ t. t || is_among ks a) (apart-below a b (run.first (is_lt (key_cmp a b)) (rise_strictly (b ∷ ks)) h)) ∙ not-among a ks (skip-first a b ks h)

absorbs : (a b : Truth) → (a || (a || b)) ≡ (a || b)
absorbs true b = refl
absorbs false b = refl

-- what is folded has the keys of the lines
named-with : (given : List ℕ) (when : Option ℕ) (line : Line) (fs : List Folded) (k : List Value) → is_among (folded_keys (with_line given when line fs)) k ≡ (eq_by_cmp key_cmp k (key_named line.op) || is_among (folded_keys fs) k)
named-with given when line [] k = refl
named-with given when line (f ∷ fs) k = go (eq_by_cmp key_cmp f.key (key_named line.op)) refl
  where
    go : (t : Truth) → eq_by_cmp key_cmp f.key (key_named line.op) ≡ t
        → (eq_by_cmp key_cmp k (key_named line.op) || is_among (folded_keys (cond t fs (f ∷ fs))) k) ≡ (eq_by_cmp key_cmp k (key_named line.op) || (eq_by_cmp key_cmp k f.key || is_among (folded_keys fs) k))
    go true e =
        sym (absorbs (eq_by_cmp key_cmp k (key_named line.op)) (is_among (folded_keys fs) k))
        ∙ ap (λ q. eq_by_cmp key_cmp k (key_named line.op) || (eq_by_cmp key_cmp k q || is_among (folded_keys fs) k)) (sym (same-key f.key (key_named line.op) e))
    go false e = refl

named-folded : (given : List ℕ) (when : Option ℕ) (lines : List Line) (k : List Value) → is_among (folded_keys (folded_lines given when lines)) k ≡ is_among (touches (ops_of lines)) k
named-folded given when [] k = refl
named-folded given when (line ∷ lines) k = named-with given when line (folded_lines given when lines) k ∙ ap (λ b. eq_by_cmp key_cmp k (key_named line.op) || b) (named-folded given when lines k)

-- its keys rise strictly
rise-with : (given : List ℕ) (when : Option ℕ) (line : Line) (fs : List Folded) (first : List Value) → T (rise_strictly (folded_keys fs)) → ((f : Folded) (more : List Folded) → fs ≡ f ∷ more → T (is_le (key_cmp (key_named line.op) f.key)))
    → T (rise_strictly (folded_keys (with_line given when line fs)))
rise-with given when line [] first h le = tt
rise-with given when line (f ∷ fs) first h le = go (eq_by_cmp key_cmp f.key (key_named line.op)) refl
  where
    go : (t : Truth) → eq_by_cmp key_cmp f.key (key_named line.op) ≡ t → T (rise_strictly (key_named line.op ∷ folded_keys (cond t fs (f ∷ fs))))
    go true e = subst (λ k. T (rise_strictly (k ∷ folded_keys fs))) (same-key f.key (key_named line.op) e) h
    go false e =
        run.both (is_lt (key_cmp (key_named line.op) f.key)) (rise_strictly (folded_keys (f ∷ fs)))
        (next-below (key_named line.op) f.key (le f fs refl) (swapped (key_named line.op) f.key ∙ e)) h

rise-next : (a : Op) (ops : List Op) → T (rise (a ∷ ops)) → T (rise ops)
rise-next a [] h = tt
rise-next a (b ∷ ops) h = run.second (is_le (key_cmp (key_named a) (key_named b))) (rise (b ∷ ops)) h

rise-folded : (given : List ℕ) (when : Option ℕ) (lines : List Line) → T (rise (ops_of lines)) → T (rise_strictly (folded_keys (folded_lines given when lines)))
rise-folded given when [] h = tt
rise-folded given when (line ∷ []) h = tt
rise-folded given when (line ∷ b ∷ lines) h =
    rise-with given when line (folded_lines given when (b ∷ lines)) (key_named b.op) (rise-folded given when (b ∷ lines) (rise-next line.op (ops_of (b ∷ lines)) h))
    (λ f more is. subst (λ k. T (is_le (key_cmp (key_named line.op) k))) (ap (λ fs. first-key fs (key_named b.op)) is)
    (run.first (is_le (key_cmp (key_named line.op) (key_named b.op))) (rise (ops_of (b ∷ lines))) h))
  where
    first-key : List Folded → List Value → List Value
    first-key [] k = k
    first-key (f ∷ fs) k = f.key

-- a key that isn't there has no change
change-none : (fs : List Folded) (k : List Value) → is_among (folded_keys fs) k ≡ false → change_in fs k ≡ Keep
change-none [] k h = refl
change-none (f ∷ fs) k h = go (eq_by_cmp key_cmp k f.key) refl h (change-none fs k)
  where
    go : (t : Truth) → eq_by_cmp key_cmp k f.key ≡ t → (t || is_among (folded_keys fs) k) ≡ false → (is_among (folded_keys fs) k ≡ false → change_in fs k ≡ Keep) → cond t f.change (change_in fs k) ≡ Keep
    go true e h more = cc
    go false e h more = more h

first-is : (key : List Value) (fs : List Folded) → T (rise_strictly (key ∷ folded_keys (others key fs))) → first_change key fs ≡ change_in fs key
first-is key [] h = refl
first-is key (f ∷ fs) h = ap (λ t. cond t f.change Keep) (swapped f.key key) ∙ go (eq_by_cmp key_cmp key f.key) refl
  where
    go : (t : Truth) → eq_by_cmp key_cmp key f.key ≡ t → cond t f.change Keep ≡ cond t f.change (change_in fs key)
    go true e = refl
    go false e =
        let all : T (rise_strictly (key ∷ folded_keys (f ∷ fs))) = subst (λ t. T (rise_strictly (key ∷ folded_keys (cond t fs (f ∷ fs))))) (swapped f.key key ∙ e) h in
        sym (change-none fs key (not-among key (folded_keys fs) (skip-first key f.key (folded_keys fs) all)))

others-are : (key : List Value) (fs : List Folded) (k : List Value) → eq_by_cmp key_cmp k key ≡ false → change_in (others key fs) k ≡ change_in fs k
others-are key [] k e = refl
others-are key (f ∷ fs) k e = go (eq_by_cmp key_cmp f.key key) refl
  where
    go : (t : Truth) → eq_by_cmp key_cmp f.key key ≡ t → change_in (cond t fs (f ∷ fs)) k ≡ cond (eq_by_cmp key_cmp k f.key) f.change (change_in fs k)
    go true same = ap (λ b. cond b f.change (change_in fs k)) (sym e ∙ ap (eq_by_cmp key_cmp k) (sym (same-key f.key key same)))
    go false same = refl

change-with : (given : List ℕ) (when : Option ℕ) (line : Line) (fs : List Folded) (k : List Value) → T (rise_strictly (folded_keys (with_line given when line fs)))
    → change_in (with_line given when line fs) k ≡ composed given when (cond (eq_by_cmp key_cmp k (key_named line.op)) (change_of line.op) Keep) (change_in fs k)
change-with given when line fs k h = go (eq_by_cmp key_cmp k (key_named line.op)) refl
  where
    go : (t : Truth) → eq_by_cmp key_cmp k (key_named line.op) ≡ t
        → cond t (composed given when (change_of line.op) (first_change (key_named line.op) fs)) (change_in (others (key_named line.op) fs) k) ≡ composed given when (cond t (change_of line.op) Keep) (change_in fs k)
    go true e =
        ap (composed given when (change_of line.op)) (first-is (key_named line.op) fs h ∙ ap (change_in fs) (sym (same-key k (key_named line.op) e)))
    go false e = others-are (key_named line.op) fs k e ∙ sym (keep-first given when (change_in fs k))

changes-folded : (given : List ℕ) (when : Option ℕ) (lines : List Line) (k : List Value) → T (rise (ops_of lines)) → change_in (folded_lines given when lines) k ≡ change_at given when (ops_of lines) k
changes-folded given when [] k h = refl
changes-folded given when (line ∷ lines) k h =
    change-with given when line (folded_lines given when lines) k (rise-folded given when (line ∷ lines) h)
    ∙ ap (composed given when (cond (eq_by_cmp key_cmp k (key_named line.op)) (change_of line.op) Keep)) (changes-folded given when lines k (rise-next line.op (ops_of lines) h))

-- each key has its code
coded-with : (s : Layout) (given : List ℕ) (when : Option ℕ) (line : Line) (fs : List Folded) → IsCoded s line → AllByRecursion (HasCode s) fs → AllByRecursion (HasCode s) (with_line given when line fs)
coded-with s given when line [] coded all = (record { key = coded.key; code = coded.code }, tt)
coded-with s given when line (f ∷ fs) coded all = (record { key = coded.key; code = coded.code }, go (eq_by_cmp key_cmp f.key (key_named line.op)))
  where
    go : (t : Truth) → AllByRecursion (HasCode s) (cond t fs (f ∷ fs))
    go true = all.1
    go false = all

coded-folded : (s : Layout) (given : List ℕ) (when : Option ℕ) (lines : List Line) → All (IsCoded s) lines → AllByRecursion (HasCode s) (folded_lines given when lines)
coded-folded s given when [] coded = tt
coded-folded s given when (line ∷ lines) coded =
    coded-with s given when line (folded_lines given when lines) (coded 0 line (omega arith)) (coded-folded s given when lines (λ i d lt. coded (suc i) d (omega arith)))

-- lines in the order of their keys, which are those of a load
pub folded-are : (s : Layout) (given : List ℕ) (when : Option ℕ) (ops : List Op) (lines : List Line) (folded : List Folded) → AreSorted s ops lines
    → folded ≡ folded_lines given when lines → AreFolded s given when ops folded
folded-are s given when ops lines folded sorted is = subst (AreFolded s given when ops) (sym is) (record {
  rise = rise-folded given when lines sorted.rises;
  named = λ k. named-folded given when lines k ∙ sorted.named k;
  changes = λ k. changes-folded given when lines k sorted.rises ∙ sorted.changes given when k;
  coded = coded-folded s given when lines sorted.coded;
})

-- lines before some that are folded already
abbrev pub folded_onto : List ℕ → Option ℕ → List Line → List Folded → List Folded
folded_onto given when [] fs = fs
folded_onto given when (line ∷ lines) fs = with_line given when line (folded_onto given when lines fs)

pub onto-none : (given : List ℕ) (when : Option ℕ) (lines : List Line) → folded_onto given when lines [] ≡ folded_lines given when lines
onto-none given when [] = refl
onto-none given when (line ∷ lines) = ap (with_line given when line) (onto-none given when lines)

pub onto-last : (given : List ℕ) (when : Option ℕ) (lines : List Line) (line : Line) (fs : List Folded) → folded_onto given when (lines ++ line ∷ []) fs ≡ folded_onto given when lines (with_line given when line fs)
onto-last given when [] line fs = refl
onto-last given when (a ∷ lines) line fs = ap (with_line given when a) (onto-last given when lines line fs)
