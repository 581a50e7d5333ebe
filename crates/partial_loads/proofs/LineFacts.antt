-- Lines that are sorted by the codes of their keys are in the order of their keys, and those of one key keep theirs.
use Rattle.std.proofs.Common.{◌≡◌, refl, ap, sym, subst, ◌∙◌, ℕ, suc, ◌+◌, ◌<◌, ◌≤◌, List, [], ◌∷◌, ◌++◌, length, get_or, filter, Option, Bool as Truth, true, false, ◌&&◌, ◌||◌, not, cond, T, arith, add-one}
use Rattle.std.specs.Prelude.{All, IsPermutation}
use Rattle.std.specs.List.{list_any}
use Rattle.std.specs.List.Sorted.{IsStableBy, ties}
use Rattle.std.specs.Cmp.{tied_itself}
use Rattle.std.specs.Cmp.Lexicographic.{slice_cmp}
use Rattle.std.specs.Ordering.{eq_by_cmp, is_le, is_lt, nat_cmp, ordering_reverse}
use Rattle.std.specs.declared.cmp.Ordering.{Ordering}
use Rattle.std.specs.declared.cmp.Ordering.TheVariants.{Less, Equal, Greater}
use Rattle.std.proofs.lemmas.Cmp.{nat_cmp_total, nat_list_cmp_total}
use Rattle.std.proofs.lemmas.List.Sorted.{All-permutation, IsPermutation-trans, list_any-IsPermutation}
use Rattle.std.proofs.lemmas.List.{map-append}
use Rattle.std.proofs.lemmas.List.Elements.{All-push}
use Rattle.std.proofs.lemmas.Map.Views.{tells_apart}
use Rattle.key_code.specs.KeyCode.{IsInOrder, key_code}
use Rattle.key_code.specs.Prefixes.{prefix_of}
use Rattle.pk_values.specs.Order.{key_cmp}
use Rattle.pk_values.specs.OrderFacts.{key_total, key_exact}
use Rattle.pk_values.specs.Schemas.{Layout}
use Rattle.pk_values.specs.declared.cells.Value.{Value}
use Rattle.pk_model.specs.Merges.{rise}
use Rattle.pk_model.specs.Tables.{key_named, touches}
use Rattle.pk_model.specs.declared.calls.Op.{Op}
use Rattle.pk_model.specs.declared.calls.Op.TheVariants.{Delete}
use Rattle.pk_model.proofs.RunLaws as run
use Rattle.rowsets.specs.Live.{is_among}
use Rattle.partial_loads.specs.declared.changes.KeyChange.TheVariants.{Keep}
use Rattle.partial_loads.specs.declared.lines.Line.{Line}
use Rattle.partial_loads.specs.Folds.{change_at, change_of, composed}
use Rattle.partial_loads.specs.Lines.{AreSorted, IsCoded, IsShortKey, ops_of}
use Rattle.partial_loads.proofs.FoldedFacts.{keep-first}

-- codes compare as the keys do
codes-order : (s : Layout) (a b : Line) → IsCoded s a → IsCoded s b → slice_cmp nat_cmp a.code b.code ≡ key_cmp (key_named a.op) (key_named b.op)
codes-order s a b ca cb = ap (slice_cmp nat_cmp a.code) cb.code ∙ ca.order (key_named b.op) cb.key.fits

not_after : (a b : List Value) → is_lt (key_cmp b a) ≡ false → T (is_le (key_cmp a b))
not_after a b h = by (key_cmp b a) (key_total.antisymm a b) h
  where
    by : (o : Ordering) → key_cmp a b ≡ ordering_reverse o → is_lt o ≡ false → T (is_le (key_cmp a b))
    by Less e n = cc
    by Equal e n = subst (λ r. T (is_le r)) (sym e) tt
    by Greater e n = subst (λ r. T (is_le r)) (sym e) tt

abbrev code_before : Line → Line → Truth
code_before a b = is_lt (slice_cmp nat_cmp a.code b.code)

rise-coded : (s : Layout) (lines : List Line) → All (IsCoded s) lines → ((k : ℕ) (d : Line) → 0 ≤ k → k + 1 < length lines → code_before (get_or lines (k + 1) d) (get_or lines k d) ≡ false)
    → T (rise (ops_of lines))
rise-coded s [] coded h = tt
rise-coded s (a ∷ []) coded h = tt
rise-coded s (a ∷ b ∷ lines) coded h =
    let ca : IsCoded s a = coded 0 a (omega arith) in
    let cb : IsCoded s b = coded 1 a (omega arith) in
    run.both _ _ (not_after (key_named a.op) (key_named b.op) (ap is_lt (sym (codes-order s b a cb ca)) ∙ h 0 a (omega arith) (omega arith)))
    (rise-coded s (b ∷ lines) (λ i d lt. coded (suc i) d (omega arith)) (λ k d low high.
    let later : code_before (get_or (b ∷ lines) (suc k) d) (get_or (b ∷ lines) k d) ≡ false = rw (add-one) at (h (suc k) d (omega arith) (omega arith)) in
    rw (add-one) later))

abbrev names : List Value → Line → Truth
names key line = eq_by_cmp key_cmp key (key_named line.op)

-- lines that a test leaves out don't count at a key where it takes each line that names the key
filtered : (given : List ℕ) (when : Option ℕ) (key : List Value) (p : Line → Truth) (lines : List Line) → All (λ line. names key line ≡ true → p line ≡ true) lines
    → change_at given when (ops_of (filter p lines)) key ≡ change_at given when (ops_of lines) key
filtered given when key p [] takes = refl
filtered given when key p (line ∷ lines) takes = go (p line) refl (filtered given when key p lines later)
  where
    later : All (λ l. names key l ≡ true → p l ≡ true) lines
    later i d lt = takes (suc i) d (omega arith)

    left_out : (t : Truth) → names key line ≡ t → p line ≡ false → names key line ≡ false
    left_out false e f = e
    left_out true e f = let clash : true ≡ false = sym (takes 0 line (omega arith) e) ∙ f in cc

    go : (t : Truth) → p line ≡ t → change_at given when (ops_of (filter p lines)) key ≡ change_at given when (ops_of lines) key
        → change_at given when (ops_of (cond t (line ∷ filter p lines) (filter p lines))) key
        ≡ composed given when (cond (names key line) (change_of line.op) Keep) (change_at given when (ops_of lines) key)
    go true e more = ap (composed given when (cond (names key line) (change_of line.op) Keep)) more
    go false e more =
        more ∙ sym (keep-first given when (change_at given when (ops_of lines) key))
        ∙ ap (λ b. composed given when (cond b (change_of line.op) Keep) (change_at given when (ops_of lines) key)) (sym (left_out (names key line) refl e))

-- a stable sort in which lines of one code tie gives each key the same change
stable-lines : (s : Layout) (xs ys : List Line) (lt : Line → Line → Truth) → IsStableBy lt xs ys → ((a b : Line) → a.code ≡ b.code → ties lt a b ≡ true)
    → All (IsCoded s) xs → All (IsCoded s) ys → (given : List ℕ) (when : Option ℕ) (key : List Value)
    → change_at given when (ops_of ys) key ≡ change_at given when (ops_of xs) key
stable-lines s xs ys lt stable tie cx cy given when key =
    sym (filtered given when key p ys (takes ys cy)) ∙ ap (λ lines. change_at given when (ops_of lines) key) (stable q) ∙ filtered given when key p xs (takes xs cx)
  where
    q : Line
    q = record { code = key_code s key; op = Delete key }

    p : Line → Truth
    p = ties lt q

    takes : (lines : List Line) → All (IsCoded s) lines → All (λ line. names key line ≡ true → p line ≡ true) lines
    takes lines coded i d lt is =
        let line = get_or lines i d in
        tie q line (ap (key_code s) (tells_apart key_exact key (key_named line.op) is) ∙ sym (coded i d lt).code)

number-ties : (a b : Line) → a.code ≡ b.code → ties (λ x y. is_lt (nat_cmp (prefix_of x.code) (prefix_of y.code))) a b ≡ true
number-ties a b e =
    subst (λ c. (not (is_lt (nat_cmp (prefix_of a.code) (prefix_of c))) && not (is_lt (nat_cmp (prefix_of c) (prefix_of a.code)))) ≡ true) e
    (ap (λ o. not (is_lt o) && not (is_lt o)) (tied_itself nat_cmp_total (prefix_of a.code)))

code-ties : (a b : Line) → a.code ≡ b.code → ties code_before a b ≡ true
code-ties a b e =
    subst (λ c. (not (is_lt (slice_cmp nat_cmp a.code c)) && not (is_lt (slice_cmp nat_cmp c a.code))) ≡ true) e
    (ap (λ o. not (is_lt o) && not (is_lt o)) (tied_itself nat_list_cmp_total a.code))

among-lines : (lines : List Line) (k : List Value) → is_among (touches (ops_of lines)) k ≡ list_any (names k) lines
among-lines [] k = refl
among-lines (line ∷ lines) k = ap (λ b. names k line || b) (among-lines lines k)

named-sorted : (xs ys : List Line) → IsPermutation xs ys → (k : List Value) → is_among (touches (ops_of ys)) k ≡ is_among (touches (ops_of xs)) k
named-sorted xs ys moved k = among-lines ys k ∙ sym (list_any-IsPermutation (names k) xs ys moved) ∙ sym (among-lines xs k)

-- sorted by the numbers of the codes and then by the codes
pub twice-sorted : (s : Layout) (xs ys zs : List Line) → All (IsCoded s) xs → IsPermutation xs ys → IsPermutation ys zs
    → IsStableBy (λ x y. is_lt (nat_cmp (prefix_of x.code) (prefix_of y.code))) xs ys → IsStableBy code_before ys zs
    → ((k : ℕ) (d : Line) → 0 ≤ k → k + 1 < length zs → code_before (get_or zs (k + 1) d) (get_or zs k d) ≡ false)
    → AreSorted s (ops_of xs) zs
twice-sorted s xs ys zs coded first second by_number by_code sorted =
    let cy : All (IsCoded s) ys = All-permutation (IsCoded s) xs ys first coded in
    let cz : All (IsCoded s) zs = All-permutation (IsCoded s) ys zs second cy in
    record {
      coded = cz;
      rises = rise-coded s zs cz sorted;
      named = named-sorted xs zs (IsPermutation-trans xs ys zs first second);
      changes = λ given when key. stable-lines s ys zs code_before by_code code-ties cy cz given when key ∙ stable-lines s xs ys _ by_number number-ties coded cy given when key;
    }

-- one line more with its code
pub coded-more : (s : Layout) (lines : List Line) (code : List ℕ) (op : Op) (key : List Value) → All (IsCoded s) lines → key ≡ key_named op → IsShortKey s (key_named op)
    → code ≡ key_code s key → IsInOrder s key code → All (IsCoded s) (lines ++ record { code = code; op = op } ∷ [])
coded-more s lines code op key all same short is order =
    let line : Line = record { code = code; op = op } in
    let coded : IsCoded s line = record { key = short; code = is ∙ ap (key_code s) same; order = subst (λ k. IsInOrder s k code) same order } in
    All-push (IsCoded s) lines line all coded

pub ops-more : (lines : List Line) (line : Line) (ops : List Op) → ops_of lines ≡ ops → ops_of (lines ++ line ∷ []) ≡ ops ++ line.op ∷ []
ops-more lines line ops e = map-append (λ (l : Line). l.op) lines (line ∷ []) ∙ ap (λ os. os ++ line.op ∷ []) e
