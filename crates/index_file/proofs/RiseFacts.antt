-- Keys that rise, by neighbours.
use Rattle.std.proofs.Common.{◌≡◌, refl, ap, sym, subst, ◌∙◌, ℕ, suc, zero, ◌+◌, ◌-◌, ◌<◌, ◌≤◌, arith, List, [], ◌∷◌, length, get_or, Bool as Truth, true, false, T, ◌&&◌}
use Rattle.std.specs.FinMap.{is_sorted}
use Rattle.std.specs.FinMap.Entries.{below_all}
use Rattle.std.specs.Cmp.Lexicographic.{slice_cmp, nat_list_cmp_total}
use Rattle.std.specs.Ordering.{is_lt, nat_cmp}
use Rattle.std.specs.declared.cmp.Ordering.{Ordering}
use Rattle.std.specs.declared.cmp.Ordering.TheVariants.{Less, Equal, Greater}
use Rattle.index_file.specs.Buckets.{Pair}

first : (a b : Truth) → T (a && b) → T a
first true b p = tt
first false b p = p

second : (a b : Truth) → T (a && b) → T b
second true b p = p
second false b p = absurd p

both : (a b : Truth) → T a → T b → T (a && b)
both true b p q = q
both false b p q = absurd p

less : (r : Ordering) → T (is_lt r) → r ≡ Less
less Less p = refl
less Equal p = absurd p
less Greater p = absurd p

abbrev pub Neighbours : List Pair → ℕ → Type 0
Neighbours es n = (k : ℕ) (d : Pair) → k + 1 < n → T (is_lt (slice_cmp nat_cmp (get_or es k d).0 (get_or es (k + 1) d).0))

below_further : (x y : List ℕ) (es : List Pair) → slice_cmp nat_cmp x y ≡ Less → T (below_all (slice_cmp nat_cmp) y es) → T (below_all (slice_cmp nat_cmp) x es)
below_further x y [] below all = tt
below_further x y (e ∷ es) below all =
    both (is_lt (slice_cmp nat_cmp x e.0)) (below_all (slice_cmp nat_cmp) x es)
    (subst (λ r. T (is_lt r)) (sym (nat_list_cmp_total.trans x y e.0 below (less (slice_cmp nat_cmp y e.0) (first (is_lt (slice_cmp nat_cmp y e.0)) (below_all (slice_cmp nat_cmp) y es) all)))) tt)
    (below_further x y es below (second (is_lt (slice_cmp nat_cmp y e.0)) (below_all (slice_cmp nat_cmp) y es) all))

further : (e f : Pair) (es : List Pair) (k : ℕ) (d : Pair) → T (is_lt (slice_cmp nat_cmp (get_or (e ∷ f ∷ es) (suc k) d).0 (get_or (e ∷ f ∷ es) (suc k + 1) d).0))
    → T (is_lt (slice_cmp nat_cmp (get_or (f ∷ es) k d).0 (get_or (f ∷ es) (k + 1) d).0))
further e f es k d h =
    let m : suc k + 1 ≡ suc (k + 1) = omega arith in
    subst (λ n. T (is_lt (slice_cmp nat_cmp (get_or (f ∷ es) k d).0 (get_or (e ∷ f ∷ es) n d).0))) m h

sorted : (es : List Pair) → Neighbours es (length es) → T (is_sorted (slice_cmp nat_cmp) es)
sorted [] up = tt
sorted (e ∷ []) up = tt
sorted (e ∷ f ∷ es) up =
    let rest = sorted (f ∷ es) (λ k d within. further e f es k d (up (suc k) d (omega arith))) in
    let here : T (is_lt (slice_cmp nat_cmp e.0 f.0)) = up 0 e (omega arith) in
    both (below_all (slice_cmp nat_cmp) e.0 (f ∷ es)) (is_sorted (slice_cmp nat_cmp) (f ∷ es))
    (both (is_lt (slice_cmp nat_cmp e.0 f.0)) (below_all (slice_cmp nat_cmp) e.0 es) here
    (below_further e.0 f.0 es (less (slice_cmp nat_cmp e.0 f.0) here) (first (below_all (slice_cmp nat_cmp) f.0 es) (is_sorted (slice_cmp nat_cmp) es) rest)))
    rest

neighbour : (es : List Pair) → T (is_sorted (slice_cmp nat_cmp) es) → (k : ℕ) (d : Pair) → k + 1 < length es → T (is_lt (slice_cmp nat_cmp (get_or es k d).0 (get_or es (k + 1) d).0))
neighbour [] up k d within = absurd (omega arith)
neighbour (e ∷ []) up k d within = absurd (omega arith)
neighbour (e ∷ f ∷ es) up zero d within =
    first (is_lt (slice_cmp nat_cmp e.0 f.0)) (below_all (slice_cmp nat_cmp) e.0 es) (first (below_all (slice_cmp nat_cmp) e.0 (f ∷ es)) (is_sorted (slice_cmp nat_cmp) (f ∷ es)) up)
neighbour (e ∷ f ∷ es) up (suc k) d within =
    let l : k + 1 < length (f ∷ es) = omega arith in
    let m : suc (k + 1) ≡ suc k + 1 = omega arith in
    subst (λ n. T (is_lt (slice_cmp nat_cmp (get_or (f ∷ es) k d).0 (get_or (e ∷ f ∷ es) n d).0))) m (neighbour (f ∷ es) (second (below_all (slice_cmp nat_cmp) e.0 (f ∷ es)) (is_sorted (slice_cmp nat_cmp) (f ∷ es)) up) k d l)

true_if : (b : Truth) → T b → true ≡ b
true_if true t = refl
true_if false t = absurd t

false_if : (b : Truth) → (T b → ⊥) → false ≡ b
false_if true t = absurd (t tt)
false_if false t = refl

pub rising : (es : List Pair) → Neighbours es (length es) → true ≡ is_sorted (slice_cmp nat_cmp) es
rising es up = true_if (is_sorted (slice_cmp nat_cmp) es) (sorted es up)

any_default : (es : List Pair) (k : ℕ) (c d : Pair) → k < length es → get_or es k c ≡ get_or es k d
any_default [] k c d within = absurd (omega arith)
any_default (x ∷ es) zero c d within = refl
any_default (x ∷ es) (suc k) c d within = let l : k < length es = omega arith in any_default es k c d l

pub not_rising : (es : List Pair) (i : ℕ) (e f : Pair) → 1 ≤ i → i < length es → e ≡ get_or es (i - 1) e → f ≡ get_or es i f → (T (is_lt (slice_cmp nat_cmp e.0 f.0)) → ⊥) → false ≡ is_sorted (slice_cmp nat_cmp) es
not_rising es i e f some within at and_at not_less =
    let n : (i - 1) + 1 ≡ i = omega arith in
    false_if (is_sorted (slice_cmp nat_cmp) es) (λ up.
    not_less (subst (λ x. T (is_lt (slice_cmp nat_cmp x.0 f.0))) (sym at)
    (subst (λ y. T (is_lt (slice_cmp nat_cmp (get_or es (i - 1) e).0 y.0))) (ap (λ k. get_or es k e) n ∙ any_default es i e f within ∙ sym and_at)
    (neighbour es up (i - 1) e (omega arith)))))
