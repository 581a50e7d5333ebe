-- The blocks in which rows stand that are gone through in the order of their places.
use Rattle.std.proofs.Common.{◌≡◌, inl, inr, refl, ap, sym, subst, ◌∙◌, ℕ, zero, suc, ◌+◌, ◌/◌, ◌<◌, ◌≤◌, List, [], ◌∷◌, map, length, take, drop, get_or, Bool as Truth, true, false, ◌&&◌, ◌==◌, nat_lt, cond, arith, add-one}
use Rattle.std.specs.Prelude.{All, ⊤}
use Rattle.std.specs.Ordering.{is_lt, nat_cmp, ordering_then}
use Rattle.std.specs.declared.cmp.Ordering.{Ordering}
use Rattle.std.specs.declared.cmp.Ordering.TheVariants.{Less, Equal, Greater}
use Rattle.std.proofs.lemmas.Bool.{and_parts, cases_order, eq-eqb, eqb-false, eqb-true, lt-ltb, ltb-true}
use Rattle.std.proofs.lemmas.List.Elements.{All-cons, All-nil, All-push}
use Rattle.std.proofs.lemmas.List.{take_more}
use Rattle.index_level0.specs.declared.place.Place.{Place}
use Rattle.old_rows.specs.Wanted.{Block, BlocksRise, IsRun, PlacesInOrder, block_below, block_of, is_not_above, place_wanted, runs, same_block}
use Rattle.old_rows.specs.declared.wanted.Wanted.{Wanted}

-- ---- sorted rows are in order

abbrev before : Place → Place → Truth
before p q = is_lt (ordering_then (nat_cmp p.segment q.segment) (nat_cmp p.row q.row))

less : (a b : ℕ) → a < b → nat_cmp a b ≡ Less
less a b lt = ap (λ (t : Truth). cond t Less (cond (a == b) Equal Greater)) (lt-ltb a b lt)

equal : (a b : ℕ) → a ≡ b → nat_cmp a b ≡ Equal
equal a b e = subst (λ (n : ℕ). nat_cmp a n ≡ Equal) e (itself a)
  where
    itself : (n : ℕ) → nat_cmp n n ≡ Equal
    itself n = tied (nat_lt n n) refl
      where
        tied : (t : Truth) → nat_lt n n ≡ t → cond (nat_lt n n) Less (cond (n == n) Equal Greater) ≡ Equal
        tied true e = absurd (let lt : n < n = ltb-true n n e in omega arith)
        tied false e = ap (λ (t : Truth). cond t Less (cond (n == n) Equal Greater)) e ∙ ap (λ (t : Truth). cond t Equal Greater) (eq-eqb n n refl)

not-above : (p q : Place) → before q p ≡ false → is_not_above p q
not-above p q h =
    elim (cases_order p.segment q.segment) [
      | inl e ↦
          elim (cases_order p.row q.row) [
            | inl f ↦ inr (e, omega arith)
            | inr f ↦ elim f [
              | inl lt ↦ inr (e, omega arith)
              | inr lt ↦ absurd (clash (before q p) (rows e lt) h)
            ]
          ]
      | inr f ↦ elim f [
        | inl lt ↦ inl lt
        | inr lt ↦ absurd (clash (before q p) (files lt) h)
      ]
    ]
  where
    clash : (b : Truth) → b ≡ true → b ≡ false → ⊥
    clash b e f = cc (sym e ∙ f)

    files : q.segment < p.segment → before q p ≡ true
    files lt = ap (λ (o : Ordering). is_lt (ordering_then o (nat_cmp q.row p.row))) (less q.segment p.segment lt)

    rows : p.segment ≡ q.segment → q.row < p.row → before q p ≡ true
    rows e lt = ap (λ (o : Ordering). is_lt (ordering_then o (nat_cmp q.row p.row))) (equal q.segment p.segment (sym e)) ∙ ap is_lt (less q.row p.row lt)

pub in-order : (ws : List Wanted) → ((k : ℕ) (d : Wanted) → 0 ≤ k → k + 1 < length ws → before (get_or ws (k + 1) d).place (get_or ws k d).place ≡ false)
    → PlacesInOrder (map place_wanted ws)
in-order [] h = tt
in-order (w ∷ []) h = tt
in-order (w ∷ v ∷ ws) h = (
  not-above w.place v.place (h 0 w (omega arith) (omega arith)),
  in-order (v ∷ ws) (λ k d low lt.
      let later : before (get_or (v ∷ ws) (suc k) d).place (get_or (v ∷ ws) k d).place ≡ false = rw (add-one) at (h (suc k) d (omega arith) (omega arith)) in
      rw (add-one) later),
)

-- ---- their blocks rise

same-block : (p q : Place) → same_block p q ≡ true → block_of p ≡ block_of q
same-block p q h =
    let both = and_parts (p.segment == q.segment) (p.row / 1024 == q.row / 1024) h in
    let file : p.segment ≡ q.segment = eqb-true p.segment q.segment both.0 in
    let block : p.row / 1024 ≡ q.row / 1024 = eqb-true (p.row / 1024) (q.row / 1024) both.1 in
    λ i. (file i, block i)

block-above : (p q : Place) → is_not_above p q → same_block p q ≡ false → block_below (block_of p) (block_of q)
block-above p q (inl lt) h = inl lt
block-above p q (inr both) h =
    let other : (p.row / 1024 == q.row / 1024) ≡ false = ap (λ t. t && (p.row / 1024 == q.row / 1024)) (sym (eq-eqb p.segment q.segment both.0)) ∙ h in
    let apart = eqb-false (p.row / 1024) (q.row / 1024) other in
    let le = both.1 in
    let most : p.row / 1024 ≤ q.row / 1024 = omega arith in
    inr (both.0, below (p.row / 1024) (q.row / 1024) most apart)
  where
    below : (a b : ℕ) → a ≤ b → (a ≡ b → ⊥) → a < b
    below a b le n = elim (cases_order a b) [
      | inl e ↦ absurd (n e)
      | inr f ↦ elim f [
        | inl lt ↦ lt
        | inr lt ↦ absurd (omega (arith, le))
      ]
    ]

-- the first block is that of the first row
pub run-head : (q : Place) (ps : List Place) → (rest : List Block) × (runs (q ∷ ps) ≡ block_of q ∷ rest)
run-head q [] = ([], refl)
run-head q (r ∷ ps) = go (same_block q r) refl (run-head r ps)
  where
    go : (t : Truth) → same_block q r ≡ t → (rest : List Block) × (runs (r ∷ ps) ≡ block_of r ∷ rest)
        → (rest : List Block) × (cond t (runs (r ∷ ps)) (block_of q ∷ runs (r ∷ ps)) ≡ block_of q ∷ rest)
    go true e more = (more.0, more.1 ∙ ap (λ b. b ∷ more.0) (sym (same-block q r e)))
    go false e more = (runs (r ∷ ps), refl)

pub runs-rise : (ps : List Place) → PlacesInOrder ps → BlocksRise (runs ps)
runs-rise [] h = tt
runs-rise (p ∷ []) h = tt
runs-rise (p ∷ q ∷ ps) h = go (same_block p q) refl (runs-rise (q ∷ ps) h.1)
  where
    go : (t : Truth) → same_block p q ≡ t → BlocksRise (runs (q ∷ ps)) → BlocksRise (cond t (runs (q ∷ ps)) (block_of p ∷ runs (q ∷ ps)))
    go true e more = more
    go false e more =
        let head = run-head q ps in
        subst (λ bs. BlocksRise (block_of p ∷ bs)) (sym head.1) (block-above p q h.0 e, subst BlocksRise head.1 more)

-- in each stands one of the rows
pub runs-all : (P : Block → Type 0) (ws : List Wanted) → All (λ w. P (block_of w.place)) ws → All P (runs (map place_wanted ws))
runs-all P [] h = All-nil P
runs-all P (w ∷ []) h = All-cons P (block_of w.place) [] (h 0 w (omega arith)) (All-nil P)
runs-all P (w ∷ v ∷ ws) h = go (same_block w.place v.place) (runs-all P (v ∷ ws) (λ i d lt. h (suc i) d (omega arith)))
  where
    go : (t : Truth) → All P (runs (map place_wanted (v ∷ ws))) → All P (cond t (runs (map place_wanted (v ∷ ws))) (block_of w.place ∷ runs (map place_wanted (v ∷ ws))))
    go true more = more
    go false more = All-cons P (block_of w.place) (runs (map place_wanted (v ∷ ws))) (h 0 w (omega arith)) more

-- ---- a run at the front

-- the others begin with another block, or there are none
abbrev pub OtherNext : Wanted → List Wanted → Type 0
OtherNext w [] = ⊤
OtherNext w (v ∷ vs) = same_block w.place v.place ≡ false

block-same : (p q : Place) → block_of p ≡ block_of q → same_block p q ≡ true
block-same p q e = λ i. eq-eqb p.segment q.segment (ap (λ (b : Block). b.0) e) i && eq-eqb (p.row / 1024) (q.row / 1024) (ap (λ (b : Block). b.1) e) i

pub run-rest : (count : ℕ) (w : Wanted) (ws : List Wanted) → count ≤ length ws → All (λ v. block_of v.place ≡ block_of w.place) (take count ws) → OtherNext w (drop count ws)
    → runs (map place_wanted (w ∷ ws)) ≡ block_of w.place ∷ runs (map place_wanted (drop count ws))
run-rest zero w [] le one next = refl
run-rest zero w (v ∷ vs) le one next = ap (λ t. cond t (runs (map place_wanted (v ∷ vs))) (block_of w.place ∷ runs (map place_wanted (v ∷ vs)))) next
run-rest (suc n) w [] le one next = absurd (omega arith)
run-rest (suc n) w (v ∷ vs) le one next =
    let here : block_of v.place ≡ block_of w.place = one 0 v (omega arith) in
    let later : All (λ u. block_of u.place ≡ block_of v.place) (take n vs) = λ i d lt. one (suc i) d (omega arith) ∙ sym here in
    ap (λ t. cond t (runs (map place_wanted (v ∷ vs))) (block_of w.place ∷ runs (map place_wanted (v ∷ vs)))) (block-same w.place v.place (sym here))
    ∙ run-rest n v vs (omega arith) later (moved (drop n vs) next)
    ∙ ap (λ b. b ∷ runs (map place_wanted (drop n vs))) here
  where
    moved : (rest : List Wanted) → OtherNext w rest → OtherNext v rest
    moved [] h = tt
    moved (u ∷ us) h = go (same_block v.place u.place) refl
      where
        go : (t : Truth) → same_block v.place u.place ≡ t → t ≡ false
        go false e = refl
        go true e = sym (block-same w.place u.place (sym (one 0 v (omega arith)) ∙ same-block v.place u.place e)) ∙ h

-- a run at the front
pub is-run : (count : ℕ) (wanted : List Wanted) → 1 ≤ count → count ≤ length wanted
    → ((w : Wanted) (ws : List Wanted) → wanted ≡ w ∷ ws → All (λ v. block_of v.place ≡ block_of w.place) (take count wanted))
    → ((w : Wanted) (ws : List Wanted) → wanted ≡ w ∷ ws → OtherNext w (drop count wanted)) → IsRun count wanted
is-run zero wanted some most one next = absurd (omega arith)
is-run (suc n) [] some most one next = absurd (omega arith)
is-run (suc n) (v ∷ vs) some most one next = record {
  some = some;
  most = most;
  one = one;
  rest = λ w ws e.
      let here : All (λ u. block_of u.place ≡ block_of v.place) (take (suc n) (v ∷ vs)) = one v vs refl in
      run-rest n v vs (omega arith) (λ i d lt. here (suc i) d (omega arith)) (next v vs refl)
      ∙ ap (λ b. b ∷ runs (map place_wanted (drop n vs))) (ap (λ us. block_of (get_or us 0 v).place) e);
}

abbrev Zero : Wanted
Zero = record { place = record { segment = 0; row = 0 }; key = 0 }

first-is : (wanted : List Wanted) (w : Wanted) (ws : List Wanted) → wanted ≡ w ∷ ws → get_or wanted 0 Zero ≡ w
first-is wanted w ws e = ap (λ us. get_or us 0 Zero) e

-- one row more in the block of the first
pub run-more : (count : ℕ) (wanted : List Wanted) → count < length wanted → same_block (get_or wanted 0 Zero).place (get_or wanted count Zero).place ≡ true
    → ((w : Wanted) (ws : List Wanted) → wanted ≡ w ∷ ws → All (λ u. block_of u.place ≡ block_of w.place) (take count wanted))
    → (w : Wanted) (ws : List Wanted) → wanted ≡ w ∷ ws → All (λ u. block_of u.place ≡ block_of w.place) (take (count + 1) wanted)
run-more count wanted lt same all w ws e =
    let v : Wanted = get_or wanted count Zero in
    let here : block_of w.place ≡ block_of v.place = same-block w.place v.place (ap (λ (u : Wanted). same_block u.place v.place) (sym (first-is wanted w ws e)) ∙ same) in
    subst (All (λ u. block_of u.place ≡ block_of w.place)) (sym (take_more wanted count Zero lt))
    (All-push (λ u. block_of u.place ≡ block_of w.place) (take count wanted) v (all w ws e) (sym here))

next-is : (count : ℕ) (wanted : List Wanted) (w : Wanted) → count < length wanted → same_block w.place (get_or wanted count Zero).place ≡ false → OtherNext w (drop count wanted)
next-is count [] w lt h = absurd (omega arith)
next-is zero (v ∷ vs) w lt h = h
next-is (suc count) (v ∷ vs) w lt h = next-is count vs w (omega arith) h

pub other-next : (count : ℕ) (wanted : List Wanted) → count < length wanted → same_block (get_or wanted 0 Zero).place (get_or wanted count Zero).place ≡ false
    → (w : Wanted) (ws : List Wanted) → wanted ≡ w ∷ ws → OtherNext w (drop count wanted)
other-next count wanted lt h w ws e = next-is count wanted w lt (ap (λ (u : Wanted). same_block u.place (get_or wanted count Zero).place) (sym (first-is wanted w ws e)) ∙ h)

past-all : (count : ℕ) (wanted : List Wanted) (w : Wanted) → length wanted ≤ count → OtherNext w (drop count wanted)
past-all zero [] w le = tt
past-all zero (v ∷ vs) w le = absurd (omega arith)
past-all (suc count) [] w le = tt
past-all (suc count) (v ∷ vs) w le = past-all count vs w (omega arith)

pub none-next : (count : ℕ) (wanted : List Wanted) → length wanted ≤ count → (w : Wanted) (ws : List Wanted) → wanted ≡ w ∷ ws → OtherNext w (drop count wanted)
none-next count wanted le w ws e = past-all count wanted w le
