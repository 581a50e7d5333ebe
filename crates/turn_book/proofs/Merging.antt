-- Lists of places that are merged, and two beginnings of one history.
use Rattle.std.proofs.Common.{◌≡◌, ◌≢◌, ◌⊎◌, ℕ, zero, suc, ◌+◌, ◌<◌, ◌≤◌, List, [], ◌∷◌, ◌++◌, length, sym, refl, ap, ◌∙◌, subst, ⊎_elim, inl, inr, arith, lt_of_not-le, append-nil, Option, Some, None}
use native.Mathlib.Decide.{dec_le}
use mathlib.Core.List.{IsPrefix}
use Rattle.turn_book.specs.Places.{Rises, Has, places_after, pick, insert, merged}
use Rattle.turn_book.specs.Plays.{longer, shorter_of}

pub prefix_whole : {A : Type 0} (xs log : List A) → IsPrefix xs log → length log ≤ length xs → xs ≡ log
prefix_whole {A} xs log p le = rest_empty p.0 p.1
  where
    rest_empty : (k : List A) → xs ++ k ≡ log → xs ≡ log
    rest_empty [] e = sym (append-nil xs) ∙ e
    rest_empty (x ∷ k) e = let n : length (xs ++ x ∷ k) ≡ length log = ap length e in let m = Rattle.std.proofs.Common.length-append xs (x ∷ k) in absurd (omega arith)

pub pick_cases : {P A : Type 0} (F : A → Type 0) (d : Dec P) (x y : A) → (P → F x) → ((P → ⊥) → F y) → F (pick d x y)
pick_cases F (yes p) x y a b = a p
pick_cases F (no n) x y a b = b n

pub rises_lower : (low low' : ℕ) (xs : List ℕ) → low' ≤ low → Rises low xs → Rises low' xs
rises_lower low low' [] le r = tt
rises_lower low low' (x ∷ xs) le r = let a = r.0 in (omega arith, r.1)

pub rises_above : (low : ℕ) (xs : List ℕ) (p : ℕ) → Rises low xs → Has xs p → low < p
rises_above low [] p r h = absurd h
rises_above low (x ∷ xs) p r h = ⊎_elim (λ (e : x ≡ p). let a = r.0 in omega arith) (λ (t : Has xs p). let a = r.0 in let b = rises_above x xs p r.1 t in omega arith) h

pub insert_has : (n : ℕ) (xs : List ℕ) (p : ℕ) → Has (insert n xs) p → (n ≡ p) ⊎ Has xs p
insert_has n [] p = λ h. h
insert_has n (x ∷ xs) p = pick_cases (λ (l : List ℕ). Has l p → (n ≡ p) ⊎ Has (x ∷ xs) p) (dec_le n x) (n ∷ x ∷ xs) (x ∷ insert n xs) (λ _ h. h)
    (λ _ h. ⊎_elim (λ (e : x ≡ p). inr (inl e)) (λ (t : Has (insert n xs) p). ⊎_elim (λ (e : n ≡ p). inl e) (λ (u : Has xs p). inr (inr u)) (insert_has n xs p t)) h)

pub insert_length : (n : ℕ) (xs : List ℕ) → length (insert n xs) ≡ length xs + 1
insert_length n [] = refl
insert_length n (x ∷ xs) = pick_cases (λ (l : List ℕ). length l ≡ length (x ∷ xs) + 1) (dec_le n x) (n ∷ x ∷ xs) (x ∷ insert n xs) (λ _. omega arith) (λ _. let h = insert_length n xs in omega arith)

pub insert_rises : (low n : ℕ) (xs : List ℕ) → low < n → Rises low xs → (Has xs n → ⊥) → Rises low (insert n xs)
insert_rises low n [] le r no_n = (le, tt)
insert_rises low n (x ∷ xs) le r no_n = pick_cases (λ (l : List ℕ). Rises low l) (dec_le n x) (n ∷ x ∷ xs) (x ∷ insert n xs)
    (λ p. let other : x ≢ n = λ e. no_n (inl e) in (le, ((omega arith), r.1)))
    (λ np. let b = lt_of_not-le np in (r.0, insert_rises x n xs b r.1 (λ h. no_n (inr h))))

pub merged_has : (xs ys : List ℕ) (p : ℕ) → Has (merged xs ys) p → Has xs p ⊎ Has ys p
merged_has xs [] p h = inl h
merged_has xs (y ∷ ys) p h = ⊎_elim (λ (e : y ≡ p). inr (inl e)) (λ (t : Has (merged xs ys) p). ⊎_elim (λ (a : Has xs p). inl a) (λ (b : Has ys p). inr (inr b)) (merged_has xs ys p t)) (insert_has y (merged xs ys) p h)

pub merged_length : (xs ys : List ℕ) → length (merged xs ys) ≡ length xs + length ys
merged_length xs [] = omega arith
merged_length xs (y ∷ ys) = let a = insert_length y (merged xs ys) in let b = merged_length xs ys in omega arith

pub merged_rises : (low : ℕ) (xs ys : List ℕ) → Rises low xs → Rises low ys → ((p : ℕ) → Has xs p → Has ys p → ⊥) → Rises low (merged xs ys)
merged_rises low xs [] r s no_both = r
merged_rises low xs (y ∷ ys) r s no_both = insert_rises low y (merged xs ys) s.0
    (merged_rises low xs ys r (let a = s.0 in rises_lower y low ys (omega arith) s.1) (λ p a b. no_both p a (inr b)))
    (λ h. ⊎_elim (λ (a : Has xs y). no_both y a (inl refl)) (λ (b : Has ys y). let c = rises_above y ys y s.1 b in absurd (omega arith)) (merged_has xs ys y h))

module _ {A : Type 0} where
  pub prefix_trans : (xs ys zs : List A) → IsPrefix xs ys → IsPrefix ys zs → IsPrefix xs zs
  prefix_trans xs ys zs p q = (p.0 ++ q.0, sym (Rattle.std.proofs.Common.append_assoc xs p.0 q.0) ∙ (ap (λ w. w ++ q.0) p.1 ∙ q.1))

  tail_or : List A → List A
  tail_or [] = []
  tail_or (x ∷ xs) = xs

  head_or : A → List A → A
  head_or d [] = d
  head_or d (x ∷ xs) = x

  -- of two beginnings of one list the shorter begins the other
  pub prefix_of_two : (xs ys log : List A) → IsPrefix xs log → IsPrefix ys log → length xs ≤ length ys → IsPrefix xs ys
  unfolding tail_or head_or
  prefix_of_two [] ys log p q le = (ys, refl)
  prefix_of_two (x ∷ xs) [] log p q le = absurd (omega arith)
  prefix_of_two (x ∷ xs) (y ∷ ys) [] p q le = let e : length (x ∷ (xs ++ p.0)) ≡ 0 = ap length p.1 in absurd (omega arith)
  prefix_of_two (x ∷ xs) (y ∷ ys) (l ∷ log) p q le =
      let h : IsPrefix xs ys = prefix_of_two xs ys log (p.0, ap tail_or p.1) (q.0, ap tail_or q.1) (omega arith) in
      let same : x ≡ y = ap (head_or x) p.1 ∙ sym (ap (head_or x) q.1) in (h.0, λ i. same i ∷ h.1 i)

  pub longer_begins : (xs ys log : List A) → IsPrefix xs log → IsPrefix ys log → IsPrefix (longer xs ys) log
  longer_begins xs ys log p q = pick_cases (λ (l : List A). IsPrefix l log) (dec_le (length xs) (length ys)) ys xs (λ _. q) (λ _. p)

  pub shorter_begins : (xs ys log : List A) → IsPrefix xs log → IsPrefix ys log → IsPrefix (shorter_of xs ys) (longer xs ys)
  shorter_begins xs ys log p q = two (dec_le (length xs) (length ys))
    where
      two : (d : Dec (length xs ≤ length ys)) → IsPrefix (pick d xs ys) (pick d ys xs)
      two (yes le) = prefix_of_two xs ys log p q le
      two (no n) = let lt = lt_of_not-le n in prefix_of_two ys xs log q p (omega arith)

  pub longer_length : (xs ys : List A) → (length xs ≤ length (longer xs ys)) × (length ys ≤ length (longer xs ys))
  longer_length xs ys = pick_cases (λ (l : List A). (length xs ≤ length l) × (length ys ≤ length l)) (dec_le (length xs) (length ys)) ys xs (λ le. (le, omega arith)) (λ n. let lt = lt_of_not-le n in (omega arith, omega arith))

-- rising numbers up to n, n of them, are all of them
pub rises_full : (low : ℕ) (xs : List ℕ) (n : ℕ) → Rises low xs → ((p : ℕ) → Has xs p → p ≤ low + n) → length xs ≡ n → xs ≡ places_after low n
rises_full low [] zero r all e = refl
rises_full low [] (suc n) r all e = absurd (omega arith)
rises_full low (x ∷ xs) zero r all e = absurd (omega arith)
rises_full low (x ∷ xs) (suc n) r all e =
    let a = r.0 in let top = rises_top x xs (low + suc n) (all x (inl refl)) r.1 (λ p h. all p (inr h)) in
    let first : x ≡ low + 1 = omega arith in
    let others : xs ≡ places_after x n = rises_full x xs n r.1 (λ p h. let b = all p (inr h) in omega arith) (omega arith) in
    (λ i. first i ∷ (others ∙ ap (λ (k : ℕ). places_after k n) first) i)
  where
    rises_top : (low : ℕ) (xs : List ℕ) (n : ℕ) → low ≤ n → Rises low xs → ((p : ℕ) → Has xs p → p ≤ n) → length xs + low ≤ n
    rises_top low [] n le r all = omega arith
    rises_top low (x ∷ xs) n le r all = let a = r.0 in let h = rises_top x xs n (all x (inl refl)) r.1 (λ p h. all p (inr h)) in omega arith

abbrev or_else : {A : Type 0} → A → Option A → A
or_else d None = d
or_else d (Some y) = y

pub some_is : {A : Type 0} (x y : A) → Some x ≡ Some y → x ≡ y
some_is x y e = ap (or_else x) e

is_none : {A : Type 0} → Option A → ℕ
is_none None = 1
is_none (Some x) = 0

pub none_some : {A : Type 0} (x : A) → None ≡ Some x → ⊥
unfolding is_none
none_some {A} x e = let f : Option A → ℕ = is_none in let z : 1 ≡ 0 = ap f e in absurd (omega (arith, z))

pub insert_apart : (low n : ℕ) (xs : List ℕ) → Rises low (insert n xs) → Has xs n → ⊥
insert_apart low n [] = λ r h. absurd h
insert_apart low n (x ∷ xs) = pick_cases (λ (l : List ℕ). Rises low l → Has (x ∷ xs) n → ⊥) (dec_le n x) (n ∷ x ∷ xs) (x ∷ insert n xs)
    (λ _ r h. let a = r.1.0 in ⊎_elim (λ (e : x ≡ n). absurd (omega arith)) (λ (t : Has xs n). let b = rises_above x xs n r.1.1 t in absurd (omega arith)) h)
    (λ np r h. let b = lt_of_not-le np in ⊎_elim (λ (e : x ≡ n). absurd (omega arith)) (λ (t : Has xs n). insert_apart x n xs r.1 t) h)

pub insert_rest : (low n : ℕ) (xs : List ℕ) → Rises low (insert n xs) → Rises low xs
insert_rest low n [] = λ r. tt
insert_rest low n (x ∷ xs) = pick_cases (λ (l : List ℕ). Rises low l → Rises low (x ∷ xs)) (dec_le n x) (n ∷ x ∷ xs) (x ∷ insert n xs)
    (λ _ r. let a = r.0 in let b = r.1.0 in ((omega arith), r.1.1)) (λ _ r. (r.0, insert_rest x n xs r.1))

pub insert_keeps : (n : ℕ) (xs : List ℕ) (p : ℕ) → Has xs p → Has (insert n xs) p
insert_keeps n [] p = λ h. absurd h
insert_keeps n (x ∷ xs) p = pick_cases (λ (l : List ℕ). Has (x ∷ xs) p → Has l p) (dec_le n x) (n ∷ x ∷ xs) (x ∷ insert n xs) (λ _ h. inr h)
    (λ _ h. ⊎_elim (λ (e : x ≡ p). inl e) (λ (t : Has xs p). inr (insert_keeps n xs p t)) h)

pub merged_keeps : (xs ys : List ℕ) (p : ℕ) → Has xs p → Has (merged xs ys) p
merged_keeps xs [] p h = h
merged_keeps xs (y ∷ ys) p h = insert_keeps y (merged xs ys) p (merged_keeps xs ys p h)

-- where the merged numbers rise, none is in both lists
pub merged_apart : (low : ℕ) (xs ys : List ℕ) → Rises low (merged xs ys) → (p : ℕ) → Has xs p → Has ys p → ⊥
merged_apart low xs [] r p h h' = absurd h'
merged_apart low xs (y ∷ ys) r p h h' = ⊎_elim (λ (e : y ≡ p). insert_apart low y (merged xs ys) r (merged_keeps xs ys y (subst (Has xs) (sym e) h)))
    (λ (t : Has ys p). merged_apart low xs ys (insert_rest low y (merged xs ys) r) p h t) h'

pub prefix_both : {A : Type 0} (xs ys : List A) → IsPrefix xs ys → IsPrefix ys xs → xs ≡ ys
prefix_both {A} xs ys p q = let e : length (ys ++ q.0) ≡ length xs = ap length q.1 in let m = Rattle.std.proofs.Common.length-append ys q.0 in prefix_whole xs ys p (omega arith)

module _ {A : Type 0} where
  pub longer_of : (xs ys : List A) → IsPrefix (shorter_of xs ys) (longer xs ys) → ((longer xs ys ≡ xs) ⊎ (longer xs ys ≡ ys)) × IsPrefix xs (longer xs ys) × IsPrefix ys (longer xs ys)
  longer_of xs ys = two (dec_le (length xs) (length ys))
    where
      two : (d : Dec (length xs ≤ length ys)) → IsPrefix (pick d xs ys) (pick d ys xs) → ((pick d ys xs ≡ xs) ⊎ (pick d ys xs ≡ ys)) × IsPrefix xs (pick d ys xs) × IsPrefix ys (pick d ys xs)
      two (yes le) p = (inr refl, p, ([], append-nil ys))
      two (no n) p = (inl refl, ([], append-nil xs), p)

  -- of the two beginnings that are one list either way
  pub longer_sym : (xs ys : List A) → IsPrefix (shorter_of xs ys) (longer xs ys) → longer xs ys ≡ longer ys xs
  longer_sym xs ys = two (dec_le (length xs) (length ys)) (dec_le (length ys) (length xs))
    where
      two : (d : Dec (length xs ≤ length ys)) (e : Dec (length ys ≤ length xs)) → IsPrefix (pick d xs ys) (pick d ys xs) → pick d ys xs ≡ pick e xs ys
      two (yes le) (yes le') p = sym (prefix_whole xs ys p le')
      two (yes le) (no n) p = refl
      two (no n) (yes le) p = refl
      two (no n) (no n') p = let a = lt_of_not-le n in let b = lt_of_not-le n' in absurd (omega arith)
