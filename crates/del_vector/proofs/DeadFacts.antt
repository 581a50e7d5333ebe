-- Rising lists of rows: places in them, unions, and how long they are.
use Rattle.std.proofs.Common.{◌≡◌, refl, ap, sym, subst, ◌∙◌, ℕ, zero, suc, ◌+◌, ◌<◌, ◌≤◌, List, [], ◌∷◌, ◌++◌, append-nil, length, drop, get_or, Bool, true, false, ◌||◌, ◌==◌, cond, nat_lt, arith}
use Rattle.std.specs.List.{list_any, AllByRecursion}
use Rattle.std.proofs.lemmas.Bool.{ltb-true, ltb-false, eqb-true, eqb-false, ne_eqb, eq-eqb}
use Rattle.std.proofs.lemmas.List.Folds.{list_any_at}
use Rattle.std.proofs.lemmas.List.{drop_all}
use Rattle.rowsets.specs.Marks.{with_row, with_rows, Rises}
use Rattle.rowsets.proofs.MarkFacts.{union_rises}
use Rattle.del_vector.specs.DeadRows.{AreRows, AreDeadRows, most_rows}

-- ---- places

tail_rises : (x : ℕ) (xs : List ℕ) → Rises (x ∷ xs) → Rises xs
tail_rises x [] h = tt
tail_rises x (y ∷ ys) h = h.1

pub drop_rises : (n : ℕ) (xs : List ℕ) → Rises xs → Rises (drop n xs)
drop_rises zero xs h = h
drop_rises (suc n) [] h = tt
drop_rises (suc n) (x ∷ xs) h = drop_rises n xs (tail_rises x xs h)

first_below : (x : ℕ) (xs : List ℕ) (j d : ℕ) → Rises (x ∷ xs) → j < length xs → x < get_or xs j d
first_below x [] j d h lt = absurd (omega arith)
first_below x (y ∷ ys) zero d h lt = h.0
first_below x (y ∷ ys) (suc j) d h lt = let more = first_below y ys j d h.1 (omega arith) in let first : x < y = h.0 in omega arith

pub rise_between : (xs : List ℕ) (i j d e : ℕ) → Rises xs → i < j → j < length xs → get_or xs i d < get_or xs j e
rise_between [] i j d e h lt within = absurd (omega arith)
rise_between (x ∷ xs) i zero d e h lt within = absurd (omega arith)
rise_between (x ∷ xs) zero (suc j) d e h lt within = first_below x xs j e h (omega arith)
rise_between (x ∷ xs) (suc i) (suc j) d e h lt within = rise_between xs i j d e (tail_rises x xs h) (omega arith) (omega arith)

pub not_one : (xs : List ℕ) (n : ℕ) → ((k : ℕ) → k < length xs → get_or xs k 0 ≡ n → ⊥) → list_any (λ r. r == n) xs ≡ false
not_one [] n none = refl
not_one (x ∷ xs) n none = ap (λ b. b || list_any (λ r. r == n) xs) (ne_eqb x n (none 0 (omega arith))) ∙ not_one xs n (λ k lt e. none (suc k) (omega arith) e)

rise_up_to : (xs : List ℕ) (i j d e : ℕ) → Rises xs → i ≤ j → j < length xs → get_or xs i d ≤ get_or xs j e
rise_up_to [] i j d e h le within = absurd (omega arith)
rise_up_to (x ∷ xs) zero zero d e h le within = omega arith
rise_up_to (x ∷ xs) zero (suc j) d e h le within = let lt = first_below x xs j e h (omega arith) in omega arith
rise_up_to (x ∷ xs) (suc i) zero d e h le within = absurd (omega arith)
rise_up_to (x ∷ xs) (suc i) (suc j) d e h le within = rise_up_to xs i j d e (tail_rises x xs h) (omega arith) (omega arith)

pub before_middle : (xs : List ℕ) (row middle : ℕ) → Rises xs → middle < length xs → get_or xs middle 0 < row → (k d : ℕ) → 0 ≤ k → k < middle + 1 → get_or xs k d < row
before_middle xs row middle h within lt k d from to = let le = rise_up_to xs k middle d 0 h (omega arith) within in omega arith

pub behind_middle : (xs : List ℕ) (row middle : ℕ) → Rises xs → row ≤ get_or xs middle 0 → (k d : ℕ) → middle ≤ k → k < length xs → row ≤ get_or xs k d
behind_middle xs row middle h le k d from to = let more = rise_up_to xs middle k 0 d h from to in omega arith

-- a row is one of a rising list, if it is the first that isn't below it
pub found : (xs : List ℕ) (row place : ℕ) → Rises xs → place < length xs → ((k d : ℕ) → 0 ≤ k → k < place → get_or xs k d < row)
    → ((k d : ℕ) → place ≤ k → k < length xs → row ≤ get_or xs k d) → (get_or xs place 0 == row) ≡ list_any (λ r. r == row) xs
found xs row place h within before behind = go (get_or xs place 0 == row) refl
  where
    go : (b : Bool) → (get_or xs place 0 == row) ≡ b → b ≡ list_any (λ r. r == row) xs
    go true e = sym (list_any_at (λ r. r == row) xs place 0 within e)
    go false e = sym (not_one xs row (λ k lt same. none k lt same (eqb-false (get_or xs place 0) row e)))
      where
        none : (k : ℕ) → k < length xs → get_or xs k 0 ≡ row → (get_or xs place 0 ≡ row → ⊥) → ⊥
        none k lt same other = elim (nat_lt k place) as (λ t. nat_lt k place ≡ t → ⊥) [
          | true ↦ λ f. let below = before k 0 (omega arith) (ltb-true k place f) in omega arith
          | false ↦ λ f. elim (nat_lt place k) as (λ t. nat_lt place k ≡ t → ⊥) [
            | true ↦ λ g. let above = rise_between xs place k 0 0 h (ltb-true place k g) lt in let first = behind place 0 (omega arith) within in omega arith
            | false ↦ λ g. let le = ltb-false k place f in let ge = ltb-false place k g in let here : k ≡ place = omega arith in other (ap (λ i. get_or xs i 0) (sym here) ∙ same)
          ] refl
        ] refl

-- and it is none, where all are below it
pub all_before : (xs : List ℕ) (row place : ℕ) → length xs ≤ place → ((k d : ℕ) → 0 ≤ k → k < place → get_or xs k d < row) → nat_lt place (length xs) ≡ list_any (λ r. r == row) xs
all_before xs row place le before = go (nat_lt place (length xs)) refl
  where
    go : (b : Bool) → nat_lt place (length xs) ≡ b → b ≡ list_any (λ r. r == row) xs
    go true e = let lt = ltb-true place (length xs) e in absurd (omega arith)
    go false e = sym (not_one xs row (λ k lt same. let below = before k 0 (omega arith) (omega arith) in omega arith))

-- ---- unions

Above : ℕ → List ℕ → Type 0
Above r xs = AllByRecursion (λ x. r < x) xs

above_less : (r s : ℕ) (xs : List ℕ) → r < s → AllByRecursion (λ x. s < x) xs → AllByRecursion (λ x. r < x) xs
above_less r s [] lt a = tt
above_less r s (x ∷ xs) lt a = let first : s < x = a.0 in (omega arith, above_less r s xs lt a.1)

above_rising : (r : ℕ) (xs : List ℕ) → Rises (r ∷ xs) → AllByRecursion (λ x. r < x) xs
above_rising r [] h = tt
above_rising r (x ∷ xs) h = (h.0, above_less r x xs h.0 (above_rising x xs h.1))

above_row : (r q : ℕ) (xs : List ℕ) → r < q → AllByRecursion (λ x. r < x) xs → AllByRecursion (λ x. r < x) (with_row q xs)
above_row r q [] lt a = (lt, tt)
above_row r q (x ∷ xs) lt a = go (nat_lt q x) (x == q) (above_row r q xs lt a.1)
  where
    go : (b c : Bool) → AllByRecursion (λ x. r < x) (with_row q xs) → AllByRecursion (λ x. r < x) (cond b (q ∷ x ∷ xs) (cond c (x ∷ xs) (x ∷ with_row q xs)))
    go true c more = (lt, a)
    go false true more = a
    go false false more = (a.0, more)

above_rows : (r : ℕ) (rs xs : List ℕ) → AllByRecursion (λ x. r < x) rs → AllByRecursion (λ x. r < x) xs → AllByRecursion (λ x. r < x) (with_rows rs xs)
above_rows r [] xs a b = b
above_rows r (q ∷ rs) xs a b = above_row r q (with_rows rs xs) a.0 (above_rows r rs xs a.1 b)

row_first : (r : ℕ) (xs : List ℕ) → AllByRecursion (λ x. r < x) xs → with_row r xs ≡ r ∷ xs
row_first r [] a = refl
row_first r (x ∷ xs) a = go (nat_lt r x) refl
  where
    go : (b : Bool) → nat_lt r x ≡ b → cond b (r ∷ x ∷ xs) (cond (x == r) (x ∷ xs) (x ∷ with_row r xs)) ≡ r ∷ x ∷ xs
    go true e = refl
    go false e = let le = ltb-false r x e in let lt : r < x = a.0 in absurd (omega arith)

row_behind : (r y : ℕ) (xs : List ℕ) → y < r → with_row r (y ∷ xs) ≡ y ∷ with_row r xs
row_behind r y xs lt = go (nat_lt r y) (y == r) refl refl
  where
    go : (b c : Bool) → nat_lt r y ≡ b → (y == r) ≡ c → cond b (r ∷ y ∷ xs) (cond c (y ∷ xs) (y ∷ with_row r xs)) ≡ y ∷ with_row r xs
    go true c e f = let le = ltb-true r y e in absurd (omega arith)
    go false true e f = let same = eqb-true y r f in absurd (omega arith)
    go false false e f = refl

row_there : (r : ℕ) (xs : List ℕ) → with_row r (r ∷ xs) ≡ r ∷ xs
row_there r xs = go (nat_lt r r) (r == r) refl (eq-eqb r r refl)
  where
    go : (b c : Bool) → nat_lt r r ≡ b → c ≡ true → cond b (r ∷ r ∷ xs) (cond c (r ∷ xs) (r ∷ with_row r xs)) ≡ r ∷ xs
    go true c e f = let lt = ltb-true r r e in absurd (omega arith)
    go false true e f = refl
    go false false e f = cc

old_first : (y : ℕ) (rs ys : List ℕ) → AllByRecursion (λ x. y < x) rs → with_rows rs (y ∷ ys) ≡ y ∷ with_rows rs ys
old_first y [] ys a = refl
old_first y (r ∷ rs) ys a = ap (with_row r) (old_first y rs ys a.1) ∙ row_behind r y (with_rows rs ys) a.0

cut : (xs : List ℕ) (i d : ℕ) → i < length xs → drop i xs ≡ get_or xs i d ∷ drop (i + 1) xs
cut [] i d lt = absurd (omega arith)
cut (x ∷ xs) zero d lt = refl
cut (x ∷ xs) (suc i) d lt = let next : suc i + 1 ≡ suc (i + 1) = omega arith in cut xs i d (omega arith) ∙ ap (λ n. get_or xs i d ∷ drop n (x ∷ xs)) (sym next)

-- all that is left of a list is above a number, if the first is
above_left : (r : ℕ) (xs : List ℕ) (i d : ℕ) → Rises xs → (i < length xs → r < get_or xs i d) → AllByRecursion (λ x. r < x) (drop i xs)
above_left r [] zero d h first = tt
above_left r [] (suc i) d h first = tt
above_left r (x ∷ xs) zero d h first = let lt : r < x = first (omega arith) in (lt, above_less r x xs lt (above_rising x xs h))
above_left r (x ∷ xs) (suc i) d h first = above_left r xs i d (tail_rises x xs h) (λ lt. first (omega arith))

-- and what follows a number of a rising list
above_next : (xs : List ℕ) (i d : ℕ) → Rises xs → i < length xs → AllByRecursion (λ x. get_or xs i d < x) (drop (i + 1) xs)
above_next xs i d h lt = above_left (get_or xs i d) xs (i + 1) d h (λ more. rise_between xs i (i + 1) d d h (omega arith) more)

-- the least of what is left of two rising lists comes first in their union
module _ (rows dead : List ℕ) (i j d e : ℕ) (rise : Rises rows) (rises : Rises dead) where
  pub new_least : i < length rows → (j < length dead → get_or rows i d < get_or dead j e)
      → with_rows (drop i rows) (drop j dead) ≡ get_or rows i d ∷ with_rows (drop (i + 1) rows) (drop j dead)
  new_least lt below =
      ap (λ xs. with_rows xs (drop j dead)) (cut rows i d lt)
      ∙ row_first (get_or rows i d) (with_rows (drop (i + 1) rows) (drop j dead))
      (above_rows (get_or rows i d) (drop (i + 1) rows) (drop j dead) (above_next rows i d rise lt) (above_left (get_or rows i d) dead j e rises below))

  pub old_least : j < length dead → (i < length rows → get_or dead j e < get_or rows i d)
      → with_rows (drop i rows) (drop j dead) ≡ get_or dead j e ∷ with_rows (drop i rows) (drop (j + 1) dead)
  old_least lt below =
      ap (with_rows (drop i rows)) (cut dead j e lt)
      ∙ old_first (get_or dead j e) (drop i rows) (drop (j + 1) dead) (above_left (get_or dead j e) rows i d rise below)

  pub both_least : i < length rows → j < length dead → get_or dead j e ≡ get_or rows i d
      → with_rows (drop i rows) (drop j dead) ≡ get_or rows i d ∷ with_rows (drop (i + 1) rows) (drop (j + 1) dead)
  both_least lt also same =
      ap (λ xs. with_rows xs (drop j dead)) (cut rows i d lt)
      ∙ ap (λ ys. with_row (get_or rows i d) (with_rows (drop (i + 1) rows) ys)) (cut dead j e also ∙ ap (λ n. n ∷ drop (j + 1) dead) same)
      ∙ ap (with_row (get_or rows i d)) (old_first (get_or rows i d) (drop (i + 1) rows) (drop (j + 1) dead) (above_next rows i d rise lt))
      ∙ row_there (get_or rows i d) (with_rows (drop (i + 1) rows) (drop (j + 1) dead))

-- ---- rows of a file

below_row : (q : ℕ) (xs : List ℕ) → q < most_rows → AreRows xs → AreRows (with_row q xs)
below_row q [] lt a = (lt, tt)
below_row q (x ∷ xs) lt a = go (nat_lt q x) (x == q) (below_row q xs lt a.1)
  where
    go : (b c : Bool) → AreRows (with_row q xs) → AreRows (cond b (q ∷ x ∷ xs) (cond c (x ∷ xs) (x ∷ with_row q xs)))
    go true c more = (lt, a)
    go false true more = a
    go false false more = (a.0, more)

below_rows : (rs xs : List ℕ) → AreRows rs → AreRows xs → AreRows (with_rows rs xs)
below_rows [] xs a b = b
below_rows (q ∷ rs) xs a b = below_row q (with_rows rs xs) a.0 (below_rows rs xs a.1 b)

pub united_rows : (rs xs : List ℕ) → AreDeadRows rs → AreDeadRows xs → AreDeadRows (with_rows rs xs)
united_rows rs xs a b = record { rise = union_rises rs xs b.rise; below = below_rows rs xs a.below b.below }

few_from : (x : ℕ) (xs : List ℕ) → Rises (x ∷ xs) → AreRows (x ∷ xs) → x + length (x ∷ xs) ≤ most_rows
few_from x [] h a = let lt : x < most_rows = a.0 in omega arith
few_from x (y ∷ ys) h a = let more = few_from y ys h.1 a.1 in let lt : x < y = h.0 in omega arith

-- there are at most as many as a file has rows
pub few_rows : (xs : List ℕ) → AreDeadRows xs → length xs ≤ most_rows
few_rows [] a = omega arith
few_rows (x ∷ xs) a = let n = few_from x xs a.rise a.below in omega arith

pub row_below : (xs : List ℕ) (i d : ℕ) → AreRows xs → i < length xs → get_or xs i d < most_rows
row_below [] i d a lt = absurd (omega arith)
row_below (x ∷ xs) zero d a lt = a.0
row_below (x ∷ xs) (suc i) d a lt = row_below xs i d a.1 (omega arith)

-- a row above them all is none of them
pub none_past : (xs : List ℕ) (n : ℕ) → AreRows xs → most_rows ≤ n → list_any (λ r. r == n) xs ≡ false
none_past [] n a le = refl
none_past (x ∷ xs) n a le = let lt : x < most_rows = a.0 in ap (λ b. b || list_any (λ r. r == n) xs) (ne_eqb x n (λ e. omega arith)) ∙ none_past xs n a.1 le

pub past_rows : (xs : List ℕ) (n : ℕ) → AreRows xs → most_rows ≤ n → nat_lt n most_rows ≡ list_any (λ r. r == n) xs
past_rows xs n a le = go (nat_lt n most_rows) refl ∙ sym (none_past xs n a le)
  where
    go : (b : Bool) → nat_lt n most_rows ≡ b → b ≡ false
    go true e = let lt = ltb-true n most_rows e in absurd (omega arith)
    go false e = refl

-- what is written once nothing is left
pub union_done : (xs rows dead : List ℕ) (i j : ℕ) → length rows ≤ i → length dead ≤ j → xs ++ with_rows (drop i rows) (drop j dead) ≡ with_rows rows dead
    → AreDeadRows rows → AreDeadRows dead → AreDeadRows xs
union_done xs rows dead i j le also e a b = subst AreDeadRows (sym same) (united_rows rows dead a b)
  where
    same : xs ≡ with_rows rows dead
    same =
        sym (append-nil xs)
        ∙ ap (λ ys. xs ++ ys) (sym (ap (λ rs. with_rows rs (drop j dead)) (drop_all i rows le) ∙ drop_all j dead also))
        ∙ e
