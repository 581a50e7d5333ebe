-- Places one after the other, by their files.
use Rattle.std.proofs.Common.{◌≡◌, ◌⊎◌, inl, inr, refl, ap, sym, subst, ◌∙◌, ℕ, zero, suc, ◌+◌, ◌-◌, ◌<◌, ◌≤◌, arith, List, [], ◌∷◌, ◌++◌, map, length, take, drop, get_or, append_assoc, Bool, true, false, ◌&&◌, nat_lt, ◌==◌, if◌then◌else◌}
use Rattle.std.specs.List.{slice_range, AllByRecursion}
use Rattle.std.proofs.lemmas.Bool.{and_parts, ltb-true, eqb-true, eqb-false, ne_eqb, eq-eqb}
use Rattle.index_level0.specs.declared.place.Place.{Place}
use Rattle.rowsets.specs.Marks.{Rises}
use Rattle.del_vector.specs.DeadRows.{AreRows}
use Rattle.journal_form.specs.declared.records.DeadRows.{DeadRows}
use Rattle.kept_versions.specs.Files.{PlacesRise, place_below}
use Rattle.kept_versions.specs.Changes.{places_of_changes}
use Rattle.kept_versions.specs.Marking.{RowsRise, are_small, changed_numbers, grouped, run, with_place}

abbrev at : ℕ → ℕ → Place
at n r = record { segment = n; row = r }

abbrev rows_of : ℕ → List ℕ → DeadRows
rows_of n rows = record { file = n; rows = rows }

abbrev pub row_numbers : List Place → List ℕ
row_numbers places = map (λ p. p.row) places

chosen : (t : Bool) (x y : List DeadRows) → t ≡ true → (if t then x else y) ≡ x
chosen true x y h = refl
chosen false x y h = cc

other : (t : Bool) (x y : List DeadRows) → t ≡ false → (if t then x else y) ≡ y
other true x y h = cc
other false x y h = refl

with_place_places : (p : Place) (cs : List DeadRows) → places_of_changes (with_place p cs) ≡ p ∷ places_of_changes cs
with_place_places p [] = refl
with_place_places p (c ∷ cs) = go (c.file == p.segment) refl
  where
    go : (b : Bool) → (c.file == p.segment) ≡ b → places_of_changes (if b then rows_of p.segment (p.row ∷ c.rows) ∷ cs else rows_of p.segment (p.row ∷ []) ∷ c ∷ cs) ≡ p ∷ places_of_changes (c ∷ cs)
    go true e = ap (λ (n : ℕ). p ∷ (map (λ (r : ℕ). at n r) c.rows ++ places_of_changes cs)) (sym (eqb-true c.file p.segment e))
    go false e = refl

-- the groups have the places, in their order
pub places_grouped : (ps : List Place) → places_of_changes (grouped ps) ≡ ps
places_grouped [] = refl
places_grouped (p ∷ ps) = with_place_places p (grouped ps) ∙ ap (λ (qs : List Place). p ∷ qs) (places_grouped ps)

-- ---- the places of one file at the front are a group

apart : (p q : Place) (cs : List DeadRows) → (q.segment == p.segment) ≡ false → with_place p (with_place q cs) ≡ rows_of p.segment (p.row ∷ []) ∷ with_place q cs
apart p q [] e = other (q.segment == p.segment) (rows_of p.segment (p.row ∷ q.row ∷ []) ∷ []) (rows_of p.segment (p.row ∷ []) ∷ rows_of q.segment (q.row ∷ []) ∷ []) e
apart p q (c ∷ cs) e = go (c.file == q.segment)
  where
    go : (b : Bool) → with_place p (if b then rows_of q.segment (q.row ∷ c.rows) ∷ cs else rows_of q.segment (q.row ∷ []) ∷ c ∷ cs)
        ≡ rows_of p.segment (p.row ∷ []) ∷ (if b then rows_of q.segment (q.row ∷ c.rows) ∷ cs else rows_of q.segment (q.row ∷ []) ∷ c ∷ cs)
    go true = other (q.segment == p.segment) (rows_of p.segment (p.row ∷ q.row ∷ c.rows) ∷ cs) (rows_of p.segment (p.row ∷ []) ∷ rows_of q.segment (q.row ∷ c.rows) ∷ cs) e
    go false = other (q.segment == p.segment) (rows_of p.segment (p.row ∷ q.row ∷ []) ∷ c ∷ cs) (rows_of p.segment (p.row ∷ []) ∷ rows_of q.segment (q.row ∷ []) ∷ c ∷ cs) e

closes : (n : ℕ) (p : Place) (ps : List Place) → p.segment ≡ n → grouped (p ∷ ps) ≡ rows_of n (p.row ∷ row_numbers (take (run n ps) ps)) ∷ grouped (drop (run n ps) ps)
closes n p [] e = ap (λ (m : ℕ). rows_of m (p.row ∷ []) ∷ []) e
closes n p (q ∷ qs) e = go (q.segment == n) refl (λ same. closes n q qs same)
  where
    go : (b : Bool) → (q.segment == n) ≡ b → (q.segment ≡ n → grouped (q ∷ qs) ≡ rows_of n (q.row ∷ row_numbers (take (run n qs) qs)) ∷ grouped (drop (run n qs) qs))
        → with_place p (grouped (q ∷ qs))
        ≡ rows_of n (p.row ∷ row_numbers (take (if b then run n qs + 1 else 0) (q ∷ qs))) ∷ grouped (drop (if b then run n qs + 1 else 0) (q ∷ qs))
    go true h more =
        let next : suc (run n qs) ≡ run n qs + 1 = omega arith in
        let rows = q.row ∷ row_numbers (take (run n qs) qs) in
        let rest = grouped (drop (run n qs) qs) in
        ap (with_place p) (more (eqb-true q.segment n h))
        ∙ chosen (n == p.segment) (rows_of p.segment (p.row ∷ rows) ∷ rest) (rows_of p.segment (p.row ∷ []) ∷ rows_of n rows ∷ rest) (eq-eqb n p.segment (sym e))
        ∙ ap (λ (m : ℕ). rows_of m (p.row ∷ rows) ∷ rest) e
        ∙ ap (λ (m : ℕ). rows_of n (p.row ∷ row_numbers (take m (q ∷ qs))) ∷ grouped (drop m (q ∷ qs))) next
    go false h more =
        apart p q (grouped qs) (ne_eqb q.segment p.segment (λ same. eqb-false q.segment n h (same ∙ e)))
        ∙ ap (λ (m : ℕ). rows_of m (p.row ∷ []) ∷ grouped (q ∷ qs)) e

-- the run at place i
abbrev pub run_at : List Place → ℕ → Place → ℕ
run_at ps i d = run (get_or ps i d).segment (drop i ps)

run_first : (p : Place) (ps : List Place) → run p.segment (p ∷ ps) ≡ suc (run p.segment ps)
run_first p ps = go (p.segment == p.segment) (eq-eqb p.segment p.segment refl)
  where
    go : (b : Bool) → b ≡ true → (if b then run p.segment ps + 1 else 0) ≡ suc (run p.segment ps)
    go true e = omega arith
    go false e = cc

pub run_some : (ps : List Place) (i : ℕ) (d : Place) → i < length ps → 0 < run_at ps i d
run_some [] i d lt = absurd (omega arith)
run_some (p ∷ ps) zero d lt = let e = run_first p ps in omega arith
run_some (p ∷ ps) (suc i) d lt = run_some ps i d (omega arith)

pub group_step : (ps : List Place) (i : ℕ) (d : Place) → i < length ps
    → grouped (drop i ps) ≡ rows_of (get_or ps i d).segment (row_numbers (take (run_at ps i d) (drop i ps))) ∷ grouped (drop (i + run_at ps i d) ps)
group_step [] i d lt = absurd (omega arith)
group_step (p ∷ ps) zero d lt =
    let n = run p.segment ps in
    let first : suc n ≡ run p.segment (p ∷ ps) = sym (run_first p ps) in
    let none : run p.segment (p ∷ ps) ≡ 0 + run p.segment (p ∷ ps) = omega arith in
    closes p.segment p ps refl
    ∙ ap (λ (m : ℕ). rows_of p.segment (row_numbers (take m (p ∷ ps))) ∷ grouped (drop m (p ∷ ps))) first
    ∙ ap (λ (m : ℕ). rows_of p.segment (row_numbers (take (run p.segment (p ∷ ps)) (p ∷ ps))) ∷ grouped (drop m (p ∷ ps))) none
group_step (p ∷ ps) (suc i) d lt =
    let n = run_at ps i d in
    let next : suc (i + n) ≡ suc i + n = omega arith in
    group_step ps i d (omega arith)
    ∙ ap (λ (m : ℕ). rows_of (get_or ps i d).segment (row_numbers (take n (drop i ps))) ∷ grouped (drop m (p ∷ ps))) next

small_cut : (n : ℕ) (ps : List Place) → are_small ps ≡ (are_small (take n ps) && are_small (drop n ps))
small_cut zero ps = refl
small_cut (suc n) [] = refl
small_cut (suc n) (p ∷ ps) = ap (λ (b : Bool). nat_lt p.row 65536 && b) (small_cut n ps) ∙ assoc (nat_lt p.row 65536) (are_small (take n ps)) (are_small (drop n ps))
  where
    assoc : (a b c : Bool) → (a && (b && c)) ≡ ((a && b) && c)
    assoc true b c = refl
    assoc false b c = refl

-- what is left from place i on is a part of so many, and what is left behind it
pub small_step : (ps : List Place) (i n : ℕ) → are_small (drop i ps) ≡ (are_small (take n (drop i ps)) && are_small (drop (i + n) ps))
small_step ps zero n = let e : n ≡ 0 + n = omega arith in small_cut n ps ∙ ap (λ (m : ℕ). are_small (take n ps) && are_small (drop m ps)) e
small_step [] (suc i) n = let e : suc (i + n) ≡ suc i + n = omega arith in none n ∙ ap (λ (m : ℕ). are_small (take n []) && are_small (drop m [])) e
  where
    none : (n : ℕ) → true ≡ (are_small (take n []) && true)
    none zero = refl
    none (suc n) = refl
small_step (p ∷ ps) (suc i) n = let e : suc (i + n) ≡ suc i + n = omega arith in small_step ps i n ∙ ap (λ (m : ℕ). are_small (take n (drop i ps)) && are_small (drop m (p ∷ ps))) e

-- ---- a turn of the loop over the places

abbrev pub origin : Place
origin = at 0 0

pub next_group : (ps : List Place) (i end : ℕ) (changed : List DeadRows) (rows : List ℕ) → i < length ps → end ≡ i + run_at ps i origin → rows ≡ row_numbers (slice_range ps i end)
    → changed ++ grouped (drop i ps) ≡ grouped ps → (changed ++ rows_of (get_or ps i origin).segment rows ∷ []) ++ grouped (drop end ps) ≡ grouped ps
next_group ps i end changed rows lt e told h =
    let n = run_at ps i origin in
    let segment = (get_or ps i origin).segment in
    let count : n ≡ end - i = omega (arith, e) in
    append_assoc changed (rows_of segment rows ∷ []) (grouped (drop end ps))
    ∙ ap (λ (cs : List DeadRows). changed ++ cs)
    (sym (group_step ps i origin lt
    ∙ ap (λ (m : ℕ). rows_of segment (row_numbers (take m (drop i ps))) ∷ grouped (drop (i + n) ps)) count
    ∙ ap (λ (rs : List ℕ). rows_of segment rs ∷ grouped (drop (i + n) ps)) (sym told)
    ∙ ap (λ (m : ℕ). rows_of segment rows ∷ grouped (drop m ps)) (sym e)))
    ∙ h

small_next : (ps : List Place) (i end : ℕ) → end ≡ i + run_at ps i origin → are_small (drop i ps) ≡ are_small ps → (are_small (slice_range ps i end) && are_small (drop end ps)) ≡ are_small ps
small_next ps i end e h =
    let n = run_at ps i origin in
    let count : n ≡ end - i = omega (arith, e) in
    sym (small_step ps i n
    ∙ ap (λ (m : ℕ). are_small (take m (drop i ps)) && are_small (drop (i + n) ps)) count
    ∙ ap (λ (m : ℕ). are_small (slice_range ps i end) && are_small (drop m ps)) (sym e))
    ∙ h

pub still_small : (ps : List Place) (i end : ℕ) → end ≡ i + run_at ps i origin → are_small (drop i ps) ≡ are_small ps → are_small (slice_range ps i end) ≡ true → are_small (drop end ps) ≡ are_small ps
still_small ps i end e h is = ap (λ (b : Bool). b && are_small (drop end ps)) (sym is) ∙ small_next ps i end e h

pub not_small : (ps : List Place) (i end : ℕ) → end ≡ i + run_at ps i origin → are_small (drop i ps) ≡ are_small ps → are_small (slice_range ps i end) ≡ false → are_small ps ≡ false
not_small ps i end e h is = sym (small_next ps i end e h) ∙ ap (λ (b : Bool). b && are_small (drop end ps)) is

pub all_push : {X : Type 0} (P : X → Type 0) (xs : List X) (x : X) → AllByRecursion P xs → P x → AllByRecursion P (xs ++ x ∷ [])
all_push P [] x all one = (one, tt)
all_push P (y ∷ xs) x all one = (all.0, all_push P xs x all.1 one)

abbrev pub SmallRows : List DeadRows → Type 0
SmallRows cs = AllByRecursion (λ c. AreRows c.rows) cs

small_more : (p : Place) (cs : List DeadRows) → p.row < 65536 → SmallRows cs → SmallRows (with_place p cs)
small_more p [] lt all = ((lt, tt), tt)
small_more p (c ∷ cs) lt all = go (c.file == p.segment)
  where
    go : (b : Bool) → SmallRows (if b then rows_of p.segment (p.row ∷ c.rows) ∷ cs else rows_of p.segment (p.row ∷ []) ∷ c ∷ cs)
    go true = ((lt, all.0), all.1)
    go false = ((lt, tt), all)

pub small_grouped : (ps : List Place) → are_small ps ≡ true → SmallRows (grouped ps)
small_grouped [] h = tt
small_grouped (p ∷ ps) h = let q = and_parts (nat_lt p.row 65536) (are_small ps) h in small_more p (grouped ps) (ltb-true p.row 65536 q.0) (small_grouped ps q.1)

-- ---- rising places

starts_with : (p : Place) (cs : List DeadRows) → (rows : List ℕ) × (rest : List DeadRows) × (with_place p cs ≡ rows_of p.segment (p.row ∷ rows) ∷ rest)
starts_with p [] = ([], [], refl)
starts_with p (c ∷ cs) = go (c.file == p.segment)
  where
    go : (b : Bool) → (rows : List ℕ) × (rest : List DeadRows) × ((if b then rows_of p.segment (p.row ∷ c.rows) ∷ cs else rows_of p.segment (p.row ∷ []) ∷ c ∷ cs) ≡ rows_of p.segment (p.row ∷ rows) ∷ rest)
    go true = (c.rows, cs, refl)
    go false = ([], c ∷ cs, refl)

-- groups rise, and so do the rows of each, of which there is one at least
pub record Shaped (cs : List DeadRows) : Type 0 where
  pub files : Rises (changed_numbers cs)
  pub rows : RowsRise cs
  pub some : AllByRecursion (λ c. 1 ≤ length c.rows) cs

tail_rises : (x : ℕ) (xs : List ℕ) → Rises (x ∷ xs) → Rises xs
tail_rises x [] h = tt
tail_rises x (y ∷ ys) h = h.1

shaped_more : (p q : Place) (rows : List ℕ) (rest : List DeadRows) → place_below p q → Shaped (rows_of q.segment (q.row ∷ rows) ∷ rest) → Shaped (with_place p (rows_of q.segment (q.row ∷ rows) ∷ rest))
shaped_more p q rows rest below shape = go (q.segment == p.segment) refl below
  where
    go : (b : Bool) → (q.segment == p.segment) ≡ b → (p.segment < q.segment) ⊎ ((p.segment ≡ q.segment) × (p.row < q.row))
        → Shaped (if b then rows_of p.segment (p.row ∷ q.row ∷ rows) ∷ rest else rows_of p.segment (p.row ∷ []) ∷ rows_of q.segment (q.row ∷ rows) ∷ rest)
    go true e (inl lt) = let same = eqb-true q.segment p.segment e in absurd (omega arith)
    go true e (inr same) = record {
      files = subst (λ (n : ℕ). Rises (n ∷ changed_numbers rest)) (sym same.0) shape.files;
      rows = ((same.1, shape.rows.0), shape.rows.1);
      some = (omega arith, shape.some.1);
    }
    go false e (inl lt) = record { files = (lt, shape.files); rows = (tt, shape.rows); some = (omega arith, shape.some) }
    go false e (inr same) = absurd (eqb-false q.segment p.segment e (sym same.0))

pub shaped_grouped : (ps : List Place) → PlacesRise ps → Shaped (grouped ps)
shaped_grouped [] h = record { files = tt; rows = tt; some = tt }
shaped_grouped (p ∷ []) h = record { files = tt; rows = (tt, tt); some = (omega arith, tt) }
shaped_grouped (p ∷ q ∷ ps) h =
    let first = starts_with q (grouped ps) in
    let shape = subst Shaped first.2 (shaped_grouped (q ∷ ps) h.1) in
    subst (λ (cs : List DeadRows). Shaped (with_place p cs)) (sym first.2) (shaped_more p q first.0 first.1 h.0 shape)
