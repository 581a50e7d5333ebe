-- One element more of a loop over files, changes or numbers.
use Rattle.std.proofs.Common.{◌≡◌, refl, ap, sym, subst, ◌∙◌, ℕ, ◌+◌, ◌-◌, ◌≤◌, ◌<◌, suc, zero, arith, List, [], ◌∷◌, ◌++◌, length, take, drop, get_or, Bool, true, false, ◌&&◌, nat_le, nat_lt, ◌==◌, cond, Option, Some, None}
use Rattle.std.specs.List.{flat_map}
use Rattle.std.specs.Ordering.{is_eq, nat_cmp}
use Rattle.std.specs.declared.cmp.Ordering.TheVariants.{Less, Equal, Greater}
use Rattle.std.proofs.lemmas.Bool.{and_parts, ltb-true, ltb-false, leb-true, ne_eqb}
use Rattle.rowsets.specs.Marks.{Rises}
use Rattle.journal_form.specs.declared.records.NewFile.{NewFile}
use Rattle.journal_form.specs.declared.records.DeadRows.{DeadRows}
use Rattle.journal_form.specs.Versions.{rise_from}
use Rattle.journal_replay.specs.declared.current_files.CurrentFile.{CurrentFile}
use Rattle.journal_replay.specs.declared.span.Span.{Span}
use Rattle.journal_replay.specs.Lookups.{Lookup, added, all_take, counted_from, dead_in, marks, put_new, span_numbers, takes, takes_rows, without, without_one}

take_all : {X : Type 0} (xs : List X) → take (length xs) xs ≡ xs
take_all [] = refl
take_all (x ∷ xs) = ap (λ (t : List _). x ∷ t) (take_all xs)

-- a list that isn't empty is its first element and the others
pub head_is : {X : Type 0} (d : X) (xs : List X) → 1 ≤ length xs → xs ≡ get_or xs 0 d ∷ take (length xs - 1) (drop 1 xs)
head_is d [] h = absurd (omega arith)
head_is d (x ∷ xs) h =
    let e : length xs ≡ length (x ∷ xs) - 1 = omega arith in
    subst (λ (n : ℕ). x ∷ xs ≡ x ∷ take n xs) e (ap (λ (t : List _). x ∷ t) (sym (take_all xs)))

eq_is : (k q : ℕ) → is_eq (nat_cmp k q) ≡ (k == q)
eq_is k q = by (nat_lt k q) (k == q) (λ e. let lt = ltb-true k q e in ne_eqb k q (λ s. absurd (omega arith)))
  where
    by : (a b : Bool) → (a ≡ true → b ≡ false) → is_eq (cond a Less (cond b Equal Greater)) ≡ b
    by true b h = sym (h refl)
    by false true h = refl
    by false false h = refl

put_is : (k q : ℕ) (v o : Option CurrentFile) → cond (is_eq (nat_cmp k q)) v o ≡ cond (k == q) v o
put_is k q v o = ap (λ (b : Bool). cond b v o) (eq_is k q)

-- the values at the keys determine a function
same_lookup : (f g : Lookup) → ((n : ℕ) → g n ≡ f n) → g ≡ f
same_lookup f g h = λ i n. h n i

-- ---- new files

pub added_on : (left rest : List NewFile) (x : NewFile) (f g h : Lookup) (all : List NewFile) (dead : List ℕ) → left ≡ x ∷ rest → dead ≡ [] → ((n : ℕ) → added left f n ≡ added all h n)
    → ((n : ℕ) → g n ≡ cond (is_eq (nat_cmp x.file n)) (Some (record { rows = x.rows; dead = dead })) (f n)) → (n : ℕ) → added rest g n ≡ added all h n
added_on left rest x f g h all dead split none so_far put n =
    let is = same_lookup (put_new x f) g (λ m. put m ∙ put_is x.file m (Some (record { rows = x.rows; dead = dead })) (f m) ∙ ap (λ (d : List ℕ). cond (x.file == m) (Some (record { rows = x.rows; dead = d })) (f m)) none) in
    ap (λ (k : Lookup). added rest k n) is ∙ ap (λ (l : List NewFile). added l f n) (sym split) ∙ so_far n

-- ---- changes

pub takes_on : (left rest : List DeadRows) (x : DeadRows) (f g : Lookup) (least : ℕ) (r : Bool) → left ≡ x ∷ rest → nat_le least x.file ≡ true → takes (f x.file) x.rows ≡ true → ((n : ℕ) → g n ≡ dead_in x f n)
    → all_take least f left ≡ r → all_take (x.file + 1) g rest ≡ r
takes_on left rest x f g least r split above fits marked so_far =
    ap (λ (k : Lookup). all_take (x.file + 1) k rest) (same_lookup (dead_in x f) g marked)
    ∙ ap (λ (b : Bool). b && all_take (x.file + 1) (dead_in x f) rest) (sym fits)
    ∙ ap (λ (b : Bool). b && (takes (f x.file) x.rows && all_take (x.file + 1) (dead_in x f) rest)) (sym above)
    ∙ ap (λ (l : List DeadRows). all_take least f l) (sym split)
    ∙ so_far

pub marks_on : (left rest : List DeadRows) (x : DeadRows) (f g h : Lookup) (all : List DeadRows) → left ≡ x ∷ rest → ((n : ℕ) → g n ≡ dead_in x f n) → ((n : ℕ) → marks left f n ≡ marks all h n)
    → (n : ℕ) → marks rest g n ≡ marks all h n
marks_on left rest x f g h all split marked so_far n =
    ap (λ (k : Lookup). marks rest k n) (same_lookup (dead_in x f) g marked) ∙ ap (λ (l : List DeadRows). marks l f n) (sym split) ∙ so_far n

-- where a change doesn't go on, not all do
pub takes_stop : (left rest : List DeadRows) (x : DeadRows) (f : Lookup) (least : ℕ) (r : Bool) → left ≡ x ∷ rest → nat_le least x.file ≡ false → all_take least f left ≡ r → r ≡ false
takes_stop left rest x f least r split below so_far =
    sym so_far ∙ ap (λ (l : List DeadRows). all_take least f l) split ∙ ap (λ (b : Bool). b && (takes (f x.file) x.rows && all_take (x.file + 1) (dead_in x f) rest)) below

-- ---- files that go

count_split : (number left : ℕ) → 1 ≤ left → counted_from number left ≡ number ∷ counted_from (number + 1) (left - 1)
count_split number zero h = absurd (omega arith)
count_split number (suc k) h = let e : k ≡ suc k - 1 = omega arith in ap (λ (n : ℕ). number ∷ counted_from (number + 1) n) e

pub count_on : (number left : ℕ) (f g r : Lookup) → 1 ≤ left → ((n : ℕ) → without (counted_from number left) f n ≡ r n) → ((n : ℕ) → g n ≡ cond (is_eq (nat_cmp number n)) None (f n))
    → (n : ℕ) → without (counted_from (number + 1) (left - 1)) g n ≡ r n
count_on number left f g r h so_far gone n =
    ap (λ (k : Lookup). without (counted_from (number + 1) (left - 1)) k n) (same_lookup (without_one number f) g (λ m. gone m ∙ put_is number m None (f m)))
    ∙ ap (λ (l : List ℕ). without l f n) (sym (count_split number left h)) ∙ so_far n

without-append : (xs ys : List ℕ) (f : Lookup) → without (xs ++ ys) f ≡ without ys (without xs f)
without-append [] ys f = refl
without-append (x ∷ xs) ys f = without-append xs ys (without_one x f)

pub without_on : (left rest : List Span) (x : Span) (f g r : Lookup) → left ≡ x ∷ rest → ((n : ℕ) → without (flat_map span_numbers left) f n ≡ r n) → ((n : ℕ) → g n ≡ without (span_numbers x) f n)
    → (n : ℕ) → without (flat_map span_numbers rest) g n ≡ r n
without_on left rest x f g r split so_far gone n =
    ap (λ (k : Lookup). without (flat_map span_numbers rest) k n) (same_lookup (without (span_numbers x) f) g gone)
    ∙ ap (λ (k : Lookup). k n) (sym (without-append (span_numbers x) (flat_map span_numbers rest) f))
    ∙ ap (λ (l : List Span). without (flat_map span_numbers l) f n) (sym split) ∙ so_far n

-- ---- rows

rises_from : (a : ℕ) (xs : List ℕ) → rise_from a xs ≡ true → Rises xs
rises_from a [] h = tt
rises_from a (x ∷ []) h = tt
rises_from a (x ∷ y ∷ xs) h =
    let p = and_parts (nat_le a x) (rise_from (x + 1) (y ∷ xs)) h in
    let q = and_parts (nat_le (x + 1) y) (rise_from (y + 1) xs) p.1 in
    let le = leb-true (x + 1) y q.0 in
    (omega arith, rises_from (x + 1) (y ∷ xs) p.1)

pub taken_rise : (f : CurrentFile) (rows : List ℕ) → takes_rows f rows ≡ true → Rises rows
taken_rise f rows h =
    let p = and_parts (nat_le 1 (length rows)) _ h in
    let q = and_parts (rise_from 0 rows) _ p.1 in
    rises_from 0 rows q.0
