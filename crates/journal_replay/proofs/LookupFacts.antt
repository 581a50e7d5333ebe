-- Files by their numbers, while files come, go, and have rows die.
use Rattle.std.proofs.Common.{◌≡◌, refl, ap, sym, subst, ◌∙◌, ℕ, ◌+◌, ◌≤◌, ◌<◌, arith, List, [], ◌∷◌, ◌++◌, map, length, Bool, true, false, ◌&&◌, ◌||◌, not, nat_le, nat_lt, ◌==◌, if◌then◌else◌, cond, Option, Some, None, append-nil, append_assoc}
use Rattle.std.specs.Option.{option_map}
use Rattle.std.specs.List.{find, list_all, list_any}
use Rattle.std.proofs.lemmas.Bool.{and_parts, leb-true, ltb-true, ltb-false, eqb-true}
use Rattle.rowsets.specs.Marks.{with_rows}
use Rattle.journal_form.specs.declared.records.NewFile.{NewFile}
use Rattle.journal_form.specs.declared.records.DeadRows.{DeadRows}
use Rattle.journal_form.specs.declared.records.ListedFile.{ListedFile}
use Rattle.journal_form.specs.Versions.{all_below, changes_fit, consecutive, file_numbered, marked_file, rise_from, rows_changed, rows_fit, whole_file}
use Rattle.journal_form.specs.Meaning.{distinct}
use Rattle.journal_form.proofs.Numbers.{all_from, below_append, below_cons, below_more, distinct_head, distinct_tail, not_above, not_below, stands_in}
use Rattle.journal_form.proofs.GoodFiles.{numbers, numbers-append}
use Rattle.journal_replay.specs.declared.current_files.CurrentFile.{CurrentFile}
use Rattle.journal_replay.specs.Lookups.{Finds, Lookup, added, all_take, dead_in, dead_too, listed_as, marks, put_new, row_lives, takes, takes_rows, without, without_one}

-- ---- in lists

pub missing : (n : ℕ) (files : List ListedFile) → stands_in n (numbers files) ≡ false → file_numbered n files ≡ None
missing n [] h = refl
missing n (f ∷ files) h = by (missing n files) (f.file == n) h
  where
    by : (stands_in n (numbers files) ≡ false → file_numbered n files ≡ None) → (b : Bool) → (b || stands_in n (numbers files)) ≡ false → cond b (Some f) (file_numbered n files) ≡ None
    by rest true k = cc
    by rest false k = rest k

abbrev or_else : Option ListedFile → Option ListedFile → Option ListedFile
or_else (Some f) o = Some f
or_else None o = o

or_none : (o : Option ListedFile) → or_else o None ≡ o
or_none (Some f) = refl
or_none None = refl

find-append : (n : ℕ) (xs ys : List ListedFile) → file_numbered n (xs ++ ys) ≡ or_else (file_numbered n xs) (file_numbered n ys)
find-append n [] ys = refl
find-append n (x ∷ xs) ys = by (find-append n xs ys) (x.file == n)
  where
    by : file_numbered n (xs ++ ys) ≡ or_else (file_numbered n xs) (file_numbered n ys) → (b : Bool) → cond b (Some x) (file_numbered n (xs ++ ys)) ≡ or_else (cond b (Some x) (file_numbered n xs)) (file_numbered n ys)
    by rest true = refl
    by rest false = rest

-- numbers below and numbers from one on can change places
find-swap : (k n : ℕ) (xs ys : List ListedFile) → all_below k (numbers xs) ≡ true → all_from k (numbers ys) ≡ true → file_numbered n (xs ++ ys) ≡ file_numbered n (ys ++ xs)
find-swap k n xs ys low high = find-append n xs ys ∙ by (nat_lt n k) refl ∙ sym (find-append n ys xs)
  where
    by : (b : Bool) → nat_lt n k ≡ b → or_else (file_numbered n xs) (file_numbered n ys) ≡ or_else (file_numbered n ys) (file_numbered n xs)
    by true e =
        let none = missing n ys (not_above n k (numbers ys) (ltb-true n k e) high) in
        ap (or_else (file_numbered n xs)) none ∙ or_none (file_numbered n xs) ∙ ap (λ (o : Option ListedFile). or_else o (file_numbered n xs)) (sym none)
    by false e =
        let none = missing n xs (not_below n k (numbers xs) (ltb-false n k e) low) in
        ap (λ (o : Option ListedFile). or_else o (file_numbered n ys)) none ∙ sym (or_none (file_numbered n ys)) ∙ ap (or_else (file_numbered n ys)) (sym none)

pub finds_swap : (k : ℕ) (f : Lookup) (xs ys : List ListedFile) → all_below k (numbers xs) ≡ true → all_from k (numbers ys) ≡ true → Finds f (xs ++ ys) → Finds f (ys ++ xs)
finds_swap k f xs ys low high has n = has n ∙ find-swap k n xs ys low high

pub finds_ext : (f g : Lookup) (files : List ListedFile) → ((n : ℕ) → g n ≡ f n) → Finds f files → Finds g files
finds_ext f g files same has n = ap (option_map (listed_as n)) (same n) ∙ has n

-- ---- files that come

finds_push : (f : Lookup) (files : List ListedFile) (x : NewFile) → Finds f files → stands_in x.file (numbers files) ≡ false → Finds (put_new x f) (files ++ whole_file x ∷ [])
finds_push f files x has absent n = by (x.file == n) refl ∙ sym (find-append n files (whole_file x ∷ []))
  where
    by : (b : Bool) → (x.file == n) ≡ b → option_map (listed_as n) (cond b (Some (record { rows = x.rows; dead = [] })) (f n)) ≡ or_else (file_numbered n files) (cond (x.file == n) (Some (whole_file x)) None)
    by true e =
        let same : x.file ≡ n = eqb-true x.file n e in
        let none = missing n files (subst (λ (m : ℕ). stands_in m (numbers files) ≡ false) same absent) in
        ap (λ (m : ℕ). Some (record { file = m; rows = x.rows; dead = [] })) (sym same)
        ∙ ap (λ (b : Bool). cond b (Some (whole_file x)) None) (sym e)
        ∙ ap (λ (o : Option ListedFile). or_else o (cond (x.file == n) (Some (whole_file x)) None)) (sym none)
    by false e = has n ∙ sym (or_none (file_numbered n files)) ∙ ap (λ (b : Bool). or_else (file_numbered n files) (cond b (Some (whole_file x)) None)) (sym e)

pub added_finds : (k : ℕ) (new : List NewFile) (f : Lookup) (files : List ListedFile) → consecutive k new ≡ true → all_below k (numbers files) ≡ true → Finds f files → Finds (added new f) (files ++ map whole_file new)
added_finds k [] f files h low has = subst (Finds f) (sym (append-nil files)) has
added_finds k (x ∷ new) f files h low has =
    let p = and_parts (x.file == k) (consecutive (k + 1) new) h in
    let e = eqb-true x.file k p.0 in
    let more = finds_push f files x has (not_below x.file k (numbers files) (omega arith) low) in
    let low' : all_below (k + 1) (numbers (files ++ whole_file x ∷ [])) ≡ true =
    subst (λ (t : List ℕ). all_below (k + 1) t ≡ true) (sym (numbers-append files (whole_file x ∷ []))) (below_append (k + 1) (numbers files) (x.file ∷ []) (below_more k (k + 1) (numbers files) (omega arith) low) (below_cons (k + 1) x.file [] (omega arith) refl)) in
    subst (Finds (added new (put_new x f))) (append_assoc files (whole_file x ∷ []) (map whole_file new)) (added_finds (k + 1) new (put_new x f) (files ++ whole_file x ∷ []) p.1 low' more)

-- ---- files that go

head_gone : (f : Lookup) (x : ListedFile) (files : List ListedFile) → Finds f (x ∷ files) → stands_in x.file (numbers files) ≡ false → Finds (without_one x.file f) files
head_gone f x files has absent n = by (x.file == n) refl (has n)
  where
    by : (b : Bool) → (x.file == n) ≡ b → option_map (listed_as n) (f n) ≡ cond b (Some x) (file_numbered n files) → option_map (listed_as n) (cond b None (f n)) ≡ file_numbered n files
    by true e h = sym (missing n files (subst (λ (m : ℕ). stands_in m (numbers files) ≡ false) (eqb-true x.file n e) absent))
    by false e h = h

pub without_finds : (f : Lookup) (xs ys : List ListedFile) → distinct (numbers (xs ++ ys)) ≡ true → Finds f (xs ++ ys) → Finds (without (numbers xs) f) ys
without_finds f [] ys d has = has
without_finds f (x ∷ xs) ys d has =
    without_finds (without_one x.file f) xs ys (distinct_tail x.file (numbers (xs ++ ys)) d) (head_gone f x (xs ++ ys) has (distinct_head x.file (numbers (xs ++ ys)) d))

-- ---- rows that die

swap : (a d b e : Bool) → ((a && not d) && (b && not e)) ≡ ((a && b) && not (d || e))
swap true false b e = refl
swap true true true e = refl
swap true true false e = refl
swap false d b e = refl

alive : (f : CurrentFile) (rows : List ℕ) → list_all (row_lives f) rows ≡ (all_below f.rows rows && not (list_any (λ r. list_any (λ d. d == r) f.dead) rows))
alive f [] = refl
alive f (r ∷ rows) =
    ap (λ (b : Bool). row_lives f r && b) (alive f rows)
    ∙ swap (nat_lt r f.rows) (list_any (λ d. d == r) f.dead) (all_below f.rows rows) (list_any (λ r. list_any (λ d. d == r) f.dead) rows)

takes_is : (n : ℕ) (o : Option CurrentFile) (rows : List ℕ) → takes o rows ≡ rows_fit (option_map (listed_as n) o) rows
takes_is n None rows = refl
takes_is n (Some f) rows = ap (λ (b : Bool). nat_le 1 (length rows) && (rise_from 0 rows && b)) (alive f rows)

dead_far : (c : DeadRows) (f : Lookup) (n : ℕ) → c.file < n → dead_in c f n ≡ f n
dead_far c f n lt = by (c.file == n) refl
  where
    by : (b : Bool) → (c.file == n) ≡ b → cond b (option_map (dead_too c.rows) (f n)) (f n) ≡ f n
    by true e = let same = eqb-true c.file n e in absurd (omega arith)
    by false e = refl

abbrev AgreeFrom : ℕ → Lookup → List ListedFile → Type 0
AgreeFrom least f files = (n : ℕ) → least ≤ n → option_map (listed_as n) (f n) ≡ file_numbered n files

all_take_from : (least : ℕ) (f : Lookup) (files : List ListedFile) (cs : List DeadRows) → AgreeFrom least f files → all_take least f cs ≡ changes_fit least files cs
all_take_from least f files [] h = refl
all_take_from least f files (c ∷ cs) h = by (all_take_from (c.file + 1) (dead_in c f) files cs) (nat_le least c.file) refl
  where
    by : (AgreeFrom (c.file + 1) (dead_in c f) files → all_take (c.file + 1) (dead_in c f) cs ≡ changes_fit (c.file + 1) files cs) → (b : Bool) → nat_le least c.file ≡ b
        → (b && (takes (f c.file) c.rows && all_take (c.file + 1) (dead_in c f) cs)) ≡ (b && (rows_fit (file_numbered c.file files) c.rows && changes_fit (c.file + 1) files cs))
    by rest false e = refl
    by rest true e =
        let le = leb-true least c.file e in
        ap (λ (b : Bool). b && all_take (c.file + 1) (dead_in c f) cs) (takes_is c.file (f c.file) c.rows ∙ ap (λ (o : Option ListedFile). rows_fit o c.rows) (h c.file le))
        ∙ ap (λ (b : Bool). rows_fit (file_numbered c.file files) c.rows && b) (rest (λ n later. ap (option_map (listed_as n)) (dead_far c f n (omega arith)) ∙ h n (omega arith)))

pub all_take_is : (f : Lookup) (files : List ListedFile) (cs : List DeadRows) → Finds f files → all_take 0 f cs ≡ changes_fit 0 files cs
all_take_is f files cs has = all_take_from 0 f files cs (λ n le. has n)

changed_high : (k : ℕ) (files : List ListedFile) (cs : List DeadRows) (n : ℕ) → changes_fit k files cs ≡ true → n < k → rows_changed cs n ≡ []
changed_high k files [] n h lt = refl
changed_high k files (c ∷ cs) n h lt =
    let p = and_parts (nat_le k c.file) _ h in
    let q = and_parts (rows_fit (file_numbered c.file files) c.rows) (changes_fit (c.file + 1) files cs) p.1 in
    let le = leb-true k c.file p.0 in
    by (changed_high (c.file + 1) files cs n q.1 (omega arith)) (c.file == n) (λ e. let same = eqb-true c.file n e in absurd (omega arith))
  where
    by : rows_changed cs n ≡ [] → (b : Bool) → (b ≡ true → ⊥) → (if b then c.rows else rows_changed cs n) ≡ []
    by rest true k = absurd (k refl)
    by rest false k = rest

none_too : (o : Option CurrentFile) → option_map (dead_too []) o ≡ o
none_too None = refl
none_too (Some f) = refl

marks_are : (k : ℕ) (files : List ListedFile) (cs : List DeadRows) (f : Lookup) (n : ℕ) → changes_fit k files cs ≡ true → marks cs f n ≡ option_map (dead_too (rows_changed cs n)) (f n)
marks_are k files [] f n h = sym (none_too (f n))
marks_are k files (c ∷ cs) f n h =
    let p = and_parts (nat_le k c.file) _ h in
    let q = and_parts (rows_fit (file_numbered c.file files) c.rows) (changes_fit (c.file + 1) files cs) p.1 in
    marks_are (c.file + 1) files cs (dead_in c f) n q.1
    ∙ here (c.file == n) (λ e. let same = eqb-true c.file n e in changed_high (c.file + 1) files cs n q.1 (omega arith))
  where
    here : (b : Bool) → (b ≡ true → rows_changed cs n ≡ []) → option_map (dead_too (rows_changed cs n)) (cond b (option_map (dead_too c.rows) (f n)) (f n)) ≡ option_map (dead_too (if b then c.rows else rows_changed cs n)) (f n)
    here true k = ap (λ (rows : List ℕ). option_map (dead_too rows) (option_map (dead_too c.rows) (f n))) (k refl) ∙ none_too (option_map (dead_too c.rows) (f n))
    here false k = refl

abbrev dead_listed : List ℕ → ListedFile → ListedFile
dead_listed rows g = record g { dead = with_rows rows g.dead }

listed-dead : (n : ℕ) (rows : List ℕ) (o : Option CurrentFile) → option_map (listed_as n) (option_map (dead_too rows) o) ≡ option_map (dead_listed rows) (option_map (listed_as n) o)
listed-dead n rows None = refl
listed-dead n rows (Some f) = refl

find-marked : (n : ℕ) (cs : List DeadRows) (files : List ListedFile) → file_numbered n (map (marked_file cs) files) ≡ option_map (dead_listed (rows_changed cs n)) (file_numbered n files)
find-marked n cs [] = refl
find-marked n cs (f ∷ files) = by (find-marked n cs files) (f.file == n) refl
  where
    by : file_numbered n (map (marked_file cs) files) ≡ option_map (dead_listed (rows_changed cs n)) (file_numbered n files) → (b : Bool) → (f.file == n) ≡ b
        → cond b (Some (marked_file cs f)) (file_numbered n (map (marked_file cs) files)) ≡ option_map (dead_listed (rows_changed cs n)) (cond b (Some f) (file_numbered n files))
    by rest true e = ap (λ (m : ℕ). Some (record f { dead = with_rows (rows_changed cs m) f.dead })) (eqb-true f.file n e)
    by rest false e = rest

pub marks_find : (cs : List DeadRows) (f : Lookup) (files : List ListedFile) → changes_fit 0 files cs ≡ true → Finds f files → Finds (marks cs f) (map (marked_file cs) files)
marks_find cs f files h has n =
    ap (option_map (listed_as n)) (marks_are 0 files cs f n h) ∙ listed-dead n (rows_changed cs n) (f n) ∙ ap (option_map (dead_listed (rows_changed cs n))) (has n) ∙ sym (find-marked n cs files)
