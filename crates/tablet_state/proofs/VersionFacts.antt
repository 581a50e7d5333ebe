-- The versions that a journal tells, as rowsets.
use Rattle.std.proofs.Common.{◌≡◌, refl, ap, sym, ◌∙◌, ℕ, zero, suc, ◌+◌, ◌<◌, List, [], ◌∷◌, ◌++◌, map, drop, Bool, true, false, ◌||◌, ◌&&◌, ◌==◌, nat_lt, nat_le, if◌then◌else◌, arith}
use Rattle.std.specs.List.{list_any, list_all}
use Rattle.std.proofs.lemmas.Bool.{and_parts, ltb-true, leb-true, eqb-true, ne_eqb}
use Rattle.std.proofs.lemmas.List.{map-append}
use Rattle.std.proofs.lemmas.List.Folds.{list_any-append, list_all-append}
use Rattle.index_level0.specs.declared.place.Place.{Place}
use Rattle.rowsets.specs.Live.{Part, Version as Rowsets, parts_of, names}
use Rattle.rowsets.specs.Marks.{Rises, rows_in_file, same_place, stands_in, marked_part}
use Rattle.rowsets.specs.Marks as marks
use Rattle.rowsets.specs.Changes.{one_rowset}
use Rattle.rowsets.specs.Merging.{all_live}
use Rattle.rowsets.proofs.MarkFacts.{union_has_both, union_rises, one_rising_list}
use Rattle.rowsets.proofs.LiveFacts.{any_rows}
use Rattle.journal_form.specs.declared.records.NewFile.{NewFile}
use Rattle.journal_form.specs.declared.records.DeadRows.{DeadRows}
use Rattle.journal_form.specs.declared.records.ListedFile.{ListedFile}
use Rattle.journal_form.specs.Versions.{Rowset, Version, all_below, bound, changes_fit, file_numbered, files_of, marked, marked_file, new_rowset, numbers_of, rise_from, rows_changed, rows_fit, whole_file}
use Rattle.journal_form.specs.Meaning.{file_fits}
use Rattle.journal_form.proofs.GoodFiles.{AreGood, numbers}
use Rattle.tablet_state.specs.Stands.{part_of, rowsets_of}
use Rattle.kept_versions.specs.Changes.{places_of_changes}

-- ---- dead rows

rises_from : (a : ℕ) (xs : List ℕ) → rise_from a xs ≡ true → Rises xs
rises_from a [] h = tt
rises_from a (x ∷ []) h = tt
rises_from a (x ∷ y ∷ xs) h =
    let p = and_parts (nat_le a x) (rise_from (x + 1) (y ∷ xs)) h in
    let q = and_parts (nat_le (x + 1) y) (rise_from (y + 1) xs) p.1 in
    let le = leb-true (x + 1) y q.0 in
    (omega arith, rises_from (x + 1) (y ∷ xs) p.1)

abbrev at : ℕ → ℕ → Place
at n r = record { segment = n; row = r }

and_none : (a : Bool) → false ≡ (a && false)
and_none true = refl
and_none false = refl

or_none : (a : Bool) → (a || false) ≡ a
or_none true = refl
or_none false = refl

splits : (a b c : Bool) → ((a && b) || (a && c)) ≡ (a && (b || c))
splits true b c = refl
splits false b c = refl

in_file : (file : ℕ) (rows : List ℕ) (n r : ℕ) → stands_in (map (λ (i : ℕ). at file i) rows) (at n r) ≡ ((file == n) && list_any (λ d. d == r) rows)
in_file file [] n r = and_none (file == n)
in_file file (i ∷ rows) n r = ap (λ b. ((file == n) && (i == r)) || b) (in_file file rows n r) ∙ splits (file == n) (i == r) (list_any (λ d. d == r) rows)

-- no row of a file below those that are changed
none_below : (least : ℕ) (files : List ListedFile) (cs : List DeadRows) (n r : ℕ) → changes_fit least files cs ≡ true → n < least → stands_in (places_of_changes cs) (at n r) ≡ false
none_below least files [] n r h lt = refl
none_below least files (c ∷ cs) n r h lt =
    let p = and_parts (nat_le least c.file) (rows_fit (file_numbered c.file files) c.rows && changes_fit (c.file + 1) files cs) h in
    let q = and_parts (rows_fit (file_numbered c.file files) c.rows) (changes_fit (c.file + 1) files cs) p.1 in
    let le = leb-true least c.file p.0 in
    list_any-append (same_place (at n r)) (map (λ (i : ℕ). at c.file i) c.rows) (places_of_changes cs)
    ∙ ap (λ b. b || stands_in (places_of_changes cs) (at n r)) (in_file c.file c.rows n r ∙ ap (λ b. b && list_any (λ d. d == r) c.rows) (ne_eqb c.file n (λ e. omega arith)))
    ∙ none_below (c.file + 1) files cs n r q.1 (omega arith)

-- the places that a record tells are the rows that are changed
pub changed_at : (least : ℕ) (files : List ListedFile) (cs : List DeadRows) (n r : ℕ) → changes_fit least files cs ≡ true → stands_in (places_of_changes cs) (at n r) ≡ list_any (λ d. d == r) (rows_changed cs n)
changed_at least files [] n r h = refl
changed_at least files (c ∷ cs) n r h =
    list_any-append (same_place (at n r)) (map (λ (i : ℕ). at c.file i) c.rows) (places_of_changes cs)
    ∙ ap (λ b. b || stands_in (places_of_changes cs) (at n r)) (in_file c.file c.rows n r)
    ∙ go (c.file == n) refl (changed_at (c.file + 1) files cs n r fits)
  where
    fits : changes_fit (c.file + 1) files cs ≡ true
    fits =
        let p = and_parts (nat_le least c.file) (rows_fit (file_numbered c.file files) c.rows && changes_fit (c.file + 1) files cs) h in
        (and_parts (rows_fit (file_numbered c.file files) c.rows) (changes_fit (c.file + 1) files cs) p.1).1

    go : (b : Bool) → (c.file == n) ≡ b → stands_in (places_of_changes cs) (at n r) ≡ list_any (λ d. d == r) (rows_changed cs n)
        → ((b && list_any (λ d. d == r) c.rows) || stands_in (places_of_changes cs) (at n r)) ≡ list_any (λ d. d == r) (if b then c.rows else rows_changed cs n)
    go true e more =
        let same = eqb-true c.file n e in
        ap (λ b. list_any (λ d. d == r) c.rows || b) (none_below (c.file + 1) files cs n r fits (omega arith)) ∙ or_none (list_any (λ d. d == r) c.rows)
    go false e more = more

marked_one : (files : List ListedFile) (cs : List DeadRows) → changes_fit 0 files cs ≡ true → (f : ListedFile) → file_fits f ≡ true → part_of (marked_file cs f) ≡ marked_part (places_of_changes cs) (part_of f)
marked_one files cs h f fits = ap (λ (ds : List ℕ). let part : Part = record { file = f.file; dead = ds } in part) same
  where
    rising : rise_from 0 f.dead ≡ true
    rising = let p = and_parts (nat_lt f.file bound) (rise_from 0 f.dead && all_below f.rows f.dead) fits in (and_parts (rise_from 0 f.dead) (all_below f.rows f.dead) p.1).0

    same : marks.with_rows (rows_changed cs f.file) f.dead ≡ marks.with_rows (rows_in_file (places_of_changes cs) f.file) f.dead
    same = one_rising_list (marks.with_rows (rows_changed cs f.file) f.dead) (marks.with_rows (rows_in_file (places_of_changes cs) f.file) f.dead)
        (union_rises (rows_changed cs f.file) f.dead (rises_from 0 f.dead rising))
        (union_rises (rows_in_file (places_of_changes cs) f.file) f.dead (rises_from 0 f.dead rising))
        (λ n. union_has_both (rows_changed cs f.file) f.dead n
        ∙ ap (λ b. b || list_any (λ d. d == n) f.dead) (sym (changed_at 0 files cs f.file n h) ∙ sym (any_rows (places_of_changes cs) (at f.file n)))
        ∙ sym (union_has_both (rows_in_file (places_of_changes cs) f.file) f.dead n))

marked_rowset : (files : List ListedFile) (cs : List DeadRows) → changes_fit 0 files cs ≡ true → (fs : List ListedFile) → list_all file_fits fs ≡ true
    → map part_of (map (marked_file cs) fs) ≡ marks.marked (places_of_changes cs) (map part_of fs)
marked_rowset files cs h [] fit = refl
marked_rowset files cs h (f ∷ fs) fit =
    let p = and_parts (file_fits f) (list_all file_fits fs) fit in
    ap (λ (part : Part). part ∷ map part_of (map (marked_file cs) fs)) (marked_one files cs h f p.0)
    ∙ ap (λ (parts : List Part). marked_part (places_of_changes cs) (part_of f) ∷ parts) (marked_rowset files cs h fs p.1)

-- the parts of a rowset that is told
abbrev pub parts : List ListedFile → List Part
parts files = map part_of files

pub marked_rowsets : (files : List ListedFile) (cs : List DeadRows) → changes_fit 0 files cs ≡ true → (rs : List Rowset) → list_all file_fits (files_of rs) ≡ true
    → map parts (marked cs rs) ≡ map (marks.marked (places_of_changes cs)) (map parts rs)
marked_rowsets files cs h [] fit = refl
marked_rowsets files cs h (fs ∷ rs) fit =
    let p = and_parts (list_all file_fits fs) (list_all file_fits (files_of rs)) (sym (list_all-append file_fits fs (files_of rs)) ∙ fit) in
    ap (λ (r : List Part). r ∷ map parts (marked cs rs)) (marked_rowset files cs h fs p.0)
    ∙ ap (λ (v : Rowsets). marks.marked (places_of_changes cs) (parts fs) ∷ v) (marked_rowsets files cs h rs p.1)

pub whole_parts : (files : List NewFile) → parts (map whole_file files) ≡ map all_live (numbers_of files)
whole_parts [] = refl
whole_parts (f ∷ files) = ap (λ (ps : List Part). all_live f.file ∷ ps) (whole_parts files)

pub one_new : (files : List NewFile) → map parts (new_rowset files) ≡ one_rowset (map all_live (numbers_of files))
one_new [] = refl
one_new (f ∷ files) = ap (λ (ps : List Part). (all_live f.file ∷ ps) ∷ []) (whole_parts files)

pub drop_parts : (n : ℕ) (rs : List Rowset) → map parts (drop n rs) ≡ drop n (map parts rs)
drop_parts zero rs = refl
drop_parts (suc n) [] = refl
drop_parts (suc n) (r ∷ rs) = drop_parts n rs

pub drop_versions : (n : ℕ) (vs : List Version) → map rowsets_of (drop n vs) ≡ drop n (map rowsets_of vs)
drop_versions zero vs = refl
drop_versions (suc n) [] = refl
drop_versions (suc n) (v ∷ vs) = drop_versions n vs

-- ---- the numbers that versions name

pub parts_are : (rs : List Rowset) → parts_of (map parts rs) ≡ parts (files_of rs)
parts_are [] = refl
parts_are (fs ∷ rs) = ap (λ (ps : List Part). parts fs ++ ps) (parts_are rs) ∙ sym (map-append part_of fs (files_of rs))

named_below : (next : ℕ) (fs : List ListedFile) (n : ℕ) → all_below next (numbers fs) ≡ true → names (parts fs) n ≡ true → n < next
named_below next [] n h named = absurd (none named)
  where
    none : false ≡ true → ⊥
    none e = cc
named_below next (f ∷ fs) n h named =
    let p = and_parts (nat_lt f.file next) (all_below next (numbers fs)) h in
    go (f.file == n) refl named (named_below next fs n p.1)
  where
    go : (b : Bool) → (f.file == n) ≡ b → (b || names (parts fs) n) ≡ true → (names (parts fs) n ≡ true → n < next) → n < next
    go true e named more =
        let same = eqb-true f.file n e in
        let p = and_parts (nat_lt f.file next) (all_below next (numbers fs)) h in
        let lt = ltb-true f.file next p.0 in
        omega arith
    go false e named more = more named

pub version_below : (next : ℕ) (v : Version) (n : ℕ) → AreGood next (files_of v.rowsets) → names (parts_of (rowsets_of v)) n ≡ true → n < next
version_below next v n good named = named_below next (files_of v.rowsets) n good.below (ap (λ (ps : List Part). names ps n) (sym (parts_are v.rowsets)) ∙ named)
