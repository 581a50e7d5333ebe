-- Changed rows that are live fit a record, and what a record that fits says of its changed rows.
use Rattle.std.proofs.Common.{◌≡◌, refl, ap, sym, subst, ◌∙◌, ℕ, zero, suc, ◌+◌, ◌-◌, ◌^◌, ◌<◌, ◌≤◌, arith, List, [], ◌∷◌, ◌++◌, append_assoc, append-nil, map, length, get_or, replicate, Option, Some, None, Bool, true, false, ◌&&◌, ◌||◌, not, nat_lt, nat_le, ◌==◌}
use Rattle.std.specs.List.{list_all, list_any, AllByRecursion}
use Rattle.std.specs.Prelude.{fold, sum}
use Rattle.std.proofs.lemmas.Bool.{and_parts, and_from, leb-true, le-leb}
use Rattle.std.proofs.lemmas.List.{map-append}
use Rattle.std.proofs.lemmas.List.Folds.{list_all-append}
use Rattle.index_level0.specs.declared.place.Place.{Place}
use Rattle.rowsets.specs.Marks.{Rises}
use Rattle.del_vector.proofs.DeadFacts.{few_rows}
use Rattle.journal_form.specs.declared.records.NewFile.{NewFile}
use Rattle.journal_form.specs.declared.records.DeadRows.{DeadRows}
use Rattle.journal_form.specs.declared.records.ListedFile.{ListedFile}
use Rattle.journal_form.specs.Versions.{Rowset, all_below, changes_fit, file_numbered, files_of, marked, marked_file, new_rowset, published_rowsets, rise_from, rows_fit, whole_file}
use Rattle.kept_versions.specs.Files.{PlacesRise, alive, can_die, is_live, row_lives}
use Rattle.kept_versions.specs.Changes.{AreInRange, RowsInRange, places_of_changes}
use Rattle.kept_versions.specs.Marking.{RowsRise, are_small, changed_numbers, grouped, lives_all, noted_all, rows_live}
use Rattle.kept_versions.proofs.GroupFacts.{Shaped, SmallRows, places_grouped, shaped_grouped, small_grouped}
use Rattle.kept_versions.proofs.FindFacts.{all_are_live, all_found, all_lives, found_in, lives_in}

-- ---- rising numbers

rises_from : (a : ℕ) (xs : List ℕ) → rise_from a xs ≡ true → Rises xs
rises_from a [] h = tt
rises_from a (x ∷ []) h = tt
rises_from a (x ∷ y ∷ xs) h =
    let p = and_parts (nat_le a x) (rise_from (x + 1) (y ∷ xs)) h in
    let q = and_parts (nat_le (x + 1) y) (rise_from (y + 1) xs) p.1 in
    let le = leb-true (x + 1) y q.0 in
    (omega arith, rises_from (x + 1) (y ∷ xs) p.1)

from_rises : (a x : ℕ) (xs : List ℕ) → a ≤ x → Rises (x ∷ xs) → rise_from a (x ∷ xs) ≡ true
from_rises a x [] le h = and_from (nat_le a x) true (le-leb a x le) refl
from_rises a x (y ∷ xs) le h =
    let lt : x < y = h.0 in
    and_from (nat_le a x) (rise_from (x + 1) (y ∷ xs)) (le-leb a x le) (from_rises (x + 1) y xs (omega arith) h.1)

rises_from_none : (xs : List ℕ) → Rises xs → rise_from 0 xs ≡ true
rises_from_none [] h = refl
rises_from_none (x ∷ xs) h = from_rises 0 x xs (omega arith) h

-- ---- a record that fits

rows_of_fits : (o : Option ListedFile) (rows : List ℕ) → rows_fit o rows ≡ true → Rises rows
rows_of_fits None rows h = cc
rows_of_fits (Some f) rows h =
    let p = and_parts (nat_le 1 (length rows)) (rise_from 0 rows && (all_below f.rows rows && not (list_any (λ r. list_any (λ d. d == r) f.dead) rows))) h in
    rises_from 0 rows (and_parts (rise_from 0 rows) (all_below f.rows rows && not (list_any (λ r. list_any (λ d. d == r) f.dead) rows)) p.1).0

numbers_of_fits : (least : ℕ) (files : List ListedFile) (cs : List DeadRows) → changes_fit least files cs ≡ true → rise_from least (changed_numbers cs) ≡ true
numbers_of_fits least files [] h = refl
numbers_of_fits least files (c ∷ cs) h =
    let p = and_parts (nat_le least c.file) (rows_fit (file_numbered c.file files) c.rows && changes_fit (c.file + 1) files cs) h in
    let q = and_parts (rows_fit (file_numbered c.file files) c.rows) (changes_fit (c.file + 1) files cs) p.1 in
    and_from (nat_le least c.file) (rise_from (c.file + 1) (changed_numbers cs)) p.0 (numbers_of_fits (c.file + 1) files cs q.1)

pub files_rise : (files : List ListedFile) (cs : List DeadRows) → changes_fit 0 files cs ≡ true → Rises (changed_numbers cs)
files_rise files cs h = rises_from 0 (changed_numbers cs) (numbers_of_fits 0 files cs h)

rows_rise_from : (least : ℕ) (files : List ListedFile) (cs : List DeadRows) → changes_fit least files cs ≡ true → RowsRise cs
rows_rise_from least files [] h = tt
rows_rise_from least files (c ∷ cs) h =
    let p = and_parts (nat_le least c.file) (rows_fit (file_numbered c.file files) c.rows && changes_fit (c.file + 1) files cs) h in
    let q = and_parts (rows_fit (file_numbered c.file files) c.rows) (changes_fit (c.file + 1) files cs) p.1 in
    (rows_of_fits (file_numbered c.file files) c.rows q.0, rows_rise_from (c.file + 1) files cs q.1)

pub rows_rise : (files : List ListedFile) (cs : List DeadRows) → changes_fit 0 files cs ≡ true → RowsRise cs
rows_rise files cs h = rows_rise_from 0 files cs h

-- ---- live rows fit

live_rows : (f : ListedFile) (rows : List ℕ) → rows_live f rows ≡ true → (all_below f.rows rows ≡ true) × (not (list_any (λ r. list_any (λ d. d == r) f.dead) rows) ≡ true)
live_rows f [] h = (refl, refl)
live_rows f (r ∷ rows) h =
    let p = and_parts (row_lives (Some f) r) (rows_live f rows) h in
    let q = and_parts (nat_lt r f.rows) (not (list_any (λ d. d == r) f.dead)) p.0 in
    let more = live_rows f rows p.1 in
    (and_from (nat_lt r f.rows) (all_below f.rows rows) q.0 more.0, none (list_any (λ d. d == r) f.dead) (list_any (λ r. list_any (λ d. d == r) f.dead) rows) q.1 more.1)
  where
    none : (a b : Bool) → not a ≡ true → not b ≡ true → not (a || b) ≡ true
    none true b h g = cc
    none false b h g = g

live_fits : (o : Option ListedFile) (rows : List ℕ) → 1 ≤ length rows → Rises rows → list_all (λ r. row_lives o r) rows ≡ true → rows_fit o rows ≡ true
live_fits None [] le rise h = absurd (omega arith)
live_fits None (r ∷ rows) le rise h = cc
live_fits (Some f) rows le rise h =
    let live = live_rows f rows h in
    let dead = not (list_any (λ r. list_any (λ d. d == r) f.dead) rows) in
    and_from (nat_le 1 (length rows)) (rise_from 0 rows && (all_below f.rows rows && dead)) (le-leb 1 (length rows) le)
    (and_from (rise_from 0 rows) (all_below f.rows rows && dead) (rises_from_none rows rise)
    (and_from (all_below f.rows rows) dead live.0 live.1))

abbrev lives : List ListedFile → Place → Bool
lives files p = row_lives (file_numbered p.segment files) p.row

placed : (files : List ListedFile) (n : ℕ) (rows : List ℕ) → list_all (lives files) (map (λ (r : ℕ). let p : Place = record { segment = n; row = r } in p) rows) ≡ list_all (λ r. row_lives (file_numbered n files) r) rows
placed files n [] = refl
placed files n (r ∷ rows) = ap (λ (t : Bool). row_lives (file_numbered n files) r && t) (placed files n rows)

fits_from : (least : ℕ) (files : List ListedFile) (cs : List DeadRows) → rise_from least (changed_numbers cs) ≡ true → RowsRise cs → AllByRecursion (λ c. 1 ≤ length c.rows) cs
    → list_all (lives files) (places_of_changes cs) ≡ true → changes_fit least files cs ≡ true
fits_from least files [] up rows some h = refl
fits_from least files (c ∷ cs) up rows some h =
    let here = map (λ (r : ℕ). let p : Place = record { segment = c.file; row = r } in p) c.rows in
    let p = and_parts (nat_le least c.file) (rise_from (c.file + 1) (changed_numbers cs)) up in
    let q = and_parts (list_all (lives files) here) (list_all (lives files) (places_of_changes cs)) (sym (list_all-append (lives files) here (places_of_changes cs)) ∙ h) in
    let fit = live_fits (file_numbered c.file files) c.rows some.0 rows.0 (sym (placed files c.file c.rows) ∙ q.0) in
    and_from (nat_le least c.file) (rows_fit (file_numbered c.file files) c.rows && changes_fit (c.file + 1) files cs) p.0
    (and_from (rows_fit (file_numbered c.file files) c.rows) (changes_fit (c.file + 1) files cs) fit (fits_from (c.file + 1) files cs p.1 rows.1 some.1 q.1))

pub live_changes_fit : (rowsets : List Rowset) (cs : List DeadRows) → Shaped cs → list_all (is_live rowsets) (places_of_changes cs) ≡ true → changes_fit 0 (files_of rowsets) cs ≡ true
live_changes_fit rowsets cs shape h = fits_from 0 (files_of rowsets) cs (rises_from_none (changed_numbers cs) shape.files) shape.rows shape.some h

-- ---- rows that a delete vector can hold

pub all_can_die : (rowsets : List Rowset) (ps : List Place) → are_small ps ≡ true → list_all (can_die rowsets) ps ≡ list_all (is_live rowsets) ps
all_can_die rowsets [] h = refl
all_can_die rowsets (p ∷ ps) h =
    let q = and_parts (nat_lt p.row 65536) (are_small ps) h in
    ap (λ (t : Bool). (t && is_live rowsets p) && list_all (can_die rowsets) ps) q.0 ∙ ap (λ (t : Bool). is_live rowsets p && t) (all_can_die rowsets ps q.1)

pub some_cannot : (rowsets : List Rowset) (ps : List Place) → are_small ps ≡ false → list_all (can_die rowsets) ps ≡ false
some_cannot rowsets [] h = cc
some_cannot rowsets (p ∷ ps) h = go (nat_lt p.row 65536) h (some_cannot rowsets ps)
  where
    none : (t : Bool) → (t && false) ≡ false
    none true = refl
    none false = refl

    go : (b : Bool) → (b && are_small ps) ≡ false → (are_small ps ≡ false → list_all (can_die rowsets) ps ≡ false) → ((b && is_live rowsets p) && list_all (can_die rowsets) ps) ≡ false
    go true h more = ap (λ (t : Bool). is_live rowsets p && t) (more h) ∙ none (is_live rowsets p)
    go false h more = refl

-- ---- sums over rowsets

fold_from : (a : ℕ) (ns : List ℕ) → fold (λ (a n : ℕ). a + n) a ns ≡ a + fold (λ (a n : ℕ). a + n) 0 ns
fold_from a [] = omega arith
fold_from a (n ∷ ns) = let more = fold_from (a + n) ns in let one = fold_from (0 + n) ns in more ∙ omega arith

sum_cons : (n : ℕ) (ns : List ℕ) → sum (n ∷ ns) ≡ n + sum ns
sum_cons n ns = let one = fold_from (0 + n) ns in one ∙ omega arith

alive_both : (xs ys : List ListedFile) → alive (xs ++ ys) ≡ alive xs + alive ys
alive_both [] ys = omega arith
alive_both (x ∷ xs) ys =
    let n = x.rows - length x.dead in
    let more = alive_both xs ys in
    sum_cons n (map (λ f. f.rows - length f.dead) (xs ++ ys)) ∙ (let one = sum_cons n (map (λ f. f.rows - length f.dead) xs) in omega (arith, more, one))

pub alive_files : (rowsets : List Rowset) → sum (map alive rowsets) ≡ alive (files_of rowsets)
alive_files [] = refl
alive_files (files ∷ rowsets) =
    sum_cons (alive files) (map alive rowsets) ∙ ap (λ (n : ℕ). alive files + n) (alive_files rowsets) ∙ sym (alive_both files (files_of rowsets))

-- ---- the files of the next version

files_of-append : (xs ys : List Rowset) → files_of (xs ++ ys) ≡ files_of xs ++ files_of ys
files_of-append [] ys = refl
files_of-append (x ∷ xs) ys = ap (λ (t : List ListedFile). x ++ t) (files_of-append xs ys) ∙ sym (append_assoc x (files_of xs) (files_of ys))

new_files : (files : List NewFile) → files_of (new_rowset files) ≡ map whole_file files
new_files [] = refl
new_files (f ∷ files) = append-nil (map whole_file (f ∷ files))

pub published_files : (files : List NewFile) (rowsets : List Rowset) → files_of rowsets ++ map whole_file files ≡ files_of (published_rowsets files rowsets)
published_files files rowsets = ap (λ (t : List ListedFile). files_of rowsets ++ t) (sym (new_files files)) ∙ sym (files_of-append rowsets (new_rowset files))

abbrev unmarked : List ListedFile → List ListedFile
unmarked files = map (marked_file []) files

same_files : (files : List ListedFile) → unmarked files ≡ files
same_files [] = refl
same_files (f ∷ files) = ap (λ (fs : List ListedFile). f ∷ fs) (same_files files)

-- where nothing is changed the rowsets are the same
pub marked_none : (rowsets : List Rowset) → marked [] rowsets ≡ rowsets
marked_none [] = refl
marked_none (files ∷ rowsets) = ap (λ (fs : List ListedFile). fs ∷ marked [] rowsets) (same_files files) ∙ ap (λ (rs : List Rowset). files ∷ rs) (marked_none rowsets)

-- the changed rowsets, and the changed new one behind them
pub marked_new : (cs : List DeadRows) (rowsets : List Rowset) (files : List NewFile) → 0 < length files → marked cs rowsets ++ map (marked_file cs) (map whole_file files) ∷ [] ≡ marked cs (published_rowsets files rowsets)
marked_new cs rowsets [] lt = absurd (omega arith)
marked_new cs rowsets (f ∷ files) lt = sym (map-append (λ (fs : List ListedFile). map (marked_file cs) fs) rowsets (map whole_file (f ∷ files) ∷ []))

-- and without new files
pub marked_old : (cs : List DeadRows) (rowsets : List Rowset) (files : List NewFile) → files ≡ [] → marked cs rowsets ≡ marked cs (published_rowsets files rowsets)
marked_old cs rowsets files none = ap (marked cs) (sym (append-nil rowsets)) ∙ ap (λ (fs : List NewFile). marked cs (published_rowsets fs rowsets)) (sym none)

-- ---- whether all changed rows are live

found_none : (cs : List DeadRows) → replicate (length cs) false ≡ found_in [] cs
found_none [] = refl
found_none (c ∷ cs) = ap (λ (bs : List Bool). false ∷ bs) (found_none cs)

none_lives : (cs : List DeadRows) → lives_in [] cs ≡ true
none_lives [] = refl
none_lives (c ∷ cs) = none_lives cs

-- the files of the version and then the new ones were gone over
pub gone_over : (rowsets : List Rowset) (files : List NewFile) (cs : List DeadRows) (bs one two : List Bool) (old new all : Bool) → AllByRecursion (λ c. 1 ≤ length c.rows) cs
    → bs ≡ replicate (length cs) false → one ≡ noted_all (files_of rowsets) cs bs → old ≡ lives_all (files_of rowsets) cs bs
    → two ≡ noted_all (map whole_file files) cs one → new ≡ lives_all (map whole_file files) cs one → all ≡ list_all (λ b. b) two
    → (old && (new && all)) ≡ list_all (is_live (published_rowsets files rowsets)) (places_of_changes cs)
gone_over rowsets files cs bs one two old new all some is first oldest second newest every =
    ap (λ (b : Bool). b && (new && all)) in_old
    ∙ and_assoc (lives_in (files_of rowsets) cs) new all
    ∙ ap (λ (b : Bool). b && all) in_all
    ∙ ap (λ (b : Bool). lives_in whole cs && b) (every ∙ ap (list_all (λ b. b)) found_all)
    ∙ all_are_live whole cs some
    ∙ ap (λ (fs : List ListedFile). list_all (lives fs) (places_of_changes cs)) (published_files files rowsets)
  where
    whole : List ListedFile
    whole = files_of rowsets ++ map whole_file files

    and_assoc : (a b c : Bool) → (a && (b && c)) ≡ ((a && b) && c)
    and_assoc true b c = refl
    and_assoc false b c = refl

    begun : bs ≡ found_in [] cs
    begun = is ∙ found_none cs

    in_old : old ≡ lives_in (files_of rowsets) cs
    in_old = oldest ∙ ap (lives_all (files_of rowsets) cs) begun ∙ ap (λ (b : Bool). b && lives_all (files_of rowsets) cs (found_in [] cs)) (sym (none_lives cs)) ∙ all_lives (files_of rowsets) [] cs

    found_old : one ≡ found_in (files_of rowsets) cs
    found_old = first ∙ ap (noted_all (files_of rowsets) cs) begun ∙ all_found (files_of rowsets) [] cs

    in_all : (lives_in (files_of rowsets) cs && new) ≡ lives_in whole cs
    in_all = ap (λ (b : Bool). lives_in (files_of rowsets) cs && b) (newest ∙ ap (lives_all (map whole_file files) cs) found_old) ∙ all_lives (map whole_file files) (files_of rowsets) cs

    found_all : two ≡ found_in whole cs
    found_all = second ∙ ap (noted_all (map whole_file files) cs) found_old ∙ all_found (map whole_file files) (files_of rowsets) cs

-- ---- places that were grouped

pub same_places : (cs : List DeadRows) (dead : List Place) → cs ≡ grouped dead → places_of_changes cs ≡ dead
same_places cs dead is = ap places_of_changes is ∙ places_grouped dead

pub shaped_told : (cs : List DeadRows) (dead : List Place) → cs ≡ grouped dead → PlacesRise dead → Shaped cs
shaped_told cs dead is rise = subst Shaped (sym is) (shaped_grouped dead rise)

pub told_live : (rowsets : List Rowset) (cs : List DeadRows) (dead : List Place) (live : Bool) → cs ≡ grouped dead → are_small dead ≡ true
    → live ≡ list_all (is_live rowsets) (places_of_changes cs) → list_all (can_die rowsets) dead ≡ live
told_live rowsets cs dead live is small told = all_can_die rowsets dead small ∙ ap (list_all (is_live rowsets)) (sym (same_places cs dead is)) ∙ sym told

pub told_fit : (rowsets : List Rowset) (cs : List DeadRows) (dead : List Place) (live : Bool) → cs ≡ grouped dead → PlacesRise dead
    → live ≡ list_all (is_live rowsets) (places_of_changes cs) → live ≡ true → changes_fit 0 (files_of rowsets) cs ≡ true
told_fit rowsets cs dead live is rise told all = live_changes_fit rowsets cs (shaped_told cs dead is rise) (sym told ∙ all)

each_of : {X : Type 0} (P : X → Type 0) (xs : List X) → AllByRecursion P xs → (k : ℕ) (d : X) → k < length xs → P (get_or xs k d)
each_of P [] all k d lt = absurd (omega arith)
each_of P (x ∷ xs) all zero d lt = all.0
each_of P (x ∷ xs) all (suc k) d lt = each_of P xs all.1 k d (omega arith)

rows_in_range : (cs : List DeadRows) → AllByRecursion (λ c. c.file < 2 ^ 64) cs → RowsRise cs → SmallRows cs → AllByRecursion RowsInRange cs
rows_in_range [] files rise small = tt
rows_in_range (c ∷ cs) files rise small =
    let few = few_rows c.rows (record { rise = rise.0; below = small.0 }) in
    (record { file = files.0; count = omega arith; rows = each_of (λ (r : ℕ). r < 2 ^ 16) c.rows small.0 }, rows_in_range cs files.1 rise.1 small.1)

pub in_range : (cs : List DeadRows) (dead : List Place) → cs ≡ grouped dead → PlacesRise dead → are_small dead ≡ true → AllByRecursion (λ c. c.file < 2 ^ 64) cs → length cs < 2 ^ 64 → AreInRange cs
in_range cs dead is rise small files count = record {
  count = count;
  each = each_of RowsInRange cs (rows_in_range cs files (shaped_told cs dead is rise).rows (subst SmallRows (sym is) (small_grouped dead small)));
}
