-- The changed files among those of a version: which were found, and whether their changed rows are live.
use Rattle.std.proofs.Common.{◌≡◌, refl, ap, sym, ◌∙◌, ℕ, zero, suc, ◌+◌, ◌<◌, ◌≤◌, arith, List, [], ◌∷◌, ◌++◌, append_assoc, map, length, drop, get_or, slice_set, Option, Some, None, is_some, Bool, true, false, ◌&&◌, ◌||◌, not, ◌==◌, if◌then◌else◌, cond}
use Rattle.std.specs.List.{list_all, list_any, AllByRecursion}
use Rattle.std.proofs.lemmas.Bool.{eqb-false, ne_eqb, eq-eqb}
use Rattle.std.proofs.lemmas.List.{get_or-map, length-map}
use Rattle.std.proofs.lemmas.List.Folds.{list_all-append}
use Rattle.index_level0.specs.declared.place.Place.{Place}
use Rattle.rowsets.specs.Marks.{Rises}
use Rattle.rowsets.proofs.MarkFacts.{not_behind}
use Rattle.del_vector.proofs.DeadFacts.{before_middle, behind_middle, found, not_one, rise_between}
use Rattle.journal_form.specs.declared.records.DeadRows.{DeadRows}
use Rattle.journal_form.specs.declared.records.ListedFile.{ListedFile}
use Rattle.journal_form.specs.Versions.{Rowset, file_numbered, files_of, rows_changed}
use Rattle.kept_versions.specs.Files.{row_lives}
use Rattle.kept_versions.specs.Changes.{places_of_changes}
use Rattle.kept_versions.specs.Marking.{changed_numbers, lives_all, lives_at, noted, noted_all, rows_live}

none_true : (b : Bool) → (b || true) ≡ true
none_true true = refl
none_true false = refl

or_false : (b : Bool) → (b || false) ≡ b
or_false true = refl
or_false false = refl

neither : (a b : Bool) → (a || b) ≡ false → (a ≡ false) × (b ≡ false)
neither true b h = cc
neither false b h = (refl, h)

turned : (m n : ℕ) → (m == n) ≡ false → (n == m) ≡ false
turned m n h = ne_eqb n m (λ e. eqb-false m n h (sym e))

abbrev file_of : DeadRows → ℕ
file_of c = c.file

-- ---- a search among the changed files

number_at : (cs : List DeadRows) (i : ℕ) (d : DeadRows) → i < length cs → get_or (changed_numbers cs) i 0 ≡ (get_or cs i d).file
number_at cs i d lt = get_or-map file_of cs i d 0 lt

pub before_here : (cs : List DeadRows) (n m : ℕ) (c : DeadRows) → Rises (changed_numbers cs) → m < length cs → (get_or cs m c).file < n → (k d : ℕ) → 0 ≤ k → k < m + 1 → get_or (changed_numbers cs) k d < n
before_here cs n m c h lt below =
    let len = length-map cs file_of in
    let here = number_at cs m c lt in
    before_middle (changed_numbers cs) n m h (omega arith) (omega arith)

pub behind_here : (cs : List DeadRows) (n m : ℕ) (c : DeadRows) → Rises (changed_numbers cs) → m < length cs → n ≤ (get_or cs m c).file → (k d : ℕ) → m ≤ k → k < length cs → n ≤ get_or (changed_numbers cs) k d
behind_here cs n m c h lt le k d from to =
    let len = length-map cs file_of in
    let here = number_at cs m c lt in
    behind_middle (changed_numbers cs) n m h (omega arith) k d from (omega arith)

pub other_here : (cs : List DeadRows) (n place : ℕ) (c : DeadRows) → Rises (changed_numbers cs) → place < length cs → ((get_or cs place c).file == n) ≡ false
    → ((k d : ℕ) → 0 ≤ k → k < place → get_or (changed_numbers cs) k d < n) → ((k d : ℕ) → place ≤ k → k < length cs → n ≤ get_or (changed_numbers cs) k d)
    → list_any (λ m. m == n) (changed_numbers cs) ≡ false
other_here cs n place c h lt other before behind =
    let len = length-map cs file_of in
    sym (found (changed_numbers cs) n place h (omega arith) before (λ k d from to. behind k d from (omega arith)))
    ∙ ap (λ (m : ℕ). m == n) (number_at cs place c lt) ∙ other

pub none_here : (cs : List DeadRows) (n place : ℕ) → length cs ≤ place → ((k d : ℕ) → 0 ≤ k → k < place → get_or (changed_numbers cs) k d < n) → list_any (λ m. m == n) (changed_numbers cs) ≡ false
none_here cs n place le before =
    let len = length-map cs file_of in
    not_one (changed_numbers cs) n (λ k lt same. let below = before k 0 (omega arith) (omega arith) in omega arith)

-- ---- a number that isn't changed, and one that is

pub none_noted : (n : ℕ) (cs : List DeadRows) (bs : List Bool) → length bs ≡ length cs → list_any (λ m. m == n) (changed_numbers cs) ≡ false → noted n cs bs ≡ bs
none_noted n [] [] l h = refl
none_noted n [] (b ∷ bs) l h = absurd (omega arith)
none_noted n (c ∷ cs) [] l h = absurd (omega arith)
none_noted n (c ∷ cs) (b ∷ bs) l h =
    let p = neither (c.file == n) (list_any (λ m. m == n) (changed_numbers cs)) h in
    ap (λ (t : Bool). (b || t) ∷ noted n cs bs) (turned c.file n p.0) ∙ ap (λ (t : Bool). t ∷ noted n cs bs) (or_false b) ∙ ap (λ (ts : List Bool). b ∷ ts) (none_noted n cs bs (omega arith) p.1)

pub none_lives : (f : ListedFile) (cs : List DeadRows) (bs : List Bool) → list_any (λ m. m == f.file) (changed_numbers cs) ≡ false → lives_at f cs bs ≡ true
none_lives f [] bs h = refl
none_lives f (c ∷ cs) [] h = refl
none_lives f (c ∷ cs) (b ∷ bs) h =
    let p = neither (c.file == f.file) (list_any (λ m. m == f.file) (changed_numbers cs)) h in
    ap (λ (t : Bool). (b || (not t || rows_live f c.rows)) && lives_at f cs bs) (turned c.file f.file p.0)
    ∙ ap (λ (t : Bool). t && lives_at f cs bs) (none_true b) ∙ none_lives f cs bs p.1

pub none_changed : (n : ℕ) (cs : List DeadRows) → list_any (λ m. m == n) (changed_numbers cs) ≡ false → rows_changed cs n ≡ []
none_changed n [] h = refl
none_changed n (c ∷ cs) h =
    let p = neither (c.file == n) (list_any (λ m. m == n) (changed_numbers cs)) h in
    ap (λ (t : Bool). if t then c.rows else rows_changed cs n) p.0 ∙ none_changed n cs p.1

tail_rises : (x : ℕ) (xs : List ℕ) → Rises (x ∷ xs) → Rises xs
tail_rises x [] h = tt
tail_rises x (y ∷ ys) h = h.1

-- a file that stands behind the first one has another number
later : (c : DeadRows) (cs : List DeadRows) (g n : ℕ) → Rises (changed_numbers (c ∷ cs)) → g < length cs → get_or (changed_numbers cs) g 0 ≡ n → c.file < n
later c cs g n h lt e =
    let len = length-map cs (λ (d : DeadRows). d.file) in
    let below = rise_between (changed_numbers (c ∷ cs)) 0 (suc g) 0 0 h (omega arith) (omega arith) in
    omega arith

pub at_noted : (n : ℕ) (cs : List DeadRows) (bs : List Bool) (g : ℕ) → Rises (changed_numbers cs) → length bs ≡ length cs → g < length cs → get_or (changed_numbers cs) g 0 ≡ n → noted n cs bs ≡ slice_set bs g true
at_noted n [] bs g h l lt e = absurd (omega arith)
at_noted n (c ∷ cs) [] g h l lt e = absurd (omega arith)
at_noted n (c ∷ cs) (b ∷ bs) zero h l lt e =
    ap (λ (t : Bool). (b || t) ∷ noted n cs bs) (eq-eqb n c.file (sym e)) ∙ ap (λ (t : Bool). t ∷ noted n cs bs) (none_true b)
    ∙ ap (λ (ts : List Bool). true ∷ ts) (none_noted n cs bs (omega arith) (ap (λ (k : ℕ). list_any (λ m. m == k) (changed_numbers cs)) (sym e) ∙ not_behind c.file (changed_numbers cs) h))
at_noted n (c ∷ cs) (b ∷ bs) (suc g) h l lt e =
    let below = later c cs g n h (omega arith) e in
    ap (λ (t : Bool). (b || t) ∷ noted n cs bs) (ne_eqb n c.file (λ same. omega arith)) ∙ ap (λ (t : Bool). t ∷ noted n cs bs) (or_false b)
    ∙ ap (λ (ts : List Bool). b ∷ ts) (at_noted n cs bs g (tail_rises c.file (changed_numbers cs) h) (omega arith) (omega arith) e)

pub at_lives : (f : ListedFile) (cs : List DeadRows) (bs : List Bool) (g : ℕ) (a : Bool) (d : DeadRows) → Rises (changed_numbers cs) → length bs ≡ length cs → g < length cs → get_or (changed_numbers cs) g 0 ≡ f.file
    → lives_at f cs bs ≡ (get_or bs g a || rows_live f (get_or cs g d).rows)
at_lives f [] bs g a d h l lt e = absurd (omega arith)
at_lives f (c ∷ cs) [] g a d h l lt e = absurd (omega arith)
at_lives f (c ∷ cs) (b ∷ bs) zero a d h l lt e =
    ap (λ (t : Bool). (b || (not t || rows_live f c.rows)) && lives_at f cs bs) (eq-eqb f.file c.file (sym e))
    ∙ ap (λ (t : Bool). (b || rows_live f c.rows) && t) (none_lives f cs bs (ap (λ (k : ℕ). list_any (λ m. m == k) (changed_numbers cs)) (sym e) ∙ not_behind c.file (changed_numbers cs) h))
    ∙ and_true (b || rows_live f c.rows)
  where
    and_true : (t : Bool) → (t && true) ≡ t
    and_true true = refl
    and_true false = refl
at_lives f (c ∷ cs) (b ∷ bs) (suc g) a d h l lt e =
    let below = later c cs g f.file h (omega arith) e in
    ap (λ (t : Bool). (b || (not t || rows_live f c.rows)) && lives_at f cs bs) (ne_eqb f.file c.file (λ same. omega arith))
    ∙ ap (λ (t : Bool). t && lives_at f cs bs) (none_true b)
    ∙ at_lives f cs bs g a d (tail_rises c.file (changed_numbers cs) h) (omega arith) (omega arith) e

pub at_changed : (n : ℕ) (cs : List DeadRows) (g : ℕ) (d : DeadRows) → Rises (changed_numbers cs) → g < length cs → get_or (changed_numbers cs) g 0 ≡ n → rows_changed cs n ≡ (get_or cs g d).rows
at_changed n [] g d h lt e = absurd (omega arith)
at_changed n (c ∷ cs) zero d h lt e = ap (λ (t : Bool). if t then c.rows else rows_changed cs n) (eq-eqb c.file n e)
at_changed n (c ∷ cs) (suc g) d h lt e =
    let below = later c cs g n h (omega arith) e in
    ap (λ (t : Bool). if t then c.rows else rows_changed cs n) (ne_eqb c.file n (λ same. omega arith))
    ∙ at_changed n cs g d (tail_rises c.file (changed_numbers cs) h) (omega arith) e

pub length-noted : (n : ℕ) (cs : List DeadRows) (bs : List Bool) → length bs ≡ length cs → length (noted n cs bs) ≡ length cs
length-noted n [] bs l = refl
length-noted n (c ∷ cs) [] l = absurd (omega arith)
length-noted n (c ∷ cs) (b ∷ bs) l = let more = length-noted n cs bs (omega arith) in omega arith

-- ---- what was found in files that were gone over

abbrev pub found_in : List ListedFile → List DeadRows → List Bool
found_in seen cs = map (λ c. is_some (file_numbered c.file seen)) cs

abbrev live_where : Option ListedFile → List ℕ → Bool
live_where None rows = true
live_where (Some f) rows = rows_live f rows

abbrev pub lives_in : List ListedFile → List DeadRows → Bool
lives_in seen cs = list_all (λ c. live_where (file_numbered c.file seen) c.rows) cs

found_one : (n : ℕ) (f : ListedFile) (seen : List ListedFile) → (is_some (file_numbered n seen) || (f.file == n)) ≡ is_some (file_numbered n (seen ++ f ∷ []))
found_one n f [] = go (f.file == n)
  where
    go : (b : Bool) → b ≡ is_some (cond b (Some f) None)
    go true = refl
    go false = refl
found_one n f (s ∷ seen) = go (s.file == n) (found_one n f seen)
  where
    go : (b : Bool) → (is_some (file_numbered n seen) || (f.file == n)) ≡ is_some (file_numbered n (seen ++ f ∷ []))
        → (is_some (cond b (Some s) (file_numbered n seen)) || (f.file == n)) ≡ is_some (cond b (Some s) (file_numbered n (seen ++ f ∷ [])))
    go true more = refl
    go false more = more

lives_one : (n : ℕ) (rows : List ℕ) (f : ListedFile) (seen : List ListedFile)
    → (live_where (file_numbered n seen) rows && (is_some (file_numbered n seen) || (not (f.file == n) || rows_live f rows))) ≡ live_where (file_numbered n (seen ++ f ∷ [])) rows
lives_one n rows f [] = go (f.file == n)
  where
    go : (b : Bool) → (not b || rows_live f rows) ≡ live_where (cond b (Some f) None) rows
    go true = refl
    go false = refl
lives_one n rows f (s ∷ seen) = go (s.file == n) (lives_one n rows f seen)
  where
    and_true : (t : Bool) → (t && true) ≡ t
    and_true true = refl
    and_true false = refl

    go : (b : Bool) → (live_where (file_numbered n seen) rows && (is_some (file_numbered n seen) || (not (f.file == n) || rows_live f rows))) ≡ live_where (file_numbered n (seen ++ f ∷ [])) rows
        → (live_where (cond b (Some s) (file_numbered n seen)) rows && (is_some (cond b (Some s) (file_numbered n seen)) || (not (f.file == n) || rows_live f rows)))
        ≡ live_where (cond b (Some s) (file_numbered n (seen ++ f ∷ []))) rows
    go true more = and_true (rows_live s rows)
    go false more = more

found_push : (seen : List ListedFile) (f : ListedFile) (cs : List DeadRows) → noted f.file cs (found_in seen cs) ≡ found_in (seen ++ f ∷ []) cs
found_push seen f [] = refl
found_push seen f (c ∷ cs) =
    ap (λ (t : Bool). t ∷ noted f.file cs (found_in seen cs)) (found_one c.file f seen) ∙ ap (λ (ts : List Bool). is_some (file_numbered c.file (seen ++ f ∷ [])) ∷ ts) (found_push seen f cs)

swapped : (a b x y : Bool) → ((a && b) && (x && y)) ≡ ((a && x) && (b && y))
swapped true true x y = refl
swapped true false true y = refl
swapped true false false y = refl
swapped false b x y = refl

lives_push : (seen : List ListedFile) (f : ListedFile) (cs : List DeadRows) → (lives_in seen cs && lives_at f cs (found_in seen cs)) ≡ lives_in (seen ++ f ∷ []) cs
lives_push seen f [] = refl
lives_push seen f (c ∷ cs) =
    swapped (live_where (file_numbered c.file seen) c.rows) (lives_in seen cs) (is_some (file_numbered c.file seen) || (not (f.file == c.file) || rows_live f c.rows)) (lives_at f cs (found_in seen cs))
    ∙ ap (λ (t : Bool). t && (lives_in seen cs && lives_at f cs (found_in seen cs))) (lives_one c.file c.rows f seen)
    ∙ ap (λ (t : Bool). live_where (file_numbered c.file (seen ++ f ∷ [])) c.rows && t) (lives_push seen f cs)

pub all_found : (files seen : List ListedFile) (cs : List DeadRows) → noted_all files cs (found_in seen cs) ≡ found_in (seen ++ files) cs
all_found [] seen cs = ap (λ (fs : List ListedFile). found_in fs cs) (sym (none_behind seen))
  where
    none_behind : (xs : List ListedFile) → xs ++ [] ≡ xs
    none_behind [] = refl
    none_behind (x ∷ xs) = ap (λ (ys : List ListedFile). x ∷ ys) (none_behind xs)
all_found (f ∷ files) seen cs =
    ap (noted_all files cs) (found_push seen f cs) ∙ all_found files (seen ++ f ∷ []) cs ∙ ap (λ (fs : List ListedFile). found_in fs cs) (append_assoc seen (f ∷ []) files)

and_assoc : (a b c : Bool) → (a && (b && c)) ≡ ((a && b) && c)
and_assoc true b c = refl
and_assoc false b c = refl

pub all_lives : (files seen : List ListedFile) (cs : List DeadRows) → (lives_in seen cs && lives_all files cs (found_in seen cs)) ≡ lives_in (seen ++ files) cs
all_lives [] seen cs = and_true (lives_in seen cs) ∙ ap (λ (fs : List ListedFile). lives_in fs cs) (sym (none_behind seen))
  where
    and_true : (t : Bool) → (t && true) ≡ t
    and_true true = refl
    and_true false = refl

    none_behind : (xs : List ListedFile) → xs ++ [] ≡ xs
    none_behind [] = refl
    none_behind (x ∷ xs) = ap (λ (ys : List ListedFile). x ∷ ys) (none_behind xs)
all_lives (f ∷ files) seen cs =
    and_assoc (lives_in seen cs) (lives_at f cs (found_in seen cs)) (lives_all files cs (noted f.file cs (found_in seen cs)))
    ∙ ap (λ (t : Bool). t && lives_all files cs (noted f.file cs (found_in seen cs))) (lives_push seen f cs)
    ∙ ap (λ (bs : List Bool). lives_in (seen ++ f ∷ []) cs && lives_all files cs bs) (found_push seen f cs)
    ∙ all_lives files (seen ++ f ∷ []) cs
    ∙ ap (λ (fs : List ListedFile). lives_in fs cs) (append_assoc seen (f ∷ []) files)

-- ---- one list of files behind another

pub noted-append : (xs ys : List ListedFile) (cs : List DeadRows) (bs : List Bool) → noted_all (xs ++ ys) cs bs ≡ noted_all ys cs (noted_all xs cs bs)
noted-append [] ys cs bs = refl
noted-append (x ∷ xs) ys cs bs = noted-append xs ys cs (noted x.file cs bs)

pub lives-append : (xs ys : List ListedFile) (cs : List DeadRows) (bs : List Bool) → lives_all (xs ++ ys) cs bs ≡ (lives_all xs cs bs && lives_all ys cs (noted_all xs cs bs))
lives-append [] ys cs bs = refl
lives-append (x ∷ xs) ys cs bs =
    ap (λ (t : Bool). lives_at x cs bs && t) (lives-append xs ys cs (noted x.file cs bs))
    ∙ and_assoc (lives_at x cs bs) (lives_all xs cs (noted x.file cs bs)) (lives_all ys cs (noted_all xs cs (noted x.file cs bs)))

pub files_left : (rowsets : List Rowset) (i : ℕ) (x : Rowset) → i < length rowsets → x ≡ get_or rowsets i x → files_of (drop i rowsets) ≡ x ++ files_of (drop (i + 1) rowsets)
files_left [] i x lt e = absurd (omega arith)
files_left (r ∷ rs) zero x lt e = ap (λ (fs : Rowset). fs ++ files_of rs) (sym e)
files_left (r ∷ rs) (suc i) x lt e = let next : suc (i + 1) ≡ suc i + 1 = omega arith in files_left rs i x (omega arith) e ∙ ap (λ (m : ℕ). x ++ files_of (drop m (r ∷ rs))) next

-- ---- a turn of the loop over files, and over rowsets

pub cut : (files : List ListedFile) (i : ℕ) (x : ListedFile) → i < length files → x ≡ get_or files i x → drop i files ≡ x ∷ drop (i + 1) files
cut [] i x lt e = absurd (omega arith)
cut (f ∷ files) zero x lt e = ap (λ (g : ListedFile). g ∷ files) (sym e)
cut (f ∷ files) (suc i) x lt e = let next : suc (i + 1) ≡ suc i + 1 = omega arith in cut files i x (omega arith) e ∙ ap (λ (m : ℕ). x ∷ drop m (f ∷ files)) next

pub note_lives : (left rest : List ListedFile) (cs : List DeadRows) (bs next : List Bool) (x : ListedFile) (live joined lives whole : Bool)
    → left ≡ x ∷ rest → next ≡ noted x.file cs bs → lives ≡ lives_at x cs bs → joined ≡ (live && lives) → (live && lives_all left cs bs) ≡ whole → (joined && lives_all rest cs next) ≡ whole
note_lives left rest cs bs next x live joined lives whole split is here both h =
    ap (λ (b : Bool). b && lives_all rest cs next) (both ∙ ap (λ (b : Bool). live && b) here)
    ∙ ap (λ (ts : List Bool). (live && lives_at x cs bs) && lives_all rest cs ts) is
    ∙ sym (and_assoc live (lives_at x cs bs) (lives_all rest cs (noted x.file cs bs)))
    ∙ ap (λ (fs : List ListedFile). live && lives_all fs cs bs) (sym split) ∙ h

pub note_found : (left rest : List ListedFile) (cs : List DeadRows) (bs next whole : List Bool) (x : ListedFile)
    → left ≡ x ∷ rest → next ≡ noted x.file cs bs → noted_all left cs bs ≡ whole → noted_all rest cs next ≡ whole
note_found left rest cs bs next whole x split is h = ap (noted_all rest cs) is ∙ ap (λ (fs : List ListedFile). noted_all fs cs bs) (sym split) ∙ h

pub rowset_lives : (left rest files : List ListedFile) (cs : List DeadRows) (bs next : List Bool) (live joined lives whole : Bool)
    → left ≡ files ++ rest → next ≡ noted_all files cs bs → lives ≡ lives_all files cs bs → joined ≡ (live && lives) → (live && lives_all left cs bs) ≡ whole → (joined && lives_all rest cs next) ≡ whole
rowset_lives left rest files cs bs next live joined lives whole split is here both h =
    ap (λ (b : Bool). b && lives_all rest cs next) (both ∙ ap (λ (b : Bool). live && b) here)
    ∙ ap (λ (ts : List Bool). (live && lives_all files cs bs) && lives_all rest cs ts) is
    ∙ sym (and_assoc live (lives_all files cs bs) (lives_all rest cs (noted_all files cs bs)))
    ∙ ap (λ (b : Bool). live && b) (sym (lives-append files rest cs bs))
    ∙ ap (λ (fs : List ListedFile). live && lives_all fs cs bs) (sym split) ∙ h

pub rowset_found : (left rest files : List ListedFile) (cs : List DeadRows) (bs next whole : List Bool)
    → left ≡ files ++ rest → next ≡ noted_all files cs bs → noted_all left cs bs ≡ whole → noted_all rest cs next ≡ whole
rowset_found left rest files cs bs next whole split is h =
    ap (noted_all rest cs) is ∙ sym (noted-append files rest cs bs) ∙ ap (λ (fs : List ListedFile). noted_all fs cs bs) (sym split) ∙ h

-- ---- a file among rowsets

pub numbered_here : (n : ℕ) (files rest left : List ListedFile) (f : ListedFile) → left ≡ files ++ rest → file_numbered n files ≡ Some f → file_numbered n left ≡ Some f
numbered_here n files rest left f split h = ap (file_numbered n) split ∙ go files h
  where
    go : (xs : List ListedFile) → file_numbered n xs ≡ Some f → file_numbered n (xs ++ rest) ≡ Some f
    go [] h = cc
    go (x ∷ xs) h = by (x.file == n) h (go xs)
      where
        by : (b : Bool) → cond b (Some x) (file_numbered n xs) ≡ Some f → (file_numbered n xs ≡ Some f → file_numbered n (xs ++ rest) ≡ Some f) → cond b (Some x) (file_numbered n (xs ++ rest)) ≡ Some f
        by true h more = h
        by false h more = more h

pub numbered_behind : (n : ℕ) (files rest left : List ListedFile) → left ≡ files ++ rest → file_numbered n files ≡ None → file_numbered n left ≡ file_numbered n rest
numbered_behind n files rest left split h = ap (file_numbered n) split ∙ go files h
  where
    go : (xs : List ListedFile) → file_numbered n xs ≡ None → file_numbered n (xs ++ rest) ≡ file_numbered n rest
    go [] h = refl
    go (x ∷ xs) h = by (x.file == n) h (go xs)
      where
        by : (b : Bool) → cond b (Some x) (file_numbered n xs) ≡ None → (file_numbered n xs ≡ None → file_numbered n (xs ++ rest) ≡ file_numbered n rest) → cond b (Some x) (file_numbered n (xs ++ rest)) ≡ file_numbered n rest
        by true h more = cc
        by false h more = more h

-- ---- all changed files were found, with their changed rows live, exactly where each changed row is a live one

pub all_are_live : (files : List ListedFile) (cs : List DeadRows) → AllByRecursion (λ c. 1 ≤ length c.rows) cs
    → (lives_in files cs && list_all (λ b. b) (found_in files cs)) ≡ list_all (λ (p : Place). row_lives (file_numbered p.segment files) p.row) (places_of_changes cs)
all_are_live files [] some = refl
all_are_live files (c ∷ cs) some =
    swapped (live_where (file_numbered c.file files) c.rows) (lives_in files cs) (is_some (file_numbered c.file files)) (list_all (λ b. b) (found_in files cs))
    ∙ ap (λ (t : Bool). t && (lives_in files cs && list_all (λ b. b) (found_in files cs))) (one (file_numbered c.file files) c.rows some.0 ∙ placed c.rows)
    ∙ ap (λ (t : Bool). list_all lives (map here c.rows) && t) (all_are_live files cs some.1)
    ∙ sym (list_all-append lives (map here c.rows) (places_of_changes cs))
  where
    here : ℕ → Place
    here r = record { segment = c.file; row = r }

    lives : Place → Bool
    lives p = row_lives (file_numbered p.segment files) p.row

    and_true : (t : Bool) → (t && true) ≡ t
    and_true true = refl
    and_true false = refl

    one : (o : Option ListedFile) (rows : List ℕ) → 1 ≤ length rows → (live_where o rows && is_some o) ≡ list_all (λ r. row_lives o r) rows
    one None [] le = absurd (omega arith)
    one None (r ∷ rows) le = refl
    one (Some f) rows le = and_true (rows_live f rows)

    placed : (rows : List ℕ) → list_all (λ r. row_lives (file_numbered c.file files) r) rows ≡ list_all lives (map here rows)
    placed [] = refl
    placed (r ∷ rows) = ap (λ (t : Bool). row_lives (file_numbered c.file files) r && t) (placed rows)
