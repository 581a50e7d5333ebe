-- Where the rows of a load stand: row i of all in files of 65,536 rows, which is what their keys' moves tell.
use Rattle.std.proofs.Common.{◌≡◌, refl, ap, sym, ◌∙◌, ℕ, zero, suc, ◌+◌, ◌*◌, ◌/◌, ◌%◌, ◌<◌, ◌≤◌, List, [], ◌∷◌, ◌++◌, map, take, drop, length, Option, Some, None, true, false, cond, arith, eq-eqb}
use Rattle.std.specs.Prelude.{⊤}
use Rattle.std.specs.List.{AllByRecursion}
use Rattle.std.specs.Ordering.{eq_by_cmp, is_eq, ordering_reverse}
use Rattle.pk_values.specs.OrderFacts.{key_total}
use Rattle.std.specs.declared.cmp.Ordering.TheVariants.{Less}
use Rattle.std.proofs.lemmas.List.{length-take, length-drop, take-append-drop}
use Rattle.std.proofs.lemmas.Bool.{ne_eqb}
use Rattle.key_code.specs.KeyCode.{key_code}
use Rattle.pk_values.specs.Order.{key_cmp}
use Rattle.pk_values.specs.Schemas.{Layout, key_of}
use Rattle.pk_values.specs.declared.cells.Value.{Value}
use Rattle.index_level0.specs.declared.place.Place.{Place}
use Rattle.rowsets.specs.Live.{Files, Index}
use Rattle.rowsets.specs.Ending.{Moved}
use Rattle.rowsets.specs.Merging.{all_rows, moved_in, moved_to, numbered, with_files}
use Rattle.rowsets.specs.Indexing.{CodeMove, code_moves, merged_place}
use Rattle.rowsets.proofs.WrittenFacts.{itself}
use Rattle.core_publish.specs.Prepared.{files_from, files_of, fresh, moves_to, place_in}
use Rattle.core_publish.specs.Results.{KeyResult, place_at, placed, rows_left}
use Rattle.core_publish.proofs.ResultFacts.{AllAbove, AllRise, keys_of}

-- ---- rows in files

pub all-in-files : (n : ℕ) (rows : List (List Value)) → length rows ≤ n * 65536 → all_rows (files_from n rows) ≡ rows
all-in-files zero [] h = refl
all-in-files zero (row ∷ rows) h = absurd (omega arith)
all-in-files (suc n) rows h =
    ap (λ rest. take 65536 rows ++ rest) (all-in-files n (drop 65536 rows) (omega (arith, length-drop 65536 rows))) ∙ take-append-drop 65536 rows

pub enough : (n : ℕ) → n ≤ ((n + 65535) / 65536) * 65536
enough n = omega arith

-- ---- where they stand

-- the keys and places of rows, the first of which is row i of all
abbrev moved_from : Layout → ℕ → List (List Value) → List Moved
moved_from s i [] = []
moved_from s i (row ∷ rows) = record { key = key_of s row; place = place_at i } ∷ moved_from s (i + 1) rows

moved-append : (s : Layout) (i : ℕ) (xs ys : List (List Value)) → moved_from s i (xs ++ ys) ≡ moved_from s i xs ++ moved_from s (i + length xs) ys
moved-append s i [] ys = let e : i ≡ i + 0 = omega arith in ap (λ j. moved_from s j ys) e
moved-append s i (x ∷ xs) ys =
    let e : i + 1 + length xs ≡ i + suc (length xs) = omega arith in
    ap (λ rest. record { key = key_of s x; place = place_at i } ∷ rest) (moved-append s (i + 1) xs ys ∙ ap (λ j. moved_from s (i + 1) xs ++ moved_from s j ys) e)

same-place : (n j : ℕ) → j < 65536 → place_at (n * 65536 + j) ≡ record { segment = n; row = j }
same-place n j lt =
    let a : (n * 65536 + j) / 65536 ≡ n = omega arith in
    let b : (n * 65536 + j) % 65536 ≡ j = omega arith in
    λ i. record { segment = a i; row = b i }

in-file : (s : Layout) (n j : ℕ) (file : List (List Value)) → j + length file ≤ 65536 → moved_in s n j file ≡ moved_from s (n * 65536 + j) file
in-file s n j [] h = refl
in-file s n j (row ∷ file) h =
    let e : n * 65536 + (j + 1) ≡ n * 65536 + j + 1 = omega arith in
    let rest : moved_in s n (j + 1) file ≡ moved_from s (n * 65536 + j + 1) file = in-file s n (j + 1) file (omega arith) ∙ ap (λ k. moved_from s k file) e in
    (λ i. record { key = key_of s row; place = sym (same-place n j (omega arith)) i } ∷ rest i)

-- the moved rows of files with numbers from n on
abbrev pub moved_over : Layout → ℕ → List (List (List Value)) → List Moved
moved_over s n [] = []
moved_over s n (file ∷ files) = moved_in s n 0 file ++ moved_over s (n + 1) files

over-files : (s : Layout) (m n : ℕ) (rows : List (List Value)) → length rows ≤ m * 65536 → moved_over s n (files_from m rows) ≡ moved_from s (n * 65536) rows
over-files s zero n [] h = refl
over-files s zero n (row ∷ rows) h = absurd (omega arith)
over-files s (suc m) n rows h =
    let first : moved_in s n 0 (take 65536 rows) ≡ moved_from s (n * 65536) (take 65536 rows) =
    in-file s n 0 (take 65536 rows) (omega (arith, length-take 65536 rows)) ∙ ap (λ k. moved_from s k (take 65536 rows)) (omega arith) in
    let later : moved_over s (n + 1) (files_from m (drop 65536 rows)) ≡ moved_from s ((n + 1) * 65536) (drop 65536 rows) =
    over-files s m (n + 1) (drop 65536 rows) (omega (arith, length-drop 65536 rows)) in
    (λ i. first i ++ later i) ∙ ap (λ rest. moved_from s (n * 65536) (take 65536 rows) ++ rest) (behind (drop 65536 rows) refl)
    ∙ sym (moved-append s (n * 65536) (take 65536 rows) (drop 65536 rows)) ∙ ap (moved_from s (n * 65536)) (take-append-drop 65536 rows)
  where
    behind : (left : List (List Value)) → drop 65536 rows ≡ left → moved_from s ((n + 1) * 65536) (drop 65536 rows) ≡ moved_from s (n * 65536 + length (take 65536 rows)) (drop 65536 rows)
    behind [] e = ap (moved_from s ((n + 1) * 65536)) e ∙ sym (ap (moved_from s (n * 65536 + length (take 65536 rows))) e)
    behind (row ∷ left) e =
        let some : length (drop 65536 rows) ≡ suc (length left) = ap length e in
        let full : (n + 1) * 65536 ≡ n * 65536 + length (take 65536 rows) = omega (arith, length-take 65536 rows, length-drop 65536 rows) in
        ap (λ k. moved_from s k (drop 65536 rows)) full

-- rows read under their numbers
abbrev pub Agree : Files → ℕ → List (List (List Value)) → Type 0
Agree rows n [] = ⊤
Agree rows n (file ∷ files) = (rows n ≡ file) × Agree rows (n + 1) files

agree-below : (rows others : Files) (k n : ℕ) (files : List (List (List Value))) → k < n → ((m : ℕ) → k < m → others m ≡ rows m) → Agree rows n files → Agree others n files
agree-below rows others k n [] lt same h = tt
agree-below rows others k n (file ∷ files) lt same h = (same n lt ∙ h.0, agree-below rows others k (n + 1) files (omega arith) same h.1)

pub agree-fresh : (n : ℕ) (files : List (List (List Value))) (rest : Files) → Agree (with_files n files rest) n files
agree-fresh n [] rest = tt
agree-fresh n (file ∷ files) rest = (
  ap (λ b. cond b file (with_files (n + 1) files rest n)) (eq-eqb n n refl),
  agree-below (with_files (n + 1) files rest) (with_files n (file ∷ files) rest) n (n + 1) files (omega arith)
      (λ m lt. ap (λ b. cond b file (with_files (n + 1) files rest m)) (ne_eqb m n (λ e. omega arith)))
      (agree-fresh (n + 1) files rest),
)

pub moved-fresh : (s : Layout) (rows : Files) (n : ℕ) (files : List (List (List Value))) → Agree rows n files → moved_to s rows (numbered n files) ≡ moved_over s n files
moved-fresh s rows n [] h = refl
moved-fresh s rows n (file ∷ files) h = (λ i. moved_in s n 0 (h.0 i) ++ moved-fresh s rows (n + 1) files h.1 i)

moved-all : (s : Layout) (rows : List (List Value)) → moved_to s (fresh 0 (files_of rows)) (numbered 0 (files_of rows)) ≡ moved_from s 0 rows
moved-all s rows =
    moved-fresh s (fresh 0 (files_of rows)) 0 (files_of rows) (agree-fresh 0 (files_of rows) (λ n. []))
    ∙ over-files s ((length rows + 65535) / 65536) 0 rows (enough (length rows))

-- ---- the entries are the moves

abbrev Owns : Layout → List KeyResult → Type 0
Owns s rs = AllByRecursion (λ r. (row : List Value) → r.1 ≡ Some row → key_of s row ≡ r.0) rs

not-tied : (k j : List Value) → key_cmp k j ≡ Less → eq_by_cmp key_cmp k j ≡ false
not-tied k j e = ap is_eq e

absent : (s : Layout) (k : List Value) (rs : List KeyResult) (i : ℕ) → AllAbove k rs → Owns s rs → merged_place (moved_from s i (rows_left rs)) k ≡ None
absent s k [] i h owns = refl
absent s k ((key, None) ∷ rs) i h owns = absent s k rs i h.1 owns.1
absent s k ((key, Some row) ∷ rs) i h owns =
    ap (λ b. cond b (Some (place_at i)) (merged_place (moved_from s (i + 1) (rows_left rs)) k)) (ap (eq_by_cmp key_cmp k) (owns.0 row refl) ∙ not-tied k key h.0)
    ∙ absent s k rs (i + 1) h.1 owns.1

flipped : (k j : List Value) → key_cmp k j ≡ Less → eq_by_cmp key_cmp j k ≡ false
flipped k j e = ap is_eq (key_total.antisymm j k ∙ ap ordering_reverse e)

-- the codes of keys with what a function tells of each
abbrev told : Layout → Index → List KeyResult → List CodeMove
told s f [] = []
told s f (r ∷ rs) = (key_code s r.0, f r.0) ∷ told s f rs

-- keys above another don't meet its entry
skipped : (s : Layout) (k j : List Value) (p : Place) (moved : List Moved) (rs : List KeyResult) → j ≡ k → AllAbove k rs
    → told s (merged_place (record { key = j; place = p } ∷ moved)) rs ≡ told s (merged_place moved) rs
skipped s k j p moved [] e h = refl
skipped s k j p moved (r ∷ rs) e h =
    let other : eq_by_cmp key_cmp r.0 j ≡ false = ap (eq_by_cmp key_cmp r.0) e ∙ flipped k r.0 h.0 in
    (λ i. (key_code s r.0, cond (other i) (Some p) (merged_place moved r.0)) ∷ skipped s k j p moved rs e h.1 i)

placed-moves : (s : Layout) (i : ℕ) (rs : List KeyResult) → AllRise rs → Owns s rs
    → placed s i rs ≡ told s (merged_place (moved_from s i (rows_left rs))) rs
placed-moves s i [] h owns = refl
placed-moves s i ((key, None) ∷ rs) h owns =
    (λ j. (key_code s key, sym (absent s key rs i h.0 owns.1) j) ∷ placed-moves s i rs h.1 owns.1 j)
placed-moves s i ((key, Some row) ∷ rs) h owns =
    let same : key_of s row ≡ key = owns.0 row refl in
    let here : eq_by_cmp key_cmp key (key_of s row) ≡ true = ap (eq_by_cmp key_cmp key) same ∙ itself key in
    let later = placed-moves s (i + 1) rs h.1 owns.1 ∙ sym (skipped s key (key_of s row) (place_at i) (moved_from s (i + 1) (rows_left rs)) rs same h.0) in
    (λ j. (key_code s key, cond (sym here j) (Some (place_at i)) (merged_place (moved_from s (i + 1) (rows_left rs)) key)) ∷ later j)

maps : (s : Layout) (f : List Value → Option Place) (rs : List KeyResult)
    → told s f rs ≡ code_moves (key_code s) (map (λ k. record { key = k; place = f k }) (keys_of rs))
maps s f [] = refl
maps s f (r ∷ rs) = ap (λ es. (key_code s r.0, f r.0) ∷ es) (maps s f rs)

-- the entries of results tell where their keys' rows stand in the files
pub entries-are : (s : Layout) (rs : List KeyResult) (rows : List (List Value)) → rows ≡ rows_left rs → AllRise rs → Owns s rs
    → placed s 0 rs ≡ code_moves (key_code s) (moves_to s 0 (files_of rows) (keys_of rs))
entries-are s rs rows e rise owns =
    placed-moves s 0 rs rise owns
    ∙ ap (λ (moved : List Moved). told s (merged_place moved) rs) (ap (moved_from s 0) (sym e) ∙ sym (moved-all s rows))
    ∙ maps s (place_in s 0 (files_of rows)) rs
