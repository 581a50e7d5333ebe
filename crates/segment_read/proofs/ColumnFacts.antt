-- Pages and marks of rows that grow by a column.
use Rattle.std.proofs.Common.{◌≡◌, ℕ, zero, suc, ◌+◌, ◌<◌, ◌≤◌, List, [], ◌∷◌, ◌++◌, All, IsTrue, true, length, get_or, map, take, replicate, refl, sym, ap, ◌∙◌, append_assoc, arith}
use Rattle.std.proofs.lemmas.Bool.{and_from, and_parts}
use Rattle.std.proofs.lemmas.List.{append-nil, take_more}
use Rattle.std.proofs.lemmas.List.Elements.{All-cons, All-head, All-tail, All-nil}
use Rattle.pk_values.specs.Fits.{fits, fits_all}
use Rattle.pk_values.specs.SchemaFacts.{length-fits_all}
use Rattle.pk_values.specs.declared.cells.Value.{Value}
use Rattle.pk_values.specs.declared.cells.Value.TheVariants.{Null}
use Rattle.pk_values.specs.declared.cells.Column.{Column}
use Rattle.column_page.specs.Footers.{mark_of}
use Rattle.column_page.specs.Page.{page_of}
use Rattle.column_page.specs.declared.footers.ColumnMark.{ColumnMark}
use Rattle.segment_form.specs.Segments.{column_cells, marks_of, pages, sized}
use Rattle.segment_read.specs.Columns.{with_column}

-- ---- cells

-- each row has so many cells
abbrev pub AreLong : ℕ → List (List Value) → Type 0
AreLong n rows = All (λ row. length row ≡ n) rows

pub long_fits : (cs : List Column) (rows : List (List Value)) → All (λ row. IsTrue (fits_all cs row)) rows → AreLong (length cs) rows
long_fits cs rows fit = λ k d lt. length-fits_all cs (get_or rows k d) (fit k d lt)

get_or-front : (r : List Value) (v : Value) (k : ℕ) → k < length r → get_or (r ++ v ∷ []) k Null ≡ get_or r k Null
get_or-front [] v k lt = absurd (omega arith)
get_or-front (x ∷ r) v zero lt = refl
get_or-front (x ∷ r) v (suc k) lt = get_or-front r v k (omega arith)

get_or-last : (r : List Value) (v : Value) (n : ℕ) → length r ≡ n → get_or (r ++ v ∷ []) n Null ≡ v
get_or-last [] v zero e = refl
get_or-last [] v (suc n) e = absurd (omega arith)
get_or-last (x ∷ r) v zero e = absurd (omega arith)
get_or-last (x ∷ r) v (suc n) e = get_or-last r v n (omega arith)

-- the columns before are as they were
cells-before : (n k : ℕ) (rows : List (List Value)) (cells : List Value) → AreLong n rows → k < n → column_cells k (with_column rows cells) ≡ column_cells k rows
cells-before n k [] cells all lt = refl
cells-before n k (r ∷ rows) [] all lt = refl
cells-before n k (r ∷ rows) (v ∷ cells) all lt =
    let head : length r ≡ n = All-head (λ row. length row ≡ n) r rows all in
    let one : get_or (r ++ v ∷ []) k Null ≡ get_or r k Null = get_or-front r v k (omega arith) in
    let rest : column_cells k (with_column rows cells) ≡ column_cells k rows = cells-before n k rows cells (All-tail (λ row. length row ≡ n) r rows all) lt in
    ap (λ (x : Value). x ∷ column_cells k (with_column rows cells)) one ∙ ap (λ (t : List Value). get_or r k Null ∷ t) rest

-- the column behind them has the cells
cells-new : (n : ℕ) (rows : List (List Value)) (cells : List Value) → AreLong n rows → length rows ≡ length cells → column_cells n (with_column rows cells) ≡ cells
cells-new n [] [] all e = refl
cells-new n [] (v ∷ cells) all e = absurd (omega arith)
cells-new n (r ∷ rows) [] all e = absurd (omega arith)
cells-new n (r ∷ rows) (v ∷ cells) all e =
    let head : length r ≡ n = All-head (λ row. length row ≡ n) r rows all in
    let one : get_or (r ++ v ∷ []) n Null ≡ v = get_or-last r v n head in
    let rest : column_cells n (with_column rows cells) ≡ cells = cells-new n rows cells (All-tail (λ row. length row ≡ n) r rows all) (omega arith) in
    ap (λ (x : Value). x ∷ column_cells n (with_column rows cells)) one ∙ ap (λ (t : List Value). v ∷ t) rest

pub length-with_column : (rows : List (List Value)) (cells : List Value) → length (with_column rows cells) ≡ length rows
length-with_column [] cells = refl
length-with_column (r ∷ rows) [] = refl
length-with_column (r ∷ rows) (v ∷ cells) = ap suc (length-with_column rows cells)

-- ---- what is made of each column

module _ {X : Type 0} (make : Column → List Value → List X) where
  abbrev pub over : ℕ → List Column → List (List Value) → List X
  over i [] rows = []
  over i (c ∷ cs) rows = make c (column_cells i rows) ++ over (i + 1) cs rows

  over-push : (i : ℕ) (cs : List Column) (c : Column) (rows : List (List Value)) → over i (cs ++ c ∷ []) rows ≡ over i cs rows ++ make c (column_cells (i + length cs) rows)
  over-push i [] c rows =
      let same : i ≡ i + 0 = omega arith in
      append-nil (make c (column_cells i rows)) ∙ ap (λ (n : ℕ). make c (column_cells n rows)) same
  over-push i (b ∷ cs) c rows =
      let k : i + 1 + length cs ≡ i + suc (length cs) = omega arith in
      ap (λ (t : List X). make b (column_cells i rows) ++ t) (over-push (i + 1) cs c rows ∙ ap (λ (n : ℕ). over (i + 1) cs rows ++ make c (column_cells n rows)) k)
      ∙ sym (append_assoc (make b (column_cells i rows)) (over (i + 1) cs rows) (make c (column_cells (i + suc (length cs)) rows)))

  over-before : (n i : ℕ) (cs : List Column) (rows : List (List Value)) (cells : List Value) → AreLong n rows → i + length cs ≤ n → over i cs (with_column rows cells) ≡ over i cs rows
  over-before n i [] rows cells all le = refl
  over-before n i (c ∷ cs) rows cells all le =
      let one : column_cells i (with_column rows cells) ≡ column_cells i rows = cells-before n i rows cells all (omega arith) in
      let rest : over (i + 1) cs (with_column rows cells) ≡ over (i + 1) cs rows = over-before n (i + 1) cs rows cells all (omega arith) in
      ap (λ (vs : List Value). make c vs ++ over (i + 1) cs (with_column rows cells)) one ∙ ap (λ (t : List X). make c (column_cells i rows) ++ t) rest

  -- one column more
  pub over-grown : (n : ℕ) (cs : List Column) (c : Column) (rows : List (List Value)) (cells : List Value) → length cs ≡ n → AreLong n rows → length rows ≡ length cells
      → over 0 (cs ++ c ∷ []) (with_column rows cells) ≡ over 0 cs rows ++ make c cells
  over-grown n cs c rows cells e all same =
      let place : 0 + length cs ≡ n = omega arith in
      let new : column_cells (0 + length cs) (with_column rows cells) ≡ cells = ap (λ (k : ℕ). column_cells k (with_column rows cells)) place ∙ cells-new n rows cells all same in
      over-push 0 cs c (with_column rows cells)
      ∙ ap (λ (t : List X). t ++ make c (column_cells (0 + length cs) (with_column rows cells))) (over-before n 0 cs rows cells all (omega arith))
      ∙ ap (λ (vs : List Value). over 0 cs rows ++ make c vs) new

abbrev make_page : Column → List Value → List ℕ
make_page c cells = sized (page_of c cells)

abbrev make_mark : Column → List Value → List ColumnMark
make_mark c cells = mark_of cells ∷ []

pages-over : (i : ℕ) (cs : List Column) (rows : List (List Value)) → pages i cs rows ≡ over make_page i cs rows
pages-over i [] rows = refl
pages-over i (c ∷ cs) rows = ap (λ (t : List ℕ). sized (page_of c (column_cells i rows)) ++ t) (pages-over (i + 1) cs rows)

marks-over : (i : ℕ) (cs : List Column) (rows : List (List Value)) → marks_of i cs rows ≡ over make_mark i cs rows
marks-over i [] rows = refl
marks-over i (c ∷ cs) rows = ap (λ (t : List ColumnMark). mark_of (column_cells i rows) ∷ t) (marks-over (i + 1) cs rows)

pub pages-grown : (n : ℕ) (cs : List Column) (c : Column) (rows : List (List Value)) (cells : List Value) → length cs ≡ n → AreLong n rows → length rows ≡ length cells
    → pages 0 (cs ++ c ∷ []) (with_column rows cells) ≡ pages 0 cs rows ++ sized (page_of c cells)
pages-grown n cs c rows cells e all same =
    pages-over 0 (cs ++ c ∷ []) (with_column rows cells) ∙ over-grown make_page n cs c rows cells e all same ∙ ap (λ (t : List ℕ). t ++ sized (page_of c cells)) (sym (pages-over 0 cs rows))

pub marks-grown : (n : ℕ) (cs : List Column) (c : Column) (rows : List (List Value)) (cells : List Value) → length cs ≡ n → AreLong n rows → length rows ≡ length cells
    → marks_of 0 (cs ++ c ∷ []) (with_column rows cells) ≡ marks_of 0 cs rows ++ mark_of cells ∷ []
marks-grown n cs c rows cells e all same =
    marks-over 0 (cs ++ c ∷ []) (with_column rows cells) ∙ over-grown make_mark n cs c rows cells e all same ∙ ap (λ (t : List ColumnMark). t ++ mark_of cells ∷ []) (sym (marks-over 0 cs rows))

-- ---- rows that fit

fits-push : (cs : List Column) (c : Column) (r : List Value) (v : Value) → fits_all cs r ≡ true → fits c v ≡ true → fits_all (cs ++ c ∷ []) (r ++ v ∷ []) ≡ true
fits-push [] c [] v h g = and_from (fits c v) true g refl
fits-push [] c (x ∷ r) v h g = cc
fits-push (b ∷ cs) c [] v h g = cc
fits-push (b ∷ cs) c (x ∷ r) v h g =
    let parts = and_parts (fits b x) (fits_all cs r) h in
    and_from (fits b x) (fits_all (cs ++ c ∷ []) (r ++ v ∷ [])) parts.0 (fits-push cs c r v parts.1 g)

pub fits-grown : (cs : List Column) (c : Column) (rows : List (List Value)) (cells : List Value) → All (λ row. IsTrue (fits_all cs row)) rows → All (λ v. IsTrue (fits c v)) cells → length rows ≡ length cells
    → All (λ row. IsTrue (fits_all (cs ++ c ∷ []) row)) (with_column rows cells)
fits-grown cs c [] cells all fit e = All-nil (λ row. IsTrue (fits_all (cs ++ c ∷ []) row))
fits-grown cs c (r ∷ rows) [] all fit e = absurd (omega arith)
fits-grown cs c (r ∷ rows) (v ∷ cells) all fit e =
    All-cons (λ row. IsTrue (fits_all (cs ++ c ∷ []) row)) (r ++ v ∷ []) (with_column rows cells)
    (fits-push cs c r v (All-head (λ row. IsTrue (fits_all cs row)) r rows all) (All-head (λ x. IsTrue (fits c x)) v cells fit))
    (fits-grown cs c rows cells (All-tail (λ row. IsTrue (fits_all cs row)) r rows all) (All-tail (λ x. IsTrue (fits c x)) v cells fit) (omega arith))

-- ---- the first cells of rows

pub firsts-none : (rows : List (List Value)) → replicate (length rows) [] ≡ map (take 0) rows
firsts-none [] = refl
firsts-none (r ∷ rows) = ap (λ (t : List (List Value)). [] ∷ t) (firsts-none rows)

pub firsts-more : (n k : ℕ) (rows : List (List Value)) → AreLong n rows → k < n → with_column (map (take k) rows) (column_cells k rows) ≡ map (take (k + 1)) rows
firsts-more n k [] all lt = refl
firsts-more n k (r ∷ rows) all lt =
    let head : length r ≡ n = All-head (λ row. length row ≡ n) r rows all in
    let one : take k r ++ get_or r k Null ∷ [] ≡ take (k + 1) r = sym (take_more r k Null (omega arith)) in
    let rest : with_column (map (take k) rows) (column_cells k rows) ≡ map (take (k + 1)) rows = firsts-more n k rows (All-tail (λ row. length row ≡ n) r rows all) lt in
    ap (λ (x : List Value). x ∷ with_column (map (take k) rows) (column_cells k rows)) one ∙ ap (λ (t : List (List Value)). take (k + 1) r ∷ t) rest
