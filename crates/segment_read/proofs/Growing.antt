-- Rows that grow by a column, one row after the other.
use Rattle.std.proofs.Common.{◌≡◌, ℕ, zero, suc, ◌+◌, ◌<◌, ◌≤◌, List, [], ◌∷◌, ◌++◌, length, get_or, set, take, drop, refl, sym, ap, ◌∙◌, add-one, arith}
use Rattle.std.proofs.lemmas.List.{append-nil, length-drop, drop_all, drop_more, take_all}
use Rattle.pk_values.specs.declared.cells.Value.{Value}
use Rattle.segment_read.specs.Columns.{with_column}

-- the first i rows are longer by a cell, and the others as they were
abbrev pub grown : ℕ → List (List Value) → List Value → List (List Value)
grown i rows cells = with_column (take i rows) (take i cells) ++ drop i rows

grown-more : (i : ℕ) (rows : List (List Value)) (cells : List Value) (d : List Value) (e : Value) → i < length rows → i < length cells
    → set (grown i rows cells) i (get_or (grown i rows cells) i d ++ get_or cells i e ∷ []) ≡ grown (suc i) rows cells
grown-more i [] cells d e lt lt' = absurd (omega arith)
grown-more i (r ∷ rows) [] d e lt lt' = absurd (omega arith)
grown-more zero (r ∷ rows) (v ∷ cells) d e lt lt' = refl
grown-more (suc i) (r ∷ rows) (v ∷ cells) d e lt lt' =
    ap (λ (rs : List (List Value)). (r ++ v ∷ []) ∷ rs) (grown-more i rows cells d e (omega arith) (omega arith))

-- all rows are longer
pub grown-all : (i : ℕ) (rows : List (List Value)) (cells : List Value) → length rows ≤ i → length rows ≡ length cells → grown i rows cells ≡ with_column rows cells
grown-all i rows cells le same =
    let le' : length cells ≤ i = omega arith in
    ap (λ (t : List (List Value)). with_column (take i rows) (take i cells) ++ t) (drop_all i rows le)
    ∙ append-nil (with_column (take i rows) (take i cells))
    ∙ ap (λ (rs : List (List Value)). with_column rs (take i cells)) (take_all i rows le)
    ∙ ap (with_column rows) (take_all i cells le')

pub record Step (i : ℕ) (rows : List (List Value)) (cells : List Value) (next : List (List Value)) (after : List Value) : Type 0 where
  pub done : next ≡ grown (i + 1) rows cells
  pub left : after ≡ drop (i + 1) cells

-- one row more
pub grown-step : (i : ℕ) (rows items next : List (List Value)) (cells before after d row : List Value) (cell : Value)
    → items ≡ grown i rows cells → before ≡ drop i cells → before ≡ cell ∷ after → row ≡ get_or items i d ++ cell ∷ [] → next ≡ set items i row
    → i < length rows → length rows ≡ length cells → Step i rows cells next after
grown-step i rows items next cells before after d row cell done left taken longer written lt same =
    let lt' : i < length cells = omega arith in
    let more : cell ∷ after ≡ get_or cells i cell ∷ drop (i + 1) cells = sym taken ∙ left ∙ drop_more cells i cell lt' in
    let is : cell ≡ get_or cells i cell = cc in
    let this : row ≡ get_or (grown i rows cells) i d ++ get_or cells i cell ∷ [] =
    longer ∙ ap (λ (rs : List (List Value)). get_or rs i d ++ cell ∷ []) done
    ∙ ap (λ (v : Value). get_or (grown i rows cells) i d ++ v ∷ []) is in
    record {
      done = written ∙ ap (λ (rs : List (List Value)). set rs i row) done ∙ ap (set (grown i rows cells) i) this ∙ grown-more i rows cells d cell lt lt' ∙ ap (λ (k : ℕ). grown k rows cells) (sym (add-one i));
      left = cc;
    }

-- cells are left for the rows that are left
pub cells-left : (i : ℕ) (rows : List (List Value)) (cells before : List Value) → before ≡ drop i cells → i < length rows → length rows ≡ length cells → 0 < length before
cells-left i rows cells before left lt same = omega (arith, ap length left, length-drop i cells)
