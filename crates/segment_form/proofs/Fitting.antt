-- The cells of a column of fitting rows fit the column.
use Rattle.std.proofs.Common.{◌≡◌, ℕ, zero, suc, ◌+◌, ◌<◌, List, [], ◌∷◌, length, get_or, drop, ap, ◌∙◌, subst, arith, true, IsTrue, None}
use Rattle.std.specs.Prelude.{All, ⊤}
use Rattle.std.proofs.lemmas.Bool.{and_parts}
use Rattle.std.proofs.lemmas.List.{drop_more, length-drop}
use Rattle.std.proofs.lemmas.List.Elements.{All-map}
use Rattle.std.proofs.lemmas.Option.{slice_get-get_or}
use Rattle.pk_values.specs.Fits.{fits, fits_all}
use Rattle.pk_values.specs.Schemas.{Layout, fits_row, is_kind, schema_fault}
use Rattle.pk_values.specs.SchemaFacts.{lawful_column, length-fits_all}
use Rattle.pk_values.specs.declared.cells.Value.{Value}
use Rattle.pk_values.specs.declared.cells.Value.TheVariants.{Null}
use Rattle.pk_values.specs.declared.cells.Column.{Column}
use Rattle.column_page.specs.Page.{AllFit}
use Rattle.segment_form.specs.Segments.{column_cells}

-- a cell of a row that fits
pub fits_at : (cs : List Column) (vs : List Value) (i : ℕ) (d : Column) → fits_all cs vs ≡ true → i < length cs → fits (get_or cs i d) (get_or vs i Null) ≡ true
fits_at [] vs i d h lt = absurd (omega arith)
fits_at (c ∷ cs) [] i d h lt = cc
fits_at (c ∷ cs) (v ∷ vs) zero d h lt = (and_parts (fits c v) (fits_all cs vs) h).0
fits_at (c ∷ cs) (v ∷ vs) (suc i) d h lt = fits_at cs vs i d (and_parts (fits c v) (fits_all cs vs) h).1 (omega arith)

-- the cells of a column
pub column_fits : (s : Layout) (rows : List (List Value)) → All (λ row. IsTrue (fits_row s row)) rows → (i : ℕ) (d : Column) → i < length s.columns → AllFit (get_or s.columns i d) (column_cells i rows)
column_fits s rows fit i d lt =
    All-map (λ v. IsTrue (fits (get_or s.columns i d) v)) (λ (row : List Value). get_or row i Null) rows (λ k e klt. fits_at s.columns (get_or rows k e) i d (fit k e klt) lt)

pub typed_at : (s : Layout) → schema_fault s.columns s.keys ≡ None → (i : ℕ) (d : Column) → i < length s.columns → IsTrue (is_kind (get_or s.columns i d).kind)
typed_at s lawful i d lt = (lawful_column s i (get_or s.columns i d) lawful (slice_get-get_or s.columns i d lt)).typed

-- a row of those that fit has a cell in each column
pub have_column : (s : Layout) (column : ℕ) (rows : List (List Value)) → All (λ row. IsTrue (fits_row s row)) rows → column < length s.columns → All (λ row. column < length row) rows
have_column s column rows fit there i d lt =
    let long = length-fits_all s.columns (get_or rows i d) (fit i d lt) in
    omega arith

-- cells of a column that a table may have
pub record FitsColumn (c : Column) (cells : List Value) : Type 0 where
  pub typed : IsTrue (is_kind c.kind)
  pub fit : AllFit c cells

-- the cells of columns, of which the first stands in place i
abbrev pub ColumnsFit : ℕ → List Column → List (List Value) → Type 0
ColumnsFit i [] rows = ⊤
ColumnsFit i (c ∷ cs) rows = FitsColumn c (column_cells i rows) × ColumnsFit (i + 1) cs rows

there_is : (i : ℕ) (c : Column) (cs columns : List Column) → c ∷ cs ≡ drop i columns → i < length columns
there_is i c cs columns e =
    let l : length (c ∷ cs) ≡ length (drop i columns) = ap (λ (xs : List Column). length xs) e in
    omega (arith, length-drop i columns)

pub columns_fit : (s : Layout) (rows : List (List Value)) → schema_fault s.columns s.keys ≡ None → All (λ row. IsTrue (fits_row s row)) rows → (i : ℕ) (cs : List Column) → cs ≡ drop i s.columns → ColumnsFit i cs rows
columns_fit s rows lawful fit i [] e = tt
columns_fit s rows lawful fit i (c ∷ cs) e =
    let lt = there_is i c cs s.columns e in
    let split : c ∷ cs ≡ get_or s.columns i c ∷ drop (i + 1) s.columns = e ∙ drop_more s.columns i c lt in
    let here : get_or s.columns i c ≡ c = cc in
    let rest : cs ≡ drop (i + 1) s.columns = cc in (
      record {
        typed = subst (λ (k : Column). IsTrue (is_kind k.kind)) here (typed_at s lawful i c lt);
        fit = subst (λ (k : Column). AllFit k (column_cells i rows)) here (column_fits s rows fit i c lt);
      },
      columns_fit s rows lawful fit (i + 1) cs rest,
    )
