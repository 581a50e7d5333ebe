-- How long a block can be.
use Rattle.std.proofs.Common.{◌≡◌, ℕ, ◌+◌, ◌*◌, ◌<◌, ◌≤◌, ◌^◌, List, [], ◌∷◌, length, get_or, refl, sym, ap, arith, Bool as Truth, true, false, IsTrue, None, Some}
use Rattle.std.specs.Prelude.{All}
use Rattle.std.specs.List.{slice_get}
use Rattle.std.proofs.lemmas.List.{length-append, length-map}
use Rattle.sha2.specs.Sha256.{sha256}
use Rattle.pk_values.specs.Schemas.{Layout, fits_row, is_kind, schema_fault}
use Rattle.pk_values.specs.SchemaFacts.{columns_within, keys_some, lawful_column}
use Rattle.pk_values.specs.declared.cells.Value.{Value}
use Rattle.pk_values.specs.declared.cells.Value.TheVariants.{Null}
use Rattle.pk_values.specs.declared.cells.Column.{Column}
use Rattle.column_page.specs.Page.{page_of, AllFit}
use Rattle.column_page.specs.Footers.{u32_bytes}
use Rattle.segment_form.specs.Segments.{block_body, block_file, column_cells, pages, sized}
use Rattle.segment_form.proofs.Fitting.{columns_fit, ColumnsFit, FitsColumn}
use Rattle.sha2.proofs.Facts256.{length-sha256}
use Rattle.column_page.proofs.Lengths.{length-u32}
use Rattle.segment_form.proofs.Sizes.{mark_size, page_long}

rows_times : (b : Truth) (n : ℕ) → n ≤ 1024 → n * (mark_size b + 65535) ≤ 1024 * mark_size b + 67107840
rows_times false n few = omega arith
rows_times true n few = omega arith

bit_small : (b : Truth) → mark_size b ≤ 1
bit_small false = omega arith
bit_small true = omega arith

-- a page has fewer than 2 ^ 32 bytes
pub page_small : (c : Column) (cells : List Value) → IsTrue (is_kind c.kind) → AllFit c cells → length cells ≤ 1024 → length (page_of c cells) < 2 ^ 32
page_small c cells i fit few =
    let long = page_long c cells i fit in
    let most = rows_times c.nullable (length cells) few in
    let bit = bit_small c.nullable in
    omega arith

sized_long : (c : Column) (cells : List Value) → FitsColumn c cells → length cells ≤ 1024 → length (sized (page_of c cells)) ≤ 67107845 + 1024 * mark_size c.nullable
sized_long c cells fit few =
    let page = page_of c cells in
    let long = page_long c cells fit.typed fit.fit in
    let most = rows_times c.nullable (length cells) few in
    omega (arith, length-append (u32_bytes (length page)) page, length-u32 (length page))

column_few : (i : ℕ) (rows : List (List Value)) → length rows ≤ 1024 → length (column_cells i rows) ≤ 1024
column_few i rows few =
    let e : length (column_cells i rows) ≡ length rows = length-map rows (λ (row : List Value). get_or row i Null) in
    omega arith

pages_long : (i : ℕ) (cs : List Column) (rows : List (List Value)) → ColumnsFit i cs rows → length rows ≤ 1024 → length (pages i cs rows) ≤ length cs * 67108869
pages_long i [] rows fit few = omega arith
pages_long i (c ∷ cs) rows fit few =
    let first = sized (page_of c (column_cells i rows)) in
    let here = sized_long c (column_cells i rows) fit.0 (column_few i rows few) in
    let bit = bit_small c.nullable in
    let rest = pages_long (i + 1) cs rows fit.1 few in
    omega (arith, length-append first (pages (i + 1) cs rows))

-- one column takes no NULL: else 64 columns could reach 2 ^ 32
key_first : (c : Column) (cs : List Column) (rows : List (List Value)) → c.nullable ≡ false → ColumnsFit 0 (c ∷ cs) rows → length rows ≤ 1024 → length (c ∷ cs) ≤ 64 → length (pages 0 (c ∷ cs) rows) < 2 ^ 32
key_first c cs rows key fit few columns =
    let first = sized (page_of c (column_cells 0 rows)) in
    let here = sized_long c (column_cells 0 rows) fit.0 (column_few 0 rows few) in
    let bit : mark_size c.nullable ≡ 0 = ap mark_size key in
    let rest = pages_long (0 + 1) cs rows fit.1 few in
    omega (arith, length-append first (pages (0 + 1) cs rows))

columns_long : (s : Layout) (cs : List Column) (rows : List (List Value)) → schema_fault s.columns s.keys ≡ None → cs ≡ s.columns → ColumnsFit 0 cs rows → length rows ≤ 1024 → length (pages 0 cs rows) < 2 ^ 32
columns_long s [] rows lawful e fit few = omega arith
columns_long s (c ∷ cs) rows lawful e fit few =
    let there : slice_get s.columns 0 ≡ Some c = ap (λ (xs : List Column). slice_get xs 0) (sym e) in
    let keys = keys_some s.columns s.keys lawful in
    let key = (lawful_column s 0 c lawful there).key (omega arith) in
    let most = columns_within s.columns s.keys lawful in
    let same : length (c ∷ cs) ≡ length s.columns = ap (λ (xs : List Column). length xs) e in
    key_first c cs rows key.0 fit few (omega arith)

-- the pages of a block have fewer than 2 ^ 32 bytes
pub body_long : (s : Layout) (rows : List (List Value)) → schema_fault s.columns s.keys ≡ None → All (λ row. IsTrue (fits_row s row)) rows → length rows ≤ 1024 → length (block_body s rows) < 2 ^ 32
body_long s rows lawful fit few = columns_long s s.columns rows lawful refl (columns_fit s rows lawful fit 0 s.columns refl) few

pub length-block_file : (s : Layout) (rows : List (List Value)) → length (block_file s rows) ≡ length (block_body s rows) + 32
length-block_file s rows = omega (arith, length-append (block_body s rows) (sha256 (block_body s rows)), length-sha256 (block_body s rows))
