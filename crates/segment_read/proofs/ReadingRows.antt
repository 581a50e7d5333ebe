-- The rows of a block, one column after the other, are the only ones.
use Rattle.std.proofs.Common.{◌≡◌, ℕ, zero, suc, ◌+◌, ◌<◌, ◌≤◌, ◌^◌, List, [], ◌∷◌, ◌++◌, All, IsTrue, true, length, get_or, map, take, drop, replicate, refl, sym, subst, ap, ◌∙◌, append_assoc, arith, length-drop}
use Rattle.std.proofs.lemmas.Bool.{and_parts}
use Rattle.std.proofs.lemmas.List.{drop-drop, drop_all, drop_more, length-map, length-take-le, take_all, take_more}
use Rattle.std.proofs.lemmas.List.Elements.{All-head, All-map, All-tail}
use Rattle.pk_values.specs.Fits.{fits, fits_all}
use Rattle.pk_values.specs.declared.cells.Value.{Value}
use Rattle.pk_values.specs.declared.cells.Value.TheVariants.{Null}
use Rattle.pk_values.specs.declared.cells.Column.{Column}
use Rattle.column_page.specs.Footers.{mark_of}
use Rattle.column_page.specs.Page.{page_of}
use Rattle.column_page.specs.Reading.{AreCells}
use Rattle.column_page.specs.declared.footers.ColumnMark.{ColumnMark}
use Rattle.segment_form.specs.Segments.{column_cells, marks_of, pages, sized}
use Rattle.segment_read.specs.Columns.{with_column, AreRowsOf, HaveColumns}
use Rattle.segment_read.proofs.Sized.{sized_within}
use Rattle.segment_read.proofs.ColumnFacts.{firsts-more, firsts-none, fits-grown, length-with_column, long_fits, marks-grown, pages-grown, AreLong}

fits_at : (cs : List Column) (r : List Value) (k : ℕ) (d : Column) → fits_all cs r ≡ true → k < length cs → fits (get_or cs k d) (get_or r k Null) ≡ true
fits_at [] r k d h lt = absurd (omega arith)
fits_at (c ∷ cs) [] k d h lt = cc
fits_at (c ∷ cs) (v ∷ r) zero d h lt = (and_parts (fits c v) (fits_all cs r) h).0
fits_at (c ∷ cs) (v ∷ r) (suc k) d h lt = fits_at cs r k d (and_parts (fits c v) (fits_all cs r) h).1 (omega arith)

-- nothing was read of any rows
pub columns_none : (columns : List Column) (count : ℕ) (marks : List ColumnMark) (body : List ℕ) (rows : List (List Value)) → AreRowsOf columns count marks body rows → HaveColumns columns marks body (replicate count []) 0 0 rows
columns_none columns count marks body rows are = record {
  front = ap (λ (n : ℕ). replicate n []) (sym are.number) ∙ firsts-none rows;
  back = sym are.written;
  marked = sym are.marked;
}

this_column : (columns : List Column) (k : ℕ) (c : Column) → k < length columns → c ≡ get_or columns k c → drop k columns ≡ c ∷ drop (k + 1) columns
this_column columns k c lt this = drop_more columns k c lt ∙ ap (λ (x : Column). x ∷ drop (k + 1) columns) (sym this)

-- what is known of the next column of any rows
pub record NextColumn (c : Column) (count : ℕ) (mark : ColumnMark) (piece : List ℕ) (cells : List Value) (rest : List ℕ) : Type 0 where
  pub are : AreCells c count cells
  pub short : length (page_of c cells) < 2 ^ 32
  pub stands : sized (page_of c cells) ++ rest ≡ piece
  pub marked : mark_of cells ≡ mark

abbrev pub after_columns : ℕ → List Column → List (List Value) → List ℕ
after_columns k columns rows = pages (k + 1) (drop (k + 1) columns) rows

pub next_column : (columns : List Column) (count : ℕ) (marks : List ColumnMark) (body piece : List ℕ) (read : List (List Value)) (k at : ℕ) (rows : List (List Value)) (c : Column) (m : ColumnMark)
    → AreRowsOf columns count marks body rows → HaveColumns columns marks body read k at rows → length body < 2 ^ 32 → length marks ≡ length columns → k < length columns → piece ≡ drop at body → c ≡ get_or columns k c
    → NextColumn c count (get_or marks k m) piece (column_cells k rows) (after_columns k columns rows)
next_column columns count marks body piece read k at rows c m are have short same lt is this =
    let split : drop k columns ≡ c ∷ drop (k + 1) columns = this_column columns k c lt this in
    let stands : sized (page_of c (column_cells k rows)) ++ after_columns k columns rows ≡ piece = ap (λ (cs : List Column). pages k cs rows) (sym split) ∙ sym have.back ∙ sym is in
    let left : drop k marks ≡ get_or marks k m ∷ drop (k + 1) marks = drop_more marks k m (omega arith) in
    let told : drop k marks ≡ mark_of (column_cells k rows) ∷ marks_of (k + 1) (drop (k + 1) columns) rows = have.marked ∙ ap (λ (cs : List Column). marks_of k cs rows) split in
    let within = sized_within (page_of c (column_cells k rows)) (after_columns k columns rows) piece stands in
    record {
      are = record {
        fit = All-map (λ v. IsTrue (fits c v)) (λ (row : List Value). get_or row k Null) rows
            (λ j e l. subst (λ (x : Column). fits x (get_or (get_or rows j e) k Null) ≡ true) (sym this) (fits_at columns (get_or rows j e) k c (are.fit j e l) lt));
        number = length-map rows (λ (row : List Value). get_or row k Null) ∙ are.number;
        some = are.some;
        few = are.few;
      };
      short = omega (arith, ap length is, length-drop at body);
      stands = stands;
      marked = cc;
    }

-- the next column was read of any rows
pub more_columns : (columns : List Column) (count : ℕ) (marks : List ColumnMark) (body piece : List ℕ) (read longer : List (List Value)) (cells : List Value) (k at len : ℕ) (rows : List (List Value)) (c : Column) (m : ColumnMark)
    → AreRowsOf columns count marks body rows → HaveColumns columns marks body read k at rows → length marks ≡ length columns → k < length columns → piece ≡ drop at body
    → cells ≡ column_cells k rows → drop len piece ≡ after_columns k columns rows → longer ≡ with_column read cells → c ≡ get_or columns k c
    → HaveColumns columns marks body longer (k + 1) (at + len) rows
more_columns columns count marks body piece read longer cells k at len rows c m are have same lt is found after grown this =
    let split : drop k columns ≡ c ∷ drop (k + 1) columns = this_column columns k c lt this in
    let left : drop k marks ≡ get_or marks k m ∷ drop (k + 1) marks = drop_more marks k m (omega arith) in
    let told : drop k marks ≡ mark_of (column_cells k rows) ∷ marks_of (k + 1) (drop (k + 1) columns) rows = have.marked ∙ ap (λ (cs : List Column). marks_of k cs rows) split in
    record {
      front = grown ∙ ap (λ (rs : List (List Value)). with_column rs cells) have.front ∙ ap (with_column (map (take k) rows)) found ∙ firsts-more (length columns) k rows (long_fits columns rows are.fit) lt;
      back = sym (drop-drop len at body) ∙ ap (drop len) (sym is) ∙ after;
      marked = cc;
    }

-- what was read with one column more
pub record OneMore (columns : List Column) (count : ℕ) (marks : List ColumnMark) (body : List ℕ) (longer : List (List Value)) (k at : ℕ) : Type 0 where
  pub fit : All (λ row. IsTrue (fits_all (take k columns) row)) longer
  pub number : length longer ≡ count
  pub written : pages 0 (take k columns) longer ++ drop at body ≡ body
  pub marked : marks_of 0 (take k columns) longer ≡ take k marks

pub one_more : (columns : List Column) (count : ℕ) (marks : List ColumnMark) (body piece : List ℕ) (read longer : List (List Value)) (cells : List Value) (k at len : ℕ) (c : Column) (m : ColumnMark)
    → All (λ row. IsTrue (fits_all (take k columns) row)) read → length read ≡ count → pages 0 (take k columns) read ++ drop at body ≡ body → marks_of 0 (take k columns) read ≡ take k marks
    → length marks ≡ length columns → k < length columns → piece ≡ drop at body
    → AreCells c count cells → mark_of cells ≡ get_or marks k m → sized (page_of c cells) ++ drop len piece ≡ piece → longer ≡ with_column read cells → c ≡ get_or columns k c
    → OneMore columns count marks body longer (k + 1) (at + len)
one_more columns count marks body piece read longer cells k at len c m fit number written marked same lt is are mark front grown this =
    let front_columns : take (k + 1) columns ≡ take k columns ++ c ∷ [] = take_more columns k c lt ∙ ap (λ (x : Column). take k columns ++ x ∷ []) (sym this) in
    let wide : length (take k columns) ≡ k = length-take-le k columns (omega arith) in
    let long : AreLong k read = subst (λ (n : ℕ). AreLong n read) wide (long_fits (take k columns) read fit) in
    let even : length read ≡ length cells = number ∙ sym are.number in
    let s = sized (page_of c cells) in
    record {
      fit = subst (λ (rs : List (List Value)). All (λ row. IsTrue (fits_all (take (k + 1) columns) row)) rs) (sym grown)
          (subst (λ (cs : List Column). All (λ row. IsTrue (fits_all cs row)) (with_column read cells)) (sym front_columns) (fits-grown (take k columns) c read cells fit are.fit even));
      number = ap length grown ∙ length-with_column read cells ∙ number;
      written =
          ap (λ (rs : List (List Value)). pages 0 (take (k + 1) columns) rs ++ drop (at + len) body) grown
          ∙ ap (λ (cs : List Column). pages 0 cs (with_column read cells) ++ drop (at + len) body) front_columns
          ∙ ap (λ (t : List ℕ). t ++ drop (at + len) body) (pages-grown k (take k columns) c read cells wide long even)
          ∙ append_assoc (pages 0 (take k columns) read) s (drop (at + len) body)
          ∙ ap (λ (t : List ℕ). pages 0 (take k columns) read ++ (s ++ t)) (sym (drop-drop len at body) ∙ ap (drop len) (sym is))
          ∙ ap (λ (t : List ℕ). pages 0 (take k columns) read ++ t) (front ∙ is)
          ∙ written;
      marked =
          ap (marks_of 0 (take (k + 1) columns)) grown
          ∙ ap (λ (cs : List Column). marks_of 0 cs (with_column read cells)) front_columns
          ∙ marks-grown k (take k columns) c read cells wide long even
          ∙ ap (λ (t : List ColumnMark). t ++ mark_of cells ∷ []) marked
          ∙ ap (λ (x : ColumnMark). take k marks ++ x ∷ []) mark
          ∙ sym (take_more marks k m (omega arith));
    }

-- all cells of rows
firsts-all : (n k : ℕ) (rows : List (List Value)) → AreLong n rows → n ≤ k → map (take k) rows ≡ rows
firsts-all n k [] all le = refl
firsts-all n k (r ∷ rows) all le =
    let head : length r ≡ n = All-head (λ row. length row ≡ n) r rows all in
    let one : take k r ≡ r = take_all k r (omega arith) in
    ap (λ (x : List Value). x ∷ map (take k) rows) one ∙ ap (λ (t : List (List Value)). r ∷ t) (firsts-all n k rows (All-tail (λ row. length row ≡ n) r rows all) le)

pub all_columns : (columns : List Column) (count : ℕ) (marks : List ColumnMark) (body : List ℕ) (read : List (List Value)) (k at : ℕ) (rows : List (List Value))
    → AreRowsOf columns count marks body rows → HaveColumns columns marks body read k at rows → length columns ≤ k → (read ≡ rows) × (length body ≤ at)
all_columns columns count marks body read k at rows are have le =
    let none : drop at body ≡ [] = have.back ∙ ap (λ (cs : List Column). pages k cs rows) (drop_all k columns le) in (
      have.front ∙ firsts-all (length columns) k rows (long_fits columns rows are.fit) le,
      omega (arith, ap length none, length-drop at body),
    )
