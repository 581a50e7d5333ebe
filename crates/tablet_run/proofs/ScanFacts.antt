-- Rows of a scan, put behind a text one after the other.
use Rattle.std.proofs.Common.{◌≡◌, refl, ap, sym, subst, ◌∙◌, ℕ, zero, suc, ◌+◌, ◌≤◌, arith, List, [], ◌∷◌, ◌++◌, length, take, drop, Bool as Truth, true, false, All}
use Rattle.std.specs.Prelude.{flat_map}
use Rattle.std.proofs.lemmas.List.{append-nil, append_assoc, take_all}
use Rattle.std.proofs.lemmas.List.Elements.{All-cons, All-nil}
use Rattle.pk_values.specs.Fits.{fits_all}
use Rattle.pk_values.specs.Schemas.{Layout, fits_row}
use Rattle.pk_values.specs.declared.cells.Value.{Value}
use Rattle.pk_values.specs.declared.cells.Column.{Column}
use Rattle.cell_text.specs.Texts.{IsWritable}
use Rattle.script_text.specs.Texts.{IsWritableRow, row_text, rows_text}
use Rattle.std.specs.List.{AllByRecursion}
use Rattle.reports.proofs.TextLaws.{fit-texts}
use Rattle.tablet_run.specs.Scanning.{PutsNext}

all-of : (xs : List Value) → AllByRecursion IsWritable xs → All IsWritable xs
all-of [] h = All-nil IsWritable
all-of (x ∷ xs) h = All-cons IsWritable x xs h.0 (all-of xs h.1)

-- a row that fits has texts
pub fit-writable : (s : Layout) (row : List Value) → fits_row s row ≡ true → IsWritableRow row
fit-writable s row h = all-of row (fit-texts s.columns row h)

-- the text of rows, one more
text-more : (rows : List (List Value)) (row : List Value) → rows_text (rows ++ row ∷ []) ≡ rows_text rows ++ row_text row
text-more rows row = by rows
  where
    by : (rs : List (List Value)) → rows_text (rs ++ row ∷ []) ≡ rows_text rs ++ row_text row
    by [] = append-nil (row_text row)
    by (r ∷ rs) = ap (λ t. row_text r ++ t) (by rs) ∙ sym (append_assoc (row_text r) (rows_text rs) (row_text row))

take-more : (rows rest : List (List Value)) (row : List Value) (i : ℕ) → drop i rows ≡ row ∷ rest → (take (i + 1) rows ≡ take i rows ++ row ∷ []) × (drop (i + 1) rows ≡ rest)
take-more rows rest row i e = subst (λ n. (take n rows ≡ take i rows ++ row ∷ []) × (drop n rows ≡ rest)) plus (by rows i e)
  where
    plus : suc i ≡ i + 1
    plus = omega arith

    by : (rs : List (List Value)) (n : ℕ) → drop n rs ≡ row ∷ rest → (take (suc n) rs ≡ take n rs ++ row ∷ []) × (drop (suc n) rs ≡ rest)
    by [] zero e = cc e
    by [] (suc n) e = cc e
    by (r ∷ rs) zero e = let head : r ≡ row = cc e in let tail : rs ≡ rest = cc e in (ap (λ x. x ∷ []) head, tail)
    by (r ∷ rs) (suc n) e = let rest = by rs n e in (ap (λ xs. r ∷ xs) rest.0, rest.1)

-- So many of the rows to come were put, and the others are to come.
pub record HasPut (AreLeft : List (List Value) → Type 0) (rows : List (List Value)) (i : ℕ) (text : List ℕ) : Type 0 where
  pub left : AreLeft (drop i rows)
  pub text_is : text ≡ rows_text (take i rows)

pub put-more : (Old New : List (List Value) → Type 0) (rows : List (List Value)) (i : ℕ) (text new : List ℕ) → HasPut Old rows i text
    → ((left : List (List Value)) → Old left → PutsNext true left text new New) → HasPut New rows (i + 1) new
put-more Old New rows i text new h puts =
    let next = puts (drop i rows) h.left in
    let more = take-more rows next.1 next.0 i next.2 in
    record {
      left = subst New (sym more.1) next.4;
      text_is = next.3 ∙ ap (λ t. t ++ row_text next.0) h.text_is ∙ sym (ap rows_text more.0 ∙ text-more (take i rows) next.0);
    }

drop-none : (rows : List (List Value)) (i : ℕ) → drop i rows ≡ [] → take i rows ≡ rows
drop-none [] zero e = refl
drop-none [] (suc i) e = refl
drop-none (r ∷ rows) zero e = cc e
drop-none (r ∷ rows) (suc i) e = ap (λ rs. r ∷ rs) (drop-none rows i e)

pub put-none : (Old New : List (List Value) → Type 0) (rows : List (List Value)) (i : ℕ) (text new : List ℕ) → HasPut Old rows i text
    → ((left : List (List Value)) → Old left → PutsNext false left text new New) → new ≡ rows_text rows
put-none Old New rows i text new h puts =
    let next = puts (drop i rows) h.left in
    next.1 ∙ h.text_is ∙ ap rows_text (drop-none rows i next.0)

pub put-all : (Old : List (List Value) → Type 0) (rows : List (List Value)) (i : ℕ) (text : List ℕ) → HasPut Old rows i text → length rows ≤ i → text ≡ rows_text rows
put-all Old rows i text h le = h.text_is ∙ ap rows_text (take_all i rows le)
