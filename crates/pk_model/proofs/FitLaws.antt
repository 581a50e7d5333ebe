-- Cells that fit their columns, one after the other.
use Rattle.std.proofs.Common.{◌≡◌, ◌≢◌, refl, ap, sym, ◌∙◌, ℕ, zero, suc, ◌+◌, ◌<◌, ◌≤◌, List, [], ◌∷◌, length, drop, get_or, arith, add-one, Bool as Truth, true, false, ◌&&◌}
use Rattle.pk_values.specs.Fits.{fits, fits_all}
use Rattle.pk_values.specs.SchemaFacts.{length-fits_all}
use Rattle.pk_values.specs.declared.cells.Value.{Value}
use Rattle.pk_values.specs.declared.cells.Column.{Column}

pub fits-step : (cs : List Column) (vs : List Value) (i : ℕ) (c d : Column) (v w : Value) → length vs ≡ length cs → i < length cs → c ≡ get_or cs i d → v ≡ get_or vs i w
    → fits_all (drop i cs) (drop i vs) ≡ (fits c v && fits_all (drop (i + 1) cs) (drop (i + 1) vs))
fits-step cs vs i c d v w l lt p q = rw (add-one) (by cs vs i l lt p q)
  where
    by : (cs : List Column) (vs : List Value) (i : ℕ) → length vs ≡ length cs → i < length cs → c ≡ get_or cs i d → v ≡ get_or vs i w
        → fits_all (drop i cs) (drop i vs) ≡ (fits c v && fits_all (drop (suc i) cs) (drop (suc i) vs))
    by [] vs i l lt p q = absurd (omega arith)
    by (x ∷ cs) [] i l lt p q = absurd (omega arith)
    by (x ∷ cs) (y ∷ vs) zero l lt p q = λ j. fits (sym p j) (sym q j) && fits_all cs vs
    by (x ∷ cs) (y ∷ vs) (suc i) l lt p q = by cs vs i (omega arith) (omega arith) p q

pub fits-end : (cs : List Column) (vs : List Value) (n : ℕ) → length vs ≡ length cs → length cs ≤ n → fits_all (drop n cs) (drop n vs) ≡ true
fits-end [] [] zero l e = refl
fits-end [] [] (suc n) l e = refl
fits-end [] (v ∷ vs) n l e = absurd (omega arith)
fits-end (c ∷ cs) [] n l e = absurd (omega arith)
fits-end (c ∷ cs) (v ∷ vs) zero l e = absurd (omega arith)
fits-end (c ∷ cs) (v ∷ vs) (suc n) l e = fits-end cs vs n (omega arith) (omega arith)

pub fits-width : (cs : List Column) (vs : List Value) → length vs ≢ length cs → fits_all cs vs ≡ false
fits-width cs vs n = by (fits_all cs vs) refl
  where
    by : (t : Truth) → fits_all cs vs ≡ t → fits_all cs vs ≡ false
    by true e = absurd (n (length-fits_all cs vs e))
    by false e = e
