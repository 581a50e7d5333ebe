-- One file more of rows that are written into files.
use Rattle.std.proofs.Common.{◌≡◌, refl, ap, sym, subst, ◌∙◌, ℕ, suc, ◌+◌, ◌-◌, ◌/◌, ◌<◌, min, List, [], ◌∷◌, ◌++◌, length, take, drop, Option, Some, Bool as Truth, arith, append_assoc}
use Rattle.std.specs.Prelude.{All, IsTrue, is_some}
use Rattle.std.proofs.lemmas.List.{append-nil, drop_at, drop_min, length-drop, take_at, take_min}
use Rattle.std.proofs.lemmas.List.Elements.{All-drop, All-take}
use Rattle.pk_values.specs.Schemas.{Layout, fits_row}
use Rattle.pk_values.specs.declared.cells.Value.{Value}
use Rattle.column_page.specs.declared.footers.Footer.{Footer}
use Rattle.segment_form.specs.Segments.{AreSegmentRows, KeysRise, footer_of, segment_file}
use Rattle.core_publish.specs.Prepared.{AreSealedOf, EachTells, files_from, files_of}
use Rattle.core_publish.specs.Writing.{WritesOn}

abbrev Rows : Type 0
Rows = List (List Value)

abbrev File : Type 0
File = Option (List ℕ) × Footer

count_some : (n : ℕ) → 0 < n → (n + 65535) / 65536 ≡ suc ((n - 65536 + 65535) / 65536)
count_some n some = omega arith

files_some : (rows : Rows) → 0 < length rows → files_of rows ≡ take 65536 rows ∷ files_of (drop 65536 rows)
files_some rows some =
    ap (λ (n : ℕ). files_from n rows) (count_some (length rows) some)
    ∙ ap (λ (n : ℕ). take 65536 rows ∷ files_from ((n + 65535) / 65536) (drop 65536 rows)) (sym (length-drop 65536 rows))

files_none : (rows : Rows) → length rows ≡ 0 → files_of rows ≡ []
files_none rows none = ap (λ (n : ℕ). files_from ((n + 65535) / 65536) rows) none

chunk-first : (rest chunk later : Rows) → rest ≡ chunk ++ later → length chunk ≡ min 65536 (length rest) → take 65536 rest ≡ chunk
chunk-first rest chunk later e long =
    sym (take_min 65536 rest) ∙ ap (λ (n : ℕ). take n rest) (sym long) ∙ ap (λ (rows : Rows). take (length chunk) rows) e ∙ take_at chunk later (length chunk) refl

chunk-later : (rest chunk later : Rows) → rest ≡ chunk ++ later → length chunk ≡ min 65536 (length rest) → drop 65536 rest ≡ later
chunk-later rest chunk later e long =
    sym (drop_min 65536 rest) ∙ ap (λ (n : ℕ). drop n rest) (sym long) ∙ ap (λ (rows : Rows). drop (length chunk) rows) e ∙ drop_at chunk later (length chunk) refl

pub chunk-long : (rest chunk : Rows) (size : ℕ) → length chunk ≡ min size (length rest) → size ≡ 65536 → length chunk ≡ min 65536 (length rest)
chunk-long rest chunk size long e = long ∙ ap (λ (n : ℕ). min n (length rest)) e

-- a chunk is the first file
next_file : (rest chunk later : Rows) → rest ≡ chunk ++ later → length chunk ≡ min 65536 (length rest) → 0 < length rest → files_of rest ≡ chunk ∷ files_of later
next_file rest chunk later e long some =
    files_some rest some ∙ (λ i. chunk-first rest chunk later e long i ∷ files_of (chunk-later rest chunk later e long i))

keys-first : (s : Layout) (xs ys : Rows) → KeysRise s (xs ++ ys) → KeysRise s xs
keys-first s [] ys h = tt
keys-first s (a ∷ []) ys h = tt
keys-first s (a ∷ b ∷ xs) ys h = (h.0, keys-first s (b ∷ xs) ys h.1)

tail : (s : Layout) (x : List Value) (xs : Rows) → KeysRise s (x ∷ xs) → KeysRise s xs
tail s x [] h = tt
tail s x (y ∷ xs) h = h.1

keys-later : (s : Layout) (xs ys : Rows) → KeysRise s (xs ++ ys) → KeysRise s ys
keys-later s [] ys h = h
keys-later s (x ∷ xs) ys h = keys-later s xs ys (tail s x (xs ++ ys) h)

-- a chunk of fitting rows with rising keys makes a segment
pub chunk-rows : (s : Layout) (rest chunk later : Rows) → rest ≡ chunk ++ later → length chunk ≡ min 65536 (length rest) → 0 < length rest
    → All (λ row. IsTrue (fits_row s row)) rest → KeysRise s rest → AreSegmentRows s chunk
chunk-rows s rest chunk later e long some fit rise = record {
  fit = subst (All (λ row. IsTrue (fits_row s row))) (chunk-first rest chunk later e long) (All-take (λ row. IsTrue (fits_row s row)) 65536 rest fit);
  rise = keys-first s chunk later (subst (KeysRise s) e rise);
  some = omega (arith, long);
  few = omega (arith, long);
}

pub later-fit : (s : Layout) (rest chunk later : Rows) → rest ≡ chunk ++ later → length chunk ≡ min 65536 (length rest)
    → All (λ row. IsTrue (fits_row s row)) rest → All (λ row. IsTrue (fits_row s row)) later
later-fit s rest chunk later e long fit = subst (All (λ row. IsTrue (fits_row s row))) (chunk-later rest chunk later e long) (All-drop (λ row. IsTrue (fits_row s row)) 65536 rest fit)

pub later-rise : (s : Layout) (rest chunk later : Rows) → rest ≡ chunk ++ later → KeysRise s rest → KeysRise s later
later-rise s rest chunk later e rise = keys-later s chunk later (subst (KeysRise s) e rise)

-- ---- what is sealed

pub writes-none : (s : Layout) (rows : Rows) → WritesOn s rows rows []
writes-none s rows = record { done = []; split = refl; sealed = tt }

sealed-more : (s : Layout) (done : List Rows) (rows : Rows) (files : List File) (f : File) → AreSealedOf s done files → AreSealedOf s (rows ∷ []) (f ∷ []) → AreSealedOf s (done ++ rows ∷ []) (files ++ f ∷ [])
sealed-more s [] rows [] f h one = one
sealed-more s [] rows (g ∷ files) f h one = absurd h
sealed-more s (d ∷ done) rows [] f h one = absurd h
sealed-more s (d ∷ done) rows (g ∷ files) f h one = (h.0, h.1, h.2, sealed-more s done rows files f h.3 one)

pub writes-more : (s : Layout) (rows rest chunk later : Rows) (files : List File) (f : File) → rest ≡ chunk ++ later → length chunk ≡ min 65536 (length rest) → 0 < length rest
    → WritesOn s rows rest files → AreSegmentRows s chunk → ((bytes : List ℕ) → f.0 ≡ Some bytes → bytes ≡ segment_file s chunk) → f.1 ≡ footer_of s chunk
    → WritesOn s rows later (files ++ f ∷ [])
writes-more s rows rest chunk later files f e long some h are bytes footer = record {
  done = h.done ++ chunk ∷ [];
  split = h.split ∙ ap (λ fs. h.done ++ fs) (next_file rest chunk later e long some) ∙ sym (append_assoc h.done (chunk ∷ []) (files_of later));
  sealed = sealed-more s h.done chunk files f h.sealed (are, bytes, footer, tt);
}

pub writes-all : (s : Layout) (rows rest : Rows) (files : List File) → length rest ≡ 0 → WritesOn s rows rest files → AreSealedOf s (files_of rows) files
writes-all s rows rest files none h =
    subst (λ fs. AreSealedOf s fs files) (sym (h.split ∙ ap (λ fs. h.done ++ fs) (files_none rest none) ∙ append-nil h.done)) h.sealed

pub tells-more : (t : Truth) (files : List File) (f : File) → EachTells t files → is_some f.0 ≡ t → EachTells t (files ++ f ∷ [])
tells-more t [] f h one = (one, tt)
tells-more t (g ∷ files) f h one = (h.0, tells-more t files f h.1 one)
