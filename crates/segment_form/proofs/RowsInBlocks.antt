-- Where the rows of blocks stand.
use Rattle.std.proofs.Common.{◌≡◌, ℕ, zero, suc, ◌+◌, ◌*◌, ◌/◌, ◌%◌, List, [], ◌∷◌, ◌++◌, length, take, drop, refl, ap, ◌∙◌, arith, slice_get, Some, length-drop}
use Rattle.std.specs.List.{flat_map}
use Rattle.std.proofs.lemmas.List.{take-append-drop}
use Rattle.pk_values.specs.declared.cells.Value.{Value}
use Rattle.segment_form.specs.Segments.{blocks_for, blocks_from, blocks_of}

joined : (n : ℕ) (rows : List (List Value)) → blocks_for (length rows) ≡ n → flat_map (λ b. b) (blocks_from n rows) ≡ rows
joined zero [] e = refl
joined zero (r ∷ rows) e = absurd (omega arith)
joined (suc n) rows e =
    ap (λ (t : List (List Value)). take 1024 rows ++ t) (joined n (drop 1024 rows) (omega (arith, length-drop 1024 rows)))
    ∙ take-append-drop 1024 rows

-- the blocks of rows, one after the other, are the rows
pub all_joined : (rows : List (List Value)) → flat_map (λ b. b) (blocks_of rows) ≡ rows
all_joined rows = joined (blocks_for (length rows)) rows refl

length-blocks_from : (n : ℕ) (rows : List (List Value)) → length (blocks_from n rows) ≡ n
length-blocks_from zero rows = refl
length-blocks_from (suc n) rows = ap suc (length-blocks_from n (drop 1024 rows))

pub length-blocks_of : (rows : List (List Value)) → length (blocks_of rows) ≡ blocks_for (length rows)
length-blocks_of rows = length-blocks_from (blocks_for (length rows)) rows

in_front : {X : Type 0} (n i : ℕ) (xs : List X) (x : X) → slice_get (take n xs) i ≡ Some x → slice_get xs i ≡ Some x
in_front zero i xs x e = cc
in_front (suc n) i [] x e = e
in_front (suc n) zero (y ∷ xs) x e = e
in_front (suc n) (suc i) (y ∷ xs) x e = in_front n i xs x e

behind : {X : Type 0} (n i : ℕ) (xs : List X) (x : X) → slice_get (drop n xs) i ≡ Some x → slice_get xs (n + i) ≡ Some x
behind zero i xs x e = let same : 0 + i ≡ i = omega arith in ap (slice_get xs) same ∙ e
behind (suc n) i [] x e = cc
behind (suc n) i (y ∷ xs) x e = let same : suc n + i ≡ suc (n + i) = omega arith in ap (slice_get (y ∷ xs)) same ∙ behind n i xs x e

row_from : (n q r : ℕ) (rows block : List (List Value)) (row : List Value) → slice_get (blocks_from n rows) q ≡ Some block → slice_get block r ≡ Some row → slice_get rows (q * 1024 + r) ≡ Some row
row_from zero q r rows block row e f = cc
row_from (suc n) zero r rows block row e f =
    let here : slice_get (take 1024 rows) r ≡ Some row = cc in
    let same : 0 * 1024 + r ≡ r = omega arith in
    ap (slice_get rows) same ∙ in_front 1024 r rows row here
row_from (suc n) (suc q) r rows block row e f =
    let same : suc q * 1024 + r ≡ 1024 + (q * 1024 + r) = omega arith in
    ap (slice_get rows) same ∙ behind 1024 (q * 1024 + r) rows row (row_from n q r (drop 1024 rows) block row e f)

-- the row in a place of a block is that many places behind the blocks before it
pub row_of_block : (q r : ℕ) (rows block : List (List Value)) (row : List Value) → slice_get (blocks_of rows) q ≡ Some block → slice_get block r ≡ Some row → slice_get rows (q * 1024 + r) ≡ Some row
row_of_block q r rows block row e f = row_from (blocks_for (length rows)) q r rows block row e f

pub row_of : (i : ℕ) (rows block : List (List Value)) (row : List Value) → slice_get (blocks_of rows) (i / 1024) ≡ Some block → slice_get block (i % 1024) ≡ Some row → slice_get rows i ≡ Some row
row_of i rows block row e f = let same : i ≡ i / 1024 * 1024 + i % 1024 = omega arith in ap (slice_get rows) same ∙ row_of_block (i / 1024) (i % 1024) rows block row e f
