-- The live rows of a piece, block by block.
use Rattle.std.proofs.Common.{◌≡◌, refl, ap, sym, ◌∙◌, ℕ, zero, suc, ◌+◌, ◌*◌, ◌-◌, ◌<◌, ◌≤◌, List, [], ◌∷◌, ◌++◌, length, take, drop, slice_get, Some, None, Bool, true, false, ◌==◌, cond, nat_lt, arith}
use Rattle.std.specs.List.{list_any}
use Rattle.std.proofs.lemmas.Bool.{ltb-true, ltb-false, eqb-true, eqb-false}
use Rattle.pk_values.specs.declared.cells.Value.{Value}
use Rattle.segment_form.specs.Segments.{blocks_of, blocks_from, blocks_for}
use Rattle.rowsets.specs.Scans.{Piece, alive, live_rows}
use Rattle.snapshot_scan.specs.Parts.{block_at, live_in, live_from}

abbrev Row : Type 0
Row = List Value

none_some : {X : Type 0} (x : X) → None ≡ Some x → ⊥
none_some x e = cc

some_one : {X : Type 0} (x y : X) → Some x ≡ Some y → x ≡ y
some_one x y e = cc

pub alive_append : (dead : List ℕ) (i : ℕ) (xs ys : List Row) → alive dead i (xs ++ ys) ≡ alive dead i xs ++ alive dead (i + length xs) ys
alive_append dead i [] ys = let at : i ≡ i + 0 = omega arith in ap (λ n. alive dead n ys) at
alive_append dead i (x ∷ xs) ys = go (list_any (λ r. r == i) dead) (alive_append dead (i + 1) xs ys ∙ ap (λ n. alive dead (i + 1) xs ++ alive dead n ys) at)
  where
    at : i + 1 + length xs ≡ i + suc (length xs)
    at = omega arith

    go : (b : Bool) → alive dead (i + 1) (xs ++ ys) ≡ alive dead (i + 1) xs ++ alive dead (i + suc (length xs)) ys
        → cond b (alive dead (i + 1) (xs ++ ys)) (x ∷ alive dead (i + 1) (xs ++ ys)) ≡ cond b (alive dead (i + 1) xs) (x ∷ alive dead (i + 1) xs) ++ alive dead (i + suc (length xs)) ys
    go true e = e
    go false e = ap (λ zs. x ∷ zs) e

-- rows that are all dead
pub alive_skip : (dead : List ℕ) (i n : ℕ) (xs : List Row) → ((r : ℕ) → i ≤ r → r < i + n → r < i + length xs → list_any (λ d. d == r) dead ≡ true) → alive dead i xs ≡ alive dead (i + n) (drop n xs)
alive_skip dead i zero xs all = let at : i ≡ i + 0 = omega arith in ap (λ k. alive dead k xs) at
alive_skip dead i (suc n) [] all = refl
alive_skip dead i (suc n) (x ∷ xs) all =
    let at : i + 1 + n ≡ i + suc n = omega arith in
    ap (λ b. cond b (alive dead (i + 1) xs) (x ∷ alive dead (i + 1) xs)) (all i (omega arith) (omega arith) (omega arith))
    ∙ alive_skip dead (i + 1) n xs (λ r le lt also. all r (omega arith) (omega arith) (omega arith))
    ∙ ap (λ k. alive dead k (drop n xs)) at

drop_all : (n : ℕ) (xs : List Row) → length xs ≤ n → drop n xs ≡ []
drop_all zero [] le = refl
drop_all zero (x ∷ xs) le = absurd (omega arith)
drop_all (suc n) [] le = refl
drop_all (suc n) (x ∷ xs) le = drop_all n xs (omega arith)

drop_more : (m n k : ℕ) (xs : List Row) → k ≡ m + n → drop n (drop m xs) ≡ drop k xs
drop_more zero n k xs e = let same : n ≡ k = omega arith in ap (λ i. drop i xs) same
drop_more (suc m) n zero xs e = absurd (omega arith)
drop_more (suc m) zero (suc k) [] e = refl
drop_more (suc m) (suc n) (suc k) [] e = refl
drop_more (suc m) n (suc k) (x ∷ xs) e = drop_more m n k xs (omega arith)

length_drop : (n : ℕ) (xs : List Row) → length (drop n xs) ≡ length xs - n
length_drop zero xs = omega arith
length_drop (suc n) [] = omega arith
length_drop (suc n) (x ∷ xs) = length_drop n xs ∙ omega arith

parted : (n : ℕ) (xs : List Row) → xs ≡ take n xs ++ drop n xs
parted zero xs = refl
parted (suc n) [] = refl
parted (suc n) (x ∷ xs) = ap (λ ys. x ∷ ys) (parted n xs)

-- a list that is cut short has nothing behind it, and another has as many in front as were asked for
cut_long : (n : ℕ) (xs : List Row) → n ≤ length xs → length (take n xs) ≡ n
cut_long zero xs le = refl
cut_long (suc n) [] le = absurd (omega arith)
cut_long (suc n) (x ∷ xs) le = ap suc (cut_long n xs (omega arith))

-- the live rows from a block on are its own and those from the next on
pub live_next : (b : ℕ) (piece : Piece) → live_from b piece ≡ live_in b piece ++ live_from (b + 1) piece
live_next b piece =
    ap (alive piece.dead (b * 1024)) (parted 1024 rest)
    ∙ alive_append piece.dead (b * 1024) (take 1024 rest) (drop 1024 rest)
    ∙ ap (λ ys. alive piece.dead (b * 1024) (take 1024 rest) ++ ys) behind
  where
    rest : List Row
    rest = drop (b * 1024) piece.rows

    next : drop 1024 (drop (b * 1024) piece.rows) ≡ drop ((b + 1) * 1024) piece.rows
    next = drop_more (b * 1024) 1024 ((b + 1) * 1024) piece.rows (omega arith)

    short : length rest < 1024 → alive piece.dead (b * 1024 + length (take 1024 rest)) (drop 1024 rest) ≡ alive piece.dead ((b + 1) * 1024) (drop 1024 rest)
    short lt = ap (alive piece.dead (b * 1024 + length (take 1024 rest))) (drop_all 1024 rest (omega arith)) ∙ sym (ap (alive piece.dead ((b + 1) * 1024)) (drop_all 1024 rest (omega arith)))

    long : 1024 ≤ length rest → alive piece.dead (b * 1024 + length (take 1024 rest)) (drop 1024 rest) ≡ alive piece.dead ((b + 1) * 1024) (drop 1024 rest)
    long le = let n = cut_long 1024 rest le in let at : b * 1024 + length (take 1024 rest) ≡ (b + 1) * 1024 = omega arith in ap (λ k. alive piece.dead k (drop 1024 rest)) at

    behind : alive piece.dead (b * 1024 + length (take 1024 rest)) (drop 1024 rest) ≡ alive piece.dead ((b + 1) * 1024) (drop ((b + 1) * 1024) piece.rows)
    behind = either (nat_lt (length rest) 1024) refl ∙ ap (alive piece.dead ((b + 1) * 1024)) next
      where
        either : (t : Bool) → nat_lt (length rest) 1024 ≡ t → alive piece.dead (b * 1024 + length (take 1024 rest)) (drop 1024 rest) ≡ alive piece.dead ((b + 1) * 1024) (drop 1024 rest)
        either true e = short (ltb-true (length rest) 1024 e)
        either false e = long (ltb-false (length rest) 1024 e)

-- blocks without a live row are passed over
pub live_later : (from b : ℕ) (piece : Piece) → from ≤ b → ((r : ℕ) → from * 1024 ≤ r → r < b * 1024 → list_any (λ d. d == r) piece.dead ≡ true) → live_from from piece ≡ live_from b piece
live_later from b piece le all =
    alive_skip piece.dead (from * 1024) (b * 1024 - from * 1024) (drop (from * 1024) piece.rows) (λ r low high more. all r low (omega arith))
    ∙ ap (λ k. alive piece.dead k (drop (b * 1024 - from * 1024) (drop (from * 1024) piece.rows))) to
    ∙ ap (alive piece.dead (b * 1024)) (drop_more (from * 1024) (b * 1024 - from * 1024) (b * 1024) piece.rows (sym to))
  where
    to : from * 1024 + (b * 1024 - from * 1024) ≡ b * 1024
    to = omega arith

-- where all that is left is dead, there is no live row
pub live_never : (from : ℕ) (piece : Piece) → ((r : ℕ) → from * 1024 ≤ r → r < length piece.rows → list_any (λ d. d == r) piece.dead ≡ true) → live_from from piece ≡ []
live_never from piece all =
    alive_skip piece.dead (from * 1024) (length rest) rest (λ r low high more. all r low (omega (arith, length_drop (from * 1024) piece.rows)))
    ∙ ap (alive piece.dead (from * 1024 + length rest)) (drop_all (length rest) rest (omega arith))
  where
    rest : List Row
    rest = drop (from * 1024) piece.rows

-- a row that isn't dead is one of its block's
pub live_some : (dead : List ℕ) (i : ℕ) (xs : List Row) (r : ℕ) → i ≤ r → r < i + length xs → list_any (λ d. d == r) dead ≡ false → alive dead i xs ≡ [] → ⊥
live_some dead i [] r le lt out e = omega arith
live_some dead i (x ∷ xs) r le lt out e = go (list_any (λ d. d == i) dead) refl e (live_some dead (i + 1) xs r)
  where
    go : (b : Bool) → list_any (λ d. d == i) dead ≡ b → cond b (alive dead (i + 1) xs) (x ∷ alive dead (i + 1) xs) ≡ []
        → (i + 1 ≤ r → r < i + 1 + length xs → list_any (λ d. d == r) dead ≡ false → alive dead (i + 1) xs ≡ [] → ⊥) → ⊥
    go true f g more = elim (i == r) as (λ t. (i == r) ≡ t → ⊥) [
      | true ↦ λ same. let here = eqb-true i r same in let clash : true ≡ false = sym f ∙ ap (λ k. list_any (λ d. d == k) dead) here ∙ out in cc
      | false ↦ λ other. let apart = eqb-false i r other in more (omega arith) (omega arith) out g
    ] refl
    go false f g more = cc

-- ---- blocks of rows

block_from : (n b : ℕ) (rows block : List Row) → slice_get (blocks_from n rows) b ≡ Some block → block ≡ take 1024 (drop (b * 1024) rows)
block_from zero b rows block is = absurd (none_some block is)
block_from (suc n) zero rows block is = sym (some_one (take 1024 rows) block is)
block_from (suc n) (suc b) rows block is =
    block_from n b (drop 1024 rows) block is ∙ ap (take 1024) (drop_more 1024 (b * 1024) (suc b * 1024) rows (omega arith))

pub block_is : (b : ℕ) (rows block : List Row) → slice_get (blocks_of rows) b ≡ Some block → block ≡ block_at b rows
block_is b rows block is = block_from (blocks_for (length rows)) b rows block is

pub all_live : (piece : Piece) → live_from 0 piece ≡ live_rows piece
all_live piece = refl
