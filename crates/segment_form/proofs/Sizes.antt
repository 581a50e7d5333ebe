-- How long a page can be.
use Rattle.std.proofs.Common.{◌≡◌, ℕ, ◌+◌, ◌*◌, ◌≤◌, List, [], ◌∷◌, length, map, refl, ap, arith, Bool as Truth, true, false, IsTrue}
use Rattle.std.specs.Prelude.{All, nat_lt, nat_le, not, nat_eq}
use Rattle.std.specs.List.{concat}
use Rattle.std.specs.Cmp.Lexicographic.{pointwise}
use Rattle.std.proofs.Math.Nat.{suc-mul}
use Rattle.std.proofs.lemmas.Bool.{and_parts, cond_both, false≢true, leb-true, ltb-true}
use Rattle.std.proofs.lemmas.List.{length-append, length-map}
use Rattle.std.proofs.lemmas.List.Elements.{All-head, All-map, All-tail}
use Rattle.pk_values.specs.Fits.{fits, fits_kind, null_mark as null_text}
use Rattle.pk_values.specs.Schemas.{is_kind}
use Rattle.pk_values.specs.declared.cells.Kind.{Kind}
use Rattle.pk_values.specs.declared.cells.Kind.TheVariants.{Boolean, TinyInt, SmallInt, Int, BigInt, LargeInt, Date, Varchar}
use Rattle.pk_values.specs.declared.cells.Value.{Value}
use Rattle.pk_values.specs.declared.cells.Value.TheVariants.{Null, Bool, Num, Day, Text}
use Rattle.pk_values.specs.declared.cells.Column.{Column}
use Rattle.column_page.specs.CellBytes.{cell_bytes, flag_bytes, null_mark, text_bytes, u16_bytes, value_bytes}
use Rattle.column_page.specs.Page.{dictionary, page, page_of, plain, run_length, shorter, AllFit, Cell}
use Rattle.column_page.proofs.Lengths.{length-code, length-u16}
use Rattle.column_page.proofs.OneCell.{length-number, shape_of}

-- ---- a cell

flag_long : (v : Value) → length (flag_bytes v) ≤ 65535
flag_long Null = omega arith
flag_long (Bool false) = omega arith
flag_long (Bool true) = omega arith
flag_long (Num z) = omega arith
flag_long (Day z) = omega arith
flag_long (Text t) = omega arith

text_long : (n : ℕ) (t : List ℕ) → IsTrue (is_kind (Varchar n)) → IsTrue (fits_kind (Varchar n) (Text t)) → length (text_bytes (Text t)) ≤ 65535
text_long n t i f =
    let short : length t ≤ n = leb-true (length t) n (and_parts (nat_le (length t) n) (not (pointwise nat_eq t null_text)) f).0 in
    let most : n ≤ 65533 = leb-true n 65533 (and_parts (nat_le 1 n) (nat_le n 65533) i).1 in
    omega (arith, length-append (u16_bytes (length t)) t, length-u16 (length t))

day_long : (v : Value) → length (value_bytes Date v) ≤ 65535
day_long Null = omega arith
day_long (Bool b) = omega arith
day_long (Num z) = omega arith
day_long (Day z) = omega (arith, length-code 4 z)
day_long (Text t) = omega arith

value_long : (k : Kind) (v : Value) → IsTrue (is_kind k) → IsTrue (fits_kind k v) → length (value_bytes k v) ≤ 65535
value_long Boolean v i f = flag_long v
value_long TinyInt v i f = let e = length-number 1 v (shape_of TinyInt v i f) in omega (arith, e)
value_long SmallInt v i f = let e = length-number 2 v (shape_of SmallInt v i f) in omega (arith, e)
value_long Int v i f = let e = length-number 4 v (shape_of Int v i f) in omega (arith, e)
value_long BigInt v i f = let e = length-number 8 v (shape_of BigInt v i f) in omega (arith, e)
value_long LargeInt v i f = let e = length-number 16 v (shape_of LargeInt v i f) in omega (arith, e)
value_long Date v i f = day_long v
value_long (Varchar n) Null i f = absurd (false≢true f)
value_long (Varchar n) (Bool b) i f = absurd (false≢true f)
value_long (Varchar n) (Num z) i f = absurd (false≢true f)
value_long (Varchar n) (Day z) i f = absurd (false≢true f)
value_long (Varchar n) (Text t) i f = text_long n t i f

null_short : (k : Kind) → length (value_bytes k Null) ≡ 0
null_short Boolean = refl
null_short TinyInt = refl
null_short SmallInt = refl
null_short Int = refl
null_short BigInt = refl
null_short LargeInt = refl
null_short Date = refl
null_short (Varchar n) = refl

-- how many bytes the mark of NULL takes in a column
abbrev pub mark_size : Truth → ℕ
mark_size false = 0
mark_size true = 1

mark_long : (b : Truth) (v : Value) → length (null_mark b v) ≡ mark_size b
mark_long false v = refl
mark_long true Null = refl
mark_long true (Bool x) = refl
mark_long true (Num x) = refl
mark_long true (Day x) = refl
mark_long true (Text x) = refl

-- the most bytes of a cell
abbrev pub widest : Column → ℕ
widest c = mark_size c.nullable + 65535

joined_long : (c : Column) (v : Value) → length (value_bytes c.kind v) ≤ 65535 → length (cell_bytes c v) ≤ widest c
joined_long c v h = omega (arith, length-append (null_mark c.nullable v) (value_bytes c.kind v), mark_long c.nullable v)

pub cell_long : (c : Column) (v : Value) → IsTrue (is_kind c.kind) → IsTrue (fits c v) → length (cell_bytes c v) ≤ widest c
cell_long c Null i f = joined_long c Null (omega (arith, null_short c.kind))
cell_long c (Bool x) i f = joined_long c (Bool x) (value_long c.kind (Bool x) i f)
cell_long c (Num x) i f = joined_long c (Num x) (value_long c.kind (Num x) i f)
cell_long c (Day x) i f = joined_long c (Day x) (value_long c.kind (Day x) i f)
cell_long c (Text x) i f = joined_long c (Text x) (value_long c.kind (Text x) i f)

-- ---- a page

concat_long : (most : ℕ) (cells : List Cell) → All (λ cell. length cell ≤ most) cells → length (concat cells) ≤ length cells * most
concat_long most [] all = omega arith
concat_long most (x ∷ xs) all =
    let P : Cell → Type 0 = λ cell. length cell ≤ most in
    let rest = concat_long most xs (All-tail P x xs all) in
    let here : length x ≤ most = All-head P x xs all in
    let e = length-append x (concat xs) in
    omega (arith, suc-mul (length xs) most)

shorter_long : (a b : List ℕ) → length (shorter a b) ≤ length a
shorter_long a b = cond_both (nat_lt (length b) (length a)) b a (λ x. length x ≤ length a) (λ e. omega (arith, ltb-true (length b) (length a) e)) (λ e. omega arith)

page_short : (cells : List Cell) → length (page cells) ≤ 1 + length (concat cells)
page_short cells =
    let first = shorter_long (plain cells) (run_length cells) in
    let second = shorter_long (shorter (plain cells) (run_length cells)) (dictionary cells) in
    omega arith

pub page_long : (c : Column) (cells : List Value) → IsTrue (is_kind c.kind) → AllFit c cells → length (page_of c cells) ≤ 1 + length cells * widest c
page_long c cells i fit =
    let texts = map (cell_bytes c) cells in
    let all : All (λ cell. length cell ≤ widest c) texts = All-map (λ cell. length cell ≤ widest c) (cell_bytes c) cells (λ k d lt. cell_long c _ i (fit k d lt)) in
    let long = concat_long (widest c) texts all in
    let short = page_short texts in
    let number : length texts ≡ length cells = length-map cells (cell_bytes c) in
    let same : length texts * widest c ≡ length cells * widest c = ap (λ (n : ℕ). n * widest c) number in
    omega arith
