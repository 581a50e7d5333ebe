-- No cell's bytes begin another's.
use Rattle.std.proofs.Common.{◌≡◌, ℕ, ◌+◌, ◌<◌, ◌≤◌, ◌^◌, List, [], ◌∷◌, ◌++◌, length, take, refl, sym, ap, ◌∙◌, inl, inr, arith, Bool as Truth, true, false, IsTrue}
use Rattle.std.specs.Prelude.{ℤ, pos, negsuc, int_le, ◌&&◌, not, nat_eq, nat_le, ◌⊎◌}
use Rattle.std.proofs.lemmas.Bool.{and_parts, false≢true, leb-true}
use Rattle.std.proofs.lemmas.List.{append_cancel_left, append_assoc, take_at}
use Rattle.byteorder.specs.Endian.{big_number}
use Rattle.byteorder.specs.Numbers.{big_number-reads_back}
use Rattle.fixed_code.specs.NumberCode.{FitsBytes, half, number_code}
use Rattle.fixed_code.proofs.Codes.{only_code}
use Rattle.std.specs.Cmp.Lexicographic.{pointwise}
use Rattle.pk_values.specs.Fits.{fits, fits_kind, in_range, null_mark as null_text}
use Rattle.pk_values.specs.Schemas.{is_kind}
use Rattle.pk_values.specs.declared.cells.Kind.{Kind}
use Rattle.pk_values.specs.declared.cells.Kind.TheVariants.{Boolean, TinyInt, SmallInt, Int, BigInt, LargeInt, Date, Varchar}
use Rattle.pk_values.specs.declared.cells.Value.{Value}
use Rattle.pk_values.specs.declared.cells.Value.TheVariants.{Null, Bool, Num, Day, Text}
use Rattle.pk_values.specs.declared.cells.Column.{Column}
use Rattle.column_page.specs.CellBytes.{cell_bytes, day_bytes, flag_bytes, null_mark, number_bytes, text_bytes, u16_bytes, value_bytes, HasShape, IsShort}
use Rattle.pk_values.specs.Shapes.{IsDay, IsFlag, IsNumber, IsText}
use Rattle.column_page.proofs.Lengths.{length-code}

pub length-number : (w : ℕ) (v : Value) → IsNumber (FitsBytes w) v → length (number_bytes w v) ≡ w
length-number w Null f = absurd f
length-number w (Bool b) f = absurd f
length-number w (Num z) f = length-code w z
length-number w (Day z) f = absurd f
length-number w (Text t) f = absurd f

-- texts of one length at the front of one list are the same
pub same_front : (a b r s : List ℕ) → length a ≡ length b → a ++ r ≡ b ++ s → a ≡ b
same_front a b r s e h = sym (take_at a r (length b) e) ∙ ap (take (length b)) h ∙ take_at b s (length b) refl

-- a number of two bytes is known by them
pub u16_one : (n m : ℕ) → n < 2 ^ 16 → m < 2 ^ 16 → (r s : List ℕ) → u16_bytes n ++ r ≡ u16_bytes m ++ s → n ≡ m
u16_one n m f g r s h = sym (big_number-reads_back 2 n r f) ∙ ap (big_number 2) h ∙ big_number-reads_back 2 m s g

pub code_one : (w : ℕ) (y z : ℤ) → 1 ≤ w → w ≤ 16 → FitsBytes w y → FitsBytes w z → (r s : List ℕ) → number_code w y ++ r ≡ number_code w z ++ s → y ≡ z
code_one w y z low high f g r s h =
    only_code w z low high g y f (same_front _ _ r s (length-code w y ∙ sym (length-code w z)) h)

flag_one : (v w : Value) → IsFlag v → IsFlag w → (r s : List ℕ) → flag_bytes v ++ r ≡ flag_bytes w ++ s → v ≡ w
flag_one Null w f g r s h = absurd f
flag_one (Num z) w f g r s h = absurd f
flag_one (Day z) w f g r s h = absurd f
flag_one (Text t) w f g r s h = absurd f
flag_one (Bool b) Null f g r s h = absurd g
flag_one (Bool b) (Num z) f g r s h = absurd g
flag_one (Bool b) (Day z) f g r s h = absurd g
flag_one (Bool b) (Text t) f g r s h = absurd g
flag_one (Bool false) (Bool false) f g r s h = refl
flag_one (Bool false) (Bool true) f g r s h = cc
flag_one (Bool true) (Bool false) f g r s h = cc
flag_one (Bool true) (Bool true) f g r s h = refl

number_one : (n : ℕ) → 1 ≤ n → n ≤ 16 → (v w : Value) → IsNumber (FitsBytes n) v → IsNumber (FitsBytes n) w → (r s : List ℕ) → number_bytes n v ++ r ≡ number_bytes n w ++ s → v ≡ w
number_one n low high Null w f g r s h = absurd f
number_one n low high (Bool b) w f g r s h = absurd f
number_one n low high (Day z) w f g r s h = absurd f
number_one n low high (Text t) w f g r s h = absurd f
number_one n low high (Num y) Null f g r s h = absurd g
number_one n low high (Num y) (Bool b) f g r s h = absurd g
number_one n low high (Num y) (Day z) f g r s h = absurd g
number_one n low high (Num y) (Text t) f g r s h = absurd g
number_one n low high (Num y) (Num z) f g r s h = ap Num (code_one n y z low high f g r s h)

day_one : (v w : Value) → IsDay (FitsBytes 4) v → IsDay (FitsBytes 4) w → (r s : List ℕ) → day_bytes v ++ r ≡ day_bytes w ++ s → v ≡ w
day_one Null w f g r s h = absurd f
day_one (Bool b) w f g r s h = absurd f
day_one (Num z) w f g r s h = absurd f
day_one (Text t) w f g r s h = absurd f
day_one (Day y) Null f g r s h = absurd g
day_one (Day y) (Bool b) f g r s h = absurd g
day_one (Day y) (Num z) f g r s h = absurd g
day_one (Day y) (Text t) f g r s h = absurd g
day_one (Day y) (Day z) f g r s h = ap Day (code_one 4 y z (omega arith) (omega arith) f g r s h)

text_one : (v w : Value) → IsText IsShort v → IsText IsShort w → (r s : List ℕ) → text_bytes v ++ r ≡ text_bytes w ++ s → v ≡ w
text_one Null w f g r s h = absurd f
text_one (Bool b) w f g r s h = absurd f
text_one (Num z) w f g r s h = absurd f
text_one (Day z) w f g r s h = absurd f
text_one (Text t) Null f g r s h = absurd g
text_one (Text t) (Bool b) f g r s h = absurd g
text_one (Text t) (Num z) f g r s h = absurd g
text_one (Text t) (Day z) f g r s h = absurd g
text_one (Text t) (Text u) f g r s h =
    let k : u16_bytes (length t) ++ (t ++ r) ≡ u16_bytes (length u) ++ (u ++ s) = sym (append_assoc (u16_bytes (length t)) t r) ∙ h ∙ append_assoc (u16_bytes (length u)) u s in
    let len : length t ≡ length u = u16_one (length t) (length u) f g (t ++ r) (u ++ s) k in
    let k' : u16_bytes (length t) ++ (t ++ r) ≡ u16_bytes (length t) ++ (u ++ s) = k ∙ ap (λ (n : ℕ). u16_bytes n ++ (u ++ s)) (sym len) in
    ap Text (same_front t u r s len (append_cancel_left (u16_bytes (length t)) (t ++ r) (u ++ s) k'))

-- two values of a type with one front are the same
pub value_one : (k : Kind) (v w : Value) → HasShape k v → HasShape k w → (r s : List ℕ) → value_bytes k v ++ r ≡ value_bytes k w ++ s → v ≡ w
value_one Boolean v w f g r s h = flag_one v w f g r s h
value_one TinyInt v w f g r s h = number_one 1 (omega arith) (omega arith) v w f g r s h
value_one SmallInt v w f g r s h = number_one 2 (omega arith) (omega arith) v w f g r s h
value_one Int v w f g r s h = number_one 4 (omega arith) (omega arith) v w f g r s h
value_one BigInt v w f g r s h = number_one 8 (omega arith) (omega arith) v w f g r s h
value_one LargeInt v w f g r s h = number_one 16 (omega arith) (omega arith) v w f g r s h
value_one Date v w f g r s h = day_one v w f g r s h
value_one (Varchar n) v w f g r s h = text_one v w f g r s h

range_fits : (m w : ℕ) (z : ℤ) → m + 1 ≡ half w → IsTrue (in_range m z) → FitsBytes w z
range_fits m w (pos n) e f = let h : n ≤ m = leb-true n m (and_parts (int_le (negsuc m) (pos n)) (int_le (pos n) (pos m)) f).1 in omega arith
range_fits m w (negsuc n) e f = let h : n ≤ m = leb-true n m (and_parts (int_le (negsuc m) (negsuc n)) (int_le (negsuc n) (pos m)) f).0 in omega arith

day_fits : (z : ℤ) → IsTrue (int_le (pos 0) z && int_le z (pos 3652424)) → FitsBytes 4 z
day_fits (pos n) f = let h : n ≤ 3652424 = leb-true n 3652424 (and_parts (int_le (pos 0) (pos n)) (int_le (pos n) (pos 3652424)) f).1 in omega arith
day_fits (negsuc n) f = absurd (false≢true (and_parts (int_le (pos 0) (negsuc n)) (int_le (negsuc n) (pos 3652424)) f).0)

text_fits : (n : ℕ) (t : List ℕ) → IsTrue (is_kind (Varchar n)) → IsTrue (fits_kind (Varchar n) (Text t)) → IsShort t
text_fits n t i f =
    let short : length t ≤ n = leb-true (length t) n (and_parts (nat_le (length t) n) (not (pointwise nat_eq t null_text)) f).0 in
    let most : n ≤ 65533 = leb-true n 65533 (and_parts (nat_le 1 n) (nat_le n 65533) i).1 in
    omega arith

-- what fits a type has its shape
pub shape_of : (k : Kind) (v : Value) → IsTrue (is_kind k) → IsTrue (fits_kind k v) → HasShape k v
shape_of Boolean Null i f = absurd (false≢true f)
shape_of Boolean (Bool b) i f = tt
shape_of Boolean (Num z) i f = absurd (false≢true f)
shape_of Boolean (Day z) i f = absurd (false≢true f)
shape_of Boolean (Text t) i f = absurd (false≢true f)
shape_of TinyInt Null i f = absurd (false≢true f)
shape_of TinyInt (Bool b) i f = absurd (false≢true f)
shape_of TinyInt (Num z) i f = range_fits 0x7f 1 z refl f
shape_of TinyInt (Day z) i f = absurd (false≢true f)
shape_of TinyInt (Text t) i f = absurd (false≢true f)
shape_of SmallInt Null i f = absurd (false≢true f)
shape_of SmallInt (Bool b) i f = absurd (false≢true f)
shape_of SmallInt (Num z) i f = range_fits 0x7fff 2 z refl f
shape_of SmallInt (Day z) i f = absurd (false≢true f)
shape_of SmallInt (Text t) i f = absurd (false≢true f)
shape_of Int Null i f = absurd (false≢true f)
shape_of Int (Bool b) i f = absurd (false≢true f)
shape_of Int (Num z) i f = range_fits 0x7fff_ffff 4 z refl f
shape_of Int (Day z) i f = absurd (false≢true f)
shape_of Int (Text t) i f = absurd (false≢true f)
shape_of BigInt Null i f = absurd (false≢true f)
shape_of BigInt (Bool b) i f = absurd (false≢true f)
shape_of BigInt (Num z) i f = range_fits 0x7fff_ffff_ffff_ffff 8 z refl f
shape_of BigInt (Day z) i f = absurd (false≢true f)
shape_of BigInt (Text t) i f = absurd (false≢true f)
shape_of LargeInt Null i f = absurd (false≢true f)
shape_of LargeInt (Bool b) i f = absurd (false≢true f)
shape_of LargeInt (Num z) i f = range_fits 0x7fff_ffff_ffff_ffff_ffff_ffff_ffff_ffff 16 z refl f
shape_of LargeInt (Day z) i f = absurd (false≢true f)
shape_of LargeInt (Text t) i f = absurd (false≢true f)
shape_of Date Null i f = absurd (false≢true f)
shape_of Date (Bool b) i f = absurd (false≢true f)
shape_of Date (Num z) i f = absurd (false≢true f)
shape_of Date (Day z) i f = day_fits z f
shape_of Date (Text t) i f = absurd (false≢true f)
shape_of (Varchar n) Null i f = absurd (false≢true f)
shape_of (Varchar n) (Bool b) i f = absurd (false≢true f)
shape_of (Varchar n) (Num z) i f = absurd (false≢true f)
shape_of (Varchar n) (Day z) i f = absurd (false≢true f)
shape_of (Varchar n) (Text t) i f = text_fits n t i f

abbrev present : Truth → List ℕ
present false = []
present true = 1 ∷ []

-- a cell is NULL or has a value
record HasValue (c : Column) (v : Value) : Type 0 where
  fits_it : IsTrue (fits_kind c.kind v)
  marked : (b : Truth) → null_mark b v ≡ present b

record IsNull (c : Column) (v : Value) : Type 0 where
  is : v ≡ Null
  taken : c.nullable ≡ true

mark_is : (v : Value) → (b : Truth) → (v ≡ Null → ⊥) → null_mark b v ≡ present b
mark_is Null false ne = absurd (ne refl)
mark_is Null true ne = absurd (ne refl)
mark_is (Bool x) false ne = refl
mark_is (Bool x) true ne = refl
mark_is (Num x) false ne = refl
mark_is (Num x) true ne = refl
mark_is (Day x) false ne = refl
mark_is (Day x) true ne = refl
mark_is (Text x) false ne = refl
mark_is (Text x) true ne = refl

null_or_value : (c : Column) (v : Value) → IsTrue (fits c v) → IsNull c v ⊎ HasValue c v
null_or_value c Null f = inl (record { is = refl; taken = f })
null_or_value c (Bool x) f = inr (record { fits_it = f; marked = λ b. mark_is (Bool x) b (λ e. cc) })
null_or_value c (Num x) f = inr (record { fits_it = f; marked = λ b. mark_is (Num x) b (λ e. cc) })
null_or_value c (Day x) f = inr (record { fits_it = f; marked = λ b. mark_is (Day x) b (λ e. cc) })
null_or_value c (Text x) f = inr (record { fits_it = f; marked = λ b. mark_is (Text x) b (λ e. cc) })

-- NULL and a value begin otherwise
null_apart : (c : Column) (w : Value) → c.nullable ≡ true → HasValue c w → (r s : List ℕ) → cell_bytes c Null ++ r ≡ cell_bytes c w ++ s → ⊥
null_apart c w taken p r s h =
    let left : cell_bytes c Null ≡ 0 ∷ value_bytes c.kind Null = ap (λ (b : Truth). null_mark b Null ++ value_bytes c.kind Null) taken in
    let right : cell_bytes c w ≡ 1 ∷ value_bytes c.kind w = ap (λ (t : List ℕ). t ++ value_bytes c.kind w) (p.marked c.nullable ∙ ap present taken) in
    let e : 0 ∷ (value_bytes c.kind Null ++ r) ≡ 1 ∷ (value_bytes c.kind w ++ s) = ap (λ (t : List ℕ). t ++ r) (sym left) ∙ h ∙ ap (λ (t : List ℕ). t ++ s) right in
    cc

-- two cells of a column with one front are the same
pub cell_one : (c : Column) → IsTrue (is_kind c.kind) → (v w : Value) → IsTrue (fits c v) → IsTrue (fits c w) → (r s : List ℕ) → cell_bytes c v ++ r ≡ cell_bytes c w ++ s → v ≡ w
cell_one c i v w f g r s h = elim (null_or_value c v f) [
  | inl n ↦ elim (null_or_value c w g) [
    | inl m ↦ n.is ∙ sym m.is
    | inr q ↦ absurd (null_apart c w n.taken q r s (ap (λ (x : Value). cell_bytes c x ++ r) (sym n.is) ∙ h))
  ]
  | inr p ↦ elim (null_or_value c w g) [
    | inl m ↦ absurd (null_apart c v m.taken p s r (ap (λ (x : Value). cell_bytes c x ++ s) (sym m.is) ∙ sym h))
    | inr q ↦
        let mark = null_mark c.nullable w in
        let same : null_mark c.nullable v ≡ null_mark c.nullable w = p.marked c.nullable ∙ sym (q.marked c.nullable) in
        let h' : mark ++ (value_bytes c.kind v ++ r) ≡ mark ++ (value_bytes c.kind w ++ s) =
        sym (append_assoc mark (value_bytes c.kind v) r) ∙ ap (λ (t : List ℕ). (t ++ value_bytes c.kind v) ++ r) (sym same) ∙ h ∙ append_assoc mark (value_bytes c.kind w) s in
        value_one c.kind v w (shape_of c.kind v i p.fits_it) (shape_of c.kind w i q.fits_it) r s (append_cancel_left mark _ _ h')
  ]
]
