-- Codes of keys compare as the keys do.
use Rattle.std.proofs.Common.{◌≡◌, ◌≤◌, ◌<◌, ℕ, zero, suc, ◌+◌, ◌-◌, ◌==◌, List, [], ◌∷◌, ◌++◌, Bool, true, false, if◌then◌else◌, Some, None, refl, sym, ap, ap₂, subst, ◌∙◌, arith, take, drop, get_or, length}
use Rattle.std.specs.Prelude.{ℤ, pos, negsuc, slice_get, ◌&&◌, int_le}
use Rattle.std.specs.Cmp.Lexicographic.{slice_cmp}
use Rattle.std.specs.Ordering.{nat_cmp, ordering_then}
use Rattle.std.proofs.lemmas.Bool.{and_from, and_parts, leb-true}
use Rattle.std.proofs.lemmas.Bool.Decides.{nat_tests}
use Rattle.std.proofs.lemmas.List.{drop_all, drop_more, length-drop}
use Rattle.fixed_code.specs.NumberCode.{FitsBytes, half}
use Rattle.pk_values.specs.declared.cells.Kind.{Kind}
use Rattle.pk_values.specs.declared.cells.Kind.TheVariants as kind
use Rattle.pk_values.specs.declared.cells.Value.{Value}
use Rattle.pk_values.specs.declared.cells.Value.TheVariants as value
use Rattle.pk_values.specs.declared.cells.Column.{Column}
use Rattle.pk_values.specs.Fits.{fits, fits_all, fits_kind, in_range}
use Rattle.pk_values.specs.Order.{key_cmp, value_cmp}
use Rattle.pk_values.specs.OrderFacts.{key_exact}
use Rattle.pk_values.specs.Schemas.{Layout, fits_key, schema_fault}
use Rattle.pk_values.specs.SchemaFacts.{lawful_column}
use Rattle.key_code.specs.Keys.{AreCells, AreOfKinds, HaveNoCells, IsKeyOf, IsNoKey}
use Rattle.pk_values.specs.Shapes.{IsDay, IsFlag, IsNumber}
use Rattle.key_code.specs.Shapes.{HasCode, HaveCodes, IsAnyText}
use Rattle.key_code.specs.KeyCode.{IsInOrder, IsOnlyCodeOf, cell_code, cells_code, day_code, key_code as code_of, no_more, numeric_code, text_code, truth_code}
use Rattle.key_code.proofs.Parts.{FitOne, FitOneSchema, Part, cmp_key, cmp_part, flag, is_nil, key_code, number, part_code, text}
use Rattle.key_code.proofs.KeyOrder.{keys_in_order, same_list}

-- a value as a part of a key, in w bytes where it is a number
pub part_in : ℕ → Value → Part
part_in w value.Null = flag 0
part_in w (value.Bool b) = flag (if b then 1 else 0)
part_in w (value.Num z) = number w z
part_in w (value.Day z) = number w z
part_in w (value.Text t) = text t

pub width_of : Kind → ℕ
width_of kind.Boolean = 1
width_of kind.TinyInt = 1
width_of kind.SmallInt = 2
width_of kind.Int = 4
width_of kind.BigInt = 8
width_of kind.LargeInt = 16
width_of kind.Date = 4
width_of (kind.Varchar n) = 0

pub part_of : Kind → Value → Part
part_of k v = part_in (width_of k) v

-- two values of one kind are parts of one column, and compare as values
pub record CellFacts (p q : Part) (a b : Value) : Type 0 where
  pub fit : FitOne p q
  pub order : cmp_part p q ≡ value_cmp a b

flag_facts : (w : ℕ) (a b : Value) → IsFlag a → IsFlag b → CellFacts (part_in w a) (part_in w b) a b
unfolding part_in
flag_facts w value.Null b f g = absurd f
flag_facts w (value.Bool x) value.Null f g = absurd g
flag_facts w (value.Bool true) (value.Bool true) f g = record { fit = tt; order = refl }
flag_facts w (value.Bool true) (value.Bool false) f g = record { fit = tt; order = refl }
flag_facts w (value.Bool false) (value.Bool true) f g = record { fit = tt; order = refl }
flag_facts w (value.Bool false) (value.Bool false) f g = record { fit = tt; order = refl }
flag_facts w (value.Bool x) (value.Num y) f g = absurd g
flag_facts w (value.Bool x) (value.Day y) f g = absurd g
flag_facts w (value.Bool x) (value.Text y) f g = absurd g
flag_facts w (value.Num x) b f g = absurd f
flag_facts w (value.Day x) b f g = absurd f
flag_facts w (value.Text x) b f g = absurd f

number_facts : (w : ℕ) (a b : Value) → 1 ≤ w → w ≤ 16 → IsNumber (FitsBytes w) a → IsNumber (FitsBytes w) b → CellFacts (part_in w a) (part_in w b) a b
unfolding part_in
number_facts w value.Null b low high f g = absurd f
number_facts w (value.Bool x) b low high f g = absurd f
number_facts w (value.Num x) value.Null low high f g = absurd g
number_facts w (value.Num x) (value.Bool y) low high f g = absurd g
number_facts w (value.Num x) (value.Num y) low high f g = record { fit = (refl, low, high, f, g); order = refl }
number_facts w (value.Num x) (value.Day y) low high f g = absurd g
number_facts w (value.Num x) (value.Text y) low high f g = absurd g
number_facts w (value.Day x) b low high f g = absurd f
number_facts w (value.Text x) b low high f g = absurd f

day_facts : (a b : Value) → IsDay (FitsBytes 4) a → IsDay (FitsBytes 4) b → CellFacts (part_in 4 a) (part_in 4 b) a b
unfolding part_in
day_facts value.Null b f g = absurd f
day_facts (value.Bool x) b f g = absurd f
day_facts (value.Num x) b f g = absurd f
day_facts (value.Day x) value.Null f g = absurd g
day_facts (value.Day x) (value.Bool y) f g = absurd g
day_facts (value.Day x) (value.Num y) f g = absurd g
day_facts (value.Day x) (value.Day y) f g = record { fit = (refl, omega arith, omega arith, f, g); order = refl }
day_facts (value.Day x) (value.Text y) f g = absurd g
day_facts (value.Text x) b f g = absurd f

text_facts : (w : ℕ) (a b : Value) → IsAnyText a → IsAnyText b → CellFacts (part_in w a) (part_in w b) a b
unfolding part_in
text_facts w value.Null b f g = absurd f
text_facts w (value.Bool x) b f g = absurd f
text_facts w (value.Num x) b f g = absurd f
text_facts w (value.Day x) b f g = absurd f
text_facts w (value.Text x) value.Null f g = absurd g
text_facts w (value.Text x) (value.Bool y) f g = absurd g
text_facts w (value.Text x) (value.Num y) f g = absurd g
text_facts w (value.Text x) (value.Day y) f g = absurd g
text_facts w (value.Text x) (value.Text y) f g = record { fit = tt; order = refl }

pub facts : (k : Kind) (a b : Value) → HasCode k a → HasCode k b → CellFacts (part_of k a) (part_of k b) a b
unfolding part_of width_of
facts kind.Boolean a b f g = flag_facts 1 a b f g
facts kind.TinyInt a b f g = number_facts 1 a b (omega arith) (omega arith) f g
facts kind.SmallInt a b f g = number_facts 2 a b (omega arith) (omega arith) f g
facts kind.Int a b f g = number_facts 4 a b (omega arith) (omega arith) f g
facts kind.BigInt a b f g = number_facts 8 a b (omega arith) (omega arith) f g
facts kind.LargeInt a b f g = number_facts 16 a b (omega arith) (omega arith) f g
facts kind.Date a b f g = day_facts a b f g
facts (kind.Varchar n) a b f g = text_facts 0 a b f g

flag_is : (w : ℕ) (last : Bool) (a : Value) → IsFlag a → truth_code a ≡ part_code last (part_in w a)
unfolding part_in
flag_is w last value.Null f = absurd f
flag_is w last (value.Bool x) f = refl
flag_is w last (value.Num x) f = absurd f
flag_is w last (value.Day x) f = absurd f
flag_is w last (value.Text x) f = absurd f

number_is : (w : ℕ) (last : Bool) (a : Value) → IsNumber (FitsBytes w) a → numeric_code w a ≡ part_code last (part_in w a)
unfolding part_in
number_is w last value.Null f = absurd f
number_is w last (value.Bool x) f = absurd f
number_is w last (value.Num x) f = refl
number_is w last (value.Day x) f = absurd f
number_is w last (value.Text x) f = absurd f

day_is : (last : Bool) (a : Value) → IsDay (FitsBytes 4) a → day_code a ≡ part_code last (part_in 4 a)
unfolding part_in
day_is last value.Null f = absurd f
day_is last (value.Bool x) f = absurd f
day_is last (value.Num x) f = absurd f
day_is last (value.Day x) f = refl
day_is last (value.Text x) f = absurd f

text_is : (w : ℕ) (last : Bool) (a : Value) → IsAnyText a → text_code last a ≡ part_code last (part_in w a)
unfolding part_in
text_is w last value.Null f = absurd f
text_is w last (value.Bool x) f = absurd f
text_is w last (value.Num x) f = absurd f
text_is w last (value.Day x) f = absurd f
text_is w last (value.Text x) f = refl

pub code_is : (last : Bool) (k : Kind) (a : Value) → HasCode k a → cell_code last k a ≡ part_code last (part_of k a)
unfolding part_of width_of
code_is last kind.Boolean a f = flag_is 1 last a f
code_is last kind.TinyInt a f = number_is 1 last a f
code_is last kind.SmallInt a f = number_is 2 last a f
code_is last kind.Int a f = number_is 4 last a f
code_is last kind.BigInt a f = number_is 8 last a f
code_is last kind.LargeInt a f = number_is 16 last a f
code_is last kind.Date a f = day_is last a f
code_is last (kind.Varchar n) a f = text_is 0 last a f

-- ---- keys

parts : List Column → List Value → List Part
parts [] vs = []
parts (c ∷ cs) [] = []
parts (c ∷ cs) (v ∷ vs) = part_of c.kind v ∷ parts cs vs

nil_is : (cs : List Column) (vs : List Value) → HaveCodes cs vs → is_nil (parts cs vs) ≡ no_more cs
unfolding parts
nil_is [] [] f = refl
nil_is [] (v ∷ vs) f = absurd f
nil_is (c ∷ cs) [] f = absurd f
nil_is (c ∷ cs) (v ∷ vs) f = refl

bytes_are : (cs : List Column) (vs : List Value) → HaveCodes cs vs → cells_code cs vs ≡ key_code (parts cs vs)
unfolding parts
bytes_are [] [] f = refl
bytes_are [] (v ∷ vs) f = absurd f
bytes_are (c ∷ cs) [] f = absurd f
bytes_are (c ∷ cs) (v ∷ vs) f =
    ap₂ (λ (s t : List ℕ). s ++ t) (code_is (no_more cs) c.kind v f.0 ∙ ap (λ (l : Bool). part_code l (part_of c.kind v)) (sym (nil_is cs vs f.1))) (bytes_are cs vs f.1)

all_fit : (cs : List Column) (vs us : List Value) → HaveCodes cs vs → HaveCodes cs us → FitOneSchema (parts cs vs) (parts cs us)
unfolding parts
all_fit [] [] [] f g = tt
all_fit [] [] (u ∷ us) f g = absurd g
all_fit [] (v ∷ vs) us f g = absurd f
all_fit (c ∷ cs) [] us f g = absurd f
all_fit (c ∷ cs) (v ∷ vs) [] f g = absurd g
all_fit (c ∷ cs) (v ∷ vs) (u ∷ us) f g = ((facts c.kind v u f.0 g.0).fit, all_fit cs vs us f.1 g.1)

cmp_is : (cs : List Column) (vs us : List Value) → HaveCodes cs vs → HaveCodes cs us → cmp_key (parts cs vs) (parts cs us) ≡ key_cmp vs us
unfolding parts
cmp_is [] [] [] f g = refl
cmp_is [] [] (u ∷ us) f g = absurd g
cmp_is [] (v ∷ vs) us f g = absurd f
cmp_is (c ∷ cs) [] us f g = absurd f
cmp_is (c ∷ cs) (v ∷ vs) [] f g = absurd g
cmp_is (c ∷ cs) (v ∷ vs) (u ∷ us) f g = ap₂ ordering_then (facts c.kind v u f.0 g.0).order (cmp_is cs vs us f.1 g.1)

-- codes have the order of the keys
pub codes_in_order : (cs : List Column) (vs us : List Value) → HaveCodes cs vs → HaveCodes cs us → slice_cmp nat_cmp (cells_code cs vs) (cells_code cs us) ≡ key_cmp vs us
codes_in_order cs vs us f g =
    ap₂ (slice_cmp nat_cmp) (bytes_are cs vs f) (bytes_are cs us g) ∙ keys_in_order (parts cs vs) (parts cs us) (all_fit cs vs us f g) ∙ cmp_is cs vs us f g

-- different keys have different codes
pub one_key : (cs : List Column) (vs us : List Value) → HaveCodes cs vs → HaveCodes cs us → cells_code cs vs ≡ cells_code cs us → vs ≡ us
one_key cs vs us f g e =
    key_exact vs us (sym (codes_in_order cs vs us f g) ∙ ap (λ (code : List ℕ). slice_cmp nat_cmp code (cells_code cs us)) e ∙ same_list (cells_code cs us))

-- ---- what fits has a code

number_fits : (w m : ℕ) (z : ℤ) → m < half w → in_range m z ≡ true → FitsBytes w z
number_fits w m (pos n) lt e = let p = and_parts (int_le (negsuc m) (pos n)) _ e in let h = leb-true n m p.1 in omega arith
number_fits w m (negsuc n) lt e = let p = and_parts (int_le (negsuc m) (negsuc n)) _ e in let h = leb-true n m p.0 in omega arith

day_fits : (z : ℤ) → (int_le (pos 0) z && int_le z (pos 3652424)) ≡ true → FitsBytes 4 z
day_fits (pos n) e = let p = and_parts (int_le (pos 0) (pos n)) _ e in let h = leb-true n 3652424 p.1 in omega arith
day_fits (negsuc n) e = cc

pub has_code : (k : Kind) (v : Value) → fits_kind k v ≡ true → HasCode k v
has_code kind.Boolean (value.Bool b) e = tt
has_code kind.TinyInt (value.Num z) e = number_fits 1 0x7f z (omega arith) e
has_code kind.SmallInt (value.Num z) e = number_fits 2 0x7fff z (omega arith) e
has_code kind.Int (value.Num z) e = number_fits 4 0x7fff_ffff z (omega arith) e
has_code kind.BigInt (value.Num z) e = number_fits 8 0x7fff_ffff_ffff_ffff z (omega arith) e
has_code kind.LargeInt (value.Num z) e = number_fits 16 0x7fff_ffff_ffff_ffff_ffff_ffff_ffff_ffff z (omega arith) e
has_code kind.Date (value.Day z) e = day_fits z e
has_code (kind.Varchar n) (value.Text t) e = tt
has_code kind.Boolean value.Null e = cc
has_code kind.Boolean (value.Num z) e = cc
has_code kind.Boolean (value.Day z) e = cc
has_code kind.Boolean (value.Text t) e = cc
has_code kind.TinyInt value.Null e = cc
has_code kind.TinyInt (value.Bool b) e = cc
has_code kind.TinyInt (value.Day z) e = cc
has_code kind.TinyInt (value.Text t) e = cc
has_code kind.SmallInt value.Null e = cc
has_code kind.SmallInt (value.Bool b) e = cc
has_code kind.SmallInt (value.Day z) e = cc
has_code kind.SmallInt (value.Text t) e = cc
has_code kind.Int value.Null e = cc
has_code kind.Int (value.Bool b) e = cc
has_code kind.Int (value.Day z) e = cc
has_code kind.Int (value.Text t) e = cc
has_code kind.BigInt value.Null e = cc
has_code kind.BigInt (value.Bool b) e = cc
has_code kind.BigInt (value.Day z) e = cc
has_code kind.BigInt (value.Text t) e = cc
has_code kind.LargeInt value.Null e = cc
has_code kind.LargeInt (value.Bool b) e = cc
has_code kind.LargeInt (value.Day z) e = cc
has_code kind.LargeInt (value.Text t) e = cc
has_code kind.Date value.Null e = cc
has_code kind.Date (value.Bool b) e = cc
has_code kind.Date (value.Num z) e = cc
has_code kind.Date (value.Text t) e = cc
has_code (kind.Varchar n) value.Null e = cc
has_code (kind.Varchar n) (value.Bool b) e = cc
has_code (kind.Varchar n) (value.Num z) e = cc
has_code (kind.Varchar n) (value.Day z) e = cc

-- no column of these takes NULL
pub NoNulls : List Column → Type 0
NoNulls [] = Unit {0}
NoNulls (c ∷ cs) = (c.nullable ≡ false) × NoNulls cs

cell_has_code : (c : Column) (v : Value) → c.nullable ≡ false → fits c v ≡ true → HasCode c.kind v
cell_has_code c value.Null n e = cc
cell_has_code c (value.Bool b) n e = has_code c.kind (value.Bool b) e
cell_has_code c (value.Num z) n e = has_code c.kind (value.Num z) e
cell_has_code c (value.Day z) n e = has_code c.kind (value.Day z) e
cell_has_code c (value.Text t) n e = has_code c.kind (value.Text t) e

have_codes : (cs : List Column) (vs : List Value) → NoNulls cs → fits_all cs vs ≡ true → HaveCodes cs vs
unfolding NoNulls
have_codes [] [] n e = tt
have_codes [] (v ∷ vs) n e = cc
have_codes (c ∷ cs) [] n e = cc
have_codes (c ∷ cs) (v ∷ vs) n e =
    let p = and_parts (fits c v) (fits_all cs vs) e in
    (cell_has_code c v n.0 p.0, have_codes cs vs n.1 p.1)

pub no_nulls : (n : ℕ) (cs : List Column) → ((i : ℕ) (c : Column) → i < n → slice_get cs i ≡ Some c → c.nullable ≡ false) → NoNulls (take n cs)
unfolding NoNulls
no_nulls zero cs h = tt
no_nulls (suc n) [] h = tt
no_nulls (suc n) (c ∷ cs) h = (h 0 c (omega arith) refl, no_nulls n cs (λ i d lt g. h (suc i) d (omega arith) g))

-- a key that fits a schema has a code
pub key_has_code : (s : Layout) (key : List Value) → schema_fault s.columns s.keys ≡ None → fits_key s key ≡ true → HaveCodes (take s.keys s.columns) key
key_has_code s key lawful e =
    have_codes (take s.keys s.columns) key (no_nulls s.keys s.columns (λ i c lt g. ((lawful_column s i c lawful g).key lt).0)) e

-- ---- the loop

pub same_count : (cs : List Column) (vs : List Value) → HaveCodes cs vs → length cs ≡ length vs
same_count [] [] f = refl
same_count [] (v ∷ vs) f = absurd f
same_count (c ∷ cs) [] f = absurd f
same_count (c ∷ cs) (v ∷ vs) f = ap suc (same_count cs vs f.1)

rest_fits : (i : ℕ) (cs : List Column) (vs : List Value) → HaveCodes cs vs → HaveCodes (drop i cs) (drop i vs)
rest_fits zero cs vs f = f
rest_fits (suc i) [] [] f = tt
rest_fits (suc i) [] (v ∷ vs) f = absurd f
rest_fits (suc i) (c ∷ cs) [] f = absurd f
rest_fits (suc i) (c ∷ cs) (v ∷ vs) f = rest_fits i cs vs f.1

pub last_is : (i n m : ℕ) → i < n → m ≡ n - (i + 1) → (m == 0) ≡ (i + 1 == n)
last_is i n m lt e = grind (arith, nat_tests)

suc_not_zero : (n : ℕ) → false ≡ (suc n == 0)
suc_not_zero n = grind (arith, nat_tests)

pub no_more_is : (cs : List Column) → no_more cs ≡ (length cs == 0)
no_more_is [] = refl
no_more_is (c ∷ cs) = suc_not_zero (length cs)

-- the cell at a place, and the code of the rest
pub cell_at : (cs : List Column) (vs : List Value) (i : ℕ) (c : Column) (v : Value) → HaveCodes cs vs → i < length cs → c ≡ get_or cs i c → v ≡ get_or vs i v
    → HasCode c.kind v × (cells_code (drop i cs) (drop i vs) ≡ cell_code (i + 1 == length cs) c.kind v ++ cells_code (drop (i + 1) cs) (drop (i + 1) vs))
cell_at cs vs i c v f lt atk atv =
    let lt' : i < length vs = omega (arith, same_count cs vs f) in
    let ek : drop i cs ≡ c ∷ drop (i + 1) cs = drop_more cs i c lt ∙ ap (λ (x : Column). x ∷ drop (i + 1) cs) (sym atk) in
    let ev : drop i vs ≡ v ∷ drop (i + 1) vs = drop_more vs i v lt' ∙ ap (λ (x : Value). x ∷ drop (i + 1) vs) (sym atv) in
    let fit : HaveCodes (c ∷ drop (i + 1) cs) (v ∷ drop (i + 1) vs) = subst (λ (xs : List Column). HaveCodes xs (v ∷ drop (i + 1) vs)) ek (subst (λ (xs : List Value). HaveCodes (drop i cs) xs) ev (rest_fits i cs vs f)) in
    let last : no_more (drop (i + 1) cs) ≡ (i + 1 == length cs) = no_more_is (drop (i + 1) cs) ∙ last_is i (length cs) (length (drop (i + 1) cs)) lt (length-drop (i + 1) cs) in
    (fit.0, ap₂ cells_code ek ev ∙ ap (λ (l : Bool). cell_code l c.kind v ++ cells_code (drop (i + 1) cs) (drop (i + 1) vs)) last)

pub none_left : (cs : List Column) (vs : List Value) (i : ℕ) → length cs ≤ i → cells_code (drop i cs) (drop i vs) ≡ []
none_left cs vs i le = ap (λ (xs : List Column). cells_code xs (drop i vs)) (drop_all i cs le)

-- ---- what `encode` says

pub order_of_keys : (s : Layout) (key : List Value) → schema_fault s.columns s.keys ≡ None → fits_key s key ≡ true → IsInOrder s key (code_of s key)
order_of_keys s key lawful f other g =
    codes_in_order (take s.keys s.columns) key other (key_has_code s key lawful f) (key_has_code s other lawful g)

pub only_key : (s : Layout) (key : List Value) → schema_fault s.columns s.keys ≡ None → fits_key s key ≡ true → IsOnlyCodeOf s key (code_of s key)
only_key s key lawful f other g e =
    one_key (take s.keys s.columns) other key (key_has_code s other lawful g) (key_has_code s key lawful f) e

pub fits_codes : (s : Layout) (key : List Value) (n : ℕ) (cs : List Column) (vs : List Value) → n ≡ s.keys → cs ≡ s.columns → vs ≡ key → schema_fault s.columns s.keys ≡ None → fits_key s key ≡ true → HaveCodes (take n cs) vs
fits_codes s key n cs vs ne ce ve lawful f =
    subst (λ (k : ℕ). HaveCodes (take k cs) vs) (sym ne) (subst (λ (xs : List Column). HaveCodes (take s.keys xs) vs) (sym ce) (subst (λ (xs : List Value). HaveCodes (take s.keys s.columns) xs) (sym ve) (key_has_code s key lawful f)))

pub order_at : (s : Layout) (key : List Value) (code : List ℕ) → code ≡ code_of s key → schema_fault s.columns s.keys ≡ None → fits_key s key ≡ true → IsInOrder s key code
order_at s key code e lawful f = subst (λ (bs : List ℕ). IsInOrder s key bs) (sym e) (order_of_keys s key lawful f)

pub only_at : (s : Layout) (key : List Value) (code : List ℕ) → code ≡ code_of s key → schema_fault s.columns s.keys ≡ None → fits_key s key ≡ true → IsOnlyCodeOf s key code
only_at s key code e lawful f = subst (λ (bs : List ℕ). IsOnlyCodeOf s key bs) (sym e) (only_key s key lawful f)

-- ---- what `decode` says

-- only a text is a part that is a text
pub IsTextPart : Part → Type 0
IsTextPart (flag a) = ⊥
IsTextPart (number w a) = ⊥
IsTextPart (text a) = Unit {0}

pub a_text : (t : List ℕ) → IsTextPart (text t)
unfolding IsTextPart
a_text t = tt

pub text_part : (k : Kind) (v : Value) → IsTextPart (part_of k v) → IsAnyText v
unfolding IsTextPart part_of part_in
text_part k value.Null x = absurd x
text_part k (value.Bool b) x = absurd x
text_part k (value.Num z) x = absurd x
text_part k (value.Day d) x = absurd x
text_part k (value.Text t) x = tt

null_unfit : (k : Kind) → fits_kind k value.Null ≡ true → ⊥
null_unfit kind.Boolean e = cc
null_unfit kind.TinyInt e = cc
null_unfit kind.SmallInt e = cc
null_unfit kind.Int e = cc
null_unfit kind.BigInt e = cc
null_unfit kind.LargeInt e = cc
null_unfit kind.Date e = cc
null_unfit (kind.Varchar n) e = cc

cell_fits : (c : Column) (v : Value) → fits_kind c.kind v ≡ true → fits c v ≡ true
cell_fits c value.Null e = absurd (null_unfit c.kind e)
cell_fits c (value.Bool b) e = e
cell_fits c (value.Num z) e = e
cell_fits c (value.Day d) e = e
cell_fits c (value.Text t) e = e

pub kinds_fit : (cs : List Column) (vs : List Value) → AreOfKinds cs vs → fits_all cs vs ≡ true
kinds_fit [] [] f = refl
kinds_fit [] (v ∷ vs) f = absurd f
kinds_fit (c ∷ cs) [] f = absurd f
kinds_fit (c ∷ cs) (v ∷ vs) f = and_from (fits c v) (fits_all cs vs) (cell_fits c v f.0) (kinds_fit cs vs f.1)

cell_of_kind : (c : Column) (v : Value) → c.nullable ≡ false → fits c v ≡ true → fits_kind c.kind v ≡ true
cell_of_kind c value.Null n e = cc
cell_of_kind c (value.Bool b) n e = e
cell_of_kind c (value.Num z) n e = e
cell_of_kind c (value.Day d) n e = e
cell_of_kind c (value.Text t) n e = e

of_kinds : (cs : List Column) (vs : List Value) → NoNulls cs → fits_all cs vs ≡ true → AreOfKinds cs vs
unfolding NoNulls
of_kinds [] [] n e = tt
of_kinds [] (v ∷ vs) n e = cc
of_kinds (c ∷ cs) [] n e = cc
of_kinds (c ∷ cs) (v ∷ vs) n e =
    let p = and_parts (fits c v) (fits_all cs vs) e in
    (cell_of_kind c v n.0 p.0, of_kinds cs vs n.1 p.1)

key_nulls : (s : Layout) → schema_fault s.columns s.keys ≡ None → NoNulls (take s.keys s.columns)
key_nulls s lawful = no_nulls s.keys s.columns (λ i c lt g. ((lawful_column s i c lawful g).key lt).0)

same_columns : (s : Layout) (n : ℕ) (cs : List Column) → n ≡ s.keys → cs ≡ s.columns → take n cs ≡ take s.keys s.columns
same_columns s n cs ne ce = ap (λ (k : ℕ). take k cs) ne ∙ ap (λ (xs : List Column). take s.keys xs) ce

pub key_found : (s : Layout) (code : List ℕ) (n : ℕ) (cs : List Column) (cells : List Value) → n ≡ s.keys → cs ≡ s.columns → AreCells (take n cs) code cells → IsKeyOf s code cells
key_found s code n cs cells ne ce h =
    let g = subst (λ (xs : List Column). AreCells xs code cells) (same_columns s n cs ne ce) h in
    (kinds_fit (take s.keys s.columns) cells g.0, g.1)

pub key_only : (s : Layout) (code : List ℕ) (cells : List Value) → schema_fault s.columns s.keys ≡ None → IsKeyOf s code cells → IsOnlyCodeOf s cells code
key_only s code cells lawful h other f e =
    one_key (take s.keys s.columns) other cells (key_has_code s other lawful f) (key_has_code s cells lawful h.0) (e ∙ sym h.1)

pub no_key : (s : Layout) (code : List ℕ) (n : ℕ) (cs : List Column) → n ≡ s.keys → cs ≡ s.columns → schema_fault s.columns s.keys ≡ None → HaveNoCells (take n cs) code → IsNoKey s code
no_key s code n cs ne ce lawful none key f e =
    let g = subst (λ (xs : List Column). HaveNoCells xs code) (same_columns s n cs ne ce) none in
    g key (of_kinds (take s.keys s.columns) key (key_nulls s lawful) f, e)
