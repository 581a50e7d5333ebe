-- How long the code of a key may be.
use Rattle.std.proofs.Common.{◌≡◌, ◌≤◌, ◌<◌, ◌^◌, ℕ, zero, suc, ◌+◌, ◌*◌, ◌==◌, List, [], ◌∷◌, Bool, true, false, if◌then◌else◌, Some, None, refl, sym, ap, ◌∙◌, arith, take, length, length-append}
use Rattle.std.specs.Prelude.{slice_get, nat_le}
use Rattle.std.proofs.lemmas.Bool.{and_parts, leb-true}
use Rattle.fixed_code.proofs.Codes.{length-code}
use Rattle.pk_values.specs.declared.cells.Kind.{Kind}
use Rattle.pk_values.specs.declared.cells.Kind.TheVariants as kind
use Rattle.pk_values.specs.declared.cells.Value.{Value}
use Rattle.pk_values.specs.declared.cells.Value.TheVariants as value
use Rattle.pk_values.specs.declared.cells.Column.{Column}
use Rattle.pk_values.specs.Fits.{fits, fits_all, fits_kind}
use Rattle.pk_values.specs.Schemas.{Layout, fits_key, is_kind, schema_fault}
use Rattle.pk_values.specs.SchemaFacts.{lawful_column}
use Rattle.std.proofs.lemmas.List.{take_all}
use Rattle.key_code.specs.Drafts.{Draft, draft_of}
use Rattle.key_code.specs.Escapes.{escaped}
use Rattle.key_code.specs.KeyCode.{cell_code, cells_code, day_code, no_more, numeric_code, text_code, truth_code}

escaped_byte_short : (first : Bool) (c : ℕ) (rest : List ℕ) (n : ℕ) → length rest ≤ n → length (if first then 0 ∷ 1 ∷ rest else c ∷ rest) ≤ 2 + n
escaped_byte_short true c rest n le = omega arith
escaped_byte_short false c rest n le = omega arith

escaped_short : (t : List ℕ) → length (escaped t) ≤ 2 * length t + 2
escaped_short [] = omega arith
escaped_short (c ∷ t) = let h = escaped_byte_short (c == 0) c (escaped t) (2 * length t + 2) (escaped_short t) in omega arith

truth_short : (v : Value) → length (truth_code v) ≤ 1
truth_short value.Null = omega arith
truth_short (value.Bool b) = omega arith
truth_short (value.Num z) = omega arith
truth_short (value.Day d) = omega arith
truth_short (value.Text t) = omega arith

numeric_short : (w : ℕ) (v : Value) → length (numeric_code w v) ≤ w
numeric_short w value.Null = omega arith
numeric_short w (value.Bool b) = omega arith
numeric_short w (value.Num z) = omega (arith, length-code w z)
numeric_short w (value.Day d) = omega arith
numeric_short w (value.Text t) = omega arith

day_short : (v : Value) → length (day_code v) ≤ 4
day_short value.Null = omega arith
day_short (value.Bool b) = omega arith
day_short (value.Num z) = omega arith
day_short (value.Day d) = omega (arith, length-code 4 d)
day_short (value.Text t) = omega arith

words_short : (last : Bool) (n : ℕ) (t : List ℕ) → length t ≤ n → n ≤ 65533 → length (text_code last (value.Text t)) ≤ 131072
words_short true n t le most = omega arith
words_short false n t le most = omega (arith, escaped_short t)

text_short : (last : Bool) (n : ℕ) (v : Value) (nullable : Bool) (c : Column) → c.kind ≡ kind.Varchar n → n ≤ 65533 → fits c v ≡ true → length (text_code last v) ≤ 131072
text_short last n value.Null nullable c k most e = omega arith
text_short last n (value.Bool b) nullable c k most e = omega arith
text_short last n (value.Num z) nullable c k most e = omega arith
text_short last n (value.Day d) nullable c k most e = omega arith
text_short last n (value.Text t) nullable c k most e =
    let f : fits_kind (kind.Varchar n) (value.Text t) ≡ true = sym (ap (λ (x : Kind). fits_kind x (value.Text t)) k) ∙ e in
    words_short last n t (leb-true (length t) n (and_parts (nat_le (length t) n) _ f).0) most

by_kind : (last : Bool) (k : Kind) (v : Value) (c : Column) → c.kind ≡ k → is_kind k ≡ true → fits c v ≡ true → length (cell_code last k v) ≤ 131072
by_kind last kind.Boolean v c k ok e = omega (arith, truth_short v)
by_kind last kind.TinyInt v c k ok e = omega (arith, numeric_short 1 v)
by_kind last kind.SmallInt v c k ok e = omega (arith, numeric_short 2 v)
by_kind last kind.Int v c k ok e = omega (arith, numeric_short 4 v)
by_kind last kind.BigInt v c k ok e = omega (arith, numeric_short 8 v)
by_kind last kind.LargeInt v c k ok e = omega (arith, numeric_short 16 v)
by_kind last kind.Date v c k ok e = omega (arith, day_short v)
by_kind last (kind.Varchar n) v c k ok e = text_short last n v c.nullable c k (leb-true n 65533 (and_parts (nat_le 1 n) (nat_le n 65533) ok).1) e

-- the kinds of these columns are lawful
pub AreKinds : List Column → Type 0
AreKinds [] = Unit {0}
AreKinds (c ∷ cs) = (is_kind c.kind ≡ true) × AreKinds cs

cells_short : (cs : List Column) (vs : List Value) → AreKinds cs → fits_all cs vs ≡ true → length (cells_code cs vs) ≤ 131072 * length cs
unfolding AreKinds
cells_short [] vs k e = omega arith
cells_short (c ∷ cs) [] k e = cc
cells_short (c ∷ cs) (v ∷ vs) k e =
    let p = and_parts (fits c v) (fits_all cs vs) e in
    let first : length (cell_code (no_more cs) c.kind v) ≤ 131072 = by_kind (no_more cs) c.kind v c refl k.0 p.0 in
    let rest = cells_short cs vs k.1 p.1 in
    omega (arith, length-append (cell_code (no_more cs) c.kind v) (cells_code cs vs))

kinds_of : (n : ℕ) (cs : List Column) → ((i : ℕ) (c : Column) → i < n → slice_get cs i ≡ Some c → is_kind c.kind ≡ true) → AreKinds (take n cs)
unfolding AreKinds
kinds_of zero cs h = tt
kinds_of (suc n) [] h = tt
kinds_of (suc n) (c ∷ cs) h = (h 0 c (omega arith) refl, kinds_of n cs (λ i d lt g. h (suc i) d (omega arith) g))

short_columns : (n : ℕ) (cs : List Column) → length (take n cs) ≤ n
short_columns zero cs = omega arith
short_columns (suc n) [] = omega arith
short_columns (suc n) (c ∷ cs) = let ih = short_columns n cs in omega arith

-- the code of a key has less than 2^64 bytes
pub key_short : (s : Layout) (key : List Value) → schema_fault s.columns s.keys ≡ None → s.keys ≤ 8 → fits_key s key ≡ true → length (cells_code (take s.keys s.columns) key) < 2 ^ 64
key_short s key lawful few e =
    let kinds = kinds_of s.keys s.columns (λ i c lt g. (lawful_column s i c lawful g).typed) in
    omega (arith, cells_short (take s.keys s.columns) key kinds e, short_columns s.keys s.columns)

-- the same for columns and cells that are those of the key
pub short_at : (s : Layout) (key : List Value) (n : ℕ) (cs : List Column) (vs : List Value) → n ≡ s.keys → cs ≡ s.columns → vs ≡ key → schema_fault s.columns s.keys ≡ None → s.keys ≤ 8 → fits_key s key ≡ true → length (cells_code (take n cs) vs) < 2 ^ 64
short_at s key n cs vs ne ce ve lawful few e =
    let short = key_short s key lawful few e in
    let same : cells_code (take n cs) vs ≡ cells_code (take s.keys s.columns) key = λ i. cells_code (take (ne i) (ce i)) (ve i) in
    omega (arith, ap length same)

-- a code of at most 128 bytes is kept whole
pub kept_whole : (s : Layout) (key : List Value) (n : ℕ) (cs : List Column) (vs : List Value) (d : Draft) (code : List ℕ) → n ≡ s.keys → cs ≡ s.columns → vs ≡ key → d ≡ draft_of (cells_code (take n cs) vs)
    → code ≡ d.first → d.count ≤ 128 → code ≡ cells_code (take s.keys s.columns) key
kept_whole s key n cs vs d code ne ce ve written first short =
    let count : d.count ≡ length (cells_code (take n cs) vs) = ap (λ (x : Draft). x.count) written in
    first ∙ ap (λ (x : Draft). x.first) written ∙ take_all 128 (cells_code (take n cs) vs) (omega arith) ∙ (λ i. cells_code (take (ne i) (ce i)) (ve i))
