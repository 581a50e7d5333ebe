-- What was read fits the table.
use Rattle.std.proofs.Common.{◌≡◌, ◌≢◌, refl, ap, sym, subst, ◌∙◌, ℕ, suc, zero, ◌+◌, ◌<◌, List, [], ◌∷◌, length, take, drop, Option, Some, None, Result, Ok, Err, Bool, true, false, ◌&&◌, ◌||◌, ◌==◌, if◌then◌else◌, nat_lt, arith}
use Rattle.std.specs.Prelude.{slice_get, slice_set, option_and_then}
use Rattle.std.specs.List.{list_any}
use Rattle.std.proofs.lemmas.List.{length-map}
use Rattle.std.proofs.lemmas.Option.{slice_get_within}
use Rattle.pk_values.specs.Fits.{fits, fits_all}
use Rattle.pk_values.specs.Schemas.{Layout, fits_key}
use Rattle.pk_values.specs.declared.cells.Column.{Column}
use Rattle.pk_values.specs.declared.cells.Value.{Value}
use Rattle.cell_text.specs.Cells.{cell_of}
use Rattle.load_csv.specs.declared.loads.LoadFault.{LoadFault}
use Rattle.load_csv.specs.declared.headers.Field.{Field}
use Rattle.load_csv.specs.declared.headers.Field.TheVariants as field
use Rattle.load_csv.specs.Results.{◌and_then◌}
use Rattle.load_csv.specs.Headers.{is_same, missing_from, wanted}
use Rattle.load_csv.specs.Lines.{cell_at, cell_in, cells_of, if_fits, is_read, no_cells, with_cell, with_field, with_fields}

-- ---- tests

-- two equal numbers
pub same_number : (a b : ℕ) → (a == b) ≡ true → a ≡ b
same_number a b h = grind (arith, h)

pub equal_itself : (a : ℕ) → (a == a) ≡ true
equal_itself a = grind arith

pub ltb-true : (a b : ℕ) → a < b → nat_lt a b ≡ true
ltb-true a b h = grind arith

or_false : (a : Bool) → (a || false) ≡ true → a ≡ true
or_false true h = refl
or_false false h = h

pub or_true : (a : Bool) → (a || true) ≡ true
or_true true = refl
or_true false = refl

pub both : (a b : Bool) → a ≡ true → b ≡ true → (a && b) ≡ true
both a b h g = rw (h, g) refl

-- ---- one written place of a list

pub get-set : {X : Type 0} (xs : List X) (i : ℕ) (v : X) → i < length xs → slice_get (slice_set xs i v) i ≡ Some v
get-set [] i v h = absurd (omega arith)
get-set (x ∷ xs) zero v h = refl
get-set (x ∷ xs) (suc i) v h = get-set xs i v (omega arith)

pub get-set_other : {X : Type 0} (xs : List X) (i k : ℕ) (v : X) → k ≢ i → slice_get (slice_set xs i v) k ≡ slice_get xs k
get-set_other [] i k v h = refl
get-set_other (x ∷ xs) zero zero v h = absurd (h refl)
get-set_other (x ∷ xs) zero (suc k) v h = refl
get-set_other (x ∷ xs) (suc i) zero v h = refl
get-set_other (x ∷ xs) (suc i) (suc k) v h = get-set_other xs i k v (λ e. h (ap suc e))

length-set : {X : Type 0} (xs : List X) (i : ℕ) (v : X) → length (slice_set xs i v) ≡ length xs
length-set [] i v = refl
length-set (x ∷ xs) zero v = refl
length-set (x ∷ xs) (suc i) v = ap suc (length-set xs i v)

pub get-drop : {X : Type 0} (n : ℕ) (xs : List X) (k : ℕ) → slice_get (drop n xs) k ≡ slice_get xs (n + k)
get-drop zero xs k = let same : k ≡ zero + k = omega arith in ap (slice_get xs) same
get-drop (suc n) [] k = refl
get-drop (suc n) (y ∷ xs) k = let same : suc (n + k) ≡ suc n + k = omega arith in get-drop n xs k ∙ ap (slice_get (y ∷ xs)) same

pub length-no_cells : (s : Layout) → length (no_cells s) ≡ length s.columns
length-no_cells s = length-map s.columns _

-- ---- the cells of a row

-- a column has a cell that fits it
abbrev pub holds : Column → Option Value → Bool
holds c None = false
holds c (Some v) = fits c v

-- a cell fits its column
cell_in-fits : (c : Column) (o : Option Value) (v : Value) → option_and_then (if_fits c) o ≡ Some v → fits c v ≡ true
cell_in-fits c None v e = cc e
cell_in-fits c (Some w) v e = by_test (fits c w) refl e
  where
    by_test : (t : Bool) → fits c w ≡ t → (if t then Some w else None) ≡ Some v → fits c v ≡ true
    by_test true h e = let q : w ≡ v = cc e in subst (λ x. fits c x ≡ true) q h
    by_test false h e = cc e

-- a field is the column in a place, or not
is_column : ℕ → Field → Bool
is_column k f = is_same (field.Column k) f

-- what one field changes: the cell of a column that it stands for fits, and no other cell is another
record Step (s : Layout) (k : ℕ) (col : Column) (rest : Bool) (more : List Value) : Type 0 where
  pub width : length more ≡ length s.columns
  pub there : (holds col (slice_get more k) || rest) ≡ true

same_cells : (s : Layout) (k : ℕ) (col : Column) (rest : Bool) (cells more : List Value) → length cells ≡ length s.columns → (holds col (slice_get cells k) || rest) ≡ true
    → ◌≡◌ {A = Result (List Value) LoadFault} (Ok cells) (Ok more) → Step s k col rest more
same_cells s k col rest cells more w h e =
    let q : cells ≡ more = cc e in
    subst (λ x. Step s k col rest x) q (record { width = w; there = h })

-- a read cell in place j
put : (s : Layout) (k j : ℕ) (col : Column) (rest : Bool) (cells more : List Value) (n c : ℕ) (text : List ℕ) (o : Option Column) → slice_get s.columns j ≡ o → slice_get s.columns k ≡ Some col
    → length cells ≡ length s.columns → (holds col (slice_get cells k) || ((k == j) || rest)) ≡ true
    → with_cell n c cells j (cell_at o text) ≡ Ok more → Step s k col rest more
put s k j col rest cells more n c text None o g w h e = cc e
put s k j col rest cells more n c text (Some at) o g w h e = by_cell (cell_in at text) refl e
  where
    by_place : (v : Value) (t : Bool) → fits at v ≡ true → slice_set cells j v ≡ more → (k == j) ≡ t → (holds col (slice_get cells k) || (t || rest)) ≡ true → Step s k col rest more
    by_place v true f q t h =
        let same : k ≡ j = same_number k j t in
        let column : at ≡ col = let z : Some at ≡ Some col = sym o ∙ ap (slice_get s.columns) (sym same) ∙ g in cc z in
        let within : j < length cells = rw w (slice_get_within s.columns j at o) in
        let cell : slice_get more k ≡ Some v = ap (λ x. slice_get x k) (sym q) ∙ ap (slice_get (slice_set cells j v)) same ∙ get-set cells j v within in
        record {
          width = ap length (sym q) ∙ length-set cells j v ∙ w;
          there = rw cell (rw (subst (λ x. fits x v ≡ true) column f) refl);
        }
    by_place v false f q t h =
        let other : k ≢ j = λ same. (let itself : (k == j) ≡ true = rw same (equal_itself j) in cc (t, itself)) in
        let cell : slice_get more k ≡ slice_get cells k = ap (λ x. slice_get x k) (sym q) ∙ get-set_other cells j k v other in
        record {
          width = ap length (sym q) ∙ length-set cells j v ∙ w;
          there = rw cell h;
        }

    by_cell : (p : Option Value) → cell_in at text ≡ p → with_cell n c cells j p ≡ Ok more → Step s k col rest more
    by_cell None p e = cc e
    by_cell (Some v) p e =
        let q : slice_set cells j v ≡ more = cc e in
        by_place v (k == j) (cell_in-fits at (cell_of at.kind text) v p) q refl h

field-step : (s : Layout) (n : ℕ) (delete : Bool) (c k : ℕ) (col : Column) (rest : Bool) (cells more : List Value) (f : Field) (text : List ℕ)
    → slice_get s.columns k ≡ Some col → is_read s delete k ≡ true → length cells ≡ length s.columns
    → (holds col (slice_get cells k) || (is_same (field.Column k) f || rest)) ≡ true
    → with_field s n delete c cells f text ≡ Ok more → Step s k col rest more
field-step s n delete c k col rest cells more field.Op text g r w h e = same_cells s k col rest cells more w h e
field-step s n delete c k col rest cells more (field.Column j) text g r w h e = by_read (is_read s delete j) refl e
  where
    by_same : (t : Bool) → is_read s delete j ≡ false → (k == j) ≡ t → (holds col (slice_get cells k) || (t || rest)) ≡ true → (holds col (slice_get cells k) || rest) ≡ true
    by_same true q t h = let same : k ≡ j = same_number k j t in cc (sym r ∙ ap (is_read s delete) same ∙ q)
    by_same false q t h = h

    by_read : (t : Bool) → is_read s delete j ≡ t → (if t then with_cell n c cells j (cell_at (slice_get s.columns j) text) else Ok cells) ≡ Ok more → Step s k col rest more
    by_read true t e = put s k j col rest cells more n c text (slice_get s.columns j) refl g w h e
    by_read false t e = same_cells s k col rest cells more w (by_same (k == j) t refl h) e

-- the cell of each column that a row reads
read-holds : (s : Layout) (n : ℕ) (delete : Bool) (c k : ℕ) (col : Column) (cells final : List Value) (fields : List Field) (texts : List (List ℕ))
    → slice_get s.columns k ≡ Some col → is_read s delete k ≡ true → length texts ≡ length fields → length cells ≡ length s.columns
    → (holds col (slice_get cells k) || list_any (is_same (field.Column k)) fields) ≡ true
    → with_fields s n delete c cells fields texts ≡ Ok final → holds col (slice_get final k) ≡ true
read-holds s n delete c k col cells final [] [] g r l w h e = let q : cells ≡ final = cc e in subst (λ x. holds col (slice_get x k) ≡ true) q (or_false _ h)
read-holds s n delete c k col cells final [] (t ∷ texts) g r l w h e = absurd (omega arith)
read-holds s n delete c k col cells final (f ∷ fields) [] g r l w h e = absurd (omega arith)
read-holds s n delete c k col cells final (f ∷ fields) (t ∷ texts) g r l w h e =
    by_step (with_field s n delete c cells f t) refl e (λ more. read-holds s n delete (c + 1) k col more final fields texts g r (omega arith))
  where
    by_step : (o : Result (List Value) LoadFault) → with_field s n delete c cells f t ≡ o
        → (o and_then (λ more. with_fields s n delete (c + 1) more fields texts)) ≡ Ok final
        → ((more : List Value) → length more ≡ length s.columns → (holds col (slice_get more k) || list_any (is_same (field.Column k)) fields) ≡ true → with_fields s n delete (c + 1) more fields texts ≡ Ok final → holds col (slice_get final k) ≡ true)
        → holds col (slice_get final k) ≡ true
    by_step (Err fault) o e later = cc e
    by_step (Ok more) o e later =
        let step = field-step s n delete c k col (list_any (is_same (field.Column k)) fields) cells more f t g r w h o in
        later more step.width step.there e

-- a row has as many cells as there are columns
pub with_field-width : (s : Layout) (n : ℕ) (delete : Bool) (c : ℕ) (cells more : List Value) (f : Field) (text : List ℕ) → with_field s n delete c cells f text ≡ Ok more → length more ≡ length cells
with_field-width s n delete c cells more field.Op text e = let q : cells ≡ more = cc e in ap length (sym q)
with_field-width s n delete c cells more (field.Column j) text e = by_read (is_read s delete j) e
  where
    by_cell : (o : Option Value) → with_cell n c cells j o ≡ Ok more → length more ≡ length cells
    by_cell None e = cc e
    by_cell (Some v) e = let q : slice_set cells j v ≡ more = cc e in ap length (sym q) ∙ length-set cells j v

    by_read : (t : Bool) → (if t then with_cell n c cells j (cell_at (slice_get s.columns j) text) else Ok cells) ≡ Ok more → length more ≡ length cells
    by_read true e = by_cell (cell_at (slice_get s.columns j) text) e
    by_read false e = let q : cells ≡ more = cc e in ap length (sym q)

with_fields-width : (s : Layout) (n : ℕ) (delete : Bool) (c : ℕ) (cells final : List Value) (fields : List Field) (texts : List (List ℕ)) → with_fields s n delete c cells fields texts ≡ Ok final → length final ≡ length cells
with_fields-width s n delete c cells final [] texts e = let q : cells ≡ final = cc e in ap length (sym q)
with_fields-width s n delete c cells final (f ∷ fields) [] e = let q : cells ≡ final = cc e in ap length (sym q)
with_fields-width s n delete c cells final (f ∷ fields) (t ∷ texts) e =
    by_step (with_field s n delete c cells f t) refl e (λ more. with_fields-width s n delete (c + 1) more final fields texts)
  where
    by_step : (o : Result (List Value) LoadFault) → with_field s n delete c cells f t ≡ o → (o and_then (λ more. with_fields s n delete (c + 1) more fields texts)) ≡ Ok final
        → ((more : List Value) → with_fields s n delete (c + 1) more fields texts ≡ Ok final → length final ≡ length more) → length final ≡ length cells
    by_step (Err fault) o e later = cc e
    by_step (Ok more) o e later = later more e ∙ with_field-width s n delete c cells more f t o

-- no column is missing
pub none_missing : (fields : List Field) (i : ℕ) (cs : List Column) → missing_from fields i cs ≡ None → (k : ℕ) → k < length cs → list_any (is_same (field.Column (i + k))) fields ≡ true
none_missing fields i [] h k l = absurd (omega arith)
none_missing fields i (c ∷ cs) h k l = by_test (list_any (is_same (field.Column i)) fields) refl h k l (none_missing fields (i + 1) cs)
  where
    at : (a b : ℕ) → a ≡ b → list_any (is_same (field.Column b)) fields ≡ true → list_any (is_same (field.Column a)) fields ≡ true
    at a b e h = rw e h

    by_test : (t : Bool) → list_any (is_same (field.Column i)) fields ≡ t → (if t then missing_from fields (i + 1) cs else Some i) ≡ None → (k : ℕ) → k < suc (length cs)
        → (missing_from fields (i + 1) cs ≡ None → (k : ℕ) → k < length cs → list_any (is_same (field.Column (i + 1 + k))) fields ≡ true)
        → list_any (is_same (field.Column (i + k))) fields ≡ true
    by_test false t h k l later = cc h
    by_test true t h zero l later = at (i + zero) i (omega arith) t
    by_test true t h (suc k) l later = at (i + suc k) (i + 1 + k) (omega arith) (later h k (omega arith))

-- every column that the file gives and a row reads has a cell that fits it
pub cells-hold : (s : Layout) (fields : List Field) (n : ℕ) (delete : Bool) (texts : List (List ℕ)) (cells : List Value)
    → length texts ≡ length fields → cells_of s fields n delete texts ≡ Ok cells
    → (k : ℕ) (col : Column) → slice_get s.columns k ≡ Some col → list_any (is_same (field.Column k)) fields ≡ true → is_read s delete k ≡ true → holds col (slice_get cells k) ≡ true
cells-hold s fields n delete texts cells l e k col g named r =
    read-holds s n delete 1 k col (no_cells s) cells fields texts g r l (length-no_cells s) (rw named (or_true (holds col (slice_get (no_cells s) k)))) e

within-take : {X : Type 0} (n : ℕ) (xs : List X) (k : ℕ) → k < n → k < length xs → k < length (take n xs)
within-take zero xs k h l = absurd (omega arith)
within-take (suc n) [] k h l = l
within-take (suc n) (x ∷ xs) zero h l = omega arith
within-take (suc n) (x ∷ xs) (suc k) h l = let rest = within-take n xs k (omega arith) (omega arith) in omega (arith, rest)

-- each column of the key is given
pub key-given : (s : Layout) (fields : List Field) → missing_from fields 0 (take s.keys s.columns) ≡ None → (k : ℕ) (col : Column) → slice_get s.columns k ≡ Some col → k < s.keys
    → list_any (is_same (field.Column k)) fields ≡ true
key-given s fields h k col g m =
    let same : 0 + k ≡ k = omega arith in
    subst (λ p. list_any (is_same (field.Column p)) fields ≡ true) same
    (none_missing fields 0 (take s.keys s.columns) h k (within-take s.keys s.columns k m (slice_get_within s.columns k col g)))

-- where no column is missing, none of the first is
missing-take : (fields : List Field) (n i : ℕ) (cs : List Column) → missing_from fields i cs ≡ None → missing_from fields i (take n cs) ≡ None
missing-take fields zero i cs h = refl
missing-take fields (suc n) i [] h = refl
missing-take fields (suc n) i (c ∷ cs) h = by (list_any (is_same (field.Column i)) fields) h (missing-take fields n (i + 1) cs)
  where
    by : (t : Bool) → (if t then missing_from fields (i + 1) cs else Some i) ≡ None → (missing_from fields (i + 1) cs ≡ None → missing_from fields (i + 1) (take n cs) ≡ None)
        → (if t then missing_from fields (i + 1) (take n cs) else Some i) ≡ None
    by true h later = later h
    by false h later = cc h

-- a header that names what it must names the key
pub names-key : (s : Layout) (partial : Bool) (fields : List Field) → missing_from fields 0 (wanted s partial) ≡ None → missing_from fields 0 (take s.keys s.columns) ≡ None
names-key s true fields h = h
names-key s false fields h = missing-take fields s.keys 0 s.columns h

pub cells-width : (s : Layout) (fields : List Field) (n : ℕ) (delete : Bool) (texts : List (List ℕ)) (cells : List Value) → cells_of s fields n delete texts ≡ Ok cells → length cells ≡ length s.columns
cells-width s fields n delete texts cells e = with_fields-width s n delete 1 (no_cells s) cells fields texts e ∙ length-no_cells s

-- ---- keys

keys-fit : (n : ℕ) (cs : List Column) (vs : List Value) → length vs ≡ length cs → ((k : ℕ) (c : Column) → slice_get cs k ≡ Some c → k < n → holds c (slice_get vs k) ≡ true) → fits_all (take n cs) (take n vs) ≡ true
keys-fit zero cs vs l h = refl
keys-fit (suc n) [] [] l h = refl
keys-fit (suc n) [] (v ∷ vs) l h = absurd (omega arith)
keys-fit (suc n) (c ∷ cs) [] l h = absurd (omega arith)
keys-fit (suc n) (c ∷ cs) (v ∷ vs) l h =
    both (fits c v) _ (h zero c refl (omega arith)) (keys-fit n cs vs (omega arith) (λ k d e m. h (suc k) d e (omega arith)))

reads_key : (s : Layout) (delete : Bool) (k : ℕ) → k < s.keys → is_read s delete k ≡ true
reads_key s true k l = ltb-true k s.keys l
reads_key s false k l = refl

-- the first cells of a row are a key
pub key-fits : (s : Layout) (fields : List Field) (n : ℕ) (delete : Bool) (texts : List (List ℕ)) (cells : List Value)
    → missing_from fields 0 (take s.keys s.columns) ≡ None → length texts ≡ length fields → cells_of s fields n delete texts ≡ Ok cells → fits_key s (take s.keys cells) ≡ true
key-fits s fields n delete texts cells keys l e =
    keys-fit s.keys s.columns cells (cells-width s fields n delete texts cells e)
    (λ k col g m. cells-hold s fields n delete texts cells l e k col g (key-given s fields keys k col g m) (reads_key s delete k m))
