-- The columns of a schema have a place in a journal.
use Rattle.std.proofs.Common.{◌≡◌, refl, ap, sym, subst, ◌∙◌, ℕ, zero, suc, ◌+◌, ◌<◌, ◌≤◌, ◌^◌, List, [], ◌∷◌, length, Option, Some, None, IsTrue, Bool as Truth, true, false, slice_get, arith, nat_le, nat_eq, not, codes, ◌&&◌, All}
use Rattle.std.specs.List.{AllByRecursion, list_all, starts_with}
use Rattle.std.specs.Option.{option_map_or}
use Rattle.std.proofs.lemmas.Bool.{and_parts, leb-true}
use Rattle.std.proofs.lemmas.List.Elements.{All-from_recursion}
use Rattle.pk_values.specs.Fits.{fits}
use Rattle.pk_values.specs.Schemas.{IsLawfulColumn, Layout, default_fits, is_kind, is_name, is_name_byte, schema_fault}
use Rattle.pk_values.specs.declared.cells.Column.{Column}
use Rattle.pk_values.specs.declared.cells.Value.{Value}
use Rattle.pk_values.specs.declared.cells.Value.TheVariants.{Null, Bool, Num, Day, Text}
use Rattle.value_bytes.specs.Fields.{SomeFits}
use Rattle.journal_form.specs.declared.records.Record.TheVariants.{Create}
use Rattle.journal_form.specs.Meaning.{Standing}
use Rattle.journal_bytes.specs.Records.{RecordFits, record_bytes}
use Rattle.journal_bytes.specs.Schemas.{column, nullable_cell, nullable_column, schema}
use Rattle.version_journal.specs.Commits.{IsDue}
use Rattle.core_recover.specs.Creating.{first_standing}

all_at : {X : Type 0} (P : X → Type 0) (xs : List X) → ((i : ℕ) (x : X) → slice_get xs i ≡ Some x → P x) → AllByRecursion P xs
all_at P [] f = tt
all_at P (x ∷ xs) f = (f 0 x refl, all_at P xs (λ i y is. f (suc i) y is))

loosened : (c : Column) (v : Value) → fits c v ≡ true → fits (nullable_column c.kind) v ≡ true
loosened c Null h = refl
loosened c (Bool b) h = h
loosened c (Num n) h = h
loosened c (Day d) h = h
loosened c (Text t) h = h

short_name : (name : List ℕ) → is_name name ≡ true → length name < 256 ^ 1
short_name name h =
    let p = and_parts (nat_le 1 (length name) && nat_le (length name) 64 && list_all is_name_byte name) (not (starts_with nat_eq name (codes "__"))) h in
    let q = and_parts (nat_le 1 (length name) && nat_le (length name) 64) (list_all is_name_byte name) p.0 in
    let r = and_parts (nat_le 1 (length name)) (nat_le (length name) 64) q.0 in
    let le = leb-true (length name) 64 r.1 in
    omega arith

default_has_place : (c : Column) (d : Option Value) → c.default ≡ d → IsTrue (default_fits c) → IsTrue (is_kind c.kind) → SomeFits (nullable_cell c.kind) d
default_has_place c None is h typed = tt
default_has_place c (Some v) is h typed =
    (typed, loosened c v (sym (ap (λ (o : Option Value). option_map_or (λ x. fits c x) o true) is) ∙ h))

column_has_place : (s : Layout) (i : ℕ) (c : Column) → IsLawfulColumn s i c → column.fits c
column_has_place s i c lawful = ((short_name c.name lawful.named, (lawful.typed, tt)), default_has_place c c.default refl lawful.default_fitting lawful.typed)

pub first_fits : (s : Layout) → schema_fault s.columns s.keys ≡ None → length s.columns ≤ 64 → s.keys ≤ 8 → ((i : ℕ) (c : Column) → slice_get s.columns i ≡ Some c → IsLawfulColumn s i c) → RecordFits 0 (Create 1 s)
first_fits s good columns keys each =
    let few : length s.columns < 256 ^ 1 = omega arith in
    let some : s.keys < 256 ^ 1 = omega arith in
    let edit : 0 < 256 ^ 8 = omega arith in
    let form : 1 < 256 ^ 1 = omega arith in
    (edit, (form, (((few, some), (refl, All-from_recursion column.fits s.columns (all_at column.fits s.columns (λ i c is. column_has_place s i c (each i c is))))), good)))

-- a first record of these columns has a place, and makes a new store's standing
pub first_is_due : (s : Layout) (body : List ℕ) → schema_fault s.columns s.keys ≡ None → length s.columns ≤ 64 → s.keys ≤ 8 → ((i : ℕ) (c : Column) → slice_get s.columns i ≡ Some c → IsLawfulColumn s i c)
    → body ≡ record_bytes 0 (Create 1 s) → IsDue body None (first_standing s)
first_is_due s body good columns keys each spelled = record {
  told = Create 1 s;
  fits = first_fits s good columns keys each;
  spelled = spelled;
  built = refl;
  joins = refl;
}
