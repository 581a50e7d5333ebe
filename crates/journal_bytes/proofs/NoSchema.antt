-- Bytes that are no column, or no schema.
use Rattle.std.proofs.Common.{◌≡◌, ℕ, List, length, refl, sym, subst, None, Bool, Option}
use Rattle.pk_values.specs.Schemas.{Layout, schema_fault}
use Rattle.pk_values.specs.declared.cells.Column.{Column}
use Rattle.pk_values.specs.declared.cells.Kind.{Kind}
use Rattle.pk_values.specs.declared.cells.Value.{Value}
use Rattle.value_bytes.specs.Fields.{Field, both, by, flag, followed, optional, text, times, u8}
use Rattle.value_bytes.specs.Telling.{both-tells, by-tells, flag-tells, followed-tells, number-tells, text-tells, times-tells}
use Rattle.value_bytes.specs.Reads.{NotRead, Reads}
use Rattle.value_bytes.proofs.Reading.{by_read, not_by, not_first, not_second, not_such, then_read}
use Rattle.journal_bytes.specs.Schemas.{column, kind, nullable_cell, schema}
use Rattle.journal_bytes.specs.RecordsTell.{column-tells, kind-tells}

abbrev head : Field (List ℕ × (Kind × Bool))
head = both (text u8) (both kind flag)

abbrev default_of : (List ℕ × (Kind × Bool)) → Field (Option Value)
default_of p = optional (nullable_cell p.1.0)

abbrev parts : Column → (List ℕ × (Kind × Bool)) × Option Value
parts c = ((c.name, (c.kind, c.nullable)), c.default)

no_head : (bytes : List ℕ) → NotRead head bytes → NotRead column bytes
no_head bytes none = not_by parts (followed head default_of) bytes (not_first head default_of bytes none)

pub no_kind : (bytes mid name : List ℕ) → Reads (text u8) bytes name mid → NotRead kind mid → NotRead column bytes
no_kind bytes mid name p none = no_head bytes (not_second (text u8) (λ t. both kind flag) (text-tells u8 (number-tells 1)) bytes mid name p (not_first kind (λ k. flag) mid none))

pub no_flag : (bytes mid last name : List ℕ) (k : Kind) → Reads (text u8) bytes name mid → Reads kind mid k last → NotRead flag last → NotRead column bytes
no_flag bytes mid last name k p q none = no_head bytes (not_second (text u8) (λ t. both kind flag) (text-tells u8 (number-tells 1)) bytes mid name p (not_second kind (λ k. flag) kind-tells mid last k q none))

pub no_default : (bytes mid next last name : List ℕ) (k : Kind) (b : Bool) → Reads (text u8) bytes name mid → Reads kind mid k next → Reads flag next b last → NotRead (optional (nullable_cell k)) last → NotRead column bytes
no_default bytes mid next last name k b p q r none =
    let whole : Reads head bytes (name, (k, b)) last = then_read (text u8) (λ t. both kind flag) bytes mid last name (k, b) p (then_read kind (λ k. flag) mid next last k b q r) in
    not_by parts (followed head default_of) bytes (not_second head default_of (both-tells (text u8) (both kind flag) (text-tells u8 (number-tells 1)) (both-tells kind flag kind-tells flag-tells)) bytes last (name, (k, b)) whole none)

abbrev columns_of : (ℕ × ℕ) → Field (List Column)
columns_of n = times column n.0

abbrev layout : Layout → (ℕ × ℕ) × List Column
layout s = ((length s.columns, s.keys), s.columns)

pub no_schema : (bytes mid next last : List ℕ) (count keys : ℕ) (columns : List Column) → Reads u8 bytes count mid → Reads u8 mid keys next → Reads (times column count) next columns last → (schema_fault columns keys ≡ None → ⊥) → NotRead schema bytes
no_schema bytes mid next last count keys columns p q r bad =
    let first : Reads u8 bytes (length columns) mid = subst (λ (n : ℕ). Reads u8 bytes n mid) (sym r.fits.0) p in
    let third : Reads (times column (length columns)) next columns last = record { fits = (refl, r.fits.1); spelled = r.spelled } in
    let whole : Reads (followed (both u8 u8) columns_of) bytes ((length columns, keys), columns) last =
    then_read (both u8 u8) columns_of bytes next last (length columns, keys) columns (then_read u8 (λ n. u8) bytes mid next (length columns) keys first q) third in
    let s : Layout = record { columns = columns; keys = keys } in
    not_such (by layout (followed (both u8 u8) columns_of)) (λ s. schema_fault s.columns s.keys ≡ None)
    (by-tells layout (λ x. record { columns = x.1; keys = x.0.1 }) (followed (both u8 u8) columns_of) (λ s. refl) (followed-tells (both u8 u8) columns_of (both-tells u8 u8 (number-tells 1) (number-tells 1)) (λ n. times-tells column n.0 column-tells)))
    bytes last s (by_read layout (followed (both u8 u8) columns_of) bytes last s whole) bad
