-- The bytes of a schema.
use Rattle.std.specs.Prelude.{◌≡◌, ℕ, List, [], ◌∷◌, length, true, None, IsTrue}
use Rattle.byteorder.specs.Endian.{big_bytes}
use Rattle.pk_values.specs.Fits.{fits}
use Rattle.pk_values.specs.Schemas.{Layout, is_kind, schema_fault}
use Rattle.pk_values.specs.declared.cells.Column.{Column}
use Rattle.pk_values.specs.declared.cells.Kind.{Kind}
use Rattle.pk_values.specs.declared.cells.Kind.TheVariants.{Boolean, TinyInt, SmallInt, Int, BigInt, LargeInt, Date, Varchar}
use Rattle.pk_values.specs.declared.cells.Value.{Value}
use Rattle.column_page.specs.CellBytes.{cell_bytes}
use Rattle.value_bytes.specs.Fields.{Field, both, by, flag, followed, optional, such, text, times, u8}

-- the kinds in their order, and the greatest length of a VARCHAR
abbrev pub kind_bytes : Kind → List ℕ
kind_bytes Boolean = 1 ∷ []
kind_bytes TinyInt = 2 ∷ []
kind_bytes SmallInt = 3 ∷ []
kind_bytes Int = 4 ∷ []
kind_bytes BigInt = 5 ∷ []
kind_bytes LargeInt = 6 ∷ []
kind_bytes Date = 7 ∷ []
kind_bytes (Varchar most) = 8 ∷ big_bytes 2 most

abbrev pub kind : Field Kind
kind = record { bytes = kind_bytes; fits = λ k. IsTrue (is_kind k) }

-- a column of a kind that takes NULL
abbrev pub nullable_column : Kind → Column
nullable_column k = record { name = []; kind = k; nullable = true; default = None }

-- a cell of such a column
abbrev pub nullable_cell : Kind → Field Value
nullable_cell k = record { bytes = λ v. cell_bytes (nullable_column k) v; fits = λ v. IsTrue (is_kind k) × IsTrue (fits (nullable_column k) v) }

-- its name, its kind, whether it takes NULL, and its default, where it has one
abbrev pub column : Field Column
column = by (λ c. ((c.name, (c.kind, c.nullable)), c.default)) (followed (both (text u8) (both kind flag)) (λ p. optional (nullable_cell p.1.0)))

-- the numbers of columns and of key columns, and the columns
abbrev pub schema : Field Layout
schema = such (by (λ s. ((length s.columns, s.keys), s.columns)) (followed (both u8 u8) (λ n. times column n.0))) (λ s. schema_fault s.columns s.keys ≡ None)
