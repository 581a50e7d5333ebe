-- What table a JSON text describes, and its first fault.
use Rattle.std.specs.Prelude.{◌≡◌, ℕ, suc, ◌+◌, ◌==◌, min, List, [], ◌∷◌, codes, Bool as Truth, false, if◌then◌else◌, Option, Some, None, option_map, option_and_then, Result, Ok, Err, ⊤}
use Rattle.std.specs.Option.{option_map_or}
use Rattle.std.specs.Str.{is_utf8}
use Rattle.serde_json.specs.Data.{Data, null, boolean, number, string, array, object, Items, no_items, item, Members, no_members, member}
use Rattle.serde_json.specs.Find.{as_array, as_bool, as_number, as_object, as_str, as_u64, get}
use Rattle.serde_json.specs.Read.{read}
use Rattle.cell_text.specs.Cells.{cell_of}
use Rattle.pk_values.specs.declared.cells.Column.{Column}
use Rattle.pk_values.specs.declared.cells.Kind.{Kind}
use Rattle.pk_values.specs.declared.cells.Value.{Value}
use Rattle.pk_values.specs.declared.cells.Value.TheVariants.{Null}
use Rattle.pk_values.specs.declared.schemas.SchemaFault.{SchemaFault}
use Rattle.pk_values.specs.Schemas.{Layout, schema_fault}
use Rattle.schema_json.specs.TypeNames.{if_u32, kind_named}
use Rattle.schema_json.specs.declared.columns.ColumnFault.{ColumnFault}
use Rattle.schema_json.specs.declared.columns.ColumnFault.TheVariants as column_fault
use Rattle.schema_json.specs.declared.columns.ColumnShape.{ColumnShape}
use Rattle.schema_json.specs.declared.columns.ColumnShape.TheVariants as shape
use Rattle.schema_json.specs.declared.tables.TableFault.{TableFault}
use Rattle.schema_json.specs.declared.tables.TableFault.TheVariants.{NotJson, Shape, Column as AtColumn, Bad}
use Rattle.schema_json.specs.declared.tables.TableShape.TheVariants as whole

-- the value of a text that is JSON
abbrev pub json_value : List ℕ → Option Data
json_value bytes = if is_utf8 bytes then read bytes else None

-- how many members an object has; it has no name twice
abbrev pub member_count : Members → ℕ
member_count no_members = 0
member_count (member name d ms) = suc (member_count ms)

abbrev pub has_members : ℕ → Data → Truth
has_members count d = option_map_or (λ ms. member_count ms == count) (as_object d) false

-- 1 for a member that is there
abbrev pub one_if_there : Option Data → ℕ
one_if_there None = 0
one_if_there (Some d) = 1

-- ---- a column

abbrev pub name_in : Data → Option (List ℕ)
name_in d = option_and_then as_str (get (codes "name") d)

abbrev pub kind_in : Data → Option Kind
kind_in d = option_and_then kind_named (option_and_then as_str (get (codes "type") d))

-- false where the member isn't there
abbrev pub nullable_as : Option Data → Option Truth
nullable_as None = Some false
nullable_as (Some d) = as_bool d

abbrev pub nullable_in : Data → Option Truth
nullable_in d = nullable_as (get (codes "nullable") d)

-- a text is read as a cell, and null is NULL
abbrev pub default_value : Kind → Data → Option Value
default_value kind null = Some Null
default_value kind (boolean b) = None
default_value kind (number n) = None
default_value kind (string text) = cell_of kind text
default_value kind (array ds) = None
default_value kind (object ms) = None

-- no default where the member isn't there
abbrev pub default_as : Kind → Option Data → Option (Option Value)
default_as kind None = Some None
default_as kind (Some d) = option_map Some (default_value kind d)

abbrev pub default_in : Kind → Data → Option (Option Value)
default_in kind d = default_as kind (get (codes "default") d)

-- an object of two members beside `nullable` and `default`; that the two are `name` and `type` is seen where they are read
abbrev pub has_column_members : Data → Truth
has_column_members d = has_members (2 + one_if_there (get (codes "nullable") d) + one_if_there (get (codes "default") d)) d

abbrev pub column_with : List ℕ → Kind → Truth → Option (Option Value) → Result Column ColumnShape
column_with name kind nullable None = Err shape.Default
column_with name kind nullable (Some default) = Ok (record { name = name; kind = kind; nullable = nullable; default = default })

abbrev pub column_from : Data → Option (List ℕ) → Option Kind → Option Truth → Result Column ColumnShape
column_from d None kind nullable = Err shape.Name
column_from d (Some name) None nullable = Err shape.Type
column_from d (Some name) (Some kind) None = Err shape.Nullable
column_from d (Some name) (Some kind) (Some nullable) = column_with name kind nullable (default_in kind d)

-- the column that an object describes, or what of it isn't of the form of one
abbrev pub column_of : Data → Result Column ColumnShape
column_of d = if has_column_members d then column_from d (name_in d) (kind_in d) (nullable_in d) else Err shape.Members

-- a fault tells what isn't of the form of a column, or that memory ran out
abbrev pub TellsShape : Result Column ColumnShape → ColumnFault → Type 0
TellsShape column (column_fault.Shape told) = column ≡ Err told
TellsShape column column_fault.Memory = ⊤

-- ---- a table

-- a fault tells a column past the greatest number of 32 bits by that number
abbrev pub number_told : ℕ → ℕ
number_told i = min i 4294967295

-- a column before the later ones, or the fault of column i
abbrev pub column_before : ℕ → Result Column ColumnShape → Result (List Column) TableFault → Result (List Column) TableFault
column_before i (Err told) later = Err (AtColumn (number_told i) told)
column_before i (Ok c) (Err fault) = Err fault
column_before i (Ok c) (Ok cs) = Ok (c ∷ cs)

-- the columns of an array, numbered from i on
abbrev pub columns_of : ℕ → Items → Result (List Column) TableFault
columns_of i no_items = Ok []
columns_of i (item d ds) = column_before i (column_of d) (columns_of (i + 1) ds)

-- a number written as an integer, from 0 to 4,294,967,295
abbrev pub as_u32 : Data → Option ℕ
as_u32 d = option_and_then if_u32 (option_and_then as_u64 (as_number d))

abbrev pub columns_in : Data → Option Items
columns_in d = option_and_then as_array (get (codes "columns") d)

abbrev pub keys_in : Data → Option ℕ
keys_in d = option_and_then as_u32 (get (codes "keys") d)

abbrev pub schema_unless : Option SchemaFault → List Column → ℕ → Result Layout TableFault
schema_unless None columns keys = Ok (record { columns = columns; keys = keys })
schema_unless (Some fault) columns keys = Err (Bad fault)

abbrev pub schema_from : Result (List Column) TableFault → ℕ → Result Layout TableFault
schema_from (Err fault) keys = Err fault
schema_from (Ok columns) keys = schema_unless (schema_fault columns keys) columns keys

abbrev pub table_from : Option Items → Option ℕ → Result Layout TableFault
table_from None keys = Err (Shape whole.Columns)
table_from (Some items) None = Err (Shape whole.Keys)
table_from (Some items) (Some keys) = schema_from (columns_of 1 items) keys

-- an object with exactly the members `columns` and `keys`
abbrev pub table_in : Data → Result Layout TableFault
table_in d = if has_members 2 d then table_from (columns_in d) (keys_in d) else Err (Shape whole.Members)

abbrev pub table_as : Option Data → Result Layout TableFault
table_as None = Err NotJson
table_as (Some d) = table_in d

-- the table that a text describes, or its first fault
abbrev pub table_of : List ℕ → Result Layout TableFault
table_of bytes = table_as (json_value bytes)
