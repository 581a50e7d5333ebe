-- The names of column types.
use Rattle.std.specs.Prelude.{ℕ, ◌-◌, ◌&&◌, ◌==◌, List, length, take, slice_index, slice_range, codes, nat_le, Option, Some, None, option_map, option_and_then, if◌then◌else◌}
use Rattle.std.specs.Str.{str_eq_ignore_ascii_case}
use Rattle.cell_text.specs.Cells.{digits_of}
use Rattle.cell_text.specs.Readings.{if_at_most}
use Rattle.pk_values.specs.declared.cells.Kind.{Kind}
use Rattle.pk_values.specs.declared.cells.Kind.TheVariants.{Boolean, TinyInt, SmallInt, Int, BigInt, LargeInt, Date, Varchar}

-- a number of 32 bits
abbrev pub if_u32 : ℕ → Option ℕ
if_u32 = if_at_most 4294967295

-- the number of 32 bits that 1 to 10 decimal digits spell
abbrev pub length_named : List ℕ → Option ℕ
length_named digits = if nat_le (length digits) 10 then option_and_then if_u32 (digits_of digits) else None

-- `VARCHAR(n)`, in any ASCII case
abbrev pub varchar_named : List ℕ → Option Kind
varchar_named name =
    if nat_le 9 (length name) && str_eq_ignore_ascii_case (take 8 name) (codes "VARCHAR(") && (slice_index name (length name - 1) == 41) then
    option_map Varchar (length_named (slice_range name 8 (length name - 1)))
    else None

-- the type of a name, in any ASCII case
abbrev pub kind_named : List ℕ → Option Kind
kind_named name =
    if str_eq_ignore_ascii_case name (codes "BOOLEAN") then Some Boolean
    else if str_eq_ignore_ascii_case name (codes "TINYINT") then Some TinyInt
    else if str_eq_ignore_ascii_case name (codes "SMALLINT") then Some SmallInt
    else if str_eq_ignore_ascii_case name (codes "INT") then Some Int
    else if str_eq_ignore_ascii_case name (codes "BIGINT") then Some BigInt
    else if str_eq_ignore_ascii_case name (codes "LARGEINT") then Some LargeInt
    else if str_eq_ignore_ascii_case name (codes "DATE") then Some Date
    else varchar_named name
