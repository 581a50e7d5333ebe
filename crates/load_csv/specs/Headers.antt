-- What the header of a load file names.
use Rattle.std.specs.Prelude.{ℕ, ◌+◌, ◌==◌, ◌||◌, List, [], ◌∷◌, ◌++◌, length, take, not, codes, Option, Some, None, option_map, Result, Ok, Err, Bool as Truth, true, false, if◌then◌else◌}
use Rattle.std.specs.List.{list_any}
use Rattle.cell_text.specs.Cells.{is_word}
use Rattle.pk_values.specs.Schemas.{Layout, place_of_name}
use Rattle.pk_values.specs.declared.cells.Column.{Column}
use Rattle.pk_model.specs.Lawful.{is_needed}
use Rattle.load_csv.specs.declared.loads.LoadFault.{LoadFault}
use Rattle.load_csv.specs.declared.loads.LoadFault.TheVariants.{UnknownName, NameTwice, Missing, NoDefault}
use Rattle.load_csv.specs.declared.headers.Field.{Field}
use Rattle.load_csv.specs.declared.headers.Field.TheVariants as field
use Rattle.load_csv.specs.Results.{◌and_then◌}

-- two fields of a file are both `__op`, or both the column in one place of the table
abbrev pub is_same : Field → Field → Truth
is_same field.Op field.Op = true
is_same field.Op (field.Column j) = false
is_same (field.Column i) field.Op = false
is_same (field.Column i) (field.Column j) = i == j

-- the word that names no column, but what a row does
abbrev pub op_name : List ℕ
op_name = codes "__op"

-- what a name stands for, if for anything
abbrev pub field_named : Layout → List ℕ → Option Field
field_named s name = if is_word name op_name then Some field.Op else option_map field.Column (place_of_name name s.columns)

-- the field in place c of a header, counted from 1, where its name stands for something that no field before it does
abbrev pub new_field : List Field → ℕ → Option Field → Result Field LoadFault
new_field before c None = Err (UnknownName c)
new_field before c (Some f) = if list_any (is_same f) before then Err (NameTwice c) else Ok f

-- the fields that names stand for, behind those before them, or the fault of the first name that has one
abbrev pub fields_after : Layout → List Field → List (List ℕ) → Result (List Field) LoadFault
fields_after s before [] = Ok before
fields_after s before (name ∷ names) = new_field before (length before + 1) (field_named s name) and_then (λ f. fields_after s (before ++ f ∷ []) names)

-- the place of the first of these columns that no field stands for; the first of them has place i
abbrev pub missing_from : List Field → ℕ → List Column → Option ℕ
missing_from fields i [] = None
missing_from fields i (c ∷ cs) = if list_any (is_same (field.Column i)) fields then missing_from fields (i + 1) cs else Some i

-- the columns that a header must name: those of the key in a partial load, and else all
abbrev pub wanted : Layout → Truth → List Column
wanted s partial = if partial then take s.keys s.columns else s.columns

abbrev pub unless_missing : List Field → Option ℕ → Result (List Field) LoadFault
unless_missing fields None = Ok fields
unless_missing fields (Some i) = Err (Missing (i + 1))

-- each column that must be named is there
abbrev pub with_wanted : Layout → Truth → List Field → Result (List Field) LoadFault
with_wanted s partial fields = unless_missing fields (missing_from fields 0 (wanted s partial))

-- the place of the first of these columns that no field stands for and no row can go without; the first of them has place i
abbrev pub unfilled_from : List Field → ℕ → List Column → Option ℕ
unfilled_from fields i [] = None
unfilled_from fields i (c ∷ cs) = if list_any (is_same (field.Column i)) fields || not (is_needed c) then unfilled_from fields (i + 1) cs else Some i

abbrev pub unless_unfilled : List Field → Option ℕ → Result (List Field) LoadFault
unless_unfilled fields None = Ok fields
unless_unfilled fields (Some i) = Err (NoDefault (i + 1))

-- each column that isn't there has a default or takes NULL
abbrev pub with_defaults : Layout → List Field → Result (List Field) LoadFault
with_defaults s fields = unless_unfilled fields (unfilled_from fields 0 s.columns)

-- what the names of a header stand for, in file order, or the first fault: that of the first name that has one, then that of the first column
-- which must be named and isn't, and then that of the first column which isn't named and has nothing in its place
abbrev pub header_of : Layout → Truth → List (List ℕ) → Result (List Field) LoadFault
header_of s partial names = fields_after s [] names and_then with_wanted s partial and_then with_defaults s
