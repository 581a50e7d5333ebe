-- The files of the current version by their numbers, and what a record makes of them.
use Rattle.std.specs.Prelude.{◌≡◌, ℕ, ◌+◌, suc, zero, List, [], ◌∷◌, length, Bool as Truth, true, false, ◌&&◌, not, nat_le, nat_lt, ◌==◌, cond, Option, Some, None, option_map}
use Rattle.std.specs.List.{list_all, list_any}
use Rattle.rowsets.specs.Marks.{with_rows}
use Rattle.journal_form.specs.declared.records.NewFile.{NewFile}
use Rattle.journal_form.specs.declared.records.DeadRows.{DeadRows}
use Rattle.journal_form.specs.declared.records.ListedFile.{ListedFile}
use Rattle.journal_form.specs.Versions.{file_numbered, rise_from}
use Rattle.journal_replay.specs.declared.current_files.CurrentFile.{CurrentFile}
use Rattle.journal_replay.specs.declared.span.Span.{Span}

-- which file has a number
abbrev pub Lookup : Type 0
Lookup = ℕ → Option CurrentFile

-- ---- what comes

-- a new file under its number
abbrev pub put_new : NewFile → Lookup → Lookup
put_new file f n = cond (file.file == n) (Some (record { rows = file.rows; dead = [] })) (f n)

abbrev pub added : List NewFile → Lookup → Lookup
added [] f = f
added (file ∷ files) f = added files (put_new file f)

-- ---- what dies

-- the file has the row, and it isn't dead
abbrev pub row_lives : CurrentFile → ℕ → Truth
row_lives file row = nat_lt row file.rows && not (list_any (λ d. d == row) file.dead)

-- at least one row; they rise, and each is alive
abbrev pub takes_rows : CurrentFile → List ℕ → Truth
takes_rows file rows = nat_le 1 (length rows) && (rise_from 0 rows && list_all (row_lives file) rows)

abbrev pub takes : Option CurrentFile → List ℕ → Truth
takes None rows = false
takes (Some file) rows = takes_rows file rows

abbrev pub dead_too : List ℕ → CurrentFile → CurrentFile
dead_too rows file = record file { dead = with_rows rows file.dead }

abbrev pub dead_in : DeadRows → Lookup → Lookup
dead_in change f n = cond (change.file == n) (option_map (dead_too change.rows) (f n)) (f n)

abbrev pub marks : List DeadRows → Lookup → Lookup
marks [] f = f
marks (change ∷ changed) f = marks changed (dead_in change f)

abbrev pub least_after : Option ℕ → ℕ
least_after None = 0
least_after (Some n) = n + 1

-- the changed files have rising numbers, and each takes its rows
abbrev pub all_take : ℕ → Lookup → List DeadRows → Truth
all_take least f [] = true
all_take least f (change ∷ changed) = nat_le least change.file && (takes (f change.file) change.rows && all_take (change.file + 1) (dead_in change f) changed)

-- ---- what goes

abbrev pub counted_from : ℕ → ℕ → List ℕ
counted_from n zero = []
counted_from n (suc count) = n ∷ counted_from (n + 1) count

abbrev pub span_numbers : Span → List ℕ
span_numbers span = counted_from span.first span.count

abbrev pub without_one : ℕ → Lookup → Lookup
without_one number f n = cond (number == n) None (f n)

abbrev pub without : List ℕ → Lookup → Lookup
without [] f = f
without (n ∷ ns) f = without ns (without_one n f)

-- ---- what a version lists

abbrev pub listed_as : ℕ → CurrentFile → ListedFile
listed_as n file = record { file = n; rows = file.rows; dead = file.dead }

-- the files of a list, by their numbers
abbrev pub Finds : Lookup → List ListedFile → Type 0
Finds f files = (n : ℕ) → option_map (listed_as n) (f n) ≡ file_numbered n files
