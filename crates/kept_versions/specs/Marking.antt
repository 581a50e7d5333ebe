-- How the files of a version are gone over for their changed rows.
use Rattle.std.specs.Prelude.{ℕ, ◌+◌, List, [], ◌∷◌, map, Some, Bool as Truth, true, ◌&&◌, ◌||◌, not, nat_lt, ◌==◌, if◌then◌else◌}
use Rattle.std.specs.List.{list_all, AllByRecursion}
use Rattle.index_level0.specs.declared.place.Place.{Place}
use Rattle.rowsets.specs.Marks.{Rises}
use Rattle.journal_form.specs.declared.records.DeadRows.{DeadRows}
use Rattle.journal_form.specs.declared.records.ListedFile.{ListedFile}
use Rattle.kept_versions.specs.Files.{row_lives}

-- ---- changed rows by their files

abbrev pub with_place : Place → List DeadRows → List DeadRows
with_place p [] = record { file = p.segment; rows = p.row ∷ [] } ∷ []
with_place p (c ∷ cs) = if c.file == p.segment then record { file = p.segment; rows = p.row ∷ c.rows } ∷ cs else record { file = p.segment; rows = p.row ∷ [] } ∷ c ∷ cs

-- places of one file after the other, each file's rows together
abbrev pub grouped : List Place → List DeadRows
grouped [] = []
grouped (p ∷ ps) = with_place p (grouped ps)

-- how many places at the front are in this file
abbrev pub run : ℕ → List Place → ℕ
run n [] = 0
run n (p ∷ ps) = if p.segment == n then run n ps + 1 else 0

-- a delete vector can hold each of these rows
abbrev pub are_small : List Place → Truth
are_small places = list_all (λ p. nat_lt p.row 65536) places

abbrev pub changed_numbers : List DeadRows → List ℕ
changed_numbers changed = map (λ c. c.file) changed

abbrev pub RowsRise : List DeadRows → Type 0
RowsRise changed = AllByRecursion (λ c. Rises c.rows) changed

-- ---- which of the changed files were found

abbrev pub noted : ℕ → List DeadRows → List Truth → List Truth
noted n [] found = []
noted n (c ∷ cs) [] = []
noted n (c ∷ cs) (b ∷ bs) = (b || (n == c.file)) ∷ noted n cs bs

abbrev pub rows_live : ListedFile → List ℕ → Truth
rows_live f rows = list_all (λ r. row_lives (Some f) r) rows

-- the changed rows of this file are live, unless one of its number was found before
abbrev pub lives_at : ListedFile → List DeadRows → List Truth → Truth
lives_at f [] found = true
lives_at f (c ∷ cs) [] = true
lives_at f (c ∷ cs) (b ∷ bs) = (b || (not (f.file == c.file) || rows_live f c.rows)) && lives_at f cs bs

abbrev pub noted_all : List ListedFile → List DeadRows → List Truth → List Truth
noted_all [] changed found = found
noted_all (f ∷ files) changed found = noted_all files changed (noted f.file changed found)

abbrev pub lives_all : List ListedFile → List DeadRows → List Truth → Truth
lives_all [] changed found = true
lives_all (f ∷ files) changed found = lives_at f changed found && lives_all files changed (noted f.file changed found)
