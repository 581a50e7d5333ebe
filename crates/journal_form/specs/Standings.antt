-- A journal from its first record on, and which records are written and read as yet.
use Rattle.std.specs.Prelude.{ℕ, ◌+◌, List, [], ◌∷◌, Bool as Truth, true, false, not, ◌==◌, Option, Some, None, is_some}
use Rattle.journal_form.specs.declared.records.Record.{Record}
use Rattle.journal_form.specs.declared.records.Record.TheVariants.{Create, Publish, Compact, Floor, Levels, Checkpoint}
use Rattle.journal_form.specs.Meaning.{Standing, created, goes_on, opens, step}

-- the records that are written and read: the index files and checkpoints aren't, as yet
abbrev pub is_built : Record → Truth
is_built (Create form schema) = form == 1
is_built (Publish version files rows) = true
is_built (Compact version replaced files rows levels) = not (is_some levels)
is_built (Floor floor) = true
is_built (Levels levels) = false
is_built (Checkpoint epoch form schema next_file floor rowsets kept levels) = false

-- what a first record means, where it may be the first one
abbrev pub begun : Record → Option Standing
begun (Create form schema) = opens 0 (created form schema)
begun (Publish version files rows) = None
begun (Compact version replaced files rows levels) = None
begun (Floor floor) = None
begun (Levels levels) = None
begun (Checkpoint epoch form schema next_file floor rowsets kept levels) = None

-- one record more, where it fits what the records before it mean, or nothing where there is none
abbrev pub joined : Option Standing → Record → Option Standing
joined None r = begun r
joined (Some s) r = step s r

-- the edit that the next record has
abbrev pub edit_due : Option Standing → ℕ
edit_due None = 0
edit_due (Some s) = s.edit + 1

-- what records mean, the first one and those behind it
abbrev pub records_mean : List Record → Option Standing
records_mean [] = None
records_mean (r ∷ rs) = goes_on rs (begun r)
