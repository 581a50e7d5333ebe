-- The bytes of records.
use Rattle.std.specs.Prelude.{ℕ, List, ◌∷◌, Option}
use Rattle.pk_values.specs.Schemas.{Layout}
use Rattle.value_bytes.specs.Fields.{Field, both, by, counted, optional, text, u8, u16, u32, u64}
use Rattle.journal_form.specs.declared.records.NewFile.{NewFile}
use Rattle.journal_form.specs.declared.records.DeadRows.{DeadRows}
use Rattle.journal_form.specs.declared.records.ListedFile.{ListedFile}
use Rattle.journal_form.specs.declared.records.LevelFile.{LevelFile}
use Rattle.journal_form.specs.declared.records.LevelList.{LevelList}
use Rattle.journal_form.specs.declared.records.Record.{Record}
use Rattle.journal_form.specs.declared.records.Record.TheVariants.{Create, Publish, Compact, Floor, Levels, Checkpoint}
use Rattle.journal_form.specs.Versions.{Rowset}
use Rattle.journal_bytes.specs.Schemas.{schema}

abbrev pub new_file : Field NewFile
new_file = by (λ f. (f.file, f.rows)) (both u64 u32)

abbrev pub new_files : Field (List NewFile)
new_files = counted u64 new_file

abbrev pub dead_rows : Field DeadRows
dead_rows = by (λ c. (c.file, c.rows)) (both u64 (counted u32 u16))

abbrev pub changed_rows : Field (List DeadRows)
changed_rows = counted u64 dead_rows

abbrev pub level_file : Field LevelFile
level_file = by (λ f. (f.file, f.base)) (both u64 u64)

abbrev pub level_list : Field LevelList
level_list = by (λ l. (l.after, l.files)) (both u64 (counted u32 level_file))

abbrev pub levels : Field (Option LevelList)
levels = optional level_list

abbrev pub listed_file : Field ListedFile
listed_file = by (λ f. (f.file, (f.rows, f.dead))) (both u64 (both u32 (counted u32 u16)))

-- files with their dead rows
abbrev pub listed_files : Field Rowset
listed_files = counted u64 listed_file

-- ---- the fields behind the edit

abbrev pub create : Field (ℕ × Layout)
create = both u8 schema

abbrev pub publish : Field (ℕ × (List NewFile × List DeadRows))
publish = both u64 (both new_files changed_rows)

abbrev pub compact : Field (ℕ × (ℕ × (List NewFile × (List DeadRows × Option LevelList))))
compact = both u64 (both u64 (both new_files (both changed_rows levels)))

-- the later versions as whole bodies of their records
abbrev pub kept_bodies : Field (List (List ℕ))
kept_bodies = counted u64 (text u64)

abbrev pub checkpoint : Field (ℕ × (ℕ × (Layout × (ℕ × (ℕ × (List Rowset × (List (List ℕ) × Option LevelList)))))))
checkpoint = both u64 (both u8 (both schema (both u64 (both u64 (both (counted u64 listed_files) (both kept_bodies levels))))))

-- a tag, the edit and the fields
abbrev pub record_bytes : ℕ → Record → List ℕ
record_bytes edit (Create form s) = 1 ∷ (both u64 create).bytes (edit, (form, s))
record_bytes edit (Publish version files changed) = 2 ∷ (both u64 publish).bytes (edit, (version, (files, changed)))
record_bytes edit (Compact version replaced files changed l) = 3 ∷ (both u64 compact).bytes (edit, (version, (replaced, (files, (changed, l)))))
record_bytes edit (Floor floor) = 4 ∷ (both u64 u64).bytes (edit, floor)
record_bytes edit (Levels l) = 5 ∷ (both u64 levels).bytes (edit, l)
record_bytes edit (Checkpoint epoch form s next_file floor rowsets kept l) = 6 ∷ (both u64 checkpoint).bytes (edit, (epoch, (form, (s, (next_file, (floor, (rowsets, (kept, l))))))))

-- each number has a place in its field
abbrev pub RecordFits : ℕ → Record → Type 0
RecordFits edit (Create form s) = (both u64 create).fits (edit, (form, s))
RecordFits edit (Publish version files changed) = (both u64 publish).fits (edit, (version, (files, changed)))
RecordFits edit (Compact version replaced files changed l) = (both u64 compact).fits (edit, (version, (replaced, (files, (changed, l)))))
RecordFits edit (Floor floor) = (both u64 u64).fits (edit, floor)
RecordFits edit (Levels l) = (both u64 levels).fits (edit, l)
RecordFits edit (Checkpoint epoch form s next_file floor rowsets kept l) = (both u64 checkpoint).fits (edit, (epoch, (form, (s, (next_file, (floor, (rowsets, (kept, l))))))))
