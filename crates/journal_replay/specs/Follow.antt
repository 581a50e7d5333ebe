-- A replay follows records: it has what the next record is held against.
use Rattle.std.specs.Prelude.{◌≡◌, ℕ, ◌+◌, ◌-◌, List, [], ◌∷◌, ◌++◌, length, map, take, drop, Bool as Truth, true, false, ◌&&◌, ◌==◌, nat_lt, nat_le, Option, Some, None}
use Rattle.std.specs.List.{flat_map, list_all}
use Rattle.std.specs.BTreeMap.{get}
use Rattle.std.specs.Ordering.{nat_cmp}
use Rattle.journal_form.specs.declared.records.NewFile.{NewFile}
use Rattle.journal_form.specs.declared.records.DeadRows.{DeadRows}
use Rattle.journal_form.specs.declared.records.ListedFile.{ListedFile}
use Rattle.journal_form.specs.Versions.{above, all_below, bound, current_number, files_fit, files_of, numbers_of}
use Rattle.journal_form.specs.Meaning.{Standing, distinct, file_fits}
use Rattle.journal_replay.specs.declared.replay.Replay.{Replay}
use Rattle.journal_replay.specs.declared.span.Span.{Span}
use Rattle.journal_replay.specs.Lookups.{Finds, Lookup, added, all_take, counted_from, marks, span_numbers, without}

abbrev pub numbers_in : List ListedFile → List ℕ
numbers_in files = map (λ f. f.file) files

-- the replay has the versions' numbers and the files of the current version, which stand for a journal of form 1 without index files
pub record HasCurrent (replay : Replay) (s : Standing) : Type 0 where
  pub form : s.form ≡ 1
  pub levels : s.levels ≡ None
  pub floor : replay.floor ≡ s.versions.floor
  pub current : replay.current ≡ current_number s.versions
  pub next_file : replay.next_file ≡ s.versions.next_file
  pub rowsets : map numbers_in s.versions.current.rowsets ≡ map span_numbers replay.rowsets.items
  pub files : Finds (get nat_cmp replay.files) (files_of s.versions.current.rowsets)
  pub once : distinct (numbers_in (files_of s.versions.current.rowsets)) ≡ true
  pub fit : list_all file_fits (files_of s.versions.current.rowsets) ≡ true
  pub below : all_below s.versions.next_file (numbers_in (files_of s.versions.current.rowsets)) ≡ true

-- What was replayed means this.
pub record Follows (replay : Replay) (s : Standing) : Type 0 where
  pub edit : replay.edit ≡ s.edit
  pub has : HasCurrent replay s

-- the step is one after which the replay has what is current, or it is none
abbrev pub Moves : Truth → Option Standing → Replay → Type 0
Moves true next replay = (t : Standing) × (next ≡ Some t) × HasCurrent replay t
Moves false next replay = next ≡ None

-- the step is one that the replay has made, or it is none
abbrev pub Goes : Truth → Option Standing → Replay → Type 0
Goes true next replay = (t : Standing) × (next ≡ Some t) × Follows replay t
Goes false next replay = next ≡ None

-- ---- by the replay's own fields

-- new files as a rowset, but no file is none
abbrev pub new_rowset_numbers : List NewFile → List (List ℕ)
new_rowset_numbers [] = []
new_rowset_numbers (file ∷ files) = counted_from file.file (length (file ∷ files)) ∷ []

-- rowsets by the numbers of their files
abbrev pub all_numbers : List Span → List (List ℕ)
all_numbers spans = map span_numbers spans

abbrev pub option_spans : Option Span → List Span
option_spans None = []
option_spans (Some span) = span ∷ []

-- the number that the next file has
abbrev pub next_number : ℕ → Option Span → ℕ
next_number next None = next
next_number next (Some span) = span.first + span.count

abbrev pub publish_takes : Replay → ℕ → List NewFile → List DeadRows → Truth
publish_takes r version files changed =
    (version == r.current + 1) && (nat_lt version bound && (nat_lt ((r.current - r.floor) + 1) 1000
    && (files_fit r.next_file (bound - 1) files && all_take 0 (added files (get nat_cmp r.files)) changed)))

pub record HasPublished (version : ℕ) (files : List NewFile) (changed : List DeadRows) (old new : Replay) : Type 0 where
  pub floor : new.floor ≡ old.floor
  pub current : new.current ≡ version
  pub next_file : new.next_file ≡ above old.next_file (numbers_of files)
  pub rowsets : all_numbers new.rowsets.items ≡ all_numbers old.rowsets.items ++ new_rowset_numbers files
  pub lookup : (n : ℕ) → get nat_cmp new.files n ≡ marks changed (added files (get nat_cmp old.files)) n

-- the files of all but the first rowsets
abbrev pub files_left : Replay → ℕ → Lookup
files_left r replaced = without (flat_map span_numbers (take replaced r.rowsets.items)) (get nat_cmp r.files)

abbrev pub compact_takes : Replay → ℕ → ℕ → List NewFile → List DeadRows → Truth
compact_takes r version replaced files changed =
    (version == r.current) && (nat_le replaced (length r.rowsets.items)
    && (files_fit r.next_file (bound - 1) files && all_take 0 (added files (files_left r replaced)) changed))

pub record HasCompacted (replaced : ℕ) (files : List NewFile) (changed : List DeadRows) (old new : Replay) : Type 0 where
  pub floor : new.floor ≡ old.floor
  pub current : new.current ≡ old.current
  pub next_file : new.next_file ≡ above old.next_file (numbers_of files)
  pub rowsets : all_numbers new.rowsets.items ≡ new_rowset_numbers files ++ drop replaced (all_numbers old.rowsets.items)
  pub lookup : (n : ℕ) → get nat_cmp new.files n ≡ marks changed (added files (files_left old replaced)) n

-- everything but the floor stays
pub record HasRaised (floor : ℕ) (old new : Replay) : Type 0 where
  pub floor_now : new.floor ≡ floor
  pub current : new.current ≡ old.current
  pub next_file : new.next_file ≡ old.next_file
  pub rowsets : new.rowsets.items ≡ old.rowsets.items
  pub files : (n : ℕ) → get nat_cmp new.files n ≡ get nat_cmp old.files n
