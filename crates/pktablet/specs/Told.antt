-- What the program says beside a report.
use Rattle.std.specs.Prelude.{◌≡◌, ◌⊎◌, ℕ, List, [], ◌∷◌, Bool as Truth, true, false, is_some, Option, Some, None}
use Rattle.command_line.specs.Words.{asked_by}
use Rattle.dev_host.specs.Silent.{silent_view}
use Rattle.tablet_run.specs.Runs.{Ends, Setting}
use Rattle.tablet_run.specs.declared.causes.Cause.{Cause}
use Rattle.tablet_run.specs.declared.causes.Cause.TheVariants as cause

-- a word that stands alone and asks for a text
abbrev pub asks_alone : List (List ℕ) → Truth
asks_alone [] = false
asks_alone (word ∷ []) = is_some (asked_by word)
asks_alone (a ∷ b ∷ words) = false

-- a run over the host's files, standard output and a folder, of which nothing is known but how many faults were counted:
-- what it is given and what it leaves
abbrev pub on_host : List (List ℕ) → ℕ → Setting
on_host words faults =
    record { files = None; words = words; before = None; now = None; store = silent_view 0; left = silent_view faults }

-- how a run of these words ends there
abbrev pub EndsOnHost : List (List ℕ) → Cause → Type 0
EndsOnHost words c = (faults : ℕ) × Ends (on_host words faults) c

-- a run could not be begun: its words could not be read, or listed
abbrev pub IsNotBegun : Cause → Type 0
IsNotBegun c = (c ≡ cause.Memory) ⊎ (c ≡ cause.Words)

-- what a single word asks for could not be printed, or was
abbrev pub IsPrinted : Cause → Type 0
IsPrinted c = (c ≡ cause.None) ⊎ (c ≡ cause.Memory) ⊎ (c ≡ cause.Sink)

-- how the program ends by its words: what a single word asks for is printed, and all else is a run
abbrev pub EndsAs : List (List ℕ) → Cause → Type 0
EndsAs words c = (IsPrinted c × ((c ≡ cause.None) → asks_alone words ≡ true)) ⊎ IsNotBegun c
    ⊎ ((asks_alone words ≡ false) × EndsOnHost words c)

-- the table's file or the script's, by why a run ended
abbrev pub file_by : Cause → List ℕ → List ℕ → Option (List ℕ)
file_by (cause.Table f) table script = Some table
file_by (cause.OtherSchema t) table script = Some table
file_by (cause.Script f) table script = Some script
file_by (cause.Unbuilt n) table script = Some script
file_by _ table script = None

-- and as the words name it
abbrev pub file_told : Cause → List (List ℕ) → Option (List ℕ)
file_told c [] = None
file_told c (a ∷ []) = None
file_told c (a ∷ b ∷ []) = None
file_told c (a ∷ table ∷ script ∷ []) = file_by c table script
file_told c (a ∷ b ∷ d ∷ e ∷ words) = None
