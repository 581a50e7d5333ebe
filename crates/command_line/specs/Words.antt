-- The words that the program takes.
use Rattle.std.specs.Prelude.{ℕ, List, [], ◌∷◌, Bool, true, false, not, ◌==◌, ◌&&◌, ◌||◌, if◌then◌else◌, codes, Option, Some, None}
use Rattle.std.specs.Prelude.{map}
use Rattle.std.specs.Str.{bytes_eq}
use Rattle.std.specs.Borrow.{Bor}
use Rattle.clap.specs.Simple.{App, new_app, new_rule, on_top, with_rule}
use Rattle.clap.specs.Walk.{Rule}
use Rattle.clap.specs.declared.builder.action.ArgAction.TheVariants.{Set}
use Rattle.command_line.specs.declared.Asked.{Asked}
use Rattle.command_line.specs.declared.Asked.TheVariants.{Help, Version}
use Rattle.command_line.specs.declared.Files.{Files}

-- a word that isn't empty and doesn't begin with a hyphen
abbrev pub is_plain : List ℕ → Bool
is_plain [] = false
is_plain (x ∷ xs) = not (x == 45)

pub record Named : Type 0 where
  pub table : List ℕ
  pub script : List ℕ

-- `run TABLE SCRIPT`, and no other words
abbrev pub files_of : List (List ℕ) → Option Named
files_of [] = None
files_of (a ∷ []) = None
files_of (a ∷ b ∷ []) = None
files_of (a ∷ b ∷ c ∷ []) =
    if bytes_eq a (codes "run") && (is_plain b && is_plain c) then Some (record { table = b; script = c }) else None
files_of (a ∷ b ∷ c ∷ d ∷ rest) = None

-- what a word that stands alone asks for
abbrev pub asked_by : List ℕ → Option Asked
asked_by word =
    if bytes_eq word (codes "--help") || bytes_eq word (codes "-h") then Some Help
    else if bytes_eq word (codes "--version") || bytes_eq word (codes "-V") then Some Version
    else None

-- the words behind references, and the files that an answer names
abbrev pub texts : List (Bor (List ℕ)) → List (List ℕ)
texts = map (λ s. s.now)

abbrev pub files_view : Files → Named
files_view f = record { table = f.table.now; script = f.script.now }

-- a word that is required
abbrev pub positional : List ℕ → Rule
positional id = record (new_rule id) { required = true; action = Some Set }

-- the command as `clap` sees it
abbrev pub command : App
command = with_rule (with_rule (with_rule (on_top (λ s. record s { no_binary_name = true }) (new_app (codes "pktablet"))) (positional (codes "job"))) (positional (codes "table"))) (positional (codes "script"))
