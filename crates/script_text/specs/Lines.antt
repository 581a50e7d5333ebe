-- What each line has.
use Rattle.std.specs.Prelude.{◌≤◌, ⊤}
use Rattle.script_text.specs.declared.lines.ScriptLine.{ScriptLine}
use Rattle.script_text.specs.declared.lines.ScriptLine.TheVariants.{Skipped, PhaseEnd, Work}
use Rattle.script_text.specs.Answers.{HasTextName}

-- a job is in a lane from 1 to 8, and its file has a name of UTF-8
abbrev pub IsLine : ScriptLine → Type 0
IsLine Skipped = ⊤
IsLine PhaseEnd = ⊤
IsLine (Work lane act) = (1 ≤ lane) × (lane ≤ 8) × HasTextName act
