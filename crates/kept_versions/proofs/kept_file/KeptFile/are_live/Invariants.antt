use Rattle.std.proofs.Common.{◌≡◌, drop}
use Rattle.kept_versions.specs.Marking.{rows_live}
use Rattle.kept_versions.proofs.kept_file.KeptFile.are_live.Given as goal

abbrev pub invariant-loop-row : goal.invariant-loop-row
invariant-loop-row l = rows_live l.self (drop l.row-index l.rows) ≡ rows_live l.self l.rows
