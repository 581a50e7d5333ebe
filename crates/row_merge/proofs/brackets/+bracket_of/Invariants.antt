use Rattle.std.proofs.Common.{◌-◌}
use Rattle.row_merge.proofs.brackets.+bracket_of.Given as goal

abbrev pub decreases-bracket_of : goal.decreases-bracket_of
decreases-bracket_of l = l.to - l.from
