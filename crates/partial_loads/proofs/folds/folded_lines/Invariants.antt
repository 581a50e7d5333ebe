use Rattle.std.proofs.Common.{◌≡◌, length}
use Rattle.partial_loads.specs.Folded.{folded_lines}
use Rattle.partial_loads.proofs.FoldedFacts.{folded_onto}
use Rattle.partial_loads.proofs.folds.folded_lines.Given as goal

abbrev pub invariant-loop-line : goal.invariant-loop-line
invariant-loop-line l = folded_onto l.given l.when l.lines.items l.folded.items ≡ folded_lines l.given l.when l.fn.lines.items

abbrev pub decreases-loop-line : goal.decreases-loop-line
decreases-loop-line l = length l.lines.items
