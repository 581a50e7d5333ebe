use Rattle.std.proofs.Common.{◌≡◌, ◌++◌, map, take, drop}
use Rattle.core_publish.specs.Publishing.{entry_back}
use Rattle.core_publish.proofs.entries.number_back.Given as goal

abbrev pub invariant-loop-entry : goal.invariant-loop-entry
invariant-loop-entry l = l.entry-items ≡ map (entry_back l.first) (take l.entry-index l.fn.entries.items) ++ drop l.entry-index l.fn.entries.items
