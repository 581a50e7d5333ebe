use Rattle.std.proofs.Common.{◌≡◌, ◌++◌, map, take}
use Rattle.core_publish.specs.Publication.{entry_from}
use Rattle.core_partial.specs.Prepared.{made_move}
use Rattle.core_partial.proofs.ready.moves_of.Given as goal

abbrev pub invariant-loop-key : goal.invariant-loop-key
invariant-loop-key l = l.index.items ≡ map (entry_from l.first) (map made_move (take l.key-index l.keys))

abbrev pub invariant-loop-entry : goal.invariant-loop-entry
invariant-loop-entry l = l.index.items ≡ map (entry_from l.first) (map made_move l.keys) ++ map (entry_from l.more) (take l.entry-index l.moves)
