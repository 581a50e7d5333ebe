use Rattle.std.proofs.Common.{◌≡◌, drop, map, take}
use Rattle.rowsets.specs.Indexing.{CodeMove}
use Rattle.core_partial.proofs.MakingFacts.{AreMadeSoFar}
use Rattle.core_partial.proofs.making.make_keys.Given as goal

abbrev pub invariant-loop-entry : goal.invariant-loop-entry
invariant-loop-entry l = record {
  left : l.left.items ≡ drop l.entry-index l.initial.left.items;
  olds : l.old_rows.items ≡ drop l.entry-index l.initial.old_rows.items;
  made : AreMadeSoFar l.schema l.given (take l.entry-index l.initial.left.items) (map (λ (e : CodeMove). e.1) (take l.entry-index l.located)) (take l.entry-index l.initial.old_rows.items) l.made;
}
