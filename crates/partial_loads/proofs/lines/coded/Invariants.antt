use Rattle.std.proofs.Common.{◌≡◌}
use Rattle.std.specs.Prelude.{All}
use Rattle.pk_model.specs.Tables.{key_named}
use Rattle.partial_loads.specs.Lines.{IsCoded, IsShortKey, ops_of}
use Rattle.partial_loads.proofs.lines.coded.Given as goal

abbrev pub invariant-loop-op : goal.invariant-loop-op
invariant-loop-op l = record {
  ops : ops_of l.lines.items ≡ l.yielded;
  coded : All (IsCoded l.schema) l.lines.items;
  rest : All (λ op. IsShortKey l.schema (key_named op)) l.op-iterator.rest.items;
}
