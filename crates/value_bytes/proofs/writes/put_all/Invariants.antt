use Rattle.std.proofs.Common.{◌≡◌, ◌++◌, take, length}
use Rattle.std.specs.List.{flat_map}
use Rattle.value_bytes.proofs.writes.put_all.Given as goal

abbrev pub invariant-loop-item : goal.invariant-loop-item
invariant-loop-item g l = record {
  ok : l.out.items ≡ l.fn.out.items ++ flat_map g.F.FieldWriter.field.bytes (take l.item-index l.items);
  before : take (length l.fn.out.items) l.out.items ≡ l.fn.out.items;
}
