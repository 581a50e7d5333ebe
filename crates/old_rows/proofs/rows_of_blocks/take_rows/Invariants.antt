use Rattle.std.proofs.Common.{◌≡◌, length, take}
use Rattle.old_rows.proofs.TakeFacts.{FillsFirst}
use Rattle.old_rows.proofs.rows_of_blocks.take_rows.Given as goal

abbrev pub invariant-loop-w : goal.invariant-loop-w
invariant-loop-w l = record {
  fills : FillsFirst l.schema l.rows l.dead l.keys l.wanted (take l.w-index l.wanted) l.initial.olds.items l.olds.items;
  long : length l.olds.items ≡ length l.keys;
}
