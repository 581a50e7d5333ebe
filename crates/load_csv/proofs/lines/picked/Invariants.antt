use Rattle.std.proofs.Common.{◌≡◌, ◌≤◌, ◌+◌, ◌++◌, drop, length}
use Rattle.load_csv.specs.Lines.{pick}
use Rattle.load_csv.proofs.lines.picked.Given as goal

abbrev pub invariant-loop-i : goal.invariant-loop-i
invariant-loop-i l = record {
  width : length l.cells.items ≡ length l.fn.cells.items;
  rest : l.kept ++ pick (drop l.i l.marks) (drop l.i l.cells.items) ≡ pick l.marks l.fn.cells.items;
}
