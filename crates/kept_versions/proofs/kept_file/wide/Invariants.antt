use Rattle.std.proofs.Common.{◌≡◌, take}
use Rattle.del_vector.specs.DeadRows.{AreRows}
use Rattle.kept_versions.proofs.kept_file.wide.Given as goal

abbrev pub invariant-loop-row : goal.invariant-loop-row
invariant-loop-row l = record {
  same : l.wide.items ≡ take l.row-index l.rows;
  small : AreRows l.wide.items;
}
