use Rattle.std.proofs.Common.{◌≡◌, ◌+◌, ◌-◌, ◌≤◌, ◌++◌, drop, length}
use Rattle.std.specs.List.{flat_map}
use Rattle.column_page.specs.Page.{run_bytes, runs}
use Rattle.column_page.specs.Texts.{lent}
use Rattle.column_page.proofs.runs.runs_within.Given as goal

abbrev pub invariant-loop-start : goal.invariant-loop-start
invariant-loop-start l = record {
  within : l.start ≤ length l.cells;
  few : l.count ≤ l.start;
  counted : l.count + length (runs (drop l.start (lent l.cells))) ≡ length (runs (lent l.cells));
  written : l.body.items ++ flat_map run_bytes (runs (drop l.start (lent l.cells))) ≡ flat_map run_bytes (runs (lent l.cells));
}

abbrev pub decreases-loop-start : goal.decreases-loop-start
decreases-loop-start l = length l.initial.cells - l.start
