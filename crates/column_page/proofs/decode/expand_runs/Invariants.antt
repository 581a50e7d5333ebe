use Rattle.std.proofs.Common.{◌≤◌, List, ℕ, length}
use Rattle.column_page.specs.Page.{AllFit, Cell}
use Rattle.column_page.specs.Reading.{HaveRunOut, RunsOf}
use Rattle.column_page.proofs.decode.expand_runs.Given as goal

abbrev pub invariant-loop-i : goal.invariant-loop-i
invariant-loop-i l = record {
  fit : AllFit l.column l.values.items;
  few : length l.values.items ≤ l.count;
  within : l.at ≤ length l.bytes;
  so_far : (rs : List (ℕ × Cell)) → RunsOf l.column l.total l.count l.bytes rs → HaveRunOut l.column l.values.items l.i l.at l.bytes rs;
}
