use Rattle.std.proofs.Common.{◌≤◌, take, length}
use Rattle.column_page.specs.Texts.{lent, Knows}
use Rattle.column_page.proofs.words.words_within.Given as goal

abbrev pub invariant-loop-cell : goal.invariant-loop-cell
invariant-loop-cell l = record {
  few : length l.words.words.keys ≤ l.cell-index;
  known : Knows l.words.words.keys l.words.places.items l.words.len (take l.cell-index (lent l.cells));
}
