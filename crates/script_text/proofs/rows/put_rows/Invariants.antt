use Rattle.std.proofs.Common.{◌≡◌, ◌++◌, drop, length, take}
use Rattle.script_text.specs.Texts.{rows_text}
use Rattle.script_text.proofs.rows.put_rows.Given as goal

abbrev pub invariant-loop-row : goal.invariant-loop-row
invariant-loop-row l = record {
  text : l.text.items ++ rows_text (drop l.row-index l.rows) ≡ l.initial.text.items ++ rows_text l.rows;
  before : take (length l.initial.text.items) l.text.items ≡ l.initial.text.items;
}
