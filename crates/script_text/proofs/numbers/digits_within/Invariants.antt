use Rattle.std.proofs.Common.{◌≡◌, ◌≤◌, drop}
use Rattle.cell_text.specs.Cells.{digits_after}
use Rattle.script_text.proofs.numbers.digits_within.Given as goal

abbrev pub invariant-loop-byte : goal.invariant-loop-byte
invariant-loop-byte l = record {
  small : l.number ≤ 18446744073709551615;
  rest : digits_after l.number (drop l.byte-index l.bytes) ≡ digits_after 0 l.bytes;
}
