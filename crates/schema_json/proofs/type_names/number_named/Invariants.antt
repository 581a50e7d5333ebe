use Rattle.std.proofs.Common.{◌≡◌, ◌≤◌, drop}
use Rattle.cell_text.specs.Cells.{digits_after}
use Rattle.schema_json.proofs.type_names.number_named.Given as goal

abbrev pub invariant-loop-digit : goal.invariant-loop-digit
invariant-loop-digit l = record {
  small : l.number ≤ 4294967295;
  rest : digits_after l.number (drop l.digit-index l.digits) ≡ digits_after 0 l.digits;
}
