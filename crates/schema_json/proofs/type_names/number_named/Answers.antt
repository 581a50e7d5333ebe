use Rattle.std.proofs.Common.{arith, sym, ◌∙◌}
use Rattle.cell_text.proofs.NumberLemmas.{above}
use Rattle.schema_json.proofs.type_names.number_named.Goals as goal

pub returns-then-number-gt4294967295 : goal.returns-then-number-gt4294967295
returns-then-number-gt4294967295 c =
    above c.loop-digit.number c.loop-digit.digit-index 4294967295 c.args.digits.now _ c.loop-digit-test.true c.loop-digit.invariant.rest
    (sym c.is_ascii_digit.ensures.value ∙ c.if-not-is_ascii_digit.false) (omega arith)
