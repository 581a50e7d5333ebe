use Rattle.std.proofs.Common.{arith, sym, ◌∙◌}
use Rattle.cell_text.proofs.NumberLemmas.{above}
use Rattle.script_text.proofs.numbers.digits_within.Goals as goal

pub returns-then-number-gt-MOST : goal.returns-then-number-gt-MOST
returns-then-number-gt-MOST c =
    above c.loop-byte.number c.loop-byte.byte-index 18446744073709551615 c.args.bytes.now _ c.loop-byte-test.true c.loop-byte.invariant.rest
    (sym c.is_ascii_digit.ensures.value ∙ c.if-not-is_ascii_digit.false) (omega arith)
