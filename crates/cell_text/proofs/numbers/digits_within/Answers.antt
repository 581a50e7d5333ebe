use Rattle.std.proofs.Common.{arith, sym, ◌∙◌}
use Rattle.cell_text.proofs.NumberLemmas.{above}
use Rattle.cell_text.proofs.numbers.digits_within.Goals as goal

pub returns-then-number-gt-TENTH : goal.returns-then-number-gt-TENTH
returns-then-number-gt-TENTH c =
    above c.loop-byte.number c.loop-byte.byte-index c.args.most c.args.bytes.now _ c.loop-byte-test.true c.loop-byte.invariant.rest
    (sym c.is_ascii_digit.ensures.value ∙ c.if-not-is_ascii_digit.false) (omega arith)

pub returns-then-number-most : goal.returns-then-number-most
returns-then-number-most c =
    above c.loop-byte.number c.loop-byte.byte-index c.args.most c.args.bytes.now _ c.loop-byte-test.true c.loop-byte.invariant.rest
    (sym c.is_ascii_digit.ensures.value ∙ c.if-not-is_ascii_digit.false) (omega arith)
