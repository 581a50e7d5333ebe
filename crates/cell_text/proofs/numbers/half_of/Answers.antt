use Rattle.std.proofs.Common.{◌*◌, ◌-◌, ◌≤◌, arith}
use Rattle.std.proofs.Math.Pow.{pow_mono}
use Rattle.cell_text.proofs.numbers.half_of.Goals as goal

pub returns-clause-within : goal.returns-clause-within
returns-clause-within c =
    let top : 8 * c.args.width - 1 ≤ 127 = omega arith in
    omega (arith, pow_mono top)
