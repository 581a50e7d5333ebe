use Rattle.std.proofs.Common.{arith, length-append, ap}
use Rattle.column_page.proofs.OneCell.{length-number}
use Rattle.std.proofs.Common.{◌≡◌, length, ◌++◌}
use Rattle.column_page.specs.CellBytes.{number_bytes}
use Rattle.column_page.proofs.reads.read_number.Goals as goal

pub returns-in-None-clause-none : goal.returns-in-None-clause-none
returns-in-None-clause-none g c is v rest number same =
    let short = c.in-None.ensures.cases in
    let len = length-number g.row.W v number in
    let all : length (number_bytes g.row.W v ++ rest) ≡ length c.args.bytes.now = ap length same in
    omega (arith, length-append (number_bytes g.row.W v) rest, len, all, short)
