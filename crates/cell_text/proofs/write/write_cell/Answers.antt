use Rattle.std.proofs.Common.{rules}
use Rattle.cell_text.proofs.TextLemmas.{number_back}
use Rattle.cell_text.proofs.write.write_cell.Goals as goal

pub returns-in-Num-clause-reads_back : goal.returns-in-Num-clause-reads_back
returns-in-Num-clause-reads_back c = number_back c.args.value.now c.in-Num.number c.in-Num.is (search rules)
