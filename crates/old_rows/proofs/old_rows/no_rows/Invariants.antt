use Rattle.old_rows.specs.Reading.{HasNoOlds}
use Rattle.old_rows.proofs.old_rows.no_rows.Given as goal

abbrev pub invariant-loop : goal.invariant-loop
invariant-loop l = HasNoOlds l.index l.olds.items
