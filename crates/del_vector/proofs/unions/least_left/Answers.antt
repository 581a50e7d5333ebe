use Rattle.std.proofs.Common.{arith, ◌≡◌, ◌∙◌, ◌∷◌, ◌+◌, ap, sym, drop, slice_index_or}
use Rattle.rowsets.specs.Marks.{with_rows}
use Rattle.del_vector.proofs.DeadFacts.{new_least, old_least, both_least}
use Rattle.del_vector.proofs.unions.least_left.Goals as goal
use Rattle.del_vector.proofs.unions.least_left.Goals.{then-dead_from-dead+else-from-row+else-from-row-2, else-dead_from-dead}

pub returns-then-from-row-clause-least : goal.returns-then-from-row-clause-least
returns-then-from-row-clause-least c =
    old_least c.args.rows.now c.args.dead.now c.args.rows_from c.args.dead_from 0 0 c.requires.rows.rise c.requires.dead
    c.if-dead_from-dead.true (λ _. omega (arith, c.if-from-row.true, c.from.ensures))

pub returns-then-from-row-2-clause-least : goal.returns-then-from-row-2-clause-least
returns-then-from-row-2-clause-least c =
    let same : slice_index_or c.args.dead.now c.args.dead_from 0 ≡ slice_index_or c.args.rows.now c.args.rows_from 0 = sym c.from-then-dead_from-dead.ensures ∙ c.if-from-row-2.true in
    both_least c.args.rows.now c.args.dead.now c.args.rows_from c.args.dead_from 0 0 c.requires.rows.rise c.requires.dead
    (omega (arith, c.requires.rows_within, c.if-rows_from-rows.false)) c.if-dead_from-dead.true same
    ∙ ap (λ n. n ∷ with_rows (drop (c.args.rows_from + 1) c.args.rows.now) (drop (c.args.dead_from + 1) c.args.dead.now)) (sym same)

pub returns-clause-least : goal.returns-clause-least
returns-clause-least c =
    new_least c.args.rows.now c.args.dead.now c.args.rows_from c.args.dead_from 0 0 c.requires.rows.rise c.requires.dead
    (omega (arith, c.requires.rows_within, c.if-rows_from-rows.false))
    (λ lt. elim c.if-dead_from-dead.branch [
      | then-dead_from-dead+else-from-row+else-from-row-2 w ↦ omega (arith, w.if-from-row.false, w.from.ensures, w.from-then-dead_from-dead.ensures, w.if-from-row-2.false)
      | else-dead_from-dead w ↦ absurd (omega (arith, w.if-dead_from-dead.false))
    ])
