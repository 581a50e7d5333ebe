use Rattle.std.proofs.Common.{ap, length, subst, sym, ◌<◌}
use Rattle.row_merge.specs.Cursors.{front_at}
use Rattle.row_merge.proofs.BracketFacts.{leader_there}
use Rattle.row_merge.proofs.brackets.winner.Goals as goal

pub better-requires-clause-a_there : goal.better-requires-clause-a_there
better-requires-clause-a_there c = subst (λ i. i < length c.args.cursors.now) (sym c.first.ensures) (leader_there c.args.schema.now (length c.args.cursors.now) (front_at c.args.cursors.now) c.args.left.now c.requires.left)

pub better-requires-clause-b_there : goal.better-requires-clause-b_there
better-requires-clause-b_there c = subst (λ i. i < length c.args.cursors.now) (sym c.first-2.ensures) (leader_there c.args.schema.now (length c.args.cursors.now) (front_at c.args.cursors.now) c.args.right.now c.requires.right)
