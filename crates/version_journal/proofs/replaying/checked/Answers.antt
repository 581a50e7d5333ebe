use Rattle.std.proofs.Common.{sym, ◌∙◌}
use Rattle.version_journal.proofs.BodyFacts.{not_built}
use Rattle.version_journal.proofs.replaying.checked.Goals as goal

pub returns-then-not-is_read : goal.returns-then-not-is_read
returns-then-not-is_read c told is built =
    not_built c.args.body.now c.args.read.edit c.args.edit c.args.read.told c.requires (sym c.is_read.ensures ∙ c.if-not-is_read.true) told is built
