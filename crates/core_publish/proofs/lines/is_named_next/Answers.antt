use Rattle.std.proofs.Common.{◌∙◌}
use Rattle.core_publish.specs.Lines.{key_at}
use Rattle.core_publish.specs.declared.lines.Rank.{Rank}
use Rattle.core_publish.proofs.LineFacts.{next-named}
use Rattle.core_publish.proofs.lines.is_named_next.Goals as goal

pub returns-in-len1-up : goal.returns-in-len1-up
returns-in-len1-up c =
    let none : Rank = record { number = 0; line = 0 } in
    c.name_one_key.ensures ∙ next-named c.args.ops.now (key_at c.args.ops.now c.args.rank.now.line) c.args.later.now none c.in-len1-up.len_at_least
