use Rattle.std.proofs.Common.{◌≡◌, ◌∙◌, None}
use Rattle.core_partial.proofs.RowFacts.{index-at, no-row}
use Rattle.core_partial.proofs.remaking.old_row.Goals as goal

pub returns-in_default-clause-row : goal.returns-in_default-clause-row
returns-in_default-clause-row g c b h open_ asks =
    let st = c.args.state.now in
    no-row g.S.Store.view st c.args.key.now.key
    (index-at c.args.schema.now st.contents c.args.key.now None c.requires.schema c.requires.coded (c.requires.stored ∙ c.in_default.is)) b h open_
