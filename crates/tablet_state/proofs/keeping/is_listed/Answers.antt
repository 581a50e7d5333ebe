use Rattle.std.proofs.Common.{◌∙◌}
use Rattle.tablet_state.proofs.KeepFacts.{searched_list}
use Rattle.tablet_state.proofs.keeping.is_listed.Goals as goal

pub returns : goal.returns
returns c = c.is_ok.ensures.value ∙ searched_list c.args.numbers.now c.args.number c.binary_search.result c.requires c.binary_search.ensures.position
