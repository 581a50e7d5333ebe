use Rattle.std.proofs.Common.{◌∙◌}
use Rattle.dev_memory.proofs.Searching.{found}
use Rattle.dev_memory.proofs.kept.is_listed.Goals as goal

pub returns : goal.returns
returns c = c.is_ok.ensures.value ∙ found c.args.list.now c.args.number c.binary_search.result c.requires c.binary_search.ensures.position
