use Rattle.std.proofs.Common.{◌∙◌, sym}
use Rattle.index_file.proofs.IntactFacts.{found_fits}
use Rattle.index_file.proofs.look_ups.find_place.Goals as goal

pub with_base-requires : goal.with_base-requires
with_base-requires c = found_fits c.args.base c.args.key.now c.args.entries.now c.in-Some.entry c.requires (sym c.in-Some.is ∙ c.find_entry.ensures)
