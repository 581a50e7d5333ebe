use Rattle.std.proofs.Common.{◌∙◌, ap}
use Rattle.std.specs.List.{list_all}
use Rattle.dev_memory.specs.Disk.{settled_by}
use Rattle.dev_memory.specs.Kept.{at_first, has_short_bytes}
use Rattle.dev_memory.proofs.Beginning.{begins, first-settled, first-short}
use Rattle.dev_memory.proofs.store.MemStore.of_image.Goals as goal

pub new-requires-clause-settled : goal.new-requires-clause-settled
new-requires-clause-settled c = ap (list_all (settled_by 0)) c.in_ok-files.ensures ∙ first-settled c.args.image.files.items

pub new-requires-clause-short_files : goal.new-requires-clause-short_files
new-requires-clause-short_files c = ap (list_all has_short_bytes) c.in_ok-files.ensures ∙ first-short c.args.image.files.items c.requires.short.files

pub returns-clause-begins : goal.returns-clause-begins
returns-clause-begins c = begins c.args.image.areas.items c.args.image.files.items c.in_ok-kept.kept.held c.in_ok-kept.kept.spare_calls c.in_ok-kept.kept.spare_bytes (c.in_ok-kept.ensures.held ∙ ap (at_first c.args.image.areas.items) c.in_ok-files.ensures)
