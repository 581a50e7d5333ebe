use Rattle.std.proofs.Common.{◌∙◌, ap, arith, length, rules}
use Rattle.dev_memory.specs.Kept.{KeptView}
use Rattle.dev_memory.specs.Disk.{disk_now, read_of}
use Rattle.dev_traits.specs.Image.{area_of}
use Rattle.dev_memory.proofs.Growing.{area_count, area_bytes}
use Rattle.dev_memory.proofs.kept.Kept.area.Goals as goal

pub index-requires : goal.index-requires
index-requires c = let size = area_count _ _ _ _ _ _ _ _ _ _ c.self.invariant in search rules

pub returns-clause-bytes : goal.returns-clause-bytes
returns-clause-bytes c = c.as_slice.ensures.bytes ∙ area_bytes _ _ _ _ _ _ _ _ _ _ c.self.invariant c.args.area c.index.result.now c.index.ensures c.requires ∙ ap (λ (k : KeptView). area_of (read_of (disk_now k.held)) c.args.area) c.self.view_is

pub returns-clause-short : goal.returns-clause-short
returns-clause-short c = omega (arith, ap length c.as_slice.ensures.bytes, c.as_slice.ensures.short)
