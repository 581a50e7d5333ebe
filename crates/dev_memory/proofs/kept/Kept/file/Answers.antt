use Rattle.std.proofs.Common.{◌≡◌, ℕ, List, length, ◌∙◌, ap, arith}
use Rattle.std.specs.Ordering.{nat_cmp}
use Rattle.std.specs.FinMap.Entries.{find}
use Rattle.dev_memory.specs.Kept.{KeptView}
use Rattle.dev_memory.specs.Disk.{deeds, entries_at}
use Rattle.dev_memory.specs.declared.call.File.{File}
use Rattle.dev_memory.proofs.Calls.{length-deeds}
use Rattle.dev_memory.proofs.kept.Kept.file.Goals as goal

pub returns : goal.returns
returns c =
    let count : c.len.result ≡ length (deeds c.self.inside.pieces.items c.self.inside.calls.items) = omega (arith, c.len.ensures, c.self.inside.calls.ok, length-deeds c.self.inside.calls.items c.self.inside.pieces.items) in
    c.find_file.ensures
    ∙ ap (λ (l : List File). find nat_cmp c.args.number (entries_at c.len.result l)) c.deref.ensures.value
    ∙ ap (λ (n : ℕ). find nat_cmp c.args.number (entries_at n c.self.inside.files.items)) count
    ∙ ap (λ (k : KeptView). find nat_cmp c.args.number (entries_at (length k.held.deeds) k.held.files)) c.self.view_is
