use Rattle.std.proofs.Common.{◌≡◌, ℕ, ◌+◌, length, map, sym, ◌∙◌, ap, arith}
use Rattle.std.specs.List.{list_all}
use Rattle.dev_memory.specs.Kept.{KeptView, has_short_bytes, held, grown, with_files}
use Rattle.dev_memory.specs.Disk.{deeds, ChangedFiles, settled_by, closed}
use Rattle.dev_memory.proofs.Calls.{length-deeds}
use Rattle.dev_memory.proofs.Files.{settled-closed, short-closed, whole-new}
use Rattle.dev_memory.proofs.Growing.{keep_files, files_after}
use Rattle.dev_memory.proofs.kept.Kept.forget_others.Goals as goal

pub invariant_of-self : goal.invariant_of-self
invariant_of-self c =
    let count : c.len.result ≡ length (deeds c.self.inside.pieces.items c.self.inside.calls.items) = omega (arith, c.len.ensures, c.self.inside.calls.ok, length-deeds c.self.inside.calls.items c.self.inside.pieces.items) in
    let files = whole-new (closed c.args.keep.now (c.len.result + 1)) c.self.inside.files.len c.self.inside.files.items c.deref_mut.result.now c.close_others.new.files (sym c.self.inside.files.ok.0) c.deref_mut.ensures.value c.close_others.ensures in
    let settled = ap (list_all (settled_by (length (deeds c.self.inside.pieces.items c.self.inside.calls.items) + 1))) files
    ∙ ap (λ (n : ℕ). list_all (settled_by (n + 1)) (map (closed c.args.keep.now (c.len.result + 1)) c.self.inside.files.items)) (sym count)
    ∙ settled-closed c.args.keep.now (length (deeds c.self.inside.pieces.items c.self.inside.calls.items)) (c.len.result + 1) c.self.inside.files.items (omega (arith, count)) c.self.invariant.valid.settled in
    let short = ap (list_all has_short_bytes) files ∙ short-closed c.args.keep.now (c.len.result + 1) c.self.inside.files.items c.self.invariant.valid.short_files in
    keep_files _ _ _ _ _ _ _ _ _ _ c.self.invariant _ _ _ _ _ c.push_reserved.ensures.items settled short
    (omega (arith, c.self.invariant.for_calls, c.push_reserved.ensures.len, c.push_reserved.ensures.capacity))
    (omega (arith, c.self.invariant.for_files))

pub returns-clause-valid : goal.returns-clause-valid
returns-clause-valid c = (invariant_of-self c).valid

pub returns-clause-short : goal.returns-clause-short
returns-clause-short c is =
    let seen : length (deeds c.self.inside.pieces.items c.self.inside.calls.items) ≡ length c.args.self.now.held.deeds = ap (λ (k : KeptView). length k.held.deeds) c.self.view_is in
    omega (arith, is, seen, c.self.inside.calls.ok, c.self.inside.calls.small, length-deeds c.self.inside.calls.items c.self.inside.pieces.items)

pub returns-clause-forgot : goal.returns-clause-forgot
returns-clause-forgot c =
    let seen : length (deeds c.self.inside.pieces.items c.self.inside.calls.items) ≡ length c.args.self.now.held.deeds = ap (λ (k : KeptView). length k.held.deeds) c.self.view_is in
    let count : c.len.result + 1 ≡ length c.args.self.now.held.deeds + 1 = omega (arith, seen, c.len.ensures, c.self.inside.calls.ok, length-deeds c.self.inside.calls.items c.self.inside.pieces.items) in
    let files = whole-new (closed c.args.keep.now (c.len.result + 1)) c.self.inside.files.len c.self.inside.files.items c.deref_mut.result.now c.close_others.new.files (sym c.self.inside.files.ok.0) c.deref_mut.ensures.value c.close_others.ensures in
    files_after _ _ _ _ _ _ _ _ _ _ c.self.invariant _ _ c.push_reserved.ensures.items
    ∙ ap (with_files (grown (held c.self.inside.start.items c.self.inside.pieces.items c.self.inside.calls.items c.self.inside.files.items) ChangedFiles))
    (files ∙ ap (λ (n : ℕ). map (closed c.args.keep.now n) c.self.inside.files.items) count)
    ∙ ap (λ (k : KeptView). with_files (grown k.held ChangedFiles) (map (closed c.args.keep.now (length c.args.self.now.held.deeds + 1)) k.held.files)) c.self.view_is
