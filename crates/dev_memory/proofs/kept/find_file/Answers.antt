use Rattle.std.proofs.Common.{◌≡◌, ◌∙◌, nat_eq, true, false, ◌&&◌, Some, get_or, sym, ap, arith}
use Rattle.dev_memory.specs.Disk.{stands_at}
use Rattle.dev_memory.specs.declared.call.File.{File}
use Rattle.dev_memory.proofs.Files.{find-here, find-later}
use Rattle.dev_memory.proofs.kept.find_file.Goals as goal

pub returns-then-is_standing : goal.returns-then-is_standing
returns-then-is_standing c =
    let d = c.index-files-i.result in
    let test : (nat_eq (get_or c.args.files.now c.loop-i.i d).number c.args.number && stands_at c.args.calls (get_or c.args.files.now c.loop-i.i d)) ≡ true =
    ap (λ (f : File). nat_eq f.number c.args.number && stands_at c.args.calls f) (sym c.index-files-i.is) ∙ sym c.is_standing.ensures ∙ c.if-is_standing.true in
    ap (λ (f : File). Some f.bytes) c.index-files-i.is ∙ sym (find-here c.args.number c.args.calls c.args.files.now c.loop-i.i d (omega arith) test) ∙ c.loop-i.invariant

pub loop-i-preserved : goal.loop-i-preserved
loop-i-preserved c =
    let d = c.index-files-i.result in
    let test : (nat_eq (get_or c.args.files.now c.loop-i.i d).number c.args.number && stands_at c.args.calls (get_or c.args.files.now c.loop-i.i d)) ≡ false =
    ap (λ (f : File). nat_eq f.number c.args.number && stands_at c.args.calls f) (sym c.index-files-i.is) ∙ sym c.is_standing.ensures ∙ c.if-is_standing.false in
    sym (find-later c.args.number c.args.calls c.args.files.now c.loop-i.i d (omega arith) test) ∙ c.loop-i.invariant
