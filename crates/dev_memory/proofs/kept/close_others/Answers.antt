use Rattle.std.proofs.Common.{◌∙◌, ◌++◌, ℕ, List, map, set, take, drop, get_or, refl, sym, ap, add-one, arith}
use Rattle.dev_memory.specs.Disk.{closed}
use Rattle.dev_memory.specs.declared.call.File.{File}
use Rattle.dev_memory.proofs.Files.{changed-step, changed-all}
use Rattle.dev_memory.proofs.kept.close_others.Goals as goal

pub loop-i-init : goal.loop-i-init
loop-i-init c = refl

pub loop-i-preserved : goal.loop-i-preserved
loop-i-preserved c =
    let g = closed c.args.keep.now c.args.now in
    let d = c.index-files-i.result in
    ap (set c.loop-i.files c.loop-i.i) c.close.ensures
    ∙ ap (λ (l : List File). set l c.loop-i.i (g (get_or l c.loop-i.i d))) c.loop-i.invariant
    ∙ changed-step g c.args.files.now c.loop-i.i d (omega arith)
    ∙ ap (λ (n : ℕ). map g (take n c.args.files.now) ++ drop n c.args.files.now) (sym (add-one c.loop-i.i))

pub returns : goal.returns
returns c = c.loop-i.invariant ∙ changed-all (closed c.args.keep.now c.args.now) c.args.files.now c.loop-i.i (omega arith)
