use Rattle.std.proofs.Common.{◌≡◌, ◌≤◌, ◌∙◌, ◌++◌, sym, ap, arith, append-nil, drop, length}
use Rattle.load_csv.proofs.LoadFacts.{drop-end, pick-none}
use Rattle.load_csv.proofs.lines.picked.Goals as goal

pub returns : goal.returns
returns c =
    let all : length c.loop-i.cells.items ≤ c.loop-i.i = omega (arith, c.loop-i-test.false, c.len-i-end.ensures, c.loop-i.invariant.width) in
    let none = pick-none (drop c.loop-i.i c.args.marks.now) (drop c.loop-i.i c.loop-i.cells.items) (drop-end c.loop-i.cells.items c.loop-i.i all) in
    sym (append-nil c.loop-i.kept) ∙ ap (λ xs. c.loop-i.kept ++ xs) (sym none) ∙ c.loop-i.invariant.rest
