use Rattle.std.proofs.Common.{◌∙◌, ◌<◌, ◌++◌, sym, ap, arith, append_assoc, length}
use Rattle.load_csv.proofs.LoadFacts.{marks-step}
use Rattle.load_csv.proofs.headers.marks_of.Goals as goal

pub loop-i-preserved : goal.loop-i-preserved
loop-i-preserved c =
    let within : c.loop-i.i < length c.args.schema.now.columns = omega (arith, c.count-i-end.ensures, c.loop-i-test.true) in
    let step = marks-step c.args.fields.now c.args.schema.now.columns c.loop-i.i within in
    rw (c.in_ok-push.ensures.items, append_assoc, c.is_among.ensures) (ap (λ ms. c.loop-i.found.items ++ ms) (sym step) ∙ c.loop-i.invariant)
