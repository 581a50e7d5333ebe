use Rattle.std.proofs.Common.{◌∙◌, sym}
use Rattle.load_csv.proofs.LoadFacts.{missing_from-step}
use Rattle.load_csv.proofs.headers.missing_column.Goals as goal

pub returns-then-not-is_among-clause-place : goal.returns-then-not-is_among-clause-place
returns-then-not-is_among-clause-place c =
    let step = missing_from-step c.args.fields.now c.args.columns.now c.loop-i.i c.loop-i-test.true in
    sym (rw (sym c.is_among.ensures ∙ c.if-not-is_among.true) at step) ∙ c.loop-i.invariant

pub loop-i-preserved : goal.loop-i-preserved
loop-i-preserved c =
    let step = missing_from-step c.args.fields.now c.args.columns.now c.loop-i.i c.loop-i-test.true in
    sym (rw (sym c.is_among.ensures ∙ c.if-not-is_among.false) at step) ∙ c.loop-i.invariant
