use Rattle.std.proofs.Common.{refl, arith}
use Rattle.key_code.specs.Escapes.{unescaped}
use Rattle.key_code.proofs.KeyOrder.{read_bad, read_end, read_other, read_short, read_zero}
use Rattle.key_code.proofs.escape.read_escaped.Goals as goal
use Rattle.key_code.proofs.escape.read_escaped.Goals.{then-c-eq0+else-d-eq0+else-d-ne1, else-c-eq0}

pub returns-then-d-eq0-clause-text : goal.returns-then-d-eq0-clause-text
returns-then-d-eq0-clause-text c =
    read_end c.loop-at.text.items c.args.bytes.now c.loop-at.at _ _ (unescaped c.args.bytes.now) c.loop-at-test.true refl refl c.if-c-eq0.true c.if-d-eq0.true c.loop-at.invariant.rest_read

pub returns-then-d-ne1-clause-text : goal.returns-then-d-ne1-clause-text
returns-then-d-ne1-clause-text c =
    read_bad c.loop-at.text.items c.args.bytes.now c.loop-at.at _ _ (unescaped c.args.bytes.now) c.loop-at-test.true refl refl c.if-c-eq0.true c.if-d-eq0.false c.if-d-ne1.true c.loop-at.invariant.rest_read

pub loop-at-preserved : goal.loop-at-preserved
loop-at-preserved c =
    let inv = c.loop-at.invariant.rest_read in
    let test = c.loop-at-test.true in
    elim c.if-c-eq0.branch [
      | then-c-eq0+else-d-eq0+else-d-ne1 w ↦ record {
        within = omega arith;
        rest_read = rw (c.in_ok-push.ensures.items, w.at-is) (read_zero c.loop-at.text.items c.args.bytes.now c.loop-at.at _ _ (unescaped c.args.bytes.now) test refl refl w.if-c-eq0.true w.if-d-ne1.false inv);
      }
      | else-c-eq0 w ↦ record {
        within = omega arith;
        rest_read = rw (c.in_ok-push.ensures.items, w.at-is) (read_other c.loop-at.text.items c.args.bytes.now c.loop-at.at _ (unescaped c.args.bytes.now) test refl w.if-c-eq0.false inv);
      }
    ]

pub returns-clause-text : goal.returns-clause-text
returns-clause-text c = read_short c.loop-at.text.items c.args.bytes.now c.loop-at.at (unescaped c.args.bytes.now) c.loop-at-test.false c.loop-at.invariant.rest_read
