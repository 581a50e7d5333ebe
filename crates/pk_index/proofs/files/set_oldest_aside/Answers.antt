use Rattle.std.proofs.Common.{◌∙◌, arith}
use Rattle.pk_index.proofs.CauseFacts.{popped}
use Rattle.pk_index.proofs.files.set_oldest_aside.Goals as goal

pub loop-n-preserved : goal.loop-n-preserved
loop-n-preserved g c =
    let old = c.args.files.now.items in
    let inv = c.loop-n.invariant in
    let p = popped old c.loop-n.files.items c.pop.new.self.items c.args.aside.now.items c.loop-n.aside.items c.put_last.new.files.items c.loop-n._n c.in-Some.file (omega (arith, c.requires.within, c.loop-n-test.true)) inv.left c.in-Some.ensures.items
    inv.moved c.put_last.ensures.items in
    record {
      left = p.0;
      moved = p.1;
      capacity = c.pop.ensures.capacity ∙ inv.capacity;
      aside_capacity = omega (arith, inv.aside_capacity, c.put_last.ensures.capacity);
    }
