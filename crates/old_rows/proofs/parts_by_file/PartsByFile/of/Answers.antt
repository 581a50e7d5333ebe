use Rattle.std.proofs.Common.{arith}
use Rattle.std.specs.BTreeMap.{get}
use Rattle.std.specs.Ordering.{nat_cmp}
use Rattle.old_rows.proofs.PartFacts.{all-found, finds-next}
use Rattle.old_rows.proofs.parts_by_file.PartsByFile.of.Goals as goal

pub loop-i-preserved : goal.loop-i-preserved
loop-i-preserved g c =
    finds-next (get nat_cmp c.loop-i.parts) (get nat_cmp c.insert.new.self) c.loop-i.i c.file.result c.args.snapshot.now.parts c.file.ensures
    c.in_ok-insert.ensures.updates.0 (omega (arith, c.segments-i-end.ensures, c.loop-i-test.true, c.loop-i.auto.i-end)) c.loop-i.invariant

pub returns : goal.returns
returns g c = all-found (record { parts = c.loop-i.parts }) c.args.snapshot.now.parts c.loop-i.i (omega (arith, c.segments-i-end.ensures, c.loop-i-test.false, c.loop-i.auto.i-end)) c.loop-i.invariant
