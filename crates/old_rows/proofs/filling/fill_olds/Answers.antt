use Rattle.std.proofs.Common.{refl, ap, subst, ◌∙◌, arith}
use Rattle.std.specs.Prelude.{Err}
use Rattle.std.proofs.lemmas.Result.{err_from_is_err_and}
use Rattle.old_rows.specs.Reading.{AreFilled}
use Rattle.old_rows.proofs.FillingFacts.{cause-then, ended-read, none-so-far}
use Rattle.old_rows.proofs.OneFacts.{cause-err}
use Rattle.old_rows.proofs.RunsFacts.{faults-after, last-reads, rest-is, run-damage, run-filled, run-is, run-keys, run-most, run-one, run-reads, run-some, take-all, well-counted}
use Rattle.old_rows.proofs.StillFacts.{finds-same, same-itself, same-then}
use Rattle.old_rows.proofs.filling.fill_olds.Goals as goal

pub loop-at-init : goal.loop-at-init
loop-at-init g c =
    record {
      most = omega arith;
      filled = c.requires.none;
      same = same-itself c.args.snapshot.now;
      faults = refl;
      read = none-so-far c.args.wanted.now c.args.snapshot.now.parts;
    }

pub slice_bounds-run-end : goal.slice_bounds-run-end
slice_bounds-run-end g c =
    run-most c.args.wanted.now c.loop-at.at c.run_length-count.result c.loop-at-test.true _ _ (rest-is c.loop-at.at c.args.wanted.now c.loop-at.invariant.most) (run-is c.loop-at.at c.run_length-count.result c.args.wanted.now) c.run_length-count.ensures

pub take_block-requires : goal.take_block-requires
take_block-requires g c =
    record {
      some = run-some c.args.wanted.now c.loop-at.at c.run_length-count.result c.loop-at-test.true _ _ (rest-is c.loop-at.at c.args.wanted.now c.loop-at.invariant.most) (run-is c.loop-at.at c.run_length-count.result c.args.wanted.now) c.run_length-count.ensures;
      one = run-one c.args.wanted.now c.loop-at.at c.run_length-count.result c.loop-at-test.true _ _ (rest-is c.loop-at.at c.args.wanted.now c.loop-at.invariant.most) (run-is c.loop-at.at c.run_length-count.result c.args.wanted.now) c.run_length-count.ensures;
      found = finds-same c.args.snapshot.now c.loop-at.snapshot c.args.parts.now c.loop-at.invariant.same c.requires.found;
      keys = run-keys c.args.wanted.now c.loop-at.at c.run_length-count.result c.loop-at-test.true _ _ (rest-is c.loop-at.at c.args.wanted.now c.loop-at.invariant.most) (run-is c.loop-at.at c.run_length-count.result c.args.wanted.now) c.run_length-count.ensures c.args.keys.now c.requires.keys;
      long = c.loop-at.invariant.filled.long;
    }

pub loop-at-preserved : goal.loop-at-preserved
loop-at-preserved g c =
    let inv = c.loop-at.invariant in
    record {
      most = run-most c.args.wanted.now c.loop-at.at c.run_length-count.result c.loop-at-test.true _ _ (rest-is c.loop-at.at c.args.wanted.now c.loop-at.invariant.most) (run-is c.loop-at.at c.run_length-count.result c.args.wanted.now) c.run_length-count.ensures;
      filled = run-filled c.args.wanted.now c.loop-at.at c.run_length-count.result c.loop-at-test.true _ _ (rest-is c.loop-at.at c.args.wanted.now c.loop-at.invariant.most) (run-is c.loop-at.at c.run_length-count.result c.args.wanted.now) c.run_length-count.ensures c.args.snapshot.now c.loop-at.snapshot c.take_block.new.snapshot inv.same c.args.keys.now _ _ inv.filled c.in_ok-take_block.ensures.filled;
      same = same-then c.args.snapshot.now c.loop-at.snapshot c.take_block.new.snapshot inv.same c.take_block.ensures.same;
      faults = faults-after _ _ _ c.take_block.result _ c.in_ok-take_block.was inv.faults c.take_block.ensures.cause;
      read = run-reads c.args.wanted.now c.loop-at.at c.run_length-count.result c.loop-at-test.true _ _ (rest-is c.loop-at.at c.args.wanted.now c.loop-at.invariant.most) (run-is c.loop-at.at c.run_length-count.result c.args.wanted.now) c.run_length-count.ensures c.args.snapshot.now c.loop-at.snapshot c.take_block.new.snapshot inv.same inv.read c.take_block.ensures.reads;
    }

pub loop-at-smaller : goal.loop-at-smaller
loop-at-smaller g c =
    let is = c.run_length-count.ensures.some in omega (arith, is, c.loop-at-test.true)

pub returns-in_err-take_block-clause-damaged : goal.returns-in_err-take_block-clause-damaged
returns-in_err-take_block-clause-damaged g c =
    let p = err_from_is_err_and c.from_residual.result c.from_residual.ensures.1 in
    rw (p.1, p.2) (run-damage c.args.wanted.now c.loop-at.at c.run_length-count.result c.loop-at-test.true _ _ (rest-is c.loop-at.at c.args.wanted.now c.loop-at.invariant.most) (run-is c.loop-at.at c.run_length-count.result c.args.wanted.now) c.run_length-count.ensures c.args.snapshot.now c.loop-at.snapshot c.take_block.new.snapshot c.loop-at.invariant.same c.args.keys.now _ c.in_err-take_block.ensures.damaged)

pub returns-in_err-take_block-clause-cause : goal.returns-in_err-take_block-clause-cause
returns-in_err-take_block-clause-cause g c =
    let p = err_from_is_err_and c.from_residual.result c.from_residual.ensures.1 in
    cause-then _ _ _ c.from_residual.result c.loop-at.invariant.faults
    (cause-err _ _ c.take_block.result _ c.from_residual.result c.in_err-take_block.was (p.1 ∙ ap (λ x. Err x) p.2) c.take_block.ensures.cause)

pub returns-in_err-take_block-clause-reads : goal.returns-in_err-take_block-clause-reads
returns-in_err-take_block-clause-reads g c =
    last-reads c.args.wanted.now c.loop-at.at c.run_length-count.result c.loop-at-test.true _ _ (rest-is c.loop-at.at c.args.wanted.now c.loop-at.invariant.most) (run-is c.loop-at.at c.run_length-count.result c.args.wanted.now) c.run_length-count.ensures c.args.snapshot.now c.loop-at.snapshot c.take_block.new.snapshot c.loop-at.invariant.same c.loop-at.invariant.read c.take_block.ensures.reads

pub returns-in_err-take_block-clause-same : goal.returns-in_err-take_block-clause-same
returns-in_err-take_block-clause-same g c =
    same-then c.args.snapshot.now c.loop-at.snapshot c.take_block.new.snapshot c.loop-at.invariant.same c.take_block.ensures.same

pub returns-clause-filled : goal.returns-clause-filled
returns-clause-filled g c =
    subst (λ ws. AreFilled c.args.snapshot.now c.args.keys.now ws c.loop-at.olds.items) (take-all c.loop-at.at c.args.wanted.now c.loop-at-test.false) c.loop-at.invariant.filled

pub returns-clause-cause : goal.returns-clause-cause
returns-clause-cause g c =
    well-counted _ _ _ tt refl c.loop-at.invariant.faults

pub returns-clause-reads : goal.returns-clause-reads
returns-clause-reads g c =
    ended-read c.args.wanted.now c.loop-at.at c.args.snapshot.now.parts c.loop-at.snapshot.parts c.loop-at.invariant.read
