use Rattle.std.proofs.Common.{◌<◌, ◌+◌, ℕ, Option, IfSome, MatchOption, drop, arith, ◌∙◌, subst, refl}
use Rattle.dev_traits.specs.Image.{area_of}
use Rattle.dev_traits.proofs.Moments.{calm_none, calm_then}
use Rattle.gated_log.specs.Log.{HasNone, IsBlock}
use Rattle.gated_log.proofs.Blocks.{scans_none, scans_more}
use Rattle.gated_log.proofs.Finding.{cause_ok}
use Rattle.gated_log.proofs.reading.closed_gate.Goals as goal

pub loop-gate-init : goal.loop-gate-init
loop-gate-init g c = record {
  calm = calm_none _;
  faults = refl;
  inside = omega (arith, c.requires.some);
  scanned = λ image told. scans_none _ (omega (arith, c.requires.whole image told, c.requires.some));
}

pub returns-in_err-gate-clause-calm : goal.returns-in_err-gate-clause-calm
returns-in_err-gate-clause-calm g c = calm_then _ _ _ c.loop-gate.invariant.calm c.next.ensures.calm

pub returns-in-None-clause-calm : goal.returns-in-None-clause-calm
returns-in-None-clause-calm g c = calm_then _ _ _ c.loop-gate.invariant.calm c.next.ensures.calm

pub loop-gate-preserved : goal.loop-gate-preserved
loop-gate-preserved g c =
    let was = c.loop-gate.invariant in
    record {
      calm = calm_then _ _ _ was.calm c.next.ensures.calm;
      faults = cause_ok _ _ _ c.in_ok-gate.ensures.cause ∙ was.faults;
      inside = (subst (λ (o : Option ℕ). IfSome o (λ gate. (c.loop-gate.at + 9 < gate) × (gate < c.args.end))) c.in-Some.is c.in_ok-gate.ensures.inside).1;
      scanned = λ image told. scans_more (area_of image c.args.area) c.loop-gate.at c.in-Some.gate (was.scanned image told)
          (subst (λ (o : Option ℕ). MatchOption o (HasNone (drop c.loop-gate.at (area_of image c.args.area))) (λ gate. IsBlock c.loop-gate.at gate (area_of image c.args.area))) c.in-Some.is (c.in_ok-gate.ensures.block image (was.calm.seen ∙ told)));
    }
