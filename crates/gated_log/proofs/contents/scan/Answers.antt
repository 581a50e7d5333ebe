use Rattle.std.proofs.Common.{◌≡◌, ◌+◌, ◌-◌, ◌<◌, ℕ, List, [], ◌∷◌, ◌++◌, Option, Some, IfSome, MatchOption, take, drop, arith, refl, sym, ◌∙◌, ap, length, length-append, subst}
use Rattle.dev_traits.specs.Image.{area_of}
use Rattle.dev_traits.proofs.Moments.{calm_none, calm_then}
use Rattle.gated_log.specs.Log.{HasNone, IsBlock, IsScanned}
use Rattle.gated_log.proofs.Blocks.{scans_start, scans_with, block_body}
use Rattle.gated_log.proofs.Finding.{cause_ok}
use Rattle.gated_log.proofs.contents.scan.Goals as goal

pub loop-bodies-init : goal.loop-bodies-init
loop-bodies-init g c = record {
  calm = calm_none _;
  faults = refl;
  inside = c.requires.some;
  few = omega (arith, ap length c.new-bodies.ensures.items);
  scanned = λ image told.
      let start = scans_start (area_of image c.args.area) (omega (arith, c.requires.some, c.requires.whole image told)) in
      (start.0, start.1 ∙ sym c.new-bodies.ensures.items);
}

pub returns-in_err-gate-clause-calm : goal.returns-in_err-gate-clause-calm
returns-in_err-gate-clause-calm g c = calm_then _ _ _ c.loop-bodies.invariant.calm c.next.ensures.calm

pub returns-in_err-found-in-Some-clause-calm : goal.returns-in_err-found-in-Some-clause-calm
returns-in_err-found-in-Some-clause-calm g c = calm_then _ _ _ (calm_then _ _ _ c.loop-bodies.invariant.calm c.next.ensures.calm) c.body.ensures.calm

pub returns-in_err-push-in-Some-clause-calm : goal.returns-in_err-push-in-Some-clause-calm
returns-in_err-push-in-Some-clause-calm g c = calm_then _ _ _ (calm_then _ _ _ c.loop-bodies.invariant.calm c.next.ensures.calm) c.body.ensures.calm

-- one body more, in the list and in what was scanned
one_more : (bytes : List ℕ) (at gate : ℕ) (items new : List (List ℕ)) (found : List ℕ) (so_far : (scanned : IsScanned at bytes) × (scanned.bodies ≡ items)) → IsBlock at gate bytes
    → found ≡ take (gate - at - 9) (drop (at + 9) bytes) → new ≡ items ++ found ∷ [] → (scanned : IsScanned gate bytes) × (scanned.bodies ≡ new)
one_more bytes at gate items new found so_far block is pushed =
    let next = scans_with bytes at gate so_far.0 block in
    let body : block.body ≡ found = sym (block_body bytes at gate block) ∙ sym is in
    (next.0, next.1 ∙ (λ i. so_far.1 i ++ body i ∷ []) ∙ sym pushed)

gate_inside : (o : Option ℕ) (gate at end : ℕ) → o ≡ Some gate → IfSome o (λ gate. (at + 9 < gate) × (gate < end)) → (at + 9 < gate) × (gate < end)
gate_inside o gate at end is inside = subst (λ (o : Option ℕ). IfSome o (λ gate. (at + 9 < gate) × (gate < end))) is inside

pub loop-bodies-preserved : goal.loop-bodies-preserved
loop-bodies-preserved g c =
    let was = c.loop-bodies.invariant in
    let inside = gate_inside _ c.in-Some.gate c.loop-bodies.at c.args.end c.in-Some.is c.in_ok-gate.ensures.inside in
    record {
      calm = calm_then _ _ _ (calm_then _ _ _ was.calm c.next.ensures.calm) c.body.ensures.calm;
      faults = cause_ok _ _ _ c.in_ok-found-in-Some.ensures.cause ∙ cause_ok _ _ _ c.in_ok-gate.ensures.cause ∙ was.faults;
      inside = inside.1;
      few = omega (arith, was.few, inside.0, ap length c.in_ok-push-in-Some.ensures.items, length-append c.loop-bodies.bodies.items (c.in_ok-found-in-Some.found ∷ []));
      scanned = λ image told. one_more (area_of image c.args.area) c.loop-bodies.at c.in-Some.gate c.loop-bodies.bodies.items c.push.new.self.items c.in_ok-found-in-Some.found (was.scanned image told)
          (subst (λ (o : Option ℕ). MatchOption o (HasNone (drop c.loop-bodies.at (area_of image c.args.area))) (λ gate. IsBlock c.loop-bodies.at gate (area_of image c.args.area))) c.in-Some.is (c.in_ok-gate.ensures.block image (was.calm.seen ∙ told)))
          (c.in_ok-found-in-Some.ensures.body image (c.next.ensures.calm.seen ∙ was.calm.seen ∙ told))
          c.in_ok-push-in-Some.ensures.items;
    }

pub returns-in-None-clause-scanned : goal.returns-in-None-clause-scanned
returns-in-None-clause-scanned g c image told =
    let was = c.loop-bodies.invariant in
    let so_far = was.scanned image told in
    record {
      scanned = so_far.0;
      bodies_are = so_far.1;
      closed = subst (λ (o : Option ℕ). MatchOption o (HasNone (drop c.loop-bodies.at (area_of image c.args.area))) (λ gate. IsBlock c.loop-bodies.at gate (area_of image c.args.area))) c.in-None.is (c.in_ok-gate.ensures.block image (was.calm.seen ∙ told));
    }

pub returns-in-None-clause-calm : goal.returns-in-None-clause-calm
returns-in-None-clause-calm g c = calm_then _ _ _ c.loop-bodies.invariant.calm c.next.ensures.calm
