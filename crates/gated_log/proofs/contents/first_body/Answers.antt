use Rattle.std.proofs.Common.{◌≡◌, ℕ, List, Option, MatchOption, drop, sym, ◌∙◌, subst}
use Rattle.dev_traits.specs.Image.{area_of}
use Rattle.gated_log.specs.Log.{HasNone, IsBlock}
use Rattle.gated_log.proofs.First.{none_here, empty_none, none_first, begins_with, first_is}
use Rattle.gated_log.proofs.contents.first_body.Goals as goal

block_at : (o o' : Option ℕ) (bytes : List ℕ) → o ≡ o' → MatchOption o (HasNone (drop 0 bytes)) (λ gate. IsBlock 0 gate bytes) → MatchOption o' (HasNone (drop 0 bytes)) (λ gate. IsBlock 0 gate bytes)
block_at o o' bytes is found = subst (λ (o : Option ℕ). MatchOption o (HasNone (drop 0 bytes)) (λ gate. IsBlock 0 gate bytes)) is found

pub returns-then-length-eq0-clause-first : goal.returns-then-length-eq0-clause-first
returns-then-length-eq0-clause-first g c image told = empty_none (area_of image c.args.area) (sym c.if-length-eq0.true ∙ c.in_ok-length.ensures.length image told)

pub returns-then-length-eq0-clause-of_log : goal.returns-then-length-eq0-clause-of_log
returns-then-length-eq0-clause-of_log g c image told = none_first (area_of image c.args.area) (empty_none (area_of image c.args.area) (sym c.if-length-eq0.true ∙ c.in_ok-length.ensures.length image told))

pub returns-in-None-clause-first : goal.returns-in-None-clause-first
returns-in-None-clause-first g c image told =
    none_here (area_of image c.args.area) (block_at _ _ (area_of image c.args.area) c.in-None.is (c.in_ok-gate.ensures.block image (c.length.ensures.calm.seen ∙ told)))

pub returns-in-None-clause-of_log : goal.returns-in-None-clause-of_log
returns-in-None-clause-of_log g c image told = none_first (area_of image c.args.area)
    (none_here (area_of image c.args.area) (block_at _ _ (area_of image c.args.area) c.in-None.is (c.in_ok-gate.ensures.block image (c.length.ensures.calm.seen ∙ told))))

pub returns-in_ok-body-in-Some-clause-first : goal.returns-in_ok-body-in-Some-clause-first
returns-in_ok-body-in-Some-clause-first g c image told = begins_with (area_of image c.args.area) c.in-Some.gate c.in_ok-body-in-Some.field-0
    (block_at _ _ (area_of image c.args.area) c.in-Some.is (c.in_ok-gate.ensures.block image (c.length.ensures.calm.seen ∙ told)))
    (c.in_ok-body-in-Some.ensures.body image (c.next.ensures.calm.seen ∙ c.length.ensures.calm.seen ∙ told))

pub returns-in_ok-body-in-Some-clause-of_log : goal.returns-in_ok-body-in-Some-clause-of_log
returns-in_ok-body-in-Some-clause-of_log g c image told = first_is (area_of image c.args.area) c.in_ok-body-in-Some.field-0 (returns-in_ok-body-in-Some-clause-first g c image told)
