use Rattle.std.proofs.Common.{◌≡◌, ap, sym, subst, ◌∙◌, ◌+◌, ◌<◌, [], List, refl, length, map, arith}
use Rattle.std.proofs.lemmas.Grind.{common_steps}
use Rattle.std.specs.List.{AllByRecursion}
use Rattle.partial_loads.specs.declared.folds.Folded.{Folded}
use Rattle.partial_loads.specs.Folded.{HasCode}
use Rattle.partial_loads.specs.Olds.{AreOlds}
use Rattle.core_partial.specs.Making.{AreMadeKeys}
use Rattle.core_partial.proofs.MakingFacts.{drop-next, made-all, next-made, none-left, none-made, olds-long}
use Rattle.core_partial.proofs.making.make_keys.Goals as goal

pub loop-entry-init : goal.loop-entry-init
loop-entry-init c = record {
  left = refl;
  olds = refl;
  made = none-made c.args.schema.now c.args.given.now (record { keys = c.in_ok-with_capacity.field-0; results = c.in_ok-with_room.field-0 }) c.in_ok-with_capacity.ensures.items c.in_ok-with_room.ensures.rows c.in_ok-with_room.ensures.moves;
}

pub unreachable-requires : goal.unreachable-requires
unreachable-requires c =
    let empty : c.loop-entry.left.items ≡ [] = grind (arith, common_steps, c.in_default.ensures.cases, c.in_default.ensures.items) in
    let long : length c.from-left.result.items ≡ length c.args.keys.items = ap length c.from-left.ensures.0 in
    none-left c.loop-entry.entry-index c.from-left.result.items (sym c.loop-entry.invariant.left ∙ empty) (omega (arith, c.loop-entry-test.true, c.requires.located, long))

pub unreachable-requires-in_default-pop_front : goal.unreachable-requires-in_default-pop_front
unreachable-requires-in_default-pop_front c =
    let empty : c.loop-entry.old_rows.items ≡ [] = grind (arith, common_steps, c.in_default-pop_front.ensures.cases, c.in_default-pop_front.ensures.items) in
    let long : length c.from-old_rows.result.items ≡ length c.args.olds.items = ap length c.from-old_rows.ensures.0 in
    let many = olds-long c.args.schema.now c.args.keys.items c.args.olds.items c.requires.olds in
    none-left c.loop-entry.entry-index c.from-old_rows.result.items (sym c.loop-entry.invariant.olds ∙ empty) (omega (arith, c.loop-entry-test.true, c.requires.located, long, many))

pub loop-entry-preserved : goal.loop-entry-preserved
loop-entry-preserved c =
    let i = c.loop-entry.entry-index in
    let left = sym c.loop-entry.invariant.left ∙ c.in-Some.ensures.items in
    let olds = sym c.loop-entry.invariant.olds ∙ c.in-Some-pop_front.ensures.items in
    record {
      left = sym (drop-next i c.from-left.result.items c.in-Some.key c.pop_front.new.self.items left);
      olds = sym (drop-next i c.from-old_rows.result.items c.in-Some-pop_front.old c.pop_front-in-loop-entry.new.self.items olds);
      made =
          next-made c.args.schema.now c.args.given.now c.from-left.result.items c.args.located.now c.from-old_rows.result.items i c.in-Some.key _ c.entry-item.result c.in-Some-pop_front.old _ c.loop-entry.made c.make_key.new.made
          (subst (λ fs. AreOlds c.args.schema.now fs c.from-old_rows.result.items) (sym c.from-left.ensures.0) (subst (AreOlds c.args.schema.now c.args.keys.items) (sym c.from-old_rows.ensures.0) c.requires.olds))
          (subst (AllByRecursion (HasCode c.args.schema.now)) (sym c.from-left.ensures.0) c.requires.coded) c.loop-entry-test.true left olds c.loop-entry.invariant.made c.entry-item.is c.in_ok-make_key.ensures;
    }

pub returns-clause-folds : goal.returns-clause-folds
returns-clause-folds c =
    (made-all c.args.schema.now c.args.given.now c.from-left.result.items c.args.located.now c.from-old_rows.result.items c.loop-entry.entry-index c.loop-entry.made
    (subst (λ fs. AreOlds c.args.schema.now fs c.from-old_rows.result.items) (sym c.from-left.ensures.0) (subst (AreOlds c.args.schema.now c.args.keys.items) (sym c.from-old_rows.ensures.0) c.requires.olds))
    (c.requires.located ∙ ap length (sym c.from-left.ensures.0)) c.loop-entry-test.false c.loop-entry.invariant.made).folds ∙ c.from-left.ensures.0

pub returns-clause-places : goal.returns-clause-places
returns-clause-places c =
    (made-all c.args.schema.now c.args.given.now c.from-left.result.items c.args.located.now c.from-old_rows.result.items c.loop-entry.entry-index c.loop-entry.made
    (subst (λ fs. AreOlds c.args.schema.now fs c.from-old_rows.result.items) (sym c.from-left.ensures.0) (subst (AreOlds c.args.schema.now c.args.keys.items) (sym c.from-old_rows.ensures.0) c.requires.olds))
    (c.requires.located ∙ ap length (sym c.from-left.ensures.0)) c.loop-entry-test.false c.loop-entry.invariant.made).places

pub returns-clause-made : goal.returns-clause-made
returns-clause-made c =
    subst (λ os. AreMadeKeys c.args.schema.now c.args.given.now os c.loop-entry.made) c.from-old_rows.ensures.0
    (made-all c.args.schema.now c.args.given.now c.from-left.result.items c.args.located.now c.from-old_rows.result.items c.loop-entry.entry-index c.loop-entry.made
    (subst (λ fs. AreOlds c.args.schema.now fs c.from-old_rows.result.items) (sym c.from-left.ensures.0) (subst (AreOlds c.args.schema.now c.args.keys.items) (sym c.from-old_rows.ensures.0) c.requires.olds))
    (c.requires.located ∙ ap length (sym c.from-left.ensures.0)) c.loop-entry-test.false c.loop-entry.invariant.made).are
