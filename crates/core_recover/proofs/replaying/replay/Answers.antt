use Rattle.std.proofs.Common.{◌≡◌, ◌∙◌, List, [], ◌∷◌, sym, subst, IsTrue, arith}
use Rattle.std.specs.List.{AllByRecursion}
use Rattle.std.specs.Vec.Iter.{into_iter_items}
use Rattle.std.proofs.lemmas.Grind.{common_steps}
use Rattle.journal_form.specs.declared.records.Record.{Record}
use Rattle.journal_form.specs.Standings.{is_built}
use Rattle.core_recover.proofs.ReplayFacts.{may_begin, next_so_far, next_takes, no_record, so_far_first}
use Rattle.core_recover.proofs.replaying.replay.Goals as goal

all_rest : (told : Record) (left more : List Record) → left ≡ told ∷ more → AllByRecursion (λ (r : Record). IsTrue (is_built r)) left → AllByRecursion (λ (r : Record). IsTrue (is_built r)) more
all_rest told left more split h = (subst (AllByRecursion (λ (r : Record). IsTrue (is_built r))) split h).1

pub unreachable-requires : goal.unreachable-requires
unreachable-requires c =
    let empty : into_iter_items c.into_iter-left.result ≡ [] = grind (arith, common_steps, c.in-None.ensures.cases, c.in-None.ensures.items) in
    no_record c.args.records.items c.requires.means.0 (sym c.into_iter-left.ensures.rest ∙ empty) c.requires.means.1

pub schema_of-requires : goal.schema_of-requires
schema_of-requires c = may_begin c.args.records.items _ c.in-Some.first c.requires.means.0 (sym c.into_iter-left.ensures.rest ∙ c.in-Some.ensures.items) c.requires.means.1

pub step-requires-clause-fits : goal.step-requires-clause-fits
step-requires-clause-fits c = next_takes c.args.records.items (into_iter_items c.loop-told.left) (into_iter_items c.next-in-loop-told.new.self) c.in-Some-next.told c.loop-told.replayed c.requires.means.0 c.in-Some-next.ensures.items c.requires.means.1 c.loop-told.invariant.so_far

pub loop-told-preserved-in_ok-step : goal.loop-told-preserved-in_ok-step
loop-told-preserved-in_ok-step c = record {
  so_far = next_so_far c.args.records.items (into_iter_items c.loop-told.left) (into_iter_items c.next-in-loop-told.new.self) c.in-Some-next.told c.loop-told.replayed c.step.new.self c.requires.means.0 c.in-Some-next.ensures.items c.requires.means.1 c.loop-told.invariant.so_far c.in_ok-step.ensures;
  built = all_rest c.in-Some-next.told (into_iter_items c.loop-told.left) (into_iter_items c.next-in-loop-told.new.self) c.in-Some-next.ensures.items c.loop-told.invariant.built;
}

pub loop-told-preserved-in_ok-step-2 : goal.loop-told-preserved-in_ok-step-2
loop-told-preserved-in_ok-step-2 c = record {
  so_far = next_so_far c.args.records.items (into_iter_items c.loop-told.left) (into_iter_items c.next-in-loop-told.new.self) c.in-Some-next.told c.loop-told.replayed c.step.new.self c.requires.means.0 c.in-Some-next.ensures.items c.requires.means.1 c.loop-told.invariant.so_far c.in_ok-step.ensures;
  built = all_rest c.in-Some-next.told (into_iter_items c.loop-told.left) (into_iter_items c.next-in-loop-told.new.self) c.in-Some-next.ensures.items c.loop-told.invariant.built;
}

pub loop-told-preserved-in_ok-step-4 : goal.loop-told-preserved-in_ok-step-4
loop-told-preserved-in_ok-step-4 c = record {
  so_far = next_so_far c.args.records.items (into_iter_items c.loop-told.left) (into_iter_items c.next-in-loop-told.new.self) c.in-Some-next.told c.loop-told.replayed c.step.new.self c.requires.means.0 c.in-Some-next.ensures.items c.requires.means.1 c.loop-told.invariant.so_far c.in_ok-step.ensures;
  built = all_rest c.in-Some-next.told (into_iter_items c.loop-told.left) (into_iter_items c.next-in-loop-told.new.self) c.in-Some-next.ensures.items c.loop-told.invariant.built;
}

pub loop-told-preserved : goal.loop-told-preserved
loop-told-preserved c = record {
  so_far = next_so_far c.args.records.items (into_iter_items c.loop-told.left) (into_iter_items c.next-in-loop-told.new.self) c.in-Some-next.told c.loop-told.replayed c.step.new.self c.requires.means.0 c.in-Some-next.ensures.items c.requires.means.1 c.loop-told.invariant.so_far c.in_ok-step.ensures;
  built = all_rest c.in-Some-next.told (into_iter_items c.loop-told.left) (into_iter_items c.next-in-loop-told.new.self) c.in-Some-next.ensures.items c.loop-told.invariant.built;
}
