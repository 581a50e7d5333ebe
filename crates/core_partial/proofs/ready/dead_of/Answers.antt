use Rattle.std.proofs.Common.{rules, subst}
use Rattle.std.proofs.lemmas.Fn.{always_returns_same}
use Rattle.std.proofs.lemmas.List.Sorted.{answers_always}
use Rattle.index_level0.specs.declared.place.Place.{Place}
use Rattle.kept_versions.specs.Files.{PlacesRise}
use Rattle.rowsets.specs.Steps.{HaveSame}
use Rattle.core_publish.specs.Publishing.{StandsTwice, is_below}
use Rattle.core_publish.proofs.OldPlaces.{NotRising, have_same, places_rise, twice}
use Rattle.core_partial.proofs.ready.dead_of.Goals as goal

pub returns-clause-rise : goal.returns-clause-rise
returns-clause-rise g c =
    subst PlacesRise c.deref.ensures.value
    (places_rise c.deref.result.now (c.if-not-is_sorted_by.ensures.cases is_below (answers_always _ _ _ (λ f a r f' k. search rules))))

pub returns-clause-found : goal.returns-clause-found
returns-clause-found g c =
    subst (HaveSame c.sort_unstable_by_key.new.self.items) c.in_ok-places.ensures
    (have_same c.in_ok-places.places.items c.sort_unstable_by_key.new.self.items c.sort_unstable_by_key.ensures.permutation)

pub returns-then-not-is_sorted_by-clause-twice : goal.returns-then-not-is_sorted_by-clause-twice
returns-then-not-is_sorted_by-clause-twice g c = λ _.
    subst StandsTwice c.in_ok-places.ensures
    (twice c.in_ok-places.places.items c.sort_unstable_by_key.new.self.items c.sort_unstable_by_key.ensures.permutation
    (c.sort_unstable_by_key.ensures.sorted (λ (p : Place). (p.segment, p.row)) (always_returns_same _ _ _ (λ a r f' k. search rules)))
    (subst NotRising c.deref.ensures.value (c.if-not-is_sorted_by.ensures.cases is_below (answers_always _ _ _ (λ f a r f' k. search rules)))))
