use Rattle.std.proofs.Common.{◌≡◌, ◌++◌, map, take}
use Rattle.core_publish.specs.Publishing.{stored_places}
use Rattle.core_partial.specs.Prepared.{made_move}
use Rattle.core_partial.specs.Publishing.{place_from}
use Rattle.core_partial.proofs.ready.places_to_die.Given as goal

abbrev pub invariant-loop-key : goal.invariant-loop-key
invariant-loop-key g l = l.places.items ≡ stored_places l.state.contents.codes (map made_move (take l.key-index l.keys))

abbrev pub invariant-loop-place : goal.invariant-loop-place
invariant-loop-place g l = l.places.items ≡ stored_places l.state.contents.codes (map made_move l.keys) ++ map (place_from l.first) (take l.place-index l.stale)
