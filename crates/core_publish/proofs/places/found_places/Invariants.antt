use Rattle.std.proofs.Common.{◌≡◌, take}
use Rattle.core_publish.specs.Publishing.{stored_places}
use Rattle.core_publish.proofs.places.found_places.Given as goal

abbrev pub invariant-loop-entry : goal.invariant-loop-entry
invariant-loop-entry g l = l.places.items ≡ stored_places l.state.contents.codes (take l.entry-index l.entries)
