use Rattle.std.proofs.Common.{◌≡◌, take}
use Rattle.partial_loads.specs.Standings.{standings_of}
use Rattle.partial_loads.proofs.standings.stand_all.Given as goal

abbrev pub invariant-loop-entry : goal.invariant-loop-entry
invariant-loop-entry g l =
    l.standings.items ≡ standings_of (g.V.Placing.stored l.view) (g.V.Placing.stays l.view) (take l.entry-index l.located)
