use Rattle.std.proofs.Common.{◌≡◌, drop}
use Rattle.std.specs.List.{list_all}
use Rattle.kept_versions.proofs.publications.are_all.Given as goal

abbrev pub invariant-loop-here : goal.invariant-loop-here
invariant-loop-here l = list_all (λ b. b) (drop l.here-index l.found) ≡ list_all (λ b. b) l.found
