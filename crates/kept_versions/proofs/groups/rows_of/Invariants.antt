use Rattle.std.proofs.Common.{◌≡◌, ◌++◌, drop, map}
use Rattle.kept_versions.specs.Marking.{are_small}
use Rattle.kept_versions.proofs.groups.rows_of.Given as goal

abbrev pub invariant-loop-place : goal.invariant-loop-place
invariant-loop-place l = record {
  rows : l.rows ++ map (λ p. p.row) (drop l.place-index l.places) ≡ map (λ p. p.row) l.places;
  small : are_small (drop l.place-index l.places) ≡ are_small l.places;
}
