use Rattle.std.proofs.Common.{◌≡◌, ◌++◌}
use Rattle.load_csv.specs.Loads.{given_in}
use Rattle.load_csv.proofs.LoadFacts.{rest_given}
use Rattle.load_csv.proofs.loads.given_places.Given as goal

abbrev pub invariant-loop-i : goal.invariant-loop-i
invariant-loop-i l = l.found ++ rest_given l.fields l.schema.columns l.i ≡ given_in l.schema l.fields
