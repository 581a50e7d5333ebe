use Rattle.std.proofs.Common.{◌≡◌, ◌++◌, map}
use Rattle.core_recover.specs.Naming.{named_of}
use Rattle.core_recover.proofs.naming.listed.Given as goal

abbrev pub invariant-loop-number : goal.invariant-loop-number
invariant-loop-number l = l.named.items ++ map named_of l.number-iterator ≡ map named_of l.noted.entries
