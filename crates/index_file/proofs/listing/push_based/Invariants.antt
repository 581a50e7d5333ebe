use Rattle.std.proofs.Common.{◌≡◌, ◌++◌, map, take}
use Rattle.index_file.specs.Entries.{pair_with_base}
use Rattle.index_file.proofs.listing.push_based.Given as goal

abbrev pub invariant-loop-entry : goal.invariant-loop-entry
invariant-loop-entry l = l.out.items ≡ l.initial.out.items ++ map (pair_with_base l.base) (take l.entry-index l.entries)
