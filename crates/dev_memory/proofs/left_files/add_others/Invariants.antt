use Rattle.std.proofs.Common.{◌≡◌, ◌++◌, ℕ, List, true}
use Rattle.std.specs.List.{list_all}
use Rattle.dev_memory.specs.Images.{is_short_file}
use Rattle.dev_memory.proofs.left_files.add_others.Given as goal

abbrev pub invariant-loop-i : goal.invariant-loop-i
invariant-loop-i l = record {
  behind : (others : List (ℕ × List ℕ)) × (l.left.items ≡ l.initial.left.items ++ others);
  short : list_all is_short_file l.left.items ≡ true;
}
