use Rattle.std.proofs.Common.{◌≡◌, true, map}
use Rattle.std.specs.List.{list_all}
use Rattle.dev_memory.specs.Images.{is_short_file}
use Rattle.dev_memory.specs.Kept.{first_file}
use Rattle.dev_memory.proofs.begun.files_of.Given as goal

abbrev pub invariant-loop-number : goal.invariant-loop-number
invariant-loop-number l = record {
  made : l.files.items ≡ map first_file l.yielded;
  rest : list_all is_short_file l.number-iterator.rest.items ≡ true;
}
