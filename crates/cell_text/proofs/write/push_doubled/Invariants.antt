use Rattle.std.proofs.Common.{◌≡◌, ◌++◌, length, drop, take}
use Rattle.cell_text.specs.Texts.{doubled}
use Rattle.cell_text.proofs.write.push_doubled.Given as goal

abbrev pub invariant-loop-byte : goal.invariant-loop-byte
invariant-loop-byte l = record {
  text : l.out.items ++ doubled (drop l.byte-index l.text) ≡ l.initial.out.items ++ doubled l.text;
  before : take (length l.initial.out.items) l.out.items ≡ l.initial.out.items;
}
