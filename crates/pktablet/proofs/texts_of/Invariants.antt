use Rattle.std.proofs.Common.{◌≡◌, ◌++◌, drop, map, string_bytes}
use Rattle.command_line.specs.Words.{texts}
use Rattle.pktablet.proofs.texts_of.Given as goal

abbrev pub invariant-loop-word : goal.invariant-loop-word
invariant-loop-word l = texts l.found.items ++ map string_bytes (drop l.word-index l.words) ≡ map string_bytes l.words
