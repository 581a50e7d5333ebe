use Rattle.std.proofs.Common.{◌≡◌, ◌++◌, drop}
use Rattle.script_text.specs.Texts.{hex_text}
use Rattle.script_text.proofs.damages.put_hex.Given as goal

abbrev pub invariant-loop-byte : goal.invariant-loop-byte
invariant-loop-byte l = l.out.items ++ hex_text (drop l.byte-index l.bytes) ≡ l.initial.out.items ++ hex_text l.bytes
