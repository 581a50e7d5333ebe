use Rattle.std.proofs.Common.{◌≡◌, drop}
use Rattle.key_code.specs.Drafts.{with_more}
use Rattle.key_code.specs.Escapes.{escaped}
use Rattle.key_code.proofs.escape.push_escaped.Given as goal

abbrev pub invariant-loop-c : goal.invariant-loop-c
invariant-loop-c l = with_more l.out (escaped (drop l.c-index l.text)) ≡ with_more l.fn.out (escaped l.text)
