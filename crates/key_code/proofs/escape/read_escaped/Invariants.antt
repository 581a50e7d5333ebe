use Rattle.std.proofs.Common.{length, ◌-◌, ◌≡◌, ◌≤◌, drop}
use Rattle.key_code.specs.Escapes.{unescaped}
use Rattle.key_code.proofs.KeyOrder.{put_front}
use Rattle.key_code.proofs.escape.read_escaped.Given as goal

abbrev pub invariant-loop-at : goal.invariant-loop-at
invariant-loop-at l = record {
  within : l.at ≤ length l.bytes;
  rest_read : put_front l.text.items (unescaped (drop l.at l.bytes)) ≡ unescaped l.bytes;
}

abbrev pub decreases-loop-at : goal.decreases-loop-at
decreases-loop-at l = length l.bytes - l.at
