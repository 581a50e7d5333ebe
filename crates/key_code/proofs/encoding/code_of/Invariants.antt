use Rattle.std.proofs.Common.{◌≡◌, ◌≤◌, drop, length}
use Rattle.key_code.specs.Drafts.{draft_of, with_more}
use Rattle.key_code.specs.KeyCode.{cells_code}
use Rattle.key_code.proofs.encoding.code_of.Given as goal

abbrev pub invariant-loop-i : goal.invariant-loop-i
invariant-loop-i l = record {
  joined : with_more l.out (cells_code (drop l.i l.columns) (drop l.i l.key)) ≡ draft_of (cells_code l.columns l.key);
  short : length l.out.first ≤ 128;
}
