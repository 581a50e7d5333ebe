use Rattle.std.proofs.Common.{◌≤◌, drop, length}
use Rattle.key_code.proofs.DecodeLemmas.{IsNarrowed}
use Rattle.key_code.proofs.decoding.read_cells.Given as goal

abbrev pub invariant-loop-i : goal.invariant-loop-i
invariant-loop-i l = record {
  within : l.at ≤ length l.bytes;
  narrowed : IsNarrowed l.columns l.bytes (drop l.i l.columns) l.cells.items (drop l.at l.bytes);
}
