use Rattle.std.proofs.Common.{ℕ, suc, ◌<◌, List, get_or}
use Rattle.pk_values.specs.declared.cells.Value.{Value}
use Rattle.segment_form.proofs.Rising.{Below}
use Rattle.segment_form.proofs.keys.keys_rise.Given as goal

abbrev pub invariant-loop-i : goal.invariant-loop-i
invariant-loop-i l = (k : ℕ) (d : List Value) → suc k < l.i → Below l.schema (get_or l.rows k d) (get_or l.rows (suc k) d)
