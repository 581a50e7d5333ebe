use Rattle.std.proofs.Common.{ap, sym, ◌∙◌, arith, length}
use Rattle.segment_form.proofs.Marks.{length-marks_of}
use Rattle.segment_read.proofs.rows.read_rows.Goals.{then-count-eq0-via-then-count-eq0, then-count-eq0-via-else-count-eq0+then-count-gt1024, then-count-eq0-via-else-count-eq0+else-count-gt1024+then-marks-columns}
use Rattle.segment_read.proofs.rows.read_rows.Goals as goal

pub returns-then-count-eq0-clause-none : goal.returns-then-count-eq0-clause-none
returns-then-count-eq0-clause-none c is rows are =
    elim c.then-count-eq0.branch [
      | then-count-eq0-via-then-count-eq0 w ↦ absurd (omega (arith, are.some, w.if-count-eq0.true))
      | then-count-eq0-via-else-count-eq0+then-count-gt1024 w ↦ absurd (omega (arith, are.few, w.if-count-gt1024.true))
      | then-count-eq0-via-else-count-eq0+else-count-gt1024+then-marks-columns w ↦
          w.if-marks-columns.true (ap length (sym are.marked) ∙ length-marks_of 0 c.args.columns.now rows)
    ]
