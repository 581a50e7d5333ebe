use Rattle.std.proofs.Common.{arith}
use Rattle.std.proofs.lemmas.Bool.{false≢true}
use Rattle.segment_read.proofs.Growing.{cells-left, grown-step}
use Rattle.segment_read.proofs.columns.add_column.Goals.{in-Some+in_ok-push_cell, in_default}
use Rattle.segment_read.proofs.columns.add_column.Goals as goal

pub loop-row-preserved : goal.loop-row-preserved
loop-row-preserved c =
    let inv = c.loop-row.invariant in
    let i = c.loop-row.row-index in
    elim c.match-next.branch [
      | in-Some+in_ok-push_cell w ↦
          let step = grown-step i c.args.rows.now.items c.loop-row.row-items c.match-next.row-items c.args.cells.items c.loop-row.cells.rest.items c.next.new.self.rest.items c.row-item.result w.push_cell.new.row w.in-Some.cell
          inv.done inv.left w.in-Some.ensures.items w.in_ok-push_cell.ensures.pushed w.row-items-is (omega arith) (omega arith) in
          record { done = step.done; left = step.left }
      | in_default w ↦
          let some = cells-left i c.args.rows.now.items c.args.cells.items c.loop-row.cells.rest.items inv.left (omega arith) (omega arith) in
          absurd (false≢true (w.in_default.ensures.variant.1 (omega (arith, c.loop-row.cells.rest.ok.0))))
    ]
