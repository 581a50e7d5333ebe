use Rattle.std.proofs.Common.{arith, length, sym}
use Rattle.std.proofs.lemmas.Bool.{eqb-false}
use Rattle.segment_read.proofs.Rising.{on_last}
use Rattle.segment_read.proofs.scans.rise_on.Goals as goal

pub returns : goal.returns
returns c =
    let some = eqb-false (length c.args.rows.now) 0 (sym c.if-is_empty.ensures) in
    let some' = eqb-false (length c.args.next.now) 0 (sym c.if-is_empty-2.ensures) in
    on_last c.args.schema.now c.args.rows.now c.args.next.now c.index-rows-rows.result c.index-next-0.result c.is_below.result c.requires.rows_rise c.requires.next_rise
    (omega arith) (omega arith) c.index-rows-rows.is c.index-next-0.is c.is_below.ensures
