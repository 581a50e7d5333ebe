use Rattle.std.proofs.Common.{◌+◌, ◌==◌, arith, drop, get_or, length}
use Rattle.key_code.proofs.DecodeLemmas.{found_at_end, more_at, none_at, none_at_end, piece_cell, take_rest, taken_within}
use Rattle.key_code.proofs.decoding.read_cells.Goals as goal

pub returns-in-None-clause-none : goal.returns-in-None-clause-none
returns-in-None-clause-none c =
    none_at c.args.columns.now c.args.bytes.now c.loop-i.cells.items (drop c.loop-i.at c.args.bytes.now) c.loop-i.i c.index-columns-i.result c.in_ok-value.field-0
    c.loop-i-test.true c.loop-i.invariant.narrowed c.in-None.is
    (piece_cell (c.loop-i.i + 1 == length c.args.columns.now) (get_or c.args.columns.now c.loop-i.i c.index-columns-i.result).kind _ _ c.in_ok-value.field-0 (take_rest c.args.bytes.now c.loop-i.at) c.in_ok-value.ensures)

pub loop-i-preserved : goal.loop-i-preserved
loop-i-preserved c =
    let cell = piece_cell (c.loop-i.i + 1 == length c.args.columns.now) (get_or c.args.columns.now c.loop-i.i c.index-columns-i.result).kind _ _ c.in_ok-value.field-0 (take_rest c.args.bytes.now c.loop-i.at) c.in_ok-value.ensures in
    record {
      within = taken_within _ _ c.loop-i.at c.args.bytes.now c.in-Some.value c.in-Some.taken c.in_ok-value.field-0 c.loop-i.invariant.within c.in-Some.is cell;
      narrowed = more_at c.args.columns.now c.args.bytes.now c.loop-i.cells.items c.push.new.self.items c.loop-i.i c.loop-i.at c.index-columns-i.result c.in-Some.value c.in-Some.taken c.in_ok-value.field-0
          c.loop-i-test.true c.loop-i.invariant.narrowed c.in-Some.is cell c.in_ok-push-in-Some.ensures.items;
    }

pub returns-then-at-bytes-clause-found : goal.returns-then-at-bytes-clause-found
returns-then-at-bytes-clause-found c =
    found_at_end c.args.columns.now c.args.bytes.now c.loop-i.cells.items c.loop-i.i c.loop-i.at c.loop-i-test.false (omega arith) c.loop-i.invariant.narrowed

pub returns-else-at-bytes-clause-none : goal.returns-else-at-bytes-clause-none
returns-else-at-bytes-clause-none c =
    let le = c.loop-i.invariant.within in
    none_at_end c.args.columns.now c.args.bytes.now c.loop-i.cells.items c.loop-i.i c.loop-i.at c.loop-i-test.false (omega arith) c.loop-i.invariant.narrowed
