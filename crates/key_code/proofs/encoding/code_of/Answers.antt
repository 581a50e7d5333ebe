use Rattle.std.proofs.Common.{arith, get_or}
use Rattle.std.proofs.lemmas.List.{get_or_default}
use Rattle.key_code.proofs.Drafting.{all_written, part_written, room_in, short_more}
use Rattle.key_code.proofs.KeyLemmas.{cell_at, none_left, same_count}
use Rattle.key_code.proofs.encoding.code_of.Goals as goal

pub bounds-key-i : goal.bounds-key-i
bounds-key-i c = let same = same_count c.args.columns.now c.args.key.now c.requires.fits in let lt = c.loop-i-test.true in omega arith

pub push_cell-requires-clause-code : goal.push_cell-requires-clause-code
push_cell-requires-clause-code c =
    let lt = c.loop-i-test.true in
    (cell_at c.args.columns.now c.args.key.now c.loop-i.i (get_or c.args.columns.now c.loop-i.i c.index-columns-i.result) c.index-key-i.result c.requires.fits lt
    (get_or_default c.args.columns.now c.loop-i.i c.index-columns-i.result _ lt) c.index-key-i.is).0

pub push_cell-requires-clause-room : goal.push_cell-requires-clause-room
push_cell-requires-clause-room c =
    let lt = c.loop-i-test.true in
    let step = (cell_at c.args.columns.now c.args.key.now c.loop-i.i (get_or c.args.columns.now c.loop-i.i c.index-columns-i.result) c.index-key-i.result c.requires.fits lt
    (get_or_default c.args.columns.now c.loop-i.i c.index-columns-i.result _ lt) c.index-key-i.is).1 in
    room_in c.loop-i.out _ _ _ _ step c.loop-i.invariant.joined c.requires.short

pub loop-i-preserved : goal.loop-i-preserved
loop-i-preserved c =
    let lt = c.loop-i-test.true in
    let step = (cell_at c.args.columns.now c.args.key.now c.loop-i.i (get_or c.args.columns.now c.loop-i.i c.index-columns-i.result) c.index-key-i.result c.requires.fits lt
    (get_or_default c.args.columns.now c.loop-i.i c.index-columns-i.result _ lt) c.index-key-i.is).1 in
    record {
      joined = part_written c.loop-i.out c.push_cell.new.out _ _ _ _ step c.push_cell.ensures c.loop-i.invariant.joined;
      short = short_more c.loop-i.out c.push_cell.new.out _ c.push_cell.ensures;
    }

pub returns : goal.returns
returns c =
    all_written c.loop-i.out _ _ (none_left c.args.columns.now c.args.key.now c.loop-i.i (omega (arith, c.loop-i-test.false))) c.loop-i.invariant.short c.loop-i.invariant.joined
