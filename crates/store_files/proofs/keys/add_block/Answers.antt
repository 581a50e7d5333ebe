use Rattle.std.proofs.Common.{ap, arith, length, Err}
use Rattle.column_page.specs.declared.footers.Footer.{Footer}
use Rattle.store_files.proofs.BlockFacts.{block_within}
use Rattle.store_files.proofs.KeyFacts.{block_damage, codes_of_block, codes_skip, live_there, long_is_none, no_short}
use Rattle.store_files.proofs.keys.add_block.Goals as goal

pub returns-then-not-has_live-clause-added : goal.returns-then-not-has_live-clause-added
returns-then-not-has_live-clause-added g c = λ file told rows is.
    let f = ap (λ (x : Footer). x.rows) c.fields.ensures.fields in
    let m = c.min.ensures in
    codes_skip c.args.schema.now c.args.segment.now.footer file c.args.segment.now.number c.args.dead.now c.args.b c.min.result rows c.args.keys.now.items is
    (c.has_live.ensures.none c.if-not-has_live.true) (λ r lt near. omega arith)

pub add_rows-requires-clause-few : goal.add_rows-requires-clause-few
add_rows-requires-clause-few g c = block_within c.args.segment.now.footer c.args.b (length c.in-Ok.rows.items) c.fields.ensures.valid.is c.requires.there c.in-Ok.ensures.count

pub returns-in-Ok-add_rows-clause-added : goal.returns-in-Ok-add_rows-clause-added
returns-in-Ok-add_rows-clause-added g c =
    codes_of_block c.args.schema.now (g.R.SealedReader.view c.args.segment.now.reader) c.args.segment.now.footer c.args.segment.now.number c.args.dead.now c.args.b c.in-Ok.rows.items c.args.keys.now.items c.add_rows.new.keys.items
    c.in-Ok.ensures.of_segment c.in-Ok-add_rows.ensures.added

pub returns-in-Err-TooLong-clause-intact : goal.returns-in-Err-TooLong-clause-intact
returns-in-Err-TooLong-clause-intact g c =
    long_is_none c.args.schema.now (g.R.SealedReader.view c.args.segment.now.reader) c.args.segment.now.footer c.args.dead.now c.args.b c.in-Ok.rows.items c.in-Ok.ensures.of_segment
    (c.in-Err-TooLong.ensures.long (ap Err c.in-Err-TooLong.field-0-is))

pub returns-in-Err-clause-damaged : goal.returns-in-Err-clause-damaged
returns-in-Err-clause-damaged g c =
    let f = ap (λ (x : Footer). x.rows) c.fields.ensures.fields in
    let m = c.min.ensures in
    block_damage c.args.schema.now c.args.segment.now.footer c.args.segment.now.number c.args.dead.now (g.R.SealedReader.view c.args.segment.now.reader) c.args.b c.in-Err.fault c.requires.there
    (live_there c.args.dead.now c.args.segment.now.footer.rows c.args.b c.min.result (c.has_live.ensures.some c.if-not-has_live.false) (omega arith) (omega arith)) c.in-Err.ensures.damaged

pub returns-in-Err-clause-intact : goal.returns-in-Err-clause-intact
returns-in-Err-clause-intact g c = no_short c.args.schema.now (g.R.SealedReader.view c.args.segment.now.reader) c.args.segment.now.footer c.args.dead.now c.in-Err.fault c.in-Err.ensures.intact
