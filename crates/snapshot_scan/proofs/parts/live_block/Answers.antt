use Rattle.std.proofs.Common.{refl, arith, length, sym, subst, ◌∙◌, ◌*◌, All, IsTrue}
use Rattle.pk_values.specs.Schemas.{fits_row}
use Rattle.segment_read.proofs.Scanning.{if_ok_so}
use Rattle.snapshot_scan.specs.Parts.{seen}
use Rattle.snapshot_scan.proofs.CursorFacts.{alive_fit, live_given}
use Rattle.snapshot_scan.proofs.PartFacts.{block_within, few_rows, live_of_block, no_damage, part_same}
use Rattle.snapshot_scan.proofs.parts.live_block.Goals as goal

pub returns-in-Err-clause-intact : goal.returns-in-Err-clause-intact
returns-in-Err-clause-intact g c = no_damage c.args.schema.now (seen g.R.SealedReader.view c.args.part.now) _ c.in-Err.ensures.intact

pub returns-in-Err-clause-part : goal.returns-in-Err-clause-part
returns-in-Err-clause-part g c = part_same c.args.schema.now (seen g.R.SealedReader.view c.args.part.now) (seen g.R.SealedReader.view (c.block.new.segment, c.args.part.now.1)) c.requires.part c.block.ensures.kept refl c.block.ensures.known

pub returns-in-Ok-clause-live : goal.returns-in-Ok-clause-live
returns-in-Ok-clause-live g c =
    if_ok_so c.only_live.result _ _ (λ live are. live_of_block c.args.schema.now (seen g.R.SealedReader.view c.args.part.now) c.args.b c.in-Ok.rows.items live.items c.in-Ok.ensures.of_segment are) c.only_live.ensures.live

pub returns-in-Ok-clause-part : goal.returns-in-Ok-clause-part
returns-in-Ok-clause-part g c = part_same c.args.schema.now (seen g.R.SealedReader.view c.args.part.now) (seen g.R.SealedReader.view (c.block.new.segment, c.args.part.now.1)) c.requires.part c.block.ensures.kept refl c.block.ensures.known

pub only_live-requires : goal.only_live-requires
only_live-requires g c =
    let within = block_within c.args.part.now.0.footer c.args.b (length c.in-Ok.rows.items) c.requires.part.is c.requires.there c.in-Ok.ensures.count in
    let few = few_rows c.args.part.now.0.footer c.requires.part.is in
    omega arith

pub returns-in-Ok-clause-fit : goal.returns-in-Ok-clause-fit
returns-in-Ok-clause-fit g c =
    if_ok_so c.only_live.result _ _ (λ live are. subst (λ rows. All (λ row. IsTrue (fits_row c.args.schema.now row)) rows) (sym are)
    (alive_fit c.args.schema.now c.args.part.now.1 (c.args.b * 1024) c.in-Ok.rows.items c.in-Ok.ensures.fit)) c.only_live.ensures.live

pub returns-in-Ok-clause-some : goal.returns-in-Ok-clause-some
returns-in-Ok-clause-some g c live =
    if_ok_so c.only_live.result _ _ (λ found are none. live_given c.args.part.now.0.footer c.args.part.now.1 c.args.b c.in-Ok.rows.items c.requires.part.is live c.in-Ok.ensures.count (sym are ∙ none)) c.only_live.ensures.live

pub returns-in-Ok-clause-whole : goal.returns-in-Ok-clause-whole
returns-in-Ok-clause-whole g c =
    if_ok_so c.only_live.result _ _ (λ live are file told mark at. (c.in-Ok.rows.items, c.in-Ok.ensures.rows file told mark at)) c.only_live.ensures.live
