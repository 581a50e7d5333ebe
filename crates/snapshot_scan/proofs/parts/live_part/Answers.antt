use Rattle.std.proofs.Common.{refl}
use Rattle.segment_read.proofs.Scanning.{if_ok_so}
use Rattle.snapshot_scan.specs.Parts.{seen}
use Rattle.snapshot_scan.proofs.PartFacts.{live_of_part, no_damage, part_same}
use Rattle.snapshot_scan.proofs.parts.live_part.Goals as goal

pub returns-in-Err-clause-intact : goal.returns-in-Err-clause-intact
returns-in-Err-clause-intact g c = no_damage c.args.schema.now (seen g.R.SealedReader.view c.args.part.now) _ c.in-Err.ensures.intact

pub returns-in-Err-clause-part : goal.returns-in-Err-clause-part
returns-in-Err-clause-part g c = part_same c.args.schema.now (seen g.R.SealedReader.view c.args.part.now) (seen g.R.SealedReader.view (c.rows_of.new.segment, c.args.part.now.1)) c.requires.part c.rows_of.ensures.kept refl c.rows_of.ensures.known

pub returns-in-Ok-clause-live : goal.returns-in-Ok-clause-live
returns-in-Ok-clause-live g c =
    if_ok_so c.only_live.result _ _ (λ live are. live_of_part c.args.schema.now (seen g.R.SealedReader.view c.args.part.now) c.in-Ok.rows.items live.items c.in-Ok.ensures.of_segment are) c.only_live.ensures.live

pub returns-in-Ok-clause-part : goal.returns-in-Ok-clause-part
returns-in-Ok-clause-part g c = part_same c.args.schema.now (seen g.R.SealedReader.view c.args.part.now) (seen g.R.SealedReader.view (c.rows_of.new.segment, c.args.part.now.1)) c.requires.part c.rows_of.ensures.kept refl c.rows_of.ensures.known

pub returns-in-Ok-clause-whole : goal.returns-in-Ok-clause-whole
returns-in-Ok-clause-whole g c =
    if_ok_so c.only_live.result _ _ (λ live are file told. (c.in-Ok.rows.items, c.in-Ok.ensures.segment file told)) c.only_live.ensures.live
