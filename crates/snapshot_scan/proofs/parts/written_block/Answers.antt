use Rattle.std.proofs.Common.{refl}
use Rattle.segment_read.proofs.Scanning.{if_ok_so}
use Rattle.snapshot_scan.proofs.SnapFacts.{if_err_so}
use Rattle.snapshot_scan.specs.Parts.{seen}
use Rattle.snapshot_scan.proofs.PartFacts.{no_damage, part_same, written_of_block}
use Rattle.snapshot_scan.proofs.parts.written_block.Goals as goal

pub returns-clause-rows : goal.returns-clause-rows
returns-clause-rows g c =
    if_ok_so c.block.result _ _ (λ rows of_segment. written_of_block c.args.schema.now (seen g.R.SealedReader.view c.args.part.now) c.args.b rows.items of_segment) c.block.ensures.of_segment

pub returns-clause-intact : goal.returns-clause-intact
returns-clause-intact g c =
    if_err_so c.block.result _ _ (λ e none. no_damage c.args.schema.now (seen g.R.SealedReader.view c.args.part.now) e none) c.block.ensures.intact

pub returns-clause-part : goal.returns-clause-part
returns-clause-part g c =
    part_same c.args.schema.now (seen g.R.SealedReader.view c.args.part.now) (seen g.R.SealedReader.view (c.block.new.segment, c.args.part.now.1)) c.requires.part c.block.ensures.kept refl c.block.ensures.known
