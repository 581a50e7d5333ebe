use Rattle.std.proofs.Common.{◌∙◌, ap, []}
use Rattle.column_page.specs.declared.footers.FooterFields.{FooterFields}
use Rattle.snapshot_scan.specs.Parts.{seen}
use Rattle.snapshot_scan.proofs.CursorFacts.{ahead_is, cursor_rows}
use Rattle.snapshot_scan.proofs.PartFacts.{piece_long}
use Rattle.snapshot_scan.proofs.parts.first_cursor.Goals as goal

pub returns-clause-rows : goal.returns-clause-rows
returns-clause-rows g c s piece of_part =
    cursor_rows c.before-2.result [] c.next_live.result piece c.before-2.ensures
    ∙ ahead_is c.next_live.result c.args.part.now.1 c.fields.result.now.rows 0 piece of_part.dead
    (ap (λ (f : FooterFields). f.rows) c.fields.ensures.fields ∙ piece_long s (seen g.R.SealedReader.view c.args.part.now) piece of_part)
    c.next_live.ensures.there c.next_live.ensures.before c.next_live.ensures.none
