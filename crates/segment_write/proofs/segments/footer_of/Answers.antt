use Rattle.std.proofs.Common.{List, length, ap, sym, refl, subst}
use Rattle.pk_values.specs.declared.cells.Column.{Column}
use Rattle.column_page.specs.FooterReading.{IsSegmentFooter}
use Rattle.column_page.proofs.FooterFacts.{footer_is}
use Rattle.segment_form.specs.Segments.{block_marks, blocks_of}
use Rattle.segment_form.proofs.Blocks.{segment_footer_is}
use Rattle.segment_write.proofs.segments.footer_of.Goals as goal

pub new-requires : goal.new-requires
new-requires c =
    let s = c.args.schema.now in
    let rows = c.args.rows.now in
    subst IsSegmentFooter
    (footer_is (length s.columns) (length rows) (block_marks s 0 (blocks_of rows)) _ (ap (λ (cs : List Column). length cs) (sym (c.columns-columns.ensures).value)) refl (sym c.requires.marks))
    (segment_footer_is s rows (c.columns-columns.ensures).valid c.requires.rows)
