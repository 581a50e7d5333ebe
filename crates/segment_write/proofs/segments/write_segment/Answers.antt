use Rattle.std.proofs.Common.{◌≡◌, rules, List, ℕ, Some, sym, subst}
use Rattle.pk_values.specs.Schemas.{Layout}
use Rattle.pk_values.specs.declared.cells.Value.{Value}
use Rattle.column_page.specs.declared.footers.Footer.{Footer}
use Rattle.segment_form.specs.Segments.{footer_of, segment_file, EndsWith}
use Rattle.segment_form.proofs.Blocks.{ends_with_footer}
use Rattle.segment_write.proofs.segments.write_segment.Goals as goal

-- a file that is the segment's ends with the footer
ends : (f : Footer) (s : Layout) (rows : List (List Value)) (file : List ℕ) → f ≡ footer_of s rows → file ≡ segment_file s rows → EndsWith f file
ends f s rows file e same = subst (λ (x : Footer). EndsWith x file) (sym e) (subst (EndsWith (footer_of s rows)) (sym same) (ends_with_footer s rows))

pub invariant_of-result : goal.invariant_of-result
invariant_of-result g c = record {
  ends = λ file told.
      let same : file ≡ segment_file c.args.schema.now c.args.rows.now = search rules in
      ends c.in_ok-footer.footer c.args.schema.now c.args.rows.now file c.in_ok-footer.ensures same;
}
