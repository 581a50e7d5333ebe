use Rattle.std.proofs.Common.{◌≡◌, length, List, ℕ, ap, ◌∙◌, arith}
use Rattle.column_page.specs.Footers.{footer_bytes}
use Rattle.column_page.proofs.FooterParts.{footer_short}
use Rattle.segment_write.proofs.segments.tail.Goals as goal

pub overflow_cast-length : goal.overflow_cast-length
overflow_cast-length c =
    let footer = c.args.footer.now in
    let tail = c.in_ok-tail.tail in
    let short = footer_short footer (c.in_ok-write_footer.ensures).valid.is in
    let same : length tail.items ≡ length (footer_bytes footer) = ap (λ (bytes : List ℕ). length bytes) ((c.in_ok-tail.ensures).bytes ∙ (c.in_ok-write_footer.ensures).bytes) in
    omega (arith, tail.ok.0, c.len-length.ensures)
