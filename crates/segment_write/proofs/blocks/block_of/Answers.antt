use Rattle.std.proofs.Common.{◌≡◌, length, List, ℕ, ap, arith}
use Rattle.segment_form.specs.Segments.{block_body}
use Rattle.segment_write.proofs.blocks.block_of.Goals as goal

pub overflow_cast-length : goal.overflow_cast-length
overflow_cast-length c =
    let pages = c.in_ok-bytes.field-0 in
    let same : length pages.bytes.items ≡ length (block_body c.args.schema.now c.args.rows.now) = ap (λ (bytes : List ℕ). length bytes) (c.in_ok-bytes.ensures).bytes in
    omega (arith, pages.bytes.ok.0, c.len-length.ensures, (c.in_ok-bytes.ensures).short)
