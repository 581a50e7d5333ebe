use Rattle.std.proofs.Common.{◌≡◌, ◌<◌, ◌+◌, ◌^◌, IsTrue, length, ℕ, min, List, ◌++◌, ap, ◌∙◌, arith, rules}
use Rattle.std.specs.Slice.Iter.{chunks_rest}
use Rattle.std.proofs.lemmas.List.{length-append}
use Rattle.pk_values.specs.Schemas.{fits_row}
use Rattle.pk_values.specs.declared.cells.Value.{Value}
use Rattle.column_page.specs.declared.footers.BlockMark.{BlockMark}
use Rattle.segment_form.specs.Segments.{block_body, block_file, block_marks, blocks_of}
use Rattle.segment_form.proofs.Bodies.{length-block_file}
use Rattle.segment_write.proofs.BlockSteps.{later_fit, made_next, marks_next, next_block}
use Rattle.segment_write.proofs.blocks.put_blocks.Goals as goal

pub loop-block-preserved : goal.loop-block-preserved
loop-block-preserved g c =
    let inv = c.loop-block.invariant in
    let steps = c.in-Some.ensures.steps in
    let s = c.args.schema.now in
    let rest = chunks_rest c.loop-block.block-iterator in
    let block = c.in-Some.block.now in
    let later = chunks_rest c.next.new.self in
    let mark = c.in_ok-mark.mark in
    let long : length block ≡ min 1024 (length rest) = steps.1.1 ∙ ap (λ (n : ℕ). min n (length rest)) inv.size in
    let blocks = next_block rest block later steps.1.0 long steps.1.2 in
    let told = (c.in_ok-mark.ensures).mark in
    let told_length : mark.length ≡ length (block_body s block) = ap (λ (m : BlockMark). m.length) told in
    let file = length-block_file s block in
    let rows : length rest ≡ length (block ++ later) = ap (λ (xs : List (List Value)). length xs) steps.1.0 in
    let next = c.loop-block.place + (c.from.result + 32) in
    let there : next ≡ c.loop-block.place + length (block_file s block) = omega (arith, c.from.ensures) in
    let short : length (block_body s block) < 2 ^ 32 = (c.in_ok-mark.ensures).short in
    let step = (c.in_ok-mark.ensures).step in
    record {
      can_next = search rules;
      is_finite = search rules;
      size = steps.0 ∙ inv.size;
      fit = later_fit (λ row. IsTrue (fits_row s row)) rest block later steps.1.0 inv.fit;
      started = (c.in_ok-mark.ensures).added.started;
      made = made_next s rest block later _ _ _ blocks (c.in_ok-mark.ensures).added.made inv.made;
      marks = ap (λ (marks : List BlockMark). marks ++ block_marks s next (blocks_of later)) (c.in_ok-push.ensures).ok ∙ marks_next s rest block later c.loop-block.marks _ mark c.loop-block.place next blocks told there inv.marks;
      low = omega (arith, inv.low, c.from.ensures, length-append block later);
      tells = step.tells ∙ inv.tells;
      unfailed = step.cause.well (λ e. cc) ∙ inv.unfailed;
    }
