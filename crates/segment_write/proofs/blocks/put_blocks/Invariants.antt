use Rattle.std.proofs.Common.{◌≡◌, ◌≤◌, ◌+◌, ◌*◌, ◌^◌, ◌++◌, All, IsTrue, length}
use Rattle.std.specs.Prelude.{is_some}
use Rattle.std.specs.List.{flat_map}
use Rattle.std.specs.Option.{option_map}
use Rattle.std.specs.Slice.Iter.{chunks_rest, chunks_size}
use Rattle.pk_values.specs.Schemas.{fits_row}
use Rattle.segment_form.specs.Segments.{block_file, block_marks, blocks_of}
use Rattle.segment_write.proofs.blocks.put_blocks.Given as goal

abbrev pub invariant-loop-block : goal.invariant-loop-block
invariant-loop-block g l =
    let view = g.M.FileMaker.view in
    let rest = chunks_rest l.block-iterator in
    record {
      can_next : (goal.iterator-loop-block g).can_next l.block-iterator;
      is_finite : (goal.iterator-loop-block g).is_finite l.block-iterator;
      size : chunks_size l.block-iterator ≡ 1024;
      fit : All (λ row. IsTrue (fits_row l.schema row)) rest;
      started : IsTrue (view l.maker).is_started;
      made : option_map (λ made. made ++ flat_map (block_file l.schema) (blocks_of rest)) (view l.maker).made ≡ option_map (λ made. made ++ flat_map (block_file l.schema) (blocks_of l.rows)) (view l.initial.maker).made;
      marks : l.marks ++ block_marks l.schema l.place (blocks_of rest) ≡ block_marks l.schema 0 (blocks_of l.rows);
      low : l.place + length rest * 2 ^ 33 ≤ 65536 * 2 ^ 33;
      tells : is_some (view l.maker).made ≡ is_some (view l.initial.maker).made;
      unfailed : (view l.maker).faults ≡ (view l.initial.maker).faults;
    }
