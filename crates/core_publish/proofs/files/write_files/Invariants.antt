use Rattle.std.proofs.Common.{◌≡◌, All, IsTrue, map}
use Rattle.std.specs.Prelude.{is_some}
use Rattle.std.specs.Slice.Iter.{chunks_rest, chunks_size}
use Rattle.pk_values.specs.Schemas.{fits_row}
use Rattle.segment_form.specs.Segments.{KeysRise}
use Rattle.core_publish.specs.Prepared.{EachTells}
use Rattle.core_publish.specs.Writing.{WritesOn}
use Rattle.core_publish.proofs.files.write_files.Given as goal

abbrev pub invariant-loop-chunk : goal.invariant-loop-chunk
invariant-loop-chunk g l =
    let view = g.M.FileMaker.view in
    let seen = map (λ f. (g.M.FileMaker.sealed_bytes f.sealed, f.footer)) l.files.items in
    let rest = chunks_rest l.chunk-iterator in
    record {
      can_next : (goal.iterator-loop-chunk g).can_next l.chunk-iterator;
      is_finite : (goal.iterator-loop-chunk g).is_finite l.chunk-iterator;
      size : chunks_size l.chunk-iterator ≡ 65536;
      fit : All (λ row. IsTrue (fits_row l.schema row)) rest;
      rise : KeysRise l.schema rest;
      sealed : WritesOn l.schema l.rows rest seen;
      told : EachTells (is_some (view l.initial.maker).made) seen;
      tells : is_some (view l.maker).made ≡ is_some (view l.initial.maker).made;
      unfailed : (view l.maker).faults ≡ (view l.initial.maker).faults;
    }
