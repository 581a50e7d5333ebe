use Rattle.std.proofs.Common.{◌≡◌, All, IsTrue, map}
use Rattle.std.specs.Slice.Iter.{chunks_rest, chunks_size}
use Rattle.pk_values.specs.Schemas.{fits_row}
use Rattle.segment_form.specs.Segments.{KeysRise}
use Rattle.tablet_state.specs.State.{Rests, faults_of}
use Rattle.core_publish.specs.Writing.{WritesOn}
use Rattle.core_partial.proofs.again.write_again.Given as goal

abbrev pub invariant-loop-chunk : goal.invariant-loop-chunk
invariant-loop-chunk g l =
    let s = l.fn.state.contents.schema in
    let seen = map (λ f. (g.S.Maker.FileMaker.sealed_bytes f.sealed, f.footer)) l.files.items in
    let rest = chunks_rest l.chunk-iterator in
    record {
      can_next : (goal.iterator-loop-chunk g).can_next l.chunk-iterator;
      is_finite : (goal.iterator-loop-chunk g).is_finite l.chunk-iterator;
      size : chunks_size l.chunk-iterator ≡ 65536;
      fit : All (λ row. IsTrue (fits_row s row)) rest;
      rise : KeysRise s rest;
      sealed : WritesOn s l.rows rest seen;
      rests : Rests g.S.Store.view l.fn.state l.state;
      unfailed : faults_of g.S.Store.view l.state ≡ faults_of g.S.Store.view l.fn.state;
    }
