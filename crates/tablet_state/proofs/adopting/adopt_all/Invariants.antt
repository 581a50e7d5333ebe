use Rattle.std.proofs.Common.{◌≡◌, ◌≤◌, ◌+◌, ◌++◌, map, length, vec_len, vec_capacity}
use Rattle.tablet_state.specs.Readies.{bytes_of}
use Rattle.tablet_state.specs.Adopting.{AllJoined}
use Rattle.tablet_state.specs.Seen.{segments_of}
use Rattle.tablet_state.proofs.Adoptions.{Adopting}
use Rattle.tablet_state.proofs.adopting.adopt_all.Given as goal

abbrev pub invariant-loop-file : goal.invariant-loop-file
invariant-loop-file g l = record {
  split : l.fn.files.items ≡ l.yielded ++ l.file-iterator.rest.items;
  so_far : Adopting l.fn.first (vec_len l.fn.files) (g.S.Store.view l.fn.store) (g.S.Store.view l.store) l.number (bytes_of (map (λ m. (g.S.Maker.FileMaker.sealed_bytes m.sealed, m.footer)) l.yielded))
      (bytes_of (map (λ m. (g.S.Maker.FileMaker.sealed_bytes m.sealed, m.footer)) l.file-iterator.rest.items));
  room : vec_len l.segments + length l.file-iterator.rest.items ≤ vec_capacity l.segments;
  joined : AllJoined l.fn.first (map (λ m. (g.S.Maker.FileMaker.sealed_bytes m.sealed, m.footer)) l.yielded) (segments_of g.S.Reader.SealedReader.view l.fn.segments.items) (segments_of g.S.Reader.SealedReader.view l.segments.items);
}
