use Rattle.std.proofs.Common.{◌≡◌, take}
use Rattle.dev_traits.specs.View.{Calm}
use Rattle.store_files.specs.Named.{AreAttached}
use Rattle.store_files.proofs.attaching.attach_all.Given as goal

abbrev pub invariant-loop-file : goal.invariant-loop-file
invariant-loop-file g l = record {
  attached : AreAttached g.S.Reader.SealedReader.view l.schema (g.S.Store.view l.fn.store) (take l.file-index l.files) l.segments.items;
  calm : Calm (g.S.Store.view l.fn.store) (g.S.Store.view l.store);
  unfailed : (g.S.Store.view l.store).faults ≡ (g.S.Store.view l.fn.store).faults;
}
