use Rattle.std.proofs.Common.{refl}
use Rattle.segment_read.proofs.Scanning.{known_still}
use Rattle.segment_read.proofs.segments.Segment.copy.Goals as goal

pub returns-in_err-reader-clause-known : goal.returns-in_err-reader-clause-known
returns-in_err-reader-clause-known g c = λ s known.
    known_still s (g.R.SealedReader.view c.args.self.now.reader) (g.R.SealedReader.view c.another.new.self) c.args.self.now.footer c.args.self.now.footer known c.another.ensures.same.bytes refl

pub returns-clause-known : goal.returns-clause-known
returns-clause-known g c = λ s known.
    known_still s (g.R.SealedReader.view c.args.self.now.reader) (g.R.SealedReader.view c.another.new.self) c.args.self.now.footer c.args.self.now.footer known c.another.ensures.same.bytes refl

pub returns-clause-copy_known : goal.returns-clause-copy_known
returns-clause-copy_known g c = λ s known.
    known_still s (g.R.SealedReader.view c.args.self.now.reader) (g.R.SealedReader.view c.in_ok-reader.reader) c.args.self.now.footer c.in_ok-footer.footer known c.in_ok-reader.ensures.file.bytes c.in_ok-footer.ensures
