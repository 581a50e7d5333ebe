use Rattle.std.proofs.Common.{map, subst}
use Rattle.old_rows.specs.Reading.{AreFilled, ReadBlocks}
use Rattle.old_rows.specs.Wanted.{place_wanted, runs}
use Rattle.old_rows.proofs.AskedFacts.{olds-are, reads-asked}
use Rattle.old_rows.proofs.old_rows.read_olds.Goals as goal

pub returns-clause-olds : goal.returns-clause-olds
returns-clause-olds g c = olds-are _ _ _ _ _ c.in_ok-wanted.ensures.wanted (subst (λ ws. AreFilled c.args.snapshot.now c.args.keys.now ws c.fill_olds.new.olds.items) c.deref.ensures.value c.in_ok-fill_olds.ensures.filled)

pub returns-clause-reads : goal.returns-clause-reads
returns-clause-reads g c = reads-asked _ _ _ _ _ c.in_ok-wanted.ensures.wanted c.in_ok-wanted.ensures.order (subst (λ ws. ReadBlocks (runs (map place_wanted ws)) c.args.snapshot.now.parts c.fill_olds.new.snapshot.parts) c.deref.ensures.value c.fill_olds.ensures.reads)

pub returns-in_err-fill_olds-clause-reads : goal.returns-in_err-fill_olds-clause-reads
returns-in_err-fill_olds-clause-reads g c = reads-asked _ _ _ _ _ c.in_ok-wanted.ensures.wanted c.in_ok-wanted.ensures.order (subst (λ ws. ReadBlocks (runs (map place_wanted ws)) c.args.snapshot.now.parts c.fill_olds.new.snapshot.parts) c.deref.ensures.value c.fill_olds.ensures.reads)
