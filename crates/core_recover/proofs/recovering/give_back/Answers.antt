use Rattle.std.proofs.Common.{◌≡◌, ℕ, subst}
use Rattle.dev_traits.specs.Causes.{Counts}
use Rattle.core_recover.proofs.AttachFacts.{faults_alike}
use Rattle.core_recover.proofs.recovering.give_back.Goals as goal

pub returns-clause-counts : goal.returns-clause-counts
returns-clause-counts g c =
    subst (λ (n : ℕ). Counts n (g.S.Store.view c.args.store.now).faults (g.S.Store.view c.give_back_all.new.store).faults) (faults_alike g.S.Reader.SealedReader.view c.args.tablet.files.segments.items) c.give_back_all.ensures.counts
