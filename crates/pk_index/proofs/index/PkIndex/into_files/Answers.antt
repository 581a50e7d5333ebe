use Rattle.std.proofs.Common.{subst, sym}
use Rattle.pk_index.specs.Shown.{HaveLevels}
use Rattle.pk_index.proofs.MergedFacts.{alone}
use Rattle.pk_index.proofs.index.PkIndex.into_files.Goals as goal

pub returns-clause-map : goal.returns-clause-map
returns-clause-map g c files have none = (
  subst (λ fs. HaveLevels g.F.FileLevel.has_level fs files) (λ i. (sym c.self.view_is i).files) have,
  alone c.args.self.level0.level files none,
)
