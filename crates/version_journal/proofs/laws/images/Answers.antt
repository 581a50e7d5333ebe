use Rattle.version_journal.proofs.Meanings.{image_means_one}
use Rattle.version_journal.proofs.laws.images.Goals as goal

pub returns : goal.returns
returns c = image_means_one
