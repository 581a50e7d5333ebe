use Rattle.pk_model.proofs.VersionLaws.{load-makes-one}
use Rattle.pk_model.proofs.VersionLaws as law
use Rattle.pk_model.proofs.laws.versions.Goals as goal

pub returns-clause-current : goal.returns-clause-current
returns-clause-current c = law.current-rows

pub returns-clause-new : goal.returns-clause-new
returns-clause-new c = law.new-version

pub returns-clause-older : goal.returns-clause-older
returns-clause-older c = law.older-stay

pub returns-clause-compaction : goal.returns-clause-compaction
returns-clause-compaction c = law.end-leaves-rows

pub returns-clause-expiry : goal.returns-clause-expiry
returns-clause-expiry c = law.expiry-drops

pub returns-clause-kept : goal.returns-clause-kept
returns-clause-kept c = law.expiry-keeps-version

pub returns-clause-one_more : goal.returns-clause-one_more
returns-clause-one_more c = load-makes-one

pub returns-clause-opens : goal.returns-clause-opens
returns-clause-opens c = law.opens-kept
