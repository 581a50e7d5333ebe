use Rattle.segment_read.proofs.Intact.{block_there, has_its_footer}
use Rattle.segment_read.proofs.laws.intact_files.Goals as goal

pub returns-clause-footer : goal.returns-clause-footer
returns-clause-footer c s rows is = has_its_footer s rows is

pub returns-clause-blocks : goal.returns-clause-blocks
returns-clause-blocks c s rows block b are there mark got = block_there s rows b mark block are got there
