use Rattle.segment_form.proofs.Blocks.{segment_footer_is}
use Rattle.segment_form.proofs.laws.segment_footers.Goals as goal

pub returns : goal.returns
returns c s rows lawful are = segment_footer_is s rows lawful are
