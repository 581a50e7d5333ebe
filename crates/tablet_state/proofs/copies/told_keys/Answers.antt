use Rattle.tablet_state.proofs.MovingFacts.{keys_are_told}
use Rattle.tablet_state.proofs.copies.told_keys.Goals as goal

pub returns : goal.returns
returns c = keys_are_told
