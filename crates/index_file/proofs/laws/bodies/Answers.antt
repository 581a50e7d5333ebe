use Rattle.index_file.proofs.Fronts.{bytes_of_one_body}
use Rattle.index_file.proofs.laws.bodies.Goals as goal

pub returns : goal.returns
returns c = bytes_of_one_body
