use Rattle.key_code.proofs.DecodeLemmas.{short_number}
use Rattle.key_code.proofs.decoding.read_number.Goals as goal

pub returns-in-None : goal.returns-in-None
returns-in-None g c = short_number g.row.W c.args.bytes.now c.in-None.ensures.cases
