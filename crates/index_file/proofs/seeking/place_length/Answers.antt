use Rattle.index_file.proofs.SeekFacts.{so_short, thirteen_bytes}
use Rattle.index_file.proofs.seeking.place_length.Goals as goal

pub returns-then-bytes-lt13-clause-length : goal.returns-then-bytes-lt13-clause-length
returns-then-bytes-lt13-clause-length c x more e = absurd (so_short c.args.bytes.now c.if-bytes-eq0.false c.if-bytes-lt13.true x more e)

pub returns-clause-length : goal.returns-clause-length
returns-clause-length c x more e = thirteen_bytes c.args.bytes.now c.if-bytes-eq0.false x more e
