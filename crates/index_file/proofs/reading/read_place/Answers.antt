use Rattle.std.proofs.Common.{subst, length, ◌<◌}
use Rattle.index_file.proofs.ReadingFacts.{none_so_short, rest_is}
use Rattle.index_file.proofs.reading.read_place.Goals as goal

pub returns-in-None : goal.returns-in-None
returns-in-None c x more fits is =
    none_so_short c.args.bytes.now c.if-bytes-ne1.false (subst (λ xs. length xs < 12) (rest_is 1 c.args.bytes.now) c.in-None.ensures.none) x more is
