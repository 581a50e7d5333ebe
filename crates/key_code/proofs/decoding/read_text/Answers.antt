use Rattle.key_code.proofs.DecodeLemmas.{escaped_front, no_text_at}
use Rattle.key_code.proofs.decoding.read_text.Goals as goal

pub returns-in_ok-text-in-Some-clause-front : goal.returns-in_ok-text-in-Some-clause-front
returns-in_ok-text-in-Some-clause-front c =
    escaped_front c.args.last c.args.bytes.now c.in-Some.piece.items c.in_ok-text-in-Some.text c.in-Some.taken c.if-last.false c.in_ok-text-in-Some.ensures.bytes
    (rw c.in-Some.is at c.in_ok-piece.ensures.text) (rw c.in-Some.is at c.in_ok-piece.ensures.within)

pub returns-in-None-clause-front : goal.returns-in-None-clause-front
returns-in-None-clause-front c = no_text_at c.args.last c.args.bytes.now c.if-last.false (rw c.in-None.is at c.in_ok-piece.ensures.text)
