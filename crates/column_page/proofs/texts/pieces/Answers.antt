use Rattle.std.proofs.Common.{ap, length, arith, ◌∙◌, ◌≡◌}
use Rattle.std.proofs.lemmas.List.{length-map}
use Rattle.column_page.specs.Texts.{lent}
use Rattle.column_page.proofs.TextFacts.{piece_next, piece_within, pieces_more}
use Rattle.column_page.proofs.texts.pieces.Goals as goal

pub split_at-requires : goal.split_at-requires
split_at-requires c =
    piece_within c.args.bytes.now c.loop-len.rest.now c.args.lens.now c.requires.cells c.loop-len.len-index c.requires.are c.loop-len-test.true (c.loop-len.invariant c.requires.cells c.requires.are).1

pub loop-len-preserved : goal.loop-len-preserved
loop-len-preserved c cells are =
    let inv = c.loop-len.invariant cells are in
    let i = c.loop-len.len-index in
    let long : length c.args.lens.now ≡ length cells = ap length are.long ∙ length-map cells length in
    let next = piece_next c.args.bytes.now c.loop-len.rest.now c.split_at.result.0.now c.split_at.result.1.now c.args.lens.now cells i are c.loop-len-test.true inv.1 c.split_at.ensures.front c.split_at.ensures.back in
    (ap lent (c.in_ok-push.ensures).items ∙ pieces_more c.loop-len.pieces.items c.split_at.result.0 cells i (omega (arith, c.loop-len-test.true)) inv.0 next.0, next.1)
