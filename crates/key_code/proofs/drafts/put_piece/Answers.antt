use Rattle.std.proofs.Common.{◌≡◌, ◌+◌, ◌-◌, ◌++◌, ◌∙◌, [], List, ℕ, ap, arith, drop, length, length-drop, rules, take}
use Rattle.std.proofs.lemmas.List.{drop_all}
use Rattle.key_code.proofs.Drafting.{full, part_piece, whole_piece}
use Rattle.key_code.proofs.drafts.put_piece.Goals as goal

pub returns-then-count-ge128 : goal.returns-then-count-ge128
returns-then-count-ge128 c = full c.args.bytes.now c.args.piece.now c.args.count (search rules) (omega (arith, c.if-count-ge128.true))

pub returns-then-piece-start : goal.returns-then-piece-start
returns-then-piece-start c =
    let size : length c.args.bytes.now ≡ 128 = search rules in
    let rest : List ℕ = drop (c.args.count + length c.args.piece.now - c.args.count) (drop c.args.count c.args.bytes.now) in
    ap (λ (t : List ℕ). take (c.args.count + length c.args.piece.now) (take c.args.count c.args.bytes.now ++ (t ++ rest))) c.copy_from_slice.ensures.after
    ∙ whole_piece c.args.bytes.now c.args.piece.now rest c.args.count size (omega (arith, c.if-piece-start.true, c.if-count-ge128.false))

pub returns : goal.returns
returns c =
    let size : length c.args.bytes.now ≡ 128 = search rules in
    let rest : List ℕ = drop (128 - c.args.count) (drop c.args.count c.args.bytes.now) in
    let none : rest ≡ [] = drop_all (128 - c.args.count) (drop c.args.count c.args.bytes.now) (omega (arith, size, length-drop c.args.count c.args.bytes.now)) in
    ap (λ (t : List ℕ). take (c.args.count + length c.args.piece.now) (take c.args.count c.args.bytes.now ++ (t ++ rest))) c.copy_from_slice-2.ensures.after
    ∙ part_piece c.args.bytes.now c.args.piece.now rest c.args.count size (omega (arith, c.if-count-ge128.false)) (omega (arith, c.if-piece-start.false, c.if-count-ge128.false)) none
