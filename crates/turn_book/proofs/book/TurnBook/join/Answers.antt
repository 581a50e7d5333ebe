use Rattle.std.proofs.Common.{arith, ◌≡◌, ◌+◌, ℕ, List, length, ap, ◌∙◌}
use Rattle.turn_book.specs.Places.{merged}
use Rattle.turn_book.proofs.Merging.{merged_length}
use Rattle.turn_book.proofs.Passing.{both_of}
use Rattle.turn_book.proofs.book.TurnBook.join.Goals as goal

pub invariant_of-pass : goal.invariant_of-pass
invariant_of-pass g c = let b = c.glue.ensures.both in let few = c.glue.ensures.few in let i = c.pass.invariant in let o = c.open-seat.ensures in
    let vm : List ℕ = c.pass.inside.seat.me.0.mine in let wm : List ℕ = c.open-seat.result.0.me.0.mine in
    let e = ap (λ m. m.0) b in let count = merged_length vm wm in
    let l : c.glue.new.seat.me.0.left ≡ c.pass.inside.seat.me.0.left + c.open-seat.result.0.me.0.left = ap (λ v. v.left) e in
    let n : length c.glue.new.seat.me.0.mine ≡ length (merged vm wm) = ap (λ v. length v.mine) e in
    let i2 = i.2 in let i3 = i.3 in let v3 = o.view.3 in let k0 = o.counts.0 in let k2 = o.counts.2 in let m2 : length wm ≡ length c.args.other.mine = ap length o.view.2 in
    let f0 = few.0 in let f1 = few.1 in
    (ap (λ m. m.1) b ∙ i.0, ap (λ v. v.stage) e ∙ i.1, omega arith, omega arith, omega arith, omega arith)

pub returns-clause-both : goal.returns-clause-both
returns-clause-both g c = let b = c.glue.ensures.both in let i = c.pass.invariant in let o = c.open-seat.ensures in
    let e = ap (λ m. m.0) b in let is = c.pass.view_is in
    both_of c.args.pass.now c.args.other _ c.pass.inside.seat.me.0.seen c.open-seat.result.0.me.0.seen c.pass.inside.seat.me.0.mine c.open-seat.result.0.me.0.mine
    (ap (λ p. p.seen) is) o.view.1 (ap (λ p. p.mine) is) o.view.2 (ap (λ v. v.seen) e) (ap (λ v. v.mine) e)
    (ap (λ v. v.left) e ∙ λ k. (ap (λ p. p.left) is k) + (o.view.3 k)) c.glue.ensures.short c.glue.ensures.rising
