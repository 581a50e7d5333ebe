use Rattle.std.proofs.Common.{◌≡◌, ◌<◌, ◌+◌, ℕ, Bool, true, false, not, List, [], ◌∷◌, get_or, drop, length, refl, sym, ap, subst, ◌∙◌, arith, Bor}
use Rattle.std.proofs.lemmas.List.{drop_more}
use Rattle.std.proofs.lemmas.Bool.{not-false}
use Rattle.std.specs.Str.{bytes_eq}
use Rattle.std.proofs.lemmas.Slice.Eq.{bytes_eq-Decides}
use Rattle.column_page.specs.Page.{Cell, FirstDiffers}
use Rattle.column_page.specs.Texts.{lent}
use Rattle.column_page.proofs.TextFacts.{length-lent, lent_at}
use Rattle.column_page.proofs.RunFacts.{longer_run}
use Rattle.column_page.proofs.runs.run_len.Goals as goal

-- a cell that equals the first one
same_text : (xs : List (Bor Cell)) (i : ℕ) (d : Bor Cell) (first : Cell) (differs : Bool) → i < length xs → differs ≡ not (bytes_eq (get_or xs i d).now first) → differs ≡ false → get_or (lent xs) i [] ≡ first
same_text xs i d first differs lt e f =
    lent_at xs i d [] lt ∙ (bytes_eq-Decides (get_or xs i d).now first).0 (not-false (bytes_eq (get_or xs i d).now first) (sym e ∙ f))

pub loop-i-preserved : goal.loop-i-preserved
loop-i-preserved c =
    let xs = c.args.cells.now in
    let i = c.loop-i.i in
    longer_run (lent xs) i c.args.first.now [] (omega (arith, length-lent xs, c.loop-i-test.true)) c.loop-i.invariant (same_text xs i _ c.args.first.now c.ne.result c.loop-i-test.true c.ne.ensures c.if-ne.false)

is_other : (b differs : Bool) → differs ≡ not b → differs ≡ true → b ≡ false
is_other true differs e t = cc
is_other false differs e t = refl

other_text : (xs : List (Bor Cell)) (i : ℕ) (d : Bor Cell) (first : Cell) (differs : Bool) → i < length xs → differs ≡ not (bytes_eq (get_or xs i d).now first) → differs ≡ true → FirstDiffers first (drop i (lent xs))
other_text xs i d first differs lt e t =
    let here : drop i (lent xs) ≡ (get_or xs i d).now ∷ drop (i + 1) (lent xs) = drop_more (lent xs) i [] (omega (arith, length-lent xs)) ∙ ap (λ (c : Cell). c ∷ drop (i + 1) (lent xs)) (lent_at xs i d [] lt) in
    subst (FirstDiffers first) (sym here) (is_other (bytes_eq (get_or xs i d).now first) differs e t)

pub returns-then-ne-clause-longest : goal.returns-then-ne-clause-longest
returns-then-ne-clause-longest c = other_text c.args.cells.now c.loop-i.i _ c.args.first.now c.ne.result c.loop-i-test.true c.ne.ensures c.if-ne.true
