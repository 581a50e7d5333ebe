use Rattle.std.proofs.Common.{◌≡◌, ◌+◌, ◌<◌, ◌≤◌, ◌∷◌, ◌++◌, List, ℕ, sym, ap, ◌∙◌, arith, length, drop, [], Bor, get_or, replicate, refl, subst}
use Rattle.std.specs.List.{between, flat_map}
use Rattle.column_page.specs.Texts.{lent}
use Rattle.column_page.proofs.TextFacts.{length-lent, lent-drop, lent_at}
use Rattle.std.proofs.lemmas.List.{append_assoc}
use Rattle.column_page.specs.Page.{Cell, run_bytes, runs, FirstDiffers}
use Rattle.column_page.proofs.RunFacts.{RunAt, run_at}
use Rattle.column_page.proofs.Pieces.{to_end}
use Rattle.column_page.proofs.runs.runs_within.Goals as goal

-- the cell at which a run begins
abbrev first_of : goal.In_ok-put_run → Cell
first_of c = get_or (lent c.args.cells.now) c.loop-start.start []

abbrev Run : goal.In_ok-put_run → Type 0
Run c = RunAt (lent c.args.cells.now) c.loop-start.start c.run_len-len.result (first_of c)

-- the same of the first text of a slice
run_here : (xs : List (Bor Cell)) (s n : ℕ) (d : Bor Cell) → s < length xs → n ≤ length (between s (length xs) xs) → lent (between s (length xs) xs) ≡ replicate n (get_or xs s d).now ++ drop n (lent (between s (length xs) xs))
    → FirstDiffers (get_or xs s d).now (drop n (lent (between s (length xs) xs))) → RunAt (lent xs) s n (get_or (lent xs) s [])
run_here xs s n d lt within equal longest =
    let at = lent_at xs s d [] lt in
    let rest = lent (between s (length xs) xs) in
    run_at (lent xs) rest s n (get_or (lent xs) s []) [] (omega (arith, length-lent xs)) refl (ap lent (to_end xs s) ∙ lent-drop s xs) (omega (arith, length-lent (between s (length xs) xs)))
    (subst (λ (c : Cell). rest ≡ replicate n c ++ drop n rest) (sym at) equal) (subst (λ (c : Cell). FirstDiffers c (drop n rest)) (sym at) longest)

run : (c : goal.In_ok-put_run) → Run c
run c =
    let e = c.run_len-len.ensures in
    run_here c.args.cells.now c.loop-start.start c.run_len-len.result _ c.loop-start-test.true e.within e.equal e.longest

pub loop-start-smaller : goal.loop-start-smaller
loop-start-smaller c =
    let r = run c in
    omega (arith, r.some, r.within, length-lent c.args.cells.now)

pub loop-start-preserved : goal.loop-start-preserved
loop-start-preserved c =
    let r = run c in
    let some : 0 < c.run_len-len.result = r.some in
    let inv = c.loop-start.invariant in
    let xs = lent c.args.cells.now in
    let after = runs (drop (c.loop-start.start + c.run_len-len.result) xs) in
    let first = first_of c in
    let is = lent_at c.args.cells.now c.loop-start.start _ [] c.loop-start-test.true in
    let number : length (runs (drop c.loop-start.start xs)) ≡ length ((c.run_len-len.result, first) ∷ after) = ap length r.is in
    record {
      within = omega (arith, r.within, length-lent c.args.cells.now);
      few = omega (arith, inv.few);
      counted = omega (arith, inv.counted);
      written =
          ap (λ (t : List ℕ). t ++ flat_map run_bytes after) (c.in_ok-put_run.ensures ∙ ap (λ (x : Cell). c.loop-start.body.items ++ run_bytes (c.run_len-len.result, x)) (sym is))
          ∙ append_assoc c.loop-start.body.items (run_bytes (c.run_len-len.result, first)) (flat_map run_bytes after)
          ∙ ap (λ (rs : List (ℕ × Cell)). c.loop-start.body.items ++ flat_map run_bytes rs) (sym r.is)
          ∙ inv.written;
    }
