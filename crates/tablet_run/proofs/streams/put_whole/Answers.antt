use Rattle.std.proofs.Common.{◌≡◌, ◌∙◌, ◌-◌, arith, length, drop, take, ◌≤◌, ℕ, List}
use Rattle.std.proofs.Math.Seq.{take-add}
use Rattle.std.proofs.lemmas.List.{take_all, length-drop, take-append-drop}
use Rattle.tablet_run.proofs.StreamFacts.{held-step, held-failed}
use Rattle.tablet_run.proofs.streams.put_whole.Goals as goal

rest_is : (xs : List ℕ) (i : ℕ) → take (length xs - i) (drop i xs) ≡ drop i xs
rest_is xs i = let all : length (drop i xs) ≤ length xs - i = omega (arith, length-drop i xs) in take_all _ _ all

pub loop-at-preserved : goal.loop-at-preserved
loop-at-preserved g c =
    let e = rest_is c.args.text.now c.loop-at.at in
    let within = rw e at c.in-Took.ensures.within in
    let bytes = rw e at c.in-Took.ensures.bytes in
    record {
      within = omega (arith, within.1, length-drop c.loop-at.at c.args.text.now);
      put = rw take-add (held-step _ _ _ _ _ _ c.loop-at.invariant.put bytes);
      counts = c.in-Took.ensures.cause ∙ c.loop-at.invariant.counts;
    }

pub returns-in-Failed-clause-part : goal.returns-in-Failed-clause-part
returns-in-Failed-clause-part g c = (
  take c.loop-at.at c.args.text.now,
  drop c.loop-at.at c.args.text.now,
  held-failed _ _ _ _ _ c.loop-at.invariant.put c.in-Failed.ensures.bytes,
  take-append-drop c.loop-at.at c.args.text.now,
)
