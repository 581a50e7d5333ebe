use Rattle.std.proofs.Common.{◌≡◌, ◌∙◌, ◌<◌, ◌++◌, ◌∷◌, [], sym, ap, arith, append_assoc, length, List, ℕ, Bool, true, false, refl, if◌then◌else◌}
use Rattle.load_csv.proofs.LoadFacts.{rest-step}
use Rattle.load_csv.proofs.loads.given_places.Goals as goal

moved : (t : Bool) (found rest : List ℕ) (i : ℕ) → (if t then found ++ i ∷ [] else found) ++ rest ≡ found ++ (if t then i ∷ rest else rest)
moved true found rest i = append_assoc found (i ∷ []) rest
moved false found rest i = refl

pub loop-i-preserved : goal.loop-i-preserved
loop-i-preserved c =
    let within : c.loop-i.i < length c.args.schema.now.columns = omega (arith, c.count-count.ensures, c.loop-i-test.true) in
    let step = rest-step c.args.fields.now c.args.schema.now.columns c.loop-i.i within in
    rw (c.in_ok-push_if.ensures, c.is_among.ensures) (moved _ c.loop-i.found _ c.loop-i.i ∙ ap (λ ps. c.loop-i.found ++ ps) (sym step) ∙ c.loop-i.invariant)
