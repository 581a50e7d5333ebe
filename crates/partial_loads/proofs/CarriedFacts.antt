-- The cell of a line in a column, looked for from the left.
use Rattle.std.proofs.Common.{◌≡◌, ◌≢◌, refl, ap, sym, ◌∙◌, ℕ, ◌+◌, ◌<◌, zero, suc, List, [], ◌∷◌, length, drop, arith, get_or, cond}
use Rattle.std.proofs.lemmas.Bool.{ne_eqb}
use Rattle.pk_values.specs.declared.cells.Value.{Value}
use Rattle.pk_values.specs.declared.cells.Value.TheVariants.{Null}
use Rattle.partial_loads.specs.Folds.{carried}

pub carried-none : (given : List ℕ) (c : ℕ) → carried given [] c ≡ Null
carried-none [] c = refl
carried-none (p ∷ given) c = refl

pub carried-skip : (given : List ℕ) (cells : List Value) (i c : ℕ) → i < length given → get_or given i 0 ≢ c → carried (drop i given) (drop i cells) c ≡ carried (drop (i + 1) given) (drop (i + 1) cells) c
carried-skip [] cells i c l n = absurd (omega arith)
carried-skip (p ∷ given) [] zero c l n = sym (carried-none given c)
carried-skip (p ∷ given) (v ∷ cells) zero c l n = ap (λ b. cond b v (carried given cells c)) (ne_eqb p c n)
carried-skip (p ∷ given) [] (suc i) c l n =
    let e : suc i + 1 ≡ suc (i + 1) = omega arith in
    carried-none (drop i given) c ∙ sym (carried-none (drop (i + 1) given) c) ∙ ap (λ j. carried (drop j (p ∷ given)) (drop j []) c) (sym e)
carried-skip (p ∷ given) (v ∷ cells) (suc i) c l n =
    let e : suc i + 1 ≡ suc (i + 1) = omega arith in
    carried-skip given cells i c (omega arith) n ∙ ap (λ j. carried (drop j (p ∷ given)) (drop j (v ∷ cells)) c) (sym e)
