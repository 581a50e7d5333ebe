-- Rising rows, place by place.
use Rattle.std.proofs.Common.{ℕ, suc, ◌<◌, List, [], ◌∷◌, length, get_or, arith}
use Rattle.rowsets.specs.Marks.{Rises}

pub rises_from : (rows : List ℕ) → ((k d : ℕ) → suc k < length rows → get_or rows k d < get_or rows (suc k) d) → Rises rows
rises_from [] each = tt
rises_from (a ∷ []) each = tt
rises_from (a ∷ b ∷ rows) each = (each 0 a (omega arith), rises_from (b ∷ rows) (λ k d lt. each (suc k) d (omega arith)))
