-- A best score: what its history may have, and what it is then.
use Rattle.std.specs.Prelude.{◌≡◌, ℕ, ◌+◌, ◌≤◌, max, List, [], ◌∷◌, ◌++◌}
use Rattle.std.proofs.Common.{refl, arith, subst}
use Rattle.turn_uses.specs.declared.scores.Score.{Score}
use Rattle.turn_uses.specs.declared.scores.Score.TheVariants.{Submitted, Compared}
use Rattle.turn_book.specs.Standing.{StandsAt}

-- the best of a best score and one entry more
abbrev pub best_with : ℕ → Score → ℕ
best_with best (Submitted score) = max best score
best_with best (Compared score behind) = best

abbrev pub best_after : ℕ → List Score → ℕ
best_after best [] = best
best_after best (e ∷ es) = best_after (best_with best e) es

-- a score that is compared lies so far behind the best
abbrev pub MayCome : ℕ → Score → Type 0
MayCome best (Submitted score) = Unit {0}
MayCome best (Compared score behind) = score + behind ≡ best

abbrev pub AreScores : ℕ → List Score → Type 0
AreScores best [] = Unit {0}
AreScores best (e ∷ es) = MayCome best e × AreScores (best_with best e) es

pub scores_before : (best : ℕ) (h k : List Score) → AreScores best (h ++ k) → AreScores best h
scores_before best [] k l = tt
scores_before best (e ∷ es) k l = (l.0, scores_before (best_with best e) es k l.1)

-- one entry more, which may come after the others
pub scores_snoc : (best : ℕ) (h : List Score) (e : Score) → AreScores best h → MayCome (best_after best h) e
    → AreScores best (h ++ e ∷ [])
scores_snoc best [] e l may = (may, tt)
scores_snoc best (x ∷ xs) e l may = (l.0, scores_snoc (best_with best x) xs e l.1 may)

pub best_snoc : (best : ℕ) (h : List Score) (e : Score)
    → best_after best (h ++ e ∷ []) ≡ best_with (best_after best h) e
best_snoc best [] e = refl
best_snoc best (x ∷ xs) e = best_snoc (best_with best x) xs e

best_rises : (best : ℕ) (e : Score) → best ≤ best_with best e
best_rises best (Submitted score) = omega arith
best_rises best (Compared score behind) = omega arith

pub best_least : (best : ℕ) (h : List Score) → best ≤ best_after best h
best_least best [] = omega arith
best_least best (e ∷ es) = let a = best_rises best e in let b = best_least (best_with best e) es in omega arith

best_of_parts : (best : ℕ) (before later : List Score) (score : ℕ)
    → score ≤ best_after best (before ++ Submitted score ∷ later)
best_of_parts best [] later score = let b = best_least (max best score) later in omega arith
best_of_parts best (e ∷ es) later score = best_of_parts (best_with best e) es later score

-- no score that was handed in is above the best
pub score_below : (best : ℕ) (h : List Score) (place score : ℕ) → StandsAt h place (Submitted score)
    → score ≤ best_after best h
score_below best h place score s = subst (λ l. score ≤ best_after best l) s.parts
    (best_of_parts best s.before s.later score)
