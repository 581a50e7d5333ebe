-- A text that is cut at a byte.
use Rattle.std.specs.Prelude.{◌≡◌, ℕ, List, [], ◌∷◌, ◌++◌, All, Bool as Truth, true, false, ◌==◌}
use Rattle.script_text.specs.Scripts.{is_blank}

abbrev pub is_line_feed : ℕ → Truth
is_line_feed b = b == 10

-- the front stands before the first byte that passes, and the rest after it
pub record IsCut (passes : ℕ → Truth) (text front rest : List ℕ) : Type 0 where
  pub at : ℕ
  pub text_is : text ≡ front ++ at ∷ rest
  pub front_fails : All (λ b. passes b ≡ false) front
  pub at_passes : passes at ≡ true

abbrev pub begins_with_blank : List ℕ → Truth
begins_with_blank [] = false
begins_with_blank (b ∷ bs) = is_blank b
