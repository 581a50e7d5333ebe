-- Named texts.
use Rattle.std.specs.Prelude.{ℕ, List, [], get_or}

-- the text at a place
abbrev pub text_in : List (List ℕ × List ℕ) → ℕ → List ℕ
text_in files place = (get_or files place ([], [])).1
