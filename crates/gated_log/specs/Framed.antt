-- A body in the form in which it is written.
use Rattle.std.specs.Prelude.{◌≡◌, ℕ, ◌-◌, ◌^◌, ◌≤◌, ◌<◌, List, [], ◌∷◌, ◌++◌, length, take, drop}
use Rattle.gated_log.specs.Log.{frame}

abbrev pub body_in : List ℕ → List ℕ
body_in bytes = take (length bytes - 9) (drop 8 bytes)

-- length, body and a closed gate
pub record IsFramed (bytes : List ℕ) : Type 0 where
  pub form : bytes ≡ frame (body_in bytes) ++ 0 ∷ []
  pub no_shorter : 10 ≤ length bytes
  pub no_longer : length bytes < 2 ^ 63
