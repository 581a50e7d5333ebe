-- When a call is to fail.
use Rattle.std.specs.Prelude.{◌≡◌, ◌⊎◌, ℕ, ◌≤◌, List, Option, Some, Contains}

-- the call's number is listed, or the number from which every call fails was reached
abbrev pub IsStruck : List ℕ → Option ℕ → ℕ → Type 0
IsStruck fails stop number = Contains fails number ⊎ ((first : ℕ) × (stop ≡ Some first) × (first ≤ number))
