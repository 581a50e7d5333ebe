-- A code while it is written.
use Rattle.std.specs.Prelude.{ℕ, ◌+◌, List, ◌++◌, length, take}

-- what is kept of a code: its first 128 bytes, and its length
pub record Draft : Type 0 where
  pub first : List ℕ
  pub count : ℕ

abbrev pub draft_of : List ℕ → Draft
draft_of code = record { first = take 128 code; count = length code }

-- the same with more bytes behind
abbrev pub with_more : Draft → List ℕ → Draft
with_more draft more = record { first = take 128 (draft.first ++ more); count = draft.count + length more }
