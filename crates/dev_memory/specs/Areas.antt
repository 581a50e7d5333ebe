-- An area of a store, as contracts see it.
use Rattle.std.specs.Prelude.{ℕ, ◌≤◌, ◌^◌, List, nat_le, Bool}

pub record AreaView : Type 0 where
  pub bytes : List ℕ
  -- how many bytes more there is memory for
  pub room : ℕ

abbrev pub bytes_in : AreaView → List ℕ
bytes_in area = area.bytes

abbrev pub has_room : ℕ → AreaView → Bool
has_room more area = nat_le more area.room

-- it has memory for one byte, and no more than the most bytes
pub record IsArea (capacity size : ℕ) : Type 0 where
  pub allocated : 1 ≤ capacity
  pub short : size ≤ 2 ^ 44
