-- What is seen of an entry at the front of bytes.
use Rattle.std.specs.Prelude.{◌≡◌, ℕ, ◌≤◌, true, false, List, ◌++◌, length, ⊤}
use Rattle.std.specs.Cmp.Lexicographic.{slice_cmp}
use Rattle.std.specs.Ordering.{eq_by_cmp, nat_cmp}
use Rattle.index_file.specs.declared.seeking.Front.{Front}
use Rattle.index_file.specs.declared.seeking.Front.TheVariants.{Found, Other, NoEntry}
use Rattle.index_file.specs.Buckets.{Pair, PairFits, entry_bytes}

-- the entry has the key and this place, or another key and so many bytes
abbrev pub IsSeen : List ℕ → Pair → Front → Type 0
IsSeen key e (Found place) = (eq_by_cmp (slice_cmp nat_cmp) key e.0 ≡ true) × (place ≡ e.1)
IsSeen key e (Other taken) = (eq_by_cmp (slice_cmp nat_cmp) key e.0 ≡ false) × (taken ≡ length (entry_bytes e))
IsSeen key e NoEntry = ⊥

-- where the bytes begin with an entry, this is seen of it
abbrev pub Sees : List ℕ → List ℕ → Front → Type 0
Sees bytes key front = (e : Pair) (more : List ℕ) → PairFits e → bytes ≡ entry_bytes e ++ more → IsSeen key e front

-- an entry that is passed over ends within the bytes
abbrev pub IsWithin : List ℕ → Front → Type 0
IsWithin bytes (Found place) = ⊤
IsWithin bytes (Other taken) = taken ≤ length bytes
IsWithin bytes NoEntry = ⊤
