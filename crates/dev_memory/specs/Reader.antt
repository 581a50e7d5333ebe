-- A reader in memory as it begins.
use Rattle.std.specs.Prelude.{◌≡◌, ℕ, ◌+◌, ◌-◌, ◌^◌, min, List, length, Some, None, Result, IsErr}
use Rattle.std.specs.Arc.{arc_value}
use Rattle.std.specs.Ordering.{nat_cmp}
use Rattle.std.specs.FinMap.Entries.{find}
use Rattle.dev_traits.specs.Reader.{ReaderView}
use Rattle.dev_memory.specs.Disk.{Held, entries_at}
use Rattle.dev_memory.specs.Strikes.{IsStruck}
use Rattle.dev_memory.specs.declared.reader.MemReader.{MemReader}

-- over these bytes, with no count risen yet
pub record IsNewOver (bytes : List ℕ) (reader : MemReader) : Type 0 where
  pub over : reader.file ≡ bytes
  pub faults : reader.faults ≡ 0
  pub reads : reader.reads ≡ 0
  pub first : reader.count ≡ 0

-- the numbers of its calls that fail
abbrev pub fails_of : MemReader → List ℕ
fails_of r = (arc_value r.fails).items

-- a reader that fails at these calls, counted from its first
pub record ListsFrom (listed : List ℕ) (r : MemReader) : Type 0 where
  pub listed_is : fails_of r ≡ listed
  pub first : r.count ≡ 0

-- what contracts see of a reader
abbrev pub reader_view : MemReader → ReaderView
reader_view r = record { bytes = Some r.file; size = length r.file; faults = r.faults; reads = r.reads }

-- over the file of this number, with no count risen yet
pub record Opens (h : Held) (number : ℕ) (reader : MemReader) : Type 0 where
  pub over : Some reader.file ≡ find nat_cmp number (entries_at (length h.deeds) h.files)
  pub faults : reader.faults ≡ 0
  pub reads : reader.reads ≡ 0
  pub first : reader.count ≡ 0

-- the number of the next call that can answer a fault, which stops at the last u64
abbrev pub next_call : MemReader → ℕ
next_call r = min (r.count + 1) (2 ^ 64 - 1)

-- that call is to fail
abbrev pub IsNextStruck : MemReader → Type 0
IsNextStruck r = IsStruck (fails_of r) None (next_call r)

-- A call is counted, and fails exactly where it is to.
pub record FailsAsListed {T E : Type 0} (old new : MemReader) (result : Result T E) : Type 0 where
  pub count : new.count ≡ next_call old
  pub fails : fails_of new ≡ fails_of old
  pub struck : IsNextStruck old → IsErr result
  pub only : IsErr result → IsNextStruck old

-- a call that can't answer a fault isn't counted
pub record Uncounted (old new : MemReader) : Type 0 where
  pub count : new.count ≡ old.count
  pub fails : fails_of new ≡ fails_of old
