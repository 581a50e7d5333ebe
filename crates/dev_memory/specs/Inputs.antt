-- What inputs in memory hold, and how their takes are numbered.
use Rattle.std.specs.Prelude.{◌≡◌, ℕ, ◌+◌, ◌-◌, ◌^◌, List, [], drop, length, Contains, min, ⊤}
use Rattle.std.specs.Arc.{arc_value}
use Rattle.std.specs.FinMap.{from_entries}
use Rattle.dev_traits.specs.Streams.{Files}
use Rattle.dev_traits.specs.declared.streams.Taken.{Taken}
use Rattle.dev_traits.specs.declared.streams.Taken.TheVariants.{Bytes, End, Failed}
use Rattle.dev_traits.specs.declared.streams.Asked.{Asked}
use Rattle.dev_traits.specs.declared.streams.Asked.TheVariants.{Got, Absent, Memory}
use Rattle.dev_traits.specs.declared.streams.Asked.TheVariants as asked
use Rattle.dev_memory.specs.Texts.{text_in}
use Rattle.dev_memory.specs.declared.inputs.MemInputs.{MemInputs}
use Rattle.dev_memory.specs.declared.inputs.MemSource.{MemSource}

-- of each name the first file listed with it
abbrev pub files_of : MemInputs → Files
files_of inputs = from_entries (arc_value inputs.files).items

-- how many asks failed, and how many takes of the sources that were given back
abbrev pub faults_of : MemInputs → ℕ
faults_of inputs = inputs.faults

-- how many takes the sources that were given back have made
abbrev pub takes_of : MemInputs → ℕ
takes_of inputs = inputs.takes

-- the numbers of the takes that fail, and 0 where each ask fails
abbrev pub fails_of : MemInputs → List ℕ
fails_of inputs = (arc_value inputs.fails).items

-- the bytes that are left of a source
abbrev pub left_of : MemSource → List ℕ
left_of src = drop src.at (text_in (arc_value src.files).items src.place)

abbrev pub source_faults : MemSource → ℕ
source_faults src = src.faults

-- how many takes it has made
abbrev pub source_takes : MemSource → ℕ
source_takes src = src.takes

-- how many takes were made before its first
abbrev pub source_before : MemSource → ℕ
source_before src = src.takes_before

abbrev pub source_fails : MemSource → List ℕ
source_fails src = (arc_value src.fails).items

-- the number of the next take, which stops at the last u64
abbrev pub next_take : MemSource → ℕ
next_take src = min (src.takes_before + (src.takes + 1)) (2 ^ 64 - 1)

-- one take more is counted, and what it fails at stays
pub record Goes (old new : MemSource) : Type 0 where
  pub takes : source_takes new ≡ min (source_takes old + 1) (2 ^ 64 - 1)
  pub takes_before : source_before new ≡ source_before old
  pub fails : source_fails new ≡ source_fails old

-- a take gives as many bytes as are left and go into the buffer, the end where none are left, and fails exactly where
-- its number is listed
abbrev pub TakesAs : MemSource → ℕ → Taken → Type 0
TakesAs src size Failed = Contains (source_fails src) (next_take src)
TakesAs src size End = (left_of src ≡ []) × (Contains (source_fails src) (next_take src) → ⊥)
TakesAs src size (Bytes n) = (n ≡ min size (length (left_of src))) × (Contains (source_fails src) (next_take src) → ⊥)

-- a source goes on with the numbers of the takes before it, and fails where its inputs are listed to
abbrev pub NumberedOn : MemInputs → Asked MemSource → Type 0
NumberedOn inputs (Got src) = (source_before src ≡ takes_of inputs) × (source_takes src ≡ 0)
    × (source_fails src ≡ fails_of inputs)
NumberedOn inputs Absent = ⊤
NumberedOn inputs asked.Failed = ⊤
NumberedOn inputs Memory = ⊤
