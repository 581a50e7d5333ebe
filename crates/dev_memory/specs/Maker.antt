-- What a maker in memory counts.
use Rattle.std.specs.Prelude.{◌≡◌, ◌⊎◌, ℕ, ◌+◌, ◌-◌, ◌^◌, min, List, [], length, Some, None, Result, IsErrOf, IsFalse}
use Rattle.std.specs.Arc.{arc_value}
use Rattle.dev_traits.specs.Maker.{MakerView}
use Rattle.dev_traits.specs.declared.outside.DevError.{DevError}
use Rattle.dev_traits.specs.declared.outside.DevError.TheVariants.{Failed}
use Rattle.dev_memory.specs.Strikes.{IsStruck}
use Rattle.dev_memory.specs.declared.maker.MemMaker.{MemMaker}
use Rattle.dev_memory.specs.declared.maker.MemSealed.{MemSealed}
use Rattle.dev_memory.specs.Reader as reader

abbrev pub faults_of : MemMaker → ℕ
faults_of m = m.faults

-- what contracts see of a maker
abbrev pub maker_view : MemMaker → MakerView
maker_view m = record { made = Some m.bytes.items; is_started = m.is_started; faults = m.faults }

-- the numbers of its calls that fail, and of those of the readers of its files
abbrev pub fails_of : MemMaker → List ℕ
fails_of m = (arc_value m.fails).items

abbrev pub reader_fails_of : MemMaker → List ℕ
reader_fails_of m = (arc_value m.reader_fails).items

abbrev pub sealed_fails_of : MemSealed → List ℕ
sealed_fails_of s = reader.fails_of s.reader

-- a maker that fails at these calls, counted from its first, with readers that fail at those
pub record ListsFrom (listed readers : List ℕ) (m : MemMaker) : Type 0 where
  pub listed_is : fails_of m ≡ listed
  pub readers_is : reader_fails_of m ≡ readers
  pub first : m.count ≡ 0

-- how many bytes were added
abbrev pub made_len : MemMaker → ℕ
made_len m = length m.bytes.items

-- the number of the next call, which stops at the last u64
abbrev pub next_call : MemMaker → ℕ
next_call m = min (m.count + 1) (2 ^ 64 - 1)

-- that call is to fail
abbrev pub IsNextStruck : MemMaker → Type 0
IsNextStruck m = IsStruck (fails_of m) None (next_call m)

-- A call is counted, and fails exactly where it is to, or for this.
pub record FailsOnly {T : Type 0} (Cause : Type 0) (old new : MemMaker) (result : Result T DevError) : Type 0 where
  pub count : new.count ≡ next_call old
  pub fails : fails_of new ≡ fails_of old
  pub reader_fails : reader_fails_of new ≡ reader_fails_of old
  pub struck : IsNextStruck old → IsErrOf result Failed
  pub caused : Cause → IsErrOf result Failed
  pub only : IsErrOf result Failed → IsNextStruck old ⊎ Cause

-- the file under way is as it was
pub record SameUnderWay (old new : MemMaker) : Type 0 where
  pub made : new.bytes.items ≡ old.bytes.items
  pub started : new.is_started ≡ old.is_started

-- no file is under way
pub record HasNoFile (m : MemMaker) : Type 0 where
  pub none_made : m.bytes.items ≡ []
  pub not_started : IsFalse m.is_started
