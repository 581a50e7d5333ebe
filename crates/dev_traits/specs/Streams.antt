-- What a read, a write and an ask for an input do to the bytes that are told, and when they may fail.
use Rattle.std.specs.Prelude.{◌≡◌, ℕ, ◌<◌, ◌≤◌, List, [], ◌++◌, take, drop, length, Option, Some, None, IsSome, ⊤}
use Rattle.std.specs.Ordering.{nat_cmp}
use Rattle.std.specs.Cmp.Lexicographic.{slice_cmp}
use Rattle.std.specs.FinMap.{FinMap, get}
use Rattle.dev_traits.specs.Causes.{Counts}
use Rattle.dev_traits.specs.declared.streams.Taken.{Taken}
use Rattle.dev_traits.specs.declared.streams.Taken.TheVariants as taken
use Rattle.dev_traits.specs.declared.streams.Put.{Put}
use Rattle.dev_traits.specs.declared.streams.Put.TheVariants as put_
use Rattle.dev_traits.specs.declared.streams.Asked.{Asked}
use Rattle.dev_traits.specs.declared.streams.Asked.TheVariants as asked

-- inputs by the bytes of their names
abbrev pub Files : Type 0
Files = FinMap (slice_cmp nat_cmp) (List ℕ)

abbrev pub TakeWithin : ℕ → Taken → Type 0
TakeWithin size (taken.Bytes n) = (0 < n) × (n ≤ size)
TakeWithin size taken.End = ⊤
TakeWithin size taken.Failed = ⊤

-- what a read does to the bytes that were left: they come first in the buffer and are left no more
abbrev pub Takes : Option (List ℕ) → Option (List ℕ) → List ℕ → Taken → Type 0
Takes None now into answer = now ≡ None
Takes (Some xs) now into (taken.Bytes n) = (n ≤ length xs) × (take n into ≡ take n xs) × (now ≡ Some (drop n xs))
Takes (Some xs) now into taken.End = (xs ≡ []) × (now ≡ Some [])
Takes (Some xs) now into taken.Failed = now ≡ Some xs

-- a read that fails counts one fault, and another none
abbrev pub TakeCause : ℕ → ℕ → Taken → Type 0
TakeCause before now taken.Failed = Counts 1 before now
TakeCause before now taken.End = now ≡ before
TakeCause before now (taken.Bytes n) = now ≡ before

abbrev pub PutWithin : ℕ → Put → Type 0
PutWithin size (put_.Took n) = (0 < n) × (n ≤ size)
PutWithin size put_.Failed = ⊤

-- what a write does to the bytes that are held
abbrev pub Puts : Option (List ℕ) → Option (List ℕ) → List ℕ → Put → Type 0
Puts None now piece answer = now ≡ None
Puts (Some xs) now piece (put_.Took n) = now ≡ Some (xs ++ take n piece)
Puts (Some xs) now piece put_.Failed = now ≡ Some xs

-- a write that fails counts one fault, and another none
abbrev pub PutCause : ℕ → ℕ → Put → Type 0
PutCause before now put_.Failed = Counts 1 before now
PutCause before now (put_.Took n) = now ≡ before

-- Inputs that tell give a source of the bytes under the name, and answer that it is absent exactly where they have
-- none, so that they want
-- memory only for an input that is there. A new source has no fault.
abbrev pub Asks : {S : Type 0} → (S → Option (List ℕ)) → (S → ℕ) → Option Files → List ℕ → Asked S → Type 0
Asks left faults None name (asked.Got src) = (left src ≡ None) × (faults src ≡ 0)
Asks left faults (Some files) name (asked.Got src) = (bytes : List ℕ) × (get files name ≡ Some bytes)
    × (left src ≡ Some bytes) × (faults src ≡ 0)
Asks left faults None name asked.Absent = ⊤
Asks left faults (Some files) name asked.Absent = get files name ≡ None
Asks left faults files name asked.Failed = ⊤
Asks left faults None name asked.Memory = ⊤
Asks left faults (Some files) name asked.Memory = IsSome (get files name)

-- an ask that fails counts one fault, and another none
abbrev pub AskCause : {S : Type 0} → ℕ → ℕ → Asked S → Type 0
AskCause before now asked.Failed = Counts 1 before now
AskCause before now asked.Memory = now ≡ before
AskCause before now asked.Absent = now ≡ before
AskCause before now (asked.Got src) = now ≡ before
