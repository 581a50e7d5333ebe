-- What is left to read, and what is held, while a stream is passed on.
use Rattle.std.specs.Prelude.{◌≡◌, ℕ, ◌+◌, ◌<◌, ◌≤◌, List, ◌++◌, length, Option, Some, None, Result, Ok, Err, IfSome, IsSomeAnd, ⊤}
use Rattle.std.specs.FinMap as map
use Rattle.dev_traits.specs.Causes.{Counts}
use Rattle.dev_traits.specs.Streams.{Files}
use Rattle.tablet_run.specs.declared.streams.InputStop.{InputStop}
use Rattle.tablet_run.specs.declared.streams.InputStop.TheVariants.{Missing, Fault, TooLarge, Memory}

-- of the bytes that were left these were read, and the rest is left
abbrev pub ReadFrom : Option (List ℕ) → Option (List ℕ) → List ℕ → Type 0
ReadFrom None now read = now ≡ None
ReadFrom (Some all) now read = (rest : List ℕ) × (now ≡ Some rest) × (read ++ rest ≡ all)

-- these are all the bytes of a source, where it tells them, and no more than the limit
abbrev pub ReadsAll : ℕ → Option (List ℕ) → List ℕ → Type 0
ReadsAll most left bytes = (length bytes ≤ most) × IfSome left (λ all. bytes ≡ all)

-- why a source was not read to its end: a read failed, or it has more bytes than the limit, or memory was wanting
abbrev pub StopsReading : ℕ → Option (List ℕ) → InputStop → Type 0
StopsReading most left Missing = ⊥
StopsReading most left Fault = ⊤
StopsReading most left (TooLarge n) = (n ≡ most + 1) × IfSome left (λ all. most < length all)
StopsReading most left Memory = ⊤

-- how a count of faults goes on where a reading stops: a fault counts one, and whatever else none
abbrev pub StopCause : ℕ → ℕ → InputStop → Type 0
StopCause before now Fault = Counts 1 before now
StopCause before now Missing = now ≡ before
StopCause before now (TooLarge n) = now ≡ before
StopCause before now Memory = now ≡ before

-- and where it may have come to its end, which counts none
abbrev pub ReadCause : {T : Type 0} → ℕ → ℕ → Result T InputStop → Type 0
ReadCause before now (Ok read) = now ≡ before
ReadCause before now (Err stop) = StopCause before now stop

-- inputs that tell hold these bytes under a name, and they are no more than the limit
abbrev pub Holds : Option Files → List ℕ → ℕ → List ℕ → Type 0
Holds files name most bytes = (length bytes ≤ most) × IfSome files (λ fs. map.get fs name ≡ Some bytes)

-- inputs that tell hold nothing under a name
abbrev pub Lacks : Option Files → List ℕ → Type 0
Lacks files name = IfSome files (λ fs. map.get fs name ≡ None)

-- inputs that tell hold more bytes than the limit under a name
abbrev pub Exceeds : Option Files → List ℕ → ℕ → Type 0
Exceeds files name most = IfSome files (λ fs. IsSomeAnd (map.get fs name) (λ bytes. most < length bytes))

-- why an input was not read
abbrev pub StopsInput : Option Files → List ℕ → ℕ → InputStop → Type 0
StopsInput files name most Missing = Lacks files name
StopsInput files name most Fault = ⊤
StopsInput files name most (TooLarge n) = (n ≡ most + 1) × Exceeds files name most
StopsInput files name most Memory = ⊤

-- where the bytes that were held are told, these bytes were put after them
abbrev pub HeldAfter : Option (List ℕ) → Option (List ℕ) → List ℕ → Type 0
HeldAfter None now put = now ≡ None
HeldAfter (Some before) now put = now ≡ Some (before ++ put)

-- a part of a text was put, and not the rest
abbrev pub FailsAfter : Option (List ℕ) → Option (List ℕ) → List ℕ → Type 0
FailsAfter before now text = (put rest : List ℕ) × HeldAfter before now put × (put ++ rest ≡ text)
