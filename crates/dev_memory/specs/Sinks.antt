-- What a sink in memory holds and counts.
use Rattle.std.specs.Prelude.{◌≡◌, ℕ, ◌+◌, ◌-◌, ◌^◌, List, ◌++◌, min, length, take}
use Rattle.dev_traits.specs.declared.streams.Put.{Put}
use Rattle.dev_traits.specs.declared.streams.Put.TheVariants.{Took, Failed}
use Rattle.dev_memory.specs.declared.sink.MemSink.{MemSink}

-- the bytes that were put
abbrev pub held_by : MemSink → List ℕ
held_by sink = sink.written.items

-- how many puts failed
abbrev pub faults_of : MemSink → ℕ
faults_of sink = sink.faults

-- how many puts were asked for
abbrev pub puts_of : MemSink → ℕ
puts_of sink = sink.puts

-- the most bytes that it takes at once
abbrev pub most_of : MemSink → ℕ
most_of sink = sink.most

-- the numbers of the puts that fail
abbrev pub fails_of : MemSink → List ℕ
fails_of sink = sink.fails.items

-- the number of the next put, which stops at the last u64
abbrev pub next_put : MemSink → ℕ
next_put sink = min (sink.puts + 1) (2 ^ 64 - 1)

-- a put takes the first bytes of the piece, as many as go in at once, or nothing where it fails
abbrev pub Keeps : MemSink → MemSink → List ℕ → Put → Type 0
Keeps old new piece (Took n) = (n ≡ min (length piece) (most_of old)) × (held_by new ≡ held_by old ++ take n piece)
Keeps old new piece Failed = held_by new ≡ held_by old
