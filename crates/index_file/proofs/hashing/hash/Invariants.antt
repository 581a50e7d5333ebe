use Rattle.std.proofs.Common.{◌≡◌, drop}
use Rattle.index_file.specs.Hash as spec
use Rattle.index_file.proofs.hashing.hash.Given as goal

abbrev pub invariant-loop-byte : goal.invariant-loop-byte
invariant-loop-byte l = spec.hash_from l.state (drop l.byte-index l.bytes) ≡ spec.hash l.fn.bytes
