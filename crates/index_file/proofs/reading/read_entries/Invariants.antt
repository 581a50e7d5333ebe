use Rattle.index_file.proofs.SequenceFacts.{ReadSoFar}
use Rattle.index_file.proofs.reading.read_entries.Given as goal

abbrev pub invariant-loop-n : goal.invariant-loop-n
invariant-loop-n l = ReadSoFar l.bytes l._n l.at l.entries.items
