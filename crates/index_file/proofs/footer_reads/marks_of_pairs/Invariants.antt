use Rattle.std.proofs.Common.{◌≡◌, take}
use Rattle.index_file.specs.FooterFields.{marks_of_pairs}
use Rattle.index_file.proofs.footer_reads.marks_of_pairs.Given as goal

abbrev pub invariant-loop-pair : goal.invariant-loop-pair
invariant-loop-pair l = l.marks ≡ marks_of_pairs (take l.pair-index l.pairs)
