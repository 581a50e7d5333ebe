-- The fields of a footer.
use Rattle.std.specs.Prelude.{ℕ, List, map}
use Rattle.value_bytes.specs.Fields.{Field, both, counted, u64}
use Rattle.index_file.specs.declared.footers.BucketMark.{BucketMark}

-- the number of entries, and for each bucket its place and its length
abbrev pub footer_field : Field (ℕ × List (ℕ × ℕ))
footer_field = both u64 (counted u64 (both u64 u64))

-- the marks that pairs of numbers are
abbrev pub mark_of_pair : ℕ × ℕ → BucketMark
mark_of_pair p = record { place = p.0; length = p.1 }

abbrev pub marks_of_pairs : List (ℕ × ℕ) → List BucketMark
marks_of_pairs pairs = map mark_of_pair pairs
