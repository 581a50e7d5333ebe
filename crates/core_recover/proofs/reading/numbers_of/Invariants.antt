use Rattle.std.proofs.Common.{◌≡◌, IsTrue, map, take}
use Rattle.std.specs.List.{AllByRecursion}
use Rattle.column_page.specs.Footers.{is_footer}
use Rattle.core_recover.proofs.reading.numbers_of.Given as goal

abbrev pub invariant-loop-segment : goal.invariant-loop-segment
invariant-loop-segment g l = record {
  numbers : l.numbers.items ≡ map (λ s. s.number) (take l.segment-index l.segments);
  footers : AllByRecursion (λ s. IsTrue (is_footer s.footer)) (take l.segment-index l.segments);
}
