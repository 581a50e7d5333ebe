use Rattle.std.proofs.Common.{◌≡◌, ◌++◌, IsTrue, drop}
use Rattle.std.specs.Prelude.{is_some}
use Rattle.std.specs.List.{flat_map}
use Rattle.std.specs.FinMap.{from_sorted}
use Rattle.std.specs.Option.{option_map}
use Rattle.index_file.specs.Buckets.{bucket_file, buckets_of, marks_from}
use Rattle.index_file.proofs.making.put_buckets.Given as goal

abbrev pub invariant-loop-b : goal.invariant-loop-b
invariant-loop-b g l =
    let view = g.M.FileMaker.view in
    let bs = buckets_of (from_sorted l.entries) in
    record {
      started : IsTrue (view l.maker).is_started;
      made : option_map (λ made. made ++ flat_map bucket_file (drop l.b bs)) (view l.maker).made ≡ option_map (λ made. made ++ flat_map bucket_file bs) (view l.initial.maker).made;
      marks : l.marks ++ marks_from l.place (drop l.b bs) ≡ marks_from 0 bs;
      tells : is_some (view l.maker).made ≡ is_some (view l.initial.maker).made;
      unfailed : (view l.maker).faults ≡ (view l.initial.maker).faults;
    }
