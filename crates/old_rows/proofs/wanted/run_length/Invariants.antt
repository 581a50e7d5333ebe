use Rattle.std.proofs.Common.{◌≡◌, ◌≤◌, ◌-◌, ◌∷◌, List, All, length, take}
use Rattle.old_rows.specs.Wanted.{block_of}
use Rattle.old_rows.specs.declared.wanted.Wanted.{Wanted}
use Rattle.old_rows.proofs.wanted.run_length.Given as goal

abbrev pub invariant-loop-count : goal.invariant-loop-count
invariant-loop-count l = record {
  some : 1 ≤ l.count;
  most : l.count ≤ length l.wanted;
  one : (w : Wanted) (ws : List Wanted) → l.wanted ≡ w ∷ ws → All (λ v. block_of v.place ≡ block_of w.place) (take l.count l.wanted);
}

abbrev pub decreases-loop-count : goal.decreases-loop-count
decreases-loop-count l = length l.wanted - l.count
