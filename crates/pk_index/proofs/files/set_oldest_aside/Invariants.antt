use Rattle.std.proofs.Common.{◌≡◌, ◌≤◌, ◌-◌, ◌++◌, drop, reverse, take, length}
use Rattle.std.specs.Vec.{vec_capacity}
use Rattle.pk_index.proofs.files.set_oldest_aside.Given as goal

abbrev pub invariant-loop-n : goal.invariant-loop-n
invariant-loop-n g l =
    record {
      left : l.files.items ≡ take (length l.fn.files.items - l._n) l.fn.files.items;
      moved : l.aside.items ≡ l.fn.aside.items ++ reverse (drop (length l.fn.files.items - l._n) l.fn.files.items);
      capacity : vec_capacity l.files ≡ vec_capacity l.fn.files;
      aside_capacity : vec_capacity l.fn.aside ≤ vec_capacity l.aside;
    }
