use Rattle.std.proofs.Common.{◌≡◌, ◌≤◌, ◌-◌, ◌++◌, drop, take}
use Rattle.std.specs.Vec.{vec_capacity}
use Rattle.pk_index.proofs.files.set_aside.Given as goal

abbrev pub invariant-loop-n : goal.invariant-loop-n
invariant-loop-n g l =
    record {
      left : l.files.items ≡ drop (l._n - l.keep) l.fn.files.items;
      moved : l.aside.items ≡ l.fn.aside.items ++ take (l._n - l.keep) l.fn.files.items;
      capacity : vec_capacity l.files ≡ vec_capacity l.fn.files;
      aside_capacity : vec_capacity l.fn.aside ≤ vec_capacity l.aside;
    }
