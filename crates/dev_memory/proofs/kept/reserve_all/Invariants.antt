use Rattle.std.proofs.Common.{◌≡◌, ℕ, true, map, take}
use Rattle.std.specs.List.{list_all}
use Rattle.dev_memory.specs.Areas.{bytes_in, has_room}
use Rattle.dev_memory.proofs.kept.reserve_all.Given as goal

abbrev pub invariant-loop-i : goal.invariant-loop-i
invariant-loop-i l = record {
  same : map bytes_in l.areas ≡ map bytes_in l.initial.areas;
  kept : (room : ℕ) → list_all (has_room room) l.initial.areas ≡ true → list_all (has_room room) l.areas ≡ true;
  done : list_all (has_room l.more) (take l.i l.areas) ≡ true;
}
