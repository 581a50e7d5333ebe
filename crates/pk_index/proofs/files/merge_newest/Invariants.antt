use Rattle.std.proofs.Common.{◌≡◌, ◌∷◌, List, T, drop, map, take}
use Rattle.std.specs.FinMap.{entries, is_sorted}
use Rattle.std.specs.Cmp.Lexicographic.{slice_cmp}
use Rattle.std.specs.Ordering.{nat_cmp}
use Rattle.index_level0.specs.Levels.{Level}
use Rattle.index_levels.specs.Levels.{merged}
use Rattle.pk_index.specs.Files.{IsSame, Stay}
use Rattle.pk_index.specs.Shown.{HaveLevels}
use Rattle.pk_index.proofs.files.merge_newest.Given as goal

abbrev pub invariant-loop-i : goal.invariant-loop-i
invariant-loop-i g l =
    record {
      same : Stay (IsSame g.F.FileLevel.has_level g.F.FileLevel.has_entry g.F.FileLevel.reads_as g.F.FileLevel.damaged_at g.F.FileLevel.damaged) l.fn.files l.files;
      so_far : (ls : List Level) → HaveLevels g.F.FileLevel.has_level l.fn.files ls → l.all.items ≡ entries (merged (l.level0.level ∷ take l.i ls));
      rest : drop l.i l.files ≡ drop l.i l.fn.files;
      listed : (ls : List Level) × HaveLevels g.F.FileLevel.reads_as (take l.i l.fn.files) ls × (l.all.items ≡ entries (merged (l.level0.level ∷ ls)));
      older : drop l.count l.files ≡ drop l.count l.fn.files;
      named : map g.F.FileLevel.named l.files ≡ map g.F.FileLevel.named l.fn.files;
      calm : map g.F.FileLevel.faults l.files ≡ map g.F.FileLevel.faults l.fn.files;
      rise : T (is_sorted (slice_cmp nat_cmp) l.all.items);
    }
