use Rattle.std.proofs.Common.{◌≡◌, List, None, Option, drop, map, take}
use Rattle.index_level0.specs.Levels.{Entry, Level}
use Rattle.index_levels.specs.Levels.{entry_at}
use Rattle.dev_traits.specs.declared.faults.Damaged.{Damaged}
use Rattle.pk_index.specs.Files.{FirstDamaged, IsSame, Stay}
use Rattle.pk_index.specs.Shown.{AtMostOneMore, FirstHas, HaveLevels}
use Rattle.pk_index.proofs.files.probe_all.Given as goal

abbrev pub invariant-loop-i : goal.invariant-loop-i
invariant-loop-i g l =
    record {
      same : Stay (IsSame g.F.FileLevel.has_level g.F.FileLevel.has_entry g.F.FileLevel.reads_as g.F.FileLevel.damaged_at g.F.FileLevel.damaged) l.fn.files l.files;
      hurt : (shown : Damaged) → FirstDamaged (λ f. g.F.FileLevel.has_entry f l.key None) (λ f. g.F.FileLevel.damaged_at f l.key shown) (drop l.i l.fn.files) → FirstDamaged (λ f. g.F.FileLevel.has_entry f l.key None) (λ f. g.F.FileLevel.damaged_at f l.key shown) l.fn.files;
      counted : AtMostOneMore (take l.i (map g.F.FileLevel.reads l.fn.files)) (take l.i (map g.F.FileLevel.reads l.files));
      uncounted : drop l.i (map g.F.FileLevel.reads l.files) ≡ drop l.i (map g.F.FileLevel.reads l.fn.files);
      named : map g.F.FileLevel.named l.files ≡ map g.F.FileLevel.named l.fn.files;
      calm : map g.F.FileLevel.faults l.files ≡ map g.F.FileLevel.faults l.fn.files;
      rest : drop l.i l.files ≡ drop l.i l.fn.files;
      told : (entry : Option Entry) → FirstHas (λ f. g.F.FileLevel.has_entry f l.key) (drop l.i l.fn.files) entry → FirstHas (λ f. g.F.FileLevel.has_entry f l.key) l.fn.files entry;
      none : (ls : List Level) → HaveLevels g.F.FileLevel.has_level l.fn.files ls → entry_at (drop l.i ls) l.key ≡ entry_at ls l.key;
    }
