use Rattle.std.proofs.Common.{◌≡◌, ℕ, List, sym, subst, ◌∙◌}
use Rattle.del_vector.specs.DeadRows.{AreDeadRows, AreRows}
use Rattle.rowsets.specs.Marks.{Rises}
use Rattle.journal_replay.proofs.LoopFacts.{taken_rise}
use Rattle.journal_replay.proofs.current_files.with_dead.Goals as goal

are_dead : (rows wide : List ℕ) → wide ≡ rows → Rises rows → AreRows wide → AreDeadRows wide
are_dead rows wide e rise below = record { rise = subst Rises (sym e) rise; below = below }

pub with-requires : goal.with-requires
with-requires c =
    subst AreDeadRows (sym c.deref.ensures.value) (are_dead c.args.rows.now _ c.in_ok-wide.ensures.same (taken_rise c.args.file.now c.args.rows.now c.requires) c.in_ok-wide.ensures.small)
