use Rattle.std.proofs.Common.{◌≡◌, ◌∷◌, take}
use Rattle.journal_form.specs.Versions.{marked}
use Rattle.kept_versions.proofs.marking.mark_behind.Given as goal

abbrev pub invariant-loop-files : goal.invariant-loop-files
invariant-loop-files l = l.marked ≡ l.fn.first ∷ marked l.changed (take l.files-index l.rowsets)
