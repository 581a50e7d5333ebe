use Rattle.std.proofs.Common.{◌≡◌, map, take}
use Rattle.journal_form.specs.Versions.{marked_file}
use Rattle.kept_versions.proofs.marking.mark_files.Given as goal

abbrev pub invariant-loop-file : goal.invariant-loop-file
invariant-loop-file l = l.marked ≡ map (marked_file l.changed) (take l.file-index l.files)
