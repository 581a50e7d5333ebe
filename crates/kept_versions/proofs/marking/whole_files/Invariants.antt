use Rattle.std.proofs.Common.{◌≡◌, map, take}
use Rattle.journal_form.specs.Versions.{whole_file}
use Rattle.kept_versions.proofs.marking.whole_files.Given as goal

abbrev pub invariant-loop-file : goal.invariant-loop-file
invariant-loop-file l = l.whole ≡ map whole_file (take l.file-index l.files)
