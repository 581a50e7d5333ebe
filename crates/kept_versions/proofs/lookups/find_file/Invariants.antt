use Rattle.std.proofs.Common.{◌≡◌, drop}
use Rattle.journal_form.specs.Versions.{file_numbered}
use Rattle.kept_versions.proofs.lookups.find_file.Given as goal

abbrev pub invariant-loop-file : goal.invariant-loop-file
invariant-loop-file l = file_numbered l.number (drop l.file-index l.files) ≡ file_numbered l.number l.files
