use Rattle.std.proofs.Common.{◌≡◌, drop}
use Rattle.journal_form.specs.Versions.{file_numbered, files_of}
use Rattle.kept_versions.proofs.kept_version.KeptVersion.find.Given as goal

abbrev pub invariant-loop-files : goal.invariant-loop-files
invariant-loop-files l = file_numbered l.number (files_of (drop l.files-index l.self)) ≡ file_numbered l.number (files_of l.self)
