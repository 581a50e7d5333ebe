use Rattle.std.proofs.Common.{◌≡◌, ◌-◌, ◌^◌, min, take}
use Rattle.kept_versions.specs.Files.{alive}
use Rattle.kept_versions.proofs.kept_version.rows_in.Given as goal

abbrev pub invariant-loop-file : goal.invariant-loop-file
invariant-loop-file l = l.count ≡ min (alive (take l.file-index l.files)) (2 ^ 64 - 1)
