use Rattle.std.proofs.Common.{◌≡◌, ◌-◌, ◌^◌, map, min, take}
use Rattle.std.specs.Prelude.{sum}
use Rattle.kept_versions.specs.Files.{alive}
use Rattle.kept_versions.proofs.kept_version.KeptVersion.rows_alive.Given as goal

abbrev pub invariant-loop-files : goal.invariant-loop-files
invariant-loop-files l = l.count ≡ min (sum (map alive (take l.files-index l.self))) (2 ^ 64 - 1)
