use Rattle.std.proofs.Common.{◌≡◌, ◌&&◌, drop, length}
use Rattle.kept_versions.specs.Marking.{lives_all, noted_all}
use Rattle.kept_versions.proofs.marking.note_all.Given as goal

abbrev pub invariant-loop-file : goal.invariant-loop-file
invariant-loop-file l = record {
  each : length l.found.items ≡ length l.changed;
  found : noted_all (drop l.file-index l.files) l.changed l.found.items ≡ noted_all l.files l.changed l.fn.found.items;
  lives : (l.live && lives_all (drop l.file-index l.files) l.changed l.found.items) ≡ lives_all l.files l.changed l.fn.found.items;
}
