use Rattle.std.proofs.Common.{◌≡◌, ◌&&◌, drop, length}
use Rattle.journal_form.specs.Versions.{files_of}
use Rattle.kept_versions.specs.Marking.{lives_all, noted_all}
use Rattle.kept_versions.proofs.marking.note_rowsets.Given as goal

abbrev pub invariant-loop-files : goal.invariant-loop-files
invariant-loop-files l = record {
  each : length l.found.items ≡ length l.changed;
  found : noted_all (files_of (drop l.files-index l.rowsets)) l.changed l.found.items ≡ noted_all (files_of l.rowsets) l.changed l.fn.found.items;
  lives : (l.live && lives_all (files_of (drop l.files-index l.rowsets)) l.changed l.found.items) ≡ lives_all (files_of l.rowsets) l.changed l.fn.found.items;
}
