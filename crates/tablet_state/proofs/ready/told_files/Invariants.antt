use Rattle.std.proofs.Common.{◌≡◌, ◌+◌, map, take}
use Rattle.tablet_state.specs.Readies.{new_files}
use Rattle.tablet_state.proofs.ready.told_files.Given as goal

abbrev pub invariant-loop-made : goal.invariant-loop-made
invariant-loop-made g l = record {
  told : l.told.items ≡ new_files l.first (take l.made-index (map (λ m. (g.M.FileMaker.sealed_bytes m.sealed, m.footer)) l.files));
  number : l.file ≡ l.first + l.made-index;
}
