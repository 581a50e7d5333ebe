use Rattle.std.proofs.Common.{◌≡◌, ◌≤◌, take}
use Rattle.reports.specs.Filed.{AreFiled, bytes_in, most_files}
use Rattle.tablet_run.proofs.inputs.read_files.Given as goal

abbrev pub invariant-loop-i : goal.invariant-loop-i
invariant-loop-i g l =
    (g.I.Inputs.files l.inputs ≡ g.I.Inputs.files l.initial.inputs)
    × (g.I.Inputs.faults l.inputs ≡ g.I.Inputs.faults l.initial.inputs)
    × AreFiled (g.I.Inputs.files l.initial.inputs) (take l.i l.jobs) l.filed.items
    × (l.read ≡ bytes_in l.filed.items)
    × (l.read ≤ most_files)
