use Rattle.std.proofs.Common.{◌≡◌, ◌≤◌, List, length, None}
use Rattle.pk_values.specs.declared.cells.Value.{Value}
use Rattle.snapshot_scan.specs.Scans.{AreToCome}
use Rattle.tablet_run.proofs.ScanFacts.{HasPut}
use Rattle.tablet_run.proofs.scanning.text_of_rows.Given as goal

abbrev pub invariant-loop-i : goal.invariant-loop-i
invariant-loop-i g l =
    (l.scan.fault ≡ None)
    × ((rows : List (List Value)) → AreToCome l.initial.scan rows → HasPut (AreToCome l.scan) rows l.i l.text.items)
