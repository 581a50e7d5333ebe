use Rattle.std.proofs.Common.{◌≡◌, ◌∙◌, refl, sym, subst, List}
use Rattle.dev_traits.specs.declared.faults.ReadFault.{ReadFault}
use Rattle.pk_values.specs.declared.cells.Value.{Value}
use Rattle.segment_read.specs.Reads.{OnDamage}
use Rattle.snapshot_scan.specs.Scans.{AreToCome}
use Rattle.tablet_run.proofs.LaneFacts.{read-damaged}
use Rattle.tablet_run.proofs.scanning.put_next.Goals as goal

pub returns-in_ok-put_row-in-Ok-Some-clause-next : goal.returns-in_ok-put_row-in-Ok-Some-clause-next
returns-in_ok-put_row-in-Ok-Some-clause-next g c = λ rows come.
    let gives = rw c.in-Ok-Some.field-0-is at c.in-Ok-Some.ensures.gives in
    let next = gives rows come in
    (c.in-Ok-Some.row, next.0, next.1, c.in_ok-put_row-in-Ok-Some.ensures.put, next.2)

pub returns-in-Ok-None-clause-next : goal.returns-in-Ok-None-clause-next
returns-in-Ok-None-clause-next g c = λ rows come.
    let gives = rw c.in-Ok-None.field-0-is at c.in-Ok-None.ensures.gives in
    ((gives rows come).0, refl)

pub returns-in-Err-clause-intact : goal.returns-in-Err-clause-intact
returns-in-Err-clause-intact g c = λ d e.
    subst (λ (f : ReadFault). OnDamage f (λ damaged. (rows : List (List Value)) → AreToCome c.args.scan.now rows → ⊥)) (read-damaged c.in-Err.fault d (sym c.from.ensures ∙ e))
    (c.in-Err.ensures.intact c.requires.unfailed)
