use Rattle.std.proofs.Common.{◌≡◌, ◌∙◌, sym, subst}
use Rattle.dev_traits.specs.declared.faults.ReadFault.{ReadFault}
use Rattle.pk_model.specs.Tables.{Rows}
use Rattle.segment_read.specs.Reads.{OnDamage}
use Rattle.snapshot_scan.specs.Snapshots.{IsSnapshotOf}
use Rattle.tablet_run.proofs.LaneFacts.{read-damaged, told-fault}
use Rattle.tablet_run.proofs.lanes.rows_told.Goals as goal

pub returns-in-Err-clause-rows : goal.returns-in-Err-clause-rows
returns-in-Err-clause-rows g c = λ m snap. told-fault c.args.snapshot.version m c.from.result (λ d e.
    subst (λ (f : ReadFault). OnDamage f (λ damaged. (n : Rows) → IsSnapshotOf c.args.snapshot n → ⊥)) (read-damaged c.in-Err.fault d (sym c.from.ensures ∙ e)) c.in-Err.ensures.intact m snap)
