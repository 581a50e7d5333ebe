use Rattle.std.proofs.Common.{◌≡◌, ◌∙◌, ◌≤◌, ℕ, arith, slice_get, IfSome, IsTrue, List, None, Ok, Err, true, false, sym, subst}
use Rattle.pk_values.specs.Schemas.{fits_row}
use Rattle.pk_values.specs.declared.cells.Value.{Value}
use Rattle.pk_model.specs.Tables.{Rows}
use Rattle.snapshot_scan.specs.Snapshots.{IsSnapshotOf}
use Rattle.row_merge.specs.Cursors.{AllFit}
use Rattle.snapshot_scan.specs.Scans.{AreToCome, Gives, HasLive, IsDue, IsPlayed, NoneDue, reads_in_all, ReadsDue, ScanView}
use Rattle.snapshot_scan.proofs.CountingFacts.{none_counted, taken_once}
use Rattle.snapshot_scan.proofs.LeftFacts.{all_fit}
use Rattle.snapshot_scan.proofs.NextFacts.{due_last, next_gives, still_stands}
use Rattle.snapshot_scan.proofs.StepFacts.{live_at, none_due, still_played, taken_cursors, taken_settled}
use Rattle.snapshot_scan.proofs.scans.Scan.next_row.Goals as goal

pub take_first-row-requires-clause-fit : goal.take_first-row-requires-clause-fit
take_first-row-requires-clause-fit g c =
    subst (λ s. AllFit s c.refill.new.cursors.items) (sym c.schema-schema.ensures) (all_fit c.refill.new.snapshot c.refill.new.cursors.items c.in-Ok.ensures.are)

pub take_first-row-requires-clause-played : goal.take_first-row-requires-clause-played
take_first-row-requires-clause-played g c =
    subst (λ s. IsPlayed s c.refill.new.cursors.items c.self.inside.last c.in-Some-bracket.bracket) (sym (c.schema-schema.ensures ∙ c.in-Ok.ensures.schema))
    (still_played c.self.inside.snapshot.schema c.self.inside.cursors.items c.refill.new.cursors.items c.self.inside.last c.in-Some-bracket.bracket
    (subst (λ o. IfSome o (IsPlayed c.self.inside.snapshot.schema c.self.inside.cursors.items c.self.inside.last)) c.in-Some-bracket.is c.self.invariant.played)
    c.in-Ok.ensures.long c.in-Ok.ensures.others)

pub invariant_of-self-in-Ok : goal.invariant_of-self-in-Ok
invariant_of-self-in-Ok g c = record {
  are = taken_cursors c.refill.new.cursors.items c.take_first-row.new.cursors.items c.take_first-row.result.1 c.take_first-row.ensures.taken c.refill.new.snapshot c.in-Ok.ensures.are;
  settled = taken_settled c.refill.new.cursors.items c.take_first-row.new.cursors.items c.take_first-row.result.1 c.take_first-row.ensures.taken
      (none_due c.self.inside.cursors.items c.refill.new.cursors.items c.self.inside.last c.self.invariant.settled c.in-Ok.ensures.others c.in-Ok.ensures.settled);
  played = subst (λ s. IsPlayed s c.take_first-row.new.cursors.items c.take_first-row.result.1 c.take_first-row.new.bracket) c.schema-schema.ensures c.take_first-row.ensures.played;
  empty = tt;
  lasts = c.self.invariant.lasts;
  counted = none_counted c.self.inside.fault c.refill.new.snapshot.parts c.in_default.not-Some;
}

pub returns-in-Ok-clause-gives : goal.returns-in-Ok-clause-gives
returns-in-Ok-clause-gives g c =
    subst (λ (v : ScanView). (rows : List (List Value)) → AreToCome v rows
    → Gives c.take_first-row.result.0 rows (AreToCome (record { snapshot = c.refill.new.snapshot; cursors = c.take_first-row.new.cursors.items; fault = c.self.inside.fault }))) c.self.view_is
    (λ rows. next_gives c.self.inside.snapshot c.refill.new.snapshot c.self.inside.cursors.items c.refill.new.cursors.items c.take_first-row.new.cursors.items c.self.inside.fault c.self.inside.fault
    c.schema-schema.result.now c.take_first-row.result.0 rows c.in-Ok.ensures.left c.take_first-row.ensures.gives (c.in-Ok.ensures.long ∙ c.self.invariant.are.long) c.schema-schema.ensures c.in-Ok.ensures.schema)

pub returns-in-Ok-clause-at_hand : goal.returns-in-Ok-clause-at_hand
returns-in-Ok-clause-at_hand g c =
    subst (λ (v : ScanView). v.fault ≡ None → NoneDue v.cursors → (true ≡ true) × (c.refill.new.snapshot ≡ v.snapshot)) c.self.view_is
    (λ f none. c.in-Ok.ensures.at_hand (none c.self.inside.last))

pub returns-in-Ok-clause-due : goal.returns-in-Ok-clause-due
returns-in-Ok-clause-due g c =
    subst (λ (v : ScanView). v.fault ≡ None → (i b : ℕ) → IsDue v.cursors i b → ReadsDue v.snapshot.schema i b v.snapshot.parts c.refill.new.snapshot.parts (Ok c.in-Ok.field-0)) c.self.view_is
    (λ f. due_last c.self.inside.cursors.items c.self.inside.last (λ i b. ReadsDue c.self.inside.snapshot.schema i b c.self.inside.snapshot.parts c.refill.new.snapshot.parts (Ok c.in-Ok.field-0))
    c.self.invariant.settled c.in-Ok.ensures.read)

pub returns-in-Err-clause-at_hand : goal.returns-in-Err-clause-at_hand
returns-in-Err-clause-at_hand g c =
    subst (λ (v : ScanView). v.fault ≡ None → NoneDue v.cursors → (false ≡ true) × (c.refill.new.snapshot ≡ v.snapshot)) c.self.view_is
    (λ f none. c.in-Err.ensures.at_hand (none c.self.inside.last))

pub returns-in-Err-clause-due : goal.returns-in-Err-clause-due
returns-in-Err-clause-due g c =
    subst (λ (v : ScanView). v.fault ≡ None → (i b : ℕ) → IsDue v.cursors i b → ReadsDue {T = Unit {0}} v.snapshot.schema i b v.snapshot.parts c.refill.new.snapshot.parts (Err c.in-Err.fault)) c.self.view_is
    (λ f. due_last c.self.inside.cursors.items c.self.inside.last (λ i b. ReadsDue {T = Unit {0}} c.self.inside.snapshot.schema i b c.self.inside.snapshot.parts c.refill.new.snapshot.parts (Err c.in-Err.fault))
    c.self.invariant.settled c.in-Err.ensures.read)

pub returns-in-Ok-clause-once : goal.returns-in-Ok-clause-once
returns-in-Ok-clause-once g c =
    subst (λ (v : ScanView). reads_in_all c.refill.new.snapshot.parts c.take_first-row.new.cursors.items ≤ reads_in_all v.snapshot.parts v.cursors) c.self.view_is
    (let same = taken_once c.refill.new.snapshot.parts c.refill.new.cursors.items c.take_first-row.new.cursors.items c.take_first-row.result.1 c.in-Ok.ensures.are.long c.take_first-row.ensures.taken in
    let once = c.in-Ok.ensures.once in
    omega arith)

pub returns-in-Ok-clause-live : goal.returns-in-Ok-clause-live
returns-in-Ok-clause-live g c =
    subst (λ (v : ScanView). (i b : ℕ) → IsDue v.cursors i b → IfSome (slice_get v.snapshot.parts i) (λ part. HasLive part.footer.rows part.dead b)) c.self.view_is
    (λ i b. live_at c.self.inside.snapshot c.self.inside.cursors.items i b c.self.invariant.are)

pub returns-in-Err-clause-live : goal.returns-in-Err-clause-live
returns-in-Err-clause-live g c =
    subst (λ (v : ScanView). (i b : ℕ) → IsDue v.cursors i b → IfSome (slice_get v.snapshot.parts i) (λ part. HasLive part.footer.rows part.dead b)) c.self.view_is
    (λ i b. live_at c.self.inside.snapshot c.self.inside.cursors.items i b c.self.invariant.are)

pub returns-in-Some-clause-live : goal.returns-in-Some-clause-live
returns-in-Some-clause-live g c =
    subst (λ (v : ScanView). (i b : ℕ) → IsDue v.cursors i b → IfSome (slice_get v.snapshot.parts i) (λ part. HasLive part.footer.rows part.dead b)) c.self.view_is
    (λ i b. live_at c.self.inside.snapshot c.self.inside.cursors.items i b c.self.invariant.are)

pub returns-in-Ok-clause-stands : goal.returns-in-Ok-clause-stands
returns-in-Ok-clause-stands g c =
    subst (λ (v : ScanView). (m : Rows) → IsSnapshotOf v.snapshot m → IsSnapshotOf c.refill.new.snapshot m) c.self.view_is
    (λ m. still_stands c.self.inside.snapshot c.refill.new.snapshot m (λ pieces told. (c.in-Ok.ensures.left pieces told).0) c.in-Ok.ensures.schema)

pub returns-in-Err-clause-stands : goal.returns-in-Err-clause-stands
returns-in-Err-clause-stands g c =
    subst (λ (v : ScanView). (m : Rows) → IsSnapshotOf v.snapshot m → IsSnapshotOf c.refill.new.snapshot m) c.self.view_is
    (λ m. still_stands c.self.inside.snapshot c.refill.new.snapshot m (λ pieces told. (c.in-Err.ensures.left pieces told).0) c.in-Err.ensures.schema)

pub returns-in-Ok-clause-fits : goal.returns-in-Ok-clause-fits
returns-in-Ok-clause-fits g c =
    subst (λ (v : ScanView). IfSome c.take_first-row.result.0 (λ cells. IsTrue (fits_row v.snapshot.schema cells))) c.self.view_is
    (subst (λ s. IfSome c.take_first-row.result.0 (λ cells. IsTrue (fits_row s cells))) (c.schema-schema.ensures ∙ c.in-Ok.ensures.schema) c.take_first-row.ensures.fits)
