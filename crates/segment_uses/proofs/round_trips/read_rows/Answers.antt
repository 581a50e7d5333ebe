use Rattle.std.proofs.Common.{◌∙◌}
use Rattle.segment_read.proofs.Scanning.{if_ok_so}
use Rattle.segment_uses.proofs.Reading.{damage_told, footer_place, rows_place}
use Rattle.segment_uses.proofs.round_trips.read_rows.Goals as goal

pub returns-in-Ok-clause-same : goal.returns-in-Ok-clause-same
returns-in-Ok-clause-same g c =
    if_ok_so c.rows_of-found.result _ _
    (λ found of_segment file told is. of_segment file (c.in-Ok.ensures.attached.same.bytes ∙ told) c.args._rows.now
    (c.in-Ok.ensures.of_segment file told c.args._rows.now (record { are = c.requires; file_is = is })))
    c.rows_of-found.ensures.of_segment

pub returns-in-Ok-clause-damage : goal.returns-in-Ok-clause-damage
returns-in-Ok-clause-damage g c damaged failed = λ file told is.
    damage_told c.rows_of-found.result damaged _ c.rows_of-found.ensures.intact failed file (c.in-Ok.ensures.attached.same.bytes ∙ told) c.args._rows.now
    (c.in-Ok.ensures.of_segment file told c.args._rows.now (record { are = c.requires; file_is = is }))

pub returns-in-Err-clause-damage : goal.returns-in-Err-clause-damage
returns-in-Err-clause-damage g c damaged failed = λ file told is.
    damage_told _ damaged _ c.in-Err.ensures.intact failed file told c.args._rows.now (record { are = c.requires; file_is = is })

pub returns-in-Ok-clause-place : goal.returns-in-Ok-clause-place
returns-in-Ok-clause-place g c damaged failed =
    rows_place c.rows_of-found.result damaged c.args.schema.now c.args.number c.in-Ok.segment.number (g.R.SealedReader.view c.in-Ok.segment.reader) c.in-Ok.segment.footer
    c.in-Ok.ensures.number c.rows_of-found.ensures.damaged failed

pub returns-in-Err-clause-place : goal.returns-in-Err-clause-place
returns-in-Err-clause-place g c damaged failed = footer_place _ damaged c.args.number _ c.in-Err.ensures.damaged failed
