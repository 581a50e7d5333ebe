use Rattle.std.proofs.Common.{None}
use Rattle.snapshot_scan.proofs.NextFacts.{all_come, still_stands}
use Rattle.snapshot_scan.proofs.snapshots.Snapshot.scan.Goals as goal

pub returns-in-Ok-clause-rows : goal.returns-in-Ok-clause-rows
returns-in-Ok-clause-rows g c m stands = all_come c.args.self c.start.new.snapshot c.in-Ok.cursors.items None m c.in-Ok.ensures.left c.in-Ok.ensures.schema stands

pub returns-in-Ok-clause-stands : goal.returns-in-Ok-clause-stands
returns-in-Ok-clause-stands g c m = still_stands c.args.self c.start.new.snapshot m (λ pieces told. (c.in-Ok.ensures.left pieces told).0) c.in-Ok.ensures.schema
