use Rattle.std.proofs.Common.{refl, Ok, Err}
use Rattle.snapshot_scan.proofs.ListFacts.{get_other}
use Rattle.snapshot_scan.proofs.CountingFacts.{part_counted, part_most, part_once}
use Rattle.snapshot_scan.proofs.StepFacts.{due_at, due_err, live_at, new_cursors, new_left, new_settled, no_piece_damaged, same_due, settled_at, still_cursors, still_pieces}
use Rattle.snapshot_scan.proofs.feeds.refill.Goals as goal

pub read_on-requires-clause-live : goal.read_on-requires-clause-live
read_on-requires-clause-live g c =
    live_at c.args.snapshot.now c.args.cursors.now.items c.args.i c.in-Some.b c.requires.are
    (due_at c.args.cursors.now.items c.args.i c.index.result.now c.due.result c.in-Some.b c.requires.there c.index.ensures c.due.ensures c.in-Some.is)

pub returns-in-None-clause-settled : goal.returns-in-None-clause-settled
returns-in-None-clause-settled g c = settled_at c.args.cursors.now.items c.args.i c.index.result.now c.due.result c.requires.there c.index.ensures c.due.ensures c.in-None.is

pub returns-in-None-clause-read : goal.returns-in-None-clause-read
returns-in-None-clause-read g c b due = absurd (settled_at c.args.cursors.now.items c.args.i c.index.result.now c.due.result c.requires.there c.index.ensures c.due.ensures c.in-None.is b due)

pub returns-in-Ok-clause-are : goal.returns-in-Ok-clause-are
returns-in-Ok-clause-are g c =
    new_cursors c.args.snapshot.now c.read_on.new.self c.args.cursors.now.items c.args.i c.in-Some.b (Ok c.in-Ok.cursor) c.requires.are c.in-Ok.ensures.schema c.in-Ok.ensures.read c.in-Ok.cursor refl
    (due_at c.args.cursors.now.items c.args.i c.index.result.now c.due.result c.in-Some.b c.requires.there c.index.ensures c.due.ensures c.in-Some.is)

pub returns-in-Ok-clause-left : goal.returns-in-Ok-clause-left
returns-in-Ok-clause-left g c pieces told = (
  still_pieces c.args.snapshot.now c.read_on.new.self c.args.cursors.now.items c.args.i c.in-Some.b (Ok c.in-Ok.cursor) c.requires.are c.in-Ok.ensures.schema c.in-Ok.ensures.read pieces told,
  new_left c.args.snapshot.now c.read_on.new.self c.args.cursors.now.items c.args.i c.in-Some.b (Ok c.in-Ok.cursor) c.requires.are c.in-Ok.ensures.schema c.in-Ok.ensures.read c.in-Ok.cursor refl
      (due_at c.args.cursors.now.items c.args.i c.index.result.now c.due.result c.in-Some.b c.requires.there c.index.ensures c.due.ensures c.in-Some.is) pieces told,
)

pub returns-in-Ok-clause-others : goal.returns-in-Ok-clause-others
returns-in-Ok-clause-others g c j ne = get_other c.args.cursors.now.items c.args.i j c.in-Ok.cursor ne

pub returns-in-Ok-clause-settled : goal.returns-in-Ok-clause-settled
returns-in-Ok-clause-settled g c =
    new_settled c.args.snapshot.now c.read_on.new.self c.args.cursors.now.items c.args.i c.in-Some.b (Ok c.in-Ok.cursor) c.requires.are c.in-Ok.ensures.schema c.in-Ok.ensures.read c.in-Ok.cursor refl
    (due_at c.args.cursors.now.items c.args.i c.index.result.now c.due.result c.in-Some.b c.requires.there c.index.ensures c.due.ensures c.in-Some.is)

pub returns-in-Ok-clause-at_hand : goal.returns-in-Ok-clause-at_hand
returns-in-Ok-clause-at_hand g c settled =
    absurd (settled c.in-Some.b (due_at c.args.cursors.now.items c.args.i c.index.result.now c.due.result c.in-Some.b c.requires.there c.index.ensures c.due.ensures c.in-Some.is))

pub returns-in-Err-clause-are : goal.returns-in-Err-clause-are
returns-in-Err-clause-are g c =
    still_cursors c.args.snapshot.now c.read_on.new.self c.args.cursors.now.items c.args.i c.in-Some.b (Err c.in-Err.fault) c.requires.are c.in-Err.ensures.schema c.in-Err.ensures.read

pub returns-in-Err-clause-left : goal.returns-in-Err-clause-left
returns-in-Err-clause-left g c pieces told =
    (still_pieces c.args.snapshot.now c.read_on.new.self c.args.cursors.now.items c.args.i c.in-Some.b (Err c.in-Err.fault) c.requires.are c.in-Err.ensures.schema c.in-Err.ensures.read pieces told, refl)

pub returns-in-Err-clause-at_hand : goal.returns-in-Err-clause-at_hand
returns-in-Err-clause-at_hand g c settled =
    absurd (settled c.in-Some.b (due_at c.args.cursors.now.items c.args.i c.index.result.now c.due.result c.in-Some.b c.requires.there c.index.ensures c.due.ensures c.in-Some.is))

pub returns-in-Err-clause-read : goal.returns-in-Err-clause-read
returns-in-Err-clause-read g c b due =
    due_err (Unit {0}) c.args.snapshot.now.schema c.args.i c.in-Some.b b c.args.snapshot.now.parts c.read_on.new.self.parts c.in-Err.fault
    (same_due c.args.cursors.now.items c.args.i c.in-Some.b b
    (due_at c.args.cursors.now.items c.args.i c.index.result.now c.due.result c.in-Some.b c.requires.there c.index.ensures c.due.ensures c.in-Some.is) due) c.in-Err.ensures.read

pub returns-in-Err-clause-intact : goal.returns-in-Err-clause-intact
returns-in-Err-clause-intact g c =
    no_piece_damaged c.args.snapshot.now c.read_on.new.self c.args.cursors.now.items c.args.i c.in-Some.b (Err c.in-Err.fault) c.requires.are c.in-Err.ensures.schema c.in-Err.ensures.read

pub returns-in-Ok-clause-most : goal.returns-in-Ok-clause-most
returns-in-Ok-clause-most g c = part_most c.args.snapshot.now.schema c.args.snapshot.now.parts c.read_on.new.self.parts c.args.i c.in-Some.b (Ok c.in-Ok.cursor) c.in-Ok.ensures.read

pub returns-in-Ok-clause-once : goal.returns-in-Ok-clause-once
returns-in-Ok-clause-once g c =
    part_once c.args.snapshot.now.schema c.args.snapshot.now.parts c.read_on.new.self.parts c.args.cursors.now.items c.args.i c.in-Some.b c.in-Ok.cursor
    (due_at c.args.cursors.now.items c.args.i c.index.result.now c.due.result c.in-Some.b c.requires.there c.index.ensures c.due.ensures c.in-Some.is) c.in-Ok.ensures.read

pub returns-in-Err-clause-most : goal.returns-in-Err-clause-most
returns-in-Err-clause-most g c = part_most c.args.snapshot.now.schema c.args.snapshot.now.parts c.read_on.new.self.parts c.args.i c.in-Some.b (Err c.in-Err.fault) c.in-Err.ensures.read

pub returns-in-Err-clause-counted : goal.returns-in-Err-clause-counted
returns-in-Err-clause-counted g c = part_counted c.args.snapshot.now.schema c.args.snapshot.now.parts c.read_on.new.self.parts c.args.i c.in-Some.b c.in-Err.fault c.in-Err.ensures.read
