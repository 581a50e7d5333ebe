use Rattle.std.proofs.Common.{◌+◌}
use Rattle.std.specs.Result.{IfOk}
use Rattle.std.specs.declared.result.Result.{Result}
use Rattle.std.specs.declared.result.Result.TheVariants.{Ok, Err}
use Rattle.journal_replay.proofs.StepFacts.{compact_told, floor_told, publish_told}
use Rattle.journal_replay.proofs.replay.Replay.follow.Goals as goal

two : {T E : Type 0} (r : Result T E) (P Q R : T → Type 0) → IfOk r P → IfOk r Q → ((x : T) → P x → Q x → R x) → IfOk r R
two (Ok x) P Q R p q f = f x p q
two (Err e) P Q R p q f = tt

pub returns-in-Publish-clause-moves : goal.returns-in-Publish-clause-moves
returns-in-Publish-clause-moves c = two c.publish.result _ _ _ c.publish.ensures.fits c.publish.ensures.made
    (λ ok fits made s follows. publish_told (s.edit + 1) ok c.args.self.now c.publish.new.self s c.in-Publish.version c.in-Publish.files c.as_slice.result.now c.in-Publish.changed c.as_slice-in-Publish.result.now c.args.told.now follows.has c.in-Publish.is
    c.as_slice.ensures c.as_slice-in-Publish.ensures fits made)

pub returns-in-Compact-clause-moves : goal.returns-in-Compact-clause-moves
returns-in-Compact-clause-moves c = two c.compact.result _ _ _ c.compact.ensures.fits c.compact.ensures.made
    (λ ok fits made s follows. compact_told (s.edit + 1) ok c.args.self.now c.compact.new.self s c.in-Compact.version c.in-Compact.replaced c.in-Compact.files c.as_slice-in-Compact.result.now c.in-Compact.changed c.as_slice-in-Compact-2.result.now c.in-Compact.levels c.args.told.now follows.has
    c.args.self.now.versions c.in-Compact.is c.requires c.as_slice-in-Compact.ensures c.as_slice-in-Compact-2.ensures fits made)

pub returns-in-Floor-clause-moves : goal.returns-in-Floor-clause-moves
returns-in-Floor-clause-moves c s follows =
    floor_told (s.edit + 1) c.raise.result c.args.self.now c.raise.new.self s c.in-Floor.floor c.args.told.now follows.has c.args.self.now.versions c.in-Floor.is c.raise.ensures.fits c.raise.ensures.raised
