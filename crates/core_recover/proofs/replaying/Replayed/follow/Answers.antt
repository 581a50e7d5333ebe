use Rattle.std.proofs.Common.{◌≡◌}
use Rattle.core_recover.proofs.ReplayFacts.{compact_fits_told, compact_follows, floor_follows, on_so, publish_fits, publish_follows}
use Rattle.core_recover.proofs.replaying.Replayed.follow.Goals as goal

pub publish-requires-clause-below : goal.publish-requires-clause-below
publish-requires-clause-below c =
    (publish_fits c.args.self.now c.args.told.now c.in-Publish.version c.in-Publish.files c.as_slice.result.now c.in-Publish.changed c.as_slice-in-Publish.result.now c.requires.fits c.in-Publish.is c.as_slice.ensures c.as_slice-in-Publish.ensures).1

pub compact-requires-clause-below : goal.compact-requires-clause-below
compact-requires-clause-below c =
    (compact_fits_told c.args.self.now c.args.told.now c.in-Compact.version c.in-Compact.replaced c.in-Compact.files c.as_slice-in-Compact.result.now c.in-Compact.changed c.as_slice-in-Compact-2.result.now c.in-Compact.levels c.requires.fits c.in-Compact.is
    c.as_slice-in-Compact.ensures c.as_slice-in-Compact-2.ensures).2

pub returns-in-Publish : goal.returns-in-Publish
returns-in-Publish c = on_so c.publish.result _ _
    (publish_follows c.args.self.now c.publish.new.self c.args.told.now c.in-Publish.version c.in-Publish.files c.as_slice.result.now c.in-Publish.changed c.as_slice-in-Publish.result.now c.requires.fits c.in-Publish.is c.as_slice.ensures c.as_slice-in-Publish.ensures)
    c.publish.ensures

pub returns-in-Compact : goal.returns-in-Compact
returns-in-Compact c = on_so c.compact.result _ _
    (compact_follows c.args.self.now c.compact.new.self c.args.told.now c.in-Compact.version c.in-Compact.replaced c.in-Compact.files c.as_slice-in-Compact.result.now c.in-Compact.changed c.as_slice-in-Compact-2.result.now c.in-Compact.levels c.requires.fits
    c.requires.built c.in-Compact.is c.as_slice-in-Compact.ensures c.as_slice-in-Compact-2.ensures) c.compact.ensures

pub returns-in-Floor : goal.returns-in-Floor
returns-in-Floor c = floor_follows c.args.self.now c.raise.new.self c.args.told.now c.in-Floor.floor c.requires.fits c.in-Floor.is c.raise.ensures
