use Rattle.std.proofs.Common.{◌+◌, ◌-◌, ◌/◌, ap, arith, refl, sym, length}
use Rattle.std.proofs.lemmas.List.{length-map}
use Rattle.segment_read.specs.declared.segments.Segment.{Segment}
use Rattle.tablet_state.specs.Seen.{segment_seen, segments_of}
use Rattle.tablet_state.proofs.Counting.{mapped_at}
use Rattle.tablet_state.proofs.Lending.{searched_all, searched_high, searched_low, searched_none}
use Rattle.tablet_state.proofs.snapshots.place_of.Goals as goal

pub loop-low-init : goal.loop-low-init
loop-low-init g c =
    let seen = segment_seen g.R.SealedReader.view in
    searched_none (segments_of g.R.SealedReader.view c.args.segments.now) c.args.file (length c.args.segments.now) (sym (length-map c.args.segments.now seen))

pub loop-low-preserved-then-segments-middle : goal.loop-low-preserved-then-segments-middle
loop-low-preserved-then-segments-middle g c =
    let seen = segment_seen g.R.SealedReader.view in
    let inv = c.loop-low.invariant in
    let within = inv.within in
    let long = length-map c.args.segments.now seen in
    let test = c.loop-low-test.true in
    let same = ap (λ (x : Segment g.row.R.Denot). x.number) c.index-segments-middle.is in
    let middle = c.loop-low.low + (c.loop-low.high - c.loop-low.low) / 2 in
    searched_low (segments_of g.R.SealedReader.view c.args.segments.now) c.args.file c.loop-low.low c.loop-low.high middle (seen c.index-segments-middle.result) c.requires.rise inv
    (mapped_at seen c.args.segments.now c.args.segments.now middle c.index-segments-middle.result refl (omega arith) c.index-segments-middle.is) (omega arith) (let t = c.if-segments-middle.true in omega arith)

pub loop-low-preserved : goal.loop-low-preserved
loop-low-preserved g c =
    let seen = segment_seen g.R.SealedReader.view in
    let inv = c.loop-low.invariant in
    let within = inv.within in
    let long = length-map c.args.segments.now seen in
    let test = c.loop-low-test.true in
    let same = ap (λ (x : Segment g.row.R.Denot). x.number) c.index-segments-middle.is in
    let middle = c.loop-low.low + (c.loop-low.high - c.loop-low.low) / 2 in
    searched_high (segments_of g.R.SealedReader.view c.args.segments.now) c.args.file c.loop-low.low c.loop-low.high middle (seen c.index-segments-middle.result) c.requires.rise inv
    (mapped_at seen c.args.segments.now c.args.segments.now middle c.index-segments-middle.result refl (omega arith) c.index-segments-middle.is) (omega arith) (omega arith) (let t = c.if-segments-middle.false in omega arith)

pub returns : goal.returns
returns g c =
    searched_all (segments_of g.R.SealedReader.view c.args.segments.now) c.args.file c.loop-low.low c.loop-low.high c.requires.rise c.loop-low.invariant c.loop-low-test.false c.requires.there
