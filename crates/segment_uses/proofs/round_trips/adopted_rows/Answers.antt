use Rattle.std.proofs.Common.{◌∙◌, ap, option_map}
use Rattle.dev_traits.proofs.Moments.{calm_leaves, leaves_still}
use Rattle.dev_traits.specs.Image.{with_file, Same}
use Rattle.segment_form.specs.Segments.{segment_file}
use Rattle.segment_uses.proofs.Reading.{sealed_is, some_told}
use Rattle.segment_uses.proofs.round_trips.adopted_rows.Goals as goal

pub returns-in-Ok-clause-bytes : goal.returns-in-Ok-clause-bytes
returns-in-Ok-clause-bytes g c image told =
    let file = segment_file c.args.schema.now c.args.rows.now in
    let tells = g.met.S.Store.sealed_tells c.args.store.now c.in_ok-sealed.sealed (some_told _ image told) in
    c.in-Ok.ensures.bytes ∙ sealed_is _ file c.in_ok-sealed.ensures.sealed tells

pub returns-in-Ok-clause-kept : goal.returns-in-Ok-clause-kept
returns-in-Ok-clause-kept g c image told =
    let file = segment_file c.args.schema.now c.args.rows.now in
    let tells = g.met.S.Store.sealed_tells c.args.store.now c.in_ok-sealed.sealed (some_told _ image told) in
    c.in-Ok.ensures.adopted file (sealed_is _ file c.in_ok-sealed.ensures.sealed tells)
    ∙ ap (option_map (with_file c.args.number file)) (c.in_ok-room.ensures.calm.seen ∙ c.in_ok-sealed.ensures.calm.seen ∙ told)

pub returns-in-Ok-clause-durable : goal.returns-in-Ok-clause-durable
returns-in-Ok-clause-durable g c image told =
    let file = segment_file c.args.schema.now c.args.rows.now in
    let tells = g.met.S.Store.sealed_tells c.args.store.now c.in_ok-sealed.sealed (some_told _ image told) in
    c.in-Ok.ensures.durable file (sealed_is _ file c.in_ok-sealed.ensures.sealed tells)

pub returns-in_err-room-clause-crash : goal.returns-in_err-room-clause-crash
returns-in_err-room-clause-crash g c =
    leaves_still Same (g.S.Store.view c.args.store.now) (g.S.Store.view c.sealed_rows.new.store) (g.S.Store.view c.room.new.self) (calm_leaves _ _ c.in_ok-sealed.ensures.calm) (calm_leaves _ _ c.in_err-room.ensures.calm)

pub returns-in-Ok-clause-crash : goal.returns-in-Ok-clause-crash
returns-in-Ok-clause-crash g c =
    leaves_still Same (g.S.Store.view c.args.store.now) (g.S.Store.view c.room.new.self) (g.S.Store.view c.adopt.new.self)
    (leaves_still Same (g.S.Store.view c.args.store.now) (g.S.Store.view c.sealed_rows.new.store) (g.S.Store.view c.room.new.self) (calm_leaves _ _ c.in_ok-sealed.ensures.calm) (calm_leaves _ _ c.in_ok-room.ensures.calm)) c.in-Ok.ensures.crash

pub returns-in-Err-clause-crash : goal.returns-in-Err-clause-crash
returns-in-Err-clause-crash g c =
    leaves_still Same (g.S.Store.view c.args.store.now) (g.S.Store.view c.room.new.self) (g.S.Store.view c.adopt.new.self)
    (leaves_still Same (g.S.Store.view c.args.store.now) (g.S.Store.view c.sealed_rows.new.store) (g.S.Store.view c.room.new.self) (calm_leaves _ _ c.in_ok-sealed.ensures.calm) (calm_leaves _ _ c.in_ok-room.ensures.calm)) c.in-Err.ensures.crash

pub returns-in_err-sealed-clause-crash : goal.returns-in_err-sealed-clause-crash
returns-in_err-sealed-clause-crash g c = calm_leaves _ _ c.sealed_rows.ensures.calm
