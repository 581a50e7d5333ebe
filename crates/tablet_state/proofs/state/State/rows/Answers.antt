use Rattle.std.proofs.Common.{◌≡◌, ◌^◌, ◌-◌, min, subst, arith}
use Rattle.journal_form.specs.Versions.{files_of}
use Rattle.kept_versions.specs.Files.{alive}
use Rattle.tablet_state.specs.State.{HasOwn, Shown}
use Rattle.tablet_state.proofs.KeptFacts.{alive_fits, rows_size}
use Rattle.tablet_state.proofs.state.State.rows.Goals as goal

pub returns-clause-count : goal.returns-clause-count
returns-clause-count g c =
    let old = c.args.self.now in
    let own : HasOwn old.contents old.segments = subst (λ (x : Shown g.row.S.Denot). HasOwn x.contents x.segments) c.self.view_is c.self.invariant.own in
    let few = alive_fits old.contents old.segments own in
    let is : c.rows_alive.result ≡ min (alive (files_of old.contents.current)) (2 ^ 64 - 1) =
    subst (λ (x : Shown g.row.S.Denot). c.rows_alive.result ≡ min (alive (files_of x.contents.current)) (2 ^ 64 - 1)) c.self.view_is c.rows_alive.ensures in
    omega arith

pub returns-clause-size : goal.returns-clause-size
returns-clause-size g c b h open_ =
    let old = c.args.self.now in
    let own : HasOwn old.contents old.segments = subst (λ (x : Shown g.row.S.Denot). HasOwn x.contents x.segments) c.self.view_is c.self.invariant.own in
    let few = alive_fits old.contents old.segments own in
    let is : c.rows_alive.result ≡ min (alive (files_of old.contents.current)) (2 ^ 64 - 1) =
    subst (λ (x : Shown g.row.S.Denot). c.rows_alive.result ≡ min (alive (files_of x.contents.current)) (2 ^ 64 - 1)) c.self.view_is c.rows_alive.ensures in
    let size = rows_size g.S.Store.view old own g.met.S.Store.honest_reads b h open_ in
    omega arith
