use Rattle.std.proofs.Common.{refl}
use Rattle.tablet_state.proofs.Opening.{read_has}
use Rattle.tablet_state.proofs.Turning.{has_open}
use Rattle.tablet_state.proofs.state.State.of.Goals as goal

pub returns-clause-book : goal.returns-clause-book
returns-clause-book g c b image r =
    has_open g.S.Store.view _ _ refl refl
    (read_has (g.S.Store.view c.args.parts.store) c.args.parts.log.area c.args.parts.log.end _ _ b image r (g.met.S.Store.honest_files c.args.parts.store r.honest image r.reads))
