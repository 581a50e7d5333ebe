use Rattle.std.proofs.Common.{◌≡◌, Some, inl, inr, refl, subst}
use Rattle.pk_model.specs.Books.{rows_at}
use Rattle.pk_model.specs.declared.calls.Reply.TheVariants as reply
use Rattle.core_publish.specs.Opening.{IsOpened}
use Rattle.core_publish.proofs.OpeningFacts.{opening_steps}
use Rattle.core_publish.proofs.opening.open_version.Goals as goal

pub returns-in-Err-clause-turn : goal.returns-in-Err-clause-turn
returns-in-Err-clause-turn g c b seq h =
    opening_steps g.S.Store.view c.args.state.now b h c.args.state.now seq c.args.want c.in-Err.refusal h (inl c.in-Err.ensures.is)

pub returns-in-Ok-snapshot_of-clause-turn : goal.returns-in-Ok-snapshot_of-clause-turn
returns-in-Ok-snapshot_of-clause-turn g c b seq h =
    opening_steps g.S.Store.view c.args.state.now b h c.snapshot_of.new.state seq c.args.want (reply.Opened c.in-Ok.v) (c.snapshot_of.ensures.has b h) (inl c.in-Ok.ensures.is)

pub returns-in-Ok-snapshot_of-clause-stands : goal.returns-in-Ok-snapshot_of-clause-stands
returns-in-Ok-snapshot_of-clause-stands g c b h m rows =
    c.in-Ok-snapshot_of.ensures.stands b m h c.in-Ok.ensures.open (subst (λ v. rows_at b v ≡ Some m) c.in-Ok-snapshot_of.ensures.version rows)

pub returns-in-Err-snapshot_of-clause-turn : goal.returns-in-Err-snapshot_of-clause-turn
returns-in-Err-snapshot_of-clause-turn g c b seq h =
    opening_steps g.S.Store.view c.args.state.now b h c.snapshot_of.new.state seq c.args.want reply.Memory (c.snapshot_of.ensures.has b h) (inr (refl, subst IsOpened c.in-Ok.ensures.is tt))
