use Rattle.std.proofs.Common.{◌∙◌, refl, inl}
use Rattle.tablet_run.proofs.OpenLaws.{made-new}
use Rattle.tablet_run.proofs.opening.create_tablet.Goals as goal

pub returns-in-Err-clause-refused : goal.returns-in-Err-clause-refused
returns-in-Err-clause-refused g c = record { honest = refl; each = λ h image left. inl (c.requires h image left) }

pub returns-in-Ok-create-clause-made : goal.returns-in-Ok-create-clause-made
returns-in-Ok-create-clause-made g c = record {
  schema = c.in-Ok-create.ensures.schema ∙ c.in-Ok.ensures;
  opened = c.in-Ok-create.ensures.open;
  counts = c.in-Ok-create.ensures.counts_ok;
  honest = c.in-Ok-create.ensures.honest;
  book = c.in-Ok-create.ensures.book;
}

pub returns-in-StoreFault-clause-refused : goal.returns-in-StoreFault-clause-refused
returns-in-StoreFault-clause-refused g c = (
  made-new c.args.schema.now c.in-Ok.copy (g.S.Store.view c.args.store) (g.S.Store.view c.in-Err-create.store) c.in-Ok.ensures c.in-Err-create.ensures.honest c.in-Err-create.ensures.any_moment,
  c.in-Err-create.ensures.cause c.in-StoreFault.is,
)

pub returns-in_default : goal.returns-in_default
returns-in_default g c = record {
  made = tt;
  refused = made-new c.args.schema.now c.in-Ok.copy (g.S.Store.view c.args.store) (g.S.Store.view c.in-Err-create.store) c.in-Ok.ensures c.in-Err-create.ensures.honest c.in-Err-create.ensures.any_moment;
}
