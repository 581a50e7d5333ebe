use Rattle.pk_model.proofs.DurableLaws.{device-leaves, durable-is-kept, durable-keeps, goes-on, new-is-durable, others-leave}
use Rattle.pk_model.proofs.laws.durable_books.Goals as goal

pub returns-clause-keeps : goal.returns-clause-keeps
returns-clause-keeps c = durable-keeps

pub returns-clause-exactly : goal.returns-clause-exactly
returns-clause-exactly c = durable-is-kept

pub returns-clause-new : goal.returns-clause-new
returns-clause-new c = new-is-durable

pub returns-clause-device : goal.returns-clause-device
returns-clause-device c = device-leaves

pub returns-clause-others : goal.returns-clause-others
returns-clause-others c = others-leave

pub returns-clause-goes_on : goal.returns-clause-goes_on
returns-clause-goes_on c = goes-on
