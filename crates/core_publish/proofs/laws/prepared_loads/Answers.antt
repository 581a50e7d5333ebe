use Rattle.core_publish.proofs.EntryFacts.{all-are-written, entries-are-moves, entries-in-four, prepared-is-ready}
use Rattle.core_publish.proofs.laws.prepared_loads.Goals as goal

pub returns-clause-written : goal.returns-clause-written
returns-clause-written c = all-are-written

pub returns-clause-ready : goal.returns-clause-ready
returns-clause-ready c = prepared-is-ready

pub returns-clause-entries : goal.returns-clause-entries
returns-clause-entries c = entries-are-moves

pub returns-clause-few : goal.returns-clause-few
returns-clause-few c = entries-in-four
