use Rattle.std.proofs.Common.{ap, Some}
use Rattle.dev_memory.proofs.Views.{sync_read, sync_crash, sync_durable}
use Rattle.dev_memory.proofs.store.MemStoreStore.sync.Goals as goal
use Rattle.dev_memory.proofs.Steps.{no_call}

pub returns-then-strikes-clause-crash : goal.returns-then-strikes-clause-crash
returns-then-strikes-clause-crash c = no_call _ _ _ _ _ _ _ _ _

pub returns-clause-seen : goal.returns-clause-seen
returns-clause-seen c = ap Some (sync_read c.args.self.now.kept.held c.sync.new.self.held c.args.self.now.valid c.args.area c.requires.there c.sync.ensures.synced)

pub returns-clause-crash : goal.returns-clause-crash
returns-clause-crash c = sync_crash c.args.self.now.kept.held c.sync.new.self.held c.args.self.now.valid c.args.area c.requires.there c.sync.ensures.synced _ _ _ _ _ _ _

pub returns-clause-durable : goal.returns-clause-durable
returns-clause-durable c = sync_durable c.args.self.now.kept.held c.sync.new.self.held c.args.self.now.valid c.args.area c.requires.there c.sync.ensures.synced
