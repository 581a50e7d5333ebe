use Rattle.std.proofs.Common.{ap, Some, true, false}
use Rattle.dev_memory.proofs.Views.{blank_read, blank_crash, blank_durable, reads_elsewhere}
use Rattle.dev_memory.proofs.store.MemStoreStore.blank.Goals as goal

pub returns-then-strikes-clause-crash : goal.returns-then-strikes-clause-crash
returns-then-strikes-clause-crash c = blank_crash c.args.self.now.kept.held c.fail_blank.new.self.held c.args.self.now.valid c.args.area c.requires.there false c.fail_blank.ensures.blanked _ _ _ _ _ _ _

pub returns-then-strikes-clause-elsewhere : goal.returns-then-strikes-clause-elsewhere
returns-then-strikes-clause-elsewhere c = reads_elsewhere c.args.area _ _ _ (blank_read c.args.self.now.kept.held c.fail_blank.new.self.held c.args.self.now.valid c.args.area c.requires.there false c.fail_blank.ensures.blanked)

pub returns-clause-blank : goal.returns-clause-blank
returns-clause-blank c = ap Some (blank_read c.args.self.now.kept.held c.blank.new.self.held c.args.self.now.valid c.args.area c.requires.there true c.blank.ensures.blanked)

pub returns-clause-elsewhere : goal.returns-clause-elsewhere
returns-clause-elsewhere c = reads_elsewhere c.args.area _ _ _ (blank_read c.args.self.now.kept.held c.blank.new.self.held c.args.self.now.valid c.args.area c.requires.there true c.blank.ensures.blanked)

pub returns-clause-crash : goal.returns-clause-crash
returns-clause-crash c = blank_crash c.args.self.now.kept.held c.blank.new.self.held c.args.self.now.valid c.args.area c.requires.there true c.blank.ensures.blanked _ _ _ _ _ _ _

pub returns-clause-durable : goal.returns-clause-durable
returns-clause-durable c = blank_durable c.args.self.now.kept.held c.blank.new.self.held c.args.self.now.valid c.args.area c.requires.there c.blank.ensures.blanked
