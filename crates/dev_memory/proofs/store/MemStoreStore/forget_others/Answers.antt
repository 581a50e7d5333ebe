use Rattle.std.proofs.Common.{ap, Some}
use Rattle.dev_memory.proofs.Views.{forget_still, forget_read, forget_crash, forget_kept, same_files}
use Rattle.dev_memory.proofs.store.MemStoreStore.forget_others.Goals as goal

pub returns-then-strikes-clause-crash : goal.returns-then-strikes-clause-crash
returns-then-strikes-clause-crash c = forget_still _ _ _ _ _ _ _ _ _

pub returns-then-strikes-clause-kept : goal.returns-then-strikes-clause-kept
returns-then-strikes-clause-kept c image is image' is' = same_files c.args.keep.now _ image image' is is'

pub returns-clause-forgot : goal.returns-clause-forgot
returns-clause-forgot c = ap Some (forget_read c.args.self.now.kept.held c.forget_others.new.self.held c.args.self.now.valid c.args.keep.now c.forget_others.ensures.short c.forget_others.ensures.forgot)

pub returns-clause-kept : goal.returns-clause-kept
returns-clause-kept c = forget_kept c.args.self.now.kept.held c.forget_others.new.self.held c.args.self.now.valid c.args.keep.now c.forget_others.ensures.short c.forget_others.ensures.forgot

pub returns-clause-crash : goal.returns-clause-crash
returns-clause-crash c = forget_crash c.args.self.now.kept.held c.forget_others.new.self.held c.args.self.now.valid c.args.keep.now c.forget_others.ensures.short c.forget_others.ensures.forgot _ _ _ _ _ _ _
