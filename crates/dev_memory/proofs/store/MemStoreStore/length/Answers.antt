use Rattle.std.proofs.Common.{arith}
use Rattle.dev_memory.proofs.Views.{calm}
use Rattle.dev_memory.proofs.store.MemStoreStore.length.Goals as goal

pub returns-then-strikes-clause-calm : goal.returns-then-strikes-clause-calm
returns-then-strikes-clause-calm c = calm _ _ _ _ _ _ _ _ (omega arith) (omega arith)

pub returns-clause-calm : goal.returns-clause-calm
returns-clause-calm c = calm _ _ _ _ _ _ _ _ (omega arith) (omega arith)
