use Rattle.std.proofs.Common.{arith}
use Rattle.dev_memory.proofs.Views.{calm}
use Rattle.dev_memory.proofs.store.MemStoreStore.give_back_reader.Goals as goal

pub returns-clause-calm : goal.returns-clause-calm
returns-clause-calm c = calm _ _ _ _ _ _ _ _ (omega arith) (omega arith)
