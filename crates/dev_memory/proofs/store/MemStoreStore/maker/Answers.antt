use Rattle.std.proofs.Common.{arith}
use Rattle.dev_memory.proofs.Views.{calm}
use Rattle.dev_memory.proofs.store.MemStoreStore.maker.Goals as goal

pub returns-in_err-fails-clause-calm : goal.returns-in_err-fails-clause-calm
returns-in_err-fails-clause-calm c = calm _ _ _ _ _ _ _ _ (omega arith) (omega arith)

pub returns-clause-calm : goal.returns-clause-calm
returns-clause-calm c = calm _ _ _ _ _ _ _ _ (omega arith) (omega arith)

pub returns-in_err-reader_fails-clause-calm : goal.returns-in_err-reader_fails-clause-calm
returns-in_err-reader_fails-clause-calm c = calm _ _ _ _ _ _ _ _ (omega arith) (omega arith)
