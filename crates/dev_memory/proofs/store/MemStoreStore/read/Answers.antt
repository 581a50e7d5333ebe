use Rattle.std.proofs.Common.{length, arith, refl, ap}
use Rattle.dev_memory.proofs.Views.{calm}
use Rattle.dev_memory.proofs.store.MemStoreStore.read.Goals as goal

pub returns-then-strikes-clause-calm : goal.returns-then-strikes-clause-calm
returns-then-strikes-clause-calm c = calm _ _ _ _ _ _ _ _ (omega arith) (omega arith)

pub returns-clause-calm : goal.returns-clause-calm
returns-clause-calm c = calm _ _ _ _ _ _ _ _ (omega arith) (omega arith)

pub copy_from-requires : goal.copy_from-requires
copy_from-requires c = omega (arith, c.requires.inside _ refl, ap length c.area.ensures.bytes)
