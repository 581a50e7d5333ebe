use Rattle.dev_memory.proofs.Views.{calm_as}
use Rattle.dev_memory.proofs.store.MemStoreStore.room.Goals as goal

pub returns-clause-calm : goal.returns-clause-calm
returns-clause-calm c = calm_as _ _ _ _ _ _ _ _ _ c.room.ensures.same c.room.ensures.kept_calls c.room.ensures.kept_bytes
