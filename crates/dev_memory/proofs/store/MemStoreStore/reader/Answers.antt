use Rattle.std.proofs.Common.{◌≡◌, ℕ, List, Option, Some, IsSome, arith, sym, ◌∙◌, subst, rules}
use Rattle.dev_traits.specs.Image.{file}
use Rattle.dev_memory.proofs.Views.{calm, if_ok, file_read}
use Rattle.dev_memory.proofs.store.MemStoreStore.reader.Goals as goal

pub returns-then-strikes-clause-calm : goal.returns-then-strikes-clause-calm
returns-then-strikes-clause-calm c = calm _ _ _ _ _ _ _ _ (omega arith) (omega arith)

pub returns-clause-calm : goal.returns-clause-calm
returns-clause-calm c = calm _ _ _ _ _ _ _ _ (omega arith) (omega arith)

pub returns-clause-bytes : goal.returns-clause-bytes
returns-clause-bytes c = if_ok c.open_number.result _ _ c.open_number.ensures.found (λ reader found image told. found.over ∙ sym (file_read c.args.self.now.kept.held c.args.number image told))

pub returns-clause-new : goal.returns-clause-new
returns-clause-new c = if_ok c.open_number.result _ _ c.open_number.ensures.found (λ reader found. record { faults = found.faults; reads = found.reads })

pub returns-clause-there : goal.returns-clause-there
returns-clause-there c = if_ok c.open_number.result _ _ c.open_number.ensures.found (λ reader found image told. let same : Some reader.file ≡ file image c.args.number = found.over ∙ sym (file_read c.args.self.now.kept.held c.args.number image told) in subst (λ (o : Option (List ℕ)). IsSome o) same (search rules))

pub returns-clause-absent : goal.returns-clause-absent
returns-clause-absent c image told is = file_read c.args.self.now.kept.held c.args.number image told ∙ c.open_number.ensures.absent is

pub returns-clause-memory : goal.returns-clause-memory
returns-clause-memory c image told is = subst (λ (o : Option (List ℕ)). IsSome o) (sym (file_read c.args.self.now.kept.held c.args.number image told)) (c.open_number.ensures.memory is)
