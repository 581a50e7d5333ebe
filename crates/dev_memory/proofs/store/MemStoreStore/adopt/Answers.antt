use Rattle.std.proofs.Common.{◌≡◌, ℕ, List, refl, ◌∙◌, ap, Some}
use Rattle.dev_memory.proofs.Views.{adopt_read, adopt_crash, adopt_durable}
use Rattle.dev_memory.proofs.store.MemStoreStore.adopt.Goals as goal
use Rattle.dev_traits.specs.Image.{with_file}
use Rattle.dev_memory.specs.Disk.{read_of, disk_now}
use Rattle.dev_memory.proofs.Steps.{no_call}

pub returns-then-strikes-clause-crash : goal.returns-then-strikes-clause-crash
returns-then-strikes-clause-crash c = no_call _ _ _ _ _ _ _ _ _

pub returns-clause-adopted : goal.returns-clause-adopted
returns-clause-adopted c bytes is = let told : c.args.sealed.file ≡ bytes = cc in ap Some (adopt_read c.args.self.now.kept.held c.adopt.new.self.held c.args.self.now.valid c.args.number c.args.sealed.file c.adopt.ensures.adopted.0 c.adopt.ensures.adopted.1 c.adopt.ensures.adopted.2 (c.requires.new _ refl) ∙ ap (λ (l : List ℕ). with_file c.args.number l (read_of (disk_now c.args.self.now.kept.held))) told)

pub returns-clause-durable : goal.returns-clause-durable
returns-clause-durable c bytes is left may = adopt_durable c.args.self.now.kept.held c.adopt.new.self.held c.args.self.now.valid c.args.number c.args.sealed.file c.adopt.ensures.adopted.0 c.adopt.ensures.adopted.1 c.adopt.ensures.adopted.2 (c.requires.new _ refl) left may ∙ is

pub returns-clause-crash : goal.returns-clause-crash
returns-clause-crash c = adopt_crash c.args.self.now.kept.held c.adopt.new.self.held c.args.self.now.valid c.args.number c.args.sealed.file c.adopt.ensures.adopted.0 c.adopt.ensures.adopted.1 c.adopt.ensures.adopted.2 (c.requires.new _ refl) _ _ _ _ _ _ _

pub returns-clause-done : goal.returns-clause-done
returns-clause-done c = record { added = c.adopt.ensures.adopted.0; is_new = c.adopt.ensures.adopted.1; now = c.adopt.ensures.adopted.2 }
