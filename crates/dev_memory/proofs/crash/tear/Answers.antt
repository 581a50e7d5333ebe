use Rattle.std.proofs.Common.{ℕ, List, length, sym, subst, ap, arith}
use Rattle.dev_traits.specs.Image.{Torn}
use Rattle.dev_memory.specs.Laws.{torn_overwritten}
use Rattle.dev_memory.proofs.Crashes.{on_ok, torn_within}
use Rattle.dev_memory.proofs.crash.tear.Goals as goal

pub returns-clause-torn : goal.returns-clause-torn
returns-clause-torn c = on_ok c.overwrite.result c.overwrite.ensures.written (λ is.
    torn_within c.args.at (length c.args.piece.now) c.deref.result.now c.args.left.now.bytes c.overwrite.new.self.bytes (omega (arith, ap length c.deref.ensures.value, c.in_ok-bytes.ensures))
    (subst (λ (l : List ℕ). Torn c.args.at (length c.deref.result.now) c.args.left.now.bytes l) (sym is)
    (torn_overwritten c.args.at c.args.left.now.bytes c.deref.result.now (omega (arith, ap length c.as_slice.ensures.bytes)))))

pub overwrite-requires-clause-short : goal.overwrite-requires-clause-short
overwrite-requires-clause-short c = omega (arith, c.requires, ap length c.deref.ensures.value, c.in_ok-bytes.ensures)
