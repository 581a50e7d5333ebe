use Rattle.std.proofs.Common.{◌≡◌, ◌∙◌, subst, sym}
use Rattle.std.specs.Prelude.{IsTrue}
use Rattle.std.specs.Ordering.{eq_by_cmp}
use Rattle.std.specs.Cmp.{eq_by_cmp_equiv}
use Rattle.std.proofs.lemmas.Map.Views.{tells_apart}
use Rattle.pk_values.specs.Order.{value_cmp}
use Rattle.pk_values.specs.OrderFacts.{value_exact, value_total}
use Rattle.pk_values.specs.declared.cells.Value.{Value}
use Rattle.pk_values.proofs.cells.Value.is_same.Goals as goal

same_value : (a b : Value) → a ≡ b → IsTrue (eq_by_cmp value_cmp a b)
same_value a b e = subst (λ (v : Value). IsTrue (eq_by_cmp value_cmp a v)) e ((eq_by_cmp_equiv value_total).refl a)

pub returns : goal.returns
returns c = (λ same. tells_apart value_exact c.args.self.now c.args.other.now (sym c.eq.ensures ∙ same), λ e. c.eq.ensures ∙ same_value c.args.self.now c.args.other.now e)
