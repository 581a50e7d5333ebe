use Rattle.std.proofs.Common.{◌≡◌, ◌∙◌, ap, sym, List}
use Rattle.std.specs.Ordering.{eq_by_cmp}
use Rattle.std.specs.Cmp.{eq_by_cmp_equiv}
use Rattle.std.proofs.lemmas.Map.Views.{tells_apart}
use Rattle.pk_values.specs.Order.{key_cmp}
use Rattle.pk_values.specs.OrderFacts.{key_exact, key_total}
use Rattle.pk_values.specs.Schemas.{key_of}
use Rattle.pk_values.specs.declared.cells.Value.{Value}
use Rattle.core_partial.proofs.remaking.has_key.Goals as goal

pub returns : goal.returns
returns c =
    let row = key_of c.args.schema.now c.args.row.now in
    let key = c.args.key.now in
    (λ t. tells_apart key_exact row key (sym c.same_key.ensures ∙ t), λ e. c.same_key.ensures ∙ ap (λ (k : List Value). eq_by_cmp key_cmp k key) e ∙ (eq_by_cmp_equiv key_total).refl key)
