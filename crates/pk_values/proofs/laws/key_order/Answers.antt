use Rattle.std.proofs.Common.{◌≡◌, List, subst}
use Rattle.std.specs.declared.cmp.Ordering.{Ordering}
use Rattle.std.specs.declared.cmp.Ordering.TheVariants.{Less, Equal, Greater}
use Rattle.std.specs.Ordering.{ordering_reverse}
use Rattle.pk_values.specs.Order.{key_cmp}
use Rattle.pk_values.specs.OrderFacts.{key_total, key_exact}
use Rattle.pk_values.specs.declared.cells.Value.{Value}
use Rattle.pk_values.proofs.laws.key_order.Goals as goal

own_reverse : (o : Ordering) → o ≡ ordering_reverse o → o ≡ Equal
own_reverse Less h = cc
own_reverse Equal h = h
own_reverse Greater h = cc

pub returns-clause-total : goal.returns-clause-total
returns-clause-total c = key_total

pub returns-clause-exact : goal.returns-clause-exact
returns-clause-exact c = λ a b. (key_exact a b, λ e. subst (λ (k : List Value). key_cmp a k ≡ Equal) e (own_reverse (key_cmp a a) (key_total.antisymm a a)))
