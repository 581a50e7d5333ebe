use Rattle.std.proofs.Common.{◌∙◌, sym}
use Rattle.key_code.proofs.KeyLemmas.{order_of_keys}
use Rattle.key_code.proofs.PrefixOrder.{less_by_prefix}
use Rattle.key_code.specs.KeyCode.{key_code}
use Rattle.key_code.proofs.prefixes.prefix_order.Goals as goal

pub returns-clause-codes : goal.returns-clause-codes
returns-clause-codes c = λ a b fa fb lt. less_by_prefix 8 a b fa fb lt

pub returns-clause-keys : goal.returns-clause-keys
returns-clause-keys c =
    λ s a b lawful f g fa fb lt. sym (order_of_keys s a lawful f b g) ∙ less_by_prefix 8 (key_code s a) (key_code s b) fa fb lt
