-- Keys beside their rows, in the order of the keys: what a merge has written, and what it has still to read.
use Rattle.std.specs.Prelude.{List, [], ◌∷◌, Bool as Truth, true, false, ◌&&◌}
use Rattle.std.specs.List.{zip}
use Rattle.std.specs.Ordering.{is_lt, is_le, eq_by_cmp}
use Rattle.pk_values.specs.Order.{key_cmp}
use Rattle.pk_values.specs.declared.cells.Value.{Value}
use Rattle.pk_model.specs.declared.runs.Run.{Run}
use Rattle.pk_model.specs.declared.runs.Rest.{Rest}

-- a key and its row
abbrev pub Pair : Type 0
Pair = List Value × List Value

abbrev pub written : Run → List Pair
written r = zip r.keys.items r.rows.items

abbrev pub unread : Rest → List Pair
unread r = zip r.keys.items r.rows.items

-- each key is below k
abbrev pub are_below : List Value → List Pair → Truth
are_below k [] = true
are_below k (e ∷ es) = is_lt (key_cmp e.0 k) && are_below k es

-- each key is k or below it
abbrev pub are_up_to : List Value → List Pair → Truth
are_up_to k [] = true
are_up_to k (e ∷ es) = is_le (key_cmp e.0 k) && are_up_to k es

-- the first key is k or below it
abbrev pub begins_up_to : List Value → List Pair → Truth
begins_up_to k [] = false
begins_up_to k (e ∷ es) = is_le (key_cmp e.0 k)

-- the last key is k
abbrev pub ends_at : List Value → List Pair → Truth
ends_at k [] = false
ends_at k (e ∷ []) = eq_by_cmp key_cmp e.0 k
ends_at k (e ∷ f ∷ es) = ends_at k (f ∷ es)
