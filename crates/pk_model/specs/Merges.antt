-- One merge of the lines of a load into the rows of a table: lines in the order of their keys, and what each does to
-- the rows written so far.
use Rattle.std.specs.Prelude.{◌≡◌, ℕ, List, [], ◌∷◌, ◌++◌, Bool as Truth, true, false, ◌&&◌, T}
use Rattle.std.specs.FinMap.{entries}
use Rattle.std.specs.FinMap.Entries.{below_all, is_sorted}
use Rattle.std.specs.Ordering.{eq_by_cmp, is_le}
use Rattle.pk_values.specs.Order.{key_cmp}
use Rattle.pk_values.specs.Schemas.{Layout}
use Rattle.pk_values.specs.declared.cells.Value.{Value}
use Rattle.pk_model.specs.declared.calls.Op.{Op}
use Rattle.pk_model.specs.Tables.{Rows, act, key_named}
use Rattle.pk_model.specs.Runs.{Pair, are_up_to}

-- each key is at most the next one
abbrev pub rise : List Op → Truth
rise [] = true
rise (a ∷ []) = true
rise (a ∷ b ∷ ops) = is_le (key_cmp (key_named a) (key_named b)) && rise (b ∷ ops)

-- the first line names this key
abbrev pub names_next : List Value → List Op → Truth
names_next key [] = false
names_next key (op ∷ ops) = eq_by_cmp key_cmp key (key_named op)

-- no written key is past that of the first line
abbrev pub await : List Op → List Pair → Truth
await [] es = true
await (op ∷ ops) es = are_up_to (key_named op) es

-- where the pairs written and the pairs after them are a map's, they are so again once the line has acted on both
abbrev pub Settles : Layout → List ℕ → Op → List Pair → List Pair → Type 0
Settles s given op old new = (m : Rows) (after : List Pair)
    → entries m ≡ old ++ after
    → T (are_up_to (key_named op) old)
    → T (below_all key_cmp (key_named op) after)
    → entries (act s given op m) ≡ new ++ after

abbrev pub KeepsOrder : Op → List Pair → List Pair → Type 0
KeepsOrder op old new = (after : List Pair)
    → T (is_sorted key_cmp (old ++ after))
    → T (are_up_to (key_named op) old)
    → T (below_all key_cmp (key_named op) after)
    → T (is_sorted key_cmp (new ++ after))

abbrev pub StaysUpTo : Op → List Pair → List Pair → Type 0
StaysUpTo op old new = T (is_sorted key_cmp old) → T (are_up_to (key_named op) old) → T (are_up_to (key_named op) new)
