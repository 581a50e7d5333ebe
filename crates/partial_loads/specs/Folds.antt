-- What the lines of one key come to: one change of the row at it, whatever that row is.
use Rattle.std.specs.Prelude.{◌≡◌, ℕ, ◌≤◌, List, [], ◌∷◌, length, slice_get, Option, Some, None, unwrap_or, Bool as Truth, true, false, ◌==◌, cond, ⊤}
use Rattle.std.specs.List.{list_any, AllByRecursion}
use Rattle.std.specs.FinMap.{get}
use Rattle.std.specs.Ordering.{eq_by_cmp, is_lt}
use Rattle.pk_values.specs.Order.{key_cmp, value_cmp}
use Rattle.pk_values.specs.Schemas.{Layout}
use Rattle.pk_values.specs.declared.cells.Value.{Value}
use Rattle.pk_values.specs.declared.cells.Value.TheVariants.{Null}
use Rattle.pk_model.specs.declared.calls.Op.{Op}
use Rattle.pk_model.specs.declared.calls.Op.TheVariants.{Upsert, Delete}
use Rattle.pk_model.specs.declared.calls.Load.{Load}
use Rattle.pk_model.specs.Laws.{result_for}
use Rattle.pk_model.specs.Lawful.{IsLawful, rise_within}
use Rattle.pk_model.specs.Tables.{Rows, after, key_named, new_row, with_cells}
use Rattle.partial_loads.specs.declared.changes.KeyChange.{KeyChange}
use Rattle.partial_loads.specs.declared.changes.KeyChange.TheVariants.{Keep, Remove, Renew, Overlay}

-- the cell of a line in a column that it carries
abbrev pub carried : List ℕ → List Value → ℕ → Value
carried [] cells c = Null
carried (p ∷ given) [] c = Null
carried (p ∷ given) (v ∷ cells) c = cond (p == c) v (carried given cells c)

abbrev pub cell_at : List Value → ℕ → Value
cell_at row c = unwrap_or (slice_get row c) Null

-- a condition on a column holds the cells of a line back where they are below the row there
abbrev pub is_held : List ℕ → Option ℕ → List Value → List Value → Truth
is_held given None cells row = false
is_held given (Some c) cells row = is_lt (value_cmp (carried given cells c) (cell_at row c))

-- the cells of a line over the row at its key, or over a new one
abbrev pub overlaid : List ℕ → Option ℕ → List Value → List Value → Option (List Value) → List Value
overlaid given when cells new None = with_cells given cells new
overlaid given when cells new (Some row) = cond (is_held given when cells row) row (with_cells given cells row)

-- what a change of the row at a key makes of it
abbrev pub apply : Layout → List ℕ → Option ℕ → List Value → KeyChange → Option (List Value) → Option (List Value)
apply s given when key Keep old = old
apply s given when key Remove old = None
apply s given when key (Renew cells) old = Some (with_cells given cells (new_row s key))
apply s given when key (Overlay cells) old = Some (overlaid given when cells (new_row s key) old)

-- of the cells of two lines the later ones, unless the condition holds them back
abbrev pub stronger : List ℕ → Option ℕ → List Value → List Value → List Value
stronger given None first second = second
stronger given (Some c) first second = cond (is_lt (value_cmp (carried given second c) (carried given first c))) first second

-- one change after another
abbrev pub composed : List ℕ → Option ℕ → KeyChange → KeyChange → KeyChange
composed given when first Keep = first
composed given when first Remove = Remove
composed given when first (Renew cells) = Renew cells
composed given when Keep (Overlay cells) = Overlay cells
composed given when Remove (Overlay cells) = Renew cells
composed given when (Renew before) (Overlay cells) = Renew (stronger given when before cells)
composed given when (Overlay before) (Overlay cells) = Overlay (stronger given when before cells)

-- the change of one line
abbrev pub change_of : Op → KeyChange
change_of (Delete key) = Remove
change_of (Upsert key cells) = Overlay cells

-- the change of the lines that name a key
abbrev pub change_at : List ℕ → Option ℕ → List Op → List Value → KeyChange
change_at given when [] key = Keep
change_at given when (op ∷ ops) key = composed given when (cond (eq_by_cmp key_cmp key (key_named op)) (change_of op) Keep) (change_at given when ops key)

-- what one line makes of the row at its key, where an upsert may have a condition
abbrev pub row_when : Layout → List ℕ → Option ℕ → Op → Option (List Value) → Option (List Value)
row_when s given when (Delete key) old = None
row_when s given when (Upsert key cells) old = Some (overlaid given when cells (new_row s key) old)

-- what the lines that name a key make of the row at it, one after the other
abbrev pub result_when : Layout → List ℕ → Option ℕ → List Op → List Value → Option (List Value) → Option (List Value)
result_when s given when [] key old = old
result_when s given when (op ∷ ops) key old = result_when s given when ops key (cond (eq_by_cmp key_cmp key (key_named op)) (row_when s given when op old) old)

-- a change has a cell for each carried column
abbrev pub IsFull : List ℕ → KeyChange → Type 0
IsFull given Keep = ⊤
IsFull given Remove = ⊤
IsFull given (Renew cells) = length given ≤ length cells
IsFull given (Overlay cells) = length given ≤ length cells

-- a condition can be judged: its column is carried, and the rows at the key are whole
pub record CanJudge (s : Layout) (given : List ℕ) (key : List Value) (old : Option (List Value)) (c : ℕ) : Type 0 where
  pub carries : list_any (λ p. p == c) given ≡ true
  pub new : length s.columns ≤ length (new_row s key)
  pub whole : (row : List Value) → old ≡ Some row → length s.columns ≤ length row

abbrev pub CanJudgeIf : Layout → List ℕ → Option ℕ → List Value → Option (List Value) → Type 0
CanJudgeIf s given None key old = ⊤
CanJudgeIf s given (Some c) key old = CanJudge s given key old c

-- two changes come to one
abbrev pub ComposedActs : Type 0
ComposedActs = (s : Layout) (given : List ℕ) (when : Option ℕ) (key : List Value) (first second : KeyChange) (old : Option (List Value))
    → rise_within s.keys (length s.columns) given ≡ true → IsFull given first → IsFull given second → CanJudgeIf s given when key old
    → apply s given when key (composed given when first second) old ≡ apply s given when key second (apply s given when key first old)

-- and so do the lines of a key
abbrev pub FoldIsLines : Type 0
FoldIsLines = (s : Layout) (given : List ℕ) (when : Option ℕ) (ops : List Op) (key : List Value) (old : Option (List Value))
    → rise_within s.keys (length s.columns) given ≡ true → AllByRecursion (λ op. IsFull given (change_of op)) ops → CanJudgeIf s given when key old
    → apply s given when key (change_at given when ops key) old ≡ result_when s given when ops key old

-- without a condition these are the lines of a load
abbrev pub NoConditionIsLines : Type 0
NoConditionIsLines = (s : Layout) (given : List ℕ) (ops : List Op) (key : List Value) (old : Option (List Value))
    → result_when s given None ops key old ≡ result_for s given ops key old

-- a lawful load changes each key by the change that its lines come to
abbrev pub LoadIsChanges : Type 0
LoadIsChanges = (s : Layout) (load : Load) (m : Rows) (key : List Value) → IsLawful s load
    → get (after s load m) key ≡ apply s load.given None key (change_at load.given None load.ops key) (get m key)

-- an upsert after a delete begins with a new row
abbrev pub DeleteRenews : Type 0
DeleteRenews = (s : Layout) (given : List ℕ) (when : Option ℕ) (key cells : List Value) (first : KeyChange) (old : Option (List Value))
    → apply s given when key (composed given when (composed given when first Remove) (Overlay cells)) old ≡ Some (with_cells given cells (new_row s key))

-- of upserts without a condition the last one counts
abbrev pub LastCells : Type 0
LastCells = (given : List ℕ) (before cells : List Value) → composed given None (Overlay before) (Overlay cells) ≡ Overlay cells

-- a change asks for the old row only where it overlays it
abbrev pub overlays : KeyChange → Truth
overlays (Overlay cells) = true
overlays Keep = true
overlays _ = false

abbrev pub OldRowUnasked : Type 0
OldRowUnasked = (s : Layout) (given : List ℕ) (when : Option ℕ) (key : List Value) (c : KeyChange) (a b : Option (List Value))
    → overlays c ≡ false → apply s given when key c a ≡ apply s given when key c b
