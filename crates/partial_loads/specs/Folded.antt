-- The lines of a load, one change for each key.
use Rattle.std.specs.Prelude.{◌≡◌, ℕ, List, [], ◌∷◌, map, Option, Bool as Truth, true, ◌&&◌, cond, T}
use Rattle.std.specs.Ordering.{eq_by_cmp, is_lt}
use Rattle.pk_values.specs.Order.{key_cmp}
use Rattle.pk_values.specs.declared.cells.Value.{Value}
use Rattle.std.specs.List.{AllByRecursion}
use Rattle.key_code.specs.KeyCode.{key_code}
use Rattle.pk_values.specs.Schemas.{Layout}
use Rattle.pk_model.specs.declared.calls.Op.{Op}
use Rattle.pk_model.specs.Tables.{key_named, touches}
use Rattle.rowsets.specs.Live.{is_among}
use Rattle.partial_loads.specs.declared.lines.Line.{Line}
use Rattle.partial_loads.specs.declared.changes.KeyChange.{KeyChange}
use Rattle.partial_loads.specs.declared.changes.KeyChange.TheVariants.{Keep}
use Rattle.partial_loads.specs.declared.folds.Folded.{Folded}
use Rattle.partial_loads.specs.Folds.{change_of, change_at, composed}
use Rattle.partial_loads.specs.Lines.{IsShortKey}

abbrev pub folded_keys : List Folded → List (List Value)
folded_keys folded = map (λ f. f.key) folded

-- each key is below the next one
abbrev pub rise_strictly : List (List Value) → Truth
rise_strictly [] = true
rise_strictly (a ∷ []) = true
rise_strictly (a ∷ b ∷ ks) = is_lt (key_cmp a b) && rise_strictly (b ∷ ks)

-- the change of a key among them
abbrev pub change_in : List Folded → List Value → KeyChange
change_in [] k = Keep
change_in (f ∷ fs) k = cond (eq_by_cmp key_cmp k f.key) f.change (change_in fs k)

-- the key fits and has a short code, which stands beside it
pub record HasCode (s : Layout) (f : Folded) : Type 0 where
  pub key : IsShortKey s f.key
  pub code : f.code ≡ key_code s f.key

-- These are the keys that lines name, in their order, each with its code and the change that its lines come to.
pub record AreFolded (s : Layout) (given : List ℕ) (when : Option ℕ) (ops : List Op) (folded : List Folded) : Type 0 where
  pub rise : T (rise_strictly (folded_keys folded))
  pub named : (k : List Value) → is_among (folded_keys folded) k ≡ is_among (touches ops) k
  pub changes : (k : List Value) → change_in folded k ≡ change_at given when ops k
  pub coded : AllByRecursion (HasCode s) folded

-- the change of the first key, where it is this one
abbrev pub first_change : List Value → List Folded → KeyChange
first_change key [] = Keep
first_change key (f ∷ fs) = cond (eq_by_cmp key_cmp f.key key) f.change Keep

-- all but the first key, where it is this one
abbrev pub others : List Value → List Folded → List Folded
others key [] = []
others key (f ∷ fs) = cond (eq_by_cmp key_cmp f.key key) fs (f ∷ fs)

-- one line before others
abbrev pub with_line : List ℕ → Option ℕ → Line → List Folded → List Folded
with_line given when line fs = record {
  code = line.code;
  key = key_named line.op;
  change = composed given when (change_of line.op) (first_change (key_named line.op) fs);
} ∷ others (key_named line.op) fs

abbrev pub folded_lines : List ℕ → Option ℕ → List Line → List Folded
folded_lines given when [] = []
folded_lines given when (line ∷ lines) = with_line given when line (folded_lines given when lines)
