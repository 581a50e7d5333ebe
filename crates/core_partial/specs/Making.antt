-- How the rows of a load's keys are made, one key after the other.
use Rattle.std.specs.Prelude.{◌≡◌, ℕ, List, [], ◌∷◌, ◌++◌, map, length, Option, None, option_to_list}
use Rattle.pk_values.specs.Schemas.{Layout}
use Rattle.pk_values.specs.declared.cells.Value.{Value}
use Rattle.index_level0.specs.declared.place.Place.{Place}
use Rattle.partial_loads.specs.declared.folds.Folded.{Folded}
use Rattle.partial_loads.specs.Folds.{apply}
use Rattle.partial_loads.specs.Olds.{made_of as rows_made}
use Rattle.core_publish.specs.Results.{placed}
use Rattle.core_partial.specs.Again.{results_of}
use Rattle.core_partial.specs.Prepared.{folded_of, made_move}
use Rattle.core_partial.specs.Results.{place_for}
use Rattle.core_partial.specs.declared.keys.PreparedKey.{PreparedKey}
use Rattle.core_partial.specs.declared.making.MadeKeys.{MadeKeys}

abbrev pub was_of : PreparedKey → Option Place
was_of k = k.was

-- what a key's change makes of its old row
abbrev pub row_of : Layout → List ℕ → Folded → Option (List Value) → Option (List Value)
row_of s given f old = apply s given None f.key f.change old

-- one key more, with the row that its change makes of its old one
pub record MakesKey (s : Layout) (given : List ℕ) (f : Folded) (was : Option Place) (old : Option (List Value)) (before after : MadeKeys) : Type 0 where
  pub rows : after.results.rows.items ≡ before.results.rows.items ++ option_to_list (row_of s given f old)
  pub moves : after.results.moves.items
      ≡ before.results.moves.items ++ (f.code, place_for (length before.results.rows.items) (row_of s given f old)) ∷ []
  pub keys : after.keys.items ≡ before.keys.items ++ record {
    code = f.code;
    key = f.key;
    change = f.change;
    was = was;
    made = place_for (length before.results.rows.items) (row_of s given f old);
  } ∷ []

-- the rows that keys get of these old rows, and where each stands among them
pub record AreMadeKeys (s : Layout) (given : List ℕ) (olds : List (Option (List Value))) (made : MadeKeys) : Type 0 where
  pub rows : made.results.rows.items ≡ rows_made s given (map folded_of made.keys.items) olds
  pub moves : made.results.moves.items ≡ placed s 0 (results_of s given made.keys.items olds)
  pub places : map made_move made.keys.items ≡ made.results.moves.items
