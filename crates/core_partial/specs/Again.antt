-- How the rows of keys that moved are made again, one key after the other.
use Rattle.std.specs.Prelude.{◌≡◌, ℕ, List, [], ◌∷◌, ◌++◌, map, length, Option, Some, None, Bool as Truth, true, false, option_to_list}
use Rattle.pk_values.specs.Schemas.{Layout}
use Rattle.pk_values.specs.declared.cells.Value.{Value}
use Rattle.pk_model.specs.Tables.{Rows}
use Rattle.tablet_state.specs.Contents.{Contents}
use Rattle.tablet_state.specs.State.{SegmentView}
use Rattle.partial_loads.specs.Folds.{apply}
use Rattle.partial_loads.specs.Making.{made_rows}
use Rattle.partial_loads.specs.Olds.{made_of as rows_made}
use Rattle.core_publish.specs.Results.{KeyResult, placed}
use Rattle.core_partial.specs.Moving.{AreOldsNow, IsOldNow, is_moved_key, made_places, moved_keys}
use Rattle.core_partial.specs.Prepared.{folded_of}
use Rattle.core_partial.specs.Results.{place_for}
use Rattle.core_partial.specs.declared.again.Remade.{Remade}
use Rattle.core_partial.specs.declared.keys.PreparedKey.{PreparedKey}

-- what a key's change makes of an old row
abbrev pub row_made : Layout → List ℕ → PreparedKey → Option (List Value) → Option (List Value)
row_made s given k old = apply s given None k.key k.change old

-- a key that moved gets a row, or none, of its old row now
pub record RemakesKey (c : Contents) (segments : List SegmentView) (given : List ℕ) (k : PreparedKey) (old new : Remade) : Type 0 where
  pub row : Option (List Value)
  pub is : IsOldNow c segments k row
  pub rows : new.results.rows.items ≡ old.results.rows.items ++ option_to_list (row_made c.schema given k row)
  pub moves : new.results.moves.items
      ≡ old.results.moves.items ++ (k.code, place_for (length old.results.rows.items) (row_made c.schema given k row)) ∷ []
  pub stale : new.stale.items ≡ old.stale.items ++ option_to_list k.made

abbrev pub Remakes : Truth → Contents → List SegmentView → List ℕ → PreparedKey → Remade → Remade → Type 0
Remakes true c segments given k old new = RemakesKey c segments given k old new
Remakes false c segments given k old new = new ≡ old

abbrev pub RemakesMore : Contents → List SegmentView → List ℕ → ℕ → PreparedKey → Remade → Remade → Type 0
RemakesMore c segments given v k old new = Remakes (is_moved_key c v k) c segments given k old new

-- its row is made of that of the map
abbrev pub RemakesOver : Layout → List ℕ → Contents → ℕ → PreparedKey → Rows → Remade → Remade → Type 0
RemakesOver s given c v k m old new =
    new.results.rows.items ≡ old.results.rows.items ++ made_rows s given m (map folded_of (moved_keys c v (k ∷ [])))

-- the keys with the rows that are made of old ones
abbrev pub results_of : Layout → List ℕ → List PreparedKey → List (Option (List Value)) → List KeyResult
results_of s given [] olds = []
results_of s given (k ∷ ks) [] = []
results_of s given (k ∷ ks) (old ∷ olds) = (k.key, row_made s given k old) ∷ results_of s given ks olds

-- what was made again of keys, of their old rows now
pub record AreRemade (c : Contents) (segments : List SegmentView) (given : List ℕ) (keys : List PreparedKey)
    (remade : Remade) : Type 0 where
  pub olds : List (Option (List Value))
  pub are : AreOldsNow c segments keys olds
  pub rows : remade.results.rows.items ≡ rows_made c.schema given (map folded_of keys) olds
  pub moves : remade.results.moves.items ≡ placed c.schema 0 (results_of c.schema given keys olds)
  pub stale : remade.stale.items ≡ made_places keys
