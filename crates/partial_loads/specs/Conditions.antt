-- Loads whose upserts have a condition: each carries every column, and takes effect only where its cell in one column isn't below that of the old row.
use Rattle.std.specs.Prelude.{◌≡◌, ◌↔◌, ℕ, ◌+◌, List, [], ◌∷◌, ◌++◌, length, Option, Some, None, Bool as Truth, true, false, ◌&&◌, ◌||◌, ◌==◌, not, cond, IsTrue}
use Rattle.std.specs.List.{list_any, list_all}
use Rattle.std.specs.FinMap.{get}
use Rattle.std.specs.Ordering.{eq_by_cmp}
use Rattle.pk_values.specs.Order.{key_cmp}
use Rattle.pk_values.specs.Schemas.{Layout}
use Rattle.pk_values.specs.declared.cells.Value.{Value}
use Rattle.pk_model.specs.declared.calls.Op.{Op}
use Rattle.pk_model.specs.declared.calls.Op.TheVariants.{Upsert, Delete}
use Rattle.pk_model.specs.Lawful.{fits_line, rise_within}
use Rattle.pk_model.specs.Tables.{Rows, key_named, touches}
use Rattle.index_level0.specs.declared.place.Place.{Place}
use Rattle.rowsets.specs.Live.{Part, Files, Live, live, is_among, HasKey, HasRow, Index}
use Rattle.rowsets.specs.Marks.{marked, stands_in}
use Rattle.rowsets.specs.Changes.{AreOldRows, IsIndexAfter, IsChange}
use Rattle.rowsets.specs.Loads.{AreRows}
use Rattle.partial_loads.specs.declared.changes.KeyChange.{KeyChange}
use Rattle.partial_loads.specs.declared.changes.KeyChange.TheVariants.{Keep, Remove, Renew, Overlay}
use Rattle.partial_loads.specs.Folds.{change_at, is_held, result_when, row_when}

-- lines with a condition on column c: each carries every column outside the key, and that is one of them
pub record AreConditional (s : Layout) (given : List ℕ) (c : ℕ) (ops : List Op) : Type 0 where
  pub rises : IsTrue (rise_within s.keys (length s.columns) given)
  pub whole : s.keys + length given ≡ length s.columns
  pub column : IsTrue (list_any (λ p. p == c) given)
  pub lines : IsTrue (list_all (fits_line s given) ops)

-- the row that a change may write: whole lines leave nothing of the old row
abbrev pub candidate : List Value → KeyChange → Option (List Value)
candidate key Keep = None
candidate key Remove = None
candidate key (Renew cells) = Some (key ++ cells)
candidate key (Overlay cells) = Some (key ++ cells)

-- the condition holds a change back: no line deleted the key, and the row that it has is greater
abbrev pub holds_back : List ℕ → ℕ → KeyChange → Option (List Value) → Truth
holds_back given c (Overlay cells) (Some row) = is_held given (Some c) cells row
holds_back given c change old = false

-- What the lines of a key leave: its row where none names it or the condition holds them back, and else the candidate.
abbrev pub ResultIsCandidate : Type 0
ResultIsCandidate = (s : Layout) (given : List ℕ) (c : ℕ) (ops : List Op) (m : Rows) (k : List Value) → AreConditional s given c ops → AreRows s m
    → result_when s given (Some c) ops k (get m k)
    ≡ cond (is_among (touches ops) k && not (holds_back given c (change_at given (Some c) ops k) (get m k))) (candidate k (change_at given (Some c) ops k)) (get m k)

-- a line takes effect on the row at its key
abbrev pub takes_effect : List ℕ → Option ℕ → Op → Option (List Value) → Truth
takes_effect given when (Delete key) old = true
takes_effect given when (Upsert key cells) None = true
takes_effect given when (Upsert key cells) (Some row) = not (is_held given when cells row)

-- some line of a key takes effect, as the lines go on from its row
abbrev pub some_takes_effect : Layout → List ℕ → Option ℕ → List Op → List Value → Option (List Value) → Truth
some_takes_effect s given when [] key old = false
some_takes_effect s given when (op ∷ ops) key old =
    (eq_by_cmp key_cmp key (key_named op) && takes_effect given when op old)
    || some_takes_effect s given when ops key (cond (eq_by_cmp key_cmp key (key_named op)) (row_when s given when op old) old)

-- that is so exactly where a line names the key and the condition doesn't hold its change back
abbrev pub EffectIsNotHeld : Type 0
EffectIsNotHeld = (s : Layout) (given : List ℕ) (c : ℕ) (ops : List Op) (m : Rows) (k : List Value) → AreConditional s given c ops → AreRows s m
    → some_takes_effect s given (Some c) ops k (get m k) ≡ (is_among (touches ops) k && not (holds_back given c (change_at given (Some c) ops k) (get m k)))

-- Candidates that were written without a look at any old row, those that the condition holds back dead, and the old rows of the others: a change that is the load's. `now` are the rows after it, and
-- `effective` the keys of the lines that take effect.
pub record AreCandidates (s : Layout) (given : List ℕ) (c : ℕ) (ops : List Op) (m now : Rows) (effective : List (List Value)) (made : Live) (dead : List Place) : Type 0 where
  pub after : (k : List Value) → get now k ≡ result_when s given (Some c) ops k (get m k)
  pub effects : (k : List Value) → is_among effective k ≡ some_takes_effect s given (Some c) ops k (get m k)
  pub rows : (k row : List Value) → is_among (touches ops) k ≡ true → (candidate k (change_at given (Some c) ops k) ≡ Some row) ↔ HasRow s made k row
  pub named : (p : Place) (k : List Value) → HasKey s made p k → is_among (touches ops) k ≡ true
  pub held : (p : Place) (k : List Value) → HasKey s made p k → stands_in dead p ≡ holds_back given c (change_at given (Some c) ops k) (get m k)

abbrev pub CandidatesMake : Type 0
CandidatesMake = (s : Layout) (given : List ℕ) (c : ℕ) (ops : List Op) (m now : Rows) (effective : List (List Value)) (rows : Files) (made : List Part) (old : Live) (dead : List Place) (index next : Index)
    → AreConditional s given c ops → AreRows s m → AreCandidates s given c ops m now effective (live rows made) dead
    → AreOldRows s effective old dead → IsIndexAfter s effective (live rows (marked dead made)) index next
    → IsChange s old index m effective now (live rows (marked dead made)) dead next
