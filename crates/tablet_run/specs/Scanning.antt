-- The rows of a scan as a report has them.
use Rattle.std.specs.Prelude.{◌≡◌, ◌⊎◌, ℕ, List, [], ◌∷◌, ◌++◌, Bool as Truth, true, false}
use Rattle.std.specs.FinMap as fin
use Rattle.dev_traits.specs.View.{View, Calm}
use Rattle.pk_values.specs.declared.cells.Value.{Value}
use Rattle.pk_model.specs.declared.books.Book.{Book}
use Rattle.pk_model.specs.Tables.{Rows}
use Rattle.script_text.specs.Texts.{row_text, rows_text}
use Rattle.script_text.specs.declared.outcomes.Outcome.{Outcome}
use Rattle.script_text.specs.declared.outcomes.Outcome.TheVariants as outcome
use Rattle.reports.specs.Bearing.{TellsIntact}
use Rattle.reports.specs.Courses.{IsOutside}
use Rattle.tablet_state.specs.State.{Has, Shown}

-- the next of the rows to come was put behind a text, and then the others are to come; or none was left
abbrev pub PutsNext : Truth → List (List Value) → List ℕ → List ℕ → (List (List Value) → Type 0) → Type 0
PutsNext true rows old new Then = (row : List Value) × (rest : List (List Value)) × (rows ≡ row ∷ rest) × (new ≡ old ++ row_text row) × Then rest
PutsNext false rows old new Then = (rows ≡ []) × (new ≡ old)

-- the rows of a map as a scan of this version tells them, or a fault in reading them that isn't damage
abbrev pub RowsTold : ℕ → Rows → Outcome → Type 0
RowsTold v m o = (o ≡ outcome.Rows v (fin.len m) (rows_text (fin.values m))) ⊎ (IsOutside o × TellsIntact o)

-- a state that wrote nothing: it has the book that it had, and what a crash may leave is what it might
pub record IsIdle {S : Type 0} (view : S → View) (old new : Shown S) : Type 0 where
  pub has : (b : Book) → Has view old b → Has view new b
  pub calm : Calm (view old.store) (view new.store)
  pub contents : new.contents ≡ old.contents
  pub closed : new.closed ≡ old.closed
