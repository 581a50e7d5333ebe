-- Rows that fit their schema and stand under their own short keys, and that no history of lawful loads makes others.
use Rattle.std.specs.Prelude.{◌≡◌, ℕ, ◌≤◌, ⊤, All, List, [], ◌∷◌, length, Option, Some, None, IsTrue}
use Rattle.std.specs.FinMap.{get, keys, values}
use Rattle.key_code.specs.KeyCode.{key_code}
use Rattle.pk_values.specs.Schemas.{Layout, fits_key, fits_row, key_of, schema_fault}
use Rattle.pk_values.specs.declared.cells.Value.{Value}
use Rattle.pk_model.specs.declared.books.Book.{Book}
use Rattle.pk_model.specs.declared.books.Plan.{Plan}
use Rattle.pk_model.specs.declared.calls.Load.{Load}
use Rattle.pk_model.specs.declared.calls.Call.{Call}
use Rattle.pk_model.specs.declared.calls.Call.TheVariants as call
use Rattle.pk_model.specs.declared.calls.Reply.{Reply}
use Rattle.pk_model.specs.Books.{Entry, new_book, next, replay, rows_at}
use Rattle.pk_model.specs.Lawful.{IsLawful, most_code_bytes}
use Rattle.pk_model.specs.Tables.{Rows, after}

-- a row fits the schema, its first cells are its key, and its key's code is short enough
pub record IsLawfulRow (s : Layout) (key row : List Value) : Type 0 where
  pub fits : IsTrue (fits_row s row)
  pub key_first : key_of s row ≡ key
  pub short : length (key_code s key) ≤ most_code_bytes

abbrev pub AreLawfulRows : Layout → Rows → Type 0
AreLawfulRows s m = (key row : List Value) → get m key ≡ Some row → IsLawfulRow s key row

-- the rows of each kept version are lawful, and those that a compaction has in hand
pub record HasLawfulRows (s : Layout) (b : Book) : Type 0 where
  pub kept : (v : ℕ) (m : Rows) → rows_at b v ≡ Some m → AreLawfulRows s m
  pub planned : (p : Plan) → b.plan ≡ Some p → AreLawfulRows s p.rows

-- a load that is asked for is lawful
abbrev pub IsLawfulCall : Layout → Call → Type 0
IsLawfulCall s (call.Load load) = IsLawful s load
IsLawfulCall s (call.Open want) = ⊤
IsLawfulCall s call.Begin = ⊤
IsLawfulCall s (call.End begun) = ⊤
IsLawfulCall s (call.GiveUp begun) = ⊤
IsLawfulCall s (call.Expire v) = ⊤
IsLawfulCall s call.Stat = ⊤

-- each load of a history is lawful
abbrev pub HasLawfulLoads : Layout → List Entry → Type 0
HasLawfulLoads s [] = ⊤
HasLawfulLoads s (e ∷ es) = IsLawfulCall s e.0 × HasLawfulLoads s es

-- a lawful load leaves lawful rows
abbrev pub LawfulLoadsKeepRows : Type 0
LawfulLoadsKeepRows = (s : Layout) (load : Load) (m : Rows)
    → schema_fault s.columns s.keys ≡ None → IsLawful s load → AreLawfulRows s m → AreLawfulRows s (after s load m)

-- a new book has no row that isn't
abbrev pub NewBooksRowsAreLawful : Type 0
NewBooksRowsAreLawful = (s : Layout) → HasLawfulRows s new_book

-- a lawful call leaves a book whose rows are lawful, whatever its reply
abbrev pub CallsKeepRows : Type 0
CallsKeepRows = (s : Layout) (b : Book) (place : ℕ) (c : Call) (r : Reply)
    → schema_fault s.columns s.keys ≡ None → IsLawfulCall s c → HasLawfulRows s b → HasLawfulRows s (next s b place c r)

-- and so does a history of lawful loads
abbrev pub HistoriesKeepRows : Type 0
HistoriesKeepRows = (s : Layout) (b : Book) (place : ℕ) (es : List Entry)
    → schema_fault s.columns s.keys ≡ None → HasLawfulLoads s es → HasLawfulRows s b
    → HasLawfulRows s (replay s b place es)

-- lawful rows, listed in the order of their keys, fit their schema
abbrev pub ListedRowsFit : Type 0
ListedRowsFit = (s : Layout) (m : Rows) → AreLawfulRows s m → All (λ row. IsTrue (fits_row s row)) (values m)

-- and their keys fit, and have codes that are short enough
abbrev pub ListedKeysFit : Type 0
ListedKeysFit = (s : Layout) (m : Rows) → AreLawfulRows s m
    → All (λ key. IsTrue (fits_key s key) × length (key_code s key) ≤ most_code_bytes) (keys m)
