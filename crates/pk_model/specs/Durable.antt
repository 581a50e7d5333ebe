-- What a crash keeps of a book.
use Rattle.std.specs.Prelude.{◌≡◌, ℕ, ⊤, None}
use Rattle.pk_values.specs.Schemas.{Layout}
use Rattle.pk_model.specs.declared.books.Book.{Book}
use Rattle.pk_model.specs.declared.calls.Call.{Call}
use Rattle.pk_model.specs.declared.calls.Call.TheVariants as call
use Rattle.pk_model.specs.declared.calls.Load.{Load}
use Rattle.pk_model.specs.declared.calls.Reply.{Reply}
use Rattle.pk_model.specs.Books.{IsOfDevice, change, new_book, next, rows_at, version}

-- its floor, its kept versions' rows and the number of its rowsets; the plan of a compaction goes, and it is open again
abbrev pub durable : Book → Book
durable b = record b { plan = None; closed = None }

-- what is kept is exactly that: books that agree in it have one durable book
abbrev pub DurableIsKept : Type 0
DurableIsKept = (b d : Book) → b.floor ≡ d.floor → version b ≡ version d → ((v : ℕ) → rows_at b v ≡ rows_at d v)
    → b.rowsets ≡ d.rowsets → durable b ≡ durable d

-- and the durable book has it
pub record KeepsOf (d b : Book) : Type 0 where
  pub floor : d.floor ≡ b.floor
  pub version_kept : version d ≡ version b
  pub rows : (v : ℕ) → rows_at d v ≡ rows_at b v
  pub rowsets : d.rowsets ≡ b.rowsets
  pub unplanned : d.plan ≡ None
  pub opened : d.closed ≡ None

abbrev pub DurableKeeps : Type 0
DurableKeeps = (b : Book) → KeepsOf (durable b) b

-- a new book loses nothing in a crash
abbrev pub NewIsDurable : Type 0
NewIsDurable = durable new_book ≡ new_book

-- a device's reply changes nothing of what a crash keeps
abbrev pub DeviceRepliesLeaveDurable : Type 0
DeviceRepliesLeaveDurable = (s : Layout) (b : Book) (place : ℕ) (c : Call) (r : Reply)
    → IsOfDevice r → durable (next s b place c r) ≡ durable b

-- nor does an opening, a begin, a giving up or a count
abbrev pub MayChangeDurable : Call → Type 0
MayChangeDurable (call.Load load) = ⊤
MayChangeDurable (call.Open want) = ⊥
MayChangeDurable call.Begin = ⊥
MayChangeDurable (call.End begun) = ⊤
MayChangeDurable (call.GiveUp begun) = ⊥
MayChangeDurable (call.Expire v) = ⊤
MayChangeDurable call.Stat = ⊥

abbrev pub OthersLeaveDurable : Type 0
OthersLeaveDurable = (s : Layout) (b : Book) (place : ℕ) (c : Call) → (MayChangeDurable c → ⊥)
    → durable (change s b place c) ≡ durable b

-- a load and an expiry make of an open book what they make of its durable one
abbrev pub DurableGoesOn : Type 0
DurableGoesOn = (s : Layout) (b : Book) (place : ℕ) → b.closed ≡ None
    → ((load : Load) → durable (change s b place (call.Load load)) ≡ change s (durable b) place (call.Load load))
    × ((v : ℕ) → durable (change s b place (call.Expire v)) ≡ change s (durable b) place (call.Expire v))
