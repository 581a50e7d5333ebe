-- Whose replies stand in a history, and how histories are put together.
use Rattle.std.specs.Prelude.{◌≡◌, ◌⊎◌, ℕ, ◌+◌, ⊤, List, [], ◌∷◌, ◌++◌, length, Some}
use Rattle.pk_values.specs.Schemas.{Layout}
use Rattle.pk_model.specs.declared.books.Book.{Book}
use Rattle.pk_model.specs.declared.calls.Call.{Call}
use Rattle.pk_model.specs.declared.calls.Reply.{Reply}
use Rattle.pk_model.specs.declared.calls.Reply.TheVariants as reply
use Rattle.pk_model.specs.Books.{Entry, IsLegal, MayReply, answer, change, next, replay}

-- a reply that no device gave
abbrev pub IsOfBook : Reply → Type 0
IsOfBook (reply.StoreFault n) = ⊥
IsOfBook (reply.Damaged d) = ⊥
IsOfBook reply.Memory = ⊥
IsOfBook (reply.Worn n) = ⊥
IsOfBook r = ⊤

-- a reply that closes the book
abbrev pub Closes : Reply → Type 0
Closes (reply.StoreFault n) = ⊤
Closes (reply.Damaged d) = ⊤
Closes r = ⊥

-- a reply that tells of no damage
abbrev pub TellsNoDamage : Reply → Type 0
TellsNoDamage (reply.Damaged d) = ⊥
TellsNoDamage r = ⊤

-- no reply of a history tells of damage, as it is where an honest store was opened
abbrev pub TellNoDamage : List Entry → Type 0
TellNoDamage [] = ⊤
TellNoDamage (e ∷ es) = TellsNoDamage e.1 × TellNoDamage es

-- the answer of a book is never a device's reply
abbrev pub AnswersAreOwn : Type 0
AnswersAreOwn = (b : Book) (c : Call) → IsOfBook (answer b c)

-- and a reply that no device gave is the answer
abbrev pub OwnReplyIsAnswer : Type 0
OwnReplyIsAnswer = (b : Book) (c : Call) (r : Reply) → MayReply b c r → IsOfBook r → r ≡ answer b c

-- a call's own change leaves a book as open as it was
abbrev pub ChangesCloseNothing : Type 0
ChangesCloseNothing = (s : Layout) (b : Book) (place : ℕ) (c : Call) → (change s b place c).closed ≡ b.closed

-- so does each reply but a fault and damage, which close it at their place
abbrev pub FaultsAloneClose : Type 0
FaultsAloneClose = (s : Layout) (b : Book) (place : ℕ) (c : Call) (r : Reply)
    → (Closes r → (next s b place c r).closed ≡ Some place) × ((Closes r → ⊥) → (next s b place c r).closed ≡ b.closed)

-- a reply leaves the book, closes it at its place, or leaves what the call makes of it
abbrev pub ReplyLeavesOneOfThree : Type 0
ReplyLeavesOneOfThree = (s : Layout) (b : Book) (place : ℕ) (c : Call) (r : Reply)
    → (next s b place c r ≡ b) ⊎ (next s b place c r ≡ record b { closed = Some place })
    ⊎ (next s b place c r ≡ change s b place c)

-- a legal history goes on by any history that is legal from the book it leaves
abbrev pub LegalAppends : Type 0
LegalAppends = (s : Layout) (b : Book) (place : ℕ) (es fs : List Entry)
    → IsLegal s b place es → IsLegal s (replay s b place es) (place + length es) fs → IsLegal s b place (es ++ fs)

-- and what follows in a legal history is legal from the book before it
abbrev pub RestIsLegal : Type 0
RestIsLegal = (s : Layout) (b : Book) (place : ℕ) (es fs : List Entry)
    → IsLegal s b place (es ++ fs) → IsLegal s (replay s b place es) (place + length es) fs

-- two histories tell of no damage exactly where both do
abbrev pub NoDamageAppends : Type 0
NoDamageAppends = (es fs : List Entry) → TellNoDamage es → TellNoDamage fs → TellNoDamage (es ++ fs)

abbrev pub NoDamageBefore : Type 0
NoDamageBefore = (es fs : List Entry) → TellNoDamage (es ++ fs) → TellNoDamage es

abbrev pub NoDamageAfter : Type 0
NoDamageAfter = (es fs : List Entry) → TellNoDamage (es ++ fs) → TellNoDamage fs
