-- Where a history closed its tablet, by its replies alone.
use Rattle.std.specs.Prelude.{◌≡◌, ℕ, ◌+◌, List, [], ◌∷◌, Option, Some, None, ⊤}
use Rattle.pk_model.specs.declared.calls.Reply.{Reply}
use Rattle.pk_model.specs.declared.calls.Reply.TheVariants as reply
use Rattle.pk_model.specs.Books.{Entry}

-- a fault or damage closes the tablet at its place
abbrev pub shut_by : ℕ → Reply → Option ℕ
shut_by place (reply.StoreFault n) = Some place
shut_by place (reply.Damaged d) = Some place
shut_by place r = None

-- where it is closed after a reply at a place, and that stays
abbrev pub shut_after : Option ℕ → ℕ → Reply → Option ℕ
shut_after None place r = shut_by place r
shut_after (Some at) place r = Some at

-- a reply tells that the tablet was closed, and where, exactly where it was
abbrev pub TellsShut : Option ℕ → Reply → Type 0
TellsShut (Some at) r = r ≡ reply.Closed at
TellsShut None (reply.Closed at) = ⊥
TellsShut None r = ⊤

-- so does each reply of a history whose first entry stands at this place, and at its end the tablet is closed there, or open
abbrev pub ShutsBy : Option ℕ → ℕ → List Entry → Option ℕ → Type 0
ShutsBy at place [] now = now ≡ at
ShutsBy at place (e ∷ es) now = TellsShut at e.1 × ShutsBy (shut_after at place e.1) (place + 1) es now
