-- What a state replies to an expiry.
use Rattle.std.specs.Prelude.{◌≡◌, ℕ, ⊤}
use Rattle.pk_model.specs.declared.calls.Reply.{Reply}
use Rattle.pk_model.specs.declared.calls.Reply.TheVariants as reply

-- the replies to an expiry
abbrev pub IsExpiry : Reply → Type 0
IsExpiry (reply.Floor v) = ⊤
IsExpiry (reply.NotYet v) = ⊤
IsExpiry (reply.Closed place) = ⊤
IsExpiry (reply.StoreFault n) = ⊤
IsExpiry reply.Memory = ⊤
IsExpiry (reply.Worn n) = ⊤
IsExpiry r = ⊥

-- those where the floor is to be raised to v
abbrev pub IsRaise : ℕ → Reply → Type 0
IsRaise v (reply.Floor g) = g ≡ v
IsRaise v (reply.StoreFault n) = ⊤
IsRaise v reply.Memory = ⊤
IsRaise v r = ⊥
