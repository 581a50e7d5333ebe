-- What replies tell: where a state is shut, and what stands behind a reply.
use Rattle.std.specs.Prelude.{◌≡◌, ℕ, Option, Some, None, ⊤}
use Rattle.pk_model.specs.declared.calls.Reply.{Reply}
use Rattle.pk_model.specs.declared.calls.Reply.TheVariants as reply

abbrev pub shut_by : ℕ → Reply → Option ℕ
shut_by place (reply.StoreFault n) = Some place
shut_by place (reply.Damaged d) = Some place
shut_by place r = None

abbrev pub shut_after : Option ℕ → ℕ → Reply → Option ℕ
shut_after None place r = shut_by place r
shut_after (Some at) place r = Some at

abbrev pub TellsShut : Option ℕ → Reply → Type 0
TellsShut (Some at) r = r ≡ reply.Closed at
TellsShut None (reply.Closed at) = ⊥
TellsShut None r = ⊤

abbrev pub told_by_reply : Reply → ℕ
told_by_reply (reply.StoreFault n) = 1
told_by_reply r = 0

abbrev pub IsOpening : Reply → Type 0
IsOpening (reply.Opened v) = ⊤
IsOpening (reply.Expired v) = ⊤
IsOpening (reply.NotYet v) = ⊤
IsOpening (reply.Closed v) = ⊤
IsOpening reply.Memory = ⊤
IsOpening r = ⊥

abbrev pub IsStat : Reply → Type 0
IsStat (reply.Stat floor version rows rowsets) = ⊤
IsStat (reply.Closed p) = ⊤
IsStat r = ⊥
