-- What a task may get of a device, its call may get.
use Rattle.std.proofs.Common.{◌≡◌, ◌≢◌, refl, sym, subst, ◌⊎◌, inl, inr, ℕ}
use Rattle.pk_model.specs.declared.books.Book.{Book}
use Rattle.pk_model.specs.declared.calls.Call.{Call}
use Rattle.pk_model.specs.declared.calls.Call.TheVariants as call
use Rattle.pk_model.specs.declared.calls.Want.TheVariants.{Latest}
use Rattle.pk_model.specs.declared.calls.Reply.{Reply}
use Rattle.pk_model.specs.declared.calls.Reply.TheVariants as reply
use Rattle.pk_model.specs.declared.tasks.Task.{Task}
use Rattle.pk_model.specs.declared.tasks.Task.TheVariants as task
use Rattle.pk_model.specs.Books.{MayGet}
use Rattle.pk_model.specs.Tasks.{EachCallHasTask, OthersAreAsWide, TaskMayGet, TaskRepliesMayCome, TasksAreNarrower}

pub each-call : EachCallHasTask
each-call (call.Load load) = (task.LoadWhole, (load, refl))
each-call (call.Open want) = (task.OpenScan, (want, refl))
each-call call.Begin = (task.Begin, refl)
each-call (call.End begun) = (task.End, (begun, refl))
each-call (call.GiveUp begun) = (task.GiveUp, (begun, refl))
each-call (call.Expire floor) = (task.Expire, (floor, refl))
each-call call.Stat = (task.Count, refl)

-- the call is this one
at-call : (c d : Call) (r : Reply) → c ≡ d → MayGet d r → MayGet c r
at-call c d r e h = subst (λ x. MayGet x r) (sym e) h

of-call : (c d : Call) (r : Reply) → c ≡ d → MayGet c r → MayGet d r
of-call c d r e h = subst (λ x. MayGet x r) e h

pub narrower : TasksAreNarrower
narrower task.LoadWhole c r is h = at-call c (call.Load is.0) r is.1 h
narrower task.LookUp c r is h = at-call c (call.Open Latest) r is h
narrower task.PublishPartial c r is h = at-call c (call.Load is.0) r is.1 h
narrower task.OpenScan c r is h = at-call c (call.Open is.0) r is.1 (subst (λ x. MayGet (call.Open is.0) x) (sym h) tt)
narrower task.Begin c r is h = at-call c call.Begin r is h
narrower task.End c r is h = at-call c (call.End is.0) r is.1 h
narrower task.GiveUp c r is h = absurd h
narrower task.Expire c r is h = at-call c (call.Expire is.0) r is.1 h
narrower task.Count c r is h = absurd h

pub as-wide : OthersAreAsWide
as-wide task.LoadWhole c r n is h = of-call c (call.Load is.0) r is.1 h
as-wide task.LookUp c r n is h = of-call c (call.Open Latest) r is h
as-wide task.PublishPartial c r n is h = of-call c (call.Load is.0) r is.1 h
as-wide task.OpenScan c r n is h = absurd (n refl)
as-wide task.Begin c r n is h = of-call c call.Begin r is h
as-wide task.End c r n is h = of-call c (call.End is.0) r is.1 h
as-wide task.GiveUp c r n is h = of-call c (call.GiveUp is.0) r is.1 h
as-wide task.Expire c r n is h = of-call c (call.Expire is.0) r is.1 h
as-wide task.Count c r n is h = of-call c call.Stat r is h

pub may-come : TaskRepliesMayCome
may-come t b c r is m = elim m [
  | inl own ↦ inl own
  | inr device ↦ inr (narrower t c r is device.0, device.1)
]
