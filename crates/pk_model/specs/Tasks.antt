-- What a job makes each of its calls for, and which replies of a device it may get there.
use Rattle.std.specs.Prelude.{◌≡◌, ◌≢◌, ◌⊎◌, ℕ}
use Rattle.pk_model.specs.declared.books.Book.{Book}
use Rattle.pk_model.specs.declared.calls.Load.{Load}
use Rattle.pk_model.specs.declared.calls.Want.{Want}
use Rattle.pk_model.specs.declared.calls.Want.TheVariants.{Latest}
use Rattle.pk_model.specs.declared.calls.Call.{Call}
use Rattle.pk_model.specs.declared.calls.Call.TheVariants as call
use Rattle.pk_model.specs.declared.calls.Reply.{Reply}
use Rattle.pk_model.specs.declared.calls.Reply.TheVariants as reply
use Rattle.pk_model.specs.declared.tasks.Task.{Task}
use Rattle.pk_model.specs.declared.tasks.Task.TheVariants as task
use Rattle.pk_model.specs.Books.{GivesWay, IsOfDevice, IsOfReading, IsOfWriting, MayGet, MayReply, answer}

-- the calls that are made for a task
abbrev pub IsCallOf : Task → Call → Type 0
IsCallOf task.LoadWhole c = (load : Load) × (c ≡ call.Load load)
IsCallOf task.LookUp c = c ≡ call.Open Latest
IsCallOf task.PublishPartial c = (load : Load) × (c ≡ call.Load load)
IsCallOf task.OpenScan c = (want : Want) × (c ≡ call.Open want)
IsCallOf task.Begin c = c ≡ call.Begin
IsCallOf task.End c = (begun : ℕ) × (c ≡ call.End begun)
IsCallOf task.GiveUp c = (begun : ℕ) × (c ≡ call.GiveUp begun)
IsCallOf task.Expire c = (floor : ℕ) × (c ≡ call.Expire floor)
IsCallOf task.Count c = c ≡ call.Stat

-- which replies of a device each task may get: a look-up reads, an expiry writes, a scan's opening uses no device and
-- so can only want memory, giving up and counting take nothing, and the others may get all
abbrev pub TaskMayGet : Task → Reply → Type 0
TaskMayGet task.LoadWhole r = IsOfDevice r
TaskMayGet task.LookUp r = IsOfReading r
TaskMayGet task.PublishPartial r = IsOfDevice r
TaskMayGet task.OpenScan r = r ≡ reply.Memory
TaskMayGet task.Begin r = IsOfDevice r
TaskMayGet task.End r = IsOfDevice r
TaskMayGet task.GiveUp r = ⊥
TaskMayGet task.Expire r = IsOfWriting r
TaskMayGet task.Count r = ⊥

-- the reply to a call that is made for a task: the book's own answer, or that of a device in its place
abbrev pub TaskMayReply : Task → Book → Call → Reply → Type 0
TaskMayReply t b c r = (r ≡ answer b c) ⊎ (TaskMayGet t r × GivesWay (answer b c) r)

-- every call is made for some task
abbrev pub EachCallHasTask : Type 0
EachCallHasTask = (c : Call) → (t : Task) × IsCallOf t c

-- what a task may get, its call may get
abbrev pub TasksAreNarrower : Type 0
TasksAreNarrower = (t : Task) (c : Call) (r : Reply) → IsCallOf t c → TaskMayGet t r → MayGet c r

-- and each task but a scan's opening may get all that its call may
abbrev pub OthersAreAsWide : Type 0
OthersAreAsWide = (t : Task) (c : Call) (r : Reply) → t ≢ task.OpenScan → IsCallOf t c → MayGet c r → TaskMayGet t r

-- so a reply that comes for a task may come for its call
abbrev pub TaskRepliesMayCome : Type 0
TaskRepliesMayCome = (t : Task) (b : Book) (c : Call) (r : Reply) → IsCallOf t c → TaskMayReply t b c r → MayReply b c r
