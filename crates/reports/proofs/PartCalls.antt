-- What each part of a job makes its call for.
use Rattle.std.proofs.Common.{◌≡◌, sym, Some, None, Result, Ok, Err}
use Rattle.std.proofs.lemmas.Option.{same_Some}
use Rattle.load_csv.specs.declared.loads.LoadFault.{LoadFault}
use Rattle.pk_model.specs.declared.calls.Load.{Load}
use Rattle.pk_model.specs.declared.calls.Call.{Call}
use Rattle.pk_model.specs.declared.calls.Call.TheVariants as call
use Rattle.pk_model.specs.declared.calls.Want.TheVariants.{Latest}
use Rattle.script_text.specs.declared.scripts.JobAct.TheVariants as act
use Rattle.script_text.specs.declared.outcomes.ItemPart.TheVariants as part
use Rattle.reports.specs.Jobs.{load_call, look_up_call}
use Rattle.reports.specs.Laws.{CallsAreOfTasks}

call-is : (d c : Call) → Some d ≡ Some c → c ≡ d
call-is d c e = sym (same_Some d c e)

no-call : (c : Call) → None ≡ Some c → ⊥
no-call c e = cc

load-loads : (load : Result Load LoadFault) (c : Call) → load_call load ≡ Some c → (l : Load) × (c ≡ call.Load l)
load-loads (Ok l) c e = (l, call-is (call.Load l) c e)
load-loads (Err f) c e = absurd (no-call c e)

looks-up : (load : Result Load LoadFault) (c : Call) → look_up_call load ≡ Some c → c ≡ call.Open Latest
looks-up (Ok l) c e = call-is (call.Open Latest) c e
looks-up (Err f) c e = absurd (no-call c e)

pub calls-of-tasks : CallsAreOfTasks
calls-of-tasks (act.Load name) part.Whole load begun c e = load-loads load c e
calls-of-tasks (act.Load name) part.First load begun c e = absurd (no-call c e)
calls-of-tasks (act.Load name) part.Last load begun c e = absurd (no-call c e)
calls-of-tasks (act.Load name) part.GaveUp load begun c e = absurd (no-call c e)
calls-of-tasks (act.Partial name) part.Whole load begun c e = absurd (no-call c e)
calls-of-tasks (act.Partial name) part.First load begun c e = looks-up load c e
calls-of-tasks (act.Partial name) part.Last load begun c e = load-loads load c e
calls-of-tasks (act.Partial name) part.GaveUp load begun c e = absurd (no-call c e)
calls-of-tasks (act.Scan want) part.Whole load begun c e = (want, call-is (call.Open want) c e)
calls-of-tasks (act.Scan want) part.First load begun c e = absurd (no-call c e)
calls-of-tasks (act.Scan want) part.Last load begun c e = absurd (no-call c e)
calls-of-tasks (act.Scan want) part.GaveUp load begun c e = absurd (no-call c e)
calls-of-tasks act.Compact part.Whole load begun c e = absurd (no-call c e)
calls-of-tasks act.Compact part.First load begun c e = call-is call.Begin c e
calls-of-tasks act.Compact part.Last load begun c e = (begun, call-is (call.End begun) c e)
calls-of-tasks act.Compact part.GaveUp load begun c e = (begun, call-is (call.GiveUp begun) c e)
calls-of-tasks (act.Expire v) part.Whole load begun c e = (v, call-is (call.Expire v) c e)
calls-of-tasks (act.Expire v) part.First load begun c e = absurd (no-call c e)
calls-of-tasks (act.Expire v) part.Last load begun c e = absurd (no-call c e)
calls-of-tasks (act.Expire v) part.GaveUp load begun c e = absurd (no-call c e)
calls-of-tasks act.Stat part.Whole load begun c e = call-is call.Stat c e
calls-of-tasks act.Stat part.First load begun c e = absurd (no-call c e)
calls-of-tasks act.Stat part.Last load begun c e = absurd (no-call c e)
calls-of-tasks act.Stat part.GaveUp load begun c e = absurd (no-call c e)
