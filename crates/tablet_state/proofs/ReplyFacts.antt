-- Replies of the outside to a load.
use Rattle.std.proofs.Common.{◌≡◌, inr, refl, sym, subst, ◌+◌, Bool, true, false, if◌then◌else◌, None}
use Rattle.pk_model.specs.declared.books.Book.{Book}
use Rattle.pk_model.specs.declared.calls.Load.{Load}
use Rattle.pk_model.specs.declared.calls.Call.TheVariants as call
use Rattle.pk_model.specs.declared.calls.Reply.{Reply}
use Rattle.pk_model.specs.declared.calls.Reply.TheVariants as reply
use Rattle.pk_model.specs.Books.{GivesWay, MayGet, MayReply, is_full, version}
use Rattle.tablet_state.specs.Turns.{FaultIsAStep, DamageIsAStep, MemoryIsAStep, WornIsAStep}
use Rattle.tablet_state.proofs.StandFacts.{load_answer}

instead : (b : Book) (load : Load) (r : Reply) → b.closed ≡ None → is_full b ≡ false → MayGet (call.Load load) r → GivesWay (reply.Published (version b + 1)) r → MayReply b (call.Load load) r
instead b load r none is may gives = inr (may, subst (λ (a : Reply). GivesWay a r) (sym (load_answer b load false none is)) gives)

pub fault_is_a_step : FaultIsAStep
fault_is_a_step s b seq n load none is = (instead b load (reply.StoreFault n) none is tt tt, refl)

pub damage_is_a_step : DamageIsAStep
damage_is_a_step s b seq d load none is = (instead b load (reply.Damaged d) none is tt tt, refl)

pub memory_is_a_step : MemoryIsAStep
memory_is_a_step s b seq load none is = (instead b load reply.Memory none is tt tt, refl)

pub worn_is_a_step : WornIsAStep
worn_is_a_step s b seq n load none le = (inr (le, subst (λ (a : Reply). GivesWay a (reply.Worn n)) (sym (load_answer b load (is_full b) none refl)) (either (is_full b))), refl)
  where
    either : (f : Bool) → GivesWay (if f then reply.ManyVersions else reply.Published (version b + 1)) (reply.Worn n)
    either true = tt
    either false = tt
