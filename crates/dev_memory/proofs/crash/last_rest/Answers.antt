use Rattle.std.proofs.Common.{ℕ, take, get_or, false, refl, sym, subst, ◌∙◌, arith}
use Rattle.dev_memory.specs.declared.call.Call.TheVariants.{Write}
use Rattle.dev_memory.specs.Disk.{deeds}
use Rattle.dev_memory.specs.Crash.{one_replay, IsAtRest}
use Rattle.dev_memory.proofs.Crashes.{rests_next}
use Rattle.dev_memory.proofs.crash.last_rest.Goals as goal
use Rattle.dev_memory.proofs.crash.last_rest.Goals.{then-does_settle, else-does_settle}

pub loop-i-preserved : goal.loop-i-preserved
loop-i-preserved c =
    let first = Write 0 0 0 false in
    elim c.if-does_settle.branch [
      | then-does_settle w ↦ record {
        within = omega arith;
        rests = λ pieces d at_rest. subst (λ (n : ℕ). IsAtRest (one_replay c.args.area (deeds pieces (take n c.args.calls.now)) d)) (sym w.count-is)
            (rests_next c.args.area c.args.calls.now c.loop-i.i (get_or c.args.calls.now c.loop-i.i first) first (omega arith) refl (sym c.does_settle.ensures ∙ w.if-does_settle.true) pieces d);
      }
      | else-does_settle w ↦ record {
        within = omega arith;
        rests = λ pieces d at_rest. subst (λ (n : ℕ). IsAtRest (one_replay c.args.area (deeds pieces (take n c.args.calls.now)) d)) (sym w.count-is) (c.loop-i.invariant.rests pieces d at_rest);
      }
    ]
