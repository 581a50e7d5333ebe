use Rattle.std.proofs.Common.{◌∙◌, ℕ, take, set, refl, sym, ap, add-one, arith}
use Rattle.std.specs.List.{list_all}
use Rattle.std.proofs.lemmas.List.{take_all}
use Rattle.dev_memory.specs.Areas.{AreaView, has_room}
use Rattle.dev_memory.proofs.Keeping.{same-step, rooms-step, roomy-step}
use Rattle.dev_memory.proofs.kept.reserve_all.Goals as goal

pub loop-i-init : goal.loop-i-init
loop-i-init c = record { same = refl; kept = λ room was. was; done = refl }

pub loop-i-preserved : goal.loop-i-preserved
loop-i-preserved c =
    let was = c.loop-i.invariant in
    let old = c.index-areas-i in
    record {
      same = same-step c.loop-i.areas c.loop-i.i c.reserve.new.self old.result old.is (c.reserve.ensures.same ∙ ap (λ (a : AreaView). a.bytes) (sym old.is)) ∙ was.same;
      kept = λ room start. rooms-step c.args.more room c.loop-i.areas c.loop-i.i c.reserve.new.self old.result (omega arith) old.is (omega (arith, c.reserve.ensures.kept, ap (λ (a : AreaView). a.room) old.is)) (was.kept room start);
      done = ap (λ (n : ℕ). list_all (has_room c.args.more) (take n (set c.loop-i.areas c.loop-i.i c.reserve.new.self))) (add-one c.loop-i.i) ∙ roomy-step c.args.more c.loop-i.areas c.loop-i.i c.reserve.new.self was.done c.in_ok-reserve.ensures.room;
    }

pub returns-in_err-reserve-clause-same : goal.returns-in_err-reserve-clause-same
returns-in_err-reserve-clause-same c =
    let old = c.index-areas-i in
    same-step c.loop-i.areas c.loop-i.i c.reserve.new.self old.result old.is (c.reserve.ensures.same ∙ ap (λ (a : AreaView). a.bytes) (sym old.is)) ∙ c.loop-i.invariant.same

pub returns-in_err-reserve-clause-kept : goal.returns-in_err-reserve-clause-kept
returns-in_err-reserve-clause-kept c room start =
    let old = c.index-areas-i in
    rooms-step c.args.more room c.loop-i.areas c.loop-i.i c.reserve.new.self old.result (omega arith) old.is (omega (arith, c.reserve.ensures.kept, ap (λ (a : AreaView). a.room) old.is)) (c.loop-i.invariant.kept room start)

pub returns-clause-room : goal.returns-clause-room
returns-clause-room c = ap (list_all (has_room c.args.more)) (sym (take_all c.loop-i.i c.loop-i.areas (omega arith))) ∙ c.loop-i.invariant.done
