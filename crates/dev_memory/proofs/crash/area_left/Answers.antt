use Rattle.std.proofs.Common.{ℕ, List, ◌≡◌, ◌-◌, length, take, drop, sym, subst, refl, arith, ap, ◌∙◌, length-drop, rules}
use Rattle.std.proofs.lemmas.List.{take_rest}
use Rattle.dev_memory.specs.Disk.{deeds, written, at_rest}
use Rattle.dev_memory.specs.Crash.{one_replay, IsAtRest, Remains, Left}
use Rattle.dev_memory.specs.declared.call.Call.{Call}
use Rattle.dev_memory.proofs.Crashes.{written_parts, left_whole}
use Rattle.dev_memory.proofs.Views.{if_ok}
use Rattle.dev_memory.proofs.crash.area_left.Goals as goal

pub replay-requires : goal.replay-requires
replay-requires c =
    let parts = written_parts c.args.calls.now c.split_at.result.0.now c.split_at.result.1.now c.last_rest.result c.split_at.ensures.front c.split_at.ensures.back in
    omega (arith, parts)

pub slice_bounds-leave_all-count : goal.slice_bounds-leave_all-count
slice_bounds-leave_all-count c =
    let parts = written_parts c.args.calls.now c.split_at.result.0.now c.split_at.result.1.now c.last_rest.result c.split_at.ensures.front c.split_at.ensures.back in
    omega (arith, parts, c.in_ok-at.ensures.size)

pub slice_bounds-leave_all-start : goal.slice_bounds-leave_all-start
slice_bounds-leave_all-start c =
    let inside = slice_bounds-leave_all-count c in search rules

pub leave_all-requires-clause-fits : goal.leave_all-requires-clause-fits
leave_all-requires-clause-fits c =
    let parts = written_parts c.args.calls.now c.split_at.result.0.now c.split_at.result.1.now c.last_rest.result c.split_at.ensures.front c.split_at.ensures.back in
    omega (arith, parts, c.in_ok-at.ensures.size, ap length (take_rest c.args.pieces.now c.in_ok-at.at), length-drop c.in_ok-at.at c.args.pieces.now)

pub returns-clause-left : goal.returns-clause-left
returns-clause-left c =
    let early = c.split_at.result.0.now in
    let late = c.split_at.result.1.now in
    let a = c.args.area in
    let rest : IsAtRest (one_replay a (deeds c.args.pieces.now early) (at_rest c.args.start.now)) =
    subst (λ (l : List Call). IsAtRest (one_replay a (deeds c.args.pieces.now l) (at_rest c.args.start.now))) (sym c.split_at.ensures.front) (c.last_rest.ensures.rests c.args.pieces.now (at_rest c.args.start.now) refl) in
    let reads : c.replay.new.bytes.bytes ≡ (one_replay a (deeds c.args.pieces.now early) (at_rest c.args.start.now)).bytes = sym (c.in_ok-at.ensures.reads (at_rest c.args.start.now) (sym c.in_ok-bytes.ensures)) in
    let copied : c.in_ok-left.left.bytes ≡ c.replay.new.bytes.bytes = c.in_ok-left.ensures ∙ c.as_slice.ensures.bytes in
    let part : take (length c.args.pieces.now - c.in_ok-at.at) (drop c.in_ok-at.at c.args.pieces.now) ≡ drop (written early) c.args.pieces.now =
    take_rest c.args.pieces.now c.in_ok-at.at ∙ ap (λ (n : ℕ). drop n c.args.pieces.now) c.in_ok-at.ensures.size in
    if_ok c.from_vec.result _ _ c.from_vec.ensures.bytes (λ text is. subst (Left c.args.pick (one_replay a (deeds c.args.pieces.now c.args.calls.now) (at_rest c.args.start.now))) (sym (is ∙ c.into_vec.ensures.bytes))
    (left_whole a c.args.pick c.args.start.now c.args.calls.now c.args.pieces.now c.last_rest.result early late c.replay.new.bytes.bytes c.leave_all.new.bytes.bytes c.leave_all.new.left.bytes c.split_at.ensures.front c.split_at.ensures.back rest reads
    (λ none. omega (arith, none))
    (λ d first. subst (λ (l : List ℕ). Remains c.args.pick (one_replay a (deeds l late) d) c.leave_all.new.bytes.bytes c.leave_all.new.left.bytes) part
    (c.in_ok-leave_all.ensures d (subst (λ (l : List ℕ). Remains c.args.pick d c.replay.new.bytes.bytes l) (sym copied) first)))))
