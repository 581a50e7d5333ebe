use Rattle.std.proofs.Common.{◌≡◌, ◌≤◌, nat_eq, ◌&&◌, true, false, List, length, get_or, set, sym, ◌∙◌, ap, subst, arith}
use Rattle.std.proofs.lemmas.List.{get_or_default, set-get_or}
use Rattle.dev_memory.specs.Disk.{stands_at}
use Rattle.dev_memory.specs.declared.call.File.{File}
use Rattle.dev_memory.proofs.Spoiling.{none_next, says, says_same, says_memory, too_short, not_there}
use Rattle.dev_memory.proofs.kept.change_file.Goals as goal

pub returns-then-is_standing-clause-changed : goal.returns-then-is_standing-clause-changed
returns-then-is_standing-clause-changed c =
    let i = c.loop-i.i in
    let first = c.index-files-i.result in
    let other = c.index-files-i-then-is_standing.result in
    let file = get_or c.loop-i.files i other in
    let same : file ≡ get_or c.loop-i.files i first = get_or_default c.loop-i.files i other first (omega arith) in
    let stands : (nat_eq file.number c.args.number && stands_at c.args.calls file) ≡ true = ap (λ (f : File). nat_eq f.number c.args.number && stands_at c.args.calls f) same ∙ sym c.is_standing.ensures ∙ c.if-is_standing.true in
    says c.change.result _ _ _ _ c.change.ensures.changed
    (λ changes. record {
      place = i;
      file = file;
      changed = c.change.new.file;
      there = omega arith;
      file_is = get_or_default c.loop-i.files i other file (omega arith) ∙ ap (λ (l : List File). get_or l i file) c.loop-i.invariant.same;
      stands = stands;
      first = c.loop-i.invariant.none;
      changes = changes;
      new_is = ap (λ (l : List File). set l i c.change.new.file) c.loop-i.invariant.same;
    })
    (λ short. too_short c.args.number c.args.calls c.args.at c.args.files.now i other (omega (arith, ap length c.loop-i.invariant.same))
    (ap (λ (l : List File). nat_eq (get_or l i other).number c.args.number && stands_at c.args.calls (get_or l i other)) (sym c.loop-i.invariant.same) ∙ stands)
    c.loop-i.invariant.none (subst (λ (l : List File). length (get_or l i other).bytes ≤ c.args.at) c.loop-i.invariant.same short))

pub returns-then-is_standing-clause-same : goal.returns-then-is_standing-clause-same
returns-then-is_standing-clause-same c = says_same c.change.result _ _ c.change.ensures.same
    (λ is. ap (set c.loop-i.files c.loop-i.i) is ∙ set-get_or c.loop-i.files c.loop-i.i c.index-files-i-then-is_standing.result ∙ c.loop-i.invariant.same)

pub returns-then-is_standing-clause-memory : goal.returns-then-is_standing-clause-memory
returns-then-is_standing-clause-memory c = says_memory c.change.result _ _ c.change.ensures.memory
    (λ is. ap (set c.loop-i.files c.loop-i.i) is ∙ set-get_or c.loop-i.files c.loop-i.i c.index-files-i-then-is_standing.result ∙ c.loop-i.invariant.same)

pub loop-i-preserved : goal.loop-i-preserved
loop-i-preserved c =
    let d = c.index-files-i.result in
    let test : (nat_eq (get_or c.args.files.now c.loop-i.i d).number c.args.number && stands_at c.args.calls (get_or c.args.files.now c.loop-i.i d)) ≡ false =
    ap (λ (l : List File). nat_eq (get_or l c.loop-i.i d).number c.args.number && stands_at c.args.calls (get_or l c.loop-i.i d)) (sym c.loop-i.invariant.same)
    ∙ sym c.is_standing.ensures ∙ c.if-is_standing.false in
    record {
      none = none_next c.args.number c.args.calls c.args.files.now c.loop-i.i d (omega arith) test c.loop-i.invariant.none;
      same = c.loop-i.invariant.same;
    }

pub returns-clause-changed : goal.returns-clause-changed
returns-clause-changed c = not_there c.args.number c.args.calls c.args.at c.args.files.now c.loop-i.i (omega (arith, ap length c.loop-i.invariant.same)) c.loop-i.invariant.none

pub returns-clause-same : goal.returns-clause-same
returns-clause-same c is = c.loop-i.invariant.same
