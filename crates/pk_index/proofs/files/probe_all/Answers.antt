use Rattle.std.proofs.Common.{refl, subst, sym, ◌∙◌, ◌<◌, None, Option, arith, get_or, length}
use Rattle.pk_index.proofs.CauseFacts.{fails_once, none_fails, none_have, told_same}
use Rattle.pk_index.proofs.IndexFacts.{found_there, missed_there, none_left}
use Rattle.pk_index.proofs.ReadFacts.{counted_all, counted_on, counted_once, uncounted_on}
use Rattle.index_level0.specs.Levels.{Entry}
use Rattle.pk_index.specs.Files.{FirstDamaged}
use Rattle.pk_index.proofs.SameFacts.{first_damaged, none_damaged, of_damage, stay_on, stay_themselves, still_levels}
use Rattle.pk_index.proofs.ToldFacts.{found_first, missed_first, none_first, none_of, rest_on}
use Rattle.pk_index.proofs.files.probe_all.Goals as goal

pub loop-i-init : goal.loop-i-init
loop-i-init g c = record {
  same = stay_themselves g.F.FileLevel.has_level g.F.FileLevel.has_entry g.F.FileLevel.reads_as g.F.FileLevel.damaged_at g.F.FileLevel.damaged c.args.files.now;
  counted = tt;
  uncounted = refl;
  named = refl;
  calm = refl;
  rest = refl;
  told = λ entry has. has;
  hurt = λ shown has. has;
  none = λ ls have. refl;
}

pub returns-then-is_some-clause-told : goal.returns-then-is_some-clause-told
returns-then-is_some-clause-told g c =
    let less : c.loop-i.i < length c.loop-i.files = omega arith in
    found_first (λ f. g.F.FileLevel.has_entry f c.args.key.now) c.args.files.now c.loop-i.files c.loop-i.i c.index-files-i.result c.in-Ok.found less
    c.loop-i.invariant.rest c.loop-i.invariant.told c.in-Ok.ensures.told (sym c.if-is_some.ensures)

pub returns-clause-told : goal.returns-clause-told
returns-clause-told g c = none_first (λ f. g.F.FileLevel.has_entry f c.args.key.now) c.args.files.now c.loop-i.i c.loop-i-test.false c.loop-i.invariant.told

pub returns-in-Err-clause-same : goal.returns-in-Err-clause-same
returns-in-Err-clause-same g c =
    stay_on g.F.FileLevel.has_level g.F.FileLevel.has_entry g.F.FileLevel.reads_as g.F.FileLevel.damaged_at g.F.FileLevel.damaged c.args.files.now c.loop-i.files c.loop-i.i c.index-files-i.result c.probe.new.self c.probe.ensures.same c.loop-i.invariant.same

pub returns-then-is_some-clause-entry : goal.returns-then-is_some-clause-entry
returns-then-is_some-clause-entry g c ls have =
    let less : c.loop-i.i < length c.loop-i.files = omega arith in
    found_there g.F.FileLevel.has_level c.loop-i.files c.loop-i.i c.index-files-i.result c.args.key.now c.in-Ok.found less ls
    (still_levels g.F.FileLevel.has_level g.F.FileLevel.has_entry g.F.FileLevel.reads_as g.F.FileLevel.damaged_at g.F.FileLevel.damaged c.args.files.now c.loop-i.files ls c.loop-i.invariant.same have) (c.loop-i.invariant.none ls have) c.in-Ok.ensures.entry (sym c.if-is_some.ensures)

pub returns-then-is_some-clause-same : goal.returns-then-is_some-clause-same
returns-then-is_some-clause-same g c =
    stay_on g.F.FileLevel.has_level g.F.FileLevel.has_entry g.F.FileLevel.reads_as g.F.FileLevel.damaged_at g.F.FileLevel.damaged c.args.files.now c.loop-i.files c.loop-i.i c.index-files-i.result c.probe.new.self c.probe.ensures.same c.loop-i.invariant.same

pub loop-i-preserved : goal.loop-i-preserved
loop-i-preserved g c =
    let less : c.loop-i.i < length c.loop-i.files = omega arith in
    record {
      same = stay_on g.F.FileLevel.has_level g.F.FileLevel.has_entry g.F.FileLevel.reads_as g.F.FileLevel.damaged_at g.F.FileLevel.damaged c.args.files.now c.loop-i.files c.loop-i.i c.index-files-i.result c.probe.new.self c.probe.ensures.same c.loop-i.invariant.same;
      counted = counted_on g.F.FileLevel.reads c.args.files.now c.loop-i.files c.loop-i.i c.index-files-i.result c.probe.new.self less c.probe.ensures.reads c.loop-i.invariant.counted c.loop-i.invariant.uncounted;
      uncounted = uncounted_on g.F.FileLevel.reads c.args.files.now c.loop-i.files c.loop-i.i c.index-files-i.result c.probe.new.self less c.probe.ensures.reads c.loop-i.invariant.counted c.loop-i.invariant.uncounted;
      named = told_same g.F.FileLevel.named c.args.files.now c.loop-i.files c.loop-i.i c.index-files-i.result c.probe.new.self c.probe.ensures.named c.loop-i.invariant.named;
      calm = told_same g.F.FileLevel.faults c.args.files.now c.loop-i.files c.loop-i.i c.index-files-i.result c.probe.new.self (c.in-Ok.ensures.cause.well (λ e. cc)) c.loop-i.invariant.calm;
      rest = rest_on c.args.files.now c.loop-i.files c.loop-i.i c.probe.new.self c.loop-i.invariant.rest;
      told =
          missed_first (λ f. g.F.FileLevel.has_entry f c.args.key.now) c.args.files.now c.loop-i.files c.loop-i.i c.index-files-i.result c.in-Ok.found less
          c.loop-i.invariant.rest c.loop-i.invariant.told c.in-Ok.ensures.told (sym c.if-is_some.ensures);
      hurt = λ shown.
          none_damaged (λ f. g.F.FileLevel.has_entry f c.args.key.now None) (λ f. g.F.FileLevel.damaged_at f c.args.key.now shown) c.args.files.now c.loop-i.files c.loop-i.i c.index-files-i.result less
          c.loop-i.invariant.rest (c.loop-i.invariant.hurt shown) (subst (λ (found : Option Entry). g.F.FileLevel.has_entry (get_or c.loop-i.files c.loop-i.i c.index-files-i.result) c.args.key.now found) (none_of c.in-Ok.found (sym c.if-is_some.ensures)) c.in-Ok.ensures.told);
      none = λ ls have.
          missed_there g.F.FileLevel.has_level c.loop-i.files c.loop-i.i c.index-files-i.result c.args.key.now c.in-Ok.found less ls
          (still_levels g.F.FileLevel.has_level g.F.FileLevel.has_entry g.F.FileLevel.reads_as g.F.FileLevel.damaged_at g.F.FileLevel.damaged c.args.files.now c.loop-i.files ls c.loop-i.invariant.same have) (c.loop-i.invariant.none ls have) c.in-Ok.ensures.entry (sym c.if-is_some.ensures);
    }

pub returns-clause-entry : goal.returns-clause-entry
returns-clause-entry g c ls have =
    sym (none_left g.F.FileLevel.has_level c.args.files.now ls c.loop-i.i c.args.key.now have c.loop-i-test.false) ∙ c.loop-i.invariant.none ls have

pub returns-in-Err-clause-reads : goal.returns-in-Err-clause-reads
returns-in-Err-clause-reads g c =
    let less : c.loop-i.i < length c.loop-i.files = omega arith in
    counted_once g.F.FileLevel.reads c.args.files.now c.loop-i.files c.loop-i.i c.index-files-i.result c.probe.new.self less c.probe.ensures.reads c.loop-i.invariant.counted c.loop-i.invariant.uncounted

pub returns-then-is_some-clause-reads : goal.returns-then-is_some-clause-reads
returns-then-is_some-clause-reads g c =
    let less : c.loop-i.i < length c.loop-i.files = omega arith in
    counted_once g.F.FileLevel.reads c.args.files.now c.loop-i.files c.loop-i.i c.index-files-i.result c.probe.new.self less c.probe.ensures.reads c.loop-i.invariant.counted c.loop-i.invariant.uncounted

pub returns-clause-reads : goal.returns-clause-reads
returns-clause-reads g c = counted_all g.F.FileLevel.reads c.args.files.now c.loop-i.files c.loop-i.i c.loop-i.invariant.counted c.loop-i.invariant.uncounted

pub returns-in-Err-clause-named : goal.returns-in-Err-clause-named
returns-in-Err-clause-named g c = told_same g.F.FileLevel.named c.args.files.now c.loop-i.files c.loop-i.i c.index-files-i.result c.probe.new.self c.probe.ensures.named c.loop-i.invariant.named

pub returns-in-Err-clause-cause : goal.returns-in-Err-clause-cause
returns-in-Err-clause-cause g c =
    let less : c.loop-i.i < length c.loop-i.files = omega arith in
    fails_once g.F.FileLevel.faults c.args.files.now c.loop-i.files c.loop-i.i c.index-files-i.result c.probe.new.self c.in-Err.fault less c.in-Err.ensures.cause c.loop-i.invariant.calm

pub returns-in-Err-clause-intact : goal.returns-in-Err-clause-intact
returns-in-Err-clause-intact g c damaged ls have =
    let less : c.loop-i.i < length c.loop-i.files = omega arith in
    none_have g.F.FileLevel.has_level c.loop-i.files c.loop-i.i c.index-files-i.result c.in-Err.fault ls less c.in-Err.ensures.intact damaged (still_levels g.F.FileLevel.has_level g.F.FileLevel.has_entry g.F.FileLevel.reads_as g.F.FileLevel.damaged_at g.F.FileLevel.damaged c.args.files.now c.loop-i.files ls c.loop-i.invariant.same have)

pub returns-then-is_some-clause-named : goal.returns-then-is_some-clause-named
returns-then-is_some-clause-named g c = told_same g.F.FileLevel.named c.args.files.now c.loop-i.files c.loop-i.i c.index-files-i.result c.probe.new.self c.probe.ensures.named c.loop-i.invariant.named

pub returns-then-is_some-clause-cause : goal.returns-then-is_some-clause-cause
returns-then-is_some-clause-cause g c = none_fails g.F.FileLevel.faults c.args.files.now c.loop-i.files c.loop-i.i c.index-files-i.result c.probe.new.self c.in-Ok.found (c.in-Ok.ensures.cause.well (λ e. cc)) c.loop-i.invariant.calm

pub returns-in-Err-clause-damaged : goal.returns-in-Err-clause-damaged
returns-in-Err-clause-damaged g c =
    let less : c.loop-i.i < length c.loop-i.files = omega arith in
    of_damage c.in-Err.fault (g.F.FileLevel.damaged_at (get_or c.loop-i.files c.loop-i.i c.index-files-i.result) c.args.key.now) (λ shown. FirstDamaged (λ f. g.F.FileLevel.has_entry f c.args.key.now None) (λ f. g.F.FileLevel.damaged_at f c.args.key.now shown) c.args.files.now)
    (λ shown is. first_damaged (λ f. g.F.FileLevel.has_entry f c.args.key.now None) (λ f. g.F.FileLevel.damaged_at f c.args.key.now shown) c.args.files.now c.loop-i.files c.loop-i.i c.index-files-i.result less c.loop-i.invariant.rest (c.loop-i.invariant.hurt shown) is)
    c.in-Err.ensures.damaged
