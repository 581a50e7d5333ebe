use Rattle.std.proofs.Common.{◌∙◌, ◌++◌, ◌∷◌, [], ◌<◌, ℕ, ap, arith, get_or, length, refl, subst, take}
use Rattle.std.proofs.lemmas.List.{drop-set-lt}
use Rattle.std.specs.FinMap.{entries, from_sorted}
use Rattle.index_levels.specs.Levels.{over}
use Rattle.pk_index.proofs.CauseFacts.{calm_fault, fails_once, none_have, told_same}
use Rattle.pk_index.specs.Files.{OneDamaged}
use Rattle.pk_index.proofs.SameFacts.{of_damage, one_damaged, stay_on, stay_themselves, still_levels}
use Rattle.pk_index.specs.Shown.{HaveLevels}
use Rattle.pk_index.proofs.MergeFacts.{Pairs}
use Rattle.pk_index.proofs.MergedFacts.{merged_alone, merges_more, merges_on, risen}
use Rattle.pk_index.proofs.ToldFacts.{levels_on, rest_on}
use Rattle.pk_index.proofs.files.merge_newest.Goals as goal

pub loop-i-init : goal.loop-i-init
loop-i-init g c =
    record {
      same = stay_themselves g.F.FileLevel.has_level g.F.FileLevel.has_entry g.F.FileLevel.reads_as g.F.FileLevel.damaged_at g.F.FileLevel.damaged c.args.files.now;
      so_far = λ ls have. c.in_ok-all.ensures ∙ merged_alone c.args.level0.now.level;
      rest = refl;
      listed = ([], tt, c.in_ok-all.ensures ∙ merged_alone c.args.level0.now.level);
      older = refl;
      named = refl;
      calm = refl;
      rise = risen c.in_ok-all.all.items c.args.level0.now.level c.in_ok-all.ensures;
    }

pub returns-in-Err-clause-same : goal.returns-in-Err-clause-same
returns-in-Err-clause-same g c =
    stay_on g.F.FileLevel.has_level g.F.FileLevel.has_entry g.F.FileLevel.reads_as g.F.FileLevel.damaged_at g.F.FileLevel.damaged c.args.files.now c.loop-i.files c.loop-i.i c.index-files-i.result c.entries-in-loop-i.new.self c.entries-in-loop-i.ensures.same c.loop-i.invariant.same

pub returns-in-Err-merge-clause-same : goal.returns-in-Err-merge-clause-same
returns-in-Err-merge-clause-same g c =
    stay_on g.F.FileLevel.has_level g.F.FileLevel.has_entry g.F.FileLevel.reads_as g.F.FileLevel.damaged_at g.F.FileLevel.damaged c.args.files.now c.loop-i.files c.loop-i.i c.index-files-i.result c.entries-in-loop-i.new.self c.entries-in-loop-i.ensures.same c.loop-i.invariant.same

pub loop-i-preserved : goal.loop-i-preserved
loop-i-preserved g c =
    let less : c.loop-i.i < length c.loop-i.files = omega arith in
    record {
      same = stay_on g.F.FileLevel.has_level g.F.FileLevel.has_entry g.F.FileLevel.reads_as g.F.FileLevel.damaged_at g.F.FileLevel.damaged c.args.files.now c.loop-i.files c.loop-i.i c.index-files-i.result c.entries-in-loop-i.new.self c.entries-in-loop-i.ensures.same c.loop-i.invariant.same;
      so_far = λ ls have.
          merges_on g.F.FileLevel.has_level c.args.level0.now.level c.loop-i.files ls c.loop-i.i c.index-files-i.result
          c.deref.result.now c.deref-in-loop-i.result.now c.in-Ok-merge.both.items less (still_levels g.F.FileLevel.has_level g.F.FileLevel.has_entry g.F.FileLevel.reads_as g.F.FileLevel.damaged_at g.F.FileLevel.damaged c.args.files.now c.loop-i.files ls c.loop-i.invariant.same have)
          (c.deref.ensures.value ∙ c.loop-i.invariant.so_far ls have) (λ level is. c.deref-in-loop-i.ensures.value ∙ c.in-Ok.ensures.entries level is) c.in-Ok-merge.ensures;
      rest = rest_on c.args.files.now c.loop-i.files c.loop-i.i c.entries-in-loop-i.new.self c.loop-i.invariant.rest;
      listed =
          let before = c.loop-i.invariant.listed in
          let older = c.in-Ok.older.items in (
            before.0 ++ from_sorted older ∷ [],
            levels_on g.F.FileLevel.reads_as c.args.files.now c.loop-i.files c.loop-i.i c.index-files-i.result before.0 (from_sorted older) less (omega (arith, c.requires, c.loop-i-test.true))
                c.loop-i.invariant.rest before.1 c.in-Ok.ensures.listed,
            merges_more c.args.level0.now.level before.0 c.deref.result.now older c.in-Ok-merge.both.items c.in-Ok.ensures.rise (c.deref.ensures.value ∙ before.2)
                (c.in-Ok-merge.ensures ∙ ap (λ (es : Pairs). entries (over c.deref.result.now (from_sorted es))) c.deref-in-loop-i.ensures.value),
          );
      older = drop-set-lt c.args.count c.loop-i.files c.loop-i.i c.entries-in-loop-i.new.self (omega arith) ∙ c.loop-i.invariant.older;
      named = told_same g.F.FileLevel.named c.args.files.now c.loop-i.files c.loop-i.i c.index-files-i.result c.entries-in-loop-i.new.self c.entries-in-loop-i.ensures.named c.loop-i.invariant.named;
      calm = told_same g.F.FileLevel.faults c.args.files.now c.loop-i.files c.loop-i.i c.index-files-i.result c.entries-in-loop-i.new.self (c.in-Ok.ensures.cause.well (λ e. cc)) c.loop-i.invariant.calm;
      rise = risen c.in-Ok-merge.both.items (over c.deref.result.now (from_sorted c.deref-in-loop-i.result.now)) c.in-Ok-merge.ensures;
    }

pub returns-in-Err-clause-named : goal.returns-in-Err-clause-named
returns-in-Err-clause-named g c = told_same g.F.FileLevel.named c.args.files.now c.loop-i.files c.loop-i.i c.index-files-i.result c.entries-in-loop-i.new.self c.entries-in-loop-i.ensures.named c.loop-i.invariant.named

pub returns-in-Err-clause-cause : goal.returns-in-Err-clause-cause
returns-in-Err-clause-cause g c =
    let less : c.loop-i.i < length c.loop-i.files = omega arith in
    fails_once g.F.FileLevel.faults c.args.files.now c.loop-i.files c.loop-i.i c.index-files-i.result c.entries-in-loop-i.new.self c.in-Err.fault less c.in-Err.ensures.cause c.loop-i.invariant.calm

pub returns-in-Err-clause-intact : goal.returns-in-Err-clause-intact
returns-in-Err-clause-intact g c damaged ls have =
    let less : c.loop-i.i < length c.loop-i.files = omega arith in
    none_have g.F.FileLevel.has_level c.loop-i.files c.loop-i.i c.index-files-i.result c.in-Err.fault ls less c.in-Err.ensures.intact damaged (still_levels g.F.FileLevel.has_level g.F.FileLevel.has_entry g.F.FileLevel.reads_as g.F.FileLevel.damaged_at g.F.FileLevel.damaged c.args.files.now c.loop-i.files ls c.loop-i.invariant.same have)

pub returns-in-Err-merge-clause-named : goal.returns-in-Err-merge-clause-named
returns-in-Err-merge-clause-named g c = told_same g.F.FileLevel.named c.args.files.now c.loop-i.files c.loop-i.i c.index-files-i.result c.entries-in-loop-i.new.self c.entries-in-loop-i.ensures.named c.loop-i.invariant.named

pub returns-in-Err-merge-clause-cause : goal.returns-in-Err-merge-clause-cause
returns-in-Err-merge-clause-cause g c = calm_fault g.F.FileLevel.faults c.args.files.now c.loop-i.files c.loop-i.i c.index-files-i.result c.entries-in-loop-i.new.self (c.in-Ok.ensures.cause.well (λ e. cc)) c.loop-i.invariant.calm

pub returns-clause-listed : goal.returns-clause-listed
returns-clause-listed g c =
    let told = c.loop-i.invariant.listed in
    (told.0, subst (λ (n : ℕ). HaveLevels g.F.FileLevel.reads_as (take n c.args.files.now) told.0) (omega (arith, c.loop-i-test.false, c.loop-i.auto.i-end)) told.1, told.2)

pub returns-in-Err-clause-damaged : goal.returns-in-Err-clause-damaged
returns-in-Err-clause-damaged g c =
    let less : c.loop-i.i < length c.loop-i.files = omega arith in
    of_damage c.in-Err.fault (g.F.FileLevel.damaged (get_or c.loop-i.files c.loop-i.i c.index-files-i.result)) (λ shown. OneDamaged (λ f. g.F.FileLevel.damaged f shown) (take c.args.count c.args.files.now))
    (λ shown is. one_damaged (λ f. g.F.FileLevel.damaged f shown) c.args.files.now c.loop-i.files c.loop-i.i c.args.count c.index-files-i.result less (omega (arith, c.requires, c.loop-i-test.true)) c.loop-i-test.true c.loop-i.invariant.rest is)
    c.in-Err.ensures.damaged

pub returns-in_err-all-clause-same : goal.returns-in_err-all-clause-same
returns-in_err-all-clause-same g c = stay_themselves g.F.FileLevel.has_level g.F.FileLevel.has_entry g.F.FileLevel.reads_as g.F.FileLevel.damaged_at g.F.FileLevel.damaged c.args.files.now
