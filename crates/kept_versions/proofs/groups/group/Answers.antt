use Rattle.std.proofs.Common.{◌≡◌, ℕ, ◌++◌, ◌∙◌, ◌^◌, ◌<◌, ap, sym, subst, List, drop, slice_range, true, false, Option, IfNone, IfSome}
use Rattle.std.specs.List.{AllByRecursion}
use Rattle.journal_form.specs.declared.records.DeadRows.{DeadRows}
use Rattle.kept_versions.specs.Marking.{are_small, grouped}
use Rattle.kept_versions.proofs.GroupFacts.{all_push, next_group, not_small, row_numbers, still_small}
use Rattle.kept_versions.proofs.groups.group.Goals as goal

pub returns-in_default-clause-none : goal.returns-in_default-clause-none
returns-in_default-clause-none c =
    let dead = c.args.dead.now in
    let i = c.loop-i.i in
    let end = c.run_end-end.result in
    let small = subst (λ (told : Option (List ℕ)). IfNone told (are_small (slice_range dead i end) ≡ false)) c.in_default.is c.in_ok-rows.ensures.none in
    not_small dead i end c.run_end-end.ensures.end c.loop-i.invariant.small small

pub loop-i-preserved : goal.loop-i-preserved
loop-i-preserved c =
    let dead = c.args.dead.now in
    let i = c.loop-i.i in
    let end = c.run_end-end.result in
    let rows = subst (λ (told : Option (List ℕ)). IfSome told (λ rows. rows ≡ row_numbers (slice_range dead i end))) c.in-Some.is c.in_ok-rows.ensures.rows in
    let small = subst (λ (told : Option (List ℕ)). IfSome told (λ _. are_small (slice_range dead i end) ≡ true)) c.in-Some.is c.in_ok-rows.ensures.small in
    record {
      within = c.run_end-end.ensures.within;
      groups =
          ap (λ (cs : List DeadRows). cs ++ grouped (drop end dead)) c.in_ok-push.ensures.ok
          ∙ next_group dead i end c.loop-i.changed c.in-Some.rows c.loop-i-test.true c.run_end-end.ensures.end rows c.loop-i.invariant.groups;
      range = subst (λ (cs : List DeadRows). AllByRecursion (λ c. c.file < 2 ^ 64) cs) (sym c.in_ok-push.ensures.ok) (all_push (λ (c : DeadRows). c.file < 2 ^ 64) c.loop-i.changed _ c.loop-i.invariant.range c.loop-i-test.element_fits.fits);
      small = still_small dead i end c.run_end-end.ensures.end c.loop-i.invariant.small small;
    }
