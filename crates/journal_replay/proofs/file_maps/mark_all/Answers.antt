use Rattle.std.proofs.Common.{◌≡◌, ℕ, List, ◌∷◌, ◌-◌, ◌≤◌, [], get_or, take, drop, length, sym, ap, ◌∙◌}
use Rattle.std.specs.BTreeMap.{get}
use Rattle.std.specs.Ordering.{nat_cmp}
use Rattle.journal_form.specs.declared.records.DeadRows.{DeadRows}
use Rattle.journal_replay.specs.Lookups.{least_after}
use Rattle.journal_replay.proofs.LoopFacts.{head_is, marks_on, takes_on}
use Rattle.journal_replay.proofs.file_maps.mark_all.Goals as goal

item : (xs : List DeadRows) (x d : DeadRows) → x ≡ get_or xs 0 d → 1 ≤ length xs → xs ≡ x ∷ take (length xs - 1) (drop 1 xs)
item xs x d e h = head_is d xs h ∙ ap (λ (y : DeadRows). y ∷ take (length xs - 1) (drop 1 xs)) (sym e)

pub loop-left-preserved : goal.loop-left-preserved
loop-left-preserved c =
    let split = item c.loop-left.left.now c.change-item.result _ c.change-item.is c.in-len1-up.len_at_least in
    let marked = c.in_ok-mark_file.ensures.marked c.if-not-branch.false in (
      takes_on c.loop-left.left.now _ c.change-item.result (get nat_cmp c.loop-left.files) (get nat_cmp c.mark_file.new.files) (least_after c.loop-left.last) _ split
          (sym c.is_behind.ensures ∙ c.if-not-is_behind.false) (sym c.in_ok-mark_file.ensures.fits ∙ c.if-not-branch.false) marked c.loop-left.invariant.0,
      marks_on c.loop-left.left.now _ c.change-item.result (get nat_cmp c.loop-left.files) (get nat_cmp c.mark_file.new.files) (get nat_cmp c.args.files.now) c.args.changed.now split marked c.loop-left.invariant.1,
    )
