use Rattle.std.proofs.Common.{◌≡◌, ℕ, List, ◌∷◌, ◌-◌, ◌≤◌, [], get_or, take, drop, length, sym, ap, ◌∙◌}
use Rattle.std.specs.BTreeMap.{get}
use Rattle.std.specs.List.{flat_map}
use Rattle.std.specs.Ordering.{nat_cmp}
use Rattle.journal_replay.specs.declared.span.Span.{Span}
use Rattle.journal_replay.specs.Lookups.{span_numbers, without}
use Rattle.journal_replay.proofs.LoopFacts.{head_is, without_on}
use Rattle.journal_replay.proofs.file_maps.remove_spans.Goals as goal

item : (xs : List Span) (x d : Span) → x ≡ get_or xs 0 d → 1 ≤ length xs → xs ≡ x ∷ take (length xs - 1) (drop 1 xs)
item xs x d e h = head_is d xs h ∙ ap (λ (y : Span). y ∷ take (length xs - 1) (drop 1 xs)) (sym e)

pub loop-left-preserved : goal.loop-left-preserved
loop-left-preserved c =
    without_on c.loop-left.left.now _ c.span-item.result (get nat_cmp c.loop-left.files) (get nat_cmp c.remove_span.new.files) (without (flat_map span_numbers c.args.spans.now) (get nat_cmp c.args.files.now))
    (item c.loop-left.left.now c.span-item.result _ c.span-item.is c.in-len1-up.len_at_least) c.loop-left.invariant c.remove_span.ensures
