use Rattle.std.proofs.Common.{◌≡◌, ◌++◌, drop}
use Rattle.std.specs.Prelude.{flat_map}
use Rattle.script_text.specs.Texts.{item_text}
use Rattle.script_text.proofs.reports.put_items.Given as goal

abbrev pub invariant-loop-item : goal.invariant-loop-item
invariant-loop-item l = l.out.items ++ flat_map item_text (drop l.item-index l.order) ≡ l.initial.out.items ++ flat_map item_text l.order
