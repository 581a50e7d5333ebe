use Rattle.std.proofs.Common.{refl, ◌∙◌}
use Rattle.std.specs.BTreeMap.{get}
use Rattle.std.specs.Ordering.{nat_cmp}
use Rattle.journal_replay.proofs.StepFacts.{lookup_made, rowsets_made}
use Rattle.journal_replay.proofs.replay.Replay.compact.Goals as goal

pub returns-clause-made : goal.returns-clause-made
returns-clause-made c so = record {
  floor = refl;
  current = refl;
  next_file = c.next_after-self.ensures.next ∙ c.span_of-span.ensures.above;
  rowsets = rowsets_made c.args.replaced c.args.files.now c.args.self.now c.span_of-span.result _ c.deref.result.now c.in_ok-rowsets.rowsets.items c.deref.ensures.value c.split_at.ensures.back c.in_ok-rowsets.ensures c.span_of-span.ensures.span;
  lookup = lookup_made c.args.replaced c.args.files.now c.args.changed.now c.args.self.now _ c.deref.result.now (get nat_cmp c.remove_spans.new.files) (get nat_cmp c.add_files.new.files) (get nat_cmp c.mark_all.new.files)
      c.deref.ensures.value c.split_at.ensures.front c.remove_spans.ensures c.in_ok-add_files.ensures (c.in_ok-mark_all.ensures.marked c.if-not-branch.false);
}
