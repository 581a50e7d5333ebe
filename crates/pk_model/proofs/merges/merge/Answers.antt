use Rattle.std.proofs.Common.{◌≡◌, refl, ap, sym, subst, ◌∙◌, ◌++◌, ◌∷◌, [], length, T, false}
use Rattle.std.specs.FinMap.{entries}
use Rattle.std.specs.FinMap.Entries.{below_all, is_sorted}
use Rattle.std.proofs.lemmas.Option.{MatchOption-at_none}
use Rattle.pk_values.specs.Order.{key_cmp}
use Rattle.pk_model.specs.Tables.{act, after_lines, key_named}
use Rattle.pk_model.specs.Runs.{written, unread, are_up_to, begins_up_to}
use Rattle.pk_model.specs.Merges.{rise, await}
use Rattle.pk_model.proofs.RunLaws as run
use Rattle.pk_model.proofs.MergeLaws as merge
use Rattle.pk_model.proofs.merges.merge.Goals as goal

pub loop-op-init : goal.loop-op-init
loop-op-init c =
    let is : written c.in_ok-done.done ++ unread c.from_run-rest.result ≡ written c.args.table = λ i. c.in_ok-done.ensures i ++ c.from_run-rest.ensures i in
    record {
      merged = λ m e. (m, e ∙ sym is, ap (λ ops. after_lines c.args.schema.now c.args.given.now ops m) c.from-lines.ensures.0);
      in_order = subst (λ es. T (is_sorted key_cmp es)) (sym is) c.requires.in_order;
      lines_rise = subst (λ ops. T (rise ops)) (sym c.from-lines.ensures.0) c.requires.lines_rise;
      awaited = subst (λ es. T (await c.from-lines.result.items es)) (sym c.in_ok-done.ensures) (merge.await-none c.from-lines.result.items);
    }

pub loop-op-preserved : goal.loop-op-preserved
loop-op-preserved c =
    let s = c.args.schema.now in
    let given = c.args.given.now in
    let op = c.in-Some.op in
    let lines = c.pop_front.new.self.items in
    let split : c.loop-op.lines.items ≡ op ∷ lines = c.in-Some.ensures.items in
    let old_done = written c.loop-op.done in
    let moved_done = written c.advance.new.self in
    let moved_rest = unread c.advance.new.rest in
    let behind = subst (λ k. T (are_up_to k old_done) → T (are_up_to k moved_done)) c.key.ensures c.in_ok-advance.ensures.behind in
    let stops = subst (λ k. begins_up_to k moved_rest ≡ false) c.key.ensures c.in_ok-advance.ensures.stops in
    let above : T (is_sorted key_cmp (moved_done ++ moved_rest)) → T (below_all key_cmp (key_named op) moved_rest) = λ h. run.past (key_named op) moved_rest (run.sorted-tail moved_done moved_rest h) stops in
    let awaited = subst (λ ls. T (await ls old_done)) split c.loop-op.invariant.awaited in
    let rises = subst (λ ls. T (rise ls)) split c.loop-op.invariant.lines_rise in
    let acts = c.in_ok-settle.ensures.acts in
    let order = c.in_ok-settle.ensures.in_order in
    let up_to = c.in_ok-settle.ensures.up_to in
    let in_order = c.loop-op.invariant.in_order in
    let same = c.in_ok-advance.ensures.same in
    let old_rest = unread c.loop-op.rest in
    let new_done = written c.settle.new.done in
    record {
      merged = λ m e.
          let h = c.loop-op.invariant.merged m e in (
            act s given op h.0,
            merge.turn-acts s given op lines old_done old_rest moved_done moved_rest new_done same behind above acts order up_to in_order awaited rises h.0 h.1,
            ap (λ ls. after_lines s given ls h.0) (sym split) ∙ h.2,
          );
      in_order = merge.turn-order s given op lines old_done old_rest moved_done moved_rest new_done same behind above acts order up_to in_order awaited rises;
      lines_rise = merge.rise-next op lines rises;
      awaited = merge.turn-awaits s given op lines old_done old_rest moved_done moved_rest new_done same behind above acts order up_to in_order awaited rises;
    }

pub returns : goal.returns
returns c = λ m e.
    let h = c.loop-op.invariant.merged m e in
    let none : c.loop-op.lines.items ≡ [] = merge.no-items _ (sym c.loop-op.lines.ok.0 ∙ (MatchOption-at_none _ _ c.in_default.is c.pop_front.ensures.cases).0) in
    ap entries (sym h.2 ∙ ap (λ ls. after_lines c.args.schema.now c.args.given.now ls h.0) none) ∙ h.1 ∙ sym c.in_ok-append.ensures
