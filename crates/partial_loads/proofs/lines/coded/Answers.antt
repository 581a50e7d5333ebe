use Rattle.std.proofs.Common.{◌≡◌, ◌++◌, ◌∷◌, [], suc, subst, sym, arith}
use Rattle.std.specs.Prelude.{All}
use Rattle.pk_model.specs.Tables.{key_named}
use Rattle.partial_loads.specs.Lines.{IsCoded, IsShortKey, ops_of}
use Rattle.partial_loads.specs.declared.lines.Line.{Line}
use Rattle.partial_loads.proofs.LineFacts.{coded-more, ops-more}
use Rattle.partial_loads.proofs.lines.coded.Goals as goal

pub loop-op-preserved : goal.loop-op-preserved
loop-op-preserved c =
    let s = c.args.schema.now in
    let op = c.in-Some.op in
    let lines = c.loop-op.lines.items in
    let line : Line = record { code = c.in_ok-code.code; op = op } in
    let left = c.next.new.self.rest.items in
    let all : All (λ op. IsShortKey s (key_named op)) (op ∷ left) = subst (All (λ op. IsShortKey s (key_named op))) c.in-Some.ensures.steps.0 c.loop-op.invariant.rest in
    record {
      ops = subst (λ ls. ops_of ls ≡ c.loop-op.yielded ++ op ∷ []) (sym c.in_ok-push.ensures.items) (ops-more lines line c.loop-op.yielded c.loop-op.invariant.ops);
      coded =
          subst (All (IsCoded s)) (sym c.in_ok-push.ensures.items)
          (coded-more s lines c.in_ok-code.code op c.key.result.now c.loop-op.invariant.coded c.key.ensures (all 0 op (omega arith)) c.in_ok-code.ensures.code c.in_ok-code.ensures.order);
      rest = λ i d lt. all (suc i) d (omega arith);
    }
