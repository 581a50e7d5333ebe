use Rattle.std.proofs.Common.{◌≡◌, sym, subst, ap, ◌∙◌, ◌∷◌, [], ◌++◌}
use Rattle.pk_model.specs.Runs.{written}
use Rattle.pk_model.specs.Merges.{Settles, KeepsOrder, StaysUpTo}
use Rattle.pk_model.proofs.MergeLaws as merge
use Rattle.pk_model.proofs.merges.settle.Goals as goal

pub returns-in-Delete-clause-acts : goal.returns-in-Delete-clause-acts
returns-in-Delete-clause-acts c =
    let e = c.take.ensures in
    subst (λ op. Settles c.args.schema.now c.args.given.now op (written c.args.done.now) (written c.take.new.self)) (sym c.in-Delete.is)
    (merge.delete-settles c.args.given.now c.in-Delete.key (written c.args.done.now) (written c.take.new.self) c.take.result e.found e.kept e.below c.args.schema.now)

pub returns-in-Delete-clause-in_order : goal.returns-in-Delete-clause-in_order
returns-in-Delete-clause-in_order c =
    let e = c.take.ensures in
    subst (λ op. KeepsOrder op (written c.args.done.now) (written c.take.new.self)) (sym c.in-Delete.is)
    (merge.delete-order c.args.given.now c.in-Delete.key (written c.args.done.now) (written c.take.new.self) c.take.result e.found e.kept e.below)

pub returns-in-Delete-clause-up_to : goal.returns-in-Delete-clause-up_to
returns-in-Delete-clause-up_to c =
    let e = c.take.ensures in
    subst (λ op. StaysUpTo op (written c.args.done.now) (written c.take.new.self)) (sym c.in-Delete.is)
    (merge.delete-up_to c.args.given.now c.in-Delete.key (written c.args.done.now) (written c.take.new.self) c.take.result e.found e.kept e.below)

pub returns-in_ok-key-in-Upsert-clause-acts : goal.returns-in_ok-key-in-Upsert-clause-acts
returns-in_ok-key-in-Upsert-clause-acts c =
    let e = c.take-old.ensures in
    let old = written c.args.done.now in
    let mid = written c.take-old.new.self in
    let new = written c.push.new.self in
    let put = c.in_ok-key-in-Upsert in
    merge.on-ok c.push.result (new ≡ mid ++ (put.key, put.row) ∷ []) (Settles c.args.schema.now c.args.given.now c.args.op old new)
    (λ pushed. subst (λ op. Settles c.args.schema.now c.args.given.now op old new) (sym c.in-Upsert.is)
    (merge.upsert-settles c.args.given.now c.in-Upsert.key old mid c.take-old.result e.found e.kept e.below c.args.schema.now c.in-Upsert.cells put.row new put.ensures.row
    (pushed ∙ ap (λ k. mid ++ (k, put.row) ∷ []) put.ensures.key)))
    c.push.ensures

pub returns-in_ok-key-in-Upsert-clause-in_order : goal.returns-in_ok-key-in-Upsert-clause-in_order
returns-in_ok-key-in-Upsert-clause-in_order c =
    let e = c.take-old.ensures in
    let old = written c.args.done.now in
    let mid = written c.take-old.new.self in
    let new = written c.push.new.self in
    let put = c.in_ok-key-in-Upsert in
    merge.on-ok c.push.result (new ≡ mid ++ (put.key, put.row) ∷ []) (KeepsOrder c.args.op old new)
    (λ pushed. subst (λ op. KeepsOrder op old new) (sym c.in-Upsert.is)
    (merge.upsert-order c.args.given.now c.in-Upsert.key old mid c.take-old.result e.found e.kept e.below c.args.schema.now c.in-Upsert.cells put.row new put.ensures.row
    (pushed ∙ ap (λ k. mid ++ (k, put.row) ∷ []) put.ensures.key)))
    c.push.ensures

pub returns-in_ok-key-in-Upsert-clause-up_to : goal.returns-in_ok-key-in-Upsert-clause-up_to
returns-in_ok-key-in-Upsert-clause-up_to c =
    let e = c.take-old.ensures in
    let old = written c.args.done.now in
    let mid = written c.take-old.new.self in
    let new = written c.push.new.self in
    let put = c.in_ok-key-in-Upsert in
    merge.on-ok c.push.result (new ≡ mid ++ (put.key, put.row) ∷ []) (StaysUpTo c.args.op old new)
    (λ pushed. subst (λ op. StaysUpTo op old new) (sym c.in-Upsert.is)
    (merge.upsert-up_to c.args.given.now c.in-Upsert.key old mid c.take-old.result e.found e.kept e.below c.args.schema.now c.in-Upsert.cells put.row new put.ensures.row
    (pushed ∙ ap (λ k. mid ++ (k, put.row) ∷ []) put.ensures.key)))
    c.push.ensures
