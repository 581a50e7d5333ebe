use Rattle.std.proofs.Common.{◌≡◌, ◌∙◌, sym, subst, true, false}
use Rattle.tablet_run.specs.Stores.{IsOfTable}
use Rattle.tablet_run.proofs.OpenLaws.{differs, found-fresh, found-kept, found-opened, found-table}
use Rattle.tablet_run.proofs.opening.open_tablet.Goals as goal

pub returns-then-is_same-clause-opened : goal.returns-then-is_same-clause-opened
returns-then-is_same-clause-opened g c =
    found-opened g.S.Store.view c.args.schema.now c.args.store c.in-Ok.state c.in-Ok.ensures.found (sym c.schema.ensures ∙ c.is_same.ensures.0 c.if-is_same.true)

pub returns-in-Ok-other-clause-refused : goal.returns-in-Ok-other-clause-refused
returns-in-Ok-other-clause-refused g c =
    let view = g.S.Store.view in
    let st = c.in-Ok.state in
    let found = c.in-Ok.ensures.found in
    let left = view c.into_store-left.result in
    let differ = differs st.contents.schema c.schema.result.now c.args.schema.now c.is_same.result c.schema.ensures c.is_same.ensures.1 c.if-is_same.false in
    let same = c.in-Ok-other.ensures ∙ c.schema-2.ensures in (
      found-kept view c.args.schema.now c.args.store st found left c.into_store-left.ensures.calm.honest differ c.into_store-left.ensures.stands,
      λ e. differ (sym same ∙ e),
      found-fresh view c.args.schema.now c.args.store st found left differ,
      subst (IsOfTable (view c.args.store)) (sym same) (found-table view c.args.schema.now c.args.store st found left),
    )

pub returns-in-Err-other-clause-refused : goal.returns-in-Err-other-clause-refused
returns-in-Err-other-clause-refused g c =
    let view = g.S.Store.view in
    let st = c.in-Ok.state in
    let differ = differs st.contents.schema c.schema.result.now c.args.schema.now c.is_same.result c.schema.ensures c.is_same.ensures.1 c.if-is_same.false in
    found-kept view c.args.schema.now c.args.store st c.in-Ok.ensures.found (view c.into_store-left.result) c.into_store-left.ensures.calm.honest differ c.into_store-left.ensures.stands
