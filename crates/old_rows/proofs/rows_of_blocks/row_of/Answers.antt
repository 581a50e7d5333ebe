use Rattle.std.proofs.Common.{sym, ◌∙◌, arith}
use Rattle.old_rows.proofs.TakeFacts.{at-index, is-missing, is-taken}
use Rattle.old_rows.proofs.rows_of_blocks.row_of.Goals as goal

pub returns-then-not-has_key-clause-missing : goal.returns-then-not-has_key-clause-missing
returns-then-not-has_key-clause-missing c =
    is-missing c.args.schema.now c.args.rows.now c.args.dead.now c.args.row c.args.key.now c.astray-then-not-has_key.result c.astray-then-not-has_key.ensures _ (at-index c.args.rows.now _ c.index-rows-place.result (omega arith) c.index-rows-place.is)
    (sym c.has_key.ensures ∙ c.if-not-has_key.true)

pub returns-clause-taken : goal.returns-clause-taken
returns-clause-taken c =
    is-taken c.args.schema.now c.args.rows.now c.args.dead.now c.args.row c.args.key.now c.index-rows-place.result c.in_ok-copy.field-0 c.requires (at-index c.args.rows.now _ c.index-rows-place.result (omega arith) c.index-rows-place.is)
    (sym c.contains.ensures.contains ∙ c.if-contains.false) (sym c.has_key.ensures ∙ c.if-not-has_key.false) c.in_ok-copy.ensures
