use Rattle.std.proofs.Common.{◌≡◌, ◌∙◌, ℕ, sym, subst}
use Rattle.pk_values.specs.Schemas.{Layout}
use Rattle.journal_form.specs.declared.records.Record.TheVariants.{Create}
use Rattle.journal_bytes.specs.Records.{RecordFits, record_bytes}
use Rattle.core_recover.proofs.SchemaFacts.{first_fits, first_is_due}
use Rattle.core_recover.proofs.creating.first_of.Goals as goal

pub draft-requires-clause-fits : goal.draft-requires-clause-fits
draft-requires-clause-fits c =
    subst (λ (n : ℕ). RecordFits n (Create 1 c.in_ok-copy.field-0)) (sym c.new-journal.ensures.edits)
    (subst (λ (s : Layout). RecordFits 0 (Create 1 s)) (sym c.in_ok-copy.ensures)
    (first_fits c.args.schema c.keys-keys.ensures.valid (c.schema_columns.ensures.most_columns c.args.schema c.keys-keys.ensures.valid) (c.schema_columns.ensures.most_keys c.args.schema c.keys-keys.ensures.valid)
    (λ i x is. c.schema_columns.ensures.each c.args.schema i x c.keys-keys.ensures.valid is)))

pub returns-clause-due : goal.returns-clause-due
returns-clause-due c =
    first_is_due c.args.schema c.in_ok-draft.draft.body c.keys-keys.ensures.valid (c.schema_columns.ensures.most_columns c.args.schema c.keys-keys.ensures.valid) (c.schema_columns.ensures.most_keys c.args.schema c.keys-keys.ensures.valid)
    (λ i x is. c.schema_columns.ensures.each c.args.schema i x c.keys-keys.ensures.valid is) (c.in_ok-draft.ensures.body ∙ λ i. record_bytes (c.new-journal.ensures.edits i) (Create 1 (c.in_ok-copy.ensures i)))
