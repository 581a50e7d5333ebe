use Rattle.std.proofs.Common.{sym, ◌∙◌, ap, List}
use Rattle.pk_values.specs.Schemas.{schema_fault}
use Rattle.pk_values.specs.declared.cells.Column.{Column}
use Rattle.journal_bytes.proofs.NoSchema.{no_schema}
use Rattle.journal_bytes.proofs.schema_readers.SchemaReaderFieldReader.read.Goals as goal

pub returns-in-Err-new-clause-none : goal.returns-in-Err-new-clause-none
returns-in-Err-new-clause-none c is =
    no_schema c.args.bytes.now c.in-Ok.after_count.now c.in-Ok-read_u8.after_keys.now c.in-Ok-read_times.left.now c.in-Ok.count c.in-Ok-read_u8.keys c.in-Ok-read_times.columns
    c.in-Ok.ensures.one c.in-Ok-read_u8.ensures.one c.in-Ok-read_times.ensures.one
    (λ none. let told = sym none ∙ ap (λ (cs : List Column). schema_fault cs c.in-Ok-read_u8.keys) (sym c.into_vec.ensures) ∙ c.in-Err-new.ensures.fault in cc)
