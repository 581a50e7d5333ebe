use Rattle.journal_bytes.proofs.NoSchema.{no_default, no_flag, no_kind}
use Rattle.journal_bytes.proofs.schema_readers.ColumnReaderFieldReader.read.Goals as goal

pub returns-in-Err-read_kind-clause-none : goal.returns-in-Err-read_kind-clause-none
returns-in-Err-read_kind-clause-none c is = no_kind c.args.bytes.now c.in-Ok.after_name.now c.in-Ok.name c.in-Ok.ensures.one (c.in-Err-read_kind.ensures.none is)

pub returns-in-Err-read_flag-clause-none : goal.returns-in-Err-read_flag-clause-none
returns-in-Err-read_flag-clause-none c is = no_flag c.args.bytes.now c.in-Ok.after_name.now c.in-Ok-read_kind.after_kind.now c.in-Ok.name c.in-Ok-read_kind.kind c.in-Ok.ensures.one c.in-Ok-read_kind.ensures.one (c.in-Err-read_flag.ensures.none is)

pub returns-in-Err-read_default-clause-none : goal.returns-in-Err-read_default-clause-none
returns-in-Err-read_default-clause-none c is =
    no_default c.args.bytes.now c.in-Ok.after_name.now c.in-Ok-read_kind.after_kind.now c.in-Ok-read_flag.after_flag.now c.in-Ok.name c.in-Ok-read_kind.kind c.in-Ok-read_flag.nullable
    c.in-Ok.ensures.one c.in-Ok-read_kind.ensures.one c.in-Ok-read_flag.ensures.one (c.in-Err-read_default.ensures.none is)
