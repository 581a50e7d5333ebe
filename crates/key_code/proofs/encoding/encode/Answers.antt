use Rattle.std.proofs.Common.{rules}
use Rattle.pk_values.specs.SchemaFacts.{keys_most}
use Rattle.key_code.proofs.KeyLemmas.{fits_codes, only_at, order_at}
use Rattle.key_code.proofs.Lengths.{kept_whole, short_at}
use Rattle.key_code.proofs.encoding.encode.Goals as goal

pub code_of-requires-clause-fits : goal.code_of-requires-clause-fits
code_of-requires-clause-fits c =
    fits_codes c.args.schema.now c.args.key.now _ _ _ c.keys.ensures.value c.columns.ensures.value (search rules) c.columns.ensures.valid c.requires

pub code_of-requires-clause-short : goal.code_of-requires-clause-short
code_of-requires-clause-short c =
    short_at c.args.schema.now c.args.key.now _ _ _ c.keys.ensures.value c.columns.ensures.value (search rules) c.columns.ensures.valid (keys_most c.args.schema.now.columns c.args.schema.now.keys c.columns.ensures.valid) c.requires

pub returns-in-Ok-clause-code : goal.returns-in-Ok-clause-code
returns-in-Ok-clause-code c =
    kept_whole c.args.schema.now c.args.key.now _ _ _ c.code_of.result c.in-Ok.code c.keys.ensures.value c.columns.ensures.value (search rules) c.code_of.ensures c.in-Ok.ensures.whole c.in-Ok.ensures.short

pub returns-in-Ok-clause-order : goal.returns-in-Ok-clause-order
returns-in-Ok-clause-order c = order_at c.args.schema.now c.args.key.now c.in-Ok.code (returns-in-Ok-clause-code c) c.columns.ensures.valid c.requires

pub returns-in-Ok-clause-only : goal.returns-in-Ok-clause-only
returns-in-Ok-clause-only c = only_at c.args.schema.now c.args.key.now c.in-Ok.code (returns-in-Ok-clause-code c) c.columns.ensures.valid c.requires
