use Rattle.key_code.proofs.KeyLemmas.{key_found, key_only, no_key}
use Rattle.key_code.proofs.decoding.decode.Goals as goal

pub returns-in-Ok-Some-clause-key : goal.returns-in-Ok-Some-clause-key
returns-in-Ok-Some-clause-key c =
    key_found c.args.schema.now c.args.bytes.now _ _ c.in-Ok-Some.cells.items c.keys.ensures.value c.columns.ensures.value (rw c.in-Ok-Some.field-0-is at c.in-Ok-Some.ensures.found)

pub returns-in-Ok-Some-clause-only : goal.returns-in-Ok-Some-clause-only
returns-in-Ok-Some-clause-only c = key_only c.args.schema.now c.args.bytes.now c.in-Ok-Some.cells.items c.columns.ensures.valid (returns-in-Ok-Some-clause-key c)

pub returns-in-Ok-Some-clause-no_key : goal.returns-in-Ok-Some-clause-no_key
returns-in-Ok-Some-clause-no_key c none = let k = returns-in-Ok-Some-clause-key c in absurd (none c.in-Ok-Some.cells.items k.0 k.1)

pub returns-in-Ok-None-clause-not_a_key : goal.returns-in-Ok-None-clause-not_a_key
returns-in-Ok-None-clause-not_a_key c _ =
    no_key c.args.schema.now c.args.bytes.now _ _ c.keys.ensures.value c.columns.ensures.value c.columns.ensures.valid (rw c.in-Ok-None.field-0-is at c.in-Ok-None.ensures.none)
