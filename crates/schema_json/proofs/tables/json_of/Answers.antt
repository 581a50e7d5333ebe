use Rattle.std.proofs.Common.{refl}
use Rattle.std.proofs.lemmas.Bool.{false≢true}
use Rattle.schema_json.proofs.TableLemmas.{no_value, value_read}
use Rattle.schema_json.proofs.tables.json_of.Goals as goal

pub returns-in-Ok-clause-ok : goal.returns-in-Ok-clause-ok
returns-in-Ok-clause-ok c = value_read c.args.bytes.now _ c.in-Ok.ensures.ok.0 c.in-Ok.ensures.ok.1

pub returns-else-is_memory-clause-not_json : goal.returns-else-is_memory-clause-not_json
returns-else-is_memory-clause-not_json c = λ other. (refl, no_value c.args.bytes.now (c.in-Err.ensures.err (λ m. false≢true (c.if-is_memory.ensures.1 m))))
