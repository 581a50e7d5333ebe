use Rattle.script_text.proofs.WordFacts.{utf8_test, no_utf8_test}
use Rattle.script_text.proofs.acts.is_text.Goals as goal

pub returns-in-Ok-clause-exact : goal.returns-in-Ok-clause-exact
returns-in-Ok-clause-exact c = utf8_test c.args.word.now c.in-Ok.ensures.cases.1

pub returns-in-Err-clause-exact : goal.returns-in-Err-clause-exact
returns-in-Err-clause-exact c = no_utf8_test c.args.word.now c.in-Err.ensures.cases.0
