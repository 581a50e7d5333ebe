use Rattle.script_text.specs.Scripts.{is_blank}
use Rattle.script_text.proofs.WordFacts.{cut_at}
use Rattle.script_text.proofs.words.cut_word.Goals as goal

pub returns-in-Some-clause-some : goal.returns-in-Some-clause-some
returns-in-Some-clause-some c = cut_at is_blank c.args.line.now c.in-Some.at c.in-Some.ensures.within c.in-Some.ensures.blank c.in-Some.ensures.front
