use Rattle.std.proofs.Common.{sym, ◌∙◌, arith}
use Rattle.std.proofs.lemmas.Bool.Decides.{nat_tests}
use Rattle.script_text.proofs.WordFacts.{words_cut, words_one}
use Rattle.script_text.proofs.words.next_word.Goals as goal

pub returns-in-Some-clause-some : goal.returns-in-Some-clause-some
returns-in-Some-clause-some c =
    sym c.without_blanks-line.ensures.words ∙ words_cut c.without_blanks-line.result.now c.in-Some.word.now c.in-Some.rest.now c.in-Some.ensures.some c.without_blanks-line.ensures.begins

pub returns-in-None-clause-some : goal.returns-in-None-clause-some
returns-in-None-clause-some c = sym c.without_blanks-line.ensures.words ∙ words_one c.without_blanks-line.result.now c.in-None.ensures.none (grind (arith, nat_tests))
