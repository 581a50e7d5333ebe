use Rattle.std.proofs.Common.{sym, ◌∙◌, ap, ◌∷◌, arith}
use Rattle.std.specs.Str.Lines.{lines}
use Rattle.std.proofs.lemmas.Bool.Decides.{nat_tests}
use Rattle.script_text.proofs.WordFacts.{lines_cut, lines_one}
use Rattle.script_text.proofs.words.next_line.Goals as goal

pub returns-in-Some-clause-some : goal.returns-in-Some-clause-some
returns-in-Some-clause-some c =
    lines_cut c.args.text.now c.in-Some.line.now c.in-Some.rest.now c.in-Some.ensures.some ∙ ap (λ line. line ∷ lines c.in-Some.rest.now) (sym c.without_return.ensures)

pub returns-in-None-clause-some : goal.returns-in-None-clause-some
returns-in-None-clause-some c = lines_one c.args.text.now c.in-None.ensures.none (grind (arith, nat_tests))
