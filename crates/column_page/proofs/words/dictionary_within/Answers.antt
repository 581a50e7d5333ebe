use Rattle.std.proofs.Common.{ap, length, arith, sym, ◌∙◌}
use Rattle.column_page.specs.Texts.{lent}
use Rattle.column_page.proofs.TextFacts.{length-lent}
use Rattle.column_page.proofs.WordFacts.{words_few}
use Rattle.column_page.proofs.words.dictionary_within.Goals as goal

pub dictionary_page-requires : goal.dictionary_page-requires
dictionary_page-requires c =
    let knows = rw c.in-Some.is at c.in_ok-words.ensures.some in
    omega (arith, words_few (lent c.args.cells.now), length-lent c.args.cells.now, ap length knows.words, length-lent c.in-Some.words.words.keys, c.requires)
