use Rattle.std.proofs.Common.{◌≡◌, ℕ, ◌+◌, ◌*◌, ◌<◌, ◌≤◌, [], ◌∷◌, ◌++◌, List, length, sym, ap, ◌∙◌, subst, take, arith}
use Rattle.std.specs.List.{concat}
use Rattle.column_page.specs.Page.{Cell, distinct_after}
use Rattle.column_page.specs.Texts.{lent, Knows}
use Rattle.column_page.proofs.TextFacts.{length-lent, lent_more}
use Rattle.column_page.proofs.WordFacts.{dictionary_long}
use Rattle.column_page.proofs.words.words_within.Goals as goal

pub loop-cell-preserved : goal.loop-cell-preserved
loop-cell-preserved c =
    let xs = c.args.cells.now in
    let i = c.loop-cell.cell-index in
    let added = c.in_ok-add.ensures in
    let grown = added.grows in
    record {
      few = omega (arith, grown, c.loop-cell.invariant.few);
      known = subst (λ (cells : List Cell). Knows c.add.new.self.words.keys c.add.new.self.places.items c.add.new.self.len cells) (sym (lent_more xs i _ c.loop-cell-test.true)) (added.knows _ c.loop-cell.invariant.known);
    }

pub returns-then-words-saturating_sub-clause-none : goal.returns-then-words-saturating_sub-clause-none
returns-then-words-saturating_sub-clause-none c =
    let xs = c.args.cells.now in
    let i = c.loop-cell.cell-index in
    let knows = c.in_ok-add.ensures.knows _ c.loop-cell.invariant.known in
    let next = subst (λ (cells : List Cell). Knows c.add.new.self.words.keys c.add.new.self.places.items c.add.new.self.len cells) (sym (lent_more xs i _ c.loop-cell-test.true)) knows in
    let within : c.add.new.self.len ≤ length (concat (distinct_after [] (take (i + 1) (lent xs)))) = next.within in
    dictionary_long (lent xs) (i + 1) c.args.most (omega (arith, within, length-lent xs))
