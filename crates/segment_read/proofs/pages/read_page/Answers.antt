use Rattle.std.proofs.Common.{sym, ap, ◌∙◌}
use Rattle.std.proofs.lemmas.Bool.{true≢false}
use Rattle.std.proofs.lemmas.Result.{err_from_is_err_and}
use Rattle.column_page.specs.Footers.{mark_of}
use Rattle.column_page.specs.Page.{page_of}
use Rattle.segment_read.proofs.Sized.{sized_one, sized_within}
use Rattle.segment_read.proofs.pages.read_page.Goals as goal

pub returns-in_err-cells-clause-none : goal.returns-in_err-cells-clause-none
returns-in_err-cells-clause-none c =
    let p = err_from_is_err_and c.from_residual.result c.from_residual.ensures.1 in
    rw (p.1, p.2) (λ is cells rest are short marked e.
    let page = c.in-Some.page.now in
    let one = sized_one page (page_of c.args.column.now cells) _ rest c.args.bytes.now c.in-Some.ensures.short short c.in-Some.ensures.front e in
    c.in_err-cells.ensures.none is cells are (sym one.0))

pub returns-then-not-is_same-clause-none : goal.returns-then-not-is_same-clause-none
returns-then-not-is_same-clause-none c is cells rest are short marked e =
    let page = c.in-Some.page.now in
    let one = sized_one page (page_of c.args.column.now cells) _ rest c.args.bytes.now c.in-Some.ensures.short short c.in-Some.ensures.front e in
    let same = c.in_ok-cells.ensures.only cells are (sym one.0) in
    let equal = c.is_same.ensures.1 (c.mark_of.ensures ∙ ap mark_of (c.deref.ensures.value ∙ same) ∙ marked) in
    true≢false (sym equal ∙ c.if-not-is_same.true)

pub returns-clause-within : goal.returns-clause-within
returns-clause-within c = sized_within c.in-Some.page.now _ c.args.bytes.now c.in-Some.ensures.front

pub returns-clause-only : goal.returns-clause-only
returns-clause-only c cells rest are short e =
    let page = c.in-Some.page.now in
    let one = sized_one page (page_of c.args.column.now cells) _ rest c.args.bytes.now c.in-Some.ensures.short short c.in-Some.ensures.front e in
    (c.in_ok-cells.ensures.only cells are (sym one.0), one.1)
