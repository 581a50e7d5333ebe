use Rattle.std.proofs.Common.{ℕ, List, ◌∙◌, map, subst, sym}
use Rattle.std.proofs.lemmas.Result.{err_from_is_err_and}
use Rattle.column_page.specs.CellBytes.{cell_bytes}
use Rattle.column_page.specs.Page.{runs}
use Rattle.column_page.specs.Reading.{RunsOf}
use Rattle.column_page.proofs.PageFacts.{is_runs, runs_read}
use Rattle.column_page.proofs.ReadFacts.{same_cells}
use Rattle.column_page.proofs.RunFacts.{expanded-runs}
use Rattle.column_page.proofs.Pieces.{to_end}
use Rattle.column_page.proofs.decode.read_runs.Goals as goal

pub returns-clause-only : goal.returns-clause-only
returns-clause-only c cells are e =
    let column = c.args.column.now in
    let bytes = c.args.bytes.now in
    let some = c.in-Some.ensures.some in
    let piece = to_end bytes 2 in
    let rs = runs (map (cell_bytes column) cells) in
    let runs_are = runs_read column c.in-Some.total c.args.count bytes cells are (is_runs (map (cell_bytes column) cells) bytes e) some.0 some.2 in
    let only = c.in_ok-values.ensures.only rs (subst (λ (t : List ℕ). RunsOf column c.in-Some.total c.args.count t rs) (sym piece) runs_are) in
    same_cells column c.requires c.in_ok-values.values.items cells c.in_ok-values.ensures.fits are.fit (only ∙ expanded-runs (map (cell_bytes column) cells))

pub returns-in_err-values-clause-none : goal.returns-in_err-values-clause-none
returns-in_err-values-clause-none c =
    let p = err_from_is_err_and c.from_residual.result c.from_residual.ensures.1 in
    rw (p.1, p.2) (λ is cells are e.
    let column = c.args.column.now in
    let bytes = c.args.bytes.now in
    let some = c.in-Some.ensures.some in
    let piece = to_end bytes 2 in
    let rs = runs (map (cell_bytes column) cells) in
    let runs_are = runs_read column c.in-Some.total c.args.count bytes cells are (is_runs (map (cell_bytes column) cells) bytes e) some.0 some.2 in
    c.in_err-values.ensures.none is rs (subst (λ (t : List ℕ). RunsOf column c.in-Some.total c.args.count t rs) (sym piece) runs_are))
