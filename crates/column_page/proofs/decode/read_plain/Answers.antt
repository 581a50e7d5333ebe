use Rattle.std.proofs.Common.{[], ap, drop, map}
use Rattle.std.proofs.lemmas.Result.{err_from_is_err_and}
use Rattle.column_page.specs.CellBytes.{cell_bytes}
use Rattle.column_page.proofs.PageFacts.{is_plain}
use Rattle.column_page.proofs.ReadFacts.{cells_then, same_cells}
use Rattle.column_page.proofs.decode.read_plain.Goals as goal

pub returns-in_err-read-clause-none : goal.returns-in_err-read-clause-none
returns-in_err-read-clause-none c =
    let p = err_from_is_err_and c.from_residual.result c.from_residual.ensures.1 in
    rw (p.1, p.2) (λ is cells are e. c.in_err-read.ensures.none is (map (cell_bytes c.args.column.now) cells) [] (cells_then c.args.column.now c.args.count c.args.bytes.now cells are (ap (drop 1) (is_plain (map (cell_bytes c.args.column.now) cells) c.args.bytes.now e))))

pub returns-clause-only : goal.returns-clause-only
returns-clause-only c cells are e =
    let column = c.args.column.now in
    let only = c.in_ok-read.ensures.only (map (cell_bytes column) cells) [] (cells_then column c.args.count c.args.bytes.now cells are (ap (drop 1) (is_plain (map (cell_bytes c.args.column.now) cells) c.args.bytes.now e))) in
    same_cells column c.requires c.in_ok-read.read.values.items cells c.in_ok-read.ensures.fits are.fit only.0
