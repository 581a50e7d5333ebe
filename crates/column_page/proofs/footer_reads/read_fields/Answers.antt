use Rattle.std.proofs.Common.{sym, ◌∙◌, length}
use Rattle.std.proofs.lemmas.Result.{err_from_is_err_and}
use Rattle.std.specs.List.{between}
use Rattle.column_page.proofs.FooterFacts.{after_columns, after_count, after_footer_rows, blocks_told, columns_told, fields_open, footer_is, footer_rows_told}
use Rattle.column_page.proofs.SequenceFacts.{u32_long}
use Rattle.column_page.proofs.Pieces.{to_end}
use Rattle.column_page.proofs.footer_reads.read_fields.Goals as goal

pub returns-clause-only : goal.returns-clause-only
returns-clause-only c f rest fit e =
    let bytes = c.args.bytes.now in
    let n = length bytes in
    let columns = c.in_ok-columns.ensures.some in
    let p4 = to_end bytes 4 in
    let one = columns_told c.in_ok-columns.columns bytes (between 4 n bytes) f rest fit e columns.0 columns.2 p4 in
    let rows = c.in_ok-rows.ensures.some in
    let p8 = to_end bytes 8 in
    let two = footer_rows_told c.in_ok-rows.rows bytes (between 4 n bytes) (between 8 n bytes) f rest fit one.1 rows.0 rows.2 p4 p8 in
    let count = c.in_ok-count.ensures.some in
    let p12 = to_end bytes 12 in
    let three = blocks_told c.in_ok-columns.columns c.in_ok-count.count bytes (between 8 n bytes) (between 12 n bytes) f rest fit one.0 two.1 count.0 count.2 p8 p12 in
    let blocks = c.in_ok-found.ensures.only f.blocks rest three in
    footer_is _ _ _ f one.0 two.0 (c.from_vec-blocks.ensures ∙ blocks)

pub returns-in_err-columns-clause-none : goal.returns-in_err-columns-clause-none
returns-in_err-columns-clause-none c =
    let p = err_from_is_err_and c.from_residual.result c.from_residual.ensures.1 in
    rw (p.1, p.2) (λ is f rest fit e.
    let bytes = c.args.bytes.now in
    let n = length bytes in
    u32_long f.columns bytes (after_columns f rest) c.in_err-columns.ensures.none (fields_open f rest bytes e))

pub returns-in_err-rows-clause-none : goal.returns-in_err-rows-clause-none
returns-in_err-rows-clause-none c =
    let p = err_from_is_err_and c.from_residual-in_err-rows.result c.from_residual-in_err-rows.ensures.1 in
    rw (p.1, p.2) (λ is f rest fit e.
    let bytes = c.args.bytes.now in
    let n = length bytes in
    let columns = c.in_ok-columns.ensures.some in
    let p4 = to_end bytes 4 in
    let one = columns_told c.in_ok-columns.columns bytes (between 4 n bytes) f rest fit e columns.0 columns.2 p4 in
    u32_long f.rows (between 4 n bytes) (after_footer_rows f rest) c.in_err-rows.ensures.none (sym one.1))

pub returns-in_err-count-clause-none : goal.returns-in_err-count-clause-none
returns-in_err-count-clause-none c =
    let p = err_from_is_err_and c.from_residual-in_err-count.result c.from_residual-in_err-count.ensures.1 in
    rw (p.1, p.2) (λ is f rest fit e.
    let bytes = c.args.bytes.now in
    let n = length bytes in
    let columns = c.in_ok-columns.ensures.some in
    let p4 = to_end bytes 4 in
    let one = columns_told c.in_ok-columns.columns bytes (between 4 n bytes) f rest fit e columns.0 columns.2 p4 in
    let rows = c.in_ok-rows.ensures.some in
    let p8 = to_end bytes 8 in
    let two = footer_rows_told c.in_ok-rows.rows bytes (between 4 n bytes) (between 8 n bytes) f rest fit one.1 rows.0 rows.2 p4 p8 in
    u32_long (length f.blocks) (between 8 n bytes) (after_count f rest) c.in_err-count.ensures.none (sym two.1))

pub returns-in_err-found-clause-none : goal.returns-in_err-found-clause-none
returns-in_err-found-clause-none c =
    let p = err_from_is_err_and c.from_residual-in_err-found.result c.from_residual-in_err-found.ensures.1 in
    rw (p.1, p.2) (λ is f rest fit e.
    let bytes = c.args.bytes.now in
    let n = length bytes in
    let columns = c.in_ok-columns.ensures.some in
    let p4 = to_end bytes 4 in
    let one = columns_told c.in_ok-columns.columns bytes (between 4 n bytes) f rest fit e columns.0 columns.2 p4 in
    let rows = c.in_ok-rows.ensures.some in
    let p8 = to_end bytes 8 in
    let two = footer_rows_told c.in_ok-rows.rows bytes (between 4 n bytes) (between 8 n bytes) f rest fit one.1 rows.0 rows.2 p4 p8 in
    let count = c.in_ok-count.ensures.some in
    let p12 = to_end bytes 12 in
    let three = blocks_told c.in_ok-columns.columns c.in_ok-count.count bytes (between 8 n bytes) (between 12 n bytes) f rest fit one.0 two.1 count.0 count.2 p8 p12 in
    c.in_err-found.ensures.none is f.blocks rest three)
