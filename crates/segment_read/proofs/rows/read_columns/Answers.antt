use Rattle.std.proofs.Common.{All, IsTrue, List, [], refl, sym, subst, ap, ◌∙◌, arith, length}
use Rattle.std.proofs.lemmas.List.{length-replicate}
use Rattle.std.proofs.lemmas.List.Elements.{All-replicate}
use Rattle.std.proofs.lemmas.Result.{err_from_is_err_and}
use Rattle.pk_values.specs.Fits.{fits_all}
use Rattle.pk_values.specs.declared.cells.Value.{Value}
use Rattle.column_page.specs.declared.footers.ColumnMark.{ColumnMark}
use Rattle.column_page.proofs.Pieces.{ends_within, to_end}
use Rattle.segment_read.specs.Columns.{HaveColumns}
use Rattle.segment_read.proofs.ReadingRows.{all_columns, columns_none, more_columns, next_column, one_more}
use Rattle.segment_read.proofs.rows.read_columns.Goals as goal

no_mark : ColumnMark
no_mark = record { nulls = Rattle.std.proofs.Common.false; span = Rattle.std.proofs.Common.None }

pub loop-i-init : goal.loop-i-init
loop-i-init c =
    let e = c.in_ok-rows.ensures.empty in
    let n = c.args.count in
    record {
      fit = subst (λ (rs : List (List Value)). All (λ row. IsTrue (fits_all [] row)) rs) (sym e) (All-replicate (λ (row : List Value). IsTrue (fits_all [] row)) n [] refl);
      number = ap length e ∙ length-replicate n [];
      within = omega arith;
      written = refl;
      marked = refl;
      so_far = λ rows are. subst (λ (rs : List (List Value)). HaveColumns c.args.columns.now c.args.marks.now c.args.body.now rs 0 0 rows) (sym e)
          (columns_none c.args.columns.now n c.args.marks.now c.args.body.now rows are);
    }

pub returns-in_err-read-clause-none : goal.returns-in_err-read-clause-none
returns-in_err-read-clause-none c =
    let p = err_from_is_err_and c.from_residual-in_err-read.result c.from_residual-in_err-read.ensures.1 in
    rw (p.1, p.2) (λ is rows are.
    let body = c.args.body.now in
    let piece = to_end body c.loop-i.at in
    let next = next_column c.args.columns.now c.args.count c.args.marks.now body _ c.loop-i.rows.items c.loop-i.i c.loop-i.at rows c.index-columns-i.result _
    are (c.loop-i.invariant.so_far rows are) c.requires.short c.requires.marks c.loop-i-test.true piece c.index-columns-i.is in
    c.in_err-read.ensures.none is _ _ next.are next.short next.marked next.stands)

pub loop-i-preserved : goal.loop-i-preserved
loop-i-preserved c =
    let body = c.args.body.now in
    let at = c.loop-i.at in
    let inv = c.loop-i.invariant in
    let read = c.in_ok-read.ensures in
    let len = c.in_ok-read.read.len in
    let cells = c.in_ok-read.read.cells.items in
    let piece = to_end body at in
    let more = one_more c.args.columns.now c.args.count c.args.marks.now body _ c.loop-i.rows.items c.add_column.new.rows.items cells c.loop-i.i at len c.index-columns-i.result _
    inv.fit inv.number inv.written inv.marked c.requires.marks c.loop-i-test.true piece read.cells read.marked read.front c.in_ok-add_column.ensures.added c.index-columns-i.is in
    record {
      fit = more.fit;
      number = more.number;
      within = ends_within body _ at len inv.within piece read.within;
      written = more.written;
      marked = more.marked;
      so_far = λ rows are.
          let have = inv.so_far rows are in
          let next = next_column c.args.columns.now c.args.count c.args.marks.now body _ c.loop-i.rows.items c.loop-i.i at rows c.index-columns-i.result no_mark
          are have c.requires.short c.requires.marks c.loop-i-test.true piece c.index-columns-i.is in
          let step = read.only _ _ next.are next.short next.stands in
          more_columns c.args.columns.now c.args.count c.args.marks.now body _ c.loop-i.rows.items c.add_column.new.rows.items cells c.loop-i.i at len rows c.index-columns-i.result no_mark
          are have c.requires.marks c.loop-i-test.true piece step.0 step.1 c.in_ok-add_column.ensures.added c.index-columns-i.is;
    }

pub returns-clause-only : goal.returns-clause-only
returns-clause-only c others are =
    (all_columns c.args.columns.now c.args.count c.args.marks.now c.args.body.now c.loop-i.rows.items c.loop-i.i c.loop-i.at others are (c.loop-i.invariant.so_far others are) c.loop-i-test.false).0
