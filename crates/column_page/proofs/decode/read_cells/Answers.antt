use Rattle.std.proofs.Common.{◌+◌, ℕ, List, sym, subst, ap, ◌∙◌, arith, length, IsTrue}
use Rattle.std.proofs.lemmas.List.{length_push}
use Rattle.pk_values.specs.Fits.{fits}
use Rattle.std.proofs.lemmas.List.Elements.{All-push}
use Rattle.std.proofs.lemmas.Result.{err_from_is_err_and}
use Rattle.pk_values.specs.declared.cells.Value.{Value}
use Rattle.column_page.specs.Page.{AllFit}
use Rattle.column_page.specs.Reading.{HaveRead}
use Rattle.column_page.proofs.ReadFacts.{all_read, none_more, none_read, one_more}
use Rattle.column_page.proofs.Pieces.{ends_within, to_end}
use Rattle.column_page.proofs.decode.read_cells.Goals as goal

pub loop-i-init : goal.loop-i-init
loop-i-init c = let e = c.new-values.ensures.items in record {
  fit = subst (λ (vs : List Value). AllFit c.args.column.now vs) (sym e) (λ k d lt. absurd (omega arith));
  number = ap length e;
  within = omega arith;
  so_far = λ cells rest then. subst (λ (vs : List Value). HaveRead c.args.column.now vs 0 0 c.args.bytes.now cells rest) (sym e) (none_read c.args.column.now c.args.count c.args.bytes.now cells rest then);
}

pub loop-i-preserved : goal.loop-i-preserved
loop-i-preserved c =
    let inv = c.loop-i.invariant in
    let read = c.in_ok-read.ensures in
    let pushed = c.in_ok-push_value.ensures.pushed in
    let bytes = c.args.bytes.now in
    let piece = to_end bytes c.loop-i.at in
    record {
      fit = subst (λ (vs : List Value). AllFit c.args.column.now vs) (sym pushed) (All-push (λ v. IsTrue (fits c.args.column.now v)) c.loop-i.values.items c.in_ok-read.read.value inv.fit read.fits);
      number = ap length pushed ∙ length_push c.loop-i.values.items c.in_ok-read.read.value ∙ ap (λ (n : ℕ). n + 1) inv.number;
      within = ends_within bytes _ c.loop-i.at c.in_ok-read.read.len inv.within piece read.first.within;
      so_far = λ cells rest then. subst (λ (vs : List Value). HaveRead c.args.column.now vs (c.loop-i.i + 1) (c.loop-i.at + c.in_ok-read.read.len) bytes cells rest) (sym pushed)
          (one_more c.args.column.now c.requires c.loop-i.values.items c.in_ok-read.read.value c.in_ok-read.read.len c.loop-i.i c.loop-i.at c.args.count bytes _ cells rest then c.loop-i-test.true (inv.so_far cells rest then) piece read.fits read.first);
    }

pub returns-clause-only : goal.returns-clause-only
returns-clause-only c cells rest then =
    all_read c.args.column.now c.loop-i.values.items c.loop-i.i c.loop-i.at c.args.count c.args.bytes.now cells rest then c.loop-i-test.false (c.loop-i.invariant.so_far cells rest then)

pub returns-in_err-read-clause-none : goal.returns-in_err-read-clause-none
returns-in_err-read-clause-none c =
    let p = err_from_is_err_and c.from_residual.result c.from_residual.ensures.1 in
    rw (p.1, p.2) (λ is cells rest then.
    let piece = to_end c.args.bytes.now c.loop-i.at in
    none_more c.args.column.now c.loop-i.values.items c.loop-i.i c.loop-i.at c.args.count c.args.bytes.now _ cells rest then c.loop-i-test.true (c.loop-i.invariant.so_far cells rest then) piece (c.in_err-read.ensures.none is))
