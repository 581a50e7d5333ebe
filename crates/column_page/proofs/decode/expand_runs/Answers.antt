use Rattle.std.proofs.Common.{◌≡◌, ◌+◌, ◌≤◌, ℕ, List, sym, subst, ap, ◌∙◌, arith, length, [], IsTrue, replicate, get_or}
use Rattle.std.proofs.lemmas.List.{length-append, length-replicate}
use Rattle.std.proofs.lemmas.List.Elements.{All-append, All-replicate}
use Rattle.std.proofs.lemmas.Result.{err_from_is_err_and}
use Rattle.pk_values.specs.Fits.{fits}
use Rattle.pk_values.specs.declared.cells.Value.{Value}
use Rattle.column_page.specs.Page.{AllFit}
use Rattle.column_page.specs.Reading.{HaveRunOut}
use Rattle.column_page.proofs.ReadFacts.{all_run_out, next_run, no_run_out, run_more}
use Rattle.column_page.proofs.Pieces.{ends_within, to_end}
use Rattle.column_page.proofs.decode.expand_runs.Goals as goal

pub loop-i-init : goal.loop-i-init
loop-i-init c = let e = c.new-values.ensures.items in record {
  fit = subst (λ (vs : List Value). AllFit c.args.column.now vs) (sym e) (λ k d lt. absurd (omega arith));
  few = let n : length c.new-values.result.items ≡ 0 = ap length e in omega arith;
  within = omega arith;
  so_far = λ rs are. subst (λ (vs : List Value). HaveRunOut c.args.column.now vs 0 0 c.args.bytes.now rs) (sym e) (no_run_out c.args.column.now c.args.total c.args.count c.args.bytes.now rs are);
}

pub loop-i-preserved : goal.loop-i-preserved
loop-i-preserved c =
    let inv = c.loop-i.invariant in
    let read = c.in_ok-next.ensures in
    let run = c.in_ok-next.next in
    let pushed = c.in_ok-push_copies.ensures.pushed in
    let bytes = c.args.bytes.now in
    let piece = to_end bytes c.loop-i.at in
    let number : length c.push_copies.new.values.items ≡ length c.loop-i.values.items + run.count = ap length pushed ∙ length-append c.loop-i.values.items (replicate run.count run.value) ∙ ap (λ (n : ℕ). length c.loop-i.values.items + n) (length-replicate run.count run.value) in
    let P : Value → Type 0 = λ v. IsTrue (fits c.args.column.now v) in
    record {
      fit = subst (λ (vs : List Value). AllFit c.args.column.now vs) (sym pushed) (All-append P c.loop-i.values.items (replicate run.count run.value) inv.fit (All-replicate P run.count run.value read.fits));
      few = omega arith;
      within = ends_within bytes _ c.loop-i.at run.len inv.within piece read.within;
      so_far = λ rs are. subst (λ (vs : List Value). HaveRunOut c.args.column.now vs (c.loop-i.i + 1) (c.loop-i.at + run.len) bytes rs) (sym pushed)
          (let next = next_run c.args.column.now c.args.total c.args.count c.loop-i.i c.loop-i.at c.loop-i.values.items bytes _ rs are c.loop-i-test.true (inv.so_far rs are) piece in
          run_more c.args.column.now c.args.total c.args.count c.loop-i.i c.loop-i.at run.count run.len c.loop-i.values.items run.value bytes _ rs are c.loop-i-test.true (inv.so_far rs are) piece
          (read.only _ _ next.short next.cell next.stands));
    }

pub returns-clause-only : goal.returns-clause-only
returns-clause-only c rs are =
    all_run_out c.args.column.now c.args.total c.args.count c.loop-i.i c.loop-i.at c.loop-i.values.items c.args.bytes.now rs are c.loop-i-test.false (c.loop-i.invariant.so_far rs are)

pub returns-in_err-next-clause-none : goal.returns-in_err-next-clause-none
returns-in_err-next-clause-none c =
    let p = err_from_is_err_and c.from_residual.result c.from_residual.ensures.1 in
    rw (p.1, p.2) (λ is rs are.
    let piece = to_end c.args.bytes.now c.loop-i.at in
    let next = next_run c.args.column.now c.args.total c.args.count c.loop-i.i c.loop-i.at c.loop-i.values.items c.args.bytes.now _ rs are c.loop-i-test.true (c.loop-i.invariant.so_far rs are) piece in
    c.in_err-next.ensures.none is _ _ next.short next.cell next.stands)

pub returns-then-len-next-clause-none : goal.returns-then-len-next-clause-none
returns-then-len-next-clause-none c = λ is rs are.
    let piece = to_end c.args.bytes.now c.loop-i.at in
    let next = next_run c.args.column.now c.args.total c.args.count c.loop-i.i c.loop-i.at c.loop-i.values.items c.args.bytes.now _ rs are c.loop-i-test.true (c.loop-i.invariant.so_far rs are) piece in
    let room : length c.loop-i.values.items + (get_or rs c.loop-i.i (0, [])).0 ≤ c.args.count = next.room in
    let same : c.in_ok-next.next.count ≡ (get_or rs c.loop-i.i (0, [])).0 = (c.in_ok-next.ensures.only _ _ next.short next.cell next.stands).0 in
    omega arith
