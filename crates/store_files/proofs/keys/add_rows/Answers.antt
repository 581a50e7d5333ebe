use Rattle.std.proofs.Common.{ap, sym, subst, arith, length}
use Rattle.std.proofs.lemmas.Result.{err_from_is_err_and}
use Rattle.std.specs.Vec.Iter.{into_iter_items}
use Rattle.store_files.specs.Keys.{HasLongCode}
use Rattle.store_files.proofs.KeyFacts.{codes_more, fit_first, fit_rest, long_behind, long_first}
use Rattle.store_files.proofs.keys.add_rows.Goals as goal

pub add_row-requires : goal.add_row-requires
add_row-requires c = fit_first c.args.schema.now (into_iter_items c.loop-row.left) (into_iter_items c.next.new.self) c.in-Some.row c.in-Some.ensures.items c.loop-row.invariant.fit

pub returns-in_err-add_row-clause-long : goal.returns-in_err-add_row-clause-long
returns-in_err-add_row-clause-long c =
    let p = err_from_is_err_and c.from_residual.result c.from_residual.ensures.1 in
    rw (p.1, p.2) (λ is. c.loop-row.invariant.long (subst (HasLongCode c.args.schema.now c.args.dead.now c.loop-row.number) (sym c.in-Some.ensures.items)
    (long_first c.args.schema.now c.args.dead.now c.loop-row.number c.in-Some.row (into_iter_items c.next.new.self) (c.in_err-add_row.ensures.long is))))

pub loop-row-preserved : goal.loop-row-preserved
loop-row-preserved c =
    let s = c.args.schema.now in
    let dead = c.args.dead.now in
    let left = into_iter_items c.loop-row.left in
    let next = into_iter_items c.next.new.self in
    let inv = c.loop-row.invariant in
    let long = ap length c.in-Some.ensures.items in
    let few = inv.within in
    record {
      so_far = codes_more s c.args.file dead c.loop-row.number left next c.in-Some.row c.loop-row.keys.items c.add_row.new.keys.items _ c.in-Some.ensures.items c.in_ok-add_row.ensures.added inv.so_far;
      within = omega arith;
      fit = fit_rest s left next c.in-Some.row c.in-Some.ensures.items inv.fit;
      long = λ h. inv.long (subst (HasLongCode s dead c.loop-row.number) (sym c.in-Some.ensures.items) (long_behind s dead c.loop-row.number c.in-Some.row next h));
    }
