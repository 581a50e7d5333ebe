use Rattle.std.proofs.Common.{◌+◌, ◌∙◌, ◌++◌, drop, ap, List, arith}
use Rattle.index_file.specs.Buckets.{buckets_of, in_bucket, marks_from}
use Rattle.index_file.specs.declared.footers.BucketMark.{BucketMark}
use Rattle.index_file.proofs.MakingFacts.{level_of, made_all, made_next, marks_all, marks_next, next_bucket, no_bucket}
use Rattle.index_file.proofs.making.put_buckets.Goals as goal

pub loop-b-preserved : goal.loop-b-preserved
loop-b-preserved g c =
    let es = c.args.entries.now in
    let b = c.loop-b.b in
    let inv = c.loop-b.invariant in
    let buckets = c.buckets_for-buckets.result in
    let bs = drop (b + 1) (buckets_of (level_of es)) in
    let next = next_bucket es buckets b c.requires.rise c.buckets_for-buckets.ensures c.loop-b-test.true in
    let step = c.in_ok-mark.ensures.step in
    let x = in_bucket buckets es b in
    record {
      started = c.in_ok-mark.ensures.added.started;
      made = made_next _ bs x _ _ _ next c.in_ok-mark.ensures.added.made inv.made;
      marks = ap (λ (marks : List BucketMark). marks ++ marks_from c.in-Some.next bs) c.in_ok-push.ensures.ok
          ∙ marks_next _ bs x c.loop-b.marks _ c.in_ok-mark.mark c.loop-b.place c.in-Some.next next c.in_ok-mark.ensures.mark c.in-Some.ensures inv.marks;
      tells = step.tells ∙ inv.tells;
      unfailed = step.cause.well (λ e. cc) ∙ inv.unfailed;
    }

pub returns-clause-added : goal.returns-clause-added
returns-clause-added g c =
    let es = c.args.entries.now in
    let none = no_bucket es c.buckets_for-buckets.result c.loop-b.b c.requires.rise c.buckets_for-buckets.ensures (omega (arith, c.loop-b-test.false)) in
    record { started = c.loop-b.invariant.started; made = made_all _ _ _ none c.loop-b.invariant.made }

pub returns-clause-marks : goal.returns-clause-marks
returns-clause-marks g c =
    let es = c.args.entries.now in
    let none = no_bucket es c.buckets_for-buckets.result c.loop-b.b c.requires.rise c.buckets_for-buckets.ensures (omega (arith, c.loop-b-test.false)) in
    marks_all _ c.loop-b.marks _ c.loop-b.place none c.loop-b.invariant.marks

pub returns-clause-few : goal.returns-clause-few
returns-clause-few g c = omega (arith, c.in_ok-chains.ensures.chained.nexts, c.in_ok-chains.chains.next.ok.0)
