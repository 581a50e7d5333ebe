use Rattle.std.proofs.Common.{◌≡◌, ◌∙◌, ◌≤◌, ℕ, List, length, true, false, arith}
use Rattle.std.proofs.lemmas.Result.{IfOk-weaker}
use Rattle.pk_values.specs.declared.cells.Value.{Value}
use Rattle.snapshot_scan.specs.Scans.{AreToCome}
use Rattle.tablet_run.specs.Scanning.{PutsNext}
use Rattle.tablet_run.proofs.ScanFacts.{put-all, put-more, put-none}
use Rattle.tablet_run.proofs.scanning.text_of_rows.Goals as goal

pub returns-in-Err-clause-intact : goal.returns-in-Err-clause-intact
returns-in-Err-clause-intact g c = λ d e rows come. c.in-Err.ensures.intact d e _ (c.loop-i.invariant.1 rows come).left

pub returns-then-not-more-clause-rows : goal.returns-then-not-more-clause-rows
returns-then-not-more-clause-rows g c =
    let text = c.put_next.new.text.items in
    let next : (left : List (List Value)) → AreToCome c.loop-i.scan left → PutsNext c.in-Ok.more left c.loop-i.text.items text (AreToCome c.put_next.new.scan) = c.in-Ok.ensures.next in
    let none = rw c.if-not-more.true at next in
    IfOk-weaker c.octets_of.result (λ octets. octets ≡ text) _
    (λ octets same rows come size. same ∙ put-none (AreToCome c.loop-i.scan) (AreToCome c.put_next.new.scan) rows c.loop-i.i c.loop-i.text.items text (c.loop-i.invariant.1 rows come) none)
    c.octets_of.ensures.same

pub loop-i-preserved : goal.loop-i-preserved
loop-i-preserved g c =
    let text = c.put_next.new.text.items in
    let next : (left : List (List Value)) → AreToCome c.loop-i.scan left → PutsNext c.in-Ok.more left c.loop-i.text.items text (AreToCome c.put_next.new.scan) = c.in-Ok.ensures.next in
    let more = rw c.if-not-more.false at next in (
      c.in-Ok.ensures.unfailed,
      λ rows come. put-more (AreToCome c.loop-i.scan) (AreToCome c.put_next.new.scan) rows c.loop-i.i c.loop-i.text.items text (c.loop-i.invariant.1 rows come) more,
    )

pub returns-clause-rows : goal.returns-clause-rows
returns-clause-rows g c =
    let text = c.loop-i.text.items in
    let out = c.loop-i-test.false in
    IfOk-weaker c.octets_of-2.result (λ octets. octets ≡ text) _
    (λ octets same rows come size. same ∙ put-all (AreToCome c.loop-i.scan) rows c.loop-i.i text (c.loop-i.invariant.1 rows come) (omega (arith, out, size)))
    c.octets_of-2.ensures.same
