use Rattle.std.proofs.Common.{◌≡◌, ◌∙◌, arith, false, subst, true}
use Rattle.std.proofs.lemmas.Result.{err_from_is_err_and}
use Rattle.snapshot_scan.specs.Scans.{ScanFailed}
use Rattle.snapshot_scan.proofs.FillFacts.{fill_fails, fill_more, filled_all, none_due_all, settled_more}
use Rattle.snapshot_scan.proofs.feeds.fill.Goals as goal

pub loop-i-preserved : goal.loop-i-preserved
loop-i-preserved g c =
    let inv = c.loop-i.invariant in
    let ok = c.in_ok-refill.ensures in
    let test = c.loop-i-test.true in
    let end = c.len-i-end.ensures in
    let first = c.args.cursors.now.ok.0 in
    let same = inv.long in
    record {
      are = ok.are;
      long = ok.long ∙ inv.long;
      settled = settled_more c.loop-i.cursors.items c.refill.new.cursors.items c.loop-i.i inv.settled ok.others ok.settled;
      left = λ pieces told. let a = inv.left pieces told in let b = ok.left pieces a.0 in (b.0, b.1 ∙ a.1);
      filled = fill_more c.loop-i.snapshot.schema c.loop-i.cursors.items c.loop-i.i c.args.snapshot.now.parts c.loop-i.snapshot c.refill.new.snapshot c.in_ok-refill.field-0 inv.filled (omega arith) (λ h. (ok.at_hand h).1) ok.read;
      once = let more = ok.once in let before = inv.once in omega arith;
      version = ok.version ∙ inv.version;
      schema = ok.schema ∙ inv.schema;
    }

pub returns-clause-none_due : goal.returns-clause-none_due
returns-clause-none_due g c =
    let inv = c.loop-i.invariant in
    let test = c.loop-i-test.false in
    let end = c.len-i-end.ensures in
    let first = c.args.cursors.now.ok.0 in
    let same = inv.long in
    none_due_all c.loop-i.cursors.items c.loop-i.i (omega arith) inv.settled

pub returns-clause-reads : goal.returns-clause-reads
returns-clause-reads g c =
    let inv = c.loop-i.invariant in
    let test = c.loop-i-test.false in
    let end = c.len-i-end.ensures in
    let first = c.args.cursors.now.ok.0 in
    let long = c.requires.are.long in
    filled_all c.loop-i.i c.args.snapshot.now.parts c.loop-i.snapshot.parts inv.filled (omega arith)

pub returns-in_err-refill-clause-failed : goal.returns-in_err-refill-clause-failed
returns-in_err-refill-clause-failed g c =
    let inv = c.loop-i.invariant in
    let err = c.in_err-refill.ensures in
    let test = c.loop-i-test.true in
    let end = c.len-i-end.ensures in
    let first = c.args.cursors.now.ok.0 in
    let same = inv.long in
    let p = err_from_is_err_and c.from_residual.result c.from_residual.ensures.1 in
    rw (p.1, p.2)
    (subst (λ s. ScanFailed s c.in_err-refill.field-0.0 c.args.snapshot.now.parts c.refill.new.snapshot.parts) inv.schema
    (fill_fails c.loop-i.snapshot c.loop-i.cursors.items c.loop-i.snapshot.schema c.loop-i.i c.in_err-refill.field-0.0 c.args.snapshot.now.parts c.refill.new.snapshot.parts inv.filled inv.are (omega arith)
    (λ h. let no : false ≡ true = (err.at_hand h).0 in cc) err.read))
