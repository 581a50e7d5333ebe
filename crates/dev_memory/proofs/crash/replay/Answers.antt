use Rattle.std.proofs.Common.{List, drop, get_or, false, refl, sym, ◌∙◌, ap, arith}
use Rattle.std.proofs.lemmas.List.{drop_all}
use Rattle.dev_memory.specs.declared.call.Call.{Call}
use Rattle.dev_memory.specs.declared.call.Call.TheVariants.{Write}
use Rattle.dev_memory.specs.Disk.{AreaDisk, Deed, deeds}
use Rattle.dev_memory.specs.Crash.{deed_of, one_after, one_replay}
use Rattle.dev_memory.proofs.Crashes.{next_call}
use Rattle.dev_memory.proofs.crash.replay.Goals as goal

pub loop-i-preserved : goal.loop-i-preserved
loop-i-preserved c =
    let first = Write 0 0 0 false in
    let call = get_or c.args.calls.now c.loop-i.i first in
    let next = next_call c.args.calls.now c.args.pieces.now c.loop-i.i c.loop-i.at call first c.piece_of-piece.result.now (omega arith) refl (omega (arith, c.loop-i.invariant.fits)) c.piece_of-piece.ensures in
    record {
      fits = omega (arith, next.written_is, c.loop-i.invariant.fits);
      reads = λ d same.
          let old = c.loop-i.invariant.reads d same in (
            one_after c.args.area (deed_of c.piece_of-piece.result.now call) old.0,
            c.in_ok-read_on.ensures old.0 old.1,
            ap (λ (l : List Deed). one_replay c.args.area l old.0) (sym next.deeds_is) ∙ old.2,
          );
    }

pub returns-clause-reads : goal.returns-clause-reads
returns-clause-reads c d same =
    let old = c.loop-i.invariant.reads d same in
    ap (λ (x : AreaDisk). x.bytes) (sym old.2 ∙ ap (λ (l : List Call). one_replay c.args.area (deeds (drop c.loop-i.at c.args.pieces.now) l) old.0) (drop_all c.loop-i.i c.args.calls.now (omega arith))) ∙ old.1
