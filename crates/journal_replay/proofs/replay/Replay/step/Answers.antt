use Rattle.std.proofs.Common.{arith, refl}
use Rattle.journal_replay.proofs.StepFacts.{goes_so}
use Rattle.journal_replay.proofs.replay.Replay.step.Goals as goal

pub returns-then-fits : goal.returns-then-fits
returns-then-fits c s follows =
    goes_so c.in_ok-fits.fits c.args.self.now c.follow.new.self _ s c.args.told.now c.if-fits.true follows (omega (arith, c.if-self-ge-BOUND.false)) c.follow.ensures.edit refl
    (λ t h. record {
      form = h.form;
      levels = h.levels;
      floor = h.floor;
      current = h.current;
      next_file = h.next_file;
      rowsets = h.rowsets;
      files = h.files;
      once = h.once;
      fit = h.fit;
      below = h.below;
    }) (c.in_ok-fits.ensures.moves s follows)
