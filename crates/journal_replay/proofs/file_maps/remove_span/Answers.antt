use Rattle.std.proofs.Common.{ℕ, arith}
use Rattle.std.specs.BTreeMap.{get}
use Rattle.std.specs.Ordering.{nat_cmp}
use Rattle.journal_replay.specs.Lookups.{span_numbers, without}
use Rattle.journal_replay.proofs.LoopFacts.{count_on}
use Rattle.journal_replay.proofs.file_maps.remove_span.Goals as goal

pub loop-left-preserved : goal.loop-left-preserved
loop-left-preserved c = (
  count_on c.loop-left.number c.loop-left.left (get nat_cmp c.loop-left.files) (get nat_cmp c.remove.new.self) (without (span_numbers c.args.span) (get nat_cmp c.args.files.now))
      (omega (arith, c.loop-left-test.true)) c.loop-left.invariant.0 c.remove.ensures.updates.0,
  omega (arith, c.loop-left.invariant.1, c.loop-left-test.true),
)
