use Rattle.std.proofs.Common.{◌≡◌, vec_len, ◌-◌, ◌+◌, ◌<◌}
use Rattle.tablet_run.specs.Streams.{ReadFrom}
use Rattle.tablet_run.proofs.streams.read_source.Given as goal

abbrev pub invariant-loop-src : goal.invariant-loop-src
invariant-loop-src g l = record {
  read : ReadFrom (g.S.Source.left l.fn.src) (g.S.Source.left l.src) l.bytes.items;
  counts : g.S.Source.faults l.src ≡ g.S.Source.faults l.fn.src;
  room : 0 < vec_len l.piece;
}

abbrev pub decreases-loop-src : goal.decreases-loop-src
decreases-loop-src g l = (l.most + 1) - vec_len l.bytes
