use Rattle.std.proofs.Common.{◌≡◌, ◌*◌, ◌-◌, ◌<◌, ◌≤◌, length}
use Rattle.dev_traits.specs.Image.{area_of}
use Rattle.dev_traits.specs.View.{Told, Calm}
use Rattle.gated_log.specs.Log.{IsScanned}
use Rattle.gated_log.proofs.contents.scan.Given as goal

abbrev pub invariant-loop-bodies : goal.invariant-loop-bodies
invariant-loop-bodies g l = record {
  calm : Calm (g.S.Store.view l.fn.store) (g.S.Store.view l.store);
  faults : (g.S.Store.view l.store).faults ≡ (g.S.Store.view l.fn.store).faults;
  inside : l.at < l.end;
  few : 10 * length l.bodies.items ≤ l.at;
  scanned : Told (g.S.Store.view l.fn.store) (λ image. (so_far : IsScanned l.at (area_of image l.area)) × (so_far.bodies ≡ l.bodies.items));
}

abbrev pub decreases-loop-bodies : goal.decreases-loop-bodies
decreases-loop-bodies g l = l.end - l.at
