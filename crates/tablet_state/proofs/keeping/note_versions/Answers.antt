use Rattle.std.proofs.Common.{◌∙◌, ◌++◌, List, ℕ, ap}
use Rattle.tablet_state.specs.Floors.{kept_numbers}
use Rattle.tablet_state.proofs.Counting.{at_index}
use Rattle.tablet_state.proofs.KeepLoops.{noted_next, one_version, versions_join}
use Rattle.tablet_state.proofs.keeping.note_versions.Goals as goal

pub loop-version-preserved : goal.loop-version-preserved
loop-version-preserved c =
    noted_next (λ vs. kept_numbers vs) versions_join c.args.versions.now c.loop-version.version-index c.version-item.result c.args.numbers.now.items c.loop-version.numbers.items c.note_version.new.numbers.items
    (at_index c.args.versions.now c.loop-version.version-index c.version-item.result c.loop-version-test.true c.version-item.is) c.loop-version.invariant
    (c.in_ok-note_version.ensures ∙ ap (λ (ns : List ℕ). c.loop-version.numbers.items ++ ns) (one_version c.version-item.result))
