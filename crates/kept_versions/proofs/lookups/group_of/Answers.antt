use Rattle.std.proofs.Common.{get_or}
use Rattle.std.proofs.lemmas.Bool.{ne_eqb}
use Rattle.kept_versions.proofs.FindFacts.{none_here, other_here}
use Rattle.kept_versions.proofs.lookups.group_of.Goals as goal
use Rattle.kept_versions.proofs.lookups.group_of.Goals.{else-place-changed-via-then-place-changed+else-changed-place, else-place-changed-via-else-place-changed}

pub returns-else-place-changed-clause-none : goal.returns-else-place-changed-clause-none
returns-else-place-changed-clause-none c =
    let cs = c.args.changed.now in
    let place = c.place_of-place.result in
    let before = c.place_of-place.ensures.before in
    let behind = c.place_of-place.ensures.behind in
    elim c.else-place-changed.branch [
      | else-place-changed-via-then-place-changed+else-changed-place w ↦
          let x = w.index-changed-place.result in
          other_here cs c.args.file place x c.requires w.if-place-changed.true (ne_eqb (get_or cs place x).file c.args.file w.if-changed-place.false) before behind
      | else-place-changed-via-else-place-changed w ↦ none_here cs c.args.file place w.if-place-changed.false before
    ]
