use Rattle.std.proofs.Common.{◌≡◌, Some}
use Rattle.std.specs.FinMap.{find}
use Rattle.std.specs.Cmp.Lexicographic.{slice_cmp}
use Rattle.std.specs.Ordering.{nat_cmp}
use Rattle.index_file.proofs.IntactFacts.{found_fits}
use Rattle.index_file.proofs.look_ups.seek_place.Goals as goal

pub returns-else-sum_fits : goal.returns-else-sum_fits
returns-else-sum_fits c es is sums =
    let seen = c.in_ok-entry.ensures es is in
    let found = c.in-Some.is in
    let there : Some c.in-Some.entry ≡ find (slice_cmp nat_cmp) c.args.key.now es = cc in
    let fits = found_fits c.args.base c.args.key.now es c.in-Some.entry sums there in
    let not_so = c.if-sum_fits.ensures in
    cc
