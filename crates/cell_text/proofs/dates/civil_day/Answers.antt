use Rattle.std.proofs.Common.{◌≡◌, ◌∙◌, ap, Some, arith, to_z, of_z}
use Rattle.std.specs.Prelude.{ℤ, pos, ◌+ℤ◌}
use Rattle.std.specs.Int.{w16, w32}
use Rattle.std.proofs.lemmas.Int.{ints}
use Rattle.cell_text.proofs.DayLemmas.{day_is}
use Rattle.cell_text.proofs.dates.civil_day.Goals as goal

pub returns-in-Ok : goal.returns-in-Ok
returns-in-Ok c =
    let bound = c.to_unix_epoch_day.ensures.bound in
    let sum : to_z w32 (of_z w32 (to_z w32 (of_z w32 c.to_unix_epoch_day.result) +ℤ pos 719528)) ≡ c.to_unix_epoch_day.result +ℤ pos 719528 = omega (arith, ints) in
    let ymd = c.in-Ok.ensures.value in
    let year : to_z w16 c.args.year ≡ pos c.args.year = omega (arith, ints) in
    let month : c.in-Ok.date.month ≡ c.args.month = let e = ymd.1 in omega (arith, ints) in
    let day : c.in-Ok.date.day ≡ c.args.day = let e = ymd.2 in omega (arith, ints) in
    let is = rw c.to_plain.ensures at c.to_unix_epoch_day.ensures.value in
    ap (λ (z : ℤ). Some z) sum ∙ day_is c.args.year c.args.month c.args.day c.in-Ok.date c.to_unix_epoch_day.result (ymd.0 ∙ year) month day is
