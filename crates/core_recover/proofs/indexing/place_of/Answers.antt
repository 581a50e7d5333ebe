use Rattle.std.proofs.Common.{◌≡◌, ap}
use Rattle.std.specs.declared.result.Result.TheVariants.{Ok, Err}
use Rattle.std.proofs.lemmas.List.Sorted.{searched}
use Rattle.core_recover.proofs.FindingFacts.{found_place, never_falls, none_placed}
use Rattle.core_recover.proofs.indexing.place_of.Goals as goal

pub returns-in-Ok-clause-there : goal.returns-in-Ok-clause-there
returns-in-Ok-clause-there c =
    let w = searched c.args.numbers.now c.args.number (Ok c.in-Ok.place) c.in-Ok.ensures.position (never_falls c.args.numbers.now c.requires) in
    found_place c.args.numbers.now c.args.number c.in-Ok.place w.0 w.1

pub returns-in-Err-clause-none : goal.returns-in-Err-clause-none
returns-in-Err-clause-none c =
    let w = searched c.args.numbers.now c.args.number (Err c.in-Err.field-0) c.in-Err.ensures.position (never_falls c.args.numbers.now c.requires) in
    none_placed c.args.numbers.now c.args.number c.in-Err.field-0 w.1 w.2
