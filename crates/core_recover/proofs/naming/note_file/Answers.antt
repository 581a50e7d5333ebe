use Rattle.std.proofs.Common.{◌≡◌, ◌∙◌, sym, refl}
use Rattle.std.specs.BTreeMap.{get}
use Rattle.std.specs.Ordering.{nat_cmp}
use Rattle.tablet_state.specs.Stands.{told_file}
use Rattle.core_recover.proofs.NamingFacts.{noted_put}
use Rattle.core_recover.proofs.naming.note_file.Goals as goal

pub returns-in-Some : goal.returns-in-Some
returns-in-Some c =
    noted_put (told_file c.args.file.now) c.number.result c.rows-rows.result (get nat_cmp c.args.noted.now) (get nat_cmp c.insert.new.self) c.in-Some.told _ c.number.ensures c.rows-rows.ensures c.in_ok-told.ensures.updates.0
    (sym c.in_ok-told.ensures.old ∙ c.in-Some.is) refl
