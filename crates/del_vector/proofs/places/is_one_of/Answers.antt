use Rattle.del_vector.proofs.DeadFacts.{found, all_before}
use Rattle.del_vector.proofs.places.is_one_of.Goals as goal

pub returns-then-place-rows : goal.returns-then-place-rows
returns-then-place-rows c = found c.args.rows.now c.args.row c.place_of-place.result c.requires c.if-place-rows.true c.place_of-place.ensures.before c.place_of-place.ensures.behind

pub returns-else-place-rows : goal.returns-else-place-rows
returns-else-place-rows c = all_before c.args.rows.now c.args.row c.place_of-place.result c.if-place-rows.false c.place_of-place.ensures.before
