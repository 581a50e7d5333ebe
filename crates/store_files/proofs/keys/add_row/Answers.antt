use Rattle.std.proofs.Common.{[]}
use Rattle.store_files.proofs.KeyFacts.{long_here, row_dead, row_live}
use Rattle.std.proofs.Common.{◌∙◌, sym}
use Rattle.store_files.proofs.keys.add_row.Goals as goal

pub returns-then-contains-clause-added : goal.returns-then-contains-clause-added
returns-then-contains-clause-added c =
    row_dead c.args.schema.now c.args.place.segment c.args.dead.now c.args.place.row c.args.row c.args.keys.now.items c.contains.result c.contains.ensures.contains c.if-contains.true

pub returns-in-Ok-clause-added : goal.returns-in-Ok-clause-added
returns-in-Ok-clause-added c =
    row_live c.args.schema.now c.args.place.segment c.args.dead.now c.args.place.row c.args.row c.args.keys.now.items c.push.new.self.items c.in_ok-code.code c.contains.result c.contains.ensures.contains c.if-contains.false
    c.in_ok-code.ensures.code c.in-Ok.ensures.items

pub returns-in_err-code-clause-long : goal.returns-in_err-code-clause-long
returns-in_err-code-clause-long c = λ is.
    long_here c.args.schema.now c.args.dead.now c.args.place.row c.args.row [] (sym c.contains.ensures.contains ∙ c.if-contains.false) c.in_err-code.ensures.long
