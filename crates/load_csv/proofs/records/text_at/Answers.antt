use Rattle.std.proofs.Common.{◌∙◌, sym, []}
use Rattle.std.proofs.lemmas.Option.{slice_get-get_or}
use Rattle.csv.specs.Records.{fields_of}
use Rattle.load_csv.proofs.LoadFacts.{field_at-slice_get}
use Rattle.load_csv.proofs.records.text_at.Goals as goal

pub returns-in-Some : goal.returns-in-Some
returns-in-Some c = sym (field_at-slice_get (fields_of c.args.row.now) c.args.i) ∙ sym c.in-Some.ensures.value

pub returns-in-None : goal.returns-in-None
returns-in-None c =
    let there = slice_get-get_or (fields_of c.args.row.now) c.args.i [] c.requires in
    let none = field_at-slice_get (fields_of c.args.row.now) c.args.i in
    cc (there, none, c.in-None.ensures.value)
