use Rattle.std.proofs.Common.{◌∙◌, ◌<◌, sym, ap, arith, length, get_or, [], Some}
use Rattle.std.proofs.lemmas.Option.{slice_get-get_or}
use Rattle.csv.specs.Records.{fields_of}
use Rattle.load_csv.specs.declared.headers.Field.TheVariants as field
use Rattle.load_csv.proofs.LoadFacts.{is_delete-step}
use Rattle.load_csv.proofs.lines.is_delete.Goals as goal

pub returns-in-Op : goal.returns-in-Op
returns-in-Op c =
    let fields = c.args.fields.now in
    let texts = fields_of c.args.row.now in
    let here = slice_get-get_or fields c.loop-i.i field.Op c.loop-i-test.true ∙ ap Some c.in-Op.is in
    c.delete_told.ensures ∙ sym (is_delete-step fields texts c.loop-i.i field.Op c.text_at.result.now here c.text_at.ensures) ∙ c.loop-i.invariant

pub loop-i-preserved : goal.loop-i-preserved
loop-i-preserved c =
    let fields = c.args.fields.now in
    let texts = fields_of c.args.row.now in
    let within : c.loop-i.i < length texts = omega (arith, c.requires, c.loop-i-test.true) in
    let here = slice_get-get_or fields c.loop-i.i field.Op c.loop-i-test.true ∙ ap Some c.in_default.is in
    sym (is_delete-step fields texts c.loop-i.i (field.Column c.in_default.field-0) (get_or texts c.loop-i.i []) here (slice_get-get_or texts c.loop-i.i [] within)) ∙ c.loop-i.invariant
