use Rattle.std.proofs.Common.{◌≡◌, ◌≢◌, ◌∙◌, ◌+◌, sym, ap, get_or, drop, rules, List, Err}
use Rattle.std.proofs.lemmas.Option.{slice_get-get_or}
use Rattle.csv.specs.Records.{fields_of}
use Rattle.pk_values.specs.declared.cells.Value.{Value}
use Rattle.load_csv.specs.declared.loads.LoadFault.TheVariants as fault
use Rattle.load_csv.specs.declared.headers.Field.TheVariants as field
use Rattle.load_csv.specs.Results.{◌and_then◌}
use Rattle.load_csv.specs.Lines.{cells_of, with_fields}
use Rattle.load_csv.proofs.LoadFacts.{with_fields-step}
use Rattle.load_csv.proofs.cells.read_cells.Goals as goal

pub returns-in_err-put_field-clause-fault : goal.returns-in_err-put_field-clause-fault
returns-in_err-put_field-clause-fault c =
    let s = c.args.schema.now in
    let fields = c.args.fields.now in
    let texts = fields_of c.args.row.now in
    let i = c.loop-i.i in
    let step = with_fields-step s c.args.n c.args.delete (i + 1) c.loop-i.cells.items fields texts i (get_or fields i field.Op) c.text_at.result.now (slice_get-get_or fields i field.Op c.loop-i-test.true) c.text_at.ensures in
    let told : c.in_err-put_field.field-0.0 ≢ fault.Memory → cells_of s fields c.args.n c.args.delete texts ≡ Err c.in_err-put_field.field-0.0 =
    λ other. sym c.loop-i.invariant.rest ∙ step ∙ ap (λ r. r and_then (λ (more : List Value). with_fields s c.args.n c.args.delete (i + 1 + 1) more (drop (i + 1) fields) (drop (i + 1) texts))) (c.in_err-put_field.ensures.fault other) in
    search rules

pub loop-i-preserved : goal.loop-i-preserved
loop-i-preserved c =
    let s = c.args.schema.now in
    let fields = c.args.fields.now in
    let texts = fields_of c.args.row.now in
    let i = c.loop-i.i in
    let step = with_fields-step s c.args.n c.args.delete (i + 1) c.loop-i.cells.items fields texts i (get_or fields i field.Op) c.text_at.result.now (slice_get-get_or fields i field.Op c.loop-i-test.true) c.text_at.ensures in
    record {
      width = c.in_ok-put_field.ensures.width ∙ c.loop-i.invariant.width;
      rest = sym (sym c.loop-i.invariant.rest ∙ step ∙ ap (λ r. r and_then (λ (more : List Value). with_fields s c.args.n c.args.delete (i + 1 + 1) more (drop (i + 1) fields) (drop (i + 1) texts))) c.in_ok-put_field.ensures.ok);
    }
