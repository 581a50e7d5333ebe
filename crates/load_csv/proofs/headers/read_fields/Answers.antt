use Rattle.std.proofs.Common.{◌≡◌, ◌∙◌, ◌+◌, ◌∷◌, ◌++◌, [], sym, ap, arith, length, length-append, drop, rules, Ok, Err}
use Rattle.csv.specs.Records.{fields_of}
use Rattle.load_csv.specs.declared.headers.Field.{Field}
use Rattle.load_csv.specs.Results.{◌and_then◌}
use Rattle.load_csv.specs.Headers.{field_named, fields_after, new_field}
use Rattle.load_csv.proofs.LoadFacts.{fields_after-step}
use Rattle.load_csv.proofs.headers.read_fields.Goals as goal

pub returns-in_err-field-clause-fault : goal.returns-in_err-field-clause-fault
returns-in_err-field-clause-fault c =
    let s = c.args.schema.now in
    let names = fields_of c.args.names.now in
    let before = c.loop-i.fields.items in
    let told : new_field before (length before + 1) (field_named s c.text_at.result.now) ≡ Err c.in_err-field.field-0.0 =
    rw c.loop-i.invariant.count (cc (c.new_field.ensures, c.in_err-field.was, c.field_named-named.ensures, c.deref.ensures.value)) in
    let step = fields_after-step s before names c.loop-i.i c.text_at.result.now c.text_at.ensures in
    let fault : fields_after s [] names ≡ Err c.in_err-field.field-0.0 =
    sym c.loop-i.invariant.rest ∙ step ∙ ap (λ r. r and_then (λ (f : Field). fields_after s (before ++ f ∷ []) (drop (c.loop-i.i + 1) names))) told in
    search rules

pub loop-i-preserved : goal.loop-i-preserved
loop-i-preserved c =
    let s = c.args.schema.now in
    let names = fields_of c.args.names.now in
    let before = c.loop-i.fields.items in
    let told : new_field before (length before + 1) (field_named s c.text_at.result.now) ≡ Ok c.in_ok-field.field =
    rw c.loop-i.invariant.count (cc (c.new_field.ensures, c.in_ok-field.was, c.field_named-named.ensures, c.deref.ensures.value)) in
    let step = fields_after-step s before names c.loop-i.i c.text_at.result.now c.text_at.ensures in
    let more : fields_after s [] names ≡ fields_after s (before ++ c.in_ok-field.field ∷ []) (drop (c.loop-i.i + 1) names) =
    sym c.loop-i.invariant.rest ∙ step ∙ ap (λ r. r and_then (λ (f : Field). fields_after s (before ++ f ∷ []) (drop (c.loop-i.i + 1) names))) told in
    record {
      count = rw (c.in_ok-push_field.ensures.ok, length-append) (omega (arith, c.loop-i.invariant.count));
      rest = rw c.in_ok-push_field.ensures.ok (sym more);
    }
