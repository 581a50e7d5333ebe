use Rattle.std.proofs.Common.{◌≡◌, ◌∙◌, ap, sym, subst, List, IsTrue, take}
use Rattle.pk_values.specs.SchemaFacts.{fits_all-take}
use Rattle.pk_values.specs.Schemas.{fits_key, key_of}
use Rattle.pk_values.specs.declared.cells.Value.{Value}
use Rattle.store_files.proofs.keys.key_of_row.Goals as goal

pub returns-clause-fits : goal.returns-clause-fits
returns-clause-fits c =
    let s = c.args.schema.now in
    let same : c.truncate.new.self.items ≡ key_of s c.args.row =
    c.truncate.ensures.items ∙ ap (λ n. take n c.row.inside.cells.items) c.keys.ensures.value ∙ ap (take s.keys) c.row.view_is in
    subst (λ (k : List Value). IsTrue (fits_key s k)) (sym same) (fits_all-take s.keys s.columns c.args.row c.requires)
