-- The types of a table.
use Rattle.std.proofs.Common.{◌≡◌, List, All, IsTrue, None, get_or, sym, subst}
use Rattle.std.proofs.lemmas.Option.{slice_get-get_or}
use Rattle.pk_values.specs.Schemas.{is_kind, schema_fault, Layout}
use Rattle.pk_values.specs.SchemaFacts.{lawful_column}
use Rattle.pk_values.specs.declared.cells.Column.{Column}

-- the types of a schema's columns
pub kinds : (s : Layout) (columns : List Column) → columns ≡ s.columns → schema_fault s.columns s.keys ≡ None → All (λ c. IsTrue (is_kind c.kind)) columns
kinds s columns is valid = subst (λ (cs : List Column). All (λ c. IsTrue (is_kind c.kind)) cs) (sym is)
    (λ k d lt. (lawful_column s k (get_or s.columns k d) valid (slice_get-get_or s.columns k d lt)).typed)
