use Rattle.std.proofs.Common.{◌≡◌, ap, sym, subst, ◌∙◌, List}
use Rattle.std.specs.Prelude.{IfErr, IfOk}
use Rattle.pk_model.specs.Tables.{Rows}
use Rattle.segment_read.specs.Reads.{OnDamage}
use Rattle.core_partial.specs.Found.{FoundView, IsFoundOf}
use Rattle.core_partial.specs.Prepared.{IsMadeOver}
use Rattle.core_partial.proofs.PrepareFacts.{found-is}
use Rattle.core_partial.proofs.preparing.found_keys.Goals as goal

pub returns-clause-over : goal.returns-clause-over
returns-clause-over g c =
    subst (λ (f : FoundView). IfOk c.keys_over.result (λ made. (m : Rows) → IsFoundOf f m → IsMadeOver f.snapshot.schema f.load made.keys.items made.results.rows.items m))
    (found-is c.args.found.now _ _ _ _ c.args.given.now c.args.ops.items c.deref.ensures.value c.found.view_is c.requires.load) c.keys_over.ensures.over

pub returns-clause-intact : goal.returns-clause-intact
returns-clause-intact g c =
    subst (λ (f : FoundView). IfErr c.keys_over.result (λ e. OnDamage e (λ x. (m : Rows) → IsFoundOf f m → ⊥)))
    (found-is c.args.found.now _ _ _ _ c.args.given.now c.args.ops.items c.deref.ensures.value c.found.view_is c.requires.load) c.keys_over.ensures.intact
