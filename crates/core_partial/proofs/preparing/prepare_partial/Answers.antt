use Rattle.std.proofs.Common.{◌≡◌, ap, sym, subst, ◌∙◌, List, map, refl}
use Rattle.pk_model.specs.declared.calls.Load.{Load}
use Rattle.core_partial.specs.Found.{FoundView}
use Rattle.core_partial.proofs.PrepareFacts.{found-stays, is-prepared, over-same, sealed-same}
use Rattle.core_partial.proofs.preparing.prepare_partial.Goals as goal

pub returns-in_err-keys-clause-stays : goal.returns-in_err-keys-clause-stays
returns-in_err-keys-clause-stays g c =
    found-stays c.args.found.now c.found_keys.new.found c.found_keys.ensures.same c.found_keys.ensures.load c.found_keys.ensures.places

pub returns-in_err-files-clause-stays : goal.returns-in_err-files-clause-stays
returns-in_err-files-clause-stays g c =
    found-stays c.args.found.now c.found_keys.new.found c.found_keys.ensures.same c.found_keys.ensures.load c.found_keys.ensures.places

pub returns-clause-stays : goal.returns-clause-stays
returns-clause-stays g c =
    found-stays c.args.found.now c.found_keys.new.found c.found_keys.ensures.same c.found_keys.ensures.load c.found_keys.ensures.places

pub invariant_of-result : goal.invariant_of-result
invariant_of-result g c =
    let schema = (c.of.ensures ∙ c.schema-schema.ensures ∙ ap (λ (f : FoundView). f.snapshot.schema) c.found.view_is ∙ c.found_keys.ensures.same.schema) in
    let rows = (ap (λ v. v.items) c.of-2.ensures) in (
      c.into_vec-given.ensures ∙ ap (λ (l : Load). l.given) (sym c.of-kept.ensures),
      λ unspent. is-prepared c.args.found.now c.in_ok-keys.field-0 _ c.in_ok-keys.ensures.keys schema (c.of-kept.ensures ∙ sym c.requires.located) refl rows
          (sealed-same _ _ _ _ _ (c.schema-schema.ensures ∙ ap (λ (f : FoundView). f.snapshot.schema) c.found.view_is ∙ c.found_keys.ensures.same.schema) c.deref-2.ensures.value c.in_ok-files.ensures.sealed),
    )

pub returns-clause-over : goal.returns-clause-over
returns-clause-over g c =
    λ m stands. over-same _ _ _ _ _ _ _ m (c.of.ensures ∙ c.schema-schema.ensures ∙ ap (λ (f : FoundView). f.snapshot.schema) c.found.view_is ∙ c.found_keys.ensures.same.schema) (c.of-kept.ensures ∙ sym c.requires.located) (ap (λ v. v.items) c.of-2.ensures) (c.in_ok-keys.ensures.over m stands)
