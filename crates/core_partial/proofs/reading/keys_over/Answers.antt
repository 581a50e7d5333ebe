use Rattle.std.proofs.Common.{◌≡◌, ap, sym, subst, ◌∙◌, All, length, None, refl}
use Rattle.std.specs.List.{AllByRecursion}
use Rattle.partial_loads.specs.Lines.{IsShortKey}
use Rattle.std.specs.Prelude.{Err}
use Rattle.std.proofs.lemmas.Result.{err_from_is_err_and}
use Rattle.pk_values.specs.Schemas.{Layout, schema_fault}
use Rattle.core_publish.proofs.SettleFacts.{short-keys}
use Rattle.partial_loads.specs.Folded.{AreFolded, HasCode}
use Rattle.partial_loads.specs.Olds.{AreOlds}
use Rattle.pk_model.specs.Tables.{Rows, key_named}
use Rattle.core_partial.specs.Found.{IsFoundOf}
use Rattle.core_partial.specs.Making.{AreMadeKeys}
use Rattle.core_partial.specs.Preparing.{IsFoundDamage, found_in}
use Rattle.core_partial.proofs.OldFacts.{as-many, found-damage, olds-read, reads-found, undamaged}
use Rattle.old_rows.proofs.OneFacts.{cause-err}
use Rattle.core_partial.proofs.PrepareFacts.{found-keys, made-of-read, none-asked, on-damage, over-found}
use Rattle.core_partial.proofs.reading.keys_over.Goals as goal

pub fold_lines-requires : goal.fold_lines-requires
fold_lines-requires g c =
    let short = short-keys c.args.snapshot.now.schema (record { given = c.args.given.now; ops = c.args.ops.items }) c.args.ops.items refl c.requires.lawful in
    record {
      short = subst (λ (s : Layout). All (λ op. IsShortKey s (key_named op)) c.args.ops.items) (sym c.schema-2.ensures) (λ i d lt. let h = short i d lt in record { fits = h.fits; short = h.short });
    }

pub read_olds-requires : goal.read_olds-requires
read_olds-requires g c =
    as-many (found_in c.args.given.now c.args.ops.items c.args.snapshot.now c.args.located.now) c.in_ok-keys.keys.items c.requires (subst (λ (s : Layout). AreFolded s c.args.given.now None c.args.ops.items c.in_ok-keys.keys.items) c.schema-2.ensures c.in_ok-keys.ensures) ∙ ap length (sym c.deref.ensures.value)

pub make_keys-requires : goal.make_keys-requires
make_keys-requires g c =
    record {
      located = as-many (found_in c.args.given.now c.args.ops.items c.args.snapshot.now c.args.located.now) c.in_ok-keys.keys.items c.requires (subst (λ (s : Layout). AreFolded s c.args.given.now None c.args.ops.items c.in_ok-keys.keys.items) c.schema-2.ensures c.in_ok-keys.ensures);
      olds = subst (λ (s : Layout). AreOlds s c.in_ok-keys.keys.items c.in_ok-olds.olds.items) (sym (c.schema-3.ensures ∙ c.read_olds.ensures.same.schema))
          (subst (λ fs. AreOlds c.args.snapshot.now.schema fs c.in_ok-olds.olds.items) c.deref.ensures.value
          (olds-read (found_in c.args.given.now c.args.ops.items c.args.snapshot.now c.args.located.now) (subst (λ (s : Layout). schema_fault s.columns s.keys ≡ None) c.schema.ensures c.columns-columns.ensures.valid) c.requires c.deref.result.now (subst (AreFolded c.args.snapshot.now.schema c.args.given.now None c.args.ops.items) (sym c.deref.ensures.value) (subst (λ (s : Layout). AreFolded s c.args.given.now None c.args.ops.items c.in_ok-keys.keys.items) c.schema-2.ensures c.in_ok-keys.ensures)) c.in_ok-olds.olds.items c.in_ok-olds.ensures.olds));
      coded = subst (λ (s : Layout). AllByRecursion (HasCode s) c.in_ok-keys.keys.items) (sym (c.schema-3.ensures ∙ c.read_olds.ensures.same.schema)) (subst (λ (s : Layout). AreFolded s c.args.given.now None c.args.ops.items c.in_ok-keys.keys.items) c.schema-2.ensures c.in_ok-keys.ensures).coded;
    }

pub returns-clause-keys : goal.returns-clause-keys
returns-clause-keys g c =
    found-keys (found_in c.args.given.now c.args.ops.items c.args.snapshot.now c.args.located.now) (subst (λ (s : Layout). schema_fault s.columns s.keys ≡ None) c.schema.ensures c.columns-columns.ensures.valid) c.requires c.deref.result.now (subst (AreFolded c.args.snapshot.now.schema c.args.given.now None c.args.ops.items) (sym c.deref.ensures.value) (subst (λ (s : Layout). AreFolded s c.args.given.now None c.args.ops.items c.in_ok-keys.keys.items) c.schema-2.ensures c.in_ok-keys.ensures)) c.in_ok-olds.olds.items c.in_ok-olds.ensures.olds
    c.in_ok-make_keys.field-0 (c.in_ok-make_keys.ensures.folds ∙ sym c.deref.ensures.value) c.in_ok-make_keys.ensures.places
    (subst (λ (s : Layout). AreMadeKeys s c.args.given.now c.in_ok-olds.olds.items c.in_ok-make_keys.field-0) (c.schema-3.ensures ∙ c.read_olds.ensures.same.schema) c.in_ok-make_keys.ensures.made)

pub returns-clause-read : goal.returns-clause-read
returns-clause-read g c =
    made-of-read (found_in c.args.given.now c.args.ops.items c.args.snapshot.now c.args.located.now) (subst (λ (s : Layout). schema_fault s.columns s.keys ≡ None) c.schema.ensures c.columns-columns.ensures.valid) c.requires c.deref.result.now (subst (AreFolded c.args.snapshot.now.schema c.args.given.now None c.args.ops.items) (sym c.deref.ensures.value) (subst (λ (s : Layout). AreFolded s c.args.given.now None c.args.ops.items c.in_ok-keys.keys.items) c.schema-2.ensures c.in_ok-keys.ensures)) c.in_ok-olds.olds.items c.in_ok-olds.ensures.olds
    c.in_ok-make_keys.field-0 (c.in_ok-make_keys.ensures.folds ∙ sym c.deref.ensures.value) c.in_ok-make_keys.ensures.places
    (subst (λ (s : Layout). AreMadeKeys s c.args.given.now c.in_ok-olds.olds.items c.in_ok-make_keys.field-0) (c.schema-3.ensures ∙ c.read_olds.ensures.same.schema) c.in_ok-make_keys.ensures.made)

pub returns-clause-over : goal.returns-clause-over
returns-clause-over g c =
    over-found (found_in c.args.given.now c.args.ops.items c.args.snapshot.now c.args.located.now) (subst (λ (s : Layout). schema_fault s.columns s.keys ≡ None) c.schema.ensures c.columns-columns.ensures.valid) c.requires c.deref.result.now (subst (AreFolded c.args.snapshot.now.schema c.args.given.now None c.args.ops.items) (sym c.deref.ensures.value) (subst (λ (s : Layout). AreFolded s c.args.given.now None c.args.ops.items c.in_ok-keys.keys.items) c.schema-2.ensures c.in_ok-keys.ensures)) c.in_ok-olds.olds.items c.in_ok-olds.ensures.olds
    c.in_ok-make_keys.field-0 (c.in_ok-make_keys.ensures.folds ∙ sym c.deref.ensures.value) c.in_ok-make_keys.ensures.places
    (subst (λ (s : Layout). AreMadeKeys s c.args.given.now c.in_ok-olds.olds.items c.in_ok-make_keys.field-0) (c.schema-3.ensures ∙ c.read_olds.ensures.same.schema) c.in_ok-make_keys.ensures.made)

pub returns-clause-reads : goal.returns-clause-reads
returns-clause-reads g c =
    reads-found (found_in c.args.given.now c.args.ops.items c.args.snapshot.now c.args.located.now) (subst (λ (s : Layout). schema_fault s.columns s.keys ≡ None) c.schema.ensures c.columns-columns.ensures.valid) c.requires c.deref.result.now (subst (AreFolded c.args.snapshot.now.schema c.args.given.now None c.args.ops.items) (sym c.deref.ensures.value) (subst (λ (s : Layout). AreFolded s c.args.given.now None c.args.ops.items c.in_ok-keys.keys.items) c.schema-2.ensures c.in_ok-keys.ensures)) (found_in c.args.given.now c.args.ops.items c.read_olds.new.snapshot c.args.located.now) c.read_olds.ensures.reads

pub returns-in_err-make_keys-clause-reads : goal.returns-in_err-make_keys-clause-reads
returns-in_err-make_keys-clause-reads g c =
    reads-found (found_in c.args.given.now c.args.ops.items c.args.snapshot.now c.args.located.now) (subst (λ (s : Layout). schema_fault s.columns s.keys ≡ None) c.schema.ensures c.columns-columns.ensures.valid) c.requires c.deref.result.now (subst (AreFolded c.args.snapshot.now.schema c.args.given.now None c.args.ops.items) (sym c.deref.ensures.value) (subst (λ (s : Layout). AreFolded s c.args.given.now None c.args.ops.items c.in_ok-keys.keys.items) c.schema-2.ensures c.in_ok-keys.ensures)) (found_in c.args.given.now c.args.ops.items c.read_olds.new.snapshot c.args.located.now) c.read_olds.ensures.reads

pub returns-in_err-olds-clause-reads : goal.returns-in_err-olds-clause-reads
returns-in_err-olds-clause-reads g c =
    reads-found (found_in c.args.given.now c.args.ops.items c.args.snapshot.now c.args.located.now) (subst (λ (s : Layout). schema_fault s.columns s.keys ≡ None) c.schema.ensures c.columns-columns.ensures.valid) c.requires c.deref.result.now (subst (AreFolded c.args.snapshot.now.schema c.args.given.now None c.args.ops.items) (sym c.deref.ensures.value) (subst (λ (s : Layout). AreFolded s c.args.given.now None c.args.ops.items c.in_ok-keys.keys.items) c.schema-2.ensures c.in_ok-keys.ensures)) (found_in c.args.given.now c.args.ops.items c.read_olds.new.snapshot c.args.located.now) c.read_olds.ensures.reads

pub returns-in_err-keys-clause-reads : goal.returns-in_err-keys-clause-reads
returns-in_err-keys-clause-reads g c =
    none-asked (found_in c.args.given.now c.args.ops.items c.args.snapshot.now c.args.located.now)

pub returns-in_err-olds-clause-damaged : goal.returns-in_err-olds-clause-damaged
returns-in_err-olds-clause-damaged g c =
    let p = err_from_is_err_and c.from_residual-in_err-olds.result c.from_residual-in_err-olds.ensures.1 in
    rw (p.1, p.2) (on-damage _ _ (IsFoundDamage (found_in c.args.given.now c.args.ops.items c.args.snapshot.now c.args.located.now)) (λ d h. found-damage (found_in c.args.given.now c.args.ops.items c.args.snapshot.now c.args.located.now) (subst (λ (s : Layout). schema_fault s.columns s.keys ≡ None) c.schema.ensures c.columns-columns.ensures.valid) c.requires c.deref.result.now (subst (AreFolded c.args.snapshot.now.schema c.args.given.now None c.args.ops.items) (sym c.deref.ensures.value) (subst (λ (s : Layout). AreFolded s c.args.given.now None c.args.ops.items c.in_ok-keys.keys.items) c.schema-2.ensures c.in_ok-keys.ensures)) d h) c.in_err-olds.ensures.damaged)

pub returns-in_err-olds-clause-intact : goal.returns-in_err-olds-clause-intact
returns-in_err-olds-clause-intact g c =
    let p = err_from_is_err_and c.from_residual-in_err-olds.result c.from_residual-in_err-olds.ensures.1 in
    rw (p.1, p.2)
    (on-damage _ _ (λ d. (m : Rows) → IsFoundOf (found_in c.args.given.now c.args.ops.items c.args.snapshot.now c.args.located.now) m → ⊥) (λ d h m stands. undamaged (found_in c.args.given.now c.args.ops.items c.args.snapshot.now c.args.located.now) (subst (λ (s : Layout). schema_fault s.columns s.keys ≡ None) c.schema.ensures c.columns-columns.ensures.valid) c.requires c.deref.result.now (subst (AreFolded c.args.snapshot.now.schema c.args.given.now None c.args.ops.items) (sym c.deref.ensures.value) (subst (λ (s : Layout). AreFolded s c.args.given.now None c.args.ops.items c.in_ok-keys.keys.items) c.schema-2.ensures c.in_ok-keys.ensures)) m stands d h) c.in_err-olds.ensures.damaged)

pub returns-in_err-olds-clause-cause : goal.returns-in_err-olds-clause-cause
returns-in_err-olds-clause-cause g c =
    let p = err_from_is_err_and c.from_residual-in_err-olds.result c.from_residual-in_err-olds.ensures.1 in
    cause-err _ _ c.read_olds.result _ c.from_residual-in_err-olds.result c.in_err-olds.was (p.1 ∙ ap (λ x. Err x) p.2) c.read_olds.ensures.cause
