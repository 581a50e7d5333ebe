use Rattle.std.proofs.Common.{sym, subst, List, map}
use Rattle.std.specs.Prelude.{All, IsTrue, Option, ℕ}
use Rattle.column_page.specs.declared.footers.Footer.{Footer}
use Rattle.pk_values.specs.Schemas.{fits_row}
use Rattle.segment_form.specs.Segments.{KeysRise}
use Rattle.segment_write.specs.declared.segments.Made.{Made}
use Rattle.core_publish.specs.Prepared.{IsPrepared}
use Rattle.core_publish.proofs.SettleFacts.{prepared}
use Rattle.core_publish.proofs.prepared.prepare.Goals as goal

pub write_files-requires : goal.write_files-requires
write_files-requires g c =
    let same = sym c.deref.ensures.value in
    record {
      fit = subst (All (λ row. IsTrue (fits_row c.args.schema.now row))) same c.in_ok-rows.ensures.fit;
      rise = subst (KeysRise c.args.schema.now) same c.in_ok-rows.ensures.rise;
    }

pub returns-clause-prepared : goal.returns-clause-prepared
returns-clause-prepared g c =
    prepared c.args.schema.now c.args.load c.requires.lawful c.requires.whole c.deref.result.now _ c.in_ok-rows.field-0.rows.items c.in_ok-rows.field-0.entries.items
    c.deref.ensures.value c.in_ok-rows.ensures.rows c.in_ok-rows.ensures.entries c.in_ok-rows.ensures.few c.in_ok-files.ensures.sealed

pub invariant_of-result : goal.invariant_of-result
invariant_of-result g c =
    let see : Made g.row.M.Denot g.row.M-Sealed.Denot g.M.FileMaker → Option (List ℕ) × Footer = λ f. (g.M.FileMaker.sealed_bytes f.sealed, f.footer) in
    let files = map see c.in_ok-files.files.items in
    let entries = c.in_ok-rows.field-0.entries.items in
    let are : IsPrepared c.args.schema.now c.args.load files entries =
    prepared c.args.schema.now c.args.load c.requires.lawful c.requires.whole c.deref.result.now files c.in_ok-rows.field-0.rows.items entries
    c.deref.ensures.value c.in_ok-rows.ensures.rows c.in_ok-rows.ensures.entries c.in_ok-rows.ensures.few c.in_ok-files.ensures.sealed in
    λ unspent. subst (λ s. IsPrepared s c.of-whole.result.value files entries) (sym c.of.ensures) (subst (λ load. IsPrepared c.args.schema.now load files entries) (sym c.of-whole.ensures) are)
