use Rattle.std.proofs.Common.{◌≡◌, ◌∙◌, ap, sym, subst, map, None, List}
use Rattle.std.specs.Prelude.{All, IsTrue}
use Rattle.std.specs.List.{AllByRecursion}
use Rattle.pk_values.specs.Schemas.{Layout, fits_row, schema_fault}
use Rattle.pk_values.specs.declared.cells.Value.{Value}
use Rattle.segment_form.specs.Segments.{KeysRise}
use Rattle.segment_write.specs.declared.segments.Made.{Made}
use Rattle.tablet_state.specs.Contents.{Contents}
use Rattle.tablet_state.specs.Readies.{NewSegment}
use Rattle.partial_loads.specs.Folded.{HasCode}
use Rattle.core_publish.specs.Prepared.{AreSealedOf, files_of}
use Rattle.core_partial.specs.Again.{AreRemade}
use Rattle.core_partial.specs.Moving.{moved_keys}
use Rattle.core_partial.specs.Prepared.{IsPreparedPartial, PreparedPartialView, folded_of}
use Rattle.core_partial.specs.declared.again.Remade.{Remade}
use Rattle.core_partial.proofs.AgainFacts.{again_fit, again_is, again_rise, keys_coded, over_same, remade_same}
use Rattle.core_partial.proofs.LendFacts.{lends_then, rests_lends}
use Rattle.core_partial.proofs.again.again_of.Goals as goal

pub remake-requires : goal.remake-requires
remake-requires g c =
    let st = c.args.state.now in
    let held : Contents = st.contents in
    let p : PreparedPartialView = c.args.prepared.now in
    let is : IsPreparedPartial p = c.keys.ensures.prepared c.requires.unspent in
    let here : Layout = c.in_ok-schema.schema in
    let schema_is : here ≡ held.schema = c.in_ok-schema.ensures ∙ c.schema.ensures in
    record { schema = schema_is; coded = subst (AllByRecursion (λ k. HasCode here (folded_of k))) (sym c.keys.ensures.keys) (keys_coded here p (c.requires.schema ∙ sym schema_is) is) }

pub write_again-requires : goal.write_again-requires
write_again-requires g c =
    let st = c.args.state.now in
    let held : Contents = st.contents in
    let p : PreparedPartialView = c.args.prepared.now in
    let is : IsPreparedPartial p = c.keys.ensures.prepared c.requires.unspent in
    let here : Layout = c.in_ok-schema.schema in
    let schema_is : here ≡ held.schema = c.in_ok-schema.ensures ∙ c.schema.ensures in
    let mid = c.remake.new.state in
    let remade : Remade = c.in_ok-remade.remade in
    let clean : schema_fault held.schema.columns held.schema.keys ≡ None = subst (λ (s : Layout). schema_fault s.columns s.keys ≡ None) schema_is c.columns-columns.ensures.valid in
    let are : AreRemade held st.segments p.load.given (moved_keys held p.version p.keys) remade =
    remade_same held st.segments c.keys.result.1.now p.load.given c.version.result p.version c.keys.result.0.now p.keys remade c.keys.ensures.given c.version.ensures c.keys.ensures.keys c.in_ok-remade.ensures.made in
    let rows : List (List Value) = remade.results.rows.items in
    let fit : All (λ row. IsTrue (fits_row held.schema row)) rows = again_fit held st.segments p c.requires.schema clean is remade are in
    let rise : KeysRise held.schema rows = again_rise held st.segments p c.requires.schema clean is remade are in
    record {
      fit = subst (λ (x : Contents). All (λ row. IsTrue (fits_row x.schema row)) c.deref.result.now) (sym c.remake.ensures.lends.contents)
          (subst (λ (rs : List (List Value)). All (λ row. IsTrue (fits_row held.schema row)) rs) (sym c.deref.ensures.value) fit);
      rise = subst (λ (x : Contents). KeysRise x.schema c.deref.result.now) (sym c.remake.ensures.lends.contents) (subst (KeysRise held.schema) (sym c.deref.ensures.value) rise);
    }

pub returns-in-Ok-clause-again : goal.returns-in-Ok-clause-again
returns-in-Ok-clause-again g c =
    let st = c.args.state.now in
    let held : Contents = st.contents in
    let p : PreparedPartialView = c.args.prepared.now in
    let is : IsPreparedPartial p = c.keys.ensures.prepared c.requires.unspent in
    let here : Layout = c.in_ok-schema.schema in
    let schema_is : here ≡ held.schema = c.in_ok-schema.ensures ∙ c.schema.ensures in
    let mid = c.remake.new.state in
    let remade : Remade = c.in_ok-remade.remade in
    let clean : schema_fault held.schema.columns held.schema.keys ≡ None = subst (λ (s : Layout). schema_fault s.columns s.keys ≡ None) schema_is c.columns-columns.ensures.valid in
    let are : AreRemade held st.segments p.load.given (moved_keys held p.version p.keys) remade =
    remade_same held st.segments c.keys.result.1.now p.load.given c.version.result p.version c.keys.result.0.now p.keys remade c.keys.ensures.given c.version.ensures c.keys.ensures.keys c.in_ok-remade.ensures.made in
    let see : Made g.row.S-Maker.Denot g.row.S-Maker-Sealed.Denot g.S.Maker.FileMaker → NewSegment = λ m. (g.S.Maker.FileMaker.sealed_bytes m.sealed, m.footer) in
    let files : List NewSegment = map see c.in-Ok.files.items in
    let sealed : AreSealedOf held.schema (files_of remade.results.rows.items) files =
    subst (λ (rs : List (List Value)). AreSealedOf held.schema (files_of rs) files) c.deref.ensures.value
    (subst (λ (x : Contents). AreSealedOf x.schema (files_of c.deref.result.now) files) c.remake.ensures.lends.contents c.in-Ok.ensures.sealed) in
    again_is held st.segments p c.requires.schema clean is remade are c.of.result files c.of.ensures.moves c.of.ensures.stale c.of.ensures.rows c.of.ensures.files sealed

pub returns-in-Ok-clause-over : goal.returns-in-Ok-clause-over
returns-in-Ok-clause-over g c b h open_ =
    let st = c.args.state.now in
    let held : Contents = st.contents in
    let p : PreparedPartialView = c.args.prepared.now in
    let is : IsPreparedPartial p = c.keys.ensures.prepared c.requires.unspent in
    let here : Layout = c.in_ok-schema.schema in
    let schema_is : here ≡ held.schema = c.in_ok-schema.ensures ∙ c.schema.ensures in
    over_same held here p.schema c.keys.result.1.now p.load.given b.current c.version.result p.version c.keys.result.0.now p.keys c.of.result.rows
    (schema_is ∙ sym c.requires.schema) c.keys.ensures.given c.version.ensures c.keys.ensures.keys (c.of.ensures.rows ∙ c.in_ok-remade.ensures.over b h open_)

pub returns-in-Ok-clause-lends : goal.returns-in-Ok-clause-lends
returns-in-Ok-clause-lends g c =
    lends_then g.S.Store.view c.args.state.now c.remake.new.state c.write_again.new.state c.remake.ensures.lends
    (rests_lends g.S.Store.view c.remake.new.state c.write_again.new.state c.write_again.ensures.rests)
