use Rattle.std.proofs.Common.{◌∙◌, sym, subst, ap, List}
use Rattle.journal_form.specs.declared.records.NewFile.{NewFile}
use Rattle.journal_form.specs.declared.records.Record.TheVariants.{Publish}
use Rattle.journal_form.specs.Versions.{changes_fit, files_of, marked, published_rowsets}
use Rattle.journal_bytes.specs.Records.{RecordFits, record_bytes}
use Rattle.tablet_state.proofs.Readying.{record_fits}
use Rattle.tablet_state.proofs.ready.next_version.Goals as goal

pub write_record-requires : goal.write_record-requires
write_record-requires c =
    subst (λ (fs : List NewFile). RecordFits c.args.edit (Publish c.args.version fs c.in-Ok.published.changed)) (sym c.from_vec.ensures)
    (record_fits c.args.edit c.args.version c.args.files.items c.in-Ok.published.changed c.ranges.edit.fits c.ranges.version.fits c.requires.files c.in-Ok.ensures.range)

pub returns-clause-told : goal.returns-clause-told
returns-clause-told c =
    let changed = c.in-Ok.published.changed in
    let told = c.as_slice.ensures.value in
    record {
      changed = changed;
      places = c.in-Ok.ensures.places;
      due = ap (λ (fs : List NewFile). changes_fit 0 (files_of (published_rowsets fs c.args.current.now)) changed) (sym told) ∙ c.in-Ok.ensures.fits;
      current_is = c.in-Ok.ensures.current ∙ ap (λ (fs : List NewFile). marked changed (published_rowsets fs c.args.current.now)) told;
      fits = record_fits c.args.edit c.args.version c.args.files.items changed c.ranges.edit.fits c.ranges.version.fits c.requires.files c.in-Ok.ensures.range;
      spelled = c.in_ok-body.ensures ∙ c.as_slice-2.ensures.value ∙ c.in_ok-bytes.ensures ∙ ap (λ (fs : List NewFile). record_bytes c.args.edit (Publish c.args.version fs changed)) c.from_vec.ensures;
    }
