use Rattle.std.proofs.Common.{◌≡◌, ◌∙◌, ◌∷◌, [], sym, subst, arith}
use Rattle.std.specs.FinMap.{empty}
use Rattle.std.proofs.lemmas.Result.{err_from_is_err_and}
use Rattle.segment_read.specs.Reads.{OnDamage}
use Rattle.journal_form.specs.Versions.{files_of}
use Rattle.tablet_state.specs.Seen.{segments_of}
use Rattle.core_recover.specs.Damages.{IsLiveDamage}
use Rattle.core_recover.specs.Indexing.{HasNoIndex, Indexes}
use Rattle.core_recover.proofs.DamageFacts.{live_back, rowset_within}
use Rattle.core_recover.proofs.IndexingFacts.{attached_same, next_rowset, no_rowset_at, numbers_same, on_damage, one_by_one, same_then, take_whole, well_zero}
use Rattle.core_recover.proofs.NamingFacts.{at_index}
use Rattle.core_recover.proofs.indexing.index_of_live.Goals as goal

pub index_files-requires-clause-numbers : goal.index_files-requires-clause-numbers
index_files-requires-clause-numbers g c = c.requires.numbers ∙ sym (numbers_same (segments_of g.R.SealedReader.view c.args.segments.now.items) (segments_of g.R.SealedReader.view c.loop-files.segments.items) c.loop-files.invariant.same.footers)

pub index_files-requires-clause-attached : goal.index_files-requires-clause-attached
index_files-requires-clause-attached g c = attached_same c.args.schema.now (segments_of g.R.SealedReader.view c.args.segments.now.items) (segments_of g.R.SealedReader.view c.loop-files.segments.items) (one_by_one (segments_of g.R.SealedReader.view c.args.segments.now.items) (segments_of g.R.SealedReader.view c.loop-files.segments.items) c.loop-files.invariant.same) c.requires.attached

pub returns-in_err-index_files-clause-intact : goal.returns-in_err-index_files-clause-intact
returns-in_err-index_files-clause-intact g c =
    let r = err_from_is_err_and c.from_residual.result c.from_residual.ensures.1 in
    rw (r.1, r.2) (subst (λ rs. OnDamage c.in_err-index_files.field-0.0 (λ d. HasNoIndex c.args.schema.now (files_of rs) (segments_of g.R.SealedReader.view c.args.segments.now.items))) c.rowsets-files-items.ensures (on_damage c.in_err-index_files.field-0.0 (λ d. HasNoIndex c.args.schema.now c.as_slice.result.now (segments_of g.R.SealedReader.view c.loop-files.segments.items)) (λ d. HasNoIndex c.args.schema.now (files_of c.rowsets-files-items.result.now) (segments_of g.R.SealedReader.view c.args.segments.now.items)) (λ d h. no_rowset_at c.args.schema.now c.rowsets-files-items.result.now c.loop-files.files-index c.files-item.result (segments_of g.R.SealedReader.view c.args.segments.now.items) (segments_of g.R.SealedReader.view c.loop-files.segments.items) (at_index c.rowsets-files-items.result.now c.loop-files.files-index c.files-item.result c.loop-files-test.true c.files-item.is) c.loop-files.invariant.same (subst (λ fs. HasNoIndex c.args.schema.now fs (segments_of g.R.SealedReader.view c.loop-files.segments.items)) c.as_slice.ensures h)) c.in_err-index_files.ensures.intact))

pub loop-files-preserved : goal.loop-files-preserved
loop-files-preserved g c = record {
  index = next_rowset c.args.schema.now c.rowsets-files-items.result.now c.loop-files.files-index c.files-item.result (segments_of g.R.SealedReader.view c.args.segments.now.items) (segments_of g.R.SealedReader.view c.loop-files.segments.items) empty c.loop-files.index.map c.index_files.new.index.map (at_index c.rowsets-files-items.result.now c.loop-files.files-index c.files-item.result c.loop-files-test.true c.files-item.is) c.loop-files.invariant.same c.loop-files.invariant.index (subst (λ fs. Indexes c.args.schema.now fs (segments_of g.R.SealedReader.view c.loop-files.segments.items) c.loop-files.index.map c.index_files.new.index.map) c.as_slice.ensures c.in_ok-index_files.ensures.index);
  same = same_then (segments_of g.R.SealedReader.view c.args.segments.now.items) (segments_of g.R.SealedReader.view c.loop-files.segments.items) (segments_of g.R.SealedReader.view c.index_files.new.segments.items) c.loop-files.invariant.same c.index_files.ensures.same;
  unfailed = λ none. well_zero (segments_of g.R.SealedReader.view c.loop-files.segments.items) (segments_of g.R.SealedReader.view c.index_files.new.segments.items) _ c.in_ok-index_files.ensures.cause (c.loop-files.invariant.unfailed none);
}

pub returns-clause-index : goal.returns-clause-index
returns-clause-index g c = subst (λ rs. Indexes c.args.schema.now (files_of rs) (segments_of g.R.SealedReader.view c.args.segments.now.items) empty c.loop-files.index.map) (take_whole c.loop-files.files-index c.rowsets-files-items.result.now (omega (arith, c.loop-files-test.false)) ∙ c.rowsets-files-items.ensures) c.loop-files.invariant.index

pub returns-in_err-index_files-clause-damaged : goal.returns-in_err-index_files-clause-damaged
returns-in_err-index_files-clause-damaged g c =
    let r = err_from_is_err_and c.from_residual.result c.from_residual.ensures.1 in
    let old = segments_of g.R.SealedReader.view c.args.segments.now.items in
    let mid = segments_of g.R.SealedReader.view c.loop-files.segments.items in
    rw (r.1, r.2) (subst (λ rs. OnDamage c.in_err-index_files.field-0.0 (IsLiveDamage c.args.schema.now (files_of rs) old)) c.rowsets-files-items.ensures
    (on_damage c.in_err-index_files.field-0.0 (IsLiveDamage c.args.schema.now c.as_slice.result.now mid) (IsLiveDamage c.args.schema.now (files_of c.rowsets-files-items.result.now) old)
    (λ d h. live_back c.args.schema.now c.files-item.result (files_of c.rowsets-files-items.result.now) old mid d c.loop-files.invariant.same
    (rowset_within c.rowsets-files-items.result.now c.loop-files.files-index c.files-item.result (at_index c.rowsets-files-items.result.now c.loop-files.files-index c.files-item.result c.loop-files-test.true c.files-item.is))
    (subst (λ fs. IsLiveDamage c.args.schema.now fs mid d) c.as_slice.ensures h)) c.in_err-index_files.ensures.damaged))
