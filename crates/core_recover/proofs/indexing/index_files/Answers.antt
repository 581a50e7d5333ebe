use Rattle.std.proofs.Common.{◌≡◌, ◌∙◌, ◌∷◌, [], sym, subst, arith}
use Rattle.std.specs.FinMap.{empty}
use Rattle.std.proofs.lemmas.Result.{err_from_is_err_and}
use Rattle.segment_read.specs.Reads.{OnDamage}
use Rattle.journal_form.specs.Versions.{files_of}
use Rattle.tablet_state.specs.Seen.{segments_of}
use Rattle.core_recover.specs.Damages.{IsLiveDamage}
use Rattle.core_recover.specs.Indexing.{HasNoIndex, Indexes}
use Rattle.core_recover.proofs.DamageFacts.{live_back, one_within}
use Rattle.core_recover.proofs.IndexingFacts.{attached_same, next_file, no_file_at, numbers_same, on_damage, one_by_one, same_then, take_whole, well_zero}
use Rattle.core_recover.proofs.NamingFacts.{at_index}
use Rattle.core_recover.proofs.indexing.index_files.Goals as goal

pub index_file-requires-clause-numbers : goal.index_file-requires-clause-numbers
index_file-requires-clause-numbers g c = c.requires.numbers ∙ sym (numbers_same (segments_of g.R.SealedReader.view c.args.segments.now.items) (segments_of g.R.SealedReader.view c.loop-file.segments.items) c.loop-file.invariant.same.footers)

pub index_file-requires-clause-attached : goal.index_file-requires-clause-attached
index_file-requires-clause-attached g c = attached_same c.args.schema.now (segments_of g.R.SealedReader.view c.args.segments.now.items) (segments_of g.R.SealedReader.view c.loop-file.segments.items) (one_by_one (segments_of g.R.SealedReader.view c.args.segments.now.items) (segments_of g.R.SealedReader.view c.loop-file.segments.items) c.loop-file.invariant.same) c.requires.attached

pub returns-in_err-index_file-clause-intact : goal.returns-in_err-index_file-clause-intact
returns-in_err-index_file-clause-intact g c =
    let r = err_from_is_err_and c.from_residual.result c.from_residual.ensures.1 in
    rw (r.1, r.2) (on_damage c.in_err-index_file.field-0.0 (λ d. HasNoIndex c.args.schema.now (c.file-item.result ∷ []) (segments_of g.R.SealedReader.view c.loop-file.segments.items)) (λ d. HasNoIndex c.args.schema.now c.args.files.now (segments_of g.R.SealedReader.view c.args.segments.now.items)) (λ d h. no_file_at c.args.schema.now c.args.files.now c.loop-file.file-index c.file-item.result (segments_of g.R.SealedReader.view c.args.segments.now.items) (segments_of g.R.SealedReader.view c.loop-file.segments.items) (at_index c.args.files.now c.loop-file.file-index c.file-item.result c.loop-file-test.true c.file-item.is) c.loop-file.invariant.same h) c.in_err-index_file.ensures.intact)

pub loop-file-preserved : goal.loop-file-preserved
loop-file-preserved g c = record {
  index = next_file c.args.schema.now c.args.files.now c.loop-file.file-index c.file-item.result (segments_of g.R.SealedReader.view c.args.segments.now.items) (segments_of g.R.SealedReader.view c.loop-file.segments.items) c.args.index.now.map c.loop-file.index.map c.index_file.new.index.map (at_index c.args.files.now c.loop-file.file-index c.file-item.result c.loop-file-test.true c.file-item.is) c.loop-file.invariant.same c.loop-file.invariant.index c.in_ok-index_file.ensures.index;
  same = same_then (segments_of g.R.SealedReader.view c.args.segments.now.items) (segments_of g.R.SealedReader.view c.loop-file.segments.items) (segments_of g.R.SealedReader.view c.index_file.new.segments.items) c.loop-file.invariant.same c.index_file.ensures.same;
  unfailed = λ none. well_zero (segments_of g.R.SealedReader.view c.loop-file.segments.items) (segments_of g.R.SealedReader.view c.index_file.new.segments.items) _ c.in_ok-index_file.ensures.cause (c.loop-file.invariant.unfailed none);
}

pub returns-clause-index : goal.returns-clause-index
returns-clause-index g c = subst (λ fs. Indexes c.args.schema.now fs (segments_of g.R.SealedReader.view c.args.segments.now.items) c.args.index.now.map c.loop-file.index.map) (take_whole c.loop-file.file-index c.args.files.now (omega (arith, c.loop-file-test.false))) c.loop-file.invariant.index

pub returns-in_err-index_file-clause-damaged : goal.returns-in_err-index_file-clause-damaged
returns-in_err-index_file-clause-damaged g c =
    let r = err_from_is_err_and c.from_residual.result c.from_residual.ensures.1 in
    let old = segments_of g.R.SealedReader.view c.args.segments.now.items in
    let mid = segments_of g.R.SealedReader.view c.loop-file.segments.items in
    rw (r.1, r.2) (on_damage c.in_err-index_file.field-0.0 (IsLiveDamage c.args.schema.now (c.file-item.result ∷ []) mid) (IsLiveDamage c.args.schema.now c.args.files.now old)
    (λ d h. live_back c.args.schema.now (c.file-item.result ∷ []) c.args.files.now old mid d c.loop-file.invariant.same
    (one_within c.args.files.now c.loop-file.file-index c.file-item.result (at_index c.args.files.now c.loop-file.file-index c.file-item.result c.loop-file-test.true c.file-item.is)) h) c.in_err-index_file.ensures.damaged)
