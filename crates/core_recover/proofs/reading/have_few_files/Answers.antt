use Rattle.std.proofs.Common.{◌≡◌, ℕ, ◌∙◌, List, [], ◌∷◌, ◌++◌, take, length, sym, subst, true, false, not, Bool, arith, nat_le}
use Rattle.std.specs.List.{AllByRecursion}
use Rattle.std.proofs.lemmas.Bool.{leb-false}
use Rattle.journal_form.specs.Versions.{Rowset as ListedRowset, files_of}
use Rattle.tablet_state.specs.State.{HasFewFiles, most_files}
use Rattle.tablet_state.proofs.FileFacts.{all-append}
use Rattle.core_recover.proofs.IndexingFacts.{take_got, take_whole}
use Rattle.core_recover.proofs.NamingFacts.{at_index}
use Rattle.core_recover.proofs.reading.have_few_files.Goals as goal

few_of : (v : List ListedRowset) (b : Bool) → b ≡ nat_le most_files (length (files_of v)) → b ≡ false → HasFewFiles v
few_of v b is below = leb-false most_files (length (files_of v)) (sym is ∙ below)

pub loop-version-preserved : goal.loop-version-preserved
loop-version-preserved c =
    subst (AllByRecursion HasFewFiles) (sym (take_got c.args.older.now c.loop-version.version-index c.version-item.result (at_index c.args.older.now c.loop-version.version-index c.version-item.result c.loop-version-test.true c.version-item.is)))
    (all-append HasFewFiles (take c.loop-version.version-index c.args.older.now) (c.version-item.result ∷ []) c.loop-version.invariant (few_of c.version-item.result c.has_many_files.result c.has_many_files.ensures c.if-has_many_files.false, tt))
