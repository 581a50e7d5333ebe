-- What a state is opened over.
use Rattle.std.specs.Prelude.{◌≡◌, ◌<◌, ℕ, List, Some, None, IsTrue}
use Rattle.pk_values.specs.declared.cells.Value.{Value}
use Rattle.dev_traits.specs.Image.{Image, area_of}
use Rattle.dev_traits.specs.View.{View, EachImage}
use Rattle.gated_log.specs.Log.{IsSettled}
use Rattle.pk_model.specs.declared.books.Book.{Book}
use Rattle.rowsets.specs.Live.{live, parts_of}
use Rattle.rowsets.specs.Ending.{Moved, AreMoved}
use Rattle.rowsets.specs.Indexing.{merged_place}
use Rattle.version_journal.specs.Areas.{area_of_epoch}
use Rattle.tablet_state.specs.Stands.{Stands, rowsets_of}
use Rattle.tablet_state.specs.Contents.{Contents, index_of, standing_of}
use Rattle.tablet_state.specs.State.{AreReadAs, SegmentView, named_files}

-- What is held was read of an image that stands for a book: the store is honest, both areas are synced, the journal is settled, the segments
-- read the files of the rows for which the image stands, and the index has the places of the live rows.
pub record IsRead (view : View) (area end : ℕ) (c : Contents) (segments : List SegmentView) (b : Book) (image : Image) : Type 0 where
  pub honest : IsTrue view.is_honest
  pub reads : view.seen ≡ Some image
  pub synced : (a : ℕ) → a < 2 → EachImage view (λ left. area_of left a ≡ area_of image a)
  pub stands : Stands c.schema b image
  pub same : standing_of c stands.standing.kept ≡ stands.standing
  pub in_force : area ≡ area_of_epoch c.epoch
  pub bodies : List (List ℕ)
  pub settled : IsSettled area bodies end view
  pub read : AreReadAs c.schema stands.stored segments (named_files c)
  pub moved : List Moved
  pub places : AreMoved c.schema (live stands.stored (parts_of (rowsets_of stands.standing.versions.current))) moved
  pub index : (k : List Value) → index_of c k ≡ merged_place moved k
  pub plan : c.plan ≡ None
