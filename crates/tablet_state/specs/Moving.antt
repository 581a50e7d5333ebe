-- Which places of an earlier version are still live there, and what the keys that stand at them still have.
use Rattle.std.specs.Prelude.{◌≡◌, ◌<◌, ℕ, ◌+◌, ◌-◌, ◌^◌, ◌==◌, min, List, [], ◌∷◌, Option, Some, None, Bool as Truth, true, false, cond, if◌then◌else◌, nat_le, slice_get}
use Rattle.std.specs.FinMap.{get}
use Rattle.pk_values.specs.Schemas.{Layout}
use Rattle.pk_values.specs.declared.cells.Value.{Value}
use Rattle.pk_model.specs.declared.books.Book.{Book}
use Rattle.pk_model.specs.Books.{rows_at}
use Rattle.pk_model.specs.Tables.{Rows}
use Rattle.dev_traits.specs.View.{View}
use Rattle.dev_traits.specs.Reader.{SameFile, IsNew}
use Rattle.index_level0.specs.declared.place.Place.{Place}
use Rattle.journal_form.specs.Versions.{Rowset as ListedRowset}
use Rattle.kept_versions.specs.Files.{is_live}
use Rattle.segment_read.specs.Rows.{IsSegmentOf}
use Rattle.rowsets.specs.Live.{Files}
use Rattle.journal_form.specs.Meaning.{Entry}
use Rattle.tablet_state.specs.Holding.{Holds}
use Rattle.tablet_state.specs.Contents.{Contents, begun_of, current_number, index_of, standing_of}
use Rattle.tablet_state.specs.Snapshots.{rowsets_at}
use Rattle.tablet_state.specs.State.{Has, SegmentView, Shown, segment_of}

abbrev pub lives_in : Option (List ListedRowset) → Place → Truth
lives_in None p = false
lives_in (Some rowsets) p = is_live rowsets p

-- the version is kept, and has a live row at the place as it stands now
abbrev pub keeps_live : Contents → ℕ → Place → Truth
keeps_live c v p = cond (nat_le c.floor v) (lives_in (rowsets_at c v) p) false

-- there is a segment of the file, which has this row
pub record HasRowOf (segments : List SegmentView) (p : Place) : Type 0 where
  pub segment : SegmentView
  pub there : segment_of segments p.segment ≡ Some segment
  pub within : p.row < segment.footer.rows

-- another segment of a file: with a reader of its own, which has counted nothing
pub record IsCopyOf (segments : List SegmentView) (file : ℕ) (copy : SegmentView) : Type 0 where
  pub segment : SegmentView
  pub there : segment_of segments file ≡ Some segment
  pub number : copy.number ≡ file
  pub footer : copy.footer ≡ segment.footer
  pub same : SameFile segment.reader copy.reader
  pub new : IsNew copy.reader

-- the segment's file is one of rows, and has this row at its place
pub record HasAt (s : Layout) (g : SegmentView) (row : ℕ) (there : Option (List Value)) : Type 0 where
  pub file : List ℕ
  pub told : g.reader.bytes ≡ Some file
  pub rows : List (List Value)
  pub is : IsSegmentOf s g.footer file rows
  pub at : slice_get rows row ≡ there

-- the segment with one read more, as far as a u64 goes
abbrev pub read_more : SegmentView → SegmentView
read_more g = record g { reader = record g.reader { reads = min (g.reader.reads + 1) (2 ^ 64 - 1) } }

-- the segments, where the reader of a file's was read once more
abbrev pub read_once : ℕ → List SegmentView → List SegmentView
read_once file [] = []
read_once file (g ∷ gs) = if g.number == file then read_more g ∷ gs else g ∷ read_once file gs

-- how often the readers of segments were read, all together
abbrev pub total_reads : List SegmentView → ℕ
total_reads [] = 0
total_reads (g ∷ gs) = g.reader.reads + total_reads gs

-- What stands for a book tells of a key. Where the index has no place of it, it has no row. Where the index has a place
-- of it that is a live one of an earlier version too, the book keeps that version, and the key has the row that it had
-- there.
pub record TellsKey (c : Contents) (b : Book) (k : List Value) : Type 0 where
  pub absent : index_of c k ≡ None → get b.current k ≡ None
  pub stood : (v : ℕ) (p : Place) → index_of c k ≡ Some p → keeps_live c v p ≡ true
      → (m : Rows) × (rows_at b v ≡ Some m) × (get b.current k ≡ get m k)

abbrev pub KeysAreTold : Type 0
KeysAreTold = (c : Contents) (stored : Files) (kept : List Entry) (b : Book)
    → Holds c.schema stored (standing_of c kept) (index_of c) (begun_of c) b → (k : List Value) → TellsKey c b k

-- where an open state has a book, each place that its index has is a live row of the current version
abbrev pub PlacesAreLive : {S : Type 0} → (S → View) → Shown S → Type 0
PlacesAreLive view st = (b : Book) → Has view st b → st.closed ≡ None → (k : List Value) (p : Place) → index_of st.contents k ≡ Some p
    → keeps_live st.contents (current_number st.contents) p ≡ true
