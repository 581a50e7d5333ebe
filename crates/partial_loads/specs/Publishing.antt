-- A located load from end to end: what is written before the turn and in it, and that what is held after it is the book after the load.
use Rattle.std.specs.Prelude.{◌≡◌, ℕ, ◌+◌, List, [], ◌++◌, map, None, cond, ◌||◌}
use Rattle.pk_values.specs.Schemas.{Layout}
use Rattle.pk_values.specs.declared.cells.Value.{Value}
use Rattle.pk_model.specs.declared.books.Book.{Book}
use Rattle.pk_model.specs.declared.calls.Load.{Load}
use Rattle.pk_model.specs.Books.{publish, version}
use Rattle.pk_model.specs.Laws.{KeysStandFirst}
use Rattle.pk_model.specs.Lawful.{IsLawful}
use Rattle.pk_model.specs.Tables.{Rows, touches}
use Rattle.index_level0.specs.declared.place.Place.{Place}
use Rattle.rowsets.specs.Live.{Part, parts_of, Files, Apart, FilesOnce, is_among, Index}
use Rattle.rowsets.specs.Marks.{stands_in}
use Rattle.rowsets.specs.Loads.{ComeWithRow}
use Rattle.rowsets.specs.Indexing.{merged_place, places_of}
use Rattle.rowsets.specs.Merging.{moved_to, all_live, written}
use Rattle.rowsets.specs.Books.{Held, Readings, HoldsBook, ReadAlike, held_after, held_at}
use Rattle.partial_loads.specs.declared.folds.Folded.{Folded}
use Rattle.partial_loads.specs.Folded.{AreFolded, folded_keys}
use Rattle.partial_loads.specs.Making.{HaveChanges, made_rows}
use Rattle.partial_loads.specs.Moves.{Located, HadRows, NoneTwice, ReadsAlike, WereLocated, keys_of, moved, stays_live}
use Rattle.partial_loads.specs.Settling.{settled_index}

-- where each key stands after a load whose rows were all made in the turn
abbrev pub loaded_index : List (List Value) → Index → Index → Index
loaded_index touched placed index k = cond (is_among touched k) (placed k) (index k)

-- A load whose rows are all made in the turn, from the rows of now: its files hold the rows that its changes make of them, and the rows where its keys stand are marked dead.
abbrev pub InTurnLoadIsHeld : Type 0
InTurnLoadIsHeld = (s : Layout) (load : Load) (rows : Readings) (h : Held) (b : Book) (folded : List Folded) (files : List ℕ) (dead : List Place)
    → let next = rows (version b + 1) in
    HoldsBook s rows h b → ReadAlike (rows (version b)) next (parts_of h.current) → IsLawful s load
    → AreFolded s load.given None load.ops folded → written next files ≡ made_rows s load.given b.current folded
    → ComeWithRow next [] (map all_live files) → Apart (parts_of h.current) (map all_live files) → FilesOnce (map all_live files)
    → ((p : Place) → stands_in dead p ≡ stands_in (places_of h.index (folded_keys folded)) p)
    → HoldsBook s rows (held_after dead (map all_live files) (loaded_index (touches load.ops) (merged_place (moved_to s next files)) h.index) h) (publish s b load)

-- Before the turn the files `made` were written, with the rows that the load's changes make of the rows `was`. In the turn the files `remade` were, with the rows that the changes of the keys that moved,
-- and no others, make of the rows of now. All these files are new. Marked dead are the rows where the keys of the load stand now, and of those in `made` the ones of the keys that moved.
pub record AreWritten (s : Layout) (load : Load) (rows : Files) (current : List Part) (index : Index) (was now : Rows) (located : List Located) (again : List (List Value))
    (folded more : List Folded) (made remade : List ℕ) (dead : List Place) : Type 0 where
  pub folds : AreFolded s load.given None load.ops folded
  pub changes : HaveChanges load more
  pub once : NoneTwice (folded_keys more)
  pub keys : (k : List Value) → is_among (folded_keys more) k ≡ is_among again k
  pub first : written rows made ≡ made_rows s load.given was folded
  pub second : written rows remade ≡ made_rows s load.given now more
  pub first_some : ComeWithRow rows [] (map all_live made)
  pub second_some : ComeWithRow rows [] (map all_live remade)
  pub apart : Apart (map all_live made) (map all_live remade)
  pub new : Apart current (map all_live made ++ map all_live remade)
  pub files : FilesOnce (map all_live made ++ map all_live remade)
  pub dead_are : (p : Place) → stands_in dead p ≡ (stands_in (places_of index (keys_of located)) p || stands_in (places_of (merged_place (moved_to s rows made)) again) p)

-- Where what is held stands for a book, and the version at which the load was located has, where it is kept, the rows that it had, what is held after the load is the book after it.
abbrev pub WrittenLoadIsHeld : Type 0
WrittenLoadIsHeld = (s : Layout) (load : Load) (rows : Readings) (h : Held) (b : Book) (v : ℕ) (was : Rows) (located : List Located) (folded more : List Folded) (made remade : List ℕ) (dead : List Place)
    → let again = keys_of (moved (stays_live (rows v) (held_at h b.floor v)) h.index located) in
    let next = rows (version b + 1) in
    HoldsBook s rows h b → HadRows b v was → ReadsAlike (rows v) (held_at h b.floor v) (rows (version b)) h.current → ReadAlike (rows (version b)) next (parts_of h.current)
    → IsLawful s load → KeysStandFirst s was → WereLocated (touches load.ops) was located
    → AreWritten s load next (parts_of h.current) h.index was b.current located again folded more made remade dead
    → let places = settled_index (touches load.ops) again (merged_place (moved_to s next made)) (merged_place (moved_to s next remade)) h.index in
    HoldsBook s rows (held_after dead (map all_live made ++ map all_live remade) places h) (publish s b load)
