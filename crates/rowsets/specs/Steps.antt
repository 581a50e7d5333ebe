-- How a tablet makes such changes: a load by its new files, by where the index finds the keys that it touches, and by where they stand from
-- then on; a compaction by the files that its merge wrote.
use Rattle.std.specs.Prelude.{◌≡◌, ◌↔◌, ℕ, ◌+◌, List, [], ◌++◌, map, length, drop, Some, None, true}
use Rattle.std.specs.List.{AllByRecursion}
use Rattle.std.specs.FinMap.{get, empty, keys, values, len}
use Rattle.key_code.specs.KeyCode.{key_code}
use Rattle.pk_values.specs.Schemas.{Layout, key_of, fits_key, schema_fault}
use Rattle.pk_values.specs.declared.cells.Value.{Value}
use Rattle.pk_model.specs.declared.calls.Load.{Load}
use Rattle.pk_model.specs.declared.books.Plan.{Plan}
use Rattle.pk_model.specs.declared.books.Book.{Book}
use Rattle.pk_model.specs.Books.{version, publish, change_end, late}
use Rattle.pk_model.specs.Lawful.{IsLawful}
use Rattle.pk_model.specs.Tables.{Rows, after, touches}
use Rattle.index_level0.specs.declared.place.Place.{Place}
use Rattle.rowsets.specs.Live.{Part, Version, parts_of, Files, Live, live, names, Apart, FilesOnce, is_among, HasKey, StandsFor, Index, IsIndex}
use Rattle.rowsets.specs.Marks.{stands_in, Rises, marked}
use Rattle.rowsets.specs.Changes.{one_rowset}
use Rattle.rowsets.specs.Loads.{AreResultsOver, AreRows, ComeWithRow, IsWhole}
use Rattle.rowsets.specs.Ending.{HasSameRows, compacted, found_late}
use Rattle.rowsets.specs.Merging.{all_live, written, moved_to, numbered, with_files, all_rows}
use Rattle.rowsets.specs.Indexing.{Move, is_moved, place_after, moved_index, places_of, Cover, kept_moves, TellsKeys}
use Rattle.rowsets.specs.Books.{Held, Readings, HoldsBook, ReadAlike, held_after}

-- the same places
abbrev pub HaveSame : List Place → List Place → Type 0
HaveSame xs ys = (p : Place) → stands_in xs p ≡ stands_in ys p

-- rows are marked by their places, in whatever order these are listed
abbrev pub MarkedBySame : Type 0
MarkedBySame = (xs ys : List Place) (parts : List Part) → HaveSame xs ys → AllByRecursion (λ part. Rises part.dead) parts → marked xs parts ≡ marked ys parts

-- A load that is ready to be published over a map: its new rows hold its results over it, the keys to be looked up and those that move
-- cover it, and the moves lead to the new rows.
pub record IsReady (s : Layout) (load : Load) (m : Rows) (index : Index) (fresh : Live) (looked_up : List (List Value)) (moves : List Move) : Type 0 where
  pub results : AreResultsOver s load m fresh
  pub found : Cover (touches load.ops) index (is_among looked_up)
  pub cover : Cover (touches load.ops) index (is_moved moves)
  pub places : (k : List Value) (p : Place) → (place_after moves k None ≡ Some p) ↔ HasKey s fresh p k

-- Publishing it marks the rows that the index finds, and those of the new rows that are stale, and moves the keys.
abbrev pub ReadyIsHeld : Type 0
ReadyIsHeld = (s : Layout) (rows : Readings) (h : Held) (b : Book) (load : Load) (new : List Part) (looked_up : List (List Value)) (stale dead : List Place) (moves : List Move)
    → HoldsBook s rows h b → ReadAlike (rows (version b)) (rows (version b + 1)) (parts_of h.current) → Apart (parts_of h.current) new → FilesOnce new
    → IsReady s load b.current h.index (live (rows (version b + 1)) (marked stale new)) looked_up moves
    → ((p : Place) → stands_in stale p ≡ true → names new p.segment ≡ true)
    → HaveSame dead (places_of h.index looked_up ++ stale) → ComeWithRow (rows (version b + 1)) stale new → IsLawful s load
    → HoldsBook s rows (held_after dead new (moved_index moves h.index) h) (publish s b load)

-- the moves of a whole load that was written to these files: none of its keys stands anywhere, but those of the rows written
abbrev pub whole_load_moves : Layout → Load → Files → List ℕ → List Move
whole_load_moves s load rows files =
    map (λ k. record { key = k; place = None }) (touches load.ops) ++ map (λ e. record { key = e.key; place = Some e.place }) (moved_to s rows files)

-- so each whole load can be made ready for every map, whatever numbers its files get
abbrev pub EachWholeLoadIsReady : Type 0
EachWholeLoadIsReady = (s : Layout) (load : Load) (m : Rows) (index : Index) (n : ℕ) (files : List (List (List Value))) (rows : Files)
    → IsLawful s load → IsWhole s load → AreRows s m → all_rows files ≡ values (after s load empty)
    → IsReady s load m index (live (with_files n files rows) (map all_live (numbered n files))) (touches load.ops) (whole_load_moves s load (with_files n files rows) (numbered n files))

-- What a merge wrote, as the current version reads it: the rows of the plan's rowsets, one for each key of its map, and no file where there is none.
pub record IsMerge (s : Layout) (rows : Files) (begun : Version) (p : Plan) (files : List ℕ) : Type 0 where
  pub same_rows : HasSameRows s (live rows (parts_of begun)) (live rows (map all_live files))
  pub each_key : map (key_of s) (written rows files) ≡ keys p.rows
  pub none : len p.rows ≡ 0 → files ≡ []

-- a merge writes the rows of the plan's map in the order of their keys
abbrev pub WrittenIsMerge : Type 0
WrittenIsMerge = (s : Layout) (rows : Files) (begun : Version) (p : Plan) (files : List ℕ)
    → StandsFor s (live rows (parts_of begun)) p.rows → written rows files ≡ values p.rows → (len p.rows ≡ 0 → files ≡ [])
    → IsMerge s rows begun p files

-- Its end marks the rows that the index tells to be late, as many as the book says, and moves the keys of the others.
abbrev pub MergeIsHeld : Type 0
MergeIsHeld = (s : Layout) (rows : Readings) (h : Held) (b : Book) (begun : Version) (p : Plan) (files : List ℕ) (dead : List Place)
    → HoldsBook s rows h b → h.plan ≡ Some begun → b.plan ≡ Some p
    → IsMerge s (rows (version b)) begun p files → Apart (parts_of h.current) (map all_live files) → FilesOnce (map all_live files)
    → HaveSame dead (found_late h.index (parts_of begun) (moved_to s (rows (version b)) files))
    → HoldsBook s rows
    (record h {
      current = compacted dead (map all_live files) (length begun) h.current;
      index = moved_index (kept_moves h.index (parts_of begun) (moved_to s (rows (version b)) files)) h.index;
      plan = None;
    })
    (change_end b (Some p))
    × (length (found_late h.index (parts_of begun) (moved_to s (rows (version b)) files)) ≡ late p)

-- to mark in all rowsets is the same, where only merged rows are marked
abbrev pub OnlyMergedMarked : Type 0
OnlyMergedMarked = (dead : List Place) (merged : List Part) (r : ℕ) (v : Version)
    → ((p : Place) → stands_in dead p ≡ true → names merged p.segment ≡ true) → Apart (parts_of v) merged
    → map (marked dead) (one_rowset merged ++ drop r v) ≡ compacted dead merged r v

-- a key that stands where it stood has the row that it had
abbrev pub SamePlaceSameRow : Type 0
SamePlaceSameRow = (s : Layout) (rows : Files) (old now : List Part) (m n : Rows) (index next : Index) (k : List Value)
    → StandsFor s (live rows old) m → IsIndex s (live rows old) index → StandsFor s (live rows now) n → IsIndex s (live rows now) next
    → next k ≡ index k → get n k ≡ get m k

-- codes tell keys apart that fit the schema
abbrev pub KeyCodesTell : Type 0
KeyCodesTell = (s : Layout) → schema_fault s.columns s.keys ≡ None → TellsKeys (fits_key s) (key_code s)
