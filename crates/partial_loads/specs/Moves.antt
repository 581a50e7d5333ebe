-- Which keys of a load moved since they were located, and what a key that didn't move still has.
use Rattle.std.specs.Prelude.{◌≡◌, ◌↔◌, ℕ, ◌≤◌, List, [], ◌∷◌, length, map, count_by, Option, Some, None, Bool as Truth, true, false, ◌&&◌, not, cond, is_some, option_and_then, ⊤}
use Rattle.std.specs.List.{filter, AllByRecursion}
use Rattle.std.specs.Ordering.{eq_by_cmp}
use Rattle.std.specs.FinMap.{get}
use Rattle.pk_values.specs.Order.{key_cmp}
use Rattle.pk_values.specs.Schemas.{Layout}
use Rattle.pk_values.specs.declared.cells.Value.{Value}
use Rattle.pk_model.specs.declared.books.Book.{Book}
use Rattle.pk_model.specs.declared.calls.Load.{Load}
use Rattle.pk_model.specs.Books.{Entry, replay, rows_at, version}
use Rattle.pk_model.specs.Tables.{Rows, after}
use Rattle.index_level0.specs.declared.place.Place.{Place}
use Rattle.rowsets.specs.Live.{Part, Version, parts_of, Files, Live, live, names, is_among, HasKey, StandsFor, Index, IsIndex}
use Rattle.rowsets.specs.Marks.{same_place, stands_in}
use Rattle.rowsets.specs.Indexing.{places_of}
use Rattle.rowsets.specs.Books.{Held, Readings, HoldsBook, held_at}

-- a key that a load names, and the place of its row in the version at which the load was located, where it had one
pub record Located : Type 0 where
  pub key : List Value
  pub place : Option Place

-- this is where the key's live row stands, or none where it has none
abbrev pub IsPlaceOf : Layout → Live → List Value → Option Place → Type 0
IsPlaceOf s rows k place = (p : Place) → (place ≡ Some p) ↔ HasKey s rows p k

-- the row at a place is live in a version as it stands now, where the version is kept
abbrev pub stays_live : Files → Option Version → Place → Truth
stays_live rows None p = false
stays_live rows (Some v) p = is_some (live rows (parts_of v) p)

-- A key moved: it had no place and has one now, or its place now is another one or none, or its place isn't live any more in the version at which it was located.
abbrev pub has_moved : (Place → Truth) → Option Place → Option Place → Truth
has_moved stays None now = is_some now
has_moved stays (Some p) None = true
has_moved stays (Some p) (Some q) = not (same_place p q && stays p)

-- where a version is still kept, it stands for these rows, whatever a compaction made of its files
abbrev pub StillStands : Layout → Files → Option Version → Rows → Type 0
StillStands s rows None m = ⊤
StillStands s rows (Some v) m = StandsFor s (live rows (parts_of v)) m

-- a file that both versions have reads alike in both
abbrev pub ReadsAlike : Files → Option Version → Files → Version → Type 0
ReadsAlike past None rows current = ⊤
ReadsAlike past (Some v) rows current = (n : ℕ) → names (parts_of v) n ≡ true → names (parts_of current) n ≡ true → rows n ≡ past n

-- What is known in the turn that publishes a load which was located at a version with the rows `was`: that version is kept as `kept`, or no more, and the current one stands for `now`, with an
-- exact index. The kept one reads its files as `past`, the current one as `rows`.
pub record IsMeanwhile (s : Layout) (past : Files) (was : Rows) (kept : Option Version) (rows : Files) (current : Version) (index : Index) (now : Rows) : Type 0 where
  pub stays : StillStands s past kept was
  pub alike : ReadsAlike past kept rows current
  pub stands : StandsFor s (live rows (parts_of current)) now
  pub exact : IsIndex s (live rows (parts_of current)) index

-- a place has one row, in whichever versions it is live, since files never change
abbrev pub SharedPlace : Type 0
SharedPlace = (past rows : Files) (some others : List Part) (p : Place) (row other : List Value)
    → rows p.segment ≡ past p.segment → live past some p ≡ Some row → live rows others p ≡ Some other → row ≡ other

-- what is read at the place of a key is its row
abbrev pub ReadIsRow : Type 0
ReadIsRow = (s : Layout) (old : Live) (was : Rows) (k : List Value) (place : Option Place) → StandsFor s old was → IsPlaceOf s old k place → option_and_then old place ≡ get was k

-- A key that didn't move has now the row that it had.
abbrev pub UnmovedKeepsRow : Type 0
UnmovedKeepsRow = (s : Layout) (past : Files) (was : Rows) (kept : Option Version) (rows : Files) (current : Version) (index : Index) (now : Rows) (k : List Value) (place : Option Place)
    → IsMeanwhile s past was kept rows current index now → (place ≡ None → get was k ≡ None) → has_moved (stays_live past kept) place (index k) ≡ false
    → get now k ≡ get was k

-- So a load gives it what it would have given it then.
abbrev pub UnmovedKeepsResult : Type 0
UnmovedKeepsResult = (s : Layout) (load : Load) (past : Files) (was : Rows) (kept : Option Version) (rows : Files) (current : Version) (index : Index) (now : Rows) (k : List Value) (place : Option Place)
    → IsMeanwhile s past was kept rows current index now → (place ≡ None → get was k ≡ None) → has_moved (stays_live past kept) place (index k) ≡ false
    → get (after s load now) k ≡ get (after s load was) k

-- a version that a history leaves kept has the rows that it had
abbrev pub KeptVersionStays : Type 0
KeptVersionStays = (s : Layout) (b : Book) (place : ℕ) (es : List Entry) (v : ℕ) → v ≤ version b → is_some (rows_at (replay s b place es) v) ≡ true → rows_at (replay s b place es) v ≡ rows_at b v

abbrev pub keys_of : List Located → List (List Value)
keys_of located = map (λ e. e.key) located

-- where a key stood
abbrev pub place_in : List Located → List Value → Option Place
place_in [] k = None
place_in (e ∷ es) k = cond (eq_by_cmp key_cmp k e.key) e.place (place_in es k)

-- no key stands twice in a list
abbrev pub NoneTwice : List (List Value) → Type 0
NoneTwice [] = ⊤
NoneTwice (k ∷ ks) = (is_among ks k ≡ false) × NoneTwice ks

-- the keys of a load, each with the place at which it stood among these rows
pub record AreLocated (s : Layout) (touched : List (List Value)) (old : Live) (located : List Located) : Type 0 where
  pub once : NoneTwice (keys_of located)
  pub named : (k : List Value) → is_among (keys_of located) k ≡ is_among touched k
  pub places : (k : List Value) → is_among touched k ≡ true → IsPlaceOf s old k (place_in located k)

-- it is enough that each entry tells its own key's place
abbrev pub EachIsLocated : Type 0
EachIsLocated = (s : Layout) (touched : List (List Value)) (old : Live) (located : List Located)
    → NoneTwice (keys_of located) → ((k : List Value) → is_among (keys_of located) k ≡ is_among touched k) → AllByRecursion (λ e. IsPlaceOf s old e.key e.place) located
    → AreLocated s touched old located

-- what of it counts later: a key without a place had no row
pub record WereLocated (touched : List (List Value)) (was : Rows) (located : List Located) : Type 0 where
  pub once : NoneTwice (keys_of located)
  pub named : (k : List Value) → is_among (keys_of located) k ≡ is_among touched k
  pub absent : (k : List Value) → is_among touched k ≡ true → place_in located k ≡ None → get was k ≡ None

abbrev pub PlacesTellAbsent : Type 0
PlacesTellAbsent = (s : Layout) (touched : List (List Value)) (old : Live) (was : Rows) (located : List Located) → StandsFor s old was → AreLocated s touched old located → WereLocated touched was located

-- the keys that moved
abbrev pub moved : (Place → Truth) → Index → List Located → List Located
moved stays index located = filter (λ e. has_moved stays e.place (index e.key)) located

-- they are just those of the load that moved
abbrev pub MovedAre : Type 0
MovedAre = (located : List Located) (stays : Place → Truth) (index : Index) (k : List Value) → NoneTwice (keys_of located)
    → is_among (keys_of (moved stays index located)) k ≡ (is_among (keys_of located) k && has_moved stays (place_in located k) (index k))

-- each of them once
abbrev pub MovedOnce : Type 0
MovedOnce = (located : List Located) (stays : Place → Truth) (index : Index) → NoneTwice (keys_of located) → NoneTwice (keys_of (moved stays index located))

-- so there are as many as keys that moved
abbrev pub MovedAreCounted : Type 0
MovedAreCounted = (located : List Located) (stays : Place → Truth) (index : Index) → length (moved stays index located) ≡ count_by (λ e. has_moved stays e.place (index e.key)) located

-- at most one row is read again for each key that moved
abbrev pub FewReads : Type 0
FewReads = (index : Index) (located : List Located) (stays : Place → Truth)
    → length (places_of index (keys_of (moved stays index located))) ≤ count_by (λ e. has_moved stays e.place (index e.key)) located

-- and none of a key that didn't
abbrev pub UnmovedUnread : Type 0
UnmovedUnread = (s : Layout) (rows : Live) (located : List Located) (stays : Place → Truth) (index : Index) (k : List Value) (p : Place)
    → IsIndex s rows index → NoneTwice (keys_of located) → has_moved stays (place_in located k) (index k) ≡ false
    → HasKey s rows p k → stands_in (places_of index (keys_of (moved stays index located))) p ≡ false

-- What is held for a book, in a version at which a load was located: where the book keeps that version, it has these rows.
abbrev pub HadRows : Book → ℕ → Rows → Type 0
HadRows b v was = (m : Rows) → rows_at b v ≡ Some m → m ≡ was

-- so what is held says all that counts of it
abbrev pub HeldIsMeanwhile : Type 0
HeldIsMeanwhile = (s : Layout) (rows : Readings) (h : Held) (b : Book) (v : ℕ) (was : Rows)
    → HoldsBook s rows h b → HadRows b v was → ReadsAlike (rows v) (held_at h b.floor v) (rows (version b)) h.current
    → IsMeanwhile s (rows v) was (held_at h b.floor v) (rows (version b)) h.current h.index b.current

-- and a history leaves it so
abbrev pub HadRowsStays : Type 0
HadRowsStays = (s : Layout) (b : Book) (place : ℕ) (es : List Entry) (v : ℕ) (was : Rows) → v ≤ version b → HadRows b v was → HadRows (replay s b place es) v was
