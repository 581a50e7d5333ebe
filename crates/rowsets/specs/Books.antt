-- What a tablet holds of a book: rowsets in place of maps. Each call's change to what is held is that of the book.
use Rattle.std.specs.Prelude.{◌≡◌, ◌↔◌, ℕ, ◌+◌, ◌-◌, ◌≤◌, ⊤, List, [], ◌∷◌, ◌++◌, map, length, drop, slice_get, Option, Some, None, option_map, Bool as Truth, true, false, ◌||◌, nat_lt, if◌then◌else◌}
use Rattle.std.specs.List.{list_any, AllByRecursion}
use Rattle.std.specs.FinMap.{get, len}
use Rattle.pk_values.specs.Schemas.{Layout, key_of}
use Rattle.pk_values.specs.declared.cells.Value.{Value}
use Rattle.pk_model.specs.declared.calls.Load.{Load}
use Rattle.pk_model.specs.declared.books.Plan.{Plan}
use Rattle.pk_model.specs.declared.books.Book.{Book}
use Rattle.pk_model.specs.Books.{new_book, version, rows_at, publish, change_begin, change_end, change_give_up, change_expire}
use Rattle.pk_model.specs.Lawful.{IsLawful}
use Rattle.pk_model.specs.Tables.{Rows}
use Rattle.index_level0.specs.declared.place.Place.{Place}
use Rattle.rowsets.specs.Live.{Part, Version, parts_of, Files, live, names, Apart, FilesOnce, StandsFor, HasShortKeys, Index, IsIndex}
use Rattle.rowsets.specs.Marks.{marked}
use Rattle.rowsets.specs.Changes.{one_rowset, published, IsChange}
use Rattle.rowsets.specs.Loads.{IsLoadChange, ComeWithRow}
use Rattle.rowsets.specs.Plans.{HasPlan}
use Rattle.rowsets.specs.Ending.{HasSameRows, AreLate, compacted, index_after_end}

-- The rowsets of each kept version from the floor on, the current one last; the index of the current one; and the rowsets with which the
-- plan under way began.
pub record Held : Type 0 where
  pub older : List Version
  pub current : Version
  pub index : Index
  pub plan : Option Version

-- the rows of each file, as the version of this number reads them
abbrev pub Readings : Type 0
Readings = ℕ → Files

-- these versions, of which the first has number v, stand for these maps
abbrev pub AreMaps : Layout → Readings → ℕ → List Version → List Rows → Type 0
AreMaps s rows v [] [] = ⊤
AreMaps s rows v [] (m ∷ ms) = ⊥
AreMaps s rows v (w ∷ ws) [] = ⊥
AreMaps s rows v (w ∷ ws) (m ∷ ms) = StandsFor s (live (rows v) (parts_of w)) m × AreMaps s rows (v + 1) ws ms

-- the rowsets with which the book's plan began stood for its map, and the current version still has what the plan needs
pub record HoldsPlan (s : Layout) (rows : Readings) (now : ℕ) (current begun : Version) (p : Plan) : Type 0 where
  pub counted : length begun ≡ p.rowsets
  pub stood : StandsFor s (live (rows p.version) (parts_of begun)) p.rows
  pub short : HasShortKeys s p.rows
  pub keeps : HasPlan s (rows now) begun p.touched current

abbrev pub HoldsPlans : Layout → Readings → ℕ → Version → Option Version → Option Plan → Type 0
HoldsPlans s rows now current None None = ⊤
HoldsPlans s rows now current None (Some p) = ⊥
HoldsPlans s rows now current (Some begun) None = ⊥
HoldsPlans s rows now current (Some begun) (Some p) = HoldsPlan s rows now current begun p

-- What is held stands for a book: each kept version for its map, whose keys have short codes, and it names no file twice; the index exact; as
-- many rowsets; and the plan.
pub record HoldsBook (s : Layout) (rows : Readings) (h : Held) (b : Book) : Type 0 where
  pub older : AreMaps s rows b.floor h.older b.older
  pub current : StandsFor s (live (rows (version b)) (parts_of h.current)) b.current
  pub exact : IsIndex s (live (rows (version b)) (parts_of h.current)) h.index
  pub rowsets : length h.current ≡ b.rowsets
  pub plan : HoldsPlans s rows (version b) h.current h.plan b.plan
  pub older_files : AllByRecursion (λ v. FilesOnce (parts_of v)) h.older
  pub files : FilesOnce (parts_of h.current)
  pub older_short : AllByRecursion (HasShortKeys s) b.older
  pub short : HasShortKeys s b.current

-- version 0 with no rowset
abbrev pub nothing_held : Held
nothing_held = record { older = []; current = []; index = λ k. None; plan = None }

abbrev pub NewBookIsHeld : Type 0
NewBookIsHeld = (s : Layout) (rows : Readings) → HoldsBook s rows nothing_held new_book

-- the rowsets of a kept version
abbrev pub held_at : Held → ℕ → ℕ → Option Version
held_at h floor v = if nat_lt v floor then None else slice_get (h.older ++ h.current ∷ []) (v - floor)

-- a version is held exactly where the book keeps it, and stands for its map
abbrev pub KeptAreHeld : Type 0
KeptAreHeld = (s : Layout) (rows : Readings) (h : Held) (b : Book) (v : ℕ) → HoldsBook s rows h b
    → ((m : Rows) → rows_at b v ≡ Some m → (w : Version) × (held_at h b.floor v ≡ Some w) × StandsFor s (live (rows v) (parts_of w)) m × FilesOnce (parts_of w) × HasShortKeys s m)
    × ((w : Version) → held_at h b.floor v ≡ Some w → (m : Rows) × (rows_at b v ≡ Some m))

-- as many versions are held as the book keeps
abbrev pub AsManyVersions : Type 0
AsManyVersions = (s : Layout) (rows : Readings) (h : Held) (b : Book) → HoldsBook s rows h b → length h.older ≡ length b.older

-- and a plan exactly where it has one
abbrev pub PlanIsHeld : Type 0
PlanIsHeld = (s : Layout) (rows : Readings) (h : Held) (b : Book) → HoldsBook s rows h b
    → ((p : Plan) → b.plan ≡ Some p → (begun : Version) × (h.plan ≡ Some begun) × HoldsPlan s rows (version b) h.current begun p)
    × (b.plan ≡ None → h.plan ≡ None)

-- an index is what it answers
abbrev pub AnswersDecide : Type 0
AnswersDecide = (s : Layout) (rows : Readings) (h : Held) (b : Book) (other : Index) → HoldsBook s rows h b → ((k : List Value) → other k ≡ h.index k) → HoldsBook s rows (record h { index = other }) b

-- the files of these parts read alike in two versions
abbrev pub ReadAlike : Files → Files → List Part → Type 0
ReadAlike rows others parts = (n : ℕ) → names parts n ≡ true → others n ≡ rows n

-- A change: one version more, and every older one as it was.
abbrev pub held_after : List Place → List Part → Index → Held → Held
held_after dead new next h = record h { older = h.older ++ h.current ∷ []; current = published dead new h.current; index = next }

-- the book after a change that makes `now` of the current map
abbrev pub touch_keys : List (List Value) → Plan → Plan
touch_keys touched p = record p { touched = p.touched ++ touched }

abbrev pub book_after : List (List Value) → Rows → ℕ → Book → Book
book_after touched now more b =
    record b { older = b.older ++ b.current ∷ []; current = now; rowsets = b.rowsets + more; plan = option_map (touch_keys touched) b.plan }

abbrev pub ChangeIsHeld : Type 0
ChangeIsHeld = (s : Layout) (rows : Readings) (h : Held) (b : Book) (touched : List (List Value)) (now : Rows) (dead : List Place) (new : List Part) (next : Index)
    → HoldsBook s rows h b → ReadAlike (rows (version b)) (rows (version b + 1)) (parts_of h.current) → Apart (parts_of h.current) new → FilesOnce new
    → IsChange s (live (rows (version b)) (parts_of h.current)) h.index b.current touched now (live (rows (version b + 1)) (marked dead new)) dead next
    → HasShortKeys s now
    → HoldsBook s rows (held_after dead new next h) (book_after touched now (length (one_rowset new)) b)

-- a load that the table takes is such a change
abbrev pub LoadIsHeld : Type 0
LoadIsHeld = (s : Layout) (rows : Readings) (h : Held) (b : Book) (load : Load) (dead : List Place) (new : List Part) (next : Index)
    → HoldsBook s rows h b → ReadAlike (rows (version b)) (rows (version b + 1)) (parts_of h.current) → Apart (parts_of h.current) new → FilesOnce new
    → IsLoadChange s load (live (rows (version b)) (parts_of h.current)) h.index b.current (live (rows (version b + 1)) (marked dead new)) dead next
    → ComeWithRow (rows (version b + 1)) dead new → IsLawful s load
    → HoldsBook s rows (held_after dead new next h) (publish s b load)

-- a compaction begins with all rowsets
abbrev pub BeginIsHeld : Type 0
BeginIsHeld = (s : Layout) (rows : Readings) (h : Held) (b : Book) (place : ℕ) → HoldsBook s rows h b
    → HoldsBook s rows (record h { plan = Some h.current }) (change_begin b place None)

-- it is given up
abbrev pub GivingUpIsHeld : Type 0
GivingUpIsHeld = (s : Layout) (rows : Readings) (h : Held) (b : Book) (p : Plan) → HoldsBook s rows h b
    → HoldsBook s rows (record h { plan = None }) (change_give_up b (Some p))

-- What a compaction ends with: merged files that hold the rows of the plan's rowsets, none where there is no row; which of their rows are
-- late; and where the keys stand from then on.
pub record EndsPlan (s : Layout) (rows : Files) (h : Held) (begun : Version) (p : Plan) (merged : List Part) (dead : List Place) (next : Index) : Type 0 where
  pub same_rows : HasSameRows s (live rows (parts_of begun)) (live rows merged)
  pub empty : (merged ≡ []) ↔ (len p.rows ≡ 0)
  pub apart : Apart (parts_of h.current) merged
  pub files : FilesOnce merged
  pub late : AreLate s (live rows merged) p.touched dead
  pub placed : Index
  pub exact : IsIndex s (live rows merged) placed
  pub places : (k : List Value) → next k ≡ index_after_end p.touched h.index placed k

-- it ends: every map as it was
abbrev pub EndIsHeld : Type 0
EndIsHeld = (s : Layout) (rows : Readings) (h : Held) (b : Book) (begun : Version) (p : Plan) (merged : List Part) (dead : List Place) (next : Index)
    → HoldsBook s rows h b → h.plan ≡ Some begun → b.plan ≡ Some p
    → EndsPlan s (rows (version b)) h begun p merged dead next
    → HoldsBook s rows (record h { current = compacted dead merged (length begun) h.current; index = next; plan = None }) (change_end b (Some p))

-- versions expire: the others stay
abbrev pub ExpiryIsHeld : Type 0
ExpiryIsHeld = (s : Layout) (rows : Readings) (h : Held) (b : Book) (v : ℕ) → HoldsBook s rows h b → v ≤ version b
    → HoldsBook s rows (record h { older = drop (v - b.floor) h.older }) (change_expire b v)

-- a file that a kept version or the plan names
abbrev pub names_version : Version → ℕ → Truth
names_version v n = names (parts_of v) n

abbrev pub names_plan : Option Version → ℕ → Truth
names_plan None n = false
names_plan (Some begun) n = names_version begun n

abbrev pub names_held : Held → ℕ → Truth
names_held h n = list_any (λ v. names_version v n) h.older || (names_version h.current n || names_plan h.plan n)

-- any other file may come, go or change
abbrev pub OthersAreFree : Type 0
OthersAreFree = (s : Layout) (rows others : Readings) (h : Held) (b : Book)
    → ((v n : ℕ) → names_held h n ≡ true → others v n ≡ rows v n) → HoldsBook s rows h b → HoldsBook s others h b

-- the rows that these files hold have something behind them, as the defaults of a column that came since; their keys stay
pub record Widens (s : Layout) (wide : List Value → List Value) (rows others : Files) (parts : List Part) : Type 0 where
  pub read : (n : ℕ) → names parts n ≡ true → others n ≡ map wide (rows n)
  pub keys : (n i : ℕ) (row : List Value) → names parts n ≡ true → slice_get (rows n) i ≡ Some row → key_of s (wide row) ≡ key_of s row

-- A version that adds a column: the same rowsets, read with wider rows, stand for the wider map.
abbrev pub WideningIsHeld : Type 0
WideningIsHeld = (s : Layout) (rows : Readings) (h : Held) (b : Book) (wide : List Value → List Value) (m : Rows)
    → HoldsBook s rows h b → Widens s wide (rows (version b)) (rows (version b + 1)) (parts_of h.current)
    → ((k : List Value) → get m k ≡ option_map wide (get b.current k))
    → HoldsBook s rows (record h { older = h.older ++ h.current ∷ [] }) (record b { older = b.older ++ b.current ∷ []; current = m })

-- and merged files that had the plan's rows have them still
abbrev pub WideRowsAreSame : Type 0
WideRowsAreSame = (s : Layout) (wide : List Value → List Value) (rows others : Files) (old new : List Part)
    → Widens s wide rows others old → Widens s wide rows others new → HasSameRows s (live rows old) (live rows new) → HasSameRows s (live others old) (live others new)
