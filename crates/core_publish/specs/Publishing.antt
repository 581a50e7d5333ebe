-- What publishing does with the entries of a prepared load, and which replies it gives.
use Rattle.std.specs.Prelude.{◌≡◌, ◌⊎◌, ℕ, ◌-◌, ◌==◌, ◌≤◌, ⊤, List, [], ◌∷◌, ◌++◌, map, length, Option, Some, None, Bool as Truth, true, false, ◌||◌, ◌&&◌, nat_lt, option_to_list, count_by}
use Rattle.std.specs.FinMap.{get}
use Rattle.dev_traits.specs.declared.faults.Damaged.{Damaged}
use Rattle.dev_traits.specs.declared.faults.Part.TheVariants as part
use Rattle.dev_traits.specs.declared.faults.Shown.TheVariants as shown
use Rattle.index_level0.specs.declared.place.Place.{Place}
use Rattle.pk_model.specs.declared.calls.Reply.{Reply}
use Rattle.pk_model.specs.declared.calls.Reply.TheVariants as reply
use Rattle.rowsets.specs.Indexing.{CodeMap, CodeMove}
use Rattle.rowsets.specs.Marks.{same_place, stands_in}
use Rattle.kept_versions.specs.Files.{can_die}
use Rattle.rowsets.specs.Steps.{HaveSame}
use Rattle.journal_form.specs.Versions.{Rowset as ListedRowset}
use Rattle.tablet_state.specs.Contents.{Contents}
use Rattle.tablet_state.specs.Readies.{IsLed, NewSegment, new_files, next_contents}
use Rattle.core_publish.specs.Publication.{entry_from}
use Rattle.core_publish.specs.Prepared.{PreparedView}

-- the places that are stored at the codes of entries
abbrev pub stored_places : CodeMap → List CodeMove → List Place
stored_places codes [] = []
stored_places codes (e ∷ es) = option_to_list (get codes e.0) ++ stored_places codes es

-- one place stands twice among these
abbrev pub StandsTwice : List Place → Type 0
StandsTwice places = (p : Place) × (2 ≤ count_by (same_place p) places)

-- The index has two of these codes at one row, or one at a row that isn't a live one of the current version.
abbrev pub IsWrongIndex : Contents → List CodeMove → Type 0
IsWrongIndex c entries = StandsTwice (stored_places c.codes entries)
    ⊎ ((p : Place) × (stands_in (stored_places c.codes entries) p ≡ true) × (can_die c.current p ≡ false))

-- What was taken out of a prepared load for a change of what is held: its files; the rows at which the index has its keys; and its entries, whose
-- files are numbered from the next file number on.
pub record IsTaken (c : Contents) (files : List NewSegment) (entries : List CodeMove) (made : List NewSegment) (dead : List Place) (moved : List CodeMove) : Type 0 where
  pub files_are : made ≡ files
  pub moved_are : moved ≡ map (entry_from c.next_file) entries
  pub found : HaveSame dead (stored_places c.codes entries)

-- What is held next, over every store: a record leads there that tells these files, and as dead the rows at which the index has the keys of these
-- entries; and the index has the entries.
pub record IsHeldNext (c : Contents) (files : List NewSegment) (entries : List CodeMove) (next : Contents) : Type 0 where
  pub current : List ListedRowset
  pub body : List ℕ
  pub next_is : next ≡ next_contents (length files) current (map (entry_from c.next_file) entries) c
  pub led : IsLed c (new_files c.next_file files) (stored_places c.codes entries) body next

-- the damage that it is
abbrev pub index_damage : Damaged
index_damage = record { file = 0; part = part.Area 2; shown = shown.Form }

-- the place of an earlier file, or of an earlier row of one file
abbrev pub is_below : Place → Place → Truth
is_below p q = nat_lt p.segment q.segment || ((p.segment == q.segment) && nat_lt p.row q.row)

-- a place whose file is numbered from 0, where it was numbered from `first` on
abbrev pub placed_back : ℕ → Option Place → Option Place
placed_back first None = None
placed_back first (Some p) = Some (record { segment = p.segment - first; row = p.row })

abbrev pub entry_back : ℕ → CodeMove → CodeMove
entry_back first e = (e.0, placed_back first e.1)

-- its file has this number or a higher one
abbrev pub IsFrom : ℕ → Option Place → Type 0
IsFrom first None = ⊤
IsFrom first (Some p) = first ≤ p.segment

-- what is left of a prepared load whose files and entries were taken out
abbrev pub emptied : PreparedView → PreparedView
emptied p = record p { files = []; entries = []; spent = true }

-- ---- replies

-- after these replies a prepared load can't be published again
abbrev pub uses_up : Reply → Truth
uses_up (reply.Published v) = true
uses_up (reply.StoreFault n) = true
uses_up (reply.Damaged d) = true
uses_up r = false

-- the version that a reply tells to be published
abbrev pub published_in : Reply → Option ℕ
published_in (reply.Published v) = Some v
published_in r = None

-- the replies to a load
abbrev pub IsPublishing : Reply → Type 0
IsPublishing (reply.Published v) = ⊤
IsPublishing reply.ManyVersions = ⊤
IsPublishing (reply.Closed p) = ⊤
IsPublishing (reply.StoreFault n) = ⊤
IsPublishing (reply.Damaged d) = ⊤
IsPublishing reply.Memory = ⊤
IsPublishing (reply.Worn n) = ⊤
IsPublishing r = ⊥
