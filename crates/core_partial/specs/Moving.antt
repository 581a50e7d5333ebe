-- Which keys of a prepared load moved since they were located, and what is made again of them.
use Rattle.std.specs.Prelude.{◌≡◌, ◌≢◌, ◌⊎◌, ℕ, ◌/◌, ◌%◌, List, [], ◌∷◌, ◌++◌, map, length, Option, Some, None, Bool as Truth, false, true, option_to_list, slice_get, cond, IsTrue, ⊤}
use Rattle.std.specs.FinMap.{get}
use Rattle.std.specs.List.{filter}
use Rattle.pk_values.specs.Schemas.{Layout, fits_row, key_of}
use Rattle.pk_values.specs.declared.cells.Value.{Value}
use Rattle.pk_model.specs.declared.books.Book.{Book}
use Rattle.pk_model.specs.Tables.{Rows}
use Rattle.dev_traits.specs.declared.faults.Damaged.{Damaged}
use Rattle.dev_traits.specs.declared.faults.Part.TheVariants as part
use Rattle.index_level0.specs.declared.place.Place.{Place}
use Rattle.rowsets.specs.Indexing.{CodeMove}
use Rattle.segment_read.specs.Blocks.{BlockShown, IsRowOf}
use Rattle.segment_read.specs.Reads.{IsDamage, OfBlock, OfFile, block_in}
use Rattle.tablet_state.specs.Contents.{Contents, current_number}
use Rattle.tablet_state.specs.Moving.{keeps_live}
use Rattle.tablet_state.specs.State.{SegmentView, segment_of}
use Rattle.partial_loads.specs.Folds.{overlays}
use Rattle.partial_loads.specs.Folded.{folded_keys}
use Rattle.partial_loads.specs.Making.{made_rows}
use Rattle.partial_loads.specs.Moves.{has_moved}
use Rattle.partial_loads.specs.Olds.{made_of as rows_made}
use Rattle.core_publish.specs.Publishing.{index_damage}
use Rattle.core_partial.specs.Prepared.{AgainView, AreFilesOf, PreparedPartialView, WasLocatedIn, folded_of}
use Rattle.core_partial.specs.declared.keys.PreparedKey.{PreparedKey}

-- A key that had no place moved exactly where it has one now. A key that had a place moved exactly where its place now is
-- another or none, or where the located version isn't kept any more or has no live row at the place, as it stands now.
abbrev pub is_moved_key : Contents → ℕ → PreparedKey → Truth
is_moved_key c v k = has_moved (keeps_live c v) k.was (get c.codes k.code)

abbrev pub moved_keys : Contents → ℕ → List PreparedKey → List PreparedKey
moved_keys c v keys = filter (is_moved_key c v) keys

-- the places of the rows that were made of keys
abbrev pub made_places : List PreparedKey → List Place
made_places [] = []
made_places (k ∷ ks) = option_to_list k.made ++ made_places ks

-- what was made again of just these keys
pub record IsAgain (s : Layout) (keys : List PreparedKey) (again : AgainView) : Type 0 where
  pub files : AreFilesOf s (folded_keys (map folded_of keys)) again.rows again.files again.moves
  pub stale_are : again.stale ≡ made_places keys

-- the rows of the keys that moved were made again over the rows of this map
abbrev pub IsAgainOver : Contents → PreparedPartialView → AgainView → Rows → Type 0
IsAgainOver c p again m = again.rows ≡ made_rows p.schema p.load.given m (map folded_of (moved_keys c p.version p.keys))

abbrev pub IsSettledOver : Contents → PreparedPartialView → Rows → Type 0
IsSettledOver c p m = IsAgainOver c p p.again m

-- the rows were made over those of the version at which the load was located, as far as the book keeps it, and made
-- again over those of the current one
pub record IsOver (c : Contents) (b : Book) (p : PreparedPartialView) (again : AgainView) : Type 0 where
  pub located : WasLocatedIn b p
  pub remade : IsAgainOver c p again b.current

-- ---- the rows that are read

-- the row at a place, where the reader of its segment tells
abbrev pub AtPlace : Layout → List SegmentView → Place → (List Value → Type 0) → Type 0
AtPlace s segments p P = (g : SegmentView) → segment_of segments p.segment ≡ Some g → OfFile g.reader (λ file.
    OfBlock g.footer (p.row / 1024) (λ mark. (row : List Value) × IsRowOf s mark (block_in file mark) (p.row % 1024) row × P row))

-- this is the row at a place, where the reader of its segment tells
abbrev pub IsRowAt : Layout → List SegmentView → Place → List Value → Type 0
IsRowAt s segments p row = (g : SegmentView) → segment_of segments p.segment ≡ Some g → OfFile g.reader (λ file.
    OfBlock g.footer (p.row / 1024) (λ mark. IsRowOf s mark (block_in file mark) (p.row % 1024) row))

-- a row that stands at a live place of the current version, fits and has this key
pub record IsRowNow (c : Contents) (segments : List SegmentView) (p : Place) (key row : List Value) : Type 0 where
  pub lives : keeps_live c (current_number c) p ≡ true
  pub stands : IsRowAt c.schema segments p row
  pub fits : IsTrue (fits_row c.schema row)
  pub key_is : key_of c.schema row ≡ key

-- the place of the old row that a key's change asks for, as the index has it
abbrev pub asked_now : Contents → PreparedKey → Option Place
asked_now c k = cond (overlays k.change) (get c.codes k.code) None

abbrev pub IsOldAt : Contents → List SegmentView → List Value → Option Place → Option (List Value) → Type 0
IsOldAt c segments key None old = old ≡ None
IsOldAt c segments key (Some p) old = (row : List Value) × (old ≡ Some row) × IsRowNow c segments p key row

-- A key's old row now: none where its change doesn't ask for one or the index has no place of it; else the row that stands
-- at its place.
abbrev pub IsOldNow : Contents → List SegmentView → PreparedKey → Option (List Value) → Type 0
IsOldNow c segments k old = IsOldAt c segments k.key (asked_now c k) old

abbrev pub AreOldsNow : Contents → List SegmentView → List PreparedKey → List (Option (List Value)) → Type 0
AreOldsNow c segments [] [] = ⊤
AreOldsNow c segments [] (o ∷ os) = ⊥
AreOldsNow c segments (k ∷ ks) [] = ⊥
AreOldsNow c segments (k ∷ ks) (o ∷ os) = IsOldNow c segments k o × AreOldsNow c segments ks os

-- over every reader, the rows that were made again are those that the changes of these keys make of their old rows now
pub record IsMadeOfNow (c : Contents) (segments : List SegmentView) (given : List ℕ) (keys : List PreparedKey)
    (again : AgainView) : Type 0 where
  pub olds : List (Option (List Value))
  pub are : AreOldsNow c segments keys olds
  pub rows_are : again.rows ≡ rows_made c.schema given (map folded_of keys) olds

-- of a prepared load, exactly the keys that moved were made again, of their old rows now
pub record IsRemade (c : Contents) (segments : List SegmentView) (p : PreparedPartialView) (again : AgainView) : Type 0 where
  pub is : IsAgain p.schema (moved_keys c p.version p.keys) again
  pub read : IsMadeOfNow c segments p.load.given (moved_keys c p.version p.keys) again

abbrev pub IsSettled : Contents → List SegmentView → PreparedPartialView → Type 0
IsSettled c segments p = IsRemade c segments p p.again

-- where the change asks for the old row, this is that of the map
abbrev pub IsOldOf : Rows → PreparedKey → Option (List Value) → Type 0
IsOldOf m k old = overlays k.change ≡ true → old ≡ get m k.key

-- ---- damage

-- it is a row of another key
abbrev pub HasOtherAt : Layout → List SegmentView → Place → List Value → Type 0
HasOtherAt s segments p key = AtPlace s segments p (λ row. key_of s row ≢ key)

-- the change of one of these keys asks for the old row, and the index has the key at this place
pub record AsksAt (c : Contents) (keys : List PreparedKey) (key : PreparedKey) (p : Place) : Type 0 where
  pub at : ℕ
  pub among : slice_get keys at ≡ Some key
  pub asks : overlays key.change ≡ true
  pub stored : get c.codes key.code ≡ Some p

-- the index names for one of these keys a row that isn't a live one of the current version, or one of another key
pub record IsAstray (c : Contents) (segments : List SegmentView) (keys : List PreparedKey) (d : Damaged) : Type 0 where
  pub told : d ≡ index_damage
  pub key : PreparedKey
  pub place : Place
  pub asks : AsksAt c keys key place
  pub wrong : (keeps_live c (current_number c) place ≡ false) ⊎ HasOtherAt c.schema segments place key.key

-- the block in which a row stands is damaged
pub record IsBlockOf (s : Layout) (segments : List SegmentView) (p : Place) (d : Damaged) : Type 0 where
  pub segment : SegmentView
  pub there : segment_of segments p.segment ≡ Some segment
  pub damage : IsDamage p.segment (part.Block (p.row / 1024)) (λ shown. OfFile segment.reader (λ file.
      OfBlock segment.footer (p.row / 1024) (λ mark. BlockShown s mark (block_in file mark) shown))) d

-- the block is damaged in which the old row of one of these keys stands that its change asks for
pub record IsBroken (c : Contents) (segments : List SegmentView) (keys : List PreparedKey) (d : Damaged) : Type 0 where
  pub key : PreparedKey
  pub place : Place
  pub asks : AsksAt c keys key place
  pub block : IsBlockOf c.schema segments place d

-- what reading the old rows of keys may tell as damage
abbrev pub IsReadDamage : Contents → List SegmentView → List PreparedKey → Damaged → Type 0
IsReadDamage c segments keys d = IsAstray c segments keys d ⊎ IsBroken c segments keys d
