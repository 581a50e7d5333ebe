-- What a load becomes before it is published: its rows in sealed files, and where each key that it touches stands there.
use Rattle.std.specs.Prelude.{◌≡◌, ℕ, zero, suc, ◌+◌, ◌/◌, ◌≤◌, ⊤, List, [], ◌∷◌, map, length, take, drop, Option, Some, Bool as Truth, IsTrue, is_some}
use Rattle.std.specs.List.{AllByRecursion}
use Rattle.std.specs.FinMap.{empty, values}
use Rattle.std.specs.Ordering.{is_lt}
use Rattle.pk_values.specs.Order.{key_cmp}
use Rattle.pk_values.specs.Schemas.{Layout}
use Rattle.pk_values.specs.declared.cells.Value.{Value}
use Rattle.key_code.specs.KeyCode.{key_code}
use Rattle.column_page.specs.declared.footers.Footer.{Footer}
use Rattle.segment_form.specs.Segments.{AreSegmentRows, footer_of, segment_file}
use Rattle.pk_model.specs.Lawful.{IsLawful, most_lines}
use Rattle.pk_model.specs.Tables.{after, touches}
use Rattle.pk_model.specs.declared.calls.Load.{Load}
use Rattle.rowsets.specs.Live.{Files, Index, is_among}
use Rattle.rowsets.specs.Loads.{IsWhole}
use Rattle.rowsets.specs.Merging.{moved_to, numbered, with_files}
use Rattle.rowsets.specs.Indexing.{CodeMove, Move, code_moves, merged_place}

-- the rows in files of 65,536, of which the last may have fewer
abbrev pub files_from : ℕ → List (List Value) → List (List (List Value))
files_from zero rows = []
files_from (suc n) rows = take 65536 rows ∷ files_from n (drop 65536 rows)

abbrev pub files_of : List (List Value) → List (List (List Value))
files_of rows = files_from ((length rows + 65535) / 65536) rows

-- the rows of new files, which have the numbers from the first on
abbrev pub fresh : ℕ → List (List (List Value)) → Files
fresh first files = with_files first files (λ n. [])

-- where the row of a key stands in these files, if it has one there
abbrev pub place_in : Layout → ℕ → List (List (List Value)) → Index
place_in s first files = merged_place (moved_to s (fresh first files) (numbered first files))

-- each of these keys with the place of its row in these files, or none
abbrev pub moves_to : Layout → ℕ → List (List (List Value)) → List (List Value) → List Move
moves_to s first files keys = map (λ k. record { key = k; place = place_in s first files k }) keys

-- each key is below the next one
abbrev pub Rise : List (List Value) → Type 0
Rise [] = ⊤
Rise (a ∷ []) = ⊤
Rise (a ∷ b ∷ keys) = IsTrue (is_lt (key_cmp a b)) × Rise (b ∷ keys)

-- Of the keys that a load touches, each once and in their order, its code and the place of its row among these, or none.
pub record AreMovesOf (s : Layout) (load : Load) (rows : List (List Value)) (entries : List CodeMove) : Type 0 where
  pub keys : List (List Value)
  pub rise : Rise keys
  pub touched : (k : List Value) → is_among keys k ≡ is_among (touches load.ops) k
  pub are : entries ≡ code_moves (key_code s) (moves_to s 0 (files_of rows) keys)

-- sealed files are segments of these rows, where they tell their bytes, and have their footers
abbrev pub AreSealedOf : Layout → List (List (List Value)) → List (Option (List ℕ) × Footer) → Type 0
AreSealedOf s [] [] = ⊤
AreSealedOf s [] (f ∷ fs) = ⊥
AreSealedOf s (rows ∷ files) [] = ⊥
AreSealedOf s (rows ∷ files) (f ∷ fs) =
    AreSegmentRows s rows × ((bytes : List ℕ) → f.0 ≡ Some bytes → bytes ≡ segment_file s rows) × (f.1 ≡ footer_of s rows)
    × AreSealedOf s files fs

-- each file tells its bytes, or none does
abbrev pub EachTells : Truth → List (Option (List ℕ) × Footer) → Type 0
EachTells tells files = AllByRecursion (λ f. is_some f.0 ≡ tells) files

-- What contracts see of a prepared load: the load, its sealed files, each with the bytes that it tells and its footer, the codes of the keys that it
-- touches, each with the place of its row, where files are numbered from 0, or none; and whether it was used up.
pub record PreparedView : Type 0 where
  pub schema : Layout
  pub load : Load
  pub files : List (Option (List ℕ) × Footer)
  pub entries : List CodeMove
  pub spent : Truth

-- the files hold the rows that the load leaves of no row, in the order of their keys, and the entries are its moves
pub record IsPrepared (s : Layout) (load : Load) (files : List (Option (List ℕ) × Footer)) (entries : List CodeMove) : Type 0 where
  pub lawful : IsLawful s load
  pub whole : IsWhole s load
  pub few : length (values (after s load empty)) ≤ most_lines
  pub sealed : AreSealedOf s (files_of (values (after s load empty))) files
  pub moves : AreMovesOf s load (values (after s load empty)) entries
