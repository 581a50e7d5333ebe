-- The parts of a snapshot, found by the numbers of their files.
use Rattle.std.specs.Prelude.{◌≡◌, ℕ, List, Option, Some, is_some, true, slice_get}
use Rattle.std.specs.BTreeMap.{get}
use Rattle.std.specs.Ordering.{nat_cmp}
use Rattle.snapshot_scan.specs.Parts.{PartView}
use Rattle.old_rows.specs.declared.parts_by_file.PartsByFile.{PartsByFile}

-- the number of the part that is found for a file
abbrev pub found_part : PartsByFile → ℕ → Option ℕ
found_part found file = get nat_cmp found.parts file

-- the part of this number is of the file
pub record IsPartOfFile (parts : List PartView) (file i : ℕ) : Type 0 where
  pub part : PartView
  pub there : slice_get parts i ≡ Some part
  pub number : part.number ≡ file

-- what is found for a file is a part of it, and for each part's file something is found
pub record FindsParts (found : PartsByFile) (parts : List PartView) : Type 0 where
  pub only : (file i : ℕ) → found_part found file ≡ Some i → IsPartOfFile parts file i
  pub all : (i : ℕ) (part : PartView) → slice_get parts i ≡ Some part → is_some (found_part found part.number) ≡ true
