-- An image as a value.
use Rattle.std.specs.Prelude.{◌≡◌, true, List, ℕ, Bool}
use Rattle.std.specs.List.{list_all}
use Rattle.std.specs.FinMap.{from_entries}
use Rattle.dev_traits.specs.Image as seen
use Rattle.dev_memory.specs.Disk.{is_short}
use Rattle.dev_memory.specs.declared.image.Image.{Image}

-- its areas, and of each number the first file
abbrev pub image_of : Image → seen.Image
image_of image = record { areas = image.areas.items; files = from_entries image.files.items }

abbrev pub is_short_file : ℕ × List ℕ → Bool
is_short_file entry = is_short entry.1

-- no area and no file has more than 2^44 bytes
pub record IsShort (image : Image) : Type 0 where
  pub areas : list_all is_short image.areas.items ≡ true
  pub files : list_all is_short_file image.files.items ≡ true
