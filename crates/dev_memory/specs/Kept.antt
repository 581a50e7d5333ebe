-- What a store in memory keeps, by its parts.
use Rattle.std.specs.Prelude.{◌≡◌, ℕ, ◌+◌, ◌≤◌, Bool, true, List, [], ◌∷◌, ◌++◌, length, map}
use Rattle.std.specs.List.{list_all}
use Rattle.dev_memory.specs.Areas.{AreaView, bytes_in, has_room}
use Rattle.dev_memory.specs.Disk.{Held, Deed, ChangedFiles, closed, deeds, written, bytes_of, disk_now, settled_by}
use Rattle.dev_memory.specs.Disk.{is_short, never}
use Rattle.dev_memory.specs.declared.call.Call.{Call}
use Rattle.dev_memory.specs.declared.call.File.{File}

abbrev pub held : List (List ℕ) → List ℕ → List Call → List File → Held
held start pieces calls files = record { start = start; deeds = deeds pieces calls; files = files }

pub record KeptView : Type 0 where
  pub held : Held
  pub spare_calls : ℕ
  pub spare_bytes : ℕ

-- with one call more
abbrev pub grown : Held → Deed → Held
grown h deed = record h { deeds = h.deeds ++ deed ∷ [] }

abbrev pub with_files : Held → List File → Held
with_files h files = record h { files = files }

abbrev pub has_short_bytes : File → Bool
has_short_bytes f = is_short f.bytes

-- three areas, each file was adopted, and forgotten or stands, and none has more bytes than an area or a file may
pub record IsValid (h : Held) : Type 0 where
  pub three : length h.start ≡ 3
  pub short : list_all is_short h.start ≡ true
  pub short_files : list_all has_short_bytes h.files ≡ true
  pub settled : list_all (settled_by (length h.deeds)) h.files ≡ true

-- the parts fit each other, and there is room for what is spare
pub record IsKept (start : List (List ℕ)) (areas : List AreaView) (calls : List Call) (pieces : List ℕ)
    (files : List File) (calls_room files_room pieces_room spare_calls spare_bytes : ℕ) : Type 0 where
  pub valid : IsValid (held start pieces calls files)
  pub reads : map bytes_in areas ≡ map bytes_of (disk_now (held start pieces calls files)).areas
  pub fits : written calls ≡ length pieces
  pub rooms : list_all (has_room spare_bytes) areas ≡ true
  pub for_calls : spare_calls ≤ calls_room
  pub for_files : spare_calls ≤ files_room
  pub for_pieces : spare_bytes ≤ pieces_room

-- a file as it is adopted by the call of this number
pub record IsNewFile (number : ℕ) (bytes : List ℕ) (from : ℕ) (f : File) : Type 0 where
  pub number_is : f.number ≡ number
  pub bytes_is : f.bytes ≡ bytes
  pub from_is : f.from ≡ from
  pub until_is : f.until ≡ never

-- what is kept at first
abbrev pub at_first : List (List ℕ) → List File → Held
at_first start files = record { start = start; deeds = []; files = files }

-- a file of the first image
abbrev pub first_file : ℕ × List ℕ → File
first_file entry = record { number = entry.0; bytes = entry.1; from = 0; until = never }

-- one file more, adopted by the call of the next number
pub record Adopts (number : ℕ) (bytes : List ℕ) (old new : Held) : Type 0 where
  pub added : File
  pub is_new : IsNewFile number bytes (length old.deeds + 1) added
  pub now : new ≡ with_files (grown old ChangedFiles) (old.files ++ added ∷ [])

-- the files outside a list are forgotten by the call of the next number
abbrev pub forgotten : List ℕ → Held → Held
forgotten keep h = with_files (grown h ChangedFiles) (map (closed keep (length h.deeds + 1)) h.files)
