-- A byte of a file is changed.
use Rattle.std.specs.Prelude.{◌≡◌, ℕ, ◌<◌, ◌≤◌, nat_eq, ◌&&◌, true, List, length, get_or, set, take, Option, Some, None}
use Rattle.std.specs.Ordering.{nat_cmp}
use Rattle.std.specs.FinMap.{get, insert}
use Rattle.std.specs.FinMap.Entries.{find}
use Rattle.dev_memory.specs.Disk.{Disk, entries_at, stands_at}
use Rattle.dev_memory.specs.declared.call.File.{File}

-- One byte of the file of this number is another, and all else is as it was.
pub record Spoils (number at byte : ℕ) (old new : Disk) : Type 0 where
  pub bytes : List ℕ
  pub there : get old.files number ≡ Some bytes
  pub inside : at < length bytes
  pub spoilt : new ≡ record { areas = old.areas; files = insert old.files number (set bytes at byte) }

-- there is no file, or it has no byte at this place
abbrev pub HasNoByte : ℕ → Option (List ℕ) → Type 0
HasNoByte at file = (bytes : List ℕ) → file ≡ Some bytes → length bytes ≤ at

-- of a file that is kept
pub record ChangesFile (at byte : ℕ) (old new : File) : Type 0 where
  pub inside : at < length old.bytes
  pub changed : new ≡ record old { bytes = set old.bytes at byte }

-- of the first file that stood under this number after so many calls
pub record ChangesOne (number calls at byte : ℕ) (old new : List File) : Type 0 where
  pub place : ℕ
  pub file : File
  pub changed : File
  pub there : place < length old
  pub file_is : file ≡ get_or old place file
  pub stands : (nat_eq file.number number && stands_at calls file) ≡ true
  pub first : find nat_cmp number (entries_at calls (take place old)) ≡ None
  pub changes : ChangesFile at byte file changed
  pub new_is : new ≡ set old place changed
