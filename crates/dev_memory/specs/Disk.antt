-- What a store in memory keeps, and what a crash may leave of it.
use Rattle.std.specs.Prelude.{◌≡◌, ◌⊎◌, ℕ, ◌+◌, ◌-◌, ◌≤◌, nat_le, nat_lt, nat_eq, ◌^◌, Bool, ◌&&◌, ◌||◌, not}
use Rattle.std.specs.Prelude.{if◌then◌else◌, List, [], ◌∷◌, length, get_or, set, take, drop, map, Option, Some, None}
use Rattle.std.specs.Ordering.{nat_cmp, eq_by_cmp}
use Rattle.std.specs.List.{list_any}
use Rattle.std.specs.FinMap.{FinMap, get, from_entries}
use Rattle.dev_traits.specs.Image.{Image, area_of, file, longest, overwritten, Torn}
use Rattle.dev_traits.specs.View.{View}
use Rattle.dev_memory.specs.declared.call.Call.{Call}
use Rattle.dev_memory.specs.declared.call.Call.TheVariants.{Write, Sync, Blank, OnFiles}
use Rattle.dev_memory.specs.declared.call.File.{File}

-- A call that wrote: to an area, with the bytes of a write, or on files. Where it failed, it isn't done.
pub data Deed : Type 0 where
  Wrote : (a at : ℕ) (piece : List ℕ) (done : Bool) → Deed
  Synced : (a : ℕ) → Deed
  Blanked : (a : ℕ) (done : Bool) → Deed
  ChangedFiles : Deed

-- the calls, with the pieces of the writes from where they stand one after another
abbrev pub deeds : List ℕ → List Call → List Deed
deeds pieces [] = []
deeds pieces (Write a at size done ∷ calls) = Wrote a at (take size pieces) done ∷ deeds (drop size pieces) calls
deeds pieces (Sync a ∷ calls) = Synced a ∷ deeds pieces calls
deeds pieces (Blank a done ∷ calls) = Blanked a done ∷ deeds pieces calls
deeds pieces (OnFiles ∷ calls) = ChangedFiles ∷ deeds pieces calls

-- how many bytes the writes have
abbrev pub written : List Call → ℕ
written [] = 0
written (Write a at size done ∷ calls) = size + written calls
written (Sync a ∷ calls) = written calls
written (Blank a done ∷ calls) = written calls
written (OnFiles ∷ calls) = written calls

-- an area: what is read, what was there at the last sync, and the writes (offset and length) and failed blanks since,
-- the newest first
pub record AreaDisk : Type 0 where
  pub bytes : List ℕ
  pub base : List ℕ
  pub steps : List (Option (ℕ × ℕ))

pub record Disk : Type 0 where
  pub areas : List AreaDisk
  pub files : FinMap nat_cmp (List ℕ)

abbrev pub at_rest : List ℕ → AreaDisk
at_rest bytes = record { bytes = bytes; base = bytes; steps = [] }

abbrev pub area_in : List AreaDisk → ℕ → AreaDisk
area_in areas a = get_or areas a (at_rest [])

abbrev pub area_disk : Disk → ℕ → AreaDisk
area_disk disk a = area_in disk.areas a

-- What a crash may leave of an area: any bytes in the range of each write since the last sync, a write that failed
-- among them, and past the
-- old end; where a blank failed, also the one byte 0.
abbrev pub Reaches : List ℕ → List (Option (ℕ × ℕ)) → List ℕ → Type 0
Reaches base [] c = c ≡ base
Reaches base (Some write ∷ earlier) c = (d : List ℕ) × Reaches base earlier d × Torn write.0 write.1 d c
Reaches base (None ∷ earlier) c = (c ≡ 0 ∷ []) ⊎ Reaches base earlier c

-- a crash may leave this image: an adopted file keeps its bytes, and every other number may hold any that aren't too
-- many
pub record IsImage (disk : Disk) (image : Image) : Type 0 where
  pub three : length image.areas ≡ 3
  pub areas : (a : ℕ) → Reaches (area_disk disk a).base (area_disk disk a).steps (area_of image a)
  pub files : (number : ℕ) (bytes : List ℕ) → get disk.files number ≡ Some bytes → file image number ≡ Some bytes
  pub short : (number : ℕ) (bytes : List ℕ) → file image number ≡ Some bytes → length bytes ≤ longest

abbrev pub is_short : List ℕ → Bool
is_short bytes = nat_le (length bytes) longest

-- a write of so many bytes outside what is there, or past the most, isn't asked for, and changes nothing
abbrev pub can_write : ℕ → ℕ → List ℕ → Bool
can_write at n bytes = (nat_le 1 (length bytes) && nat_le at (length bytes)) && nat_le (at + n) longest

abbrev pub wrote : ℕ → List ℕ → Bool → AreaDisk → AreaDisk
wrote at piece ok d =
    if can_write at (length piece) d.bytes then record {
      bytes = if ok then overwritten d.bytes at piece else d.bytes;
      base = d.base;
      steps = Some (at, length piece) ∷ d.steps;
    } else d

abbrev pub blanked : Bool → AreaDisk → AreaDisk
blanked ok d = if ok then at_rest (0 ∷ []) else record { bytes = d.bytes; base = d.base; steps = None ∷ d.steps }

abbrev pub changed : ℕ → (AreaDisk → AreaDisk) → List AreaDisk → List AreaDisk
changed a f areas = set areas a (f (area_in areas a))

abbrev pub after : Deed → List AreaDisk → List AreaDisk
after (Wrote a at piece ok) areas = changed a (wrote at piece ok) areas
after (Synced a) areas = changed a (λ d. at_rest d.bytes) areas
after (Blanked a ok) areas = changed a (blanked ok) areas
after ChangedFiles areas = areas

abbrev pub replay : List AreaDisk → List Deed → List AreaDisk
replay areas [] = areas
replay areas (deed ∷ rest) = replay (after deed areas) rest

-- the number of calls that is never reached
abbrev pub never : ℕ
never = 2 ^ 64 - 1

-- whether a file stood adopted after so many calls
abbrev pub stands_at : ℕ → File → Bool
stands_at k f = nat_le f.from k && (nat_lt k f.until || nat_eq f.until never)

abbrev pub entries_at : ℕ → List File → List (ℕ × List ℕ)
entries_at k [] = []
entries_at k (f ∷ files) = if stands_at k f then (f.number, f.bytes) ∷ entries_at k files else entries_at k files

-- what is kept: the areas as they were at first, the calls since, and each file that was adopted, with the calls
-- between which it stood
pub record Held : Type 0 where
  pub start : List (List ℕ)
  pub deeds : List Deed
  pub files : List File

abbrev pub disk_now : Held → Disk
disk_now held = record {
  areas = replay (map at_rest held.start) held.deeds;
  files = from_entries (entries_at
      (length held.deeds) held.files);
}

-- after some number of calls
abbrev pub disk_at : Held → ℕ → Disk
disk_at held k = record {
  areas = replay (map at_rest held.start) (take k held.deeds);
  files = from_entries
      (entries_at k held.files);
}

abbrev pub bytes_of : AreaDisk → List ℕ
bytes_of d = d.bytes

abbrev pub read_of : Disk → Image
read_of disk = record { areas = map bytes_of disk.areas; files = disk.files }

-- a crash after some number of calls, at least t
pub record MightSince (held : Held) (t : ℕ) (image : Image) : Type 0 where
  pub calls_before : ℕ
  pub since : t ≤ calls_before
  pub until : calls_before ≤ length held.deeds
  pub is_image : IsImage (disk_at held calls_before) image

abbrev pub mem_view : Held → Bool → ℕ → ℕ → ℕ → View
mem_view held honest faults calls bytes = record {
  seen = Some (read_of (disk_now held));
  is_honest = honest;
  faults = faults;
  spare_calls = calls;
  spare_bytes = bytes;
  moment = length held.deeds;
  may_leave = IsImage (disk_now held);
  might_since = MightSince held;
}

-- The files change.

-- in the list, by the order of numbers
abbrev pub is_in : List ℕ → ℕ → Bool
is_in keep n = list_any (eq_by_cmp nat_cmp n) keep

-- a file outside the list, as it is once it is forgotten by the call of this number
abbrev pub closed : List ℕ → ℕ → File → File
closed keep now f = if nat_eq f.until never && not (is_in keep f.number) then record f { until = now } else f

-- adopted by so many calls, and forgotten by so many or standing
abbrev pub settled_by : ℕ → File → Bool
settled_by n f = nat_le f.from n && (nat_le f.until n || nat_eq f.until never)
