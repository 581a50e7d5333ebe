-- One area after some calls, and what a crash leaves of it.
use Rattle.std.specs.Prelude.{◌≡◌, ℕ, Bool, false, ◌&&◌, nat_eq, if◌then◌else◌, List, [], ◌∷◌}
use Rattle.dev_traits.specs.Image.{Image, area_of}
use Rattle.dev_memory.specs.Disk.{Disk, area_disk, AreaDisk, at_rest, Reaches, Deed, Wrote, Synced, Blanked}
use Rattle.dev_memory.specs.Disk.{ChangedFiles, wrote, blanked}
use Rattle.dev_memory.specs.declared.call.Call.{Call}
use Rattle.dev_memory.specs.declared.call.Call.TheVariants.{Write, Sync, Blank, OnFiles}

-- how many bytes a call writes
abbrev pub size_of : Call → ℕ
size_of (Write a at size done) = size
size_of (Sync a) = 0
size_of (Blank a done) = 0
size_of OnFiles = 0

-- a call, with the bytes that it writes
abbrev pub deed_of : List ℕ → Call → Deed
deed_of piece (Write a at size done) = Wrote a at piece done
deed_of piece (Sync a) = Synced a
deed_of piece (Blank a done) = Blanked a done
deed_of piece OnFiles = ChangedFiles

abbrev pub is_on : ℕ → Deed → Bool
is_on a (Wrote b at piece ok) = nat_eq b a
is_on a (Synced b) = nat_eq b a
is_on a (Blanked b ok) = nat_eq b a
is_on a ChangedFiles = false

-- the area that a call is on, after it
abbrev pub on_area : Deed → AreaDisk → AreaDisk
on_area (Wrote a at piece ok) d = wrote at piece ok d
on_area (Synced a) d = at_rest d.bytes
on_area (Blanked a ok) d = blanked ok d
on_area ChangedFiles d = d

-- an area after a call, of whatever area
abbrev pub one_after : ℕ → Deed → AreaDisk → AreaDisk
one_after a deed d = if is_on a deed then on_area deed d else d

abbrev pub one_replay : ℕ → List Deed → AreaDisk → AreaDisk
one_replay a [] d = d
one_replay a (deed ∷ rest) d = one_replay a rest (one_after a deed d)

-- a call after which a crash leaves an area as it reads
abbrev pub settles : ℕ → Call → Bool
settles a (Write b at size done) = false
settles a (Sync b) = nat_eq b a
settles a (Blank b done) = done && nat_eq b a
settles a OnFiles = false

-- a crash leaves what is read
abbrev pub IsAtRest : AreaDisk → Type 0
IsAtRest d = d ≡ at_rest d.bytes

-- what an area reads as, and what is left of it by this pick: for 1 what was there at the last sync
pub record Remains (pick : ℕ) (d : AreaDisk) (bytes left : List ℕ) : Type 0 where
  pub reads : d.bytes ≡ bytes
  pub reaches : Reaches d.base d.steps left
  pub synced : pick ≡ 1 → left ≡ d.base

-- A crash may leave this of an area. By pick 0 it is what is read, and by 1 what was there at the last sync.
pub record Left (pick : ℕ) (d : AreaDisk) (left : List ℕ) : Type 0 where
  pub reaches : Reaches d.base d.steps left
  pub read : pick ≡ 0 → left ≡ d.bytes
  pub synced : pick ≡ 1 → left ≡ d.base

-- a crash may leave this of an area
abbrev pub IsLeft : AreaDisk → List ℕ → Type 0
IsLeft d left = Reaches d.base d.steps left

-- each area is what was there at its last sync
abbrev pub AreSynced : Disk → Image → Type 0
AreSynced disk image = (a : ℕ) → area_of image a ≡ (area_disk disk a).base
