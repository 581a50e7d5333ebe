-- A store in memory as it begins.
use Rattle.std.specs.Prelude.{◌≡◌, ◌⊎◌, ℕ, ◌+◌, ◌-◌, ◌^◌, min, List, [], ◌∷◌, Some, IsTrue, Result, IsErr}
use Rattle.std.specs.Arc.{arc_value}
use Rattle.std.specs.FinMap.{empty}
use Rattle.dev_traits.specs.Image as seen
use Rattle.dev_traits.specs.Image.{area_of}
use Rattle.dev_traits.specs.View.{View, EachImage}
use Rattle.dev_memory.specs.Disk.{Held, Disk, disk_now, mem_view}
use Rattle.dev_memory.specs.Strikes.{IsStruck}
use Rattle.dev_memory.specs.declared.faults.Faults.{Faults}
use Rattle.dev_memory.specs.declared.store.MemStore.{MemStore}

-- three empty areas and no file
abbrev pub empty_image : seen.Image
empty_image = record { areas = [] ∷ [] ∷ [] ∷ []; files = empty }

-- what it keeps: the areas at first, each call that wrote, and the files
abbrev pub held_of : MemStore → Held
held_of s = s.kept.held

-- its areas and files, with what a crash may leave of them
abbrev pub disk_of : MemStore → Disk
disk_of s = disk_now s.kept.held

abbrev pub view_of : MemStore → View
view_of s = mem_view s.kept.held s.is_honest s.faults s.kept.spare_calls s.kept.spare_bytes

-- it reads as this image, a crash leaves the same areas, and nothing has failed yet
pub record Begins (image : seen.Image) (view : View) : Type 0 where
  pub reads : view.seen ≡ Some image
  pub honest : IsTrue view.is_honest
  pub each : EachImage view (λ left. (a : ℕ) → area_of left a ≡ area_of image a)
  pub faults : view.faults ≡ 0
  pub moment : view.moment ≡ 0

-- the counts are as they were
pub record SameCounts (old new : View) : Type 0 where
  pub faults : new.faults ≡ old.faults
  pub moment : new.moment ≡ old.moment
  pub spare_calls : new.spare_calls ≡ old.spare_calls
  pub spare_bytes : new.spare_bytes ≡ old.spare_bytes

-- the numbers of the calls that fail: of its own, of each maker's and of each reader's
abbrev pub fails_of : MemStore → List ℕ
fails_of s = s.fails.items

abbrev pub maker_fails_of : MemStore → List ℕ
maker_fails_of s = (arc_value s.maker_fails).items

abbrev pub reader_fails_of : MemStore → List ℕ
reader_fails_of s = (arc_value s.reader_fails).items

-- the store fails as these faults say, from its first call on
pub record Lists (faults : Faults) (s : MemStore) : Type 0 where
  pub listed : fails_of s ≡ faults.store.items
  pub stop : s.stop ≡ faults.stop
  pub makers : maker_fails_of s ≡ faults.maker.items
  pub readers : reader_fails_of s ≡ faults.reader.items
  pub first : s.count ≡ 0

-- the number of the next call that can answer a fault, which stops at the last u64
abbrev pub next_call : MemStore → ℕ
next_call s = min (s.count + 1) (2 ^ 64 - 1)

-- that call is to fail: it is listed, or `stop` was reached
abbrev pub IsNextStruck : MemStore → Type 0
IsNextStruck s = IsStruck (fails_of s) s.stop (next_call s)

-- the call was counted, and the same calls are to fail as before
pub record Counted (old new : MemStore) : Type 0 where
  pub count : new.count ≡ next_call old
  pub fails : fails_of new ≡ fails_of old
  pub stop : new.stop ≡ old.stop
  pub makers : maker_fails_of new ≡ maker_fails_of old
  pub readers : reader_fails_of new ≡ reader_fails_of old

-- a call that can't answer a fault isn't counted
pub record Uncounted (old new : MemStore) : Type 0 where
  pub count : new.count ≡ old.count
  pub fails : fails_of new ≡ fails_of old
  pub stop : new.stop ≡ old.stop
  pub makers : maker_fails_of new ≡ maker_fails_of old
  pub readers : reader_fails_of new ≡ reader_fails_of old

-- A call fails exactly where it is to, or for this.
pub record FailsOnly {T E : Type 0} (Cause : Type 0) (old new : MemStore) (result : Result T E) : Type 0 where
  pub counted : Counted old new
  pub struck : IsNextStruck old → IsErr result
  pub caused : Cause → IsErr result
  pub only : IsErr result → IsNextStruck old ⊎ Cause
