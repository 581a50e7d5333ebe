-- What is kept, after a call.
use Rattle.std.proofs.Common.{◌≡◌, ℕ, zero, suc, ◌+◌, ◌≤◌, ◌<◌, Bool, true, false, if◌then◌else◌, List, [], ◌∷◌, ◌++◌, max, length, get_or, set, take, map, Some, refl, sym, ◌∙◌, ap, arith}
use Rattle.std.specs.List.{list_all}
use Rattle.std.proofs.lemmas.List.{map-set, get_or_default, length-map, set-get_or}
use Rattle.std.proofs.Math.ListN.{get_or-map}
use Rattle.std.proofs.lemmas.Bool.{and_from, and_parts, le-leb, leb-true}
use Rattle.dev_traits.specs.Image.{longest, overwritten}
use Rattle.dev_memory.specs.Areas.{AreaView, bytes_in, has_room}
use Rattle.dev_memory.specs.Disk.{Deed, AreaDisk, at_rest, area_in, can_write, wrote, bytes_of, after, replay}

-- an area and its disk with other bytes, the same in both
pub reads-set : (views : List AreaView) (disks : List AreaDisk) (a : ℕ) (v : AreaView) (d : AreaDisk) → map bytes_in views ≡ map bytes_of disks → v.bytes ≡ d.bytes → map bytes_in (set views a v) ≡ map bytes_of (set disks a d)
reads-set views disks a v d reads is = map-set bytes_in views a v ∙ (λ i. set (reads i) a (is i)) ∙ sym (map-set bytes_of disks a d)

-- a disk alone, with the bytes as they were
pub reads-same : (views : List AreaView) (disks : List AreaDisk) (a : ℕ) (d : AreaDisk) → map bytes_in views ≡ map bytes_of disks → d.bytes ≡ (area_in disks a).bytes → map bytes_in views ≡ map bytes_of (set disks a d)
reads-same views disks a d reads is =
    reads ∙ sym (set-get_or (map bytes_of disks) a []) ∙ ap (set (map bytes_of disks) a) (get_or-map bytes_of disks a (at_rest []) ∙ sym is) ∙ sym (map-set bytes_of disks a d)

pub reads-at : (views : List AreaView) (disks : List AreaDisk) (a : ℕ) (v : AreaView) → map bytes_in views ≡ map bytes_of disks → v ≡ get_or views a v → a < length disks → v.bytes ≡ (area_in disks a).bytes
reads-at views disks a v reads is in_range =
    ap bytes_in is ∙ sym (get_or-map bytes_in views a v) ∙ ap (λ (l : List (List ℕ)). get_or l a v.bytes) reads
    ∙ get_or_default (map bytes_of disks) a v.bytes [] (omega (arith, in_range, length-map disks bytes_of)) ∙ get_or-map bytes_of disks a (at_rest [])

pub length-views : (views : List AreaView) (disks : List AreaDisk) → map bytes_in views ≡ map bytes_of disks → length views ≡ length disks
length-views views disks reads = sym (length-map views bytes_in) ∙ ap length reads ∙ length-map disks bytes_of

-- the bytes that a write that may be asked for leaves
pub wrote-bytes : (at : ℕ) (piece : List ℕ) (ok : Bool) (d : AreaDisk) → 1 ≤ length d.bytes → at ≤ length d.bytes → at + length piece ≤ longest → (wrote at piece ok d).bytes ≡ (if ok then overwritten d.bytes at piece else d.bytes)
wrote-bytes at piece ok d long le short =
    ap (λ (b : Bool). (if b then record { bytes = if ok then overwritten d.bytes at piece else d.bytes; base = d.base; steps = Some (at, length piece) ∷ d.steps } else d).bytes)
    (and_from _ _ (and_from _ _ (le-leb 1 _ long) (le-leb at _ le)) (le-leb _ _ short))

-- those of a write that failed are as they were
pub wrote-none : (at : ℕ) (piece : List ℕ) (d : AreaDisk) → (wrote at piece false d).bytes ≡ d.bytes
wrote-none at piece d = go (can_write at (length piece) d.bytes)
  where
    go : (b : Bool) → (if b then record { bytes = d.bytes; base = d.base; steps = Some (at, length piece) ∷ d.steps } else d).bytes ≡ d.bytes
    go true = refl
    go false = refl

pub replay-push : (all : List Deed) (deed : Deed) (areas : List AreaDisk) → replay areas (all ++ deed ∷ []) ≡ after deed (replay areas all)
replay-push [] deed areas = refl
replay-push (d ∷ all) deed areas = replay-push all deed (after d areas)

-- Room.

pub rooms-less : (more less : ℕ) (views : List AreaView) → less ≤ more → list_all (has_room more) views ≡ true → list_all (has_room less) views ≡ true
rooms-less more less [] le rooms = refl
rooms-less more less (v ∷ views) le rooms =
    let parts = and_parts (has_room more v) (list_all (has_room more) views) rooms in
    let here : less ≤ v.room = omega (arith, le, leb-true more v.room parts.0) in
    and_from _ _ (le-leb less v.room here) (rooms-less more less views le parts.1)

pub rooms-set : (more : ℕ) (views : List AreaView) (a : ℕ) (v : AreaView) → list_all (has_room more) views ≡ true → more ≤ v.room → list_all (has_room more) (set views a v) ≡ true
rooms-set more [] a v rooms le = refl
rooms-set more (w ∷ views) zero v rooms le = and_from _ _ (le-leb more v.room le) (and_parts (has_room more w) (list_all (has_room more) views) rooms).1
rooms-set more (w ∷ views) (suc a) v rooms le =
    let parts = and_parts (has_room more w) (list_all (has_room more) views) rooms in
    and_from _ _ parts.0 (rooms-set more views a v parts.1 le)

pub room-at : (more : ℕ) (views : List AreaView) (a : ℕ) (v : AreaView) → list_all (has_room more) views ≡ true → a < length views → v ≡ get_or views a v → more ≤ v.room
room-at more [] a v rooms lt is = absurd (omega (arith, lt))
room-at more (w ∷ views) zero v rooms lt is = let here = leb-true more w.room (and_parts (has_room more w) (list_all (has_room more) views) rooms).0 in omega (arith, here, ap (λ (x : AreaView). x.room) is)
room-at more (w ∷ views) (suc a) v rooms lt is = room-at more views a v (and_parts (has_room more w) (list_all (has_room more) views) rooms).1 (omega (arith, lt)) is

-- Memory is taken area by area.

pub same-step : (views : List AreaView) (a : ℕ) (v old : AreaView) → old ≡ get_or views a old → v.bytes ≡ old.bytes → map bytes_in (set views a v) ≡ map bytes_in views
same-step views a v old is same =
    map-set bytes_in views a v
    ∙ ap (set (map bytes_in views) a) (same ∙ ap bytes_in is ∙ sym (get_or-map bytes_in views a old))
    ∙ set-get_or (map bytes_in views) a old.bytes

pub rooms-step : (more room : ℕ) (views : List AreaView) (a : ℕ) (v old : AreaView) → a < length views → old ≡ get_or views a old → old.room ≤ v.room → list_all (has_room room) views ≡ true → list_all (has_room room) (set views a v) ≡ true
rooms-step more room views a v old lt is le rooms = let was = room-at room views a old rooms lt is in rooms-set room views a v rooms (omega (arith, was, le))

none_roomy : (more : ℕ) (views : List AreaView) → list_all (has_room more) (take zero views) ≡ true
none_roomy more [] = refl
none_roomy more (v ∷ views) = refl

pub roomy-none : (more : ℕ) (views : List AreaView) → list_all (has_room more) (take 0 views) ≡ true
roomy-none more views = none_roomy more views

pub roomy-step : (more : ℕ) (views : List AreaView) (a : ℕ) (v : AreaView) → list_all (has_room more) (take a views) ≡ true → more ≤ v.room → list_all (has_room more) (take (suc a) (set views a v)) ≡ true
roomy-step more [] a v rooms le = refl
roomy-step more (w ∷ views) zero v rooms le = and_from _ _ (le-leb more v.room le) (none_roomy more views)
roomy-step more (w ∷ views) (suc a) v rooms le =
    let parts = and_parts (has_room more w) (list_all (has_room more) (take a views)) rooms in
    and_from _ _ parts.0 (roomy-step more views a v parts.1 le)

pub rooms-most : (more room : ℕ) (views : List AreaView) → list_all (has_room more) views ≡ true → list_all (has_room room) views ≡ true → list_all (has_room (max more room)) views ≡ true
rooms-most more room [] a b = refl
rooms-most more room (v ∷ views) a b =
    let one = and_parts (has_room more v) (list_all (has_room more) views) a in
    let other = and_parts (has_room room v) (list_all (has_room room) views) b in
    let here : max more room ≤ v.room = omega (arith, leb-true more v.room one.0, leb-true room v.room other.0) in
    and_from _ _ (le-leb (max more room) v.room here) (rooms-most more room views one.1 other.1)
