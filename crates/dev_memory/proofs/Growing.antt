-- What is kept still fits after a call more.
use Rattle.std.proofs.Common.{◌≡◌, ℕ, ◌+◌, ◌≤◌, ◌<◌, Bool, true, false, List, [], ◌∷◌, ◌++◌, length, get_or, set, map, refl, sym, ◌∙◌, ap, subst, arith, length-append}
use Rattle.std.specs.List.{list_all}
use Rattle.dev_traits.specs.Image.{longest, area_of, overwritten}
use Rattle.dev_memory.specs.Areas.{AreaView, bytes_in, has_room}
use Rattle.dev_memory.specs.Disk.{Deed, Wrote, Synced, Blanked, ChangedFiles, AreaDisk, deeds, written, at_rest, area_in, wrote, blanked, after, replay, disk_now, read_of, settled_by, bytes_of}
use Rattle.dev_memory.specs.Kept.{held, grown, has_short_bytes, IsKept, IsValid, KeptView}
use Rattle.dev_memory.specs.Laws.{three, area_read}
use Rattle.dev_memory.specs.declared.call.Call.{Call}
use Rattle.dev_memory.specs.declared.call.Call.TheVariants.{Write, Sync, Blank, OnFiles}
use Rattle.dev_memory.specs.declared.call.File.{File}
use Rattle.dev_memory.proofs.Calls.{deeds-write, deeds-sync, deeds-blank, deeds-files, written-append}
use Rattle.dev_memory.proofs.Keeping.{reads-set, reads-same, reads-at, length-views, wrote-bytes, wrote-none, replay-push, rooms-less, rooms-set}
use Rattle.dev_memory.proofs.Files.{settled-later}

module _ (start : List (List ℕ)) (areas : List AreaView) (calls : List Call) (pieces : List ℕ) (files : List File) (rc rf rp sc sb : ℕ) (kept : IsKept start areas calls pieces files rc rf rp sc sb) where
  abbrev Disks : List AreaDisk
  Disks = (disk_now (held start pieces calls files)).areas

  pub area_count : length areas ≡ 3
  area_count = length-views areas Disks kept.reads ∙ three (held start pieces calls files) kept.valid.three

  -- what an area reads as
  pub area_bytes : (a : ℕ) (v : AreaView) → v ≡ get_or areas a v → a < 3 → v.bytes ≡ area_of (read_of (disk_now (held start pieces calls files))) a
  area_bytes a v is lt = reads-at areas Disks a v kept.reads is (omega (arith, lt, three (held start pieces calls files) kept.valid.three)) ∙ sym (area_read (disk_now (held start pieces calls files)) a)

  pub valid_after : (deed : Deed) (calls' : List Call) (pieces' : List ℕ) → deeds pieces' calls' ≡ deeds pieces calls ++ deed ∷ [] → IsValid (held start pieces' calls' files)
  valid_after deed calls' pieces' is = record {
    three = kept.valid.three;
    short = kept.valid.short;
    short_files = kept.valid.short_files;
    settled = settled-later (length (deeds pieces calls)) (length (deeds pieces' calls')) files (omega (arith, ap length is, length-append (deeds pieces calls) (deed ∷ []))) kept.valid.settled;
  }

  pub held_after : (deed : Deed) (calls' : List Call) (pieces' : List ℕ) → deeds pieces' calls' ≡ deeds pieces calls ++ deed ∷ [] → held start pieces' calls' files ≡ grown (held start pieces calls files) deed
  held_after deed calls' pieces' is = λ i. record { start = start; deeds = is i; files = files }

  reads_after : (deed : Deed) (areas' : List AreaView) (calls' : List Call) (pieces' : List ℕ) (files' : List File) → deeds pieces' calls' ≡ deeds pieces calls ++ deed ∷ []
      → map bytes_in areas' ≡ map bytes_of (after deed Disks) → map bytes_in areas' ≡ map bytes_of (disk_now (held start pieces' calls' files')).areas
  reads_after deed areas' calls' pieces' files' is reads =
      reads ∙ ap (λ (l : List AreaDisk). map bytes_of l) (sym (ap (λ (l : List Deed). replay (map at_rest start) l) is ∙ replay-push (deeds pieces calls) deed (map at_rest start)))

  pub keep : (deed : Deed) (areas' : List AreaView) (calls' : List Call) (pieces' : List ℕ) (rc' rf' rp' sc' sb' : ℕ) → deeds pieces' calls' ≡ deeds pieces calls ++ deed ∷ []
      → map bytes_in areas' ≡ map bytes_of (after deed Disks) → written calls' ≡ length pieces' → list_all (has_room sb') areas' ≡ true → sc' ≤ rc' → sc' ≤ rf' → sb' ≤ rp'
      → IsKept start areas' calls' pieces' files rc' rf' rp' sc' sb'
  keep deed areas' calls' pieces' rc' rf' rp' sc' sb' is reads fits rooms for_calls for_files for_pieces = record {
    valid = valid_after deed calls' pieces' is;
    reads = reads_after deed areas' calls' pieces' files is reads;
    fits = fits;
    rooms = rooms;
    for_calls = for_calls;
    for_files = for_files;
    for_pieces = for_pieces;
  }

  -- with other files
  pub keep_files : (files' : List File) (calls' : List Call) (rc' rf' sc' : ℕ) → calls' ≡ calls ++ OnFiles ∷ [] → list_all (settled_by (length (deeds pieces calls) + 1)) files' ≡ true → list_all has_short_bytes files' ≡ true → sc' ≤ rc' → sc' ≤ rf'
      → IsKept start areas calls' pieces files' rc' rf' rp sc' sb
  keep_files files' calls' rc' rf' sc' is settled short_files for_calls for_files =
      let deeds_is : deeds pieces calls' ≡ deeds pieces calls ++ ChangedFiles ∷ [] = ap (deeds pieces) is ∙ deeds-files calls pieces in
      let longer : length (deeds pieces calls) + 1 ≡ length (deeds pieces calls') = omega (arith, ap length deeds_is, length-append (deeds pieces calls) (ChangedFiles ∷ [])) in
      record {
        valid = record { three = kept.valid.three; short = kept.valid.short; short_files = short_files; settled = subst (λ (n : ℕ). list_all (settled_by n) files' ≡ true) longer settled };
        reads = reads_after ChangedFiles areas calls' pieces files' deeds_is kept.reads;
        fits = omega (arith, kept.fits, ap written is, written-append calls (OnFiles ∷ []));
        rooms = kept.rooms;
        for_calls = for_calls;
        for_files = for_files;
        for_pieces = kept.for_pieces;
      }

  pub files_after : (files' : List File) (calls' : List Call) → calls' ≡ calls ++ OnFiles ∷ [] → held start pieces calls' files' ≡ record { start = start; deeds = deeds pieces calls ++ ChangedFiles ∷ []; files = files' }
  files_after files' calls' is = λ i. record { start = start; deeds = (ap (deeds pieces) is ∙ deeds-files calls pieces) i; files = files' }

  -- Each call on an area.

  pub sync_deeds : (a : ℕ) (calls' : List Call) → calls' ≡ calls ++ Sync a ∷ [] → deeds pieces calls' ≡ deeds pieces calls ++ Synced a ∷ []
  sync_deeds a calls' is = ap (deeds pieces) is ∙ deeds-sync calls pieces a

  pub keep_sync : (a : ℕ) (calls' : List Call) (rc' rf' sc' : ℕ) → calls' ≡ calls ++ Sync a ∷ [] → sc' ≤ rc' → sc' ≤ rf' → IsKept start areas calls' pieces files rc' rf' rp sc' sb
  keep_sync a calls' rc' rf' sc' is for_calls for_files =
      keep (Synced a) areas calls' pieces rc' rf' rp sc' sb (sync_deeds a calls' is) (reads-same areas Disks a (at_rest (area_in Disks a).bytes) kept.reads refl)
      (omega (arith, kept.fits, ap written is, written-append calls (Sync a ∷ []))) kept.rooms for_calls for_files kept.for_pieces

  pub blank_deeds : (a : ℕ) (done : Bool) (calls' : List Call) → calls' ≡ calls ++ Blank a done ∷ [] → deeds pieces calls' ≡ deeds pieces calls ++ Blanked a done ∷ []
  blank_deeds a done calls' is = ap (deeds pieces) is ∙ deeds-blank calls pieces a done

  pub keep_fail_blank : (a : ℕ) (calls' : List Call) (rc' rf' sc' : ℕ) → calls' ≡ calls ++ Blank a false ∷ [] → sc' ≤ rc' → sc' ≤ rf' → IsKept start areas calls' pieces files rc' rf' rp sc' sb
  keep_fail_blank a calls' rc' rf' sc' is for_calls for_files =
      keep (Blanked a false) areas calls' pieces rc' rf' rp sc' sb (blank_deeds a false calls' is) (reads-same areas Disks a (blanked false (area_in Disks a)) kept.reads refl)
      (omega (arith, kept.fits, ap written is, written-append calls (Blank a false ∷ []))) kept.rooms for_calls for_files kept.for_pieces

  pub keep_blank : (a : ℕ) (v : AreaView) (calls' : List Call) (rc' rf' sc' : ℕ) → calls' ≡ calls ++ Blank a true ∷ [] → v.bytes ≡ 0 ∷ [] → sb ≤ v.room → sc' ≤ rc' → sc' ≤ rf'
      → IsKept start (set areas a v) calls' pieces files rc' rf' rp sc' sb
  keep_blank a v calls' rc' rf' sc' is blank room for_calls for_files =
      keep (Blanked a true) (set areas a v) calls' pieces rc' rf' rp sc' sb (blank_deeds a true calls' is) (reads-set areas Disks a v (at_rest (0 ∷ [])) kept.reads blank)
      (omega (arith, kept.fits, ap written is, written-append calls (Blank a true ∷ []))) (rooms-set sb areas a v kept.rooms room) for_calls for_files kept.for_pieces

  pub write_deeds : (a at size : ℕ) (piece : List ℕ) (done : Bool) (calls' : List Call) (pieces' : List ℕ) → calls' ≡ calls ++ Write a at size done ∷ [] → pieces' ≡ pieces ++ piece → size ≡ length piece
      → deeds pieces' calls' ≡ deeds pieces calls ++ Wrote a at piece done ∷ []
  write_deeds a at size piece done calls' pieces' is more counts = (λ i. deeds (more i) (is i)) ∙ deeds-write calls pieces piece a at size done kept.fits counts

  fits_write : (a at size : ℕ) (piece : List ℕ) (done : Bool) (calls' : List Call) (pieces' : List ℕ) → calls' ≡ calls ++ Write a at size done ∷ [] → pieces' ≡ pieces ++ piece → size ≡ length piece → written calls' ≡ length pieces'
  fits_write a at size piece done calls' pieces' is more counts =
      let writes : written calls' ≡ written calls + (size + 0) = ap written is ∙ written-append calls (Write a at size done ∷ []) in
      omega (arith, kept.fits, writes, ap length more, length-append pieces piece)

  pub keep_fail_write : (a at size : ℕ) (piece : List ℕ) (calls' : List Call) (pieces' : List ℕ) (rc' rf' rp' sc' sb' : ℕ) → calls' ≡ calls ++ Write a at size false ∷ [] → pieces' ≡ pieces ++ piece → size ≡ length piece
      → sb' ≤ sb → sc' ≤ rc' → sc' ≤ rf' → sb' ≤ rp' → IsKept start areas calls' pieces' files rc' rf' rp' sc' sb'
  keep_fail_write a at size piece calls' pieces' rc' rf' rp' sc' sb' is more counts less for_calls for_files for_pieces =
      keep (Wrote a at piece false) areas calls' pieces' rc' rf' rp' sc' sb' (write_deeds a at size piece false calls' pieces' is more counts)
      (reads-same areas Disks a (wrote at piece false (area_in Disks a)) kept.reads (wrote-none at piece (area_in Disks a)))
      (fits_write a at size piece false calls' pieces' is more counts) (rooms-less sb sb' areas less kept.rooms) for_calls for_files for_pieces

  pub keep_write : (a at size : ℕ) (piece : List ℕ) (v : AreaView) (calls' : List Call) (pieces' : List ℕ) (rc' rf' rp' sc' sb' : ℕ) → calls' ≡ calls ++ Write a at size true ∷ [] → pieces' ≡ pieces ++ piece → size ≡ length piece
      → 1 ≤ length (area_of (read_of (disk_now (held start pieces calls files))) a) → at ≤ length (area_of (read_of (disk_now (held start pieces calls files))) a) → at + length piece ≤ longest
      → v.bytes ≡ overwritten (area_of (read_of (disk_now (held start pieces calls files))) a) at piece → sb' ≤ v.room
      → sb' ≤ sb → sc' ≤ rc' → sc' ≤ rf' → sb' ≤ rp' → IsKept start (set areas a v) calls' pieces' files rc' rf' rp' sc' sb'
  keep_write a at size piece v calls' pieces' rc' rf' rp' sc' sb' is more counts some inside short bytes room less for_calls for_files for_pieces =
      let read = area_read (disk_now (held start pieces calls files)) a in
      keep (Wrote a at piece true) (set areas a v) calls' pieces' rc' rf' rp' sc' sb' (write_deeds a at size piece true calls' pieces' is more counts)
      (reads-set areas Disks a v (wrote at piece true (area_in Disks a)) kept.reads
      (bytes ∙ ap (λ (l : List ℕ). overwritten l at piece) read ∙ sym (wrote-bytes at piece true (area_in Disks a) (subst (λ (l : List ℕ). 1 ≤ length l) read some) (subst (λ (l : List ℕ). at ≤ length l) read inside) short)))
      (fits_write a at size piece true calls' pieces' is more counts) (rooms-set sb' areas a v (rooms-less sb sb' areas less kept.rooms) room) for_calls for_files for_pieces

-- the value that contracts see
pub seen_held : (k : KeptView) (start : List (List ℕ)) (pieces : List ℕ) (calls : List Call) (files : List File) (sc sb : ℕ) → record { held = held start pieces calls files; spare_calls = sc; spare_bytes = sb } ≡ k
    → (deed : Deed) → grown (held start pieces calls files) deed ≡ grown k.held deed
seen_held k start pieces calls files sc sb is deed = ap (λ (x : KeptView). grown x.held deed) is
