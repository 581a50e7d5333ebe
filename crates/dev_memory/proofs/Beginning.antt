-- A store in memory at first.
use Rattle.std.proofs.Common.{◌≡◌, ◌≤◌, ◌<◌, ◌^◌, ℕ, zero, suc, true, List, [], ◌∷◌, length, map, Some, get_or, refl, sym, ◌∙◌, ap, subst, arith}
use Rattle.std.specs.List.{list_all}
use Rattle.std.proofs.lemmas.Bool.{and_from, and_parts, le-leb, leb-true}
use Rattle.std.proofs.Math.ListN.{get_or-map}
use Rattle.std.specs.Ordering.{nat_cmp}
use Rattle.std.specs.FinMap.{from_entries}
use Rattle.dev_traits.specs.Image.{Image, area_of}
use Rattle.dev_memory.specs.Areas.{AreaView, bytes_in, has_room}
use Rattle.dev_memory.specs.Disk.{AreaDisk, at_rest, bytes_of, Reaches, disk_now, read_of, IsImage, Held, entries_at, settled_by, is_short, mem_view}
use Rattle.dev_memory.specs.Kept.{at_first, first_file, has_short_bytes, held, IsKept}
use Rattle.dev_memory.specs.Images.{is_short_file}
use Rattle.dev_memory.specs.Store.{Begins}
use Rattle.dev_memory.specs.declared.call.File.{File}
use Rattle.dev_memory.specs.declared.call.Call.{Call}

pub start-reads : (start : List (List ℕ)) → map bytes_of (map at_rest start) ≡ start
start-reads [] = refl
start-reads (bytes ∷ start) = ap (λ (l : List (List ℕ)). bytes ∷ l) (start-reads start)

pub rooms-none : (areas : List AreaView) → list_all (has_room 0) areas ≡ true
rooms-none [] = refl
rooms-none (area ∷ areas) = and_from _ _ (le-leb 0 area.room (omega arith)) (rooms-none areas)

pub first-settled : (entries : List (ℕ × List ℕ)) → list_all (settled_by 0) (map first_file entries) ≡ true
first-settled [] = refl
first-settled (e ∷ entries) = first-settled entries

pub first-short : (entries : List (ℕ × List ℕ)) → list_all is_short_file entries ≡ true → list_all has_short_bytes (map first_file entries) ≡ true
first-short [] all = refl
first-short (e ∷ entries) all = let both = and_parts (is_short_file e) (list_all is_short_file entries) all in and_from _ _ both.0 (first-short entries both.1)

pub first-entries : (entries : List (ℕ × List ℕ)) → entries_at 0 (map first_file entries) ≡ entries
first-entries [] = refl
first-entries (e ∷ entries) = ap (λ (l : List (ℕ × List ℕ)). e ∷ l) (first-entries entries)

-- a crash leaves what was there
rests : (start : List (List ℕ)) (files : List File) (a : ℕ) (left : Image) → IsImage (disk_now (at_first start files)) left → area_of left a ≡ get_or start a []
rests start files a left may =
    let d : get_or (map at_rest start) a (at_rest []) ≡ at_rest (get_or start a []) = get_or-map at_rest start a [] in
    subst (λ (x : AreaDisk). Reaches x.base x.steps (area_of left a)) d (may.areas a)

pub begins : (start : List (List ℕ)) (entries : List (ℕ × List ℕ)) (h : Held) (spare_calls spare_bytes : ℕ) → h ≡ at_first start (map first_file entries)
    → Begins (record { areas = start; files = from_entries entries }) (mem_view h true 0 spare_calls spare_bytes)
begins start entries h spare_calls spare_bytes is = record {
  reads = ap (λ (x : Held). Some (read_of (disk_now x))) is ∙ ap Some (λ i. record { areas = start-reads start i; files = from_entries {R = nat_cmp} (first-entries entries i) });
  honest = refl;
  each = λ left may a. rests start (map first_file entries) a left (subst (λ (x : Held). IsImage (disk_now x) left) is may);
  faults = refl;
  moment = ap (λ (x : Held). length x.deeds) is;
}

-- before any call all fits
pub kept-first : (start : List (List ℕ)) (areas : List AreaView) (calls : List Call) (pieces : List ℕ) (files : List File) (rc rf rp : ℕ) → calls ≡ [] → pieces ≡ [] → length start ≡ 3 → list_all is_short start ≡ true → list_all has_short_bytes files ≡ true → list_all (settled_by 0) files ≡ true
    → map bytes_in areas ≡ start → IsKept start areas calls pieces files rc rf rp 0 0
kept-first start areas calls pieces files rc rf rp no_calls no_pieces three short short_files settled reads =
    subst (λ (cs : List Call). IsKept start areas cs pieces files rc rf rp 0 0) (sym no_calls)
    (subst (λ (ps : List ℕ). IsKept start areas [] ps files rc rf rp 0 0) (sym no_pieces)
    (record {
      valid = record { three = three; short = short; short_files = short_files; settled = settled };
      reads = reads ∙ sym (start-reads start);
      fits = refl;
      rooms = rooms-none areas;
      for_calls = omega arith;
      for_files = omega arith;
      for_pieces = omega arith;
    }))

pub held-first : (start : List (List ℕ)) (calls : List Call) (pieces : List ℕ) (files : List File) → calls ≡ [] → held start pieces calls files ≡ at_first start files
held-first start calls pieces files no_calls = ap (λ (cs : List Call). held start pieces cs files) no_calls

-- each of some short texts is short
pub short-at : (texts : List (List ℕ)) (i : ℕ) (text : List ℕ) → list_all is_short texts ≡ true → i < length texts → text ≡ get_or texts i text → length text ≤ 2 ^ 44
short-at [] i text short lt is = absurd (omega (arith, lt))
short-at (t ∷ texts) zero text short lt is = let here = leb-true (length t) (2 ^ 44) (and_parts (is_short t) (list_all is_short texts) short).0 in omega (arith, here, ap length is)
short-at (t ∷ texts) (suc i) text short lt is = short-at texts i text (and_parts (is_short t) (list_all is_short texts) short).1 (omega (arith, lt)) is
