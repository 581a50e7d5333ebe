-- The laws of the store in memory.
use Rattle.std.specs.Prelude.{◌≡◌, ◌⊎◌, ℕ, zero, suc, ◌+◌, ◌≤◌, nat_le, Bool, true, false, cond, ◌&&◌, if◌then◌else◌}
use Rattle.std.specs.Prelude.{List, [], ◌∷◌, ◌++◌, length, set, map, take, drop, Some}
use Rattle.std.proofs.Common.{inl, inr, ⊎_elim, refl, sym, ◌∙◌, ap, subst, arith, length-append}
use Rattle.std.proofs.lemmas.List.{take_all, length-set, length-map, take_at, drop_at, length-take-le, length-drop}
use Rattle.std.proofs.lemmas.List.{append_assoc}
use Rattle.std.proofs.Math.ListN.{get_or-map}
use Rattle.std.proofs.lemmas.Bool.{and_from, and_parts, leb-true}
use Rattle.std.specs.FinMap.{get, from_entries, get-from_entries}
use Rattle.std.specs.FinMap.Entries.{find}
use Rattle.std.specs.List.{list_all}
use Rattle.std.specs.Ordering.{nat_cmp, eq_by_cmp}
use Rattle.std.proofs.lemmas.Cmp.{nat_cmp_total}
use Rattle.dev_traits.specs.Image.{Image, HasShortParts, area_of, file, longest, overwritten, Torn}
use Rattle.dev_memory.specs.Disk.{Deed, Wrote, Synced, Blanked, ChangedFiles, AreaDisk, Disk, at_rest, area_in}
use Rattle.dev_memory.specs.Disk.{area_disk, Reaches, IsImage, is_short, stands_at, can_write, wrote, blanked, after}
use Rattle.dev_memory.specs.Disk.{replay, entries_at, Held, disk_now, disk_at, bytes_of, read_of, MightSince}
use Rattle.dev_memory.specs.Images.{is_short_file}
use Rattle.dev_memory.specs.Kept.{IsValid, has_short_bytes}
use Rattle.dev_memory.specs.declared.call.File.{File}

pub torn_same : (at n : ℕ) (bytes : List ℕ) → Torn at n bytes bytes
torn_same at n bytes = record { before = refl; after = refl; no_shorter = omega arith; no_longer = omega arith }

-- after all the calls
pub disk_whole : (held : Held) (k : ℕ) → length held.deeds ≤ k → k ≤ length held.deeds → disk_at held k ≡ disk_now held
disk_whole held k le ge =
    let last : k ≡ length held.deeds = omega arith in
    (λ i. record {
      areas = replay (map at_rest held.start) (take_all k held.deeds le i);
      files = from_entries
          (entries_at (last i) held.files);
    })

pub counts : (held : Held) (t : ℕ) (image : Image) → t ≤ length held.deeds → IsImage (disk_now held) image
    → MightSince held t image
counts held t image le is = record {
  calls_before = length held.deeds;
  since = le;
  until = omega arith;
  is_image = subst (λ (d : Disk). IsImage d image) (sym (disk_whole held (length held.deeds) (omega arith)
      (omega arith))) is;
}

pub only : (held : Held) (image : Image) → MightSince held (length held.deeds) image → IsImage (disk_now held) image
only held image might = subst (λ (d : Disk). IsImage d image)
    (disk_whole held might.calls_before might.since might.until) might.is_image

pub torn_overwritten : (at : ℕ) (old piece : List ℕ) → at ≤ length old
    → Torn at (length piece) old (overwritten old at piece)
torn_overwritten at old piece le =
    let front : length (take at old) ≡ at = length-take-le at old le in
    record {
      before = ap (λ (l : List ℕ). take at l) (append_assoc (take at old) piece (drop (at + length piece) old))
          ∙ take_at (take at old) (piece ++ drop (at + length piece) old) at front;
      after = drop_at (take at old ++ piece) (drop (at + length piece) old) (at + length piece) (omega (
        arith,
        front,
        length-append (take at old) piece,
      ));
      no_shorter = omega (
        arith,
        front,
        length-append (take at old) piece,
        length-append (take at old ++ piece)
            (drop (at + length piece) old),
        length-drop (at + length piece) old,
      );
      no_longer = omega (
        arith,
        front,
        length-append (take at old) piece,
        length-append (take at old ++ piece) (drop
            (at + length piece) old),
        length-drop (at + length piece) old,
      );
    }

-- what is read is one of the things that a crash may leave; where nothing is read, it leaves nothing or the one byte 0
pub record IsSound (d : AreaDisk) : Type 0 where
  pub reads : Reaches d.base d.steps d.bytes
  pub empty : d.bytes ≡ [] → (c : List ℕ) → Reaches d.base d.steps c → (c ≡ []) ⊎ (c ≡ 0 ∷ [])

pub at_rest-IsSound : (bytes : List ℕ) → IsSound (at_rest bytes)
at_rest-IsSound bytes = record { reads = refl; empty = λ none c is. inl (is ∙ none) }

wrote-IsSound : (at : ℕ) (piece : List ℕ) (ok : Bool) (d : AreaDisk) → IsSound d → IsSound (wrote at piece ok d)
wrote-IsSound at piece ok d sound = go (can_write at (length piece) d.bytes) refl
  where
    at_ok : (b : Bool) → at ≤ length d.bytes → 1 ≤ length d.bytes
        → IsSound (record {
          bytes = if b then overwritten d.bytes at piece else d.bytes;
          base = d.base;
          steps = Some
              (at, length piece) ∷ d.steps;
        })
    at_ok true le long = record {
      reads = (d.bytes, sound.reads, torn_overwritten at d.bytes piece le);
      empty = λ none c is. absurd (omega (arith, (torn_overwritten at d.bytes piece le).no_shorter, ap length none));
    }
    at_ok false le long = record {
      reads = (d.bytes, sound.reads, torn_same at (length piece) d.bytes);
      empty = λ none c is. absurd (omega (arith, ap length none));
    }

    go : (b : Bool) → can_write at (length piece) d.bytes ≡ b
        → IsSound (if b then record {
          bytes = if ok then overwritten d.bytes at piece else d.bytes;
          base = d.base;
          steps = Some (at, length piece) ∷ d.steps;
        } else d)
    go true is =
        let inside = and_parts (nat_le 1 (length d.bytes) && nat_le at (length d.bytes)) (nat_le
        (at + length piece) longest) is in
        let parts = and_parts (nat_le 1 (length d.bytes)) (nat_le at (length d.bytes)) inside.0 in at_ok ok
        (leb-true at (length d.bytes) parts.1) (leb-true 1 (length d.bytes) parts.0)
    go false is = sound

blanked-IsSound : (ok : Bool) (d : AreaDisk) → IsSound d → IsSound (blanked ok d)
blanked-IsSound true d sound = at_rest-IsSound (0 ∷ [])
blanked-IsSound false d sound = record {
  reads = inr sound.reads;
  empty = λ none c is. ⊎_elim (λ blank. inr blank)
      (sound.empty none c) is;
}

-- What holds of each area, and lasts over each call, holds after all calls.
module _ (P : AreaDisk → Type 0) (at_write : (at : ℕ) (piece : List ℕ) (ok : Bool) (d : AreaDisk) → P d
    → P (wrote at piece ok d)) (at_sync : (d : AreaDisk) → P d → P (at_rest d.bytes))
    (at_blank : (ok : Bool) (d : AreaDisk) → P d → P (blanked ok d)) where
  set-each : (xs : List AreaDisk) (x : AreaDisk) (a : ℕ) → ((b : ℕ) → P (area_in xs b)) → P x → (b : ℕ)
      → P (area_in (set xs a x) b)
  set-each [] x a all is b = all b
  set-each (y ∷ xs) x zero all is zero = is
  set-each (y ∷ xs) x zero all is (suc b) = all (suc b)
  set-each (y ∷ xs) x (suc a) all is zero = all zero
  set-each (y ∷ xs) x (suc a) all is (suc b) = set-each xs x a (λ k. all (suc k)) is b

  after-each : (deed : Deed) (areas : List AreaDisk) → ((b : ℕ) → P (area_in areas b)) → (b : ℕ)
      → P (area_in (after deed areas) b)
  after-each (Wrote a at piece ok) areas all = set-each areas (wrote at piece ok (area_in areas a)) a all
      (at_write at piece ok (area_in areas a) (all a))
  after-each (Synced a) areas all = set-each areas (at_rest (area_in areas a).bytes) a all (at_sync
      (area_in areas a) (all a))
  after-each (Blanked a ok) areas all = set-each areas (blanked ok (area_in areas a)) a all (at_blank ok
      (area_in areas a) (all a))
  after-each ChangedFiles areas all = all

  pub replay-each : (deeds : List Deed) (areas : List AreaDisk) → ((b : ℕ) → P (area_in areas b)) → (b : ℕ)
      → P (area_in (replay areas deeds) b)
  replay-each [] areas all = all
  replay-each (deed ∷ rest) areas all = replay-each rest (after deed areas) (after-each deed areas all)

abbrev pub AreSound : List AreaDisk → Type 0
AreSound areas = (a : ℕ) → IsSound (area_in areas a)

start-sound : (start : List (List ℕ)) → AreSound (map at_rest start)
start-sound [] a = at_rest-IsSound []
start-sound (bytes ∷ start) zero = at_rest-IsSound bytes
start-sound (bytes ∷ start) (suc a) = start-sound start a

pub sound : (held : Held) → AreSound (disk_now held).areas
sound held = replay-each IsSound wrote-IsSound (λ d sound. at_rest-IsSound d.bytes) blanked-IsSound held.deeds
    (map at_rest held.start) (start-sound held.start)

-- What is read of an area, and what a crash may leave of it, isn't too long.
pub record IsShortArea (d : AreaDisk) : Type 0 where
  pub reads : length d.bytes ≤ longest
  pub each : (c : List ℕ) → Reaches d.base d.steps c → length c ≤ longest

rest-IsShort : (bytes : List ℕ) → length bytes ≤ longest → IsShortArea (at_rest bytes)
rest-IsShort bytes le = record { reads = le; each = λ c is. omega (arith, le, ap length is) }

wrote-IsShort : (at : ℕ) (piece : List ℕ) (ok : Bool) (d : AreaDisk) → IsShortArea d → IsShortArea (wrote at piece ok d)
wrote-IsShort at piece ok d short = go (can_write at (length piece) d.bytes) refl
  where
    each_torn : at + length piece ≤ longest → (c : List ℕ) → Reaches d.base (Some (at, length piece) ∷ d.steps) c
        → length c ≤ longest
    each_torn le c is = omega (arith, le, is.2.no_longer, short.each is.0 is.1)

    at_ok : (b : Bool) → at ≤ length d.bytes → at + length piece ≤ longest
        → IsShortArea (record {
          bytes = if b then overwritten d.bytes at piece else d.bytes;
          base = d.base;
          steps =
              Some (at, length piece) ∷ d.steps;
        })
    at_ok true inside le = record {
      reads = omega (
        arith,
        le,
        short.reads,
        (torn_overwritten at d.bytes piece inside).no_longer,
      );
      each = each_torn le;
    }
    at_ok false inside le = record { reads = short.reads; each = each_torn le }

    go : (b : Bool) → can_write at (length piece) d.bytes ≡ b
        → IsShortArea (if b then record {
          bytes = if ok then overwritten d.bytes at piece else d.bytes;
          base =
              d.base;
          steps = Some (at, length piece) ∷ d.steps;
        } else d)
    go true is =
        let inside = and_parts (nat_le 1 (length d.bytes) && nat_le at (length d.bytes)) (nat_le
        (at + length piece) longest) is in
        let parts = and_parts (nat_le 1 (length d.bytes)) (nat_le at (length d.bytes)) inside.0 in at_ok ok
        (leb-true at (length d.bytes) parts.1) (leb-true (at + length piece) longest inside.1)
    go false is = short

blanked-IsShort : (ok : Bool) (d : AreaDisk) → IsShortArea d → IsShortArea (blanked ok d)
blanked-IsShort true d short = rest-IsShort (0 ∷ []) (omega arith)
blanked-IsShort false d short = record {
  reads = short.reads;
  each = λ c is. ⊎_elim (λ blank. omega (
    arith,
    ap length blank,
  )) (short.each c) is;
}

start-short : (start : List (List ℕ)) → list_all is_short start ≡ true → (a : ℕ)
    → IsShortArea (area_in (map at_rest start) a)
start-short [] all a = rest-IsShort [] (omega arith)
start-short (bytes ∷ start) all zero = rest-IsShort bytes (leb-true (length bytes) longest (and_parts
    (is_short bytes) (list_all is_short start) all).0)
start-short (bytes ∷ start) all (suc a) = start-short start (and_parts (is_short bytes)
    (list_all is_short start) all).1 a

short_areas : (start : List (List ℕ)) (deeds : List Deed) → list_all is_short start ≡ true → (a : ℕ)
    → IsShortArea (area_in (replay (map at_rest start) deeds) a)
short_areas start deeds all = replay-each IsShortArea wrote-IsShort
    (λ d short. rest-IsShort d.bytes short.reads) blanked-IsShort deeds (map at_rest start) (start-short start all)

find-short : (es : List (ℕ × List ℕ)) (number : ℕ) (bytes : List ℕ) → list_all is_short_file es ≡ true
    → find nat_cmp number es ≡ Some bytes → length bytes ≤ longest
find-short [] number bytes all is = absurd (cc)
find-short (e ∷ es) number bytes all is = go (find-short es number bytes (and_parts (is_short_file e)
    (list_all is_short_file es) all).1) (eq_by_cmp nat_cmp number e.0) is
  where
    go : (find nat_cmp number es ≡ Some bytes → length bytes ≤ longest) → (b : Bool)
        → cond b (Some e.1) (find nat_cmp number es) ≡ Some bytes → length bytes ≤ longest
    go rest true is =
        let same : e.1 ≡ bytes = cc in
        omega (
          arith,
          ap length same,
          leb-true (length e.1) longest (and_parts (is_short_file e)
              (list_all is_short_file es) all).0,
        )
    go rest false is = rest is

entries-short : (k : ℕ) (files : List File) → list_all has_short_bytes files ≡ true
    → list_all is_short_file (entries_at k files) ≡ true
entries-short k [] all = refl
entries-short k (f ∷ files) all = go (stands_at k f) (entries-short k files (and_parts (has_short_bytes f)
    (list_all has_short_bytes files) all).1)
  where
    go : (b : Bool) → list_all is_short_file (entries_at k files) ≡ true
        → list_all is_short_file (if b then (f.number, f.bytes) ∷ entries_at k files else entries_at k files) ≡ true
    go true rest = and_from _ _ (and_parts (has_short_bytes f) (list_all has_short_bytes files) all).0 rest
    go false rest = rest

-- of a map of entries that aren't too long
pub get-short : (es : List (ℕ × List ℕ)) → list_all is_short_file es ≡ true → (number : ℕ) (bytes : List ℕ)
    → get (from_entries {R = nat_cmp} es) number ≡ Some bytes → length bytes ≤ longest
get-short es all number bytes is = find-short es number bytes all (sym (get-from_entries nat_cmp_total es number) ∙ is)

-- the files that stand
pub files_short : (held : Held) → IsValid held → (number : ℕ) (bytes : List ℕ)
    → get (disk_now held).files number ≡ Some bytes → length bytes ≤ longest
files_short held valid = get-short (entries_at (length held.deeds) held.files) (entries-short
    (length held.deeds) held.files valid.short_files)

pub short_now : (held : Held) (image : Image) → IsValid held → IsImage (disk_now held) image → HasShortParts image
short_now held image valid is = record {
  areas = λ a. (short_areas held.start held.deeds valid.short a).each
      (area_of image a) (is.areas a);
  files = is.short;
}

pub short_since : (held : Held) (t : ℕ) (image : Image) → IsValid held → MightSince held t image → HasShortParts image
short_since held t image valid might =
    record {
      areas = λ a. (short_areas held.start (take might.calls_before held.deeds) valid.short a).each
          (area_of image a) (might.is_image.areas a);
      files = might.is_image.short;
    }

pub length-after : (deed : Deed) (areas : List AreaDisk) → length (after deed areas) ≡ length areas
length-after (Wrote a at piece ok) areas = length-set areas a (wrote at piece ok (area_in areas a))
length-after (Synced a) areas = length-set areas a (at_rest (area_in areas a).bytes)
length-after (Blanked a ok) areas = length-set areas a (blanked ok (area_in areas a))
length-after ChangedFiles areas = refl

length-replay : (all : List Deed) (areas : List AreaDisk) → length (replay areas all) ≡ length areas
length-replay [] areas = refl
length-replay (deed ∷ rest) areas = length-replay rest (after deed areas) ∙ length-after deed areas

pub three : (held : Held) → length held.start ≡ 3 → length (disk_now held).areas ≡ 3
three held are_three = length-replay held.deeds (map at_rest held.start) ∙ length-map held.start at_rest ∙ are_three

pub area_read : (disk : Disk) (a : ℕ) → area_of (read_of disk) a ≡ (area_disk disk a).bytes
area_read disk a = get_or-map bytes_of disk.areas a (at_rest [])

pub read_is_image : (held : Held) → IsValid held → IsImage (disk_now held) (read_of (disk_now held))
read_is_image held valid = record {
  three = length-map (disk_now held).areas bytes_of ∙ three held valid.three;
  areas = λ a. subst (Reaches (area_disk (disk_now held) a).base (area_disk (disk_now held) a).steps) (sym
      (area_read (disk_now held) a)) (sound held a).reads;
  files = λ number bytes is. is;
  short = files_short held valid;
}

same_image : (x y : Image) → Some x ≡ Some y → x ≡ y
same_image x y is = cc

pub files_kept : (held : Held) (image : Image) → Some (read_of (disk_now held)) ≡ Some image
    → (number : ℕ) (bytes : List ℕ) → file image number ≡ Some bytes → (left : Image)
    → IsImage (disk_now held) left → file left number ≡ Some bytes
files_kept held image is number bytes there left may = may.files number bytes (subst (λ
    (i : Image). file i number ≡ Some bytes) (sym (same_image _ image is)) there)

pub empty_kept : (held : Held) (image : Image) → Some (read_of (disk_now held)) ≡ Some image → (a : ℕ)
    → area_of image a ≡ [] → (left : Image) → IsImage (disk_now held) left → (area_of left a ≡ [])
    ⊎ (area_of left a ≡ 0 ∷ [])
empty_kept held image is a none left may =
    (sound held a).empty (sym (area_read (disk_now held) a)
    ∙ ap (λ (i : Image). area_of i a) (same_image _ image is) ∙ none) (area_of left a) (may.areas a)

pub three_read : (held : Held) → length held.start ≡ 3 → (image : Image)
    → Some (read_of (disk_now held)) ≡ Some image → length image.areas ≡ 3
three_read held are_three image is = ap (λ (i : Image). length i.areas) (sym (same_image _ image is))
    ∙ length-map (disk_now held).areas bytes_of ∙ three held are_three

pub short_read : (held : Held) → IsValid held → (image : Image) → Some (read_of (disk_now held)) ≡ Some image
    → HasShortParts image
short_read held valid image is = subst HasShortParts (same_image _ image is) (short_now held (read_of
    (disk_now held)) valid (read_is_image held valid))
