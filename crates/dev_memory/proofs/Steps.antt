-- What each call adds to what a crash may leave.
use Rattle.std.proofs.Common.{◌≡◌, ◌≢◌, inl, inr, ⊎_elim, ℕ, ◌+◌, ◌≤◌, ◌<◌, Bool, true, false, cond, if◌then◌else◌, List, [], ◌∷◌, ◌++◌, length, take, set, map, Option, Some, None, refl, sym, ◌∙◌, ap, subst, arith, length-append}
use Rattle.std.proofs.lemmas.List.{take-append-le, get_or-set_same, get_or-set_other, length-set}
use Rattle.std.proofs.lemmas.Bool.{cases_eq}
use Rattle.std.proofs.lemmas.Map.Views.{list_any-from_Contains}
use Rattle.std.proofs.lemmas.Cmp.{nat_cmp_total, eq_by_cmp_equiv}
use Rattle.std.specs.Ordering.{nat_cmp, eq_by_cmp}
use Rattle.std.specs.FinMap.Entries.{find}
use Rattle.std.specs.FinMap.{get, insert, retain_keys, from_entries, entries, get-insert, get-entries}
use Rattle.dev_traits.specs.Image.{Image, area_of, file, longest, overwritten, with_area, Same, Elsewhere, Torn, TornIn, Blanked, Forgets}
use Rattle.dev_traits.specs.View.{Leaves}
use Rattle.dev_memory.specs.Disk.{Deed, AreaDisk, Disk, at_rest, area_disk, Reaches, IsImage, can_write, wrote, blanked, after, replay, entries_at, Held, disk_now, disk_at, mem_view, is_in}
use Rattle.dev_memory.specs.Kept.{grown, IsValid}
use Rattle.dev_memory.specs.Laws.{AreSound, disk_whole}
use Rattle.dev_memory.proofs.Keeping.{replay-push}
use Rattle.dev_memory.proofs.Files.{tied, ties, get-kept, entries-later, revive, get-revive, get-revived, get-unrevived}

abbrev pub Step : Type 1
Step = Image → Image → Type 0

-- an image of the disk comes by the step from an image of the other
abbrev pub From : Step → Disk → Image → Type 0
From S disk image = (d : Image) × IsImage disk d × S d image

-- no call: by any step that an image takes to itself
pub no_step : (S : Step) (h : Held) (b b' : Bool) (f c y f' c' y' : ℕ) → ((i : Image) → S i i) → Leaves S (mem_view h b f c y) (mem_view h b' f' c' y')
no_step S h b b' f c y f' c' y' same = record { later = omega arith; now = λ i left. (i, left, same i); each = λ t i le since. inl since; keeps = λ t i le since. since }

pub no_call : (h : Held) (b b' : Bool) (f c y f' c' y' : ℕ) → Leaves Same (mem_view h b f c y) (mem_view h b' f' c' y')
no_call h b b' f c y f' c' y' = no_step Same h b b' f c y f' c' y' (λ i. refl)

-- one call more in the record, and the files of every moment before as they were
pub record Grows (u v : Held) (deed : Deed) : Type 0 where
  pub start : v.start ≡ u.start
  pub deeds : v.deeds ≡ u.deeds ++ deed ∷ []
  pub earlier : (k : ℕ) → k ≤ length u.deeds → entries_at k v.files ≡ entries_at k u.files

disk_earlier : (u v : Held) (deed : Deed) (grows : Grows u v deed) (k : ℕ) → k ≤ length u.deeds → disk_at v k ≡ disk_at u k
disk_earlier u v deed grows k le =
    let calls : take k v.deeds ≡ take k u.deeds = ap (λ (l : List Deed). take k l) grows.deeds ∙ take-append-le k u.deeds (deed ∷ []) le in
    (λ i. record { areas = replay (map at_rest (grows.start i)) (calls i); files = from_entries (grows.earlier k le i) })

pub one_call : (S : Step) (u v : Held) (deed : Deed) (grows : Grows u v deed) (b b' : Bool) (f c y f' c' y' : ℕ) → ((i : Image) → IsImage (disk_now v) i → From S (disk_now u) i)
    → Leaves S (mem_view u b f c y) (mem_view v b' f' c' y')
one_call S u v deed grows b b' f c y f' c' y' step = record {
  later = omega (arith, longer);
  now = step;
  each = λ t i le might. elim (cases_eq might.calls_before (length u.deeds + 1)) [
    | inl last ↦ inr (step i (subst (λ (d : Disk). IsImage d i) (disk_whole v might.calls_before (omega (arith, last, longer)) might.until) might.is_image))
    | inr before ↦ inl (
        let le : might.calls_before ≤ length u.deeds = omega (arith, before, might.until, longer) in
        record {
          calls_before = might.calls_before;
          since = might.since;
          until = le;
          is_image = subst (λ (d : Disk). IsImage d i) (disk_earlier u v deed grows might.calls_before le) might.is_image;
        })
  ];
  keeps = λ t i le might. record {
    calls_before = might.calls_before;
    since = might.since;
    until = omega (arith, might.until, longer);
    is_image = subst (λ (d : Disk). IsImage d i) (sym (disk_earlier u v deed grows might.calls_before might.until)) might.is_image;
  };
}
  where
    longer : length v.deeds ≡ length u.deeds + 1
    longer = omega (arith, ap length grows.deeds, length-append u.deeds (deed ∷ []))

-- a call on an area
pub grows_grown : (h : Held) (deed : Deed) → Grows h (grown h deed) deed
grows_grown h deed = record { start = refl; deeds = refl; earlier = λ k le. refl }

pub disk_grown : (h : Held) (deed : Deed) → IsValid h → disk_now (grown h deed) ≡ record { areas = after deed (disk_now h).areas; files = (disk_now h).files }
disk_grown h deed valid =
    let files = entries-later (length h.deeds) (length (h.deeds ++ deed ∷ [])) h.files valid.settled (omega (arith, length-append h.deeds (deed ∷ []))) in
    (λ i. record { areas = replay-push h.deeds deed (map at_rest h.start) i; files = from_entries (files i) })

-- An area is written.

abbrev pub with_area_disk : ℕ → (AreaDisk → AreaDisk) → Disk → Disk
with_area_disk a f disk = record { areas = set disk.areas a (f (area_disk disk a)); files = disk.files }

module _ (disk : Disk) (are_three : length disk.areas ≡ 3) (a : ℕ) (in_range : a < 3) where
  pub area_at : (f : AreaDisk → AreaDisk) → area_disk (with_area_disk a f disk) a ≡ f (area_disk disk a)
  area_at f = get_or-set_same disk.areas a (f (area_disk disk a)) (at_rest []) (omega (arith, are_three))

  pub area_not_at : (f : AreaDisk → AreaDisk) (b : ℕ) → b ≢ a → area_disk (with_area_disk a f disk) b ≡ area_disk disk b
  area_not_at f b other = get_or-set_other disk.areas a b (f (area_disk disk a)) (at_rest []) other

  old_area : (old : List ℕ) (i : Image) → length i.areas ≡ 3 → area_of (with_area a old i) a ≡ old
  old_area old i size = get_or-set_same i.areas a old [] (omega (arith, size))

  pub elsewhere : (old : List ℕ) (i : Image) → Elsewhere a (with_area a old i) i
  elsewhere old i = record { areas = λ b other. sym (get_or-set_other i.areas a b old [] other); files = refl }

  -- an image with what the area held before
  pub old_image : (f : AreaDisk → AreaDisk) (i : Image) → IsImage (with_area_disk a f disk) i → (old : List ℕ) → Reaches (area_disk disk a).base (area_disk disk a).steps old → IsImage disk (with_area a old i)
  old_image f i is old reaches = record {
    three = length-set i.areas a old ∙ is.three;
    areas = λ b. elim (cases_eq b a) [
      | inl same ↦ subst (λ (k : ℕ). Reaches (area_disk disk k).base (area_disk disk k).steps (area_of (with_area a old i) k)) (sym same)
          (subst (Reaches (area_disk disk a).base (area_disk disk a).steps) (sym (old_area old i is.three)) reaches)
      | inr other ↦ subst (Reaches (area_disk disk b).base (area_disk disk b).steps) ((elsewhere old i).areas b other)
          (subst (λ (d : AreaDisk). Reaches d.base d.steps (area_of i b)) (area_not_at f b other) (is.areas b))
    ];
    files = is.files;
    short = is.short;
  }

  wrote_is : (at : ℕ) (piece : List ℕ) (ok : Bool) (d : AreaDisk) → can_write at (length piece) d.bytes ≡ true → wrote at piece ok d ≡ record { bytes = if ok then overwritten d.bytes at piece else d.bytes; base = d.base; steps = Some (at, length piece) ∷ d.steps }
  wrote_is at piece ok d can = ap (λ (b : Bool). if b then record { bytes = if ok then overwritten d.bytes at piece else d.bytes; base = d.base; steps = Some (at, length piece) ∷ d.steps } else d) can

  pub write_step : (at : ℕ) (piece : List ℕ) (ok : Bool) → can_write at (length piece) (area_disk disk a).bytes ≡ true → (i : Image) → IsImage (with_area_disk a (wrote at piece ok) disk) i → From (TornIn a at (length piece)) disk i
  write_step at piece ok can i is =
      let at_a : Reaches (area_disk disk a).base (Some (at, length piece) ∷ (area_disk disk a).steps) (area_of i a) =
      subst (λ (d : AreaDisk). Reaches d.base d.steps (area_of i a)) (area_at (wrote at piece ok) ∙ wrote_is at piece ok (area_disk disk a) can) (is.areas a) in (
        with_area a at_a.0 i,
        old_image (wrote at piece ok) i is at_a.0 at_a.1,
        record { elsewhere = elsewhere at_a.0 i; torn = subst (λ (l : List ℕ). Torn at (length piece) l (area_of i a)) (sym (old_area at_a.0 i is.three)) at_a.2 },
      )

  pub blank_step : AreSound disk.areas → (ok : Bool) (i : Image) → IsImage (with_area_disk a (blanked ok) disk) i → From (Blanked a) disk i
  blank_step are_sound true i is =
      let old = (area_disk disk a).bytes in (
        with_area a old i,
        old_image (blanked true) i is old (are_sound a).reads,
        record { elsewhere = elsewhere old i; blank = inr (subst (λ (d : AreaDisk). Reaches d.base d.steps (area_of i a)) (area_at (blanked true)) (is.areas a)) },
      )
  blank_step are_sound false i is = ⊎_elim
      (λ blank. (with_area a (area_disk disk a).bytes i, old_image (blanked false) i is (area_disk disk a).bytes (are_sound a).reads, record { elsewhere = elsewhere (area_disk disk a).bytes i; blank = inr blank }))
      (λ reaches. (with_area a (area_of i a) i, old_image (blanked false) i is (area_of i a) reaches, record { elsewhere = elsewhere (area_of i a) i; blank = inl (sym (old_area (area_of i a) i is.three)) }))
      (subst (λ (d : AreaDisk). Reaches d.base d.steps (area_of i a)) (area_at (blanked false)) (is.areas a))

  -- a sync
  pub sync_area : (i : Image) → IsImage (with_area_disk a (λ d. at_rest d.bytes) disk) i → area_of i a ≡ (area_disk disk a).bytes
  sync_area i is = subst (λ (d : AreaDisk). Reaches d.base d.steps (area_of i a)) (area_at (λ d. at_rest d.bytes)) (is.areas a)

  pub sync_step : AreSound disk.areas → (i : Image) → IsImage (with_area_disk a (λ d. at_rest d.bytes) disk) i → IsImage disk i
  sync_step are_sound i is = record {
    three = is.three;
    areas = λ b. elim (cases_eq b a) [
      | inl same ↦ subst (λ (k : ℕ). Reaches (area_disk disk k).base (area_disk disk k).steps (area_of i k)) (sym same)
          (subst (Reaches (area_disk disk a).base (area_disk disk a).steps) (sym (sync_area i is)) (are_sound a).reads)
      | inr other ↦ subst (λ (d : AreaDisk). Reaches d.base d.steps (area_of i b)) (area_not_at (λ d. at_rest d.bytes) b other) (is.areas b)
    ];
    files = is.files;
    short = is.short;
  }

-- A file is adopted.

pub adopt_step : (disk : Disk) (number : ℕ) (bytes : List ℕ) → get disk.files number ≡ None → (i : Image) → IsImage (record disk { files = insert disk.files number bytes }) i → IsImage disk i
adopt_step disk number bytes new i is = record {
  three = is.three;
  areas = is.areas;
  files = λ n x held. is.files n x (get-insert nat_cmp_total disk.files number bytes n ∙ go n x held (eq_by_cmp nat_cmp n number) refl);
  short = is.short;
}
  where
    go : (n : ℕ) (x : List ℕ) → get disk.files n ≡ Some x → (b : Bool) → eq_by_cmp nat_cmp n number ≡ b → cond b (Some bytes) (get disk.files n) ≡ Some x
    go n x held true same = let there : get disk.files number ≡ Some x = ap (get disk.files) (sym (tied n number same)) ∙ held in cc
    go n x held false same = held

pub adopted : (disk : Disk) (number : ℕ) (bytes : List ℕ) (i : Image) → IsImage (record disk { files = insert disk.files number bytes }) i → file i number ≡ Some bytes
adopted disk number bytes i is = is.files number bytes (get-insert nat_cmp_total disk.files number bytes number ∙ ap (λ (b : Bool). cond b (Some bytes) (get disk.files number)) (ties number))

-- Files are forgotten.

pub forget_step : (disk : Disk) (keep : List ℕ) → ((number : ℕ) (bytes : List ℕ) → get disk.files number ≡ Some bytes → length bytes ≤ longest) → (i : Image) → IsImage (record disk { files = retain_keys disk.files (is_in keep) }) i → From (Forgets keep) disk i
forget_step disk keep short i is = (
  record i { files = revive keep (entries disk.files) i.files },
  record { three = is.three; areas = is.areas; files = λ n x held. go n x held (is_in keep n) refl; short = λ n x there. still n x there (is_in keep n) refl (find nat_cmp n (entries disk.files)) refl },
  record { areas = λ b. refl; kept = λ n contains. sym (get-revive keep (entries disk.files) i.files n (list_any-from_Contains (eq_by_cmp_equiv nat_cmp_total) n keep contains)) },
)
  where
    go : (n : ℕ) (x : List ℕ) → get disk.files n ≡ Some x → (b : Bool) → is_in keep n ≡ b → get (revive keep (entries disk.files) i.files) n ≡ Some x
    go n x held true kept = get-revive keep (entries disk.files) i.files n kept ∙ is.files n x (get-kept disk.files keep n kept ∙ held)
    go n x held false out = get-revived keep (entries disk.files) i.files n x out (sym (get-entries disk.files n) ∙ held)

    still : (n : ℕ) (x : List ℕ) → get (revive keep (entries disk.files) i.files) n ≡ Some x → (b : Bool) → is_in keep n ≡ b → (found : Option (List ℕ)) → find nat_cmp n (entries disk.files) ≡ found → length x ≤ longest
    still n x there true kept found is_found = is.short n x (sym (get-revive keep (entries disk.files) i.files n kept) ∙ there)
    still n x there false out (Some y) is_found =
        let both : Some y ≡ Some x = sym (get-revived keep (entries disk.files) i.files n y out is_found) ∙ there in
        let same : y ≡ x = cc in
        omega (arith, ap length same, short n y (get-entries disk.files n ∙ is_found))
    still n x there false out None is_found = is.short n x (sym (get-unrevived keep (entries disk.files) i.files n is_found) ∙ there)
