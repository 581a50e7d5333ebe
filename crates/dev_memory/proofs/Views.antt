-- The calls, as contracts see them.
use Rattle.std.proofs.Common.{◌≡◌, ◌⊎◌, inl, inr, ℕ, ◌+◌, ◌≤◌, ◌<◌, Bool, true, false, cond, if◌then◌else◌, List, [], ◌∷◌, ◌++◌, length, set, map, Option, Some, None, Result, Ok, Err, IfOk, refl, sym, ◌∙◌, ap, subst, arith, length-append}
use Rattle.std.proofs.lemmas.List.{map-set, get_or-set_other, set-get_or, append-nil}
use Rattle.std.proofs.lemmas.Map.Views.{list_any-from_Contains}
use Rattle.std.proofs.lemmas.Cmp.{nat_cmp_total, eq_by_cmp_equiv}
use Rattle.std.proofs.lemmas.Bool.{and_from, le-leb}
use Rattle.std.specs.Ordering.{nat_cmp}
use Rattle.std.specs.FinMap.{FinMap, get, insert, retain_keys, from_entries, get-from_entries, get-retain_keys, from_entries_push, nat_cmp-IsAntisymmetric}
use Rattle.std.specs.FinMap.Entries.{find}
use Rattle.dev_traits.specs.Image.{longest, Image, area_of, file, overwritten, with_area, with_file, with_files_of, Same, Elsewhere, TornIn, Blanked, Forgets, ForgetsSome}
use Rattle.dev_traits.specs.View.{Leaves, Calm}
use Rattle.dev_memory.specs.Disk as disk
use Rattle.dev_memory.specs.Disk.{Deed, Wrote, Synced, ChangedFiles, AreaDisk, Disk, at_rest, area_in, area_disk, Reaches, IsImage, can_write, wrote, blanked, after, entries_at, Held, disk_now, bytes_of, read_of, mem_view, never, is_in, closed}
use Rattle.dev_memory.specs.Kept.{grown, with_files, IsValid, IsNewFile}
use Rattle.dev_memory.specs.Laws.{area_read, files_short, sound, three}
use Rattle.dev_memory.specs.declared.call.File.{File}
use Rattle.dev_memory.proofs.Keeping.{wrote-bytes, replay-push}
use Rattle.dev_memory.proofs.Steps.{Step, From, Grows, no_step, no_call, one_call, grows_grown, disk_grown, write_step, blank_step, sync_area, sync_step, area_at, adopt_step, adopted, forget_step}
use Rattle.dev_memory.proofs.Files.{entries-later, entries-push, entries-new, entries-not_yet, entries-closed_before, files-closed, get-kept}

-- Nothing is noted.

pub calm : (h : Held) (b : Bool) (f c y f' c' y' : ℕ) → c ≤ c' → y ≤ y' → Calm (mem_view h b f c y) (mem_view h b f' c' y')
calm h b f c y f' c' y' calls bytes = record { seen = refl; honest = refl; calls = calls; bytes = bytes; moment = refl; now = λ i. (λ left. left, λ left. left); since = λ t i. (λ past. past, λ past. past) }

pub calm_as : (h h' : Held) (b : Bool) (f c y f' c' y' : ℕ) → h' ≡ h → c ≤ c' → y ≤ y' → Calm (mem_view h b f c y) (mem_view h' b f' c' y')
calm_as h h' b f c y f' c' y' is calls bytes = subst (λ (x : Held). Calm (mem_view h b f c y) (mem_view x b f' c' y')) (sym is) (calm h b f c y f' c' y' calls bytes)

nowhere : (a : ℕ) (i : Image) → Elsewhere a i i
nowhere a i = record { areas = λ b other. refl; files = refl }

pub write_still : (a at n : ℕ) (h : Held) (b : Bool) (f c y f' c' y' : ℕ) → Leaves (TornIn a at n) (mem_view h b f c y) (mem_view h b f' c' y')
write_still a at n h b f c y f' c' y' = no_step (TornIn a at n) h b b f c y f' c' y'
    (λ i. record { elsewhere = nowhere a i; torn = record { before = refl; after = refl; no_shorter = omega arith; no_longer = omega arith } })

pub blank_still : (a : ℕ) (h : Held) (b : Bool) (f c y f' c' y' : ℕ) → Leaves (Blanked a) (mem_view h b f c y) (mem_view h b f' c' y')
blank_still a h b f c y f' c' y' = no_step (Blanked a) h b b f c y f' c' y' (λ i. record { elsewhere = nowhere a i; blank = inl refl })

pub forget_still : (keep : List ℕ) (h : Held) (b : Bool) (f c y f' c' y' : ℕ) → Leaves (Forgets keep) (mem_view h b f c y) (mem_view h b f' c' y')
forget_still keep h b f c y f' c' y' = no_step (Forgets keep) h b b f c y f' c' y' (λ i. record { areas = λ b. refl; kept = λ n is. refl })

same_read : (x y : Image) → Some x ≡ Some y → x ≡ y
same_read x y is = cc

pub same_elsewhere : (a : ℕ) (x image image' : Image) → Some x ≡ Some image → Some x ≡ Some image' → Elsewhere a image image'
same_elsewhere a x image image' is is' = subst (λ (y : Image). Elsewhere a image y) (sym (same_read x image is) ∙ same_read x image' is') (nowhere a image)

pub same_files : (keep : List ℕ) (x image image' : Image) → Some x ≡ Some image → Some x ≡ Some image' → ForgetsSome keep image image'
same_files keep x image image' is is' =
    let same : (number : ℕ) → (file image number ≡ file image number) ⊎ (file image number ≡ None) = λ number. inl refl in
    subst (λ (y : Image). ForgetsSome keep image y) (sym (same_read x image is) ∙ same_read x image' is') (record { forgets = record { areas = λ b. refl; kept = λ n is. refl }; others = same })

-- what is read elsewhere, where one area reads as these bytes
pub reads_elsewhere : (a : ℕ) (bytes : List ℕ) (x y : Image) → y ≡ with_area a bytes x → (image : Image) → Some x ≡ Some image → (image' : Image) → Some y ≡ Some image' → Elsewhere a image image'
reads_elsewhere a bytes x y read image is image' is' =
    subst (λ (i : Image). Elsewhere a i image') (same_read x image is)
    (subst (λ (i : Image). Elsewhere a x i) (sym read ∙ same_read y image' is')
    (record { areas = λ b other. get_or-set_other x.areas a b bytes [] other; files = refl }))

-- An area is written.

module _ (h h' : Held) (valid : IsValid h) (a : ℕ) (lt : a < 3) where
  abbrev Old : Image
  Old = read_of (disk_now h)

  area_call : (S : Step) (deed : Deed) → h' ≡ grown h deed → ((i : Image) → IsImage (record { areas = after deed (disk_now h).areas; files = (disk_now h).files }) i → From S (disk_now h) i)
      → (b : Bool) (f c y f' c' y' : ℕ) → Leaves S (mem_view h b f c y) (mem_view h' b f' c' y')
  area_call S deed is step b f c y f' c' y' = subst (λ (x : Held). Leaves S (mem_view h b f c y) (mem_view x b f' c' y')) (sym is)
      (one_call S h (grown h deed) deed (grows_grown h deed) b b f c y f' c' y' (λ i left. step i (subst (λ (d : Disk). IsImage d i) (disk_grown h deed valid) left)))

  area_now : (deed : Deed) → h' ≡ grown h deed → disk_now h' ≡ record { areas = after deed (disk_now h).areas; files = (disk_now h).files }
  area_now deed is = ap disk_now is ∙ disk_grown h deed valid

  can : (at n : ℕ) → 1 ≤ length (area_of Old a) → at ≤ length (area_of Old a) → at + n ≤ longest → can_write at n (area_disk (disk_now h) a).bytes ≡ true
  can at n long le short = and_from _ _ (and_from _ _ (le-leb 1 _ (subst (λ (l : List ℕ). 1 ≤ length l) (area_read (disk_now h) a) long)) (le-leb at _ (subst (λ (l : List ℕ). at ≤ length l) (area_read (disk_now h) a) le))) (le-leb _ _ short)

  pub write_crash : (at : ℕ) (piece : List ℕ) (ok : Bool) → h' ≡ grown h (Wrote a at piece ok) → 1 ≤ length (area_of Old a) → at ≤ length (area_of Old a) → at + length piece ≤ longest
      → (b : Bool) (f c y f' c' y' : ℕ) → Leaves (TornIn a at (length piece)) (mem_view h b f c y) (mem_view h' b f' c' y')
  write_crash at piece ok is long le short = area_call (TornIn a at (length piece)) (Wrote a at piece ok) is (write_step (disk_now h) (three h valid.three) a lt at piece ok (can at (length piece) long le short))

  pub write_read : (at : ℕ) (piece : List ℕ) (ok : Bool) → h' ≡ grown h (Wrote a at piece ok) → 1 ≤ length (area_of Old a) → at ≤ length (area_of Old a) → at + length piece ≤ longest
      → read_of (disk_now h') ≡ with_area a (if ok then overwritten (area_of Old a) at piece else area_of Old a) Old
  write_read at piece ok is long le short =
      let read = area_read (disk_now h) a in
      let some : 1 ≤ length (area_disk (disk_now h) a).bytes = subst (λ (l : List ℕ). 1 ≤ length l) read long in
      let inside : at ≤ length (area_disk (disk_now h) a).bytes = subst (λ (l : List ℕ). at ≤ length l) read le in
      let areas = map-set bytes_of (disk_now h).areas a (wrote at piece ok (area_disk (disk_now h) a))
      ∙ ap (set (map bytes_of (disk_now h).areas) a) (wrote-bytes at piece ok (area_disk (disk_now h) a) some inside short
      ∙ ap (λ (l : List ℕ). if ok then overwritten l at piece else l) (sym read)) in
      ap read_of (area_now (Wrote a at piece ok) is) ∙ (λ i. record { areas = areas i; files = (disk_now h).files })

  pub blank_crash : (ok : Bool) → h' ≡ grown h (disk.Blanked a ok) → (b : Bool) (f c y f' c' y' : ℕ) → Leaves (Blanked a) (mem_view h b f c y) (mem_view h' b f' c' y')
  blank_crash ok is = area_call (Blanked a) (disk.Blanked a ok) is (blank_step (disk_now h) (three h valid.three) a lt (sound h) ok)

  blanked_bytes : (ok : Bool) (d : AreaDisk) → (blanked ok d).bytes ≡ (if ok then 0 ∷ [] else d.bytes)
  blanked_bytes true d = refl
  blanked_bytes false d = refl

  pub blank_read : (ok : Bool) → h' ≡ grown h (disk.Blanked a ok) → read_of (disk_now h') ≡ with_area a (if ok then 0 ∷ [] else area_of Old a) Old
  blank_read ok is =
      let areas = map-set bytes_of (disk_now h).areas a (blanked ok (area_disk (disk_now h) a))
      ∙ ap (set (map bytes_of (disk_now h).areas) a) (blanked_bytes ok (area_disk (disk_now h) a) ∙ ap (λ (l : List ℕ). if ok then 0 ∷ [] else l) (sym (area_read (disk_now h) a))) in
      ap read_of (area_now (disk.Blanked a ok) is) ∙ (λ i. record { areas = areas i; files = (disk_now h).files })

  pub blank_durable : h' ≡ grown h (disk.Blanked a true) → (left : Image) → IsImage (disk_now h') left → area_of left a ≡ 0 ∷ []
  blank_durable is left may =
      let now = subst (λ (d : Disk). IsImage d left) (area_now (disk.Blanked a true) is) may in
      subst (λ (d : AreaDisk). Reaches d.base d.steps (area_of left a)) (area_at (disk_now h) (three h valid.three) a lt (blanked true)) (now.areas a)

  pub sync_read : h' ≡ grown h (Synced a) → read_of (disk_now h') ≡ Old
  sync_read is =
      let areas = map-set bytes_of (disk_now h).areas a (at_rest (area_disk (disk_now h) a).bytes)
      ∙ ap (set (map bytes_of (disk_now h).areas) a) (sym (area_read (disk_now h) a)) ∙ set-get_or (map bytes_of (disk_now h).areas) a [] in
      ap read_of (area_now (Synced a) is) ∙ (λ i. record { areas = areas i; files = (disk_now h).files })

  pub sync_crash : h' ≡ grown h (Synced a) → (b : Bool) (f c y f' c' y' : ℕ) → Leaves Same (mem_view h b f c y) (mem_view h' b f' c' y')
  sync_crash is = area_call Same (Synced a) is (λ i left. (i, sync_step (disk_now h) (three h valid.three) a lt (sound h) i left, refl))

  pub sync_durable : h' ≡ grown h (Synced a) → (image : Image) → Some (read_of (disk_now h')) ≡ Some image → (left : Image) → IsImage (disk_now h') left → area_of left a ≡ area_of image a
  sync_durable is image reads left may =
      let now = subst (λ (d : Disk). IsImage d left) (area_now (Synced a) is) may in
      sync_area (disk_now h) (three h valid.three) a lt left now ∙ sym (area_read (disk_now h) a) ∙ ap (λ (x : Image). area_of x a) (sym (sync_read is) ∙ same_read _ image reads)

-- Files.

longer : (h : Held) → length (h.deeds ++ ChangedFiles ∷ []) ≡ length h.deeds + 1
longer h = omega (arith, length-append h.deeds (ChangedFiles ∷ []))

module _ (h h' : Held) (valid : IsValid h) (number : ℕ) (bytes : List ℕ) (f : File) (new : IsNewFile number bytes (length h.deeds + 1) f) (is : h' ≡ with_files (grown h ChangedFiles) (h.files ++ f ∷ [])) where
  abbrev Next : Held
  Next = with_files (grown h ChangedFiles) (h.files ++ f ∷ [])

  grows_adopted : Grows h Next ChangedFiles
  grows_adopted = record {
    start = refl;
    deeds = refl;
    earlier = λ k le. entries-push k h.files f ∙ ap (λ (l : List (ℕ × List ℕ)). entries_at k h.files ++ l) (entries-not_yet k f (omega (arith, le, new.from_is))) ∙ append-nil (entries_at k h.files);
  }

  disk_adopted : get (disk_now h).files number ≡ None → disk_now Next ≡ record { areas = (disk_now h).areas; files = insert (disk_now h).files number bytes }
  disk_adopted none =
      let m = length (h.deeds ++ ChangedFiles ∷ []) in
      let there : entries_at m (h.files ++ f ∷ []) ≡ entries_at (length h.deeds) h.files ++ (number, bytes) ∷ [] =
      entries-push m h.files f
      ∙ (λ i. entries-later (length h.deeds) m h.files valid.settled (longer h) i ++ (entries-new m f (omega (arith, longer h, new.from_is)) new.until_is ∙ (λ j. (new.number_is j, new.bytes_is j) ∷ [])) i) in
      let files = ap (λ (l : List (ℕ × List ℕ)). from_entries {R = nat_cmp} l) there
      ∙ from_entries_push nat_cmp_total nat_cmp-IsAntisymmetric (entries_at (length h.deeds) h.files) number bytes (sym (get-from_entries nat_cmp_total (entries_at (length h.deeds) h.files) number) ∙ none) in
      (λ i. record { areas = areas i; files = files i })
    where
      areas : (disk_now Next).areas ≡ (disk_now h).areas
      areas = replay-push h.deeds ChangedFiles (map at_rest h.start)

  pub adopt_read : file (read_of (disk_now h)) number ≡ None → read_of (disk_now h') ≡ with_file number bytes (read_of (disk_now h))
  adopt_read none = ap (λ (x : Held). read_of (disk_now x)) is ∙ ap read_of (disk_adopted none)

  pub adopt_crash : file (read_of (disk_now h)) number ≡ None → (b : Bool) (f c y f' c' y' : ℕ) → Leaves Same (mem_view h b f c y) (mem_view h' b f' c' y')
  adopt_crash none b f c y f' c' y' = subst (λ (x : Held). Leaves Same (mem_view h b f c y) (mem_view x b f' c' y')) (sym is)
      (one_call Same h Next ChangedFiles grows_adopted b b f c y f' c' y' (λ i left. (i, adopt_step (disk_now h) number bytes none i (subst (λ (d : Disk). IsImage d i) (disk_adopted none) left), refl)))

  pub adopt_durable : file (read_of (disk_now h)) number ≡ None → (left : Image) → IsImage (disk_now h') left → file left number ≡ Some bytes
  adopt_durable none left may = adopted (disk_now h) number bytes left (subst (λ (d : Disk). IsImage d left) (ap disk_now is ∙ disk_adopted none) may)

module _ (h h' : Held) (valid : IsValid h) (keep : List ℕ) (short : length h.deeds + 1 ≡ never → ⊥) (is : h' ≡ with_files (grown h ChangedFiles) (map (closed keep (length h.deeds + 1)) h.files)) where
  abbrev Fewer : Held
  Fewer = with_files (grown h ChangedFiles) (map (closed keep (length h.deeds + 1)) h.files)

  grows_fewer : Grows h Fewer ChangedFiles
  grows_fewer = record { start = refl; deeds = refl; earlier = λ k le. entries-closed_before keep (length h.deeds + 1) k h.files (omega (arith, le)) }

  disk_fewer : disk_now Fewer ≡ record { areas = (disk_now h).areas; files = retain_keys (disk_now h).files (is_in keep) }
  disk_fewer =
      let files = ap (λ (n : ℕ). from_entries {R = nat_cmp} (entries_at n (map (closed keep (length h.deeds + 1)) h.files))) (longer h)
      ∙ files-closed keep (length h.deeds) (length h.deeds + 1) h.files valid.settled refl short in
      (λ i. record { areas = areas i; files = files i })
    where
      areas : (disk_now Fewer).areas ≡ (disk_now h).areas
      areas = replay-push h.deeds ChangedFiles (map at_rest h.start)

  pub forget_read : read_of (disk_now h') ≡ with_files_of keep (read_of (disk_now h))
  forget_read = ap (λ (x : Held). read_of (disk_now x)) is ∙ ap read_of disk_fewer

  pub forget_crash : (b : Bool) (f c y f' c' y' : ℕ) → Leaves (Forgets keep) (mem_view h b f c y) (mem_view h' b f' c' y')
  forget_crash b f c y f' c' y' = subst (λ (x : Held). Leaves (Forgets keep) (mem_view h b f c y) (mem_view x b f' c' y')) (sym is)
      (one_call (Forgets keep) h Fewer ChangedFiles grows_fewer b b f c y f' c' y' (λ i left. forget_step (disk_now h) keep (files_short h valid) i (subst (λ (d : Disk). IsImage d i) disk_fewer left)))

  others : (files : FinMap nat_cmp (List ℕ)) (number : ℕ) → (get (retain_keys files (is_in keep)) number ≡ get files number) ⊎ (get (retain_keys files (is_in keep)) number ≡ None)
  others files number = go (is_in keep number) (get-retain_keys files (is_in keep) number (λ x same. ap (is_in keep) (sym (nat_cmp-IsAntisymmetric number x same))))
    where
      go : (b : Bool) → get (retain_keys files (is_in keep)) number ≡ cond b (get files number) None → (get (retain_keys files (is_in keep)) number ≡ get files number) ⊎ (get (retain_keys files (is_in keep)) number ≡ None)
      go true is = inl is
      go false is = inr is

  pub forget_kept : (image : Image) → Some (read_of (disk_now h)) ≡ Some image → (image' : Image) → Some (read_of (disk_now h')) ≡ Some image' → ForgetsSome keep image image'
  forget_kept image reads image' reads' =
      subst (λ (x : Image). ForgetsSome keep x image') (same_read _ image reads)
      (subst (λ (x : Image). ForgetsSome keep (read_of (disk_now h)) x) (sym forget_read ∙ same_read _ image' reads')
      (record {
        forgets = record { areas = λ b. refl; kept = λ n contains. get-kept (disk_now h).files keep n (list_any-from_Contains (eq_by_cmp_equiv nat_cmp_total) n keep contains) };
        others = others (disk_now h).files;
      }))

-- a file that is found is what is read
pub file_found : (h : Held) (number : ℕ) (found : Option (List ℕ)) → found ≡ find nat_cmp number (entries_at (length h.deeds) h.files) → (image : Image) → Some (read_of (disk_now h)) ≡ Some image → file image number ≡ found
file_found h number found is image reads =
    ap (λ (x : Image). file x number) (sym (same_read _ image reads)) ∙ get-from_entries nat_cmp_total (entries_at (length h.deeds) h.files) number ∙ sym is

pub if_ok : {T E : Type 0} (r : Result T E) (P Q : T → Type 0) → IfOk r P → ((t : T) → P t → Q t) → IfOk r Q
if_ok (Ok t) P Q is to = to t is
if_ok (Err e) P Q is to = tt

-- of a file that is read: its bytes are found
pub file_read : (h : Held) (number : ℕ) (image : Image) → Some (read_of (disk_now h)) ≡ Some image → file image number ≡ find nat_cmp number (entries_at (length h.deeds) h.files)
file_read h number image reads = file_found h number (find nat_cmp number (entries_at (length h.deeds) h.files)) refl image reads
