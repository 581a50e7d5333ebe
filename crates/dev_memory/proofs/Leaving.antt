-- A whole image that a crash may leave.
use Rattle.std.proofs.Common.{◌≡◌, ℕ, zero, suc, ◌≤◌, Bool, true, false, cond, List, [], ◌∷◌, ◌++◌, length, get_or, map, Some, refl, sym, ◌∙◌, ap, subst, arith}
use Rattle.std.proofs.lemmas.List.{get_or_past}
use Rattle.std.proofs.lemmas.Cmp.{nat_cmp_total}
use Rattle.std.specs.Ordering.{nat_cmp, eq_by_cmp}
use Rattle.std.specs.List.{list_all}
use Rattle.std.specs.FinMap.{from_entries, get-from_entries}
use Rattle.std.specs.FinMap.Entries.{find}
use Rattle.dev_traits.specs.Image.{area_of}
use Rattle.dev_memory.specs.Disk.{AreaDisk, at_rest, area_in, area_disk, Reaches, IsImage, Held, entries_at, disk_now, bytes_of, read_of}
use Rattle.dev_memory.specs.Crash.{Left, AreSynced}
use Rattle.dev_memory.specs.Images.{is_short_file}
use Rattle.dev_memory.specs.Laws.{sound, area_read, get-short, three}

-- an area as it reads
pub left_read : (held : Held) (pick a : ℕ) (left : List ℕ) → pick ≡ 0 → left ≡ area_of (read_of (disk_now held)) a → Left pick (area_disk (disk_now held) a) left
left_read held pick a left none is =
    let bytes : left ≡ (area_disk (disk_now held) a).bytes = is ∙ area_read (disk_now held) a in
    record {
      reaches = subst (Reaches (area_disk (disk_now held) a).base (area_disk (disk_now held) a).steps) (sym bytes) (sound held a).reads;
      read = λ _. bytes;
      synced = λ one. absurd (omega (arith, none, one));
    }

-- a file that is found is found with others behind
find_front : (q : ℕ) (bytes : List ℕ) (es others : List (ℕ × List ℕ)) → find nat_cmp q es ≡ Some bytes → find nat_cmp q (es ++ others) ≡ Some bytes
find_front q bytes [] others is = cc
find_front q bytes (e ∷ es) others is = go (find_front q bytes es others) (eq_by_cmp nat_cmp q e.0) is
  where
    go : (find nat_cmp q es ≡ Some bytes → find nat_cmp q (es ++ others) ≡ Some bytes) → (b : Bool) → cond b (Some e.1) (find nat_cmp q es) ≡ Some bytes → cond b (Some e.1) (find nat_cmp q (es ++ others)) ≡ Some bytes
    go rest true is = is
    go rest false is = rest is

three_bytes : (xs : List AreaDisk) → length xs ≡ 3 → map bytes_of xs ≡ (area_in xs 0).bytes ∷ (area_in xs 1).bytes ∷ (area_in xs 2).bytes ∷ []
three_bytes [] is = cc
three_bytes (x ∷ []) is = absurd (omega (arith, is))
three_bytes (x ∷ y ∷ []) is = absurd (omega (arith, is))
three_bytes (x ∷ y ∷ z ∷ []) is = refl
three_bytes (x ∷ y ∷ z ∷ w ∷ xs) is = absurd (omega (arith, is))

-- an image of three areas that are left, and of files with others behind
module _ (held : Held) (are_three : length held.start ≡ 3) (pick : ℕ) (areas : List (List ℕ)) (x y z : List ℕ) (entries others : List (ℕ × List ℕ)) (areas_are : areas ≡ x ∷ y ∷ z ∷ [])
    (first : Left pick (area_disk (disk_now held) 0) x) (second : Left pick (area_disk (disk_now held) 1) y) (third : Left pick (area_disk (disk_now held) 2) z) where
  past : (a : ℕ) → 3 ≤ a → area_disk (disk_now held) a ≡ at_rest []
  past a le = get_or_past (disk_now held).areas a (at_rest []) (omega (arith, le, three held are_three))

  past_left : (a : ℕ) → 3 ≤ a → get_or areas a [] ≡ []
  past_left a le = get_or_past areas a [] (omega (arith, le, ap length areas_are))

  at_area : (a : ℕ) → get_or areas a [] ≡ get_or (x ∷ y ∷ z ∷ []) a []
  at_area a = ap (λ (l : List (List ℕ)). get_or l a []) areas_are

  area_left : (a : ℕ) → Reaches (area_disk (disk_now held) a).base (area_disk (disk_now held) a).steps (get_or areas a [])
  area_left zero = subst (Reaches (area_disk (disk_now held) 0).base (area_disk (disk_now held) 0).steps) (sym (at_area 0)) first.reaches
  area_left (suc zero) = subst (Reaches (area_disk (disk_now held) 1).base (area_disk (disk_now held) 1).steps) (sym (at_area 1)) second.reaches
  area_left (suc (suc zero)) = subst (Reaches (area_disk (disk_now held) 2).base (area_disk (disk_now held) 2).steps) (sym (at_area 2)) third.reaches
  area_left (suc (suc (suc a))) =
      subst (λ (d : AreaDisk). Reaches d.base d.steps (get_or areas (suc (suc (suc a))) [])) (sym (past (suc (suc (suc a))) (omega arith))) (past_left (suc (suc (suc a))) (omega arith))

  area_synced : pick ≡ 1 → (a : ℕ) → get_or areas a [] ≡ (area_disk (disk_now held) a).base
  area_synced one zero = at_area 0 ∙ first.synced one
  area_synced one (suc zero) = at_area 1 ∙ second.synced one
  area_synced one (suc (suc zero)) = at_area 2 ∙ third.synced one
  area_synced one (suc (suc (suc a))) = past_left (suc (suc (suc a))) (omega arith) ∙ sym (ap (λ (d : AreaDisk). d.base) (past (suc (suc (suc a))) (omega arith)))

  pub image_left : list_all is_short_file entries ≡ true → entries ≡ entries_at (length held.deeds) held.files ++ others → IsImage (disk_now held) (record { areas = areas; files = from_entries entries })
  image_left all more = record {
    three = ap length areas_are;
    areas = area_left;
    files = λ number bytes there.
        get-from_entries nat_cmp_total entries number ∙ ap (find nat_cmp number) more
        ∙ find_front number bytes (entries_at (length held.deeds) held.files) others (sym (get-from_entries nat_cmp_total (entries_at (length held.deeds) held.files) number) ∙ there);
    short = get-short entries all;
  }

  pub image_read : pick ≡ 0 → entries ≡ entries_at (length held.deeds) held.files → record { areas = areas; files = from_entries entries } ≡ read_of (disk_now held)
  image_read none same =
      let read : areas ≡ map bytes_of (disk_now held).areas =
      areas_are ∙ (λ i. first.read none i ∷ second.read none i ∷ third.read none i ∷ []) ∙ sym (three_bytes (disk_now held).areas (three held are_three)) in
      (λ i. record { areas = read i; files = from_entries {R = nat_cmp} (same i) })

  pub image_synced : pick ≡ 1 → AreSynced (disk_now held) (record { areas = areas; files = from_entries entries })
  image_synced one a = area_synced one a
