-- A file whose bytes are changed.
use Rattle.std.proofs.Common.{◌≡◌, ℕ, zero, suc, ◌+◌, ◌<◌, ◌≤◌, nat_eq, nat_le, Bool, true, false, cond, ◌&&◌, if◌then◌else◌, IsFalse, MatchBool, Result, Ok, Err, IfOk, OnErr, List, [], ◌∷◌, ◌++◌, length, get_or, set, take, drop, map, Option, Some, None, refl, sym, ◌∙◌, ap, arith}
use Rattle.std.proofs.lemmas.List.{take_more, take-append-drop, set_split, length-set, take_all, drop_all, append-nil}
use Rattle.std.proofs.Math.Seq.{drop-cons}
use Rattle.std.proofs.lemmas.Bool.{and_parts, and_from, eqb-true}
use Rattle.std.proofs.lemmas.Cmp.{nat_cmp_total}
use Rattle.std.specs.List.{list_all}
use Rattle.std.specs.Ordering.{nat_cmp, eq_by_cmp}
use Rattle.std.specs.declared.alloc.AllocError.{AllocError}
use Rattle.std.specs.FinMap.{FinMap, get, insert, from_entries, get-insert, get-from_entries, same_map, nat_cmp-IsAntisymmetric}
use Rattle.std.specs.FinMap.Entries.{find}
use Rattle.dev_memory.specs.Disk.{Held, disk_now, at_rest, replay, entries_at, stands_at, settled_by}
use Rattle.dev_traits.specs.Image.{longest}
use Rattle.dev_memory.specs.Kept.{has_short_bytes}
use Rattle.dev_memory.specs.Spoils.{Spoils, ChangesOne, HasNoByte}
use Rattle.dev_memory.specs.declared.call.File.{File}
use Rattle.dev_memory.proofs.Files.{tied, ties, find_skip, entries-push, find-here}

find_none : (q : ℕ) (xs ys : List (ℕ × List ℕ)) → find nat_cmp q xs ≡ None → find nat_cmp q (xs ++ ys) ≡ find nat_cmp q ys
find_none q [] ys none = refl
find_none q (x ∷ xs) ys none = go (find_none q xs ys) (eq_by_cmp nat_cmp q x.0) none
  where
    go : (find nat_cmp q xs ≡ None → find nat_cmp q (xs ++ ys) ≡ find nat_cmp q ys) → (b : Bool) → cond b (Some x.1) (find nat_cmp q xs) ≡ None → cond b (Some x.1) (find nat_cmp q (xs ++ ys)) ≡ find nat_cmp q ys
    go rest true none = cc
    go rest false none = rest none

-- another number isn't found at an entry
find_other : (q n : ℕ) (b b' : List ℕ) (xs ys : List (ℕ × List ℕ)) → eq_by_cmp nat_cmp q n ≡ false → find nat_cmp q (xs ++ (n, b) ∷ ys) ≡ find nat_cmp q (xs ++ (n, b') ∷ ys)
find_other q n b b' [] ys other = ap (λ (t : Bool). cond t (Some b) (find nat_cmp q ys)) other ∙ sym (ap (λ (t : Bool). cond t (Some b') (find nat_cmp q ys)) other)
find_other q n b b' (x ∷ xs) ys other = ap (λ (o : Option (List ℕ)). cond (eq_by_cmp nat_cmp q x.0) (Some x.1) o) (find_other q n b b' xs ys other)

-- no file so far, and not this one
pub none_next : (q k : ℕ) (files : List File) (i : ℕ) (d : File) → i < length files → (nat_eq (get_or files i d).number q && stands_at k (get_or files i d)) ≡ false
    → find nat_cmp q (entries_at k (take i files)) ≡ None → find nat_cmp q (entries_at k (take (i + 1) files)) ≡ None
none_next q k files i d lt other none =
    ap (λ (l : List File). find nat_cmp q (entries_at k l)) (take_more files i d lt)
    ∙ ap (find nat_cmp q) (entries-push k (take i files) (get_or files i d))
    ∙ find_none q (entries_at k (take i files)) (entries_at k (get_or files i d ∷ [])) none
    ∙ find_skip q k (get_or files i d) [] other

entries-append : (k : ℕ) (xs ys : List File) → entries_at k (xs ++ ys) ≡ entries_at k xs ++ entries_at k ys
entries-append k [] ys = refl
entries-append k (x ∷ xs) ys = go (stands_at k x) (entries-append k xs ys)
  where
    go : (b : Bool) → entries_at k (xs ++ ys) ≡ entries_at k xs ++ entries_at k ys
        → (if b then (x.number, x.bytes) ∷ entries_at k (xs ++ ys) else entries_at k (xs ++ ys)) ≡ (if b then (x.number, x.bytes) ∷ entries_at k xs else entries_at k xs) ++ entries_at k ys
    go true rest = ap (λ (l : List (ℕ × List ℕ)). (x.number, x.bytes) ∷ l) rest
    go false rest = rest

-- the entries round a file that stands
entries_round : (k : ℕ) (xs : List File) (f : File) (ys : List File) → stands_at k f ≡ true → entries_at k (xs ++ f ∷ ys) ≡ entries_at k xs ++ (f.number, f.bytes) ∷ entries_at k ys
entries_round k xs f ys is =
    entries-append k xs (f ∷ ys) ∙ ap (λ (b : Bool). entries_at k xs ++ (if b then (f.number, f.bytes) ∷ entries_at k ys else entries_at k ys)) is

module _ (number k at byte : ℕ) (old new : List File) (one : ChangesOne number k at byte old new) where
  abbrev Before : List (ℕ × List ℕ)
  Before = entries_at k (take one.place old)

  abbrev Behind : List (ℕ × List ℕ)
  Behind = entries_at k (drop (suc one.place) old)

  parts : (nat_eq one.file.number number ≡ true) × (stands_at k one.file ≡ true)
  parts = and_parts (nat_eq one.file.number number) (stands_at k one.file) one.stands

  number_is : one.file.number ≡ number
  number_is = eqb-true one.file.number number parts.0

  old_entries : entries_at k old ≡ Before ++ (number, one.file.bytes) ∷ Behind
  old_entries =
      ap (entries_at k) (sym (take-append-drop one.place old) ∙ ap (λ (l : List File). take one.place old ++ l) (drop-cons old one.place one.file one.there ∙ ap (λ (f : File). f ∷ drop (suc one.place) old) (sym one.file_is)))
      ∙ entries_round k (take one.place old) one.file (drop (suc one.place) old) parts.1
      ∙ ap (λ (n : ℕ). Before ++ (n, one.file.bytes) ∷ Behind) number_is

  new_entries : entries_at k new ≡ Before ++ (number, set one.file.bytes at byte) ∷ Behind
  new_entries =
      let changed : one.changed ≡ record one.file { bytes = set one.file.bytes at byte } = one.changes.changed in
      ap (entries_at k) (one.new_is ∙ set_split old one.place one.changed one.there ∙ ap (λ (f : File). take one.place old ++ f ∷ drop (suc one.place) old) changed)
      ∙ entries_round k (take one.place old) (record one.file { bytes = set one.file.bytes at byte }) (drop (suc one.place) old) parts.1
      ∙ ap (λ (n : ℕ). Before ++ (n, set one.file.bytes at byte) ∷ Behind) number_is

  at_number : (b : List ℕ) → find nat_cmp number (Before ++ (number, b) ∷ Behind) ≡ Some b
  at_number b = find_none number Before ((number, b) ∷ Behind) one.first ∙ ap (λ (t : Bool). cond t (Some b) (find nat_cmp number Behind)) (ties number)

  pub file_there : get (from_entries {R = nat_cmp} (entries_at k old)) number ≡ Some one.file.bytes
  file_there = get-from_entries nat_cmp_total (entries_at k old) number ∙ ap (find nat_cmp number) old_entries ∙ at_number one.file.bytes

  same_at : (q : ℕ) (t : Bool) → eq_by_cmp nat_cmp q number ≡ t → find nat_cmp q (Before ++ (number, set one.file.bytes at byte) ∷ Behind) ≡ cond t (Some (set one.file.bytes at byte)) (find nat_cmp q (Before ++ (number, one.file.bytes) ∷ Behind))
  same_at q true is = ap (λ (n : ℕ). find nat_cmp n (Before ++ (number, set one.file.bytes at byte) ∷ Behind)) (tied q number is) ∙ at_number (set one.file.bytes at byte)
  same_at q false is = find_other q number (set one.file.bytes at byte) one.file.bytes Before Behind is

  pub files_changed : from_entries {R = nat_cmp} (entries_at k new) ≡ insert (from_entries {R = nat_cmp} (entries_at k old)) number (set one.file.bytes at byte)
  files_changed = same_map nat_cmp_total nat_cmp-IsAntisymmetric _ _ (λ q.
      get-from_entries nat_cmp_total (entries_at k new) q
      ∙ ap (find nat_cmp q) new_entries
      ∙ same_at q (eq_by_cmp nat_cmp q number) refl
      ∙ ap (λ (o : Option (List ℕ)). cond (eq_by_cmp nat_cmp q number) (Some (set one.file.bytes at byte)) o) (sym (get-from_entries nat_cmp_total (entries_at k old) q ∙ ap (find nat_cmp q) old_entries))
      ∙ sym (get-insert nat_cmp_total (from_entries {R = nat_cmp} (entries_at k old)) number (set one.file.bytes at byte) q))

  settled_same : (n : ℕ) → settled_by n one.changed ≡ settled_by n one.file
  settled_same n = ap (settled_by n) one.changes.changed

-- what holds of each file holds of one
all_at : (p : File → Bool) (xs : List File) (i : ℕ) (d : File) → i < length xs → list_all p xs ≡ true → p (get_or xs i d) ≡ true
all_at p [] i d lt all = absurd (omega (arith, lt))
all_at p (x ∷ xs) zero d lt all = (and_parts (p x) (list_all p xs) all).0
all_at p (x ∷ xs) (suc i) d lt all = all_at p xs i d (omega (arith, lt)) (and_parts (p x) (list_all p xs) all).1

all_set : (p : File → Bool) (xs : List File) (i : ℕ) (y : File) → list_all p xs ≡ true → p y ≡ true → list_all p (set xs i y) ≡ true
all_set p [] i y all is = refl
all_set p (x ∷ xs) zero y all is = and_from _ _ is (and_parts (p x) (list_all p xs) all).1
all_set p (x ∷ xs) (suc i) y all is = let both = and_parts (p x) (list_all p xs) all in and_from _ _ both.0 (all_set p xs i y both.1 is)

pub settled_changed : (n number k at byte : ℕ) (old new : List File) → ChangesOne number k at byte old new → list_all (settled_by n) old ≡ true → list_all (settled_by n) new ≡ true
settled_changed n number k at byte old new one all =
    ap (list_all (settled_by n)) one.new_is
    ∙ all_set (settled_by n) old one.place one.changed all
    (settled_same number k at byte old new one n ∙ ap (settled_by n) one.file_is ∙ all_at (settled_by n) old one.place one.file one.there all)

short_changed : (number k at byte : ℕ) (old new : List File) → ChangesOne number k at byte old new → list_all has_short_bytes old ≡ true → list_all has_short_bytes new ≡ true
short_changed number k at byte old new one all =
    let size : length one.changed.bytes ≡ length one.file.bytes = ap (λ (f : File). length f.bytes) one.changes.changed ∙ length-set one.file.bytes at byte in
    ap (list_all has_short_bytes) one.new_is
    ∙ all_set has_short_bytes old one.place one.changed all
    (ap (λ (k : ℕ). nat_le k longest) size ∙ ap has_short_bytes one.file_is ∙ all_at has_short_bytes old one.place one.file one.there all)

-- the disk of what is kept
pub spoils : (number at byte k : ℕ) (old new : Held) → new.start ≡ old.start → new.deeds ≡ old.deeds → k ≡ length old.deeds → ChangesOne number k at byte old.files new.files → Spoils number at byte (disk_now old) (disk_now new)
spoils number at byte k old new start deeds count one =
    let now : from_entries {R = nat_cmp} (entries_at (length new.deeds) new.files) ≡ from_entries (entries_at k new.files) = ap (λ (n : ℕ). from_entries {R = nat_cmp} (entries_at n new.files)) (ap length deeds ∙ sym count) in
    let before : from_entries {R = nat_cmp} (entries_at k old.files) ≡ from_entries (entries_at (length old.deeds) old.files) = ap (λ (n : ℕ). from_entries {R = nat_cmp} (entries_at n old.files)) count in
    record {
      bytes = one.file.bytes;
      there = ap (λ (m : FinMap nat_cmp (List ℕ)). get m number) (sym before) ∙ file_there number k at byte old.files new.files one;
      inside = one.changes.inside;
      spoilt = λ i. record {
        areas = replay (map at_rest (start i)) (deeds i);
        files = (now ∙ files_changed number k at byte old.files new.files one ∙ ap (λ (m : FinMap nat_cmp (List ℕ)). insert m number (set one.file.bytes at byte)) before) i;
      };
    }

-- a vector whose files were changed
pub whole_changed : (n : ℕ) (items new : List File) → length items ≡ n → length new ≡ length items → take n (new ++ drop (length new) items) ≡ new
whole_changed n items new counts size =
    (λ i. take n (new ++ drop_all (length new) items (omega (arith, size)) i))
    ∙ ap (λ (l : List File). take n l) (append-nil new)
    ∙ take_all n new (omega (arith, size, counts))

-- files of which one was changed, or none
pub record Changed (n : ℕ) (old new : List File) : Type 0 where
  pub size : length new ≡ length old
  pub settled : list_all (settled_by n) old ≡ true → list_all (settled_by n) new ≡ true
  pub short : list_all has_short_bytes old ≡ true → list_all has_short_bytes new ≡ true

unchanged : (n : ℕ) (old new : List File) → new ≡ old → Changed n old new
unchanged n old new same = record { size = ap length same; settled = λ all. ap (list_all (settled_by n)) same ∙ all; short = λ all. ap (list_all has_short_bytes) same ∙ all }

pub changed_or_same : (n number k at byte : ℕ) (old new : List File) (Else : Type 0) (result : Result Bool AllocError)
    → IfOk result (λ done. MatchBool done (ChangesOne number k at byte old new) Else) → IfOk result (λ done. IsFalse done → new ≡ old) → OnErr result (new ≡ old) → Changed n old new
changed_or_same n number k at byte old new Else (Ok true) one same memory =
    record { size = ap length one.new_is ∙ length-set old one.place one.changed; settled = settled_changed n number k at byte old new one; short = short_changed number k at byte old new one }
changed_or_same n number k at byte old new Else (Ok false) other same memory = unchanged n old new (same refl)
changed_or_same n number k at byte old new Else (Err e) ok same memory = unchanged n old new memory

-- What an answer says, said otherwise.

pub says : (result : Result Bool AllocError) (P Q P' Q' : Type 0) → IfOk result (λ done. MatchBool done P Q) → (P → P') → (Q → Q') → IfOk result (λ done. MatchBool done P' Q')
says (Ok true) P Q P' Q' is to other = to is
says (Ok false) P Q P' Q' is to other = other is
says (Err e) P Q P' Q' is to other = tt

pub says_same : (result : Result Bool AllocError) (P P' : Type 0) → IfOk result (λ done. IsFalse done → P) → (P → P') → IfOk result (λ done. IsFalse done → P')
says_same (Ok done) P P' is to = λ not_done. to (is not_done)
says_same (Err e) P P' is to = tt

pub says_memory : (result : Result Bool AllocError) (P P' : Type 0) → OnErr result P → (P → P') → OnErr result P'
says_memory (Ok done) P P' is to = tt
says_memory (Err e) P P' is to = to is

-- Where no byte is changed.

found_here : (q k : ℕ) (files : List File) (i : ℕ) (d : File) → i < length files → (nat_eq (get_or files i d).number q && stands_at k (get_or files i d)) ≡ true
    → find nat_cmp q (entries_at k (take i files)) ≡ None → find nat_cmp q (entries_at k files) ≡ Some (get_or files i d).bytes
found_here q k files i d lt test none =
    ap (λ (l : List File). find nat_cmp q (entries_at k l)) (sym (take-append-drop i files))
    ∙ ap (find nat_cmp q) (entries-append k (take i files) (drop i files))
    ∙ find_none q (entries_at k (take i files)) (entries_at k (drop i files)) none
    ∙ find-here q k files i d lt test

-- the file that is found is too short
pub too_short : (q k at : ℕ) (files : List File) (i : ℕ) (d : File) → i < length files → (nat_eq (get_or files i d).number q && stands_at k (get_or files i d)) ≡ true
    → find nat_cmp q (entries_at k (take i files)) ≡ None → length (get_or files i d).bytes ≤ at → HasNoByte at (find nat_cmp q (entries_at k files))
too_short q k at files i d lt test none short bytes is =
    let both : Some (get_or files i d).bytes ≡ Some bytes = sym (found_here q k files i d lt test none) ∙ is in
    let same : (get_or files i d).bytes ≡ bytes = cc in
    omega (arith, ap length same, short)

-- no file is found
pub not_there : (q k at : ℕ) (files : List File) (i : ℕ) → length files ≤ i → find nat_cmp q (entries_at k (take i files)) ≡ None → HasNoByte at (find nat_cmp q (entries_at k files))
not_there q k at files i le none bytes is =
    let nothing : find nat_cmp q (entries_at k files) ≡ None = ap (λ (l : List File). find nat_cmp q (entries_at k l)) (sym (take_all i files le)) ∙ none in
    let e : None ≡ Some bytes = sym nothing ∙ is in
    absurd (cc)

-- of the disk of what is kept
pub no_byte : (number at k : ℕ) (old : Held) → k ≡ length old.deeds → HasNoByte at (find nat_cmp number (entries_at k old.files)) → HasNoByte at (get (disk_now old).files number)
no_byte number at k old count none bytes is =
    none bytes (ap (λ (n : ℕ). find nat_cmp number (entries_at n old.files)) count ∙ sym (get-from_entries nat_cmp_total (entries_at (length old.deeds) old.files) number) ∙ is)
