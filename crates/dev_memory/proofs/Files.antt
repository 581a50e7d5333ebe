-- Files that are adopted and forgotten.
use Rattle.std.proofs.Common.{◌≡◌, ◌≢◌, inl, inr, ℕ, zero, suc, ◌+◌, ◌≤◌, ◌<◌, length, get_or, set, take, drop, add-one, nat_le, nat_lt, nat_eq, Bool, true, false, cond, ◌&&◌, ◌||◌, not, if◌then◌else◌, List, [], ◌∷◌, ◌++◌, map, Option, Some, None, refl, sym, ◌∙◌, ap, arith}
use Rattle.std.specs.Ordering.{nat_cmp, eq_by_cmp, is_eq}
use Rattle.std.specs.List.{list_all}
use Rattle.std.specs.declared.cmp.Ordering.{Ordering}
use Rattle.std.specs.declared.cmp.Ordering.TheVariants.{Less, Equal, Greater}
use Rattle.std.specs.FinMap.{FinMap, get, insert, retain_keys, from_entries, get-insert, get-retain_keys, get-from_entries, same_map, nat_cmp-IsAntisymmetric}
use Rattle.std.specs.FinMap.Entries.{find, where_key, find-where_key}
use Rattle.std.proofs.lemmas.Cmp.{nat_cmp_total, eq_by_cmp_equiv}
use Rattle.std.proofs.lemmas.Bool.{and_parts, and_from, cases_eq}
use Rattle.std.proofs.Math.Seq.{drop-cons}
use Rattle.std.proofs.lemmas.List.{take_all, drop_all, append-nil, length-map}
use Rattle.std.proofs.lemmas.List.Folds.{list_all-append}
use Rattle.std.proofs.lemmas.Bool.Decides.{nat_tests}
use Rattle.dev_memory.specs.Disk.{never, stands_at, entries_at, is_in, is_short, closed, settled_by}
use Rattle.dev_memory.specs.Kept.{has_short_bytes}
use Rattle.dev_memory.specs.declared.call.File.{File}

no_truth : true ≡ false → ⊥
no_truth e = cc

is_equal : (r : Ordering) → is_eq r ≡ true → r ≡ Equal
is_equal Less e = cc
is_equal Equal e = refl
is_equal Greater e = cc

pub tied : (m n : ℕ) → eq_by_cmp nat_cmp m n ≡ true → m ≡ n
tied m n e = nat_cmp-IsAntisymmetric m n (is_equal (nat_cmp m n) e)

pub ties : (n : ℕ) → eq_by_cmp nat_cmp n n ≡ true
ties n = (eq_by_cmp_equiv nat_cmp_total).refl n

abbrev Files : Type 0
Files = FinMap nat_cmp (List ℕ)

alike : (keep : List ℕ) (q x : ℕ) → nat_cmp q x ≡ Equal → is_in keep x ≡ is_in keep q
alike keep q x same = ap (is_in keep) (sym (nat_cmp-IsAntisymmetric q x same))

pub get-kept : (files : Files) (keep : List ℕ) (q : ℕ) → is_in keep q ≡ true → get (retain_keys files (is_in keep)) q ≡ get files q
get-kept files keep q is = get-retain_keys files (is_in keep) q (alike keep q) ∙ ap (λ b. cond b (get files q) None) is

-- Tests of a file's times.

from_later : (from n : ℕ) → nat_le from n ≡ true → nat_le from (n + 1) ≡ true
from_later from n le = grind (arith, nat_tests)

later_test : (from until n : ℕ) → (nat_le from n && (nat_le until n || nat_eq until never)) ≡ true → (nat_le from (n + 1) && (nat_lt (n + 1) until || nat_eq until never)) ≡ (nat_le from n && (nat_lt n until || nat_eq until never))
later_test from until n settled = grind (arith, nat_tests)

-- a call later a settled file stands where it stood
later_same : (n : ℕ) (f : File) → settled_by n f ≡ true → stands_at (n + 1) f ≡ stands_at n f
later_same n f settled = later_test f.from f.until n settled

pub entries-later : (n m : ℕ) (files : List File) → list_all (settled_by n) files ≡ true → m ≡ n + 1 → entries_at m files ≡ entries_at n files
entries-later n m [] settled is = refl
entries-later n m (f ∷ files) settled is =
    let parts = and_parts (settled_by n f) (list_all (settled_by n) files) settled in
    let here = ap (λ k. stands_at k f) is ∙ later_same n f parts.0 in
    let rest = entries-later n m files parts.1 is in
    (λ i. if here i then (f.number, f.bytes) ∷ rest i else rest i)

-- Adopted.

pub entries-push : (k : ℕ) (files : List File) (f : File) → entries_at k (files ++ f ∷ []) ≡ entries_at k files ++ entries_at k (f ∷ [])
entries-push k [] f = refl
entries-push k (e ∷ files) f = go (stands_at k e) (entries-push k files f)
  where
    go : (b : Bool) → entries_at k (files ++ f ∷ []) ≡ entries_at k files ++ entries_at k (f ∷ [])
        → (if b then (e.number, e.bytes) ∷ entries_at k (files ++ f ∷ []) else entries_at k (files ++ f ∷ [])) ≡ (if b then (e.number, e.bytes) ∷ entries_at k files else entries_at k files) ++ entries_at k (f ∷ [])
    go true rest = ap (λ (l : List (ℕ × List ℕ)). (e.number, e.bytes) ∷ l) rest
    go false rest = rest

stands_new : (from until k : ℕ) → from ≤ k → until ≡ never → (nat_le from k && (nat_lt k until || nat_eq until never)) ≡ true
stands_new from until k le is = grind (arith, nat_tests)

stands_not_yet : (from until k : ℕ) → k + 1 ≤ from → (nat_le from k && (nat_lt k until || nat_eq until never)) ≡ false
stands_not_yet from until k lt = grind (arith, nat_tests)

pub entries-new : (k : ℕ) (f : File) → f.from ≤ k → f.until ≡ never → entries_at k (f ∷ []) ≡ (f.number, f.bytes) ∷ []
entries-new k f le is = ap (λ (b : Bool). if b then (f.number, f.bytes) ∷ [] else []) (stands_new f.from f.until k le is)

pub entries-not_yet : (k : ℕ) (f : File) → k + 1 ≤ f.from → entries_at k (f ∷ []) ≡ []
entries-not_yet k f lt = ap (λ (b : Bool). if b then (f.number, f.bytes) ∷ [] else []) (stands_not_yet f.from f.until k lt)

-- Forgotten.

open_before : (from until now k : ℕ) → k + 1 ≤ now → nat_eq until never ≡ true → (nat_le from k && (nat_lt k now || nat_eq now never)) ≡ (nat_le from k && (nat_lt k until || nat_eq until never))
open_before from until now k lt is = grind (arith, nat_tests)

closed_from : (from now k : ℕ) → now ≤ k → now ≢ never → (nat_le from k && (nat_lt k now || nat_eq now never)) ≡ false
closed_from from now k le other = grind (arith, nat_tests)

-- before the call that forgets, a file stands as ever
earlier_closed : (keep : List ℕ) (now k : ℕ) (f : File) → k + 1 ≤ now → stands_at k (closed keep now f) ≡ stands_at k f
earlier_closed keep now k f lt = go (nat_eq f.until never) refl (is_in keep f.number)
  where
    go : (b : Bool) → nat_eq f.until never ≡ b → (c : Bool) → stands_at k (if b && not c then record f { until = now } else f) ≡ stands_at k f
    go true is true = refl
    go true is false = open_before f.from f.until now k lt is
    go false is c = refl

closed_parts : (keep : List ℕ) (now : ℕ) (f : File) → ((closed keep now f).number ≡ f.number) × ((closed keep now f).bytes ≡ f.bytes)
closed_parts keep now f = go (nat_eq f.until never && not (is_in keep f.number))
  where
    go : (b : Bool) → ((if b then record f { until = now } else f).number ≡ f.number) × ((if b then record f { until = now } else f).bytes ≡ f.bytes)
    go true = (refl, refl)
    go false = (refl, refl)

pub entries-closed_before : (keep : List ℕ) (now k : ℕ) (files : List File) → k + 1 ≤ now → entries_at k (map (closed keep now) files) ≡ entries_at k files
entries-closed_before keep now k [] lt = refl
entries-closed_before keep now k (f ∷ files) lt =
    let here = earlier_closed keep now k f lt in
    let rest = entries-closed_before keep now k files lt in
    let same = closed_parts keep now f in
    (λ i. if here i then (same.0 i, same.1 i) ∷ rest i else rest i)

stands_on : (from until n : ℕ) → nat_le from n ≡ true → nat_eq until never ≡ true → (nat_le from n && (nat_lt n until || nat_eq until never)) ≡ true
stands_on from until n le is = grind (arith, nat_tests)

gone : (from until n k : ℕ) → (nat_le until n || nat_eq until never) ≡ true → nat_eq until never ≡ false → n ≤ k → (nat_le from k && (nat_lt k until || nat_eq until never)) ≡ false
gone from until n k settled other le = grind (arith, nat_tests)

-- after it the kept ones stand
entries-closed : (keep : List ℕ) (n now : ℕ) (files : List File) → list_all (settled_by n) files ≡ true → now ≡ n + 1 → now ≢ never
    → entries_at now (map (closed keep now) files) ≡ where_key nat_cmp (is_in keep) (entries_at n files)
entries-closed keep n now [] settled is other = refl
entries-closed keep n now (f ∷ files) settled is other =
    let parts = and_parts (settled_by n f) (list_all (settled_by n) files) settled in
    let times = and_parts (nat_le f.from n) (nat_le f.until n || nat_eq f.until never) parts.0 in
    go times.0 times.1 (nat_eq f.until never) refl (is_in keep f.number) refl (entries-closed keep n now files parts.1 is other)
  where
    -- the entries with the file's, by whether it stood before, stands now and is kept
    by_tests : (old new c : Bool) (number : ℕ) (bytes : List ℕ) (es ds : List (ℕ × List ℕ)) → is_in keep number ≡ c → es ≡ where_key nat_cmp (is_in keep) ds → new ≡ (old && c)
        → (if new then (number, bytes) ∷ es else es) ≡ where_key nat_cmp (is_in keep) (if old then (number, bytes) ∷ ds else ds)
    by_tests true new true number bytes es ds kept more same =
        ap (λ (b : Bool). if b then (number, bytes) ∷ es else es) same ∙ ap (λ (l : List (ℕ × List ℕ)). (number, bytes) ∷ l) more
        ∙ sym (ap (λ (b : Bool). if b then (number, bytes) ∷ where_key nat_cmp (is_in keep) ds else where_key nat_cmp (is_in keep) ds) kept)
    by_tests true new false number bytes es ds kept more same =
        ap (λ (b : Bool). if b then (number, bytes) ∷ es else es) same ∙ more
        ∙ sym (ap (λ (b : Bool). if b then (number, bytes) ∷ where_key nat_cmp (is_in keep) ds else where_key nat_cmp (is_in keep) ds) kept)
    by_tests false new c number bytes es ds kept more same = ap (λ (b : Bool). if b then (number, bytes) ∷ es else es) same ∙ more

    go : nat_le f.from n ≡ true → (nat_le f.until n || nat_eq f.until never) ≡ true → (b : Bool) → nat_eq f.until never ≡ b → (c : Bool) → is_in keep f.number ≡ c
        → entries_at now (map (closed keep now) files) ≡ where_key nat_cmp (is_in keep) (entries_at n files)
        → entries_at now ((if b && not c then record f { until = now } else f) ∷ map (closed keep now) files) ≡ where_key nat_cmp (is_in keep) (entries_at n (f ∷ files))
    go le settled true never_ true kept more =
        let later : nat_le f.from now ≡ true = ap (nat_le f.from) is ∙ from_later f.from n le in
        by_tests (stands_at n f) (stands_at now f) true f.number f.bytes _ _ kept more
        (stands_on f.from f.until now later never_ ∙ sym (ap (λ (b : Bool). b && true) (stands_on f.from f.until n le never_)))
    go le settled true never_ false kept more =
        by_tests (stands_at n f) (stands_at now (record f { until = now })) false f.number f.bytes _ _ kept more
        (closed_from f.from now now (omega arith) other ∙ sym (ap (λ (b : Bool). b && false) (stands_on f.from f.until n le never_)))
    go le settled false past c kept more =
        by_tests (stands_at n f) (stands_at now f) c f.number f.bytes _ _ kept more
        (gone f.from f.until n now settled past (omega (arith, is)) ∙ sym (ap (λ (b : Bool). b && c) (gone f.from f.until n n settled past (omega arith))))

-- the files that stand after it, as a map
pub files-closed : (keep : List ℕ) (n now : ℕ) (files : List File) → list_all (settled_by n) files ≡ true → now ≡ n + 1 → now ≢ never
    → from_entries {R = nat_cmp} (entries_at now (map (closed keep now) files)) ≡ retain_keys (from_entries {R = nat_cmp} (entries_at n files)) (is_in keep)
files-closed keep n now files settled is other = same_map nat_cmp_total nat_cmp-IsAntisymmetric _ _ (λ q.
    get-from_entries nat_cmp_total (entries_at now (map (closed keep now) files)) q
    ∙ ap (find nat_cmp q) (entries-closed keep n now files settled is other)
    ∙ find-where_key nat_cmp (is_in keep) q (alike keep q) (entries_at n files)
    ∙ ap (λ (o : Option (List ℕ)). cond (is_in keep q) o None) (sym (get-from_entries nat_cmp_total (entries_at n files) q))
    ∙ sym (get-retain_keys (from_entries {R = nat_cmp} (entries_at n files)) (is_in keep) q (alike keep q)))

settled_later : (from until n : ℕ) → (nat_le from n && (nat_le until n || nat_eq until never)) ≡ true → (nat_le from (n + 1) && (nat_le until (n + 1) || nat_eq until never)) ≡ true
settled_later from until n settled = grind (arith, nat_tests)

-- what is settled stays so
pub settled-later : (n m : ℕ) (files : List File) → m ≡ n + 1 → list_all (settled_by n) files ≡ true → list_all (settled_by m) files ≡ true
settled-later n m [] is settled = refl
settled-later n m (f ∷ files) is settled =
    let parts = and_parts (settled_by n f) (list_all (settled_by n) files) settled in
    and_from _ _ (ap (λ k. settled_by k f) is ∙ settled_later f.from f.until n parts.0) (settled-later n m files is parts.1)

settled_closed : (from until n : ℕ) → (nat_le from n && (nat_le until n || nat_eq until never)) ≡ true → (nat_le from (n + 1) && (nat_le (n + 1) (n + 1) || nat_eq (n + 1) never)) ≡ true
settled_closed from until n settled = grind (arith, nat_tests)

pub settled-closed : (keep : List ℕ) (n now : ℕ) (files : List File) → now ≡ n + 1 → list_all (settled_by n) files ≡ true → list_all (settled_by now) (map (closed keep now) files) ≡ true
settled-closed keep n now [] is settled = refl
settled-closed keep n now (f ∷ files) is settled =
    let parts = and_parts (settled_by n f) (list_all (settled_by n) files) settled in
    and_from _ _ (go (nat_eq f.until never && not (is_in keep f.number)) parts.0) (settled-closed keep n now files is parts.1)
  where
    go : (b : Bool) → settled_by n f ≡ true → settled_by now (if b then record f { until = now } else f) ≡ true
    go true here = ap (λ k. settled_by k (record f { until = k })) is ∙ settled_closed f.from f.until n here
    go false here = ap (λ k. settled_by k f) is ∙ settled_later f.from f.until n here

pub short-closed : (keep : List ℕ) (now : ℕ) (files : List File) → list_all has_short_bytes files ≡ true → list_all has_short_bytes (map (closed keep now) files) ≡ true
short-closed keep now [] all = refl
short-closed keep now (f ∷ files) all =
    let both = and_parts (has_short_bytes f) (list_all has_short_bytes files) all in
    and_from _ _ (ap is_short (closed_parts keep now f).1 ∙ both.0) (short-closed keep now files both.1)

settled_new : (from until n : ℕ) → from ≤ n → until ≡ never → (nat_le from n && (nat_le until n || nat_eq until never)) ≡ true
settled_new from until n le is = grind (arith, nat_tests)

pub settled-push : (n m : ℕ) (files : List File) (f : File) → m ≡ n + 1 → list_all (settled_by n) files ≡ true → f.from ≤ m → f.until ≡ never → list_all (settled_by m) (files ++ f ∷ []) ≡ true
settled-push n m files f is settled le new =
    list_all-append (settled_by m) files (f ∷ []) ∙ and_from _ _ (settled-later n m files is settled) (and_from _ _ (settled_new f.from f.until m le new) refl)

-- the files with those of a list that aren't kept
pub revive : List ℕ → List (ℕ × List ℕ) → Files → Files
revive keep [] files = files
revive keep (e ∷ es) files = if is_in keep e.0 then revive keep es files else insert (revive keep es files) e.0 e.1

pub get-revive : (keep : List ℕ) (es : List (ℕ × List ℕ)) (files : Files) (q : ℕ) → is_in keep q ≡ true → get (revive keep es files) q ≡ get files q
unfolding revive
get-revive keep [] files q is = refl
get-revive keep (e ∷ es) files q is = go (get-revive keep es files q is) (is_in keep e.0) refl
  where
    other : get (revive keep es files) q ≡ get files q → (b : Bool) → eq_by_cmp nat_cmp q e.0 ≡ b → is_in keep e.0 ≡ false → cond b (Some e.1) (get (revive keep es files) q) ≡ get files q
    other rest true same out = absurd (no_truth (sym is ∙ ap (is_in keep) (tied q e.0 same) ∙ out))
    other rest false same out = rest

    go : get (revive keep es files) q ≡ get files q → (b : Bool) → is_in keep e.0 ≡ b → get (if b then revive keep es files else insert (revive keep es files) e.0 e.1) q ≡ get files q
    go rest true out = rest
    go rest false out = get-insert nat_cmp_total (revive keep es files) e.0 e.1 q ∙ other rest (eq_by_cmp nat_cmp q e.0) refl out

pub get-revived : (keep : List ℕ) (es : List (ℕ × List ℕ)) (files : Files) (q : ℕ) (x : List ℕ) → is_in keep q ≡ false → find nat_cmp q es ≡ Some x → get (revive keep es files) q ≡ Some x
unfolding revive
get-revived keep [] files q x out found = cc
get-revived keep (e ∷ es) files q x out found = go (get-revived keep es files q x out) (is_in keep e.0) refl (eq_by_cmp nat_cmp q e.0) refl
  where
    go : (find nat_cmp q es ≡ Some x → get (revive keep es files) q ≡ Some x) → (b : Bool) → is_in keep e.0 ≡ b → (t : Bool) → eq_by_cmp nat_cmp q e.0 ≡ t → get (if b then revive keep es files else insert (revive keep es files) e.0 e.1) q ≡ Some x
    go rest true kept true same = absurd (no_truth (sym kept ∙ ap (is_in keep) (sym (tied q e.0 same)) ∙ out))
    go rest true kept false same = rest (ap (λ b. cond b (Some e.1) (find nat_cmp q es)) (sym same) ∙ found)
    go rest false kept true same = get-insert nat_cmp_total (revive keep es files) e.0 e.1 q ∙ ap (λ b. cond b (Some e.1) (get (revive keep es files) q)) same ∙ ap (λ b. cond b (Some e.1) (find nat_cmp q es)) (sym same) ∙ found
    go rest false kept false same =
        get-insert nat_cmp_total (revive keep es files) e.0 e.1 q ∙ ap (λ b. cond b (Some e.1) (get (revive keep es files) q)) same
        ∙ rest (ap (λ b. cond b (Some e.1) (find nat_cmp q es)) (sym same) ∙ found)

pub get-unrevived : (keep : List ℕ) (es : List (ℕ × List ℕ)) (files : Files) (q : ℕ) → find nat_cmp q es ≡ None → get (revive keep es files) q ≡ get files q
unfolding revive
get-unrevived keep [] files q none = refl
get-unrevived keep (e ∷ es) files q none = go (get-unrevived keep es files q) (eq_by_cmp nat_cmp q e.0) refl none (is_in keep e.0)
  where
    go : (find nat_cmp q es ≡ None → get (revive keep es files) q ≡ get files q) → (t : Bool) → eq_by_cmp nat_cmp q e.0 ≡ t → cond t (Some e.1) (find nat_cmp q es) ≡ None
        → (b : Bool) → get (if b then revive keep es files else insert (revive keep es files) e.0 e.1) q ≡ get files q
    go rest true same none b = absurd (cc)
    go rest false same none true = rest none
    go rest false same none false = get-insert nat_cmp_total (revive keep es files) e.0 e.1 q ∙ ap (λ b. cond b (Some e.1) (get (revive keep es files) q)) same ∙ rest none

-- The first file of a number.

tie_eq : (q n : ℕ) → eq_by_cmp nat_cmp q n ≡ nat_eq n q
tie_eq q n = elim (cases_eq n q) [
  | inl same ↦ ap (λ k. eq_by_cmp nat_cmp q k) same ∙ ties q ∙ sym (same_eq n q same)
  | inr other ↦ go (eq_by_cmp nat_cmp q n) refl other
]
  where
    same_eq : (a b : ℕ) → a ≡ b → nat_eq a b ≡ true
    same_eq a b is = grind (arith, nat_tests)

    other_eq : (a b : ℕ) → (a ≡ b → ⊥) → nat_eq a b ≡ false
    other_eq a b other = grind (arith, nat_tests)

    go : (b : Bool) → eq_by_cmp nat_cmp q n ≡ b → (n ≡ q → ⊥) → eq_by_cmp nat_cmp q n ≡ nat_eq n q
    go true is other = absurd (other (sym (tied q n is)))
    go false is other = is ∙ sym (other_eq n q other)

find_head : (q k : ℕ) (f : File) (files : List File) → (nat_eq f.number q && stands_at k f) ≡ true → find nat_cmp q (entries_at k (f ∷ files)) ≡ Some f.bytes
find_head q k f files is =
    let parts = and_parts (nat_eq f.number q) (stands_at k f) is in
    ap (λ (b : Bool). find nat_cmp q (if b then (f.number, f.bytes) ∷ entries_at k files else entries_at k files)) parts.1
    ∙ ap (λ (b : Bool). cond b (Some f.bytes) (find nat_cmp q (entries_at k files))) (tie_eq q f.number ∙ parts.0)

pub find_skip : (q k : ℕ) (f : File) (files : List File) → (nat_eq f.number q && stands_at k f) ≡ false → find nat_cmp q (entries_at k (f ∷ files)) ≡ find nat_cmp q (entries_at k files)
find_skip q k f files is = go (nat_eq f.number q) (tie_eq q f.number) (stands_at k f) is
  where
    go : (e : Bool) → eq_by_cmp nat_cmp q f.number ≡ e → (s : Bool) → (e && s) ≡ false → find nat_cmp q (if s then (f.number, f.bytes) ∷ entries_at k files else entries_at k files) ≡ find nat_cmp q (entries_at k files)
    go true tie true both = absurd (no_truth both)
    go false tie true both = ap (λ (b : Bool). cond b (Some f.bytes) (find nat_cmp q (entries_at k files))) tie
    go true tie false both = refl
    go false tie false both = refl

pub find-here : (q k : ℕ) (files : List File) (i : ℕ) (d : File) → i < length files → (nat_eq (get_or files i d).number q && stands_at k (get_or files i d)) ≡ true → find nat_cmp q (entries_at k (drop i files)) ≡ Some (get_or files i d).bytes
find-here q k files i d lt is = ap (λ (l : List File). find nat_cmp q (entries_at k l)) (drop-cons files i d lt) ∙ find_head q k (get_or files i d) (drop (suc i) files) is

pub find-later : (q k : ℕ) (files : List File) (i : ℕ) (d : File) → i < length files → (nat_eq (get_or files i d).number q && stands_at k (get_or files i d)) ≡ false → find nat_cmp q (entries_at k (drop i files)) ≡ find nat_cmp q (entries_at k (drop (i + 1) files))
find-later q k files i d lt is =
    ap (λ (l : List File). find nat_cmp q (entries_at k l)) (drop-cons files i d lt) ∙ find_skip q k (get_or files i d) (drop (suc i) files) is
    ∙ ap (λ (n : ℕ). find nat_cmp q (entries_at k (drop n files))) (sym (add-one i))

-- A change of each file in turn.

none_yet : (g : File → File) (xs : List File) → map g (take zero xs) ++ drop zero xs ≡ xs
none_yet g [] = refl
none_yet g (x ∷ xs) = refl

pub changed-none : (g : File → File) (xs : List File) → xs ≡ map g (take 0 xs) ++ drop 0 xs
changed-none g xs = sym (none_yet g xs)

pub changed-step : (g : File → File) (xs : List File) (i : ℕ) (d : File) → i < length xs → set (map g (take i xs) ++ drop i xs) i (g (get_or (map g (take i xs) ++ drop i xs) i d)) ≡ map g (take (suc i) xs) ++ drop (suc i) xs
changed-step g [] i d lt = absurd (omega (arith, lt))
changed-step g (x ∷ xs) zero d lt = ap (λ (l : List File). g x ∷ l) (sym (none_yet g xs))
changed-step g (x ∷ xs) (suc i) d lt = ap (λ (l : List File). g x ∷ l) (changed-step g xs i d (omega (arith, lt)))

pub changed-all : (g : File → File) (xs : List File) (n : ℕ) → length xs ≤ n → map g (take n xs) ++ drop n xs ≡ map g xs
changed-all g xs n le = (λ i. map g (take_all n xs le i) ++ drop_all n xs le i) ∙ append-nil (map g xs)

-- a vector whose files were changed in turn
pub whole-new : (g : File → File) (n : ℕ) (items now new : List File) → length items ≡ n → now ≡ items → new ≡ map g now → take n (new ++ drop (length new) items) ≡ map g items
whole-new g n items now new counts is changed =
    let size : length new ≡ length items = ap length changed ∙ length-map now g ∙ ap length is in
    (λ i. take n (new ++ drop_all (length new) items (omega (arith, size)) i))
    ∙ ap (λ (l : List File). take n l) (append-nil new)
    ∙ take_all n new (omega (arith, size, counts))
    ∙ changed ∙ ap (map g) is
