-- A hash map's entries as an index from codes to places.
use Rattle.std.proofs.Common.{◌≡◌, refl, ap, sym, ◌∙◌, ℕ, ◌+◌, arith, List, [], ◌∷◌, length, Some, None, is_some, Bool as Truth, false, cond, ◌||◌}
use Rattle.std.specs.List.{AllByRecursion, list_any, IsDistinct}
use Rattle.std.specs.Map.{lookup, keys_of}
use Rattle.std.specs.FinMap.{contains_key, find, from_entries, get, get-from_entries, get-insert, get-remove, insert, len, len-empty, len-insert, remove, same_map}
use Rattle.std.specs.FinMap.Entries.{is_some-find}
use Rattle.std.specs.Cmp.{eq_by_cmp_equiv}
use Rattle.std.specs.Cmp.Lexicographic.{slice_cmp, nat_list_cmp_total}
use Rattle.std.specs.Ordering.{eq_by_cmp, nat_cmp}
use Rattle.std.proofs.lemmas.Map.Keys.{IsDistinct-head, IsDistinct-tail}
use Rattle.std.proofs.lemmas.Map.Lookups.{exact_bytes}
use Rattle.index_level0.specs.declared.place.Place.{Place}
use Rattle.rowsets.specs.Indexing.{CodeMap}

abbrev pub same_key : List ℕ → List ℕ → Truth
same_key = eq_by_cmp (slice_cmp nat_cmp)

abbrev pub Pairs : Type 0
Pairs = List (List ℕ × Place)

abbrev pub as_index : Pairs → CodeMap
as_index es = from_entries es

find_lookup : (es : Pairs) (q : List ℕ) → find (slice_cmp nat_cmp) q es ≡ lookup (same_key q) es
find_lookup [] q = refl
find_lookup (e ∷ es) q = ap (cond (same_key q e.0) (Some e.1)) (find_lookup es q)

pub get_index : (es : Pairs) (q : List ℕ) → get (as_index es) q ≡ lookup (same_key q) es
get_index es q = get-from_entries nat_list_cmp_total es q ∙ find_lookup es q

-- entries with equal look-ups are one index
pub same_index : (es fs : Pairs) → ((q : List ℕ) → lookup (same_key q) fs ≡ lookup (same_key q) es) → as_index fs ≡ as_index es
same_index es fs same = same_map nat_list_cmp_total exact_bytes (as_index fs) (as_index es) (λ q. get_index fs q ∙ same q ∙ sym (get_index es q))

pub index_put : (es fs : Pairs) (k : List ℕ) (p : Place) → ((q : List ℕ) → lookup (same_key q) fs ≡ cond (same_key k q) (Some p) (lookup (same_key q) es)) → as_index fs ≡ insert (as_index es) k p
index_put es fs k p puts =
    same_map nat_list_cmp_total exact_bytes (as_index fs) (insert (as_index es) k p)
    (λ q. get_index fs q ∙ puts q
    ∙ ap (λ b. cond b (Some p) (lookup (same_key q) es)) ((eq_by_cmp_equiv nat_list_cmp_total).symm k q)
    ∙ ap (cond (same_key q k) (Some p)) (sym (get_index es q))
    ∙ sym (get-insert nat_list_cmp_total (as_index es) k p q))

pub index_removed : (es fs : Pairs) (k : List ℕ) → ((q : List ℕ) → lookup (same_key q) fs ≡ cond (same_key k q) None (lookup (same_key q) es)) → as_index fs ≡ remove (as_index es) k
index_removed es fs k takes =
    same_map nat_list_cmp_total exact_bytes (as_index fs) (remove (as_index es) k)
    (λ q. get_index fs q ∙ takes q
    ∙ ap (λ b. cond b None (lookup (same_key q) es)) ((eq_by_cmp_equiv nat_list_cmp_total).symm k q)
    ∙ ap (cond (same_key q k) None) (sym (get_index es q))
    ∙ sym (get-remove nat_list_cmp_total (as_index es) k q))

none_among : (k : List ℕ) (ks : List (List ℕ)) → AllByRecursion (λ y. same_key k y ≡ false) ks → list_any (same_key k) ks ≡ false
none_among k [] apart = refl
none_among k (x ∷ xs) apart = ap (λ t. t || list_any (same_key k) xs) apart.0 ∙ none_among k xs apart.1

pub len_index : (es : Pairs) → IsDistinct same_key (keys_of es) → len (as_index es) ≡ length es
len_index [] apart = len-empty (slice_cmp nat_cmp) Place
len_index (e ∷ es) apart =
    let new : contains_key (as_index es) e.0 ≡ false =
    ap is_some (get-from_entries nat_list_cmp_total es e.0) ∙ is_some-find (slice_cmp nat_cmp) e.0 es ∙ none_among e.0 (keys_of es) (IsDistinct-head same_key e.0 (keys_of es) apart) in
    let shorter = len_index es (IsDistinct-tail same_key e.0 (keys_of es) apart) in
    len-insert nat_list_cmp_total (as_index es) e.0 e.1
    ∙ ap (λ b. cond b (len (as_index es)) (len (as_index es) + 1)) new
    ∙ omega (arith, shorter)
