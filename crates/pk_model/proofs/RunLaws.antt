-- Lists of pairs in the order of their keys, cut at a key: what a look-up, an insertion and a removal do there.
use Rattle.std.proofs.Common.{◌≡◌, refl, ap, sym, subst, ◌∙◌, List, [], ◌∷◌, ◌++◌, length, map, Option, Some, None, cond, Bool as Truth, true, false, ◌&&◌, T, ℕ, ◌+◌, zero, suc, arith, append_assoc, IfSome, IfNone}
use Rattle.std.specs.List.{zip, slice_get}
use Rattle.std.specs.Option.{option_to_list}
use Rattle.std.proofs.lemmas.Option.{same_Some}
use Rattle.std.proofs.lemmas.List.{append-nil, length-append}
use Rattle.std.specs.Ordering.{eq_by_cmp, is_lt, is_le, is_gt, is_eq, ordering_reverse}
use Rattle.std.specs.declared.cmp.Ordering.{Ordering}
use Rattle.std.specs.declared.cmp.Ordering.TheVariants.{Less, Equal, Greater}
use Rattle.std.specs.Cmp.{tied_itself, alike_right}
use Rattle.std.specs.FinMap.Entries.{find, put, by_order, below_all, is_sorted}
use Rattle.std.specs.FinMap.{entries, entries_sorted, entries-insert, entries-from_sorted, get, get-entries, get-remove, get-from_sorted, insert, remove, same_map, from_sorted, empty, get-empty, values, keys, len, len-entries}
use Rattle.pk_values.specs.Order.{key_cmp}
use Rattle.pk_values.specs.OrderFacts.{key_total, key_exact}
use Rattle.pk_values.specs.declared.cells.Value.{Value}
use Rattle.pk_model.specs.Runs.{Pair, are_below, are_up_to, begins_up_to, ends_at}
use Rattle.pk_model.specs.Tables.{Rows}

pub both : (a b : Truth) → T a → T b → T (a && b)
both true b p q = q
both false b p q = p

pub first : (a b : Truth) → T (a && b) → T a
first true b p = tt
first false b p = p

pub second : (a b : Truth) → T (a && b) → T b
second true b p = p
second false b p = absurd p

less : (o : Ordering) → T (is_lt o) → o ≡ Less
less Less p = refl
less Equal p = absurd p
less Greater p = absurd p

pub equal : (o : Ordering) → is_eq o ≡ true → o ≡ Equal
equal Less i = cc
equal Equal i = refl
equal Greater i = cc

turned : (o : Ordering) → is_lt o ≡ is_gt (ordering_reverse o)
turned Less = refl
turned Equal = refl
turned Greater = refl

-- a key below another is above it from there
pub greater : (a b : List Value) → T (is_lt (key_cmp a b)) → key_cmp b a ≡ Greater
greater a b h = key_total.antisymm b a ∙ ap ordering_reverse (less _ h)

-- keys beside their rows
pub length-zip_even : (ks vs : List (List Value)) → length ks ≡ length vs → length (zip ks vs) ≡ length ks
length-zip_even [] vs e = refl
length-zip_even (k ∷ ks) [] e = absurd (omega arith)
length-zip_even (k ∷ ks) (v ∷ vs) e = let f : length ks ≡ length vs = omega arith in ap suc (length-zip_even ks vs f)

pub zip-push : (ks vs : List (List Value)) (k v : List Value) → length ks ≡ length vs → zip (ks ++ k ∷ []) (vs ++ v ∷ []) ≡ zip ks vs ++ (k, v) ∷ []
zip-push [] [] k v e = refl
zip-push [] (w ∷ vs) k v e = absurd (omega arith)
zip-push (j ∷ ks) [] k v e = absurd (omega arith)
zip-push (j ∷ ks) (w ∷ vs) k v e = let f : length ks ≡ length vs = omega arith in ap (λ es. (j, w) ∷ es) (zip-push ks vs k v f)

pub values-zip : (ks vs : List (List Value)) → length ks ≡ length vs → map (λ e. e.1) (zip ks vs) ≡ vs
values-zip [] [] e = refl
values-zip [] (w ∷ vs) e = absurd (omega arith)
values-zip (j ∷ ks) [] e = absurd (omega arith)
values-zip (j ∷ ks) (w ∷ vs) e = let f : length ks ≡ length vs = omega arith in ap (λ es. w ∷ es) (values-zip ks vs f)

pub keys-zip : (ks vs : List (List Value)) → length ks ≡ length vs → map (λ e. e.0) (zip ks vs) ≡ ks
keys-zip [] [] e = refl
keys-zip [] (w ∷ vs) e = absurd (omega arith)
keys-zip (j ∷ ks) [] e = absurd (omega arith)
keys-zip (j ∷ ks) (w ∷ vs) e = let f : length ks ≡ length vs = omega arith in ap (λ es. j ∷ es) (keys-zip ks vs f)

pub ends-push : (k j v : List Value) (es : List Pair) → ends_at k (es ++ (j, v) ∷ []) ≡ eq_by_cmp key_cmp j k
ends-push k j v [] = refl
ends-push k j v (e ∷ []) = refl
ends-push k j v (e ∷ f ∷ es) = ends-push k j v (f ∷ es)

pub ends-get : (k : List Value) (ks vs : List (List Value)) (i : ℕ) (x : List Value) → length ks ≡ length vs → i + 1 ≡ length ks → slice_get ks i ≡ Some x → ends_at k (zip ks vs) ≡ eq_by_cmp key_cmp x k
ends-get k [] vs i x e l h = absurd (omega arith)
ends-get k (j ∷ ks) [] i x e l h = absurd (omega arith)
ends-get k (j ∷ []) (v ∷ vs) zero x e l h = ap (λ y. eq_by_cmp key_cmp y k) (same_Some j x h)
ends-get k (j ∷ []) (v ∷ vs) (suc i) x e l h = absurd (omega arith)
ends-get k (j ∷ q ∷ ks) (v ∷ []) i x e l h = absurd (omega arith)
ends-get k (j ∷ q ∷ ks) (v ∷ w ∷ vs) zero x e l h = absurd (omega arith)
ends-get k (j ∷ q ∷ ks) (v ∷ w ∷ vs) (suc i) x e l h =
    let f : length (q ∷ ks) ≡ length (w ∷ vs) = omega arith in
    let g : i + 1 ≡ length (q ∷ ks) = omega arith in
    ends-get k (q ∷ ks) (w ∷ vs) i x f g h

-- a loop that moves one pair after the other from what is left to what is written
pub moved-one : (old new left rest : List Pair) (e : Pair) → new ≡ old ++ e ∷ [] → left ≡ e ∷ rest → new ++ rest ≡ old ++ left
moved-one old new left rest e p q = ap (λ es. es ++ rest) p ∙ append_assoc old (e ∷ []) rest ∙ ap (λ es. old ++ es) (sym q)

pub nothing-left : (written left : List Pair) → left ≡ [] → written ≡ written ++ left
nothing-left written left e = sym (append-nil written) ∙ ap (λ es. written ++ es) (sym e)

-- a pop that gives nothing where something begins
pub none-left : (old : List Pair) (k : List Value) (r : Option Pair) (new : List Pair) → IfNone r (old ≡ []) → begins_up_to k old ≡ true → IfNone r (begins_up_to k new ≡ false)
none-left [] k None new p h = cc
none-left (e ∷ es) k None new p h = cc
none-left old k (Some e) new p h = tt

-- the pairs below a key are passed over
pub find-below : (k : List Value) (low es : List Pair) → T (are_below k low) → find key_cmp k (low ++ es) ≡ find key_cmp k es
find-below k [] es h = refl
find-below k (e ∷ low) es h = ap (λ o. cond (is_eq o) (Some e.1) (find key_cmp k (low ++ es))) (greater e.0 k (first _ _ h)) ∙ find-below k low es (second _ _ h)

pub put-below : (k : List Value) (v : List Value) (low es : List Pair) → T (are_below k low) → put key_cmp k v (low ++ es) ≡ low ++ put key_cmp k v es
put-below k v [] es h = refl
put-below k v (e ∷ low) es h = ap (λ o. by_order o ((k, v) ∷ e ∷ (low ++ es)) ((e.0, v) ∷ (low ++ es)) (e ∷ put key_cmp k v (low ++ es))) (greater e.0 k (first _ _ h)) ∙ ap (λ rest. e ∷ rest) (put-below k v low es (second _ _ h))

-- a key above none
pub find-above : (k : List Value) (es : List Pair) → T (below_all key_cmp k es) → find key_cmp k es ≡ None
find-above k [] h = refl
find-above k (e ∷ es) h = ap (λ o. cond (is_eq o) (Some e.1) (find key_cmp k es)) (less _ (first _ _ h)) ∙ find-above k es (second _ _ h)

pub put-above : (k v : List Value) (es : List Pair) → T (below_all key_cmp k es) → put key_cmp k v es ≡ (k, v) ∷ es
put-above k v [] h = refl
put-above k v (e ∷ es) h = ap (λ o. by_order o ((k, v) ∷ e ∷ es) ((e.0, v) ∷ es) (e ∷ put key_cmp k v es)) (less _ (first _ _ h))

pub find-here : (k v : List Value) (es : List Pair) → find key_cmp k ((k, v) ∷ es) ≡ Some v
find-here k v es = ap (λ o. cond (is_eq o) (Some v) (find key_cmp k es)) (tied_itself key_total k)

pub put-here : (k v w : List Value) (es : List Pair) → put key_cmp k w ((k, v) ∷ es) ≡ (k, w) ∷ es
put-here k v w es = ap (λ o. by_order o ((k, w) ∷ (k, v) ∷ es) ((k, w) ∷ es) ((k, v) ∷ put key_cmp k w es)) (tied_itself key_total k)

-- order of parts
pub sorted-tail : (low es : List Pair) → T (is_sorted key_cmp (low ++ es)) → T (is_sorted key_cmp es)
sorted-tail [] es h = h
sorted-tail (e ∷ low) es h = sorted-tail low es (second _ _ h)

below_all-head : (x : List Value) (low es : List Pair) → T (below_all key_cmp x (low ++ es)) → T (below_all key_cmp x low)
below_all-head x [] es h = tt
below_all-head x (e ∷ low) es h = both _ _ (first _ _ h) (below_all-head x low es (second _ _ h))

pub sorted-head : (low es : List Pair) → T (is_sorted key_cmp (low ++ es)) → T (is_sorted key_cmp low)
sorted-head [] es h = tt
sorted-head (e ∷ low) es h = both _ _ (below_all-head e.0 low es (first _ _ h)) (sorted-head low es (second _ _ h))

below_all-later : (a b : List Value) (es : List Pair) → key_cmp a b ≡ Less → T (below_all key_cmp b es) → T (below_all key_cmp a es)
below_all-later a b [] p h = tt
below_all-later a b (e ∷ es) p h = both _ _ (subst (λ o. T (is_lt o)) (sym (key_total.trans a b e.0 p (less _ (first _ _ h)))) tt) (below_all-later a b es p (second _ _ h))

-- where the first of what follows is past a key, all of it is
pub past : (k : List Value) (es : List Pair) → T (is_sorted key_cmp es) → begins_up_to k es ≡ false → T (below_all key_cmp k es)
past k [] s h = tt
past k (e ∷ es) s h =
    let above : key_cmp k e.0 ≡ Less = key_total.antisymm k e.0 ∙ ap ordering_reverse (not_up_to _ h) in
    both _ _ (subst (λ o. T (is_lt o)) (sym above) tt) (below_all-later k e.0 es above (first _ _ s))
  where
    not_up_to : (o : Ordering) → is_le o ≡ false → o ≡ Greater
    not_up_to Less e = cc
    not_up_to Equal e = cc
    not_up_to Greater e = refl

-- the last pair of a list in order is above the others
last-above : (low : List Pair) (e : Pair) → T (is_sorted key_cmp (low ++ e ∷ [])) → T (are_below e.0 low)
last-above [] e h = tt
last-above (f ∷ low) e h = both _ _ (of_last f.0 low (first _ _ h)) (last-above low e (second _ _ h))
  where
    of_last : (x : List Value) (rest : List Pair) → T (below_all key_cmp x (rest ++ e ∷ [])) → T (is_lt (key_cmp x e.0))
    of_last x [] p = first _ _ p
    of_last x (g ∷ rest) p = of_last x rest (second _ _ p)

pub sorted-last : (low : List Pair) (k v : List Value) → T (is_sorted key_cmp (low ++ (k, v) ∷ [])) → T (are_below k low)
sorted-last low k v h = last-above low (k, v) h

-- the last pair taken off
taken-key : (k : List Value) (ks vs : List (List Value)) (j row : List Value) → length ks ≡ length vs → ends_at k (zip (ks ++ j ∷ []) (vs ++ row ∷ [])) ≡ true → j ≡ k
taken-key k ks vs j row e h = key_exact j k (equal _ (sym (ends-push k j row (zip ks vs)) ∙ ap (ends_at k) (sym (zip-push ks vs j row e)) ∙ h))

none-ends : (k : List Value) (ks vs : List (List Value)) → length ks ≡ 0 → ends_at k (zip ks vs) ≡ true → ⊥
none-ends k [] vs e h = cc
none-ends k (j ∷ ks) vs e h = absurd (omega arith)

even-rest : (ks vs fs ws : List (List Value)) (j row : List Value) → ks ≡ fs ++ j ∷ [] → vs ≡ ws ++ row ∷ [] → length ks ≡ length vs → length fs ≡ length ws
even-rest ks vs fs ws j row p q e =
    let a : length ks ≡ length fs + 1 = ap length p ∙ length-append fs (j ∷ []) in
    let b : length vs ≡ length ws + 1 = ap length q ∙ length-append ws (row ∷ []) in
    omega arith

pub taken : (k : List Value) (ks vs fs ws : List (List Value)) (r s : Option (List Value)) → ks ≡ fs ++ option_to_list r → vs ≡ ws ++ option_to_list s → length ks ≡ length vs → (r ≡ None → length ks ≡ 0) → ends_at k (zip ks vs) ≡ true
    → IfSome s (λ row. zip ks vs ≡ zip fs ws ++ (k, row) ∷ [])
taken k ks vs fs ws r None p q e n h = tt
taken k ks vs fs ws None (Some row) p q e n h = absurd (none-ends k ks vs (n refl) h)
taken k ks vs fs ws (Some j) (Some row) p q e n h =
    let even = even-rest ks vs fs ws j row p q e in
    let pairs : zip ks vs ≡ zip (fs ++ j ∷ []) (ws ++ row ∷ []) = λ i. zip (p i) (q i) in
    let key : j ≡ k = taken-key k fs ws j row even (ap (ends_at k) (sym pairs) ∙ h) in
    pairs ∙ zip-push fs ws j row even ∙ ap (λ x. zip fs ws ++ (x, row) ∷ []) key

pub taken-below : (k : List Value) (ks vs fs ws : List (List Value)) (r s : Option (List Value)) → ks ≡ fs ++ option_to_list r → vs ≡ ws ++ option_to_list s → length ks ≡ length vs → (r ≡ None → length ks ≡ 0) → (s ≡ None → length vs ≡ 0) → ends_at k (zip ks vs) ≡ true
    → T (is_sorted key_cmp (zip ks vs)) → T (are_below k (zip fs ws))
taken-below k ks vs fs ws r None p q e n m h s =
    let none : length ks ≡ 0 = e ∙ m refl in
    absurd (none-ends k ks vs none h)
taken-below k ks vs fs ws None (Some row) p q e n m h s = absurd (none-ends k ks vs (n refl) h)
taken-below k ks vs fs ws (Some j) (Some row) p q e n m h s =
    sorted-last (zip fs ws) k row (subst (λ es. T (is_sorted key_cmp es)) (taken k ks vs fs ws (Some j) (Some row) p q e n h) s)

-- at or below a key, in order, and not ending at the key: below it
pub below-unless_last : (k : List Value) (es : List Pair) → T (is_sorted key_cmp es) → T (are_up_to k es) → ends_at k es ≡ false → T (are_below k es)
below-unless_last k [] s u n = tt
below-unless_last k (e ∷ []) s u n = both _ _ (only (key_cmp e.0 k) (first _ _ u) n) tt
  where
    only : (o : Ordering) → T (is_le o) → is_eq o ≡ false → T (is_lt o)
    only Less p q = tt
    only Equal p q = cc
    only Greater p q = p
below-unless_last k (e ∷ f ∷ es) s u n =
    let rest = below-unless_last k (f ∷ es) (second _ _ s) (second _ _ u) n in
    let over : key_cmp e.0 f.0 ≡ Less = less _ (first _ _ (first _ _ s)) in
    both _ _ (subst (λ o. T (is_lt o)) (sym (key_total.trans e.0 f.0 k over (less _ (first _ _ rest)))) tt) rest

pub up_to-append : (k : List Value) (es : List Pair) (e : Pair) → T (are_up_to k es) → T (is_le (key_cmp e.0 k)) → T (are_up_to k (es ++ e ∷ []))
up_to-append k [] e h p = both _ _ p tt
up_to-append k (f ∷ es) e h p = both _ _ (first _ _ h) (up_to-append k es e (second _ _ h) p)

below-up_to : (k : List Value) (es : List Pair) → T (are_below k es) → T (are_up_to k es)
below-up_to k [] h = tt
below-up_to k (e ∷ es) h = both _ _ (subst (λ o. T (is_le o)) (sym (less _ (first _ _ h))) tt) (below-up_to k es (second _ _ h))

pub up_to-below : (k : List Value) (es : List Pair) → T (are_below k es) → T (are_up_to k es)
up_to-below = below-up_to

-- where the order goes on from one key to a later one
pub up_to-later : (a b : List Value) (es : List Pair) → T (is_le (key_cmp a b)) → T (are_up_to a es) → T (are_up_to b es)
up_to-later a b [] p h = tt
up_to-later a b (e ∷ es) p h = both _ _ (chained (key_cmp e.0 a) (key_cmp a b) refl refl (first _ _ h) p) (up_to-later a b es p (second _ _ h))
  where
    chained : (r s : Ordering) → key_cmp e.0 a ≡ r → key_cmp a b ≡ s → T (is_le r) → T (is_le s) → T (is_le (key_cmp e.0 b))
    chained Less Less f g u v = subst (λ o. T (is_le o)) (sym (key_total.trans e.0 a b f g)) tt
    chained Less Equal f g u v = subst (λ o. T (is_le o)) (sym (sym (alike_right key_total a b e.0 g) ∙ f)) tt
    chained Equal s f g u v = subst (λ o. T (is_le o)) (sym (key_total.congr e.0 a b f ∙ g)) v
    chained Less Greater f g u v = absurd v
    chained Greater s f g u v = absurd u

-- the map that pairs in order show
pub shown-empty : from_sorted {X = List Value} {R = key_cmp} [] ≡ empty
shown-empty = same_map key_total key_exact _ _ (λ q. get-from_sorted key_cmp [] q tt ∙ sym (get-empty key_cmp q))

pub rows-shown : (ks vs : List (List Value)) → length ks ≡ length vs → T (is_sorted key_cmp (zip ks vs)) → values (from_sorted {R = key_cmp} (zip ks vs)) ≡ vs
rows-shown ks vs e h = ap (map (λ e. e.1)) (entries-from_sorted key_cmp (zip ks vs) h) ∙ values-zip ks vs e

pub keys-shown : (ks vs : List (List Value)) → length ks ≡ length vs → T (is_sorted key_cmp (zip ks vs)) → keys (from_sorted {R = key_cmp} (zip ks vs)) ≡ ks
keys-shown ks vs e h = ap (map (λ e. e.0)) (entries-from_sorted key_cmp (zip ks vs) h) ∙ keys-zip ks vs e

pub len-shown : (es : List Pair) → T (is_sorted key_cmp es) → len (from_sorted {R = key_cmp} es) ≡ length es
len-shown es h = len-entries (from_sorted {R = key_cmp} es) ∙ ap length (entries-from_sorted key_cmp es h)

-- a list without one of its pairs
below_all-without : (x : List Value) (low : List Pair) (e : Pair) (es : List Pair) → T (below_all key_cmp x (low ++ e ∷ es)) → T (below_all key_cmp x (low ++ es))
below_all-without x [] e es h = second _ _ h
below_all-without x (f ∷ low) e es h = both _ _ (first _ _ h) (below_all-without x low e es (second _ _ h))

sorted-without : (low : List Pair) (e : Pair) (es : List Pair) → T (is_sorted key_cmp (low ++ e ∷ es)) → T (is_sorted key_cmp (low ++ es))
sorted-without [] e es h = second _ _ h
sorted-without (f ∷ low) e es h = both _ _ (below_all-without f.0 low e es (first _ _ h)) (sorted-without low e es (second _ _ h))

find-without : (q : List Value) (low : List Pair) (e : Pair) (es : List Pair) → eq_by_cmp key_cmp q e.0 ≡ false → find key_cmp q (low ++ e ∷ es) ≡ find key_cmp q (low ++ es)
find-without q [] e es n = ap (λ t. cond t (Some e.1) (find key_cmp q es)) n
find-without q (f ∷ low) e es n = ap (cond (eq_by_cmp key_cmp q f.0) (Some f.1)) (find-without q low e es n)

-- a map cut at a key: in its own words
module _ (m : Rows) (low after : List Pair) (k : List Value) (b : T (are_below k low)) (a : T (below_all key_cmp k after)) where
  module _ (is : entries m ≡ low ++ after) where
    pub absent : get m k ≡ None
    absent = get-entries m k ∙ ap (find key_cmp k) is ∙ find-below k low after b ∙ find-above k after a

    pub inserted-new : (v : List Value) → entries (insert m k v) ≡ low ++ (k, v) ∷ after
    inserted-new v = entries-insert key_total m k v ∙ ap (put key_cmp k v) is ∙ put-below k v low after b ∙ ap (λ es. low ++ es) (put-above k v after a)

    pub removed-none : remove m k ≡ m
    removed-none = same_map key_total key_exact _ _ (λ q. get-remove key_total m k q ∙ none q (eq_by_cmp key_cmp q k) refl)
      where
        none : (q : List Value) (t : Truth) → eq_by_cmp key_cmp q k ≡ t → cond t None (get m q) ≡ get m q
        none q true e = sym absent ∙ ap (get m) (sym (key_exact q k (equal _ e)))
        none q false e = refl

  module _ (v : List Value) (is : entries m ≡ low ++ (k, v) ∷ after) where
    pub present : get m k ≡ Some v
    present = get-entries m k ∙ ap (find key_cmp k) is ∙ find-below k low ((k, v) ∷ after) b ∙ find-here k v after

    pub inserted-over : (w : List Value) → entries (insert m k w) ≡ low ++ (k, w) ∷ after
    inserted-over w = entries-insert key_total m k w ∙ ap (put key_cmp k w) is ∙ put-below k w low ((k, v) ∷ after) b ∙ ap (λ es. low ++ es) (put-here k v w after)

    pub removed : entries (remove m k) ≡ low ++ after
    removed = ap entries (same_map key_total key_exact (remove m k) (from_sorted {R = key_cmp} (low ++ after)) (λ q.
        get-remove key_total m k q
        ∙ ap (cond (eq_by_cmp key_cmp q k) None) (get-entries m q ∙ ap (find key_cmp q) is)
        ∙ one-out q (eq_by_cmp key_cmp q k) refl
        ∙ sym (get-from_sorted key_cmp (low ++ after) q in_order)))
        ∙ entries-from_sorted key_cmp (low ++ after) in_order
      where
        in_order : T (is_sorted key_cmp (low ++ after))
        in_order = sorted-without low (k, v) after (subst (λ es. T (is_sorted key_cmp es)) is (entries_sorted m))

        one-out : (q : List Value) (t : Truth) → eq_by_cmp key_cmp q k ≡ t → cond t None (find key_cmp q (low ++ (k, v) ∷ after)) ≡ find key_cmp q (low ++ after)
        one-out q true e = sym (ap (λ x. find key_cmp x (low ++ after)) (key_exact q k (equal _ e)) ∙ find-below k low after b ∙ find-above k after a)
        one-out q false e = find-without q low (k, v) after e
