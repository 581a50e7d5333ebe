-- A merge: what one line does at the place that the merge has come to, and what a sort of the lines keeps.
use Rattle.std.proofs.Common.{◌≡◌, refl, ap, sym, subst, ◌∙◌, ℕ, ◌+◌, ◌≤◌, ◌<◌, suc, arith, List, [], ◌∷◌, ◌++◌, length, append_assoc, Option, Some, None, IfSome, IfNone, Result, Ok, Err, OnOk, cond, not, unwrap_or, Bool as Truth, true, false, ◌&&◌, T, get_or, add-one}
use Rattle.std.specs.List.{filter}
use Rattle.std.specs.List.Sorted.{IsStableBy, ties}
use Rattle.std.specs.Ordering.{eq_by_cmp, is_lt, is_le, is_eq, nat_cmp, ordering_reverse}
use Rattle.std.proofs.lemmas.Map.Views.{tells_apart}
use Rattle.std.specs.declared.cmp.Ordering.{Ordering}
use Rattle.std.specs.declared.cmp.Ordering.TheVariants.{Less, Equal, Greater}
use Rattle.std.specs.Cmp.{tied_itself}
use Rattle.std.proofs.lemmas.Cmp.{nat_cmp_total}
use Rattle.std.specs.FinMap.{entries, entries_sorted, entries-from_sorted, get, insert, remove, same_map, same_entries_map, from_sorted}
use Rattle.std.specs.FinMap.Entries.{below_all, is_sorted}
use Rattle.pk_values.specs.Order.{key_cmp}
use Rattle.pk_values.specs.OrderFacts.{key_total, key_exact}
use Rattle.pk_values.specs.Schemas.{Layout}
use Rattle.pk_values.specs.declared.cells.Value.{Value}
use Rattle.pk_model.specs.declared.calls.Op.{Op}
use Rattle.pk_model.specs.declared.calls.Op.TheVariants.{Upsert, Delete}
use Rattle.pk_model.specs.declared.calls.Load.{Load}
use Rattle.pk_model.specs.Tables.{Rows, act, after, after_lines, key_named, new_row, with_cells}
use Rattle.pk_model.specs.Laws.{row_after, result_for}
use Rattle.pk_model.specs.Runs.{Pair, are_below, are_up_to}
use Rattle.pk_model.specs.Merges.{rise, await, Settles, KeepsOrder, StaysUpTo}
use Rattle.pk_model.proofs.RunLaws as run
use Rattle.pk_model.proofs.LoadLaws.{get-after}

-- the row of a key that was taken off the pairs written, and the place where it stood
module _ (m : Rows) (key : List Value) (old mid after : List Pair) (r : Option (List Value))
    (found : IfSome r (λ row. old ≡ mid ++ (key, row) ∷ []))
    (kept : IfNone r (mid ≡ old))
    (b : T (are_below key mid)) (a : T (below_all key_cmp key after)) (is : entries m ≡ old ++ after) where
  at-none : r ≡ None → entries m ≡ mid ++ after
  at-none e = is ∙ ap (λ es. es ++ after) (sym (subst (λ o. IfNone o (mid ≡ old)) e kept))

  at-some : (row : List Value) → r ≡ Some row → entries m ≡ mid ++ (key, row) ∷ after
  at-some row e = is ∙ ap (λ es. es ++ after) (subst (λ o. IfSome o (λ row. old ≡ mid ++ (key, row) ∷ [])) e found) ∙ append_assoc mid ((key, row) ∷ []) after

  by_answer : (P : Type 0) → (r ≡ None → P) → ((row : List Value) → r ≡ Some row → P) → P
  by_answer P none some = elim r as (λ o. r ≡ o → P) [ None ↦ none | Some row ↦ some row ] refl

  pub looked : get m key ≡ r
  looked = by_answer (get m key ≡ r) (λ e. run.absent m mid after key b a (at-none e) ∙ sym e) (λ row e. run.present m mid after key b a row (at-some row e) ∙ sym e)

  pub laid : (w : List Value) → entries (insert m key w) ≡ mid ++ (key, w) ∷ after
  laid w = by_answer (entries (insert m key w) ≡ mid ++ (key, w) ∷ after) (λ e. run.inserted-new m mid after key b a (at-none e) w) (λ row e. run.inserted-over m mid after key b a row (at-some row e) w)

  pub gone : entries (remove m key) ≡ mid ++ after
  gone = by_answer (entries (remove m key) ≡ mid ++ after) (λ e. ap entries (run.removed-none m mid after key b a (at-none e)) ∙ at-none e) (λ row e. run.removed m mid after key b a row (at-some row e))

-- a line whose key was taken off
module _ (given : List ℕ) (key : List Value) (old mid : List Pair) (r : Option (List Value))
    (found : IfSome r (λ row. old ≡ mid ++ (key, row) ∷ []))
    (kept : IfNone r (mid ≡ old))
    (below : T (is_sorted key_cmp old) → T (are_up_to key old) → T (are_below key mid)) where
  old_sorted : (after : List Pair) → T (is_sorted key_cmp (old ++ after)) → T (is_sorted key_cmp old)
  old_sorted after h = run.sorted-head old after h

  pub delete-settles : (s : Layout) → Settles s given (Delete key) old mid
  delete-settles s m after is u a =
      gone m key old mid after r found kept (below (old_sorted after (subst (λ es. T (is_sorted key_cmp es)) is (entries_sorted m))) u) a is

  pub delete-order : KeepsOrder (Delete key) old mid
  delete-order after h u a =
      let m = from_sorted {R = key_cmp} (old ++ after) in
      subst (λ es. T (is_sorted key_cmp es)) (gone m key old mid after r found kept (below (old_sorted after h) u) a (entries-from_sorted key_cmp (old ++ after) h)) (entries_sorted (remove m key))

  pub delete-up_to : StaysUpTo (Delete key) old mid
  delete-up_to h u = run.up_to-below key mid (below h u)

  module _ (s : Layout) (cells row : List Value) (new : List Pair) (wrote : row ≡ with_cells given cells (unwrap_or r (new_row s key))) (pushed : new ≡ mid ++ (key, row) ∷ []) where
    joined : (after : List Pair) → mid ++ (key, row) ∷ after ≡ new ++ after
    joined after = sym (ap (λ es. es ++ after) pushed ∙ append_assoc mid ((key, row) ∷ []) after)

    pub upsert-settles : Settles s given (Upsert key cells) old new
    upsert-settles m after is u a =
        let b = below (old_sorted after (subst (λ es. T (is_sorted key_cmp es)) is (entries_sorted m))) u in
        let same : with_cells given cells (unwrap_or (get m key) (new_row s key)) ≡ row =
        ap (λ o. with_cells given cells (unwrap_or o (new_row s key))) (looked m key old mid after r found kept b a is) ∙ sym wrote in
        ap (λ w. entries (insert m key w)) same ∙ laid m key old mid after r found kept b a is row ∙ joined after

    pub upsert-order : KeepsOrder (Upsert key cells) old new
    upsert-order after h u a =
        let m = from_sorted {R = key_cmp} (old ++ after) in
        subst (λ es. T (is_sorted key_cmp es)) (laid m key old mid after r found kept (below (old_sorted after h) u) a (entries-from_sorted key_cmp (old ++ after) h) row ∙ joined after) (entries_sorted (insert m key row))

    pub upsert-up_to : StaysUpTo (Upsert key cells) old new
    upsert-up_to h u = subst (λ es. T (are_up_to key es)) (sym pushed) (run.up_to-append key mid (key, row) (run.up_to-below key mid (below h u)) (subst (λ o. T (is_le o)) (sym (tied_itself key_total key)) tt))

-- one turn of the merge: D are the pairs written and R those to come, before and after the rows up to the line's key have moved and after the line has acted
pub await-none : (ops : List Op) → T (await ops [])
await-none [] = tt
await-none (op ∷ ops) = tt

await-next : (a : Op) (ops : List Op) (es : List Pair) → T (rise (a ∷ ops)) → T (are_up_to (key_named a) es) → T (await ops es)
await-next a [] es h u = tt
await-next a (b ∷ ops) es h u = run.up_to-later (key_named a) (key_named b) es (run.first _ _ h) u

pub rise-next : (a : Op) (ops : List Op) → T (rise (a ∷ ops)) → T (rise ops)
rise-next a [] h = tt
rise-next a (b ∷ ops) h = run.second _ _ h

module _ (s : Layout) (given : List ℕ) (op : Op) (ops : List Op) (old_done old_rest moved_done moved_rest new_done : List Pair)
    (same : moved_done ++ moved_rest ≡ old_done ++ old_rest)
    (behind : T (are_up_to (key_named op) old_done) → T (are_up_to (key_named op) moved_done))
    (above : T (is_sorted key_cmp (moved_done ++ moved_rest)) → T (below_all key_cmp (key_named op) moved_rest))
    (acts : Settles s given op moved_done new_done)
    (order : KeepsOrder op moved_done new_done)
    (up_to : StaysUpTo op moved_done new_done)
    (in_order : T (is_sorted key_cmp (old_done ++ old_rest)))
    (awaited : T (await (op ∷ ops) old_done))
    (rises : T (rise (op ∷ ops))) where
  order1 : T (is_sorted key_cmp (moved_done ++ moved_rest))
  order1 = subst (λ es. T (is_sorted key_cmp es)) (sym same) in_order

  pub turn-order : T (is_sorted key_cmp (new_done ++ moved_rest))
  turn-order = order moved_rest order1 (behind awaited) (above order1)

  pub turn-awaits : T (await ops new_done)
  turn-awaits = await-next op ops new_done rises (up_to (run.sorted-head moved_done moved_rest order1) (behind awaited))

  pub turn-acts : (n : Rows) → entries n ≡ old_done ++ old_rest → entries (act s given op n) ≡ new_done ++ moved_rest
  turn-acts n is = acts n moved_rest (is ∙ sym same) (behind awaited) (above order1)

-- what follows from a fact about an answer that is Ok
pub on-ok : {X E : Type 0} (r : Result X E) (A B : Type 0) → (A → B) → OnOk r A → OnOk r B
on-ok (Ok x) A B f a = f a
on-ok (Err e) A B f a = tt

pub no-items : {X : Type 0} (xs : List X) → length xs ≡ 0 → xs ≡ []
no-items [] e = refl
no-items (x ∷ xs) e = absurd (omega arith)

-- the rows after a merge are the load's
pub merged-order : (m : Rows) (es : List Pair) → entries m ≡ es → T (is_sorted key_cmp es)
merged-order m es e = subst (λ es. T (is_sorted key_cmp es)) e (entries_sorted m)

pub merged-map : (m : Rows) (es : List Pair) → entries m ≡ es → from_sorted {R = key_cmp} es ≡ m
merged-map m es e = same_entries_map _ m (entries-from_sorted key_cmp es (merged-order m es e) ∙ sym e)

-- what a merge of sorted lines wrote is the map after the load
pub load-merged : (s : Layout) (load : Load) (before m : Rows) (given : List ℕ) (lines sorted : List Op) (es : List Pair) → before ≡ m → lines ≡ load.ops → given ≡ load.given
    → after_lines s load.given sorted m ≡ after_lines s load.given lines m → entries (after_lines s given sorted m) ≡ es → entries (after s load before) ≡ es
load-merged s load before m given lines sorted es is whole carried same merged =
    ap entries ((λ i. after_lines s load.given (sym whole i) (is i)) ∙ sym same) ∙ ap (λ g. entries (after_lines s g sorted m)) (sym carried) ∙ merged

-- a stable sort by keys
abbrev pub before : Op → Op → Truth
before a b = is_lt (key_cmp (key_named a) (key_named b))

not_after : (a b : List Value) → is_lt (key_cmp b a) ≡ false → T (is_le (key_cmp a b))
not_after a b h = by (key_cmp b a) (key_total.antisymm a b) h
  where
    by : (o : Ordering) → key_cmp a b ≡ ordering_reverse o → is_lt o ≡ false → T (is_le (key_cmp a b))
    by Less e n = cc
    by Equal e n = subst (λ r. T (is_le r)) (sym e) tt
    by Greater e n = subst (λ r. T (is_le r)) (sym e) tt

pub rise-sorted : (ops : List Op) → ((k : ℕ) (d : Op) → 0 ≤ k → k + 1 < length ops → before (get_or ops (k + 1) d) (get_or ops k d) ≡ false) → T (rise ops)
rise-sorted [] h = tt
rise-sorted (a ∷ []) h = tt
rise-sorted (a ∷ b ∷ ops) h =
    run.both _ _ (not_after (key_named a) (key_named b) (h 0 a (omega arith) (omega arith)))
    (rise-sorted (b ∷ ops) (λ k d low high.
    let later : before (get_or (b ∷ ops) (suc k) d) (get_or (b ∷ ops) k d) ≡ false = rw (add-one) at (h (suc k) d (omega arith) (omega arith)) in
    rw (add-one) later))

tied : (q k : List Value) → (not (is_lt (key_cmp q k)) && not (is_lt (key_cmp k q))) ≡ eq_by_cmp key_cmp q k
tied q k = ap (λ o. not (is_lt (key_cmp q k)) && not (is_lt o)) (key_total.antisymm k q) ∙ by (key_cmp q k)
  where
    by : (o : Ordering) → (not (is_lt o) && not (is_lt (ordering_reverse o))) ≡ is_eq o
    by Less = refl
    by Equal = refl
    by Greater = refl

-- lines that a test leaves out don't count at a key where it takes each line that names the key
result-filter : (s : Layout) (given : List ℕ) (q : List Value) (p : Op → Truth) → ((op : Op) → eq_by_cmp key_cmp q (key_named op) ≡ true → p op ≡ true)
    → (ops : List Op) (old : Option (List Value)) → result_for s given (filter p ops) q old ≡ result_for s given ops q old
result-filter s given q p takes [] old = refl
result-filter s given q p takes (op ∷ ops) old =
    elim (p op) as (λ t. p op ≡ t → result_for s given (cond t (op ∷ filter p ops) (filter p ops)) q old ≡ result_for s given (op ∷ ops) q old) [
      | true ↦ λ e. result-filter s given q p takes ops (cond (eq_by_cmp key_cmp q (key_named op)) (row_after s given op old) old)
      | false ↦ λ e. result-filter s given q p takes ops old ∙ ap (λ b. result_for s given ops q (cond b (row_after s given op old) old)) (sym (left_out (eq_by_cmp key_cmp q (key_named op)) refl e))
    ] refl
  where
    left_out : (t : Truth) → eq_by_cmp key_cmp q (key_named op) ≡ t → p op ≡ false → eq_by_cmp key_cmp q (key_named op) ≡ false
    left_out false e f = e
    left_out true e f = let clash : true ≡ false = sym (takes op e) ∙ f in cc

-- lines in another order, of which those of one key have kept theirs, give each key the same result
abbrev pub SameResults : List Op → List Op → Type 0
SameResults xs ys = (s : Layout) (given : List ℕ) (key : List Value) (old : Option (List Value)) → result_for s given ys key old ≡ result_for s given xs key old

-- a stable sort gives them, where lines of one key tie
stable-results : (xs ys : List Op) (lt : Op → Op → Truth) → ((a b : Op) → eq_by_cmp key_cmp (key_named a) (key_named b) ≡ true → ties lt a b ≡ true)
    → IsStableBy lt xs ys → SameResults xs ys
stable-results xs ys lt tie stable s given q old =
    let p : Op → Truth = ties lt (Delete q) in
    let takes : (op : Op) → eq_by_cmp key_cmp q (key_named op) ≡ true → p op ≡ true = λ op e. tie (Delete q) op e in
    sym (result-filter s given q p takes ys old) ∙ ap (λ ops. result_for s given ops q old) (stable (Delete q)) ∙ result-filter s given q p takes xs old

by-key-results : (xs ys : List Op) → IsStableBy before xs ys → SameResults xs ys
by-key-results xs ys stable = stable-results xs ys before (λ a b e. tied (key_named a) (key_named b) ∙ e) stable

-- and so does a stable sort by a number of the key
by-number-results : (number : List Value → ℕ) (xs ys : List Op) → IsStableBy (λ a b. is_lt (nat_cmp (number (key_named a)) (number (key_named b)))) xs ys → SameResults xs ys
by-number-results number xs ys stable = stable-results xs ys (λ a b. is_lt (nat_cmp (number (key_named a)) (number (key_named b)))) alike stable
  where
    itself : (n : ℕ) → (not (is_lt (nat_cmp n n)) && not (is_lt (nat_cmp n n))) ≡ true
    itself n = ap (λ o. not (is_lt o) && not (is_lt o)) (tied_itself nat_cmp_total n)

    alike : (a b : Op) → eq_by_cmp key_cmp (key_named a) (key_named b) ≡ true → ties (λ x y. is_lt (nat_cmp (number (key_named x)) (number (key_named y)))) a b ≡ true
    alike a b e = subst (λ k. (not (is_lt (nat_cmp (number (key_named a)) (number k))) && not (is_lt (nat_cmp (number k) (number (key_named a))))) ≡ true)
        (tells_apart key_exact (key_named a) (key_named b) e) (itself (number (key_named a)))

-- sorted by the number and then by the key, lines of one key have kept their order
pub twice-sorted : (number : List Value → ℕ) (xs ys zs : List Op) → IsStableBy (λ a b. is_lt (nat_cmp (number (key_named a)) (number (key_named b)))) xs ys
    → IsStableBy before ys zs → SameResults xs zs
twice-sorted number xs ys zs h k s given key old = by-key-results ys zs k s given key old ∙ by-number-results number xs ys h s given key old

-- so they leave the same rows
pub same-rows : (xs ys : List Op) → SameResults xs ys → (s : Layout) (given : List ℕ) (m : Rows) → after_lines s given ys m ≡ after_lines s given xs m
same-rows xs ys same s given m = same_map key_total key_exact _ _ (λ q. get-after s given ys m q ∙ same s given q (get m q) ∙ sym (get-after s given xs m q))
