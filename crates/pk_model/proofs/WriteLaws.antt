-- Which loads write: the last line of some key is an upsert, in file order and in the order of the keys alike.
use Rattle.std.proofs.Common.{◌≡◌, ◌-◌, take, refl, ap, sym, subst, ◌∙◌, ℕ, zero, suc, ◌+◌, ◌<◌, arith, add-one, List, [], ◌∷◌, length, drop, get_or, Option, None, is_some, cond, not, Bool as Truth, true, false, ◌&&◌, ◌||◌, T}
use Rattle.std.specs.List.{list_any}
use Rattle.std.specs.Ordering.{eq_by_cmp, is_le, is_eq}
use Rattle.std.specs.declared.cmp.Ordering.{Ordering}
use Rattle.std.specs.declared.cmp.Ordering.TheVariants.{Less, Equal, Greater}
use Rattle.std.specs.Cmp.{tied_itself, alike_right}
use Rattle.std.specs.FinMap.{get, empty, get-empty}
use Rattle.std.proofs.lemmas.List.{take_all, length-drop}
use Rattle.std.proofs.lemmas.Map.Views.{tells_apart}
use Rattle.pk_values.specs.Order.{key_cmp}
use Rattle.pk_values.specs.OrderFacts.{key_total, key_exact}
use Rattle.pk_values.specs.Schemas.{Layout}
use Rattle.pk_values.specs.declared.cells.Value.{Value}
use Rattle.pk_model.specs.declared.calls.Op.{Op}
use Rattle.pk_model.specs.declared.calls.Op.TheVariants.{Upsert, Delete}
use Rattle.pk_model.specs.Tables.{key_named, is_upsert, touches, writes}
use Rattle.pk_model.specs.Laws.{row_after, result_for}
use Rattle.pk_model.specs.Merges.{rise, names_next}
use Rattle.pk_model.proofs.CellLaws.{neither}
use Rattle.pk_model.proofs.RunLaws.{first, second}
use Rattle.pk_model.proofs.LoadLaws.{get-after}
use Rattle.pk_model.proofs.MergeLaws.{SameResults, rise-next}

-- lines that don't name a key leave its row
pub unnamed : (s : Layout) (given : List ℕ) (ops : List Op) (key : List Value) (old : Option (List Value))
    → list_any (eq_by_cmp key_cmp key) (touches ops) ≡ false → result_for s given ops key old ≡ old
unnamed s given [] key old h = refl
unnamed s given (op ∷ ops) key old h =
    let n = neither _ _ h in
    ap (λ b. result_for s given ops key (cond b (row_after s given op old) old)) n.0 ∙ unnamed s given ops key old n.1

-- a line that is the last of its key, and an upsert, leaves a row
upserted : (s : Layout) (given : List ℕ) (op : Op) (ops : List Op) (old : Option (List Value))
    → (is_upsert op && not (list_any (eq_by_cmp key_cmp (key_named op)) (touches ops))) ≡ true → is_some (result_for s given (op ∷ ops) (key_named op) old) ≡ true
upserted s given (Delete key) ops old h = cc
upserted s given (Upsert key cells) ops old h =
    let op : Op = Upsert key cells in
    let last : list_any (eq_by_cmp key_cmp key) (touches ops) ≡ false = flipped (list_any (eq_by_cmp key_cmp key) (touches ops)) h in
    ap is_some (ap (λ o. result_for s given ops key (cond (is_eq o) (row_after s given op old) old)) (tied_itself key_total key) ∙ unnamed s given ops key (row_after s given op old) last)
  where
    flipped : (b : Truth) → not b ≡ true → b ≡ false
    flipped true e = cc
    flipped false e = refl

-- where lines write, some key has a row after them, whatever stood there
pub wrote : (s : Layout) (given : List ℕ) (ops : List Op) → writes ops ≡ true → (key : List Value) × ((old : Option (List Value)) → is_some (result_for s given ops key old) ≡ true)
wrote s given [] h = cc
wrote s given (op ∷ ops) h =
    let is_last : Truth = is_upsert op && not (list_any (eq_by_cmp key_cmp (key_named op)) (touches ops)) in
    elim is_last as (λ t. is_last ≡ t → (t || writes ops) ≡ true → (key : List Value) × ((old : Option (List Value)) → is_some (result_for s given (op ∷ ops) key old) ≡ true)) [
      | true ↦ λ e g. (key_named op, λ old. upserted s given op ops old e)
      | false ↦ λ e g. let r = wrote s given ops g in (r.0, λ old. r.1 (cond (eq_by_cmp key_cmp r.0 (key_named op)) (row_after s given op old) old))
    ] refl h

-- where they don't write, each key that has a row after them had one before, and they don't name it
pub held : (s : Layout) (given : List ℕ) (ops : List Op) (key : List Value) (old : Option (List Value))
    → is_some (result_for s given ops key old) ≡ true → writes ops ≡ false → (is_some old ≡ true) × (list_any (eq_by_cmp key_cmp key) (touches ops) ≡ false)
held s given [] key old h w = (h, refl)
held s given (op ∷ ops) key old h w =
    let none = neither _ _ w in
    let same : Truth = eq_by_cmp key_cmp key (key_named op) in
    let later = held s given ops key (cond same (row_after s given op old) old) h none.1 in
    elim same as (λ t. same ≡ t → is_some (cond t (row_after s given op old) old) ≡ true → (is_some old ≡ true) × ((t || list_any (eq_by_cmp key_cmp key) (touches ops)) ≡ false)) [
      | true ↦ λ e g. absurd (clash op (row_after s given op old) refl g (subst (λ k. (is_upsert op && not (list_any (eq_by_cmp key_cmp k) (touches ops))) ≡ false) (sym (tells_apart key_exact key (key_named op) e)) none.0) later.1)
      | false ↦ λ e g. (g, later.1)
    ] refl later.0
  where
    clash : (op : Op) (row : Option (List Value)) → row ≡ row_after s given op old → is_some row ≡ true
        → (is_upsert op && not (list_any (eq_by_cmp key_cmp key) (touches ops))) ≡ false → list_any (eq_by_cmp key_cmp key) (touches ops) ≡ false → ⊥
    clash (Delete k) row r g n l = cc
    clash (Upsert k cells) row r g n l = cc

-- lines that leave the same rows in an empty table write or don't write alike
alike : (xs ys : List Op) → ((s : Layout) (given : List ℕ) (key : List Value) → result_for s given xs key None ≡ result_for s given ys key None) → writes xs ≡ writes ys
alike xs ys same = by (writes xs) (writes ys) refl refl
  where
    s : Layout
    s = record { columns = []; keys = 0 }

    only : (xs ys : List Op) → ((key : List Value) → result_for s [] xs key None ≡ result_for s [] ys key None) → writes xs ≡ true → writes ys ≡ false → ⊥
    only xs ys q a b =
        let w = wrote s [] xs a in
        let h = held s [] ys w.0 None (ap is_some (sym (q w.0)) ∙ w.1 None) b in
        let none : false ≡ true = h.0 in
        cc

    by : (a b : Truth) → writes xs ≡ a → writes ys ≡ b → writes xs ≡ writes ys
    by true true p q = p ∙ sym q
    by false false p q = p ∙ sym q
    by true false p q = absurd (only xs ys (λ key. same s [] key) p q)
    by false true p q = absurd (only ys xs (λ key. sym (same s [] key)) q p)

pub writes-sorted : (xs ys : List Op) → SameResults xs ys → writes ys ≡ writes xs
writes-sorted xs ys same = alike ys xs (λ s given q. same s given q None)

-- in the order of the keys a key that a later line names is named by the next one
below : (k a b : List Value) → key_cmp k a ≡ Less → T (is_le (key_cmp a b)) → key_cmp k b ≡ Less
below k a b e h = by (key_cmp a b) refl h
  where
    by : (o : Ordering) → key_cmp a b ≡ o → T (is_le o) → key_cmp k b ≡ Less
    by Less f u = key_total.trans k a b e f
    by Equal f u = sym (alike_right key_total a b k f) ∙ e
    by Greater f u = absurd u

unnamed-later : (k : List Value) (b : Op) (ops : List Op) → key_cmp k (key_named b) ≡ Less → T (rise (b ∷ ops)) → list_any (eq_by_cmp key_cmp k) (touches ops) ≡ false
unnamed-later k b [] e h = refl
unnamed-later k b (c ∷ ops) e h =
    let next = below k (key_named b) (key_named c) e (first _ _ h) in
    ap (λ o. is_eq o || list_any (eq_by_cmp key_cmp k) (touches ops)) next ∙ unnamed-later k c ops next (second _ _ h)

pub named-next : (a : Op) (ops : List Op) → T (rise (a ∷ ops)) → list_any (eq_by_cmp key_cmp (key_named a)) (touches ops) ≡ names_next (key_named a) ops
named-next a [] h = refl
named-next a (b ∷ ops) h = by (key_cmp (key_named a) (key_named b)) refl (first _ _ h)
  where
    by : (o : Ordering) → key_cmp (key_named a) (key_named b) ≡ o → T (is_le o) → list_any (eq_by_cmp key_cmp (key_named a)) (touches (b ∷ ops)) ≡ names_next (key_named a) (b ∷ ops)
    by Less e u = ap (λ t. eq_by_cmp key_cmp (key_named a) (key_named b) || t) (unnamed-later (key_named a) b ops e (second _ _ h)) ∙ ap (λ o. is_eq o || false) e ∙ sym (ap is_eq e)
    by Equal e u = ap (λ o. is_eq o || list_any (eq_by_cmp key_cmp (key_named a)) (touches ops)) e ∙ sym (ap is_eq e)
    by Greater e u = absurd u

-- one line of a pass in that order
pub in-order-step : (ops : List Op) (i : ℕ) (op d : Op) → i < length ops → op ≡ get_or ops i d → T (rise (drop i ops))
    → (writes (drop i ops) ≡ ((is_upsert op && not (names_next (key_named op) (drop (i + 1) ops))) || writes (drop (i + 1) ops))) × T (rise (drop (i + 1) ops))
in-order-step ops i op d lt is h = rw (add-one) (by ops i lt is h)
  where
    by : (ops : List Op) (i : ℕ) → i < length ops → op ≡ get_or ops i d → T (rise (drop i ops))
        → (writes (drop i ops) ≡ ((is_upsert op && not (names_next (key_named op) (drop (suc i) ops))) || writes (drop (suc i) ops))) × T (rise (drop (suc i) ops))
    by [] i lt is h = absurd (omega arith)
    by (a ∷ ops) zero lt is h =
        (ap (λ b. (is_upsert a && not b) || writes ops) (named-next a ops h) ∙ ap (λ (o : Op). (is_upsert o && not (names_next (key_named o) ops)) || writes ops) (sym is), rise-next a ops h)
    by (a ∷ ops) (suc i) lt is h = by ops i (omega arith) is h

-- what a line tells with the lines behind it, as a slice to the end
pub told : (op : Op) (ops : List Op) (n : ℕ) (b : Truth) → b ≡ (is_upsert op && not (names_next (key_named op) (take (length ops - n) (drop n ops))))
    → b ≡ (is_upsert op && not (names_next (key_named op) (drop n ops)))
told op ops n b e = e ∙ ap (λ later. is_upsert op && not (names_next (key_named op) later)) (take_all (length ops - n) (drop n ops) (omega (arith, length-drop n ops)))
