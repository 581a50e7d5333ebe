-- What the lines of a load do at one key, and which rows a table has.
use Rattle.std.proofs.Common.{◌≡◌, refl, ap, sym, subst, ◌∙◌, List, [], ◌∷◌, ◌++◌, map, append_assoc, Some, None, is_some, cond, Bool as Truth, true, false, T}
use Rattle.std.specs.List.{list_any}
use Rattle.std.specs.Cmp.{tied_itself}
use Rattle.std.specs.Ordering.{eq_by_cmp, is_eq}
use Rattle.std.specs.FinMap.{entries, entries_sorted, find, get, get-entries, is_sorted}
use Rattle.pk_values.specs.Order.{key_cmp}
use Rattle.pk_values.specs.OrderFacts.{key_total}
use Rattle.pk_values.specs.Schemas.{Layout, key_of}
use Rattle.pk_values.specs.declared.cells.Value.{Value}
use Rattle.pk_model.specs.declared.calls.Load.{Load}
use Rattle.pk_model.specs.Laws.{result_for, row_after, ElseOnlyTakes, KeysRise, KeysStandFirst, LastLineActs, OtherKeys, RowsTellKeys, WriteLeavesRow}
use Rattle.pk_model.specs.Runs.{Pair}
use Rattle.pk_model.specs.Tables.{Rows, act, key_named, touches}
use Rattle.pk_model.proofs.LoadLaws.{get-act, get-after}
use Rattle.pk_model.proofs.RunLaws.{find-below, find-here, sorted-head, sorted-last}
use Rattle.pk_model.proofs.WriteLaws.{held, unnamed, wrote}

pub last-line-acts : LastLineActs
last-line-acts s given [] op m =
    get-act s given op m (key_named op)
    ∙ ap (λ o. cond (is_eq o) (row_after s given op (get m (key_named op))) (get m (key_named op))) (tied_itself key_total (key_named op))
last-line-acts s given (a ∷ ops) op m = last-line-acts s given ops op (act s given a m)

pub other-keys : OtherKeys
other-keys s load m key h = get-after s load.given load.ops m key ∙ unnamed s load.given load.ops key (get m key) h

-- a key that has a row after lines which find none is one that they name
named-or-none : (s : Layout) (load : Load) (key : List Value) (t : Truth)
    → list_any (eq_by_cmp key_cmp key) (touches load.ops) ≡ t → is_some (result_for s load.given load.ops key None) ≡ true → list_any (eq_by_cmp key_cmp key) (touches load.ops) ≡ true
named-or-none s load key true e h = e
named-or-none s load key false e h = let none : false ≡ true = ap is_some (sym (unnamed s load.given load.ops key None e)) ∙ h in cc

pub write-leaves-row : WriteLeavesRow
write-leaves-row s load m w =
    let found = wrote s load.given load.ops w in
    (found.0, named-or-none s load found.0 _ refl (found.1 None), ap is_some (get-after s load.given load.ops m found.0) ∙ found.1 (get m found.0))

pub else-only-takes : ElseOnlyTakes
else-only-takes s load m key row w e =
    let there = ap is_some (sym (get-after s load.given load.ops m key) ∙ e) in
    let apart = held s load.given load.ops key (get m key) there w in
    sym (other-keys s load m key apart.1) ∙ e

pub keys-rise : KeysRise
keys-rise m = entries_sorted m

rows-from : (s : Layout) (m : Rows) (low es : List Pair) → entries m ≡ low ++ es → KeysStandFirst s m → map (key_of s) (map (λ e. e.1) es) ≡ map (λ e. e.0) es
rows-from s m low [] e h = refl
rows-from s m low (p ∷ es) e h =
    let all : T (is_sorted key_cmp (low ++ p ∷ es)) = subst (λ l. T (is_sorted key_cmp l)) e (entries_sorted m) in
    let here : T (is_sorted key_cmp (low ++ p ∷ [])) = sorted-head (low ++ p ∷ []) es (subst (λ l. T (is_sorted key_cmp l)) (sym (append_assoc low (p ∷ []) es)) all) in
    let got : get m p.0 ≡ Some p.1 = get-entries m p.0 ∙ ap (find key_cmp p.0) e ∙ find-below p.0 low (p ∷ es) (sorted-last low p.0 p.1 here) ∙ find-here p.0 p.1 es in
    let rest = rows-from s m (low ++ p ∷ []) es (e ∙ sym (append_assoc low (p ∷ []) es)) h in
    ap (λ k. k ∷ map (key_of s) (map (λ e. e.1) es)) (h p.0 p.1 got) ∙ ap (λ ks. p.0 ∷ ks) rest

pub rows-tell-keys : RowsTellKeys
rows-tell-keys s m h = rows-from s m [] (entries m) refl h
