-- A lawful load leaves each row under its key.
use Rattle.std.proofs.Common.{◌≡◌, refl, ap, sym, ◌∙◌, ℕ, ◌+◌, ◌≤◌, suc, zero, arith, List, [], ◌∷◌, ◌++◌, length, take, drop, map, slice_set, Option, Some, None, cond, true, false, ◌&&◌, nat_le, nat_lt}
use Rattle.std.specs.List.{list_all}
use Rattle.std.specs.Ordering.{eq_by_cmp, is_eq}
use Rattle.std.specs.FinMap.{get}
use Rattle.pk_values.specs.Order.{key_cmp}
use Rattle.pk_values.specs.OrderFacts.{key_total, key_exact}
use Rattle.pk_values.specs.Fits.{fits, fits_all}
use Rattle.pk_values.specs.Schemas.{Layout, fits_key, key_of}
use Rattle.pk_values.specs.declared.cells.Value.{Value}
use Rattle.pk_values.specs.declared.cells.Column.{Column}
use Rattle.pk_model.specs.declared.calls.Op.{Op}
use Rattle.pk_model.specs.declared.calls.Op.TheVariants.{Upsert, Delete}
use Rattle.pk_model.specs.Tables.{Rows, act, after_lines, key_named, with_cells, new_row, default_cell}
use Rattle.pk_model.specs.Lawful.{rise_within, fits_line, fits_given}
use Rattle.pk_model.specs.Laws.{row_after, KeysStandFirst, LawfulKeepsKeys, DeletedThenNew}
use Rattle.pk_model.proofs.CellLaws.{first_true, second_true}
use Rattle.pk_model.proofs.LoadLaws.{get-act}
use Rattle.pk_model.proofs.RunLaws.{equal}
use Rattle.std.specs.Cmp.{tied_itself}
use borrow.Author.Tests.{leb-true}

-- a write past the key leaves it
take-past : (n : ℕ) (row : List Value) (c : ℕ) (v : Value) → n ≤ c → take n (slice_set row c v) ≡ take n row
take-past zero row c v l = refl
take-past (suc n) [] c v l = refl
take-past (suc n) (x ∷ row) zero v l = absurd (omega arith)
take-past (suc n) (x ∷ row) (suc c) v l = let k : n ≤ c = omega arith in ap (λ r. x ∷ r) (take-past n row c v k)

take-cells : (n a b : ℕ) (given : List ℕ) (cells row : List Value) → n ≤ a → rise_within a b given ≡ true → take n (with_cells given cells row) ≡ take n row
take-cells n a b [] cells row l h = refl
take-cells n a b (c ∷ given) [] row l h = refl
take-cells n a b (c ∷ given) (v ∷ cells) row l h =
    let rest = rise_within (c + 1) b given in
    let within : (nat_le a c && nat_lt c b) ≡ true = first_true (nat_le a c && nat_lt c b) rest h in
    let more : rest ≡ true = second_true (nat_le a c && nat_lt c b) rest h in
    let low : a ≤ c = leb-true a c (first_true (nat_le a c) (nat_lt c b) within) in
    let here : n ≤ c = omega arith in
    let later : n ≤ c + 1 = omega arith in
    take-cells n (c + 1) b given cells (slice_set row c v) later more ∙ take-past n row c v here

-- the key of a new row
take-new : (n : ℕ) (cs : List Column) (key : List Value) → fits_all (take n cs) key ≡ true → take n (key ++ map default_cell (drop n cs)) ≡ key
take-new zero cs [] h = refl
take-new zero cs (k ∷ key) h = cc
take-new (suc n) [] [] h = refl
take-new (suc n) [] (k ∷ key) h = cc
take-new (suc n) (c ∷ cs) [] h = cc
take-new (suc n) (c ∷ cs) (k ∷ key) h = ap (λ r. k ∷ r) (take-new n cs key (second_true (fits c k) (fits_all (take n cs) key) h))

fits-key : (s : Layout) (given : List ℕ) (op : Op) → fits_line s given op ≡ true → fits_key s (key_named op) ≡ true
fits-key s given (Delete key) h = h
fits-key s given (Upsert key cells) h = first_true (fits_key s key) (fits_given s given cells) h

pub row-key : (s : Layout) (given : List ℕ) (b : ℕ) (op : Op) (old : Option (List Value)) (row : List Value)
    → rise_within s.keys b given ≡ true → fits_line s given op ≡ true
    → ((r : List Value) → old ≡ Some r → key_of s r ≡ key_named op)
    → row_after s given op old ≡ Some row → key_of s row ≡ key_named op
row-key s given b (Delete key) old row g f h e = cc
row-key s given b (Upsert key cells) None row g f h e =
    let is : with_cells given cells (new_row s key) ≡ row = grind (arith, e) in
    ap (key_of s) (sym is) ∙ take-cells s.keys s.keys b given cells (new_row s key) (omega arith) g ∙ take-new s.keys s.columns key (first_true (fits_key s key) (fits_given s given cells) f)
row-key s given b (Upsert key cells) (Some r) row g f h e =
    let is : with_cells given cells r ≡ row = grind (arith, e) in
    ap (key_of s) (sym is) ∙ take-cells s.keys s.keys b given cells r (omega arith) g ∙ h r refl

act-keeps : (s : Layout) (given : List ℕ) (b : ℕ) (op : Op) (m : Rows) → rise_within s.keys b given ≡ true → fits_line s given op ≡ true → KeysStandFirst s m → KeysStandFirst s (act s given op m)
act-keeps s given b op m g f h key row e =
    elim (eq_by_cmp key_cmp key (key_named op)) as (λ t. eq_by_cmp key_cmp key (key_named op) ≡ t → cond t (row_after s given op (get m key)) (get m key) ≡ Some row → key_of s row ≡ key) [
      | true ↦ λ t w.
          let same : key ≡ key_named op = key_exact key (key_named op) (equal _ t) in
          row-key s given b op (get m key) row g f (λ r q. h key r q ∙ same) w ∙ sym same
      | false ↦ λ t w. h key row w
    ] refl (sym (get-act s given op m key) ∙ e)

lines-keep : (s : Layout) (given : List ℕ) (b : ℕ) (ops : List Op) (m : Rows) → rise_within s.keys b given ≡ true → list_all (fits_line s given) ops ≡ true → KeysStandFirst s m → KeysStandFirst s (after_lines s given ops m)
lines-keep s given b [] m g f h = h
lines-keep s given b (op ∷ ops) m g f h =
    lines-keep s given b ops (act s given op m) g (second_true (fits_line s given op) (list_all (fits_line s given) ops) f) (act-keeps s given b op m g (first_true (fits_line s given op) (list_all (fits_line s given) ops) f) h)

pub lawful-keeps-keys : LawfulKeepsKeys
lawful-keeps-keys s load m lawful h = lines-keep s load.given (length s.columns) load.ops m lawful.given lawful.lines h

pub deleted-then-new : DeletedThenNew
deleted-then-new s given key cells m =
    let itself : eq_by_cmp key_cmp key key ≡ true = ap is_eq (tied_itself key_total key) in
    get-act s given (Upsert key cells) (act s given (Delete key) m) key
    ∙ ap (λ t. cond t (row_after s given (Upsert key cells) (get (act s given (Delete key) m) key)) (get (act s given (Delete key) m) key)) itself
    ∙ ap (row_after s given (Upsert key cells)) (get-act s given (Delete key) m key ∙ ap (λ t. cond t None (get m key)) itself)
