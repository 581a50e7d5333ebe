-- A load says what a file has under the names of its header.
use Rattle.std.proofs.Common.{◌≡◌, ◌≢◌, refl, ap, sym, subst, ◌∙◌, ℕ, suc, zero, ◌+◌, ◌<◌, ◌≤◌, List, [], ◌∷◌, ◌++◌, length, take, drop, map, Option, Some, None, Result, Ok, Err, Bool, true, false, ◌||◌, ◌==◌, if◌then◌else◌, nat_lt, arith, append_assoc, append-nil}
use Rattle.std.specs.Prelude.{filter, slice_get, slice_set, option_and_then, option_map, nat_eq, IfOk, ⊤}
use Rattle.std.specs.List.{list_any, position, position_or_len}
use Rattle.std.specs.Cmp.Lexicographic.{pointwise, bytes_decides}
use Rattle.std.proofs.lemmas.Bool.{or_from, or_parts}
use Rattle.std.proofs.lemmas.List.{get_or-take, length-take-le, take-append-drop, take_all}
use Rattle.std.proofs.lemmas.List.Folds.{list_any-append}
use Rattle.std.proofs.lemmas.List.Quantifiers.{position-Some}
use Rattle.std.proofs.lemmas.List.Sums.{fails_before_first, position_or_len_is}
use Rattle.std.proofs.lemmas.Option.{get_or_from_slice_get, slice_get_within}
use Rattle.cell_text.specs.Cells.{is_word}
use Rattle.pk_values.specs.Schemas.{IsLawfulColumn, Layout, is_name, place_of_name, schema_fault}
use Rattle.pk_values.specs.SchemaFacts.{lawful_column}
use Rattle.pk_values.specs.declared.cells.Column.{Column}
use Rattle.pk_values.specs.declared.cells.Value.{Value}
use Rattle.key_code.specs.KeyCode.{key_code}
use Rattle.pk_model.specs.declared.calls.Op.{Op}
use Rattle.pk_model.specs.declared.calls.Load.{Load}
use Rattle.load_csv.specs.declared.loads.LoadFault.{LoadFault}
use Rattle.load_csv.specs.declared.loads.LoadFault.TheVariants as fault
use Rattle.load_csv.specs.declared.headers.Field.{Field}
use Rattle.load_csv.specs.declared.headers.Field.TheVariants as field
use Rattle.load_csv.specs.Results.{◌and_then◌}
use Rattle.load_csv.specs.Headers.{field_named, fields_after, is_same, missing_from, new_field, op_name, unfilled_from, unless_missing, unless_unfilled, wanted, with_defaults, with_wanted}
use Rattle.load_csv.specs.Lines.{cell_at, cell_in, cells_of, is_delete, is_read, line_of, line_of_cells, line_told, line_with, marks, no_cells, pick, with_cell, with_field, with_fields}
use Rattle.load_csv.specs.Loads.{given_in, lines_after, load_of, load_of_records, load_of_rows, load_with, most_rows, places, records_of, row_of}
use Rattle.load_csv.specs.Named.{SaysFile, SaysRow, SaysRows, cell_under, deletes, is_named, text_under}
use Rattle.load_csv.proofs.FitFacts.{cells-width, equal_itself, get-drop, get-set, get-set_other, key-given, length-no_cells, ltb-true, names-key, same_number, with_field-width}
use Rattle.load_csv.proofs.LoadFacts.{at-place}
use Rattle.load_csv.proofs.LawfulFacts.{not_longer, same_width}

-- ---- places

none_found : (m l i : ℕ) → (if nat_lt m l then Some i else None) ≡ None → l ≤ m
none_found m l i e = by (nat_lt m l) refl e
  where
    by : (t : Bool) → nat_lt m l ≡ t → (if t then Some i else None) ≡ None → l ≤ m
    by true q e = cc e
    by false q e = not_longer m l q

-- the first element that passes is found
first_place : {X : Type 0} (p : X → Bool) (xs : List X) (k : ℕ) (x : X) → position p (take k xs) ≡ None → slice_get xs k ≡ Some x → p x ≡ true → position p xs ≡ Some k
first_place p xs k x none g h =
    let within : k < length xs = slice_get_within xs k x g in
    let size : length (take k xs) ≡ k = length-take-le k xs (omega arith) in
    let before : length (take k xs) ≤ position_or_len p (take k xs) = none_found (position_or_len p (take k xs)) (length (take k xs)) (position_or_len p (take k xs)) none in
    let at : position_or_len p xs ≡ k =
    position_or_len_is p xs k x (omega arith)
    (λ j l. ap p (sym (get_or-take k xs j x l)) ∙ fails_before_first p (take k xs) j x (omega arith))
    (λ l. ap p (get_or_from_slice_get xs k x x g) ∙ h) in
    ap (λ (n : ℕ). if nat_lt n (length xs) then Some n else None) at ∙ ap (λ (t : Bool). if t then Some k else None) (ltb-true k (length xs) within)

-- what was found passes
found_passes : {X : Type 0} (p : X → Bool) (xs : List X) (k : ℕ) (x : X) → position p xs ≡ Some k → slice_get xs k ≡ Some x → p x ≡ true
found_passes p xs k x e g = ap p (sym (get_or_from_slice_get xs k x x g)) ∙ (position-Some p xs k x e).1

-- ---- names

-- no column has the name `__op`
not_op : (s : Layout) (k : ℕ) (c : Column) → IsLawfulColumn s k c → c.name ≡ op_name → ⊥
not_op s k c lawful e = let bad : is_name op_name ≡ true = subst (λ (n : List ℕ). is_name n ≡ true) e lawful.named in cc bad

-- a name is that of a column exactly where it stands for the column
module _ (s : Layout) (k : ℕ) (c : Column) (valid : schema_fault s.columns s.keys ≡ None) (at : slice_get s.columns k ≡ Some c) where
  lawful : IsLawfulColumn s k c
  lawful = lawful_column s k c valid at

  its_place : (name : List ℕ) → name ≡ c.name → place_of_name name s.columns ≡ Some k
  its_place name e =
      subst (λ (n : List ℕ). place_of_name n s.columns ≡ Some k) (sym e)
      (first_place (λ (d : Column). pointwise nat_eq d.name c.name) s.columns k c lawful.only at ((bytes_decides c.name c.name).1 refl))

  its_name : (name : List ℕ) → place_of_name name s.columns ≡ Some k → name ≡ c.name
  its_name name e = sym ((bytes_decides c.name name).0 (found_passes (λ (d : Column). pointwise nat_eq d.name name) s.columns k c e at))

  same_place : (name : List ℕ) (j : ℕ) (t : Bool) → place_of_name name s.columns ≡ Some j → is_word name c.name ≡ t → t ≡ (k == j)
  same_place name j true p h =
      let there = its_place name ((bytes_decides name c.name).0 h) in
      let same : j ≡ k = let q : Some j ≡ Some k = sym p ∙ there in cc q in
      rw same (sym (equal_itself k))
  same_place name j false p h = by (k == j) refl
    where
      by : (u : Bool) → (k == j) ≡ u → false ≡ u
      by false q = refl
      by true q =
          let same : k ≡ j = same_number k j q in
          let word : is_word name c.name ≡ true = (bytes_decides name c.name).1 (its_name name (p ∙ ap Some (sym same))) in
          cc (word, h)

  same_column : (name : List ℕ) (f : Field) → field_named s name ≡ Some f → is_word name c.name ≡ is_same (field.Column k) f
  same_column name f e = by_op (is_word name op_name) refl e
    where
      by_word : (t : Bool) → is_word name op_name ≡ true → is_word name c.name ≡ t → t ≡ false
      by_word false o h = refl
      by_word true o h = absurd (not_op s k c lawful (sym ((bytes_decides name c.name).0 h) ∙ (bytes_decides name op_name).0 o))

      by_place : (o : Option ℕ) → place_of_name name s.columns ≡ o → option_map field.Column o ≡ Some f → is_word name c.name ≡ is_same (field.Column k) f
      by_place None p e = cc e
      by_place (Some j) p e =
          let is : field.Column j ≡ f = cc e in
          subst (λ (g : Field). is_word name c.name ≡ is_same (field.Column k) g) is (same_place name j (is_word name c.name) p refl)

      by_op : (t : Bool) → is_word name op_name ≡ t → (if t then Some field.Op else option_map field.Column (place_of_name name s.columns)) ≡ Some f → is_word name c.name ≡ is_same (field.Column k) f
      by_op true o e =
          let is : field.Op ≡ f = cc e in
          subst (λ (g : Field). is_word name c.name ≡ is_same (field.Column k) g) is (by_word (is_word name c.name) o refl)
      by_op false o e = by_place (place_of_name name s.columns) refl e

-- and `__op` where it stands for what a row does
same_op : (s : Layout) (name : List ℕ) (f : Field) → field_named s name ≡ Some f → is_word name op_name ≡ is_same field.Op f
same_op s name f e = by_op (is_word name op_name) e
  where
    by_place : (o : Option ℕ) → option_map field.Column o ≡ Some f → false ≡ is_same field.Op f
    by_place None e = cc e
    by_place (Some j) e = let is : field.Column j ≡ f = cc e in subst (λ (g : Field). false ≡ is_same field.Op g) is refl

    by_op : (t : Bool) → (if t then Some field.Op else option_map field.Column (place_of_name name s.columns)) ≡ Some f → t ≡ is_same field.Op f
    by_op true e = let is : field.Op ≡ f = cc e in subst (λ (g : Field). true ≡ is_same field.Op g) is refl
    by_op false e = by_place (place_of_name name s.columns) e

-- ---- the fields of a header

-- what each name stands for
Named : Layout → List (List ℕ) → List Field → Type 0
Named s [] [] = ⊤
Named s [] (f ∷ fields) = ⊥
Named s (n ∷ names) [] = ⊥
Named s (n ∷ names) (f ∷ fields) = (field_named s n ≡ Some f) × Named s names fields

-- no field is told twice
Apart : List Field → Type 0
Apart [] = ⊤
Apart (f ∷ fields) = (list_any (is_same f) fields ≡ false) × Apart fields

same_either_way : (f g : Field) → is_same f g ≡ is_same g f
same_either_way field.Op field.Op = refl
same_either_way field.Op (field.Column j) = refl
same_either_way (field.Column i) field.Op = refl
same_either_way (field.Column i) (field.Column j) = grind arith

same_field : (f g : Field) → is_same f g ≡ true → f ≡ g
same_field field.Op field.Op h = refl
same_field field.Op (field.Column j) h = cc h
same_field (field.Column i) field.Op h = cc h
same_field (field.Column i) (field.Column j) h = ap field.Column (same_number i j h)

apart-push : (fields : List Field) (f : Field) → Apart fields → list_any (is_same f) fields ≡ false → Apart (fields ++ f ∷ [])
unfolding Apart
apart-push [] f a h = (refl, tt)
apart-push (g ∷ fields) f a h =
    let parts = or_parts (is_same f g) (list_any (is_same f) fields) h in
    let last : is_same g f ≡ false = same_either_way g f ∙ parts.0 in
    (list_any-append (is_same g) fields (f ∷ []) ∙ or_from _ _ a.0 (or_from _ _ last refl), apart-push fields f a.1 parts.1)

-- the fields that names stand for, behind those before them
record Walked (s : Layout) (names : List (List ℕ)) (before fields : List Field) : Type 0 where
  pub more : List Field
  pub fields_are : fields ≡ before ++ more
  pub named : Named s names more
  pub apart : Apart fields

walked : (s : Layout) (before fields : List Field) (names : List (List ℕ)) → Apart before → fields_after s before names ≡ Ok fields → Walked s names before fields
unfolding Named
walked s before fields [] a e =
    let same : before ≡ fields = cc e in
    record { more = []; fields_are = sym same ∙ sym (append-nil before); named = tt; apart = subst Apart same a }
walked s before fields (n ∷ names) a e = by_field (field_named s n) refl e (λ f. walked s (before ++ f ∷ []) fields names)
  where
    by_new : (f : Field) (t : Bool) → field_named s n ≡ Some f → list_any (is_same f) before ≡ t
        → ((if t then Err (fault.NameTwice (length before + 1)) else Ok f) and_then (λ (g : Field). fields_after s (before ++ g ∷ []) names)) ≡ Ok fields
        → ((f : Field) → Apart (before ++ f ∷ []) → fields_after s (before ++ f ∷ []) names ≡ Ok fields → Walked s names (before ++ f ∷ []) fields)
        → Walked s (n ∷ names) before fields
    by_new f true w h e later = cc e
    by_new f false w h e later =
        let rest = later f (apart-push before f a h) e in
        record { more = f ∷ rest.more; fields_are = rest.fields_are ∙ append_assoc before (f ∷ []) rest.more; named = (w, rest.named); apart = rest.apart }

    by_field : (o : Option Field) → field_named s n ≡ o → (new_field before (length before + 1) o and_then (λ (g : Field). fields_after s (before ++ g ∷ []) names)) ≡ Ok fields
        → ((f : Field) → Apart (before ++ f ∷ []) → fields_after s (before ++ f ∷ []) names ≡ Ok fields → Walked s names (before ++ f ∷ []) fields)
        → Walked s (n ∷ names) before fields
    by_field None w e later = cc e
    by_field (Some f) w e later = by_new f (list_any (is_same f) before) w refl e later

-- ---- the text of a field

text_of : Field → List Field → List (List ℕ) → Option (List ℕ)
text_of f [] texts = None
text_of f (g ∷ fields) [] = None
text_of f (g ∷ fields) (text ∷ texts) = if is_same f g then Some text else text_of f fields texts

-- the text under a name is that of the field which the name stands for
under_name : (s : Layout) (name : List ℕ) (f : Field) → ((n : List ℕ) (g : Field) → field_named s n ≡ Some g → is_word n name ≡ is_same f g)
    → (names : List (List ℕ)) (fields : List Field) (texts : List (List ℕ)) → Named s names fields → text_under names texts name ≡ text_of f fields texts
unfolding Named text_of
under_name s name f same [] [] texts w = refl
under_name s name f same [] (g ∷ fields) texts w = absurd w
under_name s name f same (n ∷ names) [] texts w = absurd w
under_name s name f same (n ∷ names) (g ∷ fields) [] w = refl
under_name s name f same (n ∷ names) (g ∷ fields) (text ∷ texts) w =
    ap (λ (b : Bool). if b then Some text else text_under names texts name) (same n g w.0)
    ∙ ap (λ (o : Option (List ℕ)). if is_same f g then Some text else o) (under_name s name f same names fields texts w.1)

deletes-text : (fields : List Field) (texts : List (List ℕ)) → is_delete fields texts ≡ deletes (text_of field.Op fields texts)
unfolding text_of
deletes-text [] texts = refl
deletes-text (f ∷ fields) [] = refl
deletes-text (field.Op ∷ fields) (text ∷ texts) = refl
deletes-text (field.Column i ∷ fields) (text ∷ texts) = deletes-text fields texts

-- ---- the cell of a column

module _ (s : Layout) (n : ℕ) (delete : Bool) (k : ℕ) where
  -- a field of something else leaves the cell
  other_field : (c : ℕ) (cells more : List Value) (f : Field) (text : List ℕ) → is_same (field.Column k) f ≡ false → with_field s n delete c cells f text ≡ Ok more → slice_get more k ≡ slice_get cells k
  other_field c cells more field.Op text h e = let same : cells ≡ more = cc e in ap (λ (xs : List Value). slice_get xs k) (sym same)
  other_field c cells more (field.Column j) text h e = by_read (is_read s delete j) e
    where
      other : k ≢ j
      other same = let itself : (k == j) ≡ true = rw same (equal_itself j) in cc (itself, h)

      by_cell : (o : Option Value) → with_cell n c cells j o ≡ Ok more → slice_get more k ≡ slice_get cells k
      by_cell None e = cc e
      by_cell (Some v) e = let set : slice_set cells j v ≡ more = cc e in ap (λ (xs : List Value). slice_get xs k) (sym set) ∙ get-set_other cells j k v other

      by_read : (t : Bool) → (if t then with_cell n c cells j (cell_at (slice_get s.columns j) text) else Ok cells) ≡ Ok more → slice_get more k ≡ slice_get cells k
      by_read true e = by_cell (cell_at (slice_get s.columns j) text) e
      by_read false e = let same : cells ≡ more = cc e in ap (λ (xs : List Value). slice_get xs k) (sym same)

  -- and so do fields of which none is the column's
  kept : (c : ℕ) (cells final : List Value) (fields : List Field) (texts : List (List ℕ)) → list_any (is_same (field.Column k)) fields ≡ false
      → with_fields s n delete c cells fields texts ≡ Ok final → slice_get final k ≡ slice_get cells k
  kept c cells final [] texts h e = let same : cells ≡ final = cc e in ap (λ (xs : List Value). slice_get xs k) (sym same)
  kept c cells final (f ∷ fields) [] h e = let same : cells ≡ final = cc e in ap (λ (xs : List Value). slice_get xs k) (sym same)
  kept c cells final (f ∷ fields) (text ∷ texts) h e =
      let parts = or_parts (is_same (field.Column k) f) (list_any (is_same (field.Column k)) fields) h in
      by_step (with_field s n delete c cells f text) parts.0 refl e (λ more. kept (c + 1) more final fields texts parts.1)
    where
      by_step : (o : Result (List Value) LoadFault) → is_same (field.Column k) f ≡ false → with_field s n delete c cells f text ≡ o
          → (o and_then (λ (more : List Value). with_fields s n delete (c + 1) more fields texts)) ≡ Ok final
          → ((more : List Value) → with_fields s n delete (c + 1) more fields texts ≡ Ok final → slice_get final k ≡ slice_get more k) → slice_get final k ≡ slice_get cells k
      by_step (Err bad) h o e later = cc e
      by_step (Ok more) h o e later = later more e ∙ other_field c cells more f text h o

  module _ (column : Column) (at : slice_get s.columns k ≡ Some column) (read : is_read s delete k ≡ true) where
    -- the column's field puts its cell there
    this_field : (c : ℕ) (cells more : List Value) (f : Field) (text : List ℕ) → k < length cells → is_same (field.Column k) f ≡ true
        → with_field s n delete c cells f text ≡ Ok more → slice_get more k ≡ cell_in column text
    this_field c cells more f text within h e =
        let here = subst (λ (g : Field). with_field s n delete c cells g text ≡ Ok more) (sym (same_field (field.Column k) f h)) e in
        by (cell_in column text) refl (rw (read, at) at here)
      where
        by : (o : Option Value) → cell_in column text ≡ o → with_cell n c cells k o ≡ Ok more → slice_get more k ≡ o
        by None q e = cc e
        by (Some v) q e = let set : slice_set cells k v ≡ more = cc e in ap (λ (xs : List Value). slice_get xs k) (sym set) ∙ get-set cells k v within

    -- the cell of a column is what the text of its field reads as
    cell-text : (c : ℕ) (cells final : List Value) (fields : List Field) (texts : List (List ℕ)) → Apart fields → list_any (is_same (field.Column k)) fields ≡ true
        → length texts ≡ length fields → k < length cells → with_fields s n delete c cells fields texts ≡ Ok final
        → slice_get final k ≡ option_and_then (cell_in column) (text_of (field.Column k) fields texts)
    unfolding Apart text_of
    cell-text c cells final [] texts a h l within e = cc h
    cell-text c cells final (f ∷ fields) [] a h l within e = absurd (omega arith)
    cell-text c cells final (f ∷ fields) (text ∷ texts) a h l within e =
        by_step (with_field s n delete c cells f text) refl e (λ more. cell-text (c + 1) more final fields texts a.1)
      where
        by_same : (t : Bool) (more : List Value) → is_same (field.Column k) f ≡ t → (t || list_any (is_same (field.Column k)) fields) ≡ true → with_field s n delete c cells f text ≡ Ok more
            → with_fields s n delete (c + 1) more fields texts ≡ Ok final
            → ((more : List Value) → list_any (is_same (field.Column k)) fields ≡ true → length texts ≡ length fields → k < length more → with_fields s n delete (c + 1) more fields texts ≡ Ok final
            → slice_get final k ≡ option_and_then (cell_in column) (text_of (field.Column k) fields texts))
            → slice_get final k ≡ option_and_then (cell_in column) (if t then Some text else text_of (field.Column k) fields texts)
        by_same true more q h o e later =
            let none : list_any (is_same (field.Column k)) fields ≡ false = subst (λ (g : Field). list_any (is_same g) fields ≡ false) (sym (same_field (field.Column k) f q)) a.0 in
            kept (c + 1) more final fields texts none e ∙ this_field c cells more f text within q o
        by_same false more q h o e later =
            let width = with_field-width s n delete c cells more f text o in
            later more h (omega arith) (omega arith) e

        by_step : (o : Result (List Value) LoadFault) → with_field s n delete c cells f text ≡ o
            → (o and_then (λ (more : List Value). with_fields s n delete (c + 1) more fields texts)) ≡ Ok final
            → ((more : List Value) → list_any (is_same (field.Column k)) fields ≡ true → length texts ≡ length fields → k < length more → with_fields s n delete (c + 1) more fields texts ≡ Ok final
            → slice_get final k ≡ option_and_then (cell_in column) (text_of (field.Column k) fields texts))
            → slice_get final k ≡ option_and_then (cell_in column) (if is_same (field.Column k) f then Some text else text_of (field.Column k) fields texts)
        by_step (Err bad) o e later = cc e
        by_step (Ok more) o e later = by_same (is_same (field.Column k) f) more refl h o e later

-- the first cells are those of the first columns
first_cells : (cell : Column → Option Value) (m : ℕ) (cs : List Column) (vs : List Value) → length vs ≡ length cs
    → ((k : ℕ) (c : Column) → slice_get cs k ≡ Some c → k < m → slice_get vs k ≡ cell c) → map cell (take m cs) ≡ map Some (take m vs)
first_cells cell zero cs vs l h = refl
first_cells cell (suc m) [] [] l h = refl
first_cells cell (suc m) [] (v ∷ vs) l h = absurd (omega arith)
first_cells cell (suc m) (c ∷ cs) [] l h = absurd (omega arith)
first_cells cell (suc m) (c ∷ cs) (v ∷ vs) l h =
    ap (λ (o : Option Value). o ∷ map cell (take m cs)) (sym (h zero c refl (omega arith)))
    ∙ ap (λ (os : List (Option Value)). Some v ∷ os) (first_cells cell m cs vs (omega arith) (λ k d e lt. h (suc k) d e (omega arith)))

all_cells : (cell : Column → Option Value) (cs : List Column) (vs : List Value) → length vs ≡ length cs
    → ((k : ℕ) (c : Column) → slice_get cs k ≡ Some c → slice_get vs k ≡ cell c) → map cell cs ≡ map Some vs
all_cells cell cs vs l h =
    ap (map cell) (sym (take_all (length cs) cs (omega arith)))
    ∙ first_cells cell (length cs) cs vs l (λ k c e lt. h k c e)
    ∙ ap (map Some) (take_all (length cs) vs (omega arith))

-- ---- lines

-- a column's name stands in a header where a field stands for the column
named_given : (s : Layout) (name : List ℕ) (f : Field) → ((n : List ℕ) (g : Field) → field_named s n ≡ Some g → is_word n name ≡ is_same f g)
    → (names : List (List ℕ)) (fields : List Field) → Named s names fields → list_any (λ n. is_word n name) names ≡ list_any (is_same f) fields
unfolding Named
named_given s name f h [] [] n = refl
named_given s name f h [] (g ∷ fields) n = absurd n
named_given s name f h (m ∷ names) [] n = absurd n
named_given s name f h (m ∷ names) (g ∷ fields) n =
    let first = h m g n.0 in
    let rest = named_given s name f h names fields n.1 in
    λ i. first i || rest i

-- what is picked of cells says what the named columns among these say
picked-say : {Y : Type 0} (named : Column → Bool) (cell : Column → Option Y) (fields : List Field) (i : ℕ) (cs : List Column) (vs : List Y) → length vs ≡ length cs
    → ((k : ℕ) (c : Column) → slice_get cs k ≡ Some c → named c ≡ list_any (is_same (field.Column (i + k))) fields)
    → ((k : ℕ) (c : Column) → slice_get cs k ≡ Some c → list_any (is_same (field.Column (i + k))) fields ≡ true → slice_get vs k ≡ cell c)
    → map cell (filter named cs) ≡ map Some (pick (marks fields i cs) vs)
picked-say named cell fields i [] [] l h g = refl
picked-say named cell fields i [] (v ∷ vs) l h g = refl
picked-say named cell fields i (c ∷ cs) [] l h g = absurd (omega arith)
picked-say named cell fields i (c ∷ cs) (v ∷ vs) l h g =
    by (list_any (is_same (field.Column i)) fields) (named c) mark here (picked-say named cell fields (i + 1) cs vs (omega arith) later held)
  where
    none : i + zero ≡ i
    none = omega arith

    mark : named c ≡ list_any (is_same (field.Column i)) fields
    mark = h zero c refl ∙ ap (λ p. list_any (is_same (field.Column p)) fields) none

    here : list_any (is_same (field.Column i)) fields ≡ true → Some v ≡ cell c
    here t = g zero c refl (subst (λ p. list_any (is_same (field.Column p)) fields ≡ true) (sym none) t)

    later : (k : ℕ) (d : Column) → slice_get cs k ≡ Some d → named d ≡ list_any (is_same (field.Column (i + 1 + k))) fields
    later k d e =
        let same : i + suc k ≡ i + 1 + k = omega arith in
        h (suc k) d e ∙ ap (λ p. list_any (is_same (field.Column p)) fields) same

    held : (k : ℕ) (d : Column) → slice_get cs k ≡ Some d → list_any (is_same (field.Column (i + 1 + k))) fields ≡ true → slice_get vs k ≡ cell d
    held k d e t =
        let same : i + suc k ≡ i + 1 + k = omega arith in
        g (suc k) d e (subst (λ p. list_any (is_same (field.Column p)) fields ≡ true) (sym same) t)

    by : (t n : Bool) → n ≡ t → (t ≡ true → Some v ≡ cell c) → map cell (filter named cs) ≡ map Some (pick (marks fields (i + 1) cs) vs)
        → map cell (if n then c ∷ filter named cs else filter named cs) ≡ map Some (if t then v ∷ pick (marks fields (i + 1) cs) vs else pick (marks fields (i + 1) cs) vs)
    by true true e is rest = ap (λ (o : Option _). o ∷ map cell (filter named cs)) (sym (is refl)) ∙ ap (λ os. Some v ∷ os) rest
    by true false e is rest = cc e
    by false true e is rest = cc e
    by false false e is rest = rest

-- where the first n are marked, what is picked begins with them
pick-key : {Y : Type 0} (fields : List Field) (n i : ℕ) (cs : List Column) (vs : List Y) → length vs ≡ length cs → ((k : ℕ) → k < n → k < length cs → list_any (is_same (field.Column (i + k))) fields ≡ true)
    → pick (marks fields i cs) vs ≡ take n vs ++ pick (marks fields (i + n) (drop n cs)) (drop n vs)
pick-key fields zero i cs vs l h = let none : i ≡ i + zero = omega arith in ap (λ p. pick (marks fields p cs) vs) none
pick-key fields (suc n) i [] [] l h = refl
pick-key fields (suc n) i [] (v ∷ vs) l h = absurd (omega arith)
pick-key fields (suc n) i (c ∷ cs) [] l h = absurd (omega arith)
pick-key fields (suc n) i (c ∷ cs) (v ∷ vs) l h =
    by (list_any (is_same (field.Column i)) fields) here (pick-key fields n (i + 1) cs vs (omega arith) (λ k m w.
    let same : i + suc k ≡ i + 1 + k = omega arith in subst (λ p. list_any (is_same (field.Column p)) fields ≡ true) same (h (suc k) (omega arith) (omega arith))))
  where
    here : list_any (is_same (field.Column i)) fields ≡ true
    here = let none : i + zero ≡ i = omega arith in subst (λ p. list_any (is_same (field.Column p)) fields ≡ true) none (h zero (omega arith) (omega arith))

    by : (t : Bool) → t ≡ true → pick (marks fields (i + 1) cs) vs ≡ take n vs ++ pick (marks fields (i + 1 + n) (drop n cs)) (drop n vs)
        → (if t then v ∷ pick (marks fields (i + 1) cs) vs else pick (marks fields (i + 1) cs) vs) ≡ v ∷ (take n vs ++ pick (marks fields (i + suc n) (drop n cs)) (drop n vs))
    by true e later =
        let same : i + 1 + n ≡ i + suc n = omega arith in
        ap (λ xs. v ∷ xs) later ∙ ap (λ p. v ∷ (take n vs ++ pick (marks fields p (drop n cs)) (drop n vs))) same
    by false e later = cc e

module _ (s : Layout) (names : List (List ℕ)) (fields : List Field) (valid : schema_fault s.columns s.keys ≡ None) (named : Named s names fields) (apart : Apart fields) (keys : missing_from fields 0 (take s.keys s.columns) ≡ None) where
  -- the cells of a row
  cell-says : (n : ℕ) (delete : Bool) (texts : List (List ℕ)) (cells : List Value) → length texts ≡ length fields → cells_of s fields n delete texts ≡ Ok cells
      → (k : ℕ) (c : Column) → slice_get s.columns k ≡ Some c → list_any (is_same (field.Column k)) fields ≡ true → is_read s delete k ≡ true → slice_get cells k ≡ cell_under names texts c
  cell-says n delete texts cells l e k c at told read =
      let within : k < length s.columns = slice_get_within s.columns k c at in
      let width = length-no_cells s in
      cell-text s n delete k c at read 1 (no_cells s) cells fields texts apart told l (omega arith) e
      ∙ ap (option_and_then (cell_in c)) (sym (under_name s c.name (field.Column k) (same_column s k c valid at) names fields texts named))

  -- a column is named where a field stands for it
  is-named : (k : ℕ) (c : Column) → slice_get s.columns k ≡ Some c → is_named names c ≡ list_any (is_same (field.Column k)) fields
  is-named k c at = named_given s c.name (field.Column k) (same_column s k c valid at) names fields named

  deletes-says : (texts : List (List ℕ)) (delete : Bool) → is_delete fields texts ≡ Some delete → deletes (text_under names texts op_name) ≡ Some delete
  deletes-says texts delete e = ap deletes (under_name s op_name field.Op (same_op s) names fields texts named) ∙ sym (deletes-text fields texts) ∙ e

  cells-say : (n : ℕ) (delete : Bool) (texts : List (List ℕ)) (cells : List Value) → length texts ≡ length fields → is_delete fields texts ≡ Some delete → cells_of s fields n delete texts ≡ Ok cells
      → SaysRow s names texts (line_of_cells s fields delete cells)
  cells-say n true texts cells l d e = (
    deletes-says texts true d,
    first_cells (cell_under names texts) s.keys s.columns cells (cells-width s fields n true texts cells e) (λ k c at lt.
        cell-says n true texts cells l e k c at (key-given s fields keys k c at lt) (ltb-true k s.keys lt)),
  )
  cells-say n false texts cells l d e = (
    deletes-says texts false d,
    picked-say (is_named names) (cell_under names texts) fields 0 s.columns cells width
        (λ k c at. let none : k ≡ 0 + k = omega arith in is-named k c at ∙ ap (λ p. list_any (is_same (field.Column p)) fields) none)
        (λ k c at told. let none : 0 + k ≡ k = omega arith in cell-says n false texts cells l e k c at (subst (λ p. list_any (is_same (field.Column p)) fields ≡ true) none told) refl)
        ∙ ap (map Some) (pick-key fields s.keys 0 s.columns cells width keys-are)
        ∙ ap (λ p. map Some (take s.keys cells ++ pick (marks fields p (drop s.keys s.columns)) (drop s.keys cells))) first,
  )
    where
      width : length cells ≡ length s.columns
      width = cells-width s fields n false texts cells e

      first : 0 + s.keys ≡ s.keys
      first = omega arith

      keys-are : (k : ℕ) → k < s.keys → k < length s.columns → list_any (is_same (field.Column (0 + k))) fields ≡ true
      keys-are k m w =
          let none : k ≡ 0 + k = omega arith in
          let there = at-place s.columns k w in
          subst (λ p. list_any (is_same (field.Column p)) fields ≡ true) none (key-given s fields keys k there.0 there.1 m)

  -- the load carries the columns outside the key that are named
  carried-say : map (slice_get s.columns) (given_in s fields) ≡ map Some (filter (is_named names) (drop s.keys s.columns))
  carried-say = by s.keys (drop s.keys s.columns) (λ k c at. sym (get-drop s.keys s.columns k) ∙ at)
    where
      by : (i : ℕ) (cs : List Column) → ((k : ℕ) (c : Column) → slice_get cs k ≡ Some c → slice_get s.columns (i + k) ≡ Some c)
          → map (slice_get s.columns) (pick (marks fields i cs) (places i cs)) ≡ map Some (filter (is_named names) cs)
      by i [] h = refl
      by i (c ∷ cs) h = go (list_any (is_same (field.Column i)) fields) (is_named names c) (is-named i c here) (by (i + 1) cs (λ k d e. let same : i + suc k ≡ i + 1 + k = omega arith in rw same at (h (suc k) d e)))
        where
          here : slice_get s.columns i ≡ Some c
          here = let none : i + zero ≡ i = omega arith in subst (λ p. slice_get s.columns p ≡ Some c) none (h zero c refl)

          go : (t n : Bool) → n ≡ t → map (slice_get s.columns) (pick (marks fields (i + 1) cs) (places (i + 1) cs)) ≡ map Some (filter (is_named names) cs)
              → map (slice_get s.columns) (if t then i ∷ pick (marks fields (i + 1) cs) (places (i + 1) cs) else pick (marks fields (i + 1) cs) (places (i + 1) cs))
              ≡ map Some (if n then c ∷ filter (is_named names) cs else filter (is_named names) cs)
          go true true e rest = ap (λ (o : Option Column). o ∷ map (slice_get s.columns) (pick (marks fields (i + 1) cs) (places (i + 1) cs))) here ∙ ap (λ os. Some c ∷ os) rest
          go true false e rest = cc e
          go false true e rest = cc e
          go false false e rest = rest

  line-says : (n : ℕ) (texts : List (List ℕ)) (op : Op) → line_of s fields n texts ≡ Ok op → SaysRow s names texts op
  line-says n texts op e = by_width (length texts == length fields) refl e
    where
      by_length : (delete t : Bool) (cells : List Value) → SaysRow s names texts (line_of_cells s fields delete cells) → (if t then Err (fault.KeyTooLong n (length (key_code s (take s.keys cells)))) else Ok (line_of_cells s fields delete cells)) ≡ Ok op
          → SaysRow s names texts op
      by_length delete true cells says e = cc e
      by_length delete false cells says e = let is : line_of_cells s fields delete cells ≡ op = cc e in subst (SaysRow s names texts) is says

      by_cells : (delete : Bool) (o : Result (List Value) LoadFault) → length texts ≡ length fields → is_delete fields texts ≡ Some delete → cells_of s fields n delete texts ≡ o
          → (o and_then line_with s fields n delete) ≡ Ok op → SaysRow s names texts op
      by_cells delete (Err bad) l d g e = cc e
      by_cells delete (Ok cells) l d g e = by_length delete (nat_lt 128 (length (key_code s (take s.keys cells)))) cells (cells-say n delete texts cells l d g) e

      by_delete : (o : Option Bool) → length texts ≡ length fields → is_delete fields texts ≡ o → line_told s fields n o texts ≡ Ok op → SaysRow s names texts op
      by_delete None l d e = cc e
      by_delete (Some delete) l d e = by_cells delete (cells_of s fields n delete texts) l d refl e

      by_width : (t : Bool) → (length texts == length fields) ≡ t → (if t then line_told s fields n (is_delete fields texts) texts else Err (fault.Width n)) ≡ Ok op → SaysRow s names texts op
      by_width true t e = by_delete (is_delete fields texts) (same_width (length texts) (length fields) t) refl e
      by_width false t e = cc e

  row-says : (n : ℕ) (row : List (List ℕ)) (op : Op) → row_of s fields n row ≡ Ok op → SaysRow s names row op
  row-says n row op e = by (nat_lt most_rows n) e
    where
      by : (t : Bool) → (if t then Err fault.ManyRows else line_of s fields n row) ≡ Ok op → SaysRow s names row op
      by true e = cc e
      by false e = line-says n row op e

  -- lines behind those before them
  record Said (before ops : List Op) (rows : List (List (List ℕ))) : Type 0 where
    pub more : List Op
    pub ops_are : ops ≡ before ++ more
    pub says : SaysRows s names rows more

  lines-say : (before ops : List Op) (rows : List (List (List ℕ))) → lines_after s fields before rows ≡ Ok ops → Said before ops rows
  lines-say before ops [] e =
      let same : before ≡ ops = cc e in
      record { more = []; ops_are = sym same ∙ sym (append-nil before); says = tt }
  lines-say before ops (row ∷ rows) e = by_row (row_of s fields (length before + 1) row) refl e (λ op. lines-say (before ++ op ∷ []) ops rows)
    where
      by_row : (o : Result Op LoadFault) → row_of s fields (length before + 1) row ≡ o → (o and_then (λ (op : Op). lines_after s fields (before ++ op ∷ []) rows)) ≡ Ok ops
          → ((op : Op) → lines_after s fields (before ++ op ∷ []) rows ≡ Ok ops → Said (before ++ op ∷ []) ops rows) → Said before ops (row ∷ rows)
      by_row (Err bad) o e later = cc e
      by_row (Ok op) o e later =
          let rest = later op e in
          record {
            more = op ∷ rest.more;
            ops_are = rest.ops_are ∙ append_assoc before (op ∷ []) rest.more;
            says = (row-says (length before + 1) row op o, rest.says);
          }

-- ---- a file

-- the load that a file stands for says what the file has under its names
pub file-says : (s : Layout) (partial : Bool) (bytes : List ℕ) (load : Load) → schema_fault s.columns s.keys ≡ None → load_of s partial bytes ≡ Ok load → SaysFile s bytes load
file-says s partial bytes load valid e = by_records (records_of bytes) refl e
  where
    by_lines : (names : List (List ℕ)) (rows : List (List (List ℕ))) (fields : List Field) → records_of bytes ≡ names ∷ rows → fields_after s [] names ≡ Ok fields → missing_from fields 0 (wanted s partial) ≡ None
        → (o : Result (List Op) LoadFault) → lines_after s fields [] rows ≡ o → (o and_then load_with s fields) ≡ Ok load → SaysFile s bytes load
    by_lines names rows fields r f m (Err bad) o e = cc e
    by_lines names rows fields r f m (Ok ops) o e =
        let walk = walked s [] fields names (unfold Apart in tt) f in
        let named : Named s names fields = subst (Named s names) (sym walk.fields_are) walk.named in
        let keys = names-key s partial fields m in
        let said = lines-say s names fields valid named walk.apart keys [] ops rows o in
        let is : record { given = given_in s fields; ops = ops } ≡ load = cc e in
        subst (SaysFile s bytes) is (record {
          names = names;
          rows = rows;
          records = r;
          carried = carried-say s names fields valid named walk.apart keys;
          lines = subst (SaysRows s names rows) (sym said.ops_are) said.says;
        })

    by_unfilled : (names : List (List ℕ)) (rows : List (List (List ℕ))) (fields : List Field) → records_of bytes ≡ names ∷ rows → fields_after s [] names ≡ Ok fields → missing_from fields 0 (wanted s partial) ≡ None
        → (o : Option ℕ) → (unless_unfilled fields o and_then load_of_rows s rows) ≡ Ok load → SaysFile s bytes load
    by_unfilled names rows fields r f m None e = by_lines names rows fields r f m (lines_after s fields [] rows) refl e
    by_unfilled names rows fields r f m (Some i) e = cc e

    by_missing : (names : List (List ℕ)) (rows : List (List (List ℕ))) (fields : List Field) → records_of bytes ≡ names ∷ rows → fields_after s [] names ≡ Ok fields
        → (o : Option ℕ) → missing_from fields 0 (wanted s partial) ≡ o → (unless_missing fields o and_then with_defaults s and_then load_of_rows s rows) ≡ Ok load → SaysFile s bytes load
    by_missing names rows fields r f None m e = by_unfilled names rows fields r f m (unfilled_from fields 0 s.columns) e
    by_missing names rows fields r f (Some i) m e = cc e

    by_fields : (names : List (List ℕ)) (rows : List (List (List ℕ))) → records_of bytes ≡ names ∷ rows → (o : Result (List Field) LoadFault) → fields_after s [] names ≡ o
        → (o and_then with_wanted s partial and_then with_defaults s and_then load_of_rows s rows) ≡ Ok load → SaysFile s bytes load
    by_fields names rows r (Err bad) f e = cc e
    by_fields names rows r (Ok fields) f e = by_missing names rows fields r f (missing_from fields 0 (wanted s partial)) refl e

    by_records : (rs : List (List (List ℕ))) → records_of bytes ≡ rs → load_of_records s partial rs ≡ Ok load → SaysFile s bytes load
    by_records [] r e = cc e
    by_records (names ∷ rows) r e = by_fields names rows r (fields_after s [] names) refl e

pub if-says : (s : Layout) (partial : Bool) (bytes : List ℕ) (r : Result Load LoadFault) → schema_fault s.columns s.keys ≡ None → IfOk r (λ load. load_of s partial bytes ≡ Ok load) → IfOk r (λ load. SaysFile s bytes load)
if-says s partial bytes (Ok load) valid e = file-says s partial bytes load valid e
if-says s partial bytes (Err bad) valid e = tt
