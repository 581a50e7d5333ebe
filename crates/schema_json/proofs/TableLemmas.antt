-- What the steps of reading a table give, in the words of `Tables`.
use Rattle.std.proofs.Common.{◌≡◌, ℕ, suc, ◌+◌, ◌<◌, List, [], ◌∷◌, ◌++◌, length, drop, get_or, Some, None, Result, Ok, Err, refl, sym, ap, ◌∙◌, append_assoc, append-nil, inl, inr, add-one}
use Rattle.std.specs.Prelude.{IsUtf8, String, codes, nat_eq}
use Rattle.std.specs.declared.alloc.Global.{Global}
use Rattle.std.specs.Str.{is_utf8}
use Rattle.std.proofs.Math.Seq.{drop-cons}
use Rattle.std.proofs.lemmas.Str.{IsUtf8-from_is_utf8, is_utf8-from_IsUtf8}
use Rattle.std.proofs.lemmas.Bool.{cases_Bool}
use Rattle.serde_json.specs.Data.{Data}
use Rattle.serde_json.specs.Find.{as_object, get}
use Rattle.serde_json.specs.Read.{read}
use Rattle.serde_json.specs.View.{items_view, members_view, view}
use Rattle.serde_json.specs.declared.value.Value.{Value}
use Rattle.pk_values.specs.declared.cells.Column.{Column}
use Rattle.schema_json.specs.declared.columns.ColumnShape.{ColumnShape}
use Rattle.schema_json.specs.declared.tables.TableFault.{TableFault}
use Rattle.schema_json.specs.Tables.{json_value, member_count, column_of, columns_of, column_before, has_column_members, has_members, one_if_there}

pub value_read : (bs : List ℕ) (d : Data) → IsUtf8 bs → read bs ≡ Some d → json_value bs ≡ Some d
value_read bs d text is = rw (is_utf8-from_IsUtf8 bs text) is

pub no_value : (bs : List ℕ) → (IsUtf8 bs → read bs ≡ None) → json_value bs ≡ None
no_value bs h = elim (cases_Bool (is_utf8 bs)) [ inl t ↦ rw t (h (IsUtf8-from_is_utf8 bs t)) | inr f ↦ rw f refl ]

pub members_counted : (ms : List (String Global × Value)) → member_count (members_view ms) ≡ length ms
members_counted [] = refl
members_counted (m ∷ ms) = ap suc (members_counted ms)

-- an object has so many members as its table of members
pub counted_members : (d : Data) (ms : List (String Global × Value)) (n k : ℕ) → Some (members_view ms) ≡ as_object d → n ≡ length ms → nat_eq n k ≡ has_members k d
counted_members d ms n k o e = rw (← o, members_counted ms, e) refl

pub counted_column : (d : Data) (ms : List (String Global × Value)) (n a b : ℕ) → Some (members_view ms) ≡ as_object d → n ≡ length ms → a ≡ one_if_there (get (codes "nullable") d) → b ≡ one_if_there (get (codes "default") d) → nat_eq n (2 + a + b) ≡ has_column_members d
counted_column d ms n a b o e nullable default = rw (nullable, default) (counted_members d ms n (2 + one_if_there (get (codes "nullable") d) + one_if_there (get (codes "default") d)) o e)

-- these columns before the later ones, whose fault is the fault of all
abbrev pub behind : List Column → Result (List Column) TableFault → Result (List Column) TableFault
behind cs (Ok ds) = Ok (cs ++ ds)
behind cs (Err fault) = Err fault

pub behind-nil : (cs : List Column) → behind cs (Ok []) ≡ Ok cs
behind-nil cs = ap Ok (append-nil cs)

behind-column_before : (i : ℕ) (cs : List Column) (c : Column) (later : Result (List Column) TableFault) → behind cs (column_before i (Ok c) later) ≡ behind (cs ++ c ∷ []) later
behind-column_before i cs c (Ok ds) = ap Ok (sym (append_assoc cs (c ∷ []) ds))
behind-column_before i cs c (Err fault) = refl

at_item : (n i : ℕ) (vs : List Value) (x : Value) → i < length vs → x ≡ get_or vs i x → columns_of n (items_view (drop i vs)) ≡ column_before n (column_of (view x)) (columns_of (n + 1) (items_view (drop (suc i) vs)))
at_item n i vs x within is =
    let first : drop i vs ≡ x ∷ drop (suc i) vs = drop-cons vs i x within ∙ ap (λ (y : Value). y ∷ drop (suc i) vs) (sym is) in
    ap (λ (ws : List Value). columns_of n (items_view ws)) first

-- one more column has been read
pub one_more : (n i : ℕ) (vs : List Value) (x : Value) (cs : List Column) (c : Column) (whole : Result (List Column) TableFault) → i < length vs → x ≡ get_or vs i x → column_of (view x) ≡ Ok c
    → whole ≡ behind cs (columns_of n (items_view (drop i vs))) → whole ≡ behind (cs ++ c ∷ []) (columns_of (n + 1) (items_view (drop (i + 1) vs)))
one_more n i vs x cs c whole within is column h =
    rw (add-one i) (h ∙ ap (behind cs) (at_item n i vs x within is ∙ ap (λ (o : Result Column ColumnShape). column_before n o (columns_of (n + 1) (items_view (drop (suc i) vs)))) column)
    ∙ behind-column_before n cs c (columns_of (n + 1) (items_view (drop (suc i) vs))))
