-- Cells one after the other in one text, and the pieces of it that are lent.
use Rattle.std.proofs.Common.{◌≡◌, ℕ, zero, suc, ◌+◌, ◌<◌, ◌≤◌, List, [], ◌∷◌, ◌++◌, length, get_or, take, drop, map, refl, sym, ap, ◌∙◌, arith, subst}
use Rattle.std.specs.Prelude.{All}
use Rattle.std.specs.List.{concat}
use Rattle.std.specs.Borrow.{Bor}
use Rattle.std.proofs.lemmas.List.{append_assoc, drop_at, drop_more, get_or-map, get_or_read, length-append, length-map, map_push, take_at, take_more}
use Rattle.pk_values.specs.declared.cells.Value.{Value}
use Rattle.pk_values.specs.declared.cells.Value.TheVariants.{Null}
use Rattle.pk_values.specs.declared.cells.Column.{Column}
use Rattle.column_page.specs.CellBytes.{cell_bytes}
use Rattle.column_page.specs.Page.{Cell, column_cells}
use Rattle.column_page.specs.Texts.{lent, AreTexts}
use Rattle.column_page.proofs.Joined.{concat_push}

abbrev text_in : Bor Cell → Cell
text_in t = t.now

pub length-lent : (ts : List (Bor Cell)) → length (lent ts) ≡ length ts
length-lent ts = length-map ts text_in

pub lent_at : (ts : List (Bor Cell)) (i : ℕ) (d : Bor Cell) (e : Cell) → i < length ts → get_or (lent ts) i e ≡ (get_or ts i d).now
lent_at ts i d e lt = get_or-map text_in ts i d e lt

pub lent_push : (ts : List (Bor Cell)) (t : Bor Cell) → lent (ts ++ t ∷ []) ≡ lent ts ++ t.now ∷ []
lent_push ts t = map_push text_in ts t

pub lent-drop : (k : ℕ) (ts : List (Bor Cell)) → lent (drop k ts) ≡ drop k (lent ts)
lent-drop zero ts = refl
lent-drop (suc k) [] = refl
lent-drop (suc k) (t ∷ ts) = lent-drop k ts

-- one text more
pub lent_more : (ts : List (Bor Cell)) (i : ℕ) (d : Bor Cell) → i < length ts → take (i + 1) (lent ts) ≡ take i (lent ts) ++ (get_or ts i d).now ∷ []
lent_more ts i d lt =
    take_more (lent ts) i [] (let n = length-lent ts in omega arith)
    ∙ ap (λ (c : Cell). take i (lent ts) ++ c ∷ []) (lent_at ts i d [] lt)

concat_more : (ts : List (Bor Cell)) (i : ℕ) (d : Bor Cell) → i < length ts → concat (take (i + 1) (lent ts)) ≡ concat (take i (lent ts)) ++ (get_or ts i d).now
concat_more ts i d lt = ap concat (lent_more ts i d lt) ∙ concat_push (take i (lent ts)) (get_or ts i d).now

-- one text more behind others
pub put_text : (head out new : List ℕ) (ts : List (Bor Cell)) (i : ℕ) (d : Bor Cell) → i < length ts → out ≡ head ++ concat (take i (lent ts)) → new ≡ out ++ (get_or ts i d).now → new ≡ head ++ concat (take (i + 1) (lent ts))
put_text head out new ts i d lt so_far put =
    put ∙ ap (λ (t : List ℕ). t ++ (get_or ts i d).now) so_far ∙ append_assoc head (concat (take i (lent ts))) (get_or ts i d).now
    ∙ ap (λ (t : List ℕ). head ++ t) (sym (concat_more ts i d lt))

-- ---- the next piece

piece_at : (rest : List ℕ) (cells : List Cell) (i : ℕ) → i < length cells → rest ≡ concat (drop i cells) → rest ≡ get_or cells i [] ++ concat (drop (i + 1) cells)
piece_at rest cells i lt e = e ∙ ap concat (drop_more cells i [] lt)

pub len_at : (lens : List ℕ) (cells : List Cell) (i : ℕ) → lens ≡ map length cells → i < length lens → get_or lens i 0 ≡ length (get_or cells i [])
len_at lens cells i e lt =
    let long : length lens ≡ length cells = ap length e ∙ length-map cells length in
    ap (λ (l : List ℕ). get_or l i 0) e ∙ get_or-map length cells i [] 0 (omega arith)

pub piece_within : (bytes rest lens : List ℕ) (cells : List Cell) (i : ℕ) → AreTexts bytes lens cells → i < length lens → rest ≡ concat (drop i cells) → get_or lens i 0 ≤ length rest
piece_within bytes rest lens cells i are lt e =
    let long : length lens ≡ length cells = ap length are.long ∙ length-map cells length in
    let whole = piece_at rest cells i (omega arith) e in
    omega (arith, len_at lens cells i are.long lt, ap length whole, length-append (get_or cells i []) (concat (drop (i + 1) cells)))

pub piece_next : (bytes rest piece next lens : List ℕ) (cells : List Cell) (i : ℕ) → AreTexts bytes lens cells → i < length lens → rest ≡ concat (drop i cells) → piece ≡ take (get_or lens i 0) rest → next ≡ drop (get_or lens i 0) rest
    → (piece ≡ get_or cells i []) × (next ≡ concat (drop (i + 1) cells))
piece_next bytes rest piece next lens cells i are lt e p q =
    let long : length lens ≡ length cells = ap length are.long ∙ length-map cells length in
    let n = get_or lens i 0 in
    let cell = get_or cells i [] in
    let behind = concat (drop (i + 1) cells) in
    let len : length cell ≡ n = sym (len_at lens cells i are.long lt) in
    let whole = piece_at rest cells i (omega arith) e in
    (p ∙ ap (take n) whole ∙ take_at cell behind n len, q ∙ ap (drop n) whole ∙ drop_at cell behind n len)

pub pieces_more : (pieces : List (Bor Cell)) (piece : Bor Cell) (cells : List Cell) (i : ℕ) → i < length cells → lent pieces ≡ take i cells → piece.now ≡ get_or cells i [] → lent (pieces ++ piece ∷ []) ≡ take (i + 1) cells
pieces_more pieces piece cells i lt so_far is =
    lent_push pieces piece ∙ ap (λ (t : List Cell). t ++ piece.now ∷ []) so_far ∙ ap (λ (c : Cell). take i cells ++ c ∷ []) is ∙ sym (take_more cells i [] lt)

-- ---- the texts of one cell more

pub texts_push : (b l b' l' : List ℕ) (cells : List Cell) (x : Cell) → AreTexts b l cells → b' ≡ b ++ x → l' ≡ l ++ length x ∷ [] → AreTexts b' l' (cells ++ x ∷ [])
texts_push b l b' l' cells x are eb el = record {
  joined = eb ∙ ap (λ (t : List ℕ). t ++ x) are.joined ∙ sym (concat_push cells x);
  long = el ∙ ap (λ (t : List ℕ). t ++ length x ∷ []) are.long ∙ sym (map_push length cells x);
}

pub texts_more : (column : Column) (values : List Value) (i : ℕ) (d v : Value) (b l b' l' : List ℕ) → i < length values → v ≡ get_or values i d → AreTexts b l (map (cell_bytes column) (take i values)) → b' ≡ b ++ cell_bytes column v → l' ≡ l ++ length (cell_bytes column v) ∷ []
    → AreTexts b' l' (map (cell_bytes column) (take (i + 1) values))
texts_more column values i d v b l b' l' lt is are eb el =
    let next : map (cell_bytes column) (take (i + 1) values) ≡ map (cell_bytes column) (take i values) ++ cell_bytes column v ∷ [] =
    ap (map (cell_bytes column)) (take_more values i d lt) ∙ map_push (cell_bytes column) (take i values) (get_or values i d)
    ∙ ap (λ (x : Value). map (cell_bytes column) (take i values) ++ cell_bytes column x ∷ []) (sym is) in
    subst (AreTexts b' l') (sym next) (texts_push b l b' l' (map (cell_bytes column) (take i values)) (cell_bytes column v) are eb el)

-- the cell of a row at hand
pub cell_here : (place i : ℕ) (rows : List (List Value)) (d row : List Value) (cell : Value) → i < length rows → row ≡ get_or rows i d → All (λ r. place < length r) rows → cell ≡ get_or row place cell → cell ≡ get_or (column_cells place rows) i Null
cell_here place i rows d row cell lt is there read =
    let within : place < length row = subst (λ (r : List Value). place < length r) (sym is) (there i d lt) in
    get_or_read row place cell within read Null ∙ ap (λ (r : List Value). get_or r place Null) is ∙ sym (get_or-map (λ (r : List Value). get_or r place Null) rows i d Null lt)

pub length-column_cells : (place : ℕ) (rows : List (List Value)) → length (column_cells place rows) ≡ length rows
length-column_cells place rows = length-map rows (λ (r : List Value). get_or r place Null)
