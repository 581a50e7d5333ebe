-- What was read is the only thing that can have been written.
use Rattle.std.proofs.Common.{◌≡◌, ℕ, zero, suc, ◌+◌, ◌<◌, ◌≤◌, ◌^◌, List, [], ◌∷◌, ◌++◌, length, get_or, take, drop, map, replicate, refl, sym, ap, ◌∙◌, arith, IsTrue}
use Rattle.std.specs.Prelude.{All}
use Rattle.std.specs.List.{concat, flat_map}
use Rattle.std.proofs.lemmas.List.{append-nil, append_assoc, append_cancel_left, drop-drop, drop_all, drop_more, length-append, length-map, length-replicate, map-append, map_push, take-append-drop, take_all, take_more}
use Rattle.std.proofs.lemmas.List.Concat.{flat_map-append}
use Rattle.std.proofs.lemmas.List.Elements.{All-head, All-map, All-tail}
use Rattle.pk_values.specs.Fits.{fits}
use Rattle.pk_values.specs.Schemas.{is_kind}
use Rattle.pk_values.specs.declared.cells.Value.{Value}
use Rattle.pk_values.specs.declared.cells.Column.{Column}
use Rattle.column_page.specs.CellBytes.{cell_bytes, u16_bytes, NoneFirst, StandsFirst}
use Rattle.column_page.specs.Page.{AllFit, Cell, run_bytes}
use Rattle.column_page.specs.Reading.{AreCells, CellsThen, HaveRead, HaveRunOut, IsCellOf, RunsOf, expanded}
use Rattle.column_page.proofs.OneCell.{cell_one, u16_one}
use Rattle.column_page.proofs.Lengths.{length-u16}

-- ---- one cell

pub read_step : (column : Column) → IsTrue (is_kind column.kind) → (piece w tail : List ℕ) (v : Value) (n : ℕ) → IsCellOf column w → w ++ tail ≡ piece → IsTrue (fits column v) → StandsFirst (cell_bytes column) v n piece → (cell_bytes column v ≡ w) × (drop n piece ≡ tail)
read_step column k piece w tail v n is e f first =
    let whole : cell_bytes column v ++ drop n piece ≡ piece = ap (λ (t : List ℕ). t ++ drop n piece) (sym first.front) ∙ take-append-drop n piece in
    let same : v ≡ is.value = cell_one column k v is.value f is.fit (drop n piece) tail (whole ∙ sym e ∙ ap (λ (t : List ℕ). t ++ tail) (sym is.code)) in
    let code : cell_bytes column v ≡ w = ap (cell_bytes column) same ∙ is.code in
    (code, append_cancel_left w (drop n piece) tail (ap (λ (t : List ℕ). t ++ drop n piece) (sym code) ∙ whole ∙ sym e))

pub read_fails : (column : Column) (piece w tail : List ℕ) → IsCellOf column w → w ++ tail ≡ piece → NoneFirst (λ v. IsTrue (fits column v)) (cell_bytes column) piece → ⊥
read_fails column piece w tail is e none = none is.value tail is.fit (ap (λ (t : List ℕ). t ++ tail) is.code ∙ e)

pub same_cells : (column : Column) → IsTrue (is_kind column.kind) → (xs ys : List Value) → AllFit column xs → AllFit column ys → map (cell_bytes column) xs ≡ map (cell_bytes column) ys → xs ≡ ys
same_cells column k [] [] f g e = refl
same_cells column k [] (y ∷ ys) f g e = cc
same_cells column k (x ∷ xs) [] f g e = cc
same_cells column k (x ∷ xs) (y ∷ ys) f g e =
    let P : Value → Type 0 = λ v. IsTrue (fits column v) in
    let heads : cell_bytes column x ≡ cell_bytes column y = cc in
    let tails : map (cell_bytes column) xs ≡ map (cell_bytes column) ys = cc in
    let head : x ≡ y = cell_one column k x y (All-head P x xs f) (All-head P y ys g) [] [] (ap (λ (t : List ℕ). t ++ []) heads) in
    let rest : xs ≡ ys = same_cells column k xs ys (All-tail P x xs f) (All-tail P y ys g) tails in
    cc

-- ---- cells one after the other

cell_at : (cells : List Cell) (k : ℕ) (rest piece : List ℕ) → k < length cells → piece ≡ concat (drop k cells) ++ rest → get_or cells k [] ++ (concat (drop (k + 1) cells) ++ rest) ≡ piece
cell_at cells k rest piece lt e =
    sym (append_assoc (get_or cells k []) (concat (drop (k + 1) cells)) rest)
    ∙ ap (λ (t : List Cell). concat t ++ rest) (sym (drop_more cells k [] lt)) ∙ sym e

pub one_more : (column : Column) → IsTrue (is_kind column.kind) → (values : List Value) (v : Value) (n k at count : ℕ) (bytes piece : List ℕ) (cells : List Cell) (rest : List ℕ) → CellsThen column count bytes cells rest → k < count → HaveRead column values k at bytes cells rest → piece ≡ drop at bytes → IsTrue (fits column v) → StandsFirst (cell_bytes column) v n piece → HaveRead column (values ++ v ∷ []) (k + 1) (at + n) bytes cells rest
one_more column kd values v n k at count bytes piece cells rest then lt have e f first =
    let number : length cells ≡ count = then.number in
    let lt' : k < length cells = omega arith in
    let step = read_step column kd piece (get_or cells k []) (concat (drop (k + 1) cells) ++ rest) v n (then.fit k [] lt') (cell_at cells k rest piece lt' (e ∙ have.back)) f first in
    record {
      front = map_push (cell_bytes column) values v ∙ ap (λ (t : List Cell). t ++ cell_bytes column v ∷ []) have.front ∙ ap (λ (c : Cell). take k cells ++ c ∷ []) step.0 ∙ sym (take_more cells k [] lt');
      back = sym (drop-drop n at bytes) ∙ ap (drop n) (sym e) ∙ step.1;
    }

pub none_more : (column : Column) (values : List Value) (k at count : ℕ) (bytes piece : List ℕ) (cells : List Cell) (rest : List ℕ) → CellsThen column count bytes cells rest → k < count → HaveRead column values k at bytes cells rest → piece ≡ drop at bytes → NoneFirst (λ v. IsTrue (fits column v)) (cell_bytes column) piece → ⊥
none_more column values k at count bytes piece cells rest then lt have e none =
    let number : length cells ≡ count = then.number in
    let lt' : k < length cells = omega arith in
    read_fails column piece (get_or cells k []) (concat (drop (k + 1) cells) ++ rest) (then.fit k [] lt') (cell_at cells k rest piece lt' (e ∙ have.back)) none

pub none_read : (column : Column) (count : ℕ) (bytes : List ℕ) (cells : List Cell) (rest : List ℕ) → CellsThen column count bytes cells rest → HaveRead column [] 0 0 bytes cells rest
none_read column count bytes cells rest then = record { front = refl; back = sym then.joined }

pub all_read : (column : Column) (values : List Value) (k at count : ℕ) (bytes : List ℕ) (cells : List Cell) (rest : List ℕ) → CellsThen column count bytes cells rest → count ≤ k → HaveRead column values k at bytes cells rest → (map (cell_bytes column) values ≡ cells) × (drop at bytes ≡ rest)
all_read column values k at count bytes cells rest then le have =
    let number : length cells ≡ count = then.number in
    let le' : length cells ≤ k = omega arith in
    (have.front ∙ take_all k cells le', have.back ∙ ap (λ (t : List Cell). concat t ++ rest) (drop_all k cells le'))

pub cells_of : (column : Column) (cells : List Value) → AllFit column cells → All (IsCellOf column) (map (cell_bytes column) cells)
cells_of column cells f = All-map (IsCellOf column) (cell_bytes column) cells (λ k d lt. record { value = get_or cells k d; fit = f k d lt; code = refl })

pub cells_then : (column : Column) (count : ℕ) (bytes : List ℕ) (cells : List Value) → AreCells column count cells → concat (map (cell_bytes column) cells) ≡ bytes → CellsThen column count bytes (map (cell_bytes column) cells) []
cells_then column count bytes cells are e = record {
  fit = cells_of column cells are.fit;
  number = length-map cells (cell_bytes column) ∙ are.number;
  joined = append-nil _ ∙ e;
}

-- ---- runs

pub u16_step : (n m : ℕ) (bytes tail : List ℕ) → n < 2 ^ 16 → m < 2 ^ 16 → take 2 bytes ≡ u16_bytes n → u16_bytes m ++ tail ≡ bytes → (n ≡ m) × (drop 2 bytes ≡ tail)
u16_step n m bytes tail f g front e =
    let whole : u16_bytes n ++ drop 2 bytes ≡ bytes = ap (λ (t : List ℕ). t ++ drop 2 bytes) (sym front) ∙ take-append-drop 2 bytes in
    let same : n ≡ m = u16_one n m f g (drop 2 bytes) tail (whole ∙ sym e) in
    (same, append_cancel_left (u16_bytes m) (drop 2 bytes) tail (ap (λ (k : ℕ). u16_bytes k ++ drop 2 bytes) (sym same) ∙ whole ∙ sym e))

pub u16_long : (m : ℕ) (bytes tail : List ℕ) → length bytes < 2 → u16_bytes m ++ tail ≡ bytes → ⊥
u16_long m bytes tail short e = let k = length-append (u16_bytes m) tail in let l = length-u16 m in let h : length (u16_bytes m ++ tail) ≡ length bytes = ap length e in omega arith

pub expanded-append : (rs ss : List (ℕ × Cell)) → expanded (rs ++ ss) ≡ expanded rs ++ expanded ss
expanded-append rs ss = flat_map-append (λ (r : ℕ × Cell). replicate r.0 r.1) rs ss

map-replicate : (f : Value → Cell) (n : ℕ) (v : Value) → map f (replicate n v) ≡ replicate n (f v)
map-replicate f zero v = refl
map-replicate f (suc n) v = ap (λ (t : List Cell). f v ∷ t) (map-replicate f n v)

abbrev no_run : ℕ × Cell
no_run = (0, [])

-- one run more among those that stand for so many cells
expanded_more : (rs : List (ℕ × Cell)) (k : ℕ) → k < length rs → expanded (take (k + 1) rs) ≡ expanded (take k rs) ++ replicate (get_or rs k no_run).0 (get_or rs k no_run).1
expanded_more rs k lt = ap expanded (take_more rs k no_run lt) ∙ expanded-append (take k rs) (get_or rs k no_run ∷ []) ∙ ap (λ (t : List Cell). expanded (take k rs) ++ t) (append-nil _)

expanded_front : (rs : List (ℕ × Cell)) (k : ℕ) → length (expanded (take k rs)) ≤ length (expanded rs)
expanded_front rs k =
    let whole : expanded (take k rs) ++ expanded (drop k rs) ≡ expanded rs = sym (expanded-append (take k rs) (drop k rs)) ∙ ap expanded (take-append-drop k rs) in
    let long : length (expanded (take k rs) ++ expanded (drop k rs)) ≡ length (expanded rs) = ap length whole in
    omega (arith, length-append (expanded (take k rs)) (expanded (drop k rs)))

-- the cells before a run and the run are no more than all cells
run_within : (rs : List (ℕ × Cell)) (k : ℕ) → k < length rs → length (expanded (take k rs)) + (get_or rs k no_run).0 ≤ length (expanded rs)
run_within rs k lt =
    let r = get_or rs k no_run in
    let more : length (expanded (take (k + 1) rs)) ≡ length (expanded (take k rs) ++ replicate r.0 r.1) = ap length (expanded_more rs k lt) in
    let front = expanded_front rs (k + 1) in
    omega (arith, length-append (expanded (take k rs)) (replicate r.0 r.1), length-replicate r.0 r.1)

run_at : (rs : List (ℕ × Cell)) (k : ℕ) (piece : List ℕ) → k < length rs → piece ≡ flat_map run_bytes (drop k rs) → run_bytes (get_or rs k no_run) ++ flat_map run_bytes (drop (k + 1) rs) ≡ piece
run_at rs k piece lt e = ap (flat_map run_bytes) (sym (drop_more rs k no_run lt)) ∙ sym e

-- what is known of the next run
pub record NextRun (column : Column) (k at count : ℕ) (values : List Value) (piece : List ℕ) (rs : List (ℕ × Cell)) (run : ℕ × Cell) (tail : List ℕ) : Type 0 where
  pub short : run.0 < 2 ^ 16
  pub cell : IsCellOf column run.1
  pub stands : run_bytes run ++ tail ≡ piece
  pub room : length values + run.0 ≤ count

pub next_run : (column : Column) (total count k at : ℕ) (values : List Value) (bytes piece : List ℕ) (rs : List (ℕ × Cell)) → RunsOf column total count bytes rs → k < total → HaveRunOut column values k at bytes rs → piece ≡ drop at bytes → NextRun column k at count values piece rs (get_or rs k (0, [])) (flat_map run_bytes (drop (k + 1) rs))
next_run column total count k at values bytes piece rs are lt have e =
    let number : length rs ≡ total = are.number in
    let lt' : k < length rs = omega arith in
    let cells : length (expanded rs) ≡ count = are.cells in
    let few : count ≤ 1024 = are.few in
    let within = run_within rs k lt' in
    let front : length values ≡ length (expanded (take k rs)) = sym (length-map values (cell_bytes column)) ∙ ap length have.front in
    record {
      short = omega arith;
      cell = are.fit k (0, []) lt';
      stands = run_at rs k piece lt' (e ∙ have.back);
      room = omega arith;
    }

pub run_more : (column : Column) (total count k at n len : ℕ) (values : List Value) (v : Value) (bytes piece : List ℕ) (rs : List (ℕ × Cell)) → RunsOf column total count bytes rs → k < total → HaveRunOut column values k at bytes rs → piece ≡ drop at bytes → (n ≡ (get_or rs k (0, [])).0) × (cell_bytes column v ≡ (get_or rs k (0, [])).1) × (drop len piece ≡ flat_map run_bytes (drop (k + 1) rs)) → HaveRunOut column (values ++ replicate n v) (k + 1) (at + len) bytes rs
run_more column total count k at n len values v bytes piece rs are lt have e step =
    let number : length rs ≡ total = are.number in
    let lt' : k < length rs = omega arith in
    record {
      front = map-append (cell_bytes column) values (replicate n v) ∙ ap (λ (t : List Cell). t ++ map (cell_bytes column) (replicate n v)) have.front
          ∙ ap (λ (t : List Cell). expanded (take k rs) ++ t) (map-replicate (cell_bytes column) n v ∙ ap (λ (m : ℕ). replicate m (cell_bytes column v)) step.0 ∙ ap (replicate (get_or rs k no_run).0) step.1)
          ∙ sym (expanded_more rs k lt');
      back = sym (drop-drop len at bytes) ∙ ap (drop len) (sym e) ∙ step.2;
    }

pub no_run_out : (column : Column) (total count : ℕ) (bytes : List ℕ) (rs : List (ℕ × Cell)) → RunsOf column total count bytes rs → HaveRunOut column [] 0 0 bytes rs
no_run_out column total count bytes rs are = record { front = refl; back = sym are.joined }

pub all_run_out : (column : Column) (total count k at : ℕ) (values : List Value) (bytes : List ℕ) (rs : List (ℕ × Cell)) → RunsOf column total count bytes rs → total ≤ k → HaveRunOut column values k at bytes rs → map (cell_bytes column) values ≡ expanded rs
all_run_out column total count k at values bytes rs are le have =
    let number : length rs ≡ total = are.number in
    let le' : length rs ≤ k = omega arith in
    have.front ∙ ap expanded (take_all k rs le')
