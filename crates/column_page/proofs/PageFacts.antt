-- The forms of a page, read as what they are made of.
use Rattle.std.proofs.Common.{◌≡◌, ℕ, ◌+◌, ◌<◌, ◌≤◌, ◌^◌, List, [], ◌∷◌, ◌++◌, length, drop, take, map, refl, sym, ap, ◌∙◌, arith, subst, IsTrue}
use Rattle.std.specs.Prelude.{All}
use Rattle.std.specs.List.{concat, flat_map}
use Rattle.std.proofs.lemmas.List.{append_assoc, drop-drop, drop_more, length-map, take_all, take_more}
use Rattle.std.proofs.Common.{get_or}
use Rattle.column_page.proofs.WordFacts.{at_place, each_among, place-lt, words_all, words_few}
use Rattle.pk_values.specs.declared.cells.Value.{Value}
use Rattle.pk_values.specs.declared.cells.Column.{Column}
use Rattle.column_page.specs.CellBytes.{cell_bytes, u16_bytes}
use Rattle.column_page.specs.Page.{Cell, dictionary, distinct_after, is_among, page, place, places, plain, run_bytes, run_length, runs}
use Rattle.column_page.specs.Reading.{AreCells, CellsThen, HavePlaced, IsCellOf, PlacesOf, RunsOf}
use Rattle.column_page.proofs.ReadFacts.{cells_of, u16_step}
use Rattle.column_page.proofs.RunFacts.{expanded-runs, runs_all, runs_few}

-- ---- the form of a page, by its first byte

pub is_plain : (cells : List Cell) (body : List ℕ) → page cells ≡ 0 ∷ body → plain cells ≡ 0 ∷ body
is_plain cells body e = grind arith

pub is_runs : (cells : List Cell) (body : List ℕ) → page cells ≡ 1 ∷ body → run_length cells ≡ 1 ∷ body
is_runs cells body e = grind arith

pub is_dictionary : (cells : List Cell) (body : List ℕ) → page cells ≡ 2 ∷ body → dictionary cells ≡ 2 ∷ body
is_dictionary cells body e = grind arith

pub runs_read : (column : Column) (total count : ℕ) (bytes : List ℕ) (cells : List Value) → AreCells column count cells → run_length (map (cell_bytes column) cells) ≡ 1 ∷ bytes → total < 2 ^ 16 → take 2 bytes ≡ u16_bytes total → RunsOf column total count (drop 2 bytes) (runs (map (cell_bytes column) cells))
runs_read column total count bytes cells are e fits front =
    let C = map (cell_bytes column) cells in
    let few : length (runs C) ≤ length C = runs_few C in
    let number : length C ≡ count = length-map cells (cell_bytes column) ∙ are.number in
    let most : count ≤ 1024 = are.few in
    let step = u16_step total (length (runs C)) bytes (flat_map run_bytes (runs C)) fits (omega arith) front (ap (drop 1) e) in
    record {
      fit = runs_all (IsCellOf column) C (cells_of column cells are.fit);
      number = sym step.0;
      cells = ap length (expanded-runs C) ∙ number;
      few = most;
      joined = sym step.1;
    }

-- the number of words, the words, and the places behind them
pub record WordsRead (column : Column) (number count : ℕ) (bytes : List ℕ) (cells : List Cell) : Type 0 where
  pub words : CellsThen column number (drop 2 bytes) (distinct_after [] cells) (places (distinct_after [] cells) cells)
  pub placed : PlacesOf (distinct_after [] cells) count (places (distinct_after [] cells) cells) cells

pub words_read : (column : Column) (number count : ℕ) (bytes : List ℕ) (cells : List Value) → AreCells column count cells → dictionary (map (cell_bytes column) cells) ≡ 2 ∷ bytes → number < 2 ^ 16 → take 2 bytes ≡ u16_bytes number → WordsRead column number count bytes (map (cell_bytes column) cells)
words_read column number count bytes cells are e fits front =
    let C = map (cell_bytes column) cells in
    let W = distinct_after [] C in
    let few : length W ≤ length C = words_few C in
    let long : length C ≡ count = length-map cells (cell_bytes column) ∙ are.number in
    let most : count ≤ 1024 = are.few in
    let step = u16_step number (length W) bytes (concat W ++ places W C) fits (omega arith) front (sym (append_assoc (u16_bytes (length W)) (concat W) (places W C)) ∙ ap (drop 1) e) in
    record {
      words = record { fit = words_all (IsCellOf column) C (cells_of column cells are.fit); number = sym step.0; joined = sym step.1 };
      placed = record { among = λ k d lt. each_among [] C k d lt; number = long; written = refl };
    }

-- ---- places one after the other

place_at : (words cells : List Cell) (k : ℕ) (piece : List ℕ) → k < length cells → piece ≡ places words (drop k cells) → u16_bytes (place (get_or cells k []) words) ++ places words (drop (k + 1) cells) ≡ piece
place_at words cells k piece lt e = ap (places words) (sym (drop_more cells k [] lt)) ∙ sym e

-- what is known of the next place
pub record NextPlace (words : List Cell) (piece : List ℕ) (cell : Cell) (tail : List ℕ) : Type 0 where
  pub there : place cell words < length words
  pub is : get_or words (place cell words) [] ≡ cell
  pub stands : u16_bytes (place cell words) ++ tail ≡ piece

pub next_place : (words found : List Cell) (k at count : ℕ) (bytes piece : List ℕ) (cells : List Cell) → PlacesOf words count bytes cells → k < count → HavePlaced words found k at bytes cells → piece ≡ drop at bytes → NextPlace words piece (get_or cells k []) (places words (drop (k + 1) cells))
next_place words found k at count bytes piece cells are lt have e =
    let number : length cells ≡ count = are.number in
    let lt' : k < length cells = omega arith in
    let among = are.among k [] lt' in
    record { there = place-lt (get_or cells k []) words among; is = at_place (get_or cells k []) [] words among; stands = place_at words cells k piece lt' (e ∙ have.back) }

pub place_more : (words found : List Cell) (w : Cell) (k at count : ℕ) (bytes piece : List ℕ) (cells : List Cell) → PlacesOf words count bytes cells → k < count → HavePlaced words found k at bytes cells → piece ≡ drop at bytes → w ≡ get_or cells k [] → drop 2 piece ≡ places words (drop (k + 1) cells) → HavePlaced words (found ++ w ∷ []) (k + 1) (at + 2) bytes cells
place_more words found w k at count bytes piece cells are lt have e same after =
    let number : length cells ≡ count = are.number in
    let lt' : k < length cells = omega arith in
    record {
      front = ap (λ (t : List Cell). t ++ w ∷ []) have.front ∙ ap (λ (c : Cell). take k cells ++ c ∷ []) same ∙ sym (take_more cells k [] lt');
      back = sym (drop-drop 2 at bytes) ∙ ap (drop 2) (sym e) ∙ after;
    }

pub all_placed : (words found : List Cell) (k at count : ℕ) (bytes : List ℕ) (cells : List Cell) → PlacesOf words count bytes cells → count ≤ k → HavePlaced words found k at bytes cells → found ≡ cells
all_placed words found k at count bytes cells are le have =
    let number : length cells ≡ count = are.number in
    let le' : length cells ≤ k = omega arith in
    have.front ∙ take_all k cells le'

-- the same of words and bytes under other names
pub placed_here : (code : Value → List ℕ) (words slice : List Value) (count : ℕ) (W C : List Cell) (piece : List ℕ) → slice ≡ words → map code words ≡ W → piece ≡ places W C → PlacesOf W count (places W C) C → PlacesOf (map code slice) count piece C
placed_here code words slice count W C piece h m pe p =
    let e : map code slice ≡ W = ap (map code) h ∙ m in
    record {
      among = subst (λ (ws : List Cell). All (λ c. IsTrue (is_among c ws)) C) (sym e) p.among;
      number = p.number;
      written = ap (λ (ws : List Cell). places ws C) e ∙ sym pe;
    }
