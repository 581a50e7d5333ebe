-- The entries of a prepared load tell its moves, whatever numbers its files get.
use Rattle.std.proofs.Common.{◌≡◌, refl, ap, sym, subst, ◌∙◌, ℕ, zero, suc, ◌+◌, ◌/◌, ◌<◌, ◌≤◌, List, [], ◌∷◌, ◌++◌, map, length, drop, Some, Bool as Truth, true, false, cond, arith}
use Rattle.std.specs.List.{AllByRecursion}
use Rattle.std.specs.FinMap.{empty, values}
use Rattle.std.specs.Ordering.{eq_by_cmp}
use Rattle.std.proofs.lemmas.List.{map-append}
use Rattle.key_code.specs.KeyCode.{key_code}
use Rattle.pk_values.specs.Order.{key_cmp}
use Rattle.pk_values.specs.Schemas.{Layout, key_of}
use Rattle.pk_values.specs.declared.cells.Value.{Value}
use Rattle.pk_model.specs.Tables.{after}
use Rattle.rowsets.specs.Ending.{Moved}
use Rattle.rowsets.specs.Merging.{moved_in}
use Rattle.rowsets.specs.Indexing.{code_moves, merged_place}
use Rattle.core_publish.specs.Prepared.{files_from, files_of, fresh, moves_to, place_in}
use Rattle.core_publish.specs.Publication.{AllAreWritten, EntriesAreInFour, EntriesAreMoves, IsInFour, PreparedIsReady, entry_from, placed_from, written_files}
use Rattle.core_publish.proofs.PlaceFacts.{agree-fresh, all-in-files, enough, moved-fresh, moved_over}
use Rattle.core_publish.proofs.PublicationFacts.{ready-for}

pub all-are-written : AllAreWritten
all-are-written s load = let rows = values (after s load empty) in all-in-files ((length rows + 65535) / 65536) rows (enough (length rows))

pub prepared-is-ready : PreparedIsReady
prepared-is-ready s load files entries p first m index are =
    ready-for s load first (written_files s load) p.moves.keys p.lawful p.whole (all-are-written s load) p.moves.touched m index are

-- ---- other numbers

abbrev moved_on : ℕ → Moved → Moved
moved_on first e = record { key = e.key; place = record { segment = e.place.segment + first; row = e.place.row } }

in-file-on : (s : Layout) (first n i : ℕ) (rows : List (List Value)) → map (moved_on first) (moved_in s n i rows) ≡ moved_in s (n + first) i rows
in-file-on s first n i [] = refl
in-file-on s first n i (row ∷ rows) = ap (λ es. record { key = key_of s row; place = record { segment = n + first; row = i } } ∷ es) (in-file-on s first n (i + 1) rows)

over-on : (s : Layout) (first n : ℕ) (files : List (List (List Value))) → map (moved_on first) (moved_over s n files) ≡ moved_over s (n + first) files
over-on s first n [] = refl
over-on s first n (file ∷ files) =
    let e : n + 1 + first ≡ n + first + 1 = omega arith in
    map-append (moved_on first) (moved_in s n 0 file) (moved_over s (n + 1) files)
    ∙ (λ i. in-file-on s first n 0 file i ++ (over-on s first (n + 1) files ∙ ap (λ k. moved_over s k files) e) i)

place-on : (first : ℕ) (es : List Moved) (k : List Value) → merged_place (map (moved_on first) es) k ≡ placed_from first (merged_place es k)
place-on first [] k = refl
place-on first (e ∷ es) k = by (place-on first es k) (eq_by_cmp key_cmp k e.key)
  where
    by : merged_place (map (moved_on first) es) k ≡ placed_from first (merged_place es k) → (b : Truth)
        → cond b (Some (record { segment = e.place.segment + first; row = e.place.row })) (merged_place (map (moved_on first) es) k) ≡ placed_from first (cond b (Some e.place) (merged_place es k))
    by rest true = refl
    by rest false = rest

pub place-in : (s : Layout) (first : ℕ) (files : List (List (List Value))) (k : List Value) → place_in s first files k ≡ placed_from first (place_in s 0 files k)
place-in s first files k =
    let here : (n : ℕ) → place_in s n files k ≡ merged_place (moved_over s n files) k = λ n.
    ap (λ es. merged_place es k) (moved-fresh s (fresh n files) n files (agree-fresh n files (λ m. []))) in
    let none : 0 + first ≡ first = omega arith in
    here first ∙ ap (λ n. merged_place (moved_over s n files) k) (sym none) ∙ ap (λ es. merged_place es k) (sym (over-on s first 0 files))
    ∙ place-on first (moved_over s 0 files) k ∙ ap (placed_from first) (sym (here 0))

pub entries-on : (s : Layout) (first : ℕ) (files : List (List (List Value))) (keys : List (List Value))
    → map (entry_from first) (code_moves (key_code s) (moves_to s 0 files keys)) ≡ code_moves (key_code s) (moves_to s first files keys)
entries-on s first files [] = refl
entries-on s first files (k ∷ keys) = (λ i. (key_code s k, sym (place-in s first files k) i) ∷ entries-on s first files keys i)

pub entries-are-moves : EntriesAreMoves
entries-are-moves s load files entries p first = ap (map (entry_from first)) p.moves.are ∙ entries-on s first (written_files s load) p.moves.keys

-- ---- four files

abbrev pub AreBelow : ℕ → List Moved → Type 0
AreBelow n es = AllByRecursion (λ e. e.place.segment < n) es

both-below : (n : ℕ) (xs ys : List Moved) → AreBelow n xs → AreBelow n ys → AreBelow n (xs ++ ys)
both-below n [] ys h g = g
both-below n (x ∷ xs) ys h g = (h.0, both-below n xs ys h.1 g)

in-file-below : (s : Layout) (m n i : ℕ) (rows : List (List Value)) → n < m → AreBelow m (moved_in s n i rows)
in-file-below s m n i [] lt = tt
in-file-below s m n i (row ∷ rows) lt = (lt, in-file-below s m n (i + 1) rows lt)

pub over-below : (s : Layout) (m n : ℕ) (files : List (List (List Value))) → n + length files ≤ m → AreBelow m (moved_over s n files)
over-below s m n [] h = tt
over-below s m n (file ∷ files) h = both-below m (moved_in s n 0 file) (moved_over s (n + 1) files) (in-file-below s m n 0 file (omega arith)) (over-below s m (n + 1) files (omega arith))

place-below : (es : List Moved) (k : List Value) → AreBelow 4 es → IsInFour (merged_place es k)
place-below [] k h = tt
place-below (e ∷ es) k h = by (place-below es k h.1) (eq_by_cmp key_cmp k e.key)
  where
    by : IsInFour (merged_place es k) → (b : Truth) → IsInFour (cond b (Some e.place) (merged_place es k))
    by rest true = h.0
    by rest false = rest

pub length-files : (n : ℕ) (rows : List (List Value)) → length (files_from n rows) ≡ n
length-files zero rows = refl
length-files (suc n) rows = ap suc (length-files n (drop 65536 rows))

moves-below : (s : Layout) (files : List (List (List Value))) (keys : List (List Value)) → length files ≤ 4 → AllByRecursion (λ e. IsInFour e.1) (code_moves (key_code s) (moves_to s 0 files keys))
moves-below s files [] h = tt
moves-below s files (k ∷ keys) h = (
  subst (λ es. IsInFour (merged_place es k)) (sym (moved-fresh s (fresh 0 files) 0 files (agree-fresh 0 files (λ m. [])))) (place-below (moved_over s 0 files) k (over-below s 4 0 files (omega arith))),
  moves-below s files keys h,
)

pub entries-in-four : EntriesAreInFour
entries-in-four s load files entries p =
    let rows = values (after s load empty) in
    let few : length (files_of rows) ≤ 4 = omega (arith, length-files ((length rows + 65535) / 65536) rows, p.few) in
    subst (AllByRecursion (λ e. IsInFour e.1)) (sym p.moves.are) (moves-below s (files_of rows) p.moves.keys few)
