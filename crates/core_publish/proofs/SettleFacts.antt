-- What the sorted lines of a whole load leave is what the load leaves of no row.
use Rattle.std.proofs.Common.{◌≡◌, refl, ap, sym, subst, ◌∙◌, ℕ, zero, suc, ◌≤◌, List, [], ◌∷◌, length, get_or, Option, Some, None, Bool as Truth, true, false, ◌||◌, cond, arith}
use Rattle.std.specs.Prelude.{All, IsPermutation, IsTrue}
use Rattle.std.specs.List.{AllByRecursion, list_all, list_any}
use Rattle.std.specs.FinMap.{empty, get, get-empty, same_map, values}
use Rattle.std.specs.Ordering.{eq_by_cmp, is_lt}
use Rattle.std.proofs.lemmas.Bool.{and_from, and_parts}
use Rattle.std.proofs.lemmas.List.Sorted.{All-permutation, IsPermutation-sym, length_permutation}
use Rattle.pk_values.specs.Order.{key_cmp}
use Rattle.pk_values.specs.OrderFacts.{key_total, key_exact}
use Rattle.pk_values.specs.Schemas.{Layout, fits_key, fits_row, key_of, schema_fault}
use Rattle.pk_values.specs.declared.cells.Value.{Value}
use Rattle.segment_form.specs.Segments.{KeysRise}
use Rattle.pk_model.specs.Lawful.{IsLawful, fits_given, fits_line}
use Rattle.pk_model.specs.LawfulRows.{AreLawfulRows}
use Rattle.pk_model.specs.Laws.{result_for}
use Rattle.pk_model.specs.Merges.{names_next}
use Rattle.pk_model.specs.Tables.{after, after_lines, key_named, touches}
use Rattle.pk_model.specs.declared.calls.Load.{Load}
use Rattle.pk_model.specs.declared.calls.Op.{Op}
use Rattle.pk_model.specs.declared.calls.Op.TheVariants.{Upsert, Delete}
use Rattle.pk_model.proofs.LawfulRowLaws.{loads-keep, rows-fit}
use Rattle.pk_model.proofs.LoadLaws.{get-after}
use Rattle.rowsets.specs.Live.{is_among}
use Rattle.rowsets.specs.Loads.{IsWhole}
use Rattle.rowsets.specs.Indexing.{CodeMove}
use Rattle.core_publish.specs.Lines.{IsShortKey, IsSortedLoad}
use Rattle.core_publish.specs.Leaving.{HasResults}
use Rattle.column_page.specs.declared.footers.Footer.{Footer}
use Rattle.core_publish.specs.Prepared.{AreMovesOf, AreSealedOf, IsPrepared, files_of}
use Rattle.core_publish.specs.Results.{KeyResult, results, row_left, rows_left}
use Rattle.core_publish.proofs.PlaceFacts.{entries-are}
use Rattle.core_publish.proofs.ResultFacts.{AllAbove, AllRise, all-rise, keys-rise, keys-touched, keys_of, own-keys, rows-after}

-- ---- each line

line-key : (s : Layout) (given : List ℕ) (op : Op) → fits_line s given op ≡ true → fits_key s (key_named op) ≡ true
line-key s given (Delete key) h = h
line-key s given (Upsert key cells) h = (and_parts (fits_key s key) (fits_given s given cells) h).0

each : (p : Op → Truth) (ops : List Op) → list_all p ops ≡ true → All (λ op. p op ≡ true) ops
each p [] h i d lt = absurd (omega arith)
each p (op ∷ ops) h zero d lt = (and_parts (p op) (list_all p ops) h).0
each p (op ∷ ops) h (suc i) d lt = each p ops (and_parts (p op) (list_all p ops) h).1 i d (omega arith)

all-of : (p : Op → Truth) (ops : List Op) → All (λ op. p op ≡ true) ops → list_all p ops ≡ true
all-of p [] h = refl
all-of p (op ∷ ops) h = and_from (p op) (list_all p ops) (h 0 op (omega arith)) (all-of p ops (λ i d lt. h (suc i) d (omega arith)))

pub short-keys : (s : Layout) (load : Load) (ops : List Op) → ops ≡ load.ops → IsLawful s load → All (λ op. IsShortKey s (key_named op)) ops
short-keys s load ops e lawful =
    subst (All (λ op. IsShortKey s (key_named op))) (sym e)
    (λ i d lt. record { fits = line-key s load.given (get_or load.ops i d) (each (fits_line s load.given) load.ops lawful.lines i d lt); short = lawful.codes i d lt })

-- ---- the same keys

none-each : (f : Op → Truth) (ops : List Op) → list_any f ops ≡ false → All (λ op. f op ≡ false) ops
none-each f [] h i d lt = absurd (omega arith)
none-each f (op ∷ ops) h zero d lt = neither (f op) (list_any f ops) h
  where
    neither : (a b : Truth) → (a || b) ≡ false → a ≡ false
    neither true b e = cc
    neither false b e = refl
none-each f (op ∷ ops) h (suc i) d lt = none-each f ops (nor (f op) (list_any f ops) h) i d (omega arith)
  where
    nor : (a b : Truth) → (a || b) ≡ false → b ≡ false
    nor true b e = cc
    nor false b e = e

none-any : (f : Op → Truth) (ops : List Op) → All (λ op. f op ≡ false) ops → list_any f ops ≡ false
none-any f [] h = refl
none-any f (op ∷ ops) h = (λ i. h 0 op (omega arith) i || list_any f ops) ∙ none-any f ops (λ i d lt. h (suc i) d (omega arith))

any-moved : (f : Op → Truth) (xs ys : List Op) → IsPermutation xs ys → list_any f ys ≡ list_any f xs
any-moved f xs ys moved = by (list_any f xs) (list_any f ys) refl refl
  where
    by : (a b : Truth) → list_any f xs ≡ a → list_any f ys ≡ b → b ≡ a
    by true true e g = refl
    by false false e g = refl
    by false true e g = sym g ∙ none-any f ys (All-permutation (λ op. f op ≡ false) xs ys moved (none-each f xs e))
    by true false e g = sym (none-any f xs (All-permutation (λ op. f op ≡ false) ys xs (IsPermutation-sym xs ys moved) (none-each f ys g))) ∙ e

among-touches : (ops : List Op) (k : List Value) → is_among (touches ops) k ≡ list_any (λ op. eq_by_cmp key_cmp k (key_named op)) ops
among-touches [] k = refl
among-touches (op ∷ ops) k = ap (λ t. eq_by_cmp key_cmp k (key_named op) || t) (among-touches ops k)

-- ---- the rows rise

first-above : (s : Layout) (k : List Value) (row : List Value) (rs : List KeyResult) → key_of s row ≡ k → AllAbove k rs → AllByRecursion (λ r. (row : List Value) → r.1 ≡ Some row → key_of s row ≡ r.0) rs
    → KeysRise s (rows_left rs) → KeysRise s (row ∷ rows_left rs)
first-above s k row [] e h owns rise = tt
first-above s k row ((key, None) ∷ rs) e h owns rise = first-above s k row rs e h.1 owns.1 rise
first-above s k row ((key, Some next) ∷ rs) e h owns rise = ((λ i. is_lt (key_cmp (e i) (owns.0 next refl i))) ∙ ap is_lt h.0, rise)

rows-rise : (s : Layout) (rs : List KeyResult) → AllRise rs → AllByRecursion (λ r. (row : List Value) → r.1 ≡ Some row → key_of s row ≡ r.0) rs → KeysRise s (rows_left rs)
rows-rise s [] h owns = tt
rows-rise s ((key, None) ∷ rs) h owns = rows-rise s rs h.1 owns.1
rows-rise s ((key, Some row) ∷ rs) h owns = first-above s key row rs (owns.0 row refl) h.0 owns.1 (rows-rise s rs h.1 owns.1)

-- no more rows than lines
fewer : (ops : List Op) → length (rows_left (results ops)) ≤ length ops
fewer [] = omega arith
fewer (op ∷ ops) = by (fewer ops) (names_next (key_named op) ops)
  where
    one : (r : Option (List Value)) → length (rows_left ((key_named op, r) ∷ results ops)) ≤ suc (length (rows_left (results ops)))
    one None = omega arith
    one (Some row) = omega arith

    by : length (rows_left (results ops)) ≤ length ops → (t : Truth) → length (rows_left (cond t (results ops) ((key_named op, row_left op) ∷ results ops))) ≤ suc (length ops)
    by rest true = omega arith
    by rest false = omega (arith, one (row_left op))

module _ (s : Layout) (load : Load) (lawful : IsLawful s load) (whole : IsWhole s load) (ops : List Op) (e : ops ≡ load.ops) (lines : List Op) (sorted : IsSortedLoad s ops lines)
    (rows : List (List Value)) (entries : List CodeMove) (left : HasResults s lines rows entries) where
  fit : list_all (fits_line s load.given) lines ≡ true
  fit = all-of _ _ (All-permutation (λ op. fits_line s load.given op ≡ true) ops lines sorted.moved (subst (All (λ op. fits_line s load.given op ≡ true)) (sym e) (each _ load.ops lawful.lines)))

  settled-rows : rows ≡ values (after s load empty)
  settled-rows =
      left.rows_are ∙ rows-after s load.given lawful.given whole lines sorted.rises fit
      ∙ ap values (same_map key_total key_exact (after_lines s load.given lines empty) (after_lines s load.given load.ops empty) (λ k.
      let old = get {X = List Value} {R = key_cmp} empty k in
      get-after s load.given lines empty k ∙ sorted.same load.given k old ∙ ap (λ os. result_for s load.given os k old) e ∙ sym (get-after s load.given load.ops empty k)))

  rise : AllRise (results lines)
  rise = all-rise lines sorted.rises

  settled-moves : AreMovesOf s load rows entries
  settled-moves = record {
    keys = keys_of (results lines);
    rise = keys-rise (results lines) rise;
    touched = λ k.
        keys-touched lines sorted.rises k ∙ among-touches lines k ∙ any-moved _ ops lines sorted.moved ∙ ap (list_any _) e ∙ sym (among-touches load.ops k);
    are = left.entries_are ∙ entries-are s (results lines) rows left.rows_are rise (own-keys s load.given lawful.given whole lines fit);
  }

  settled-rise : KeysRise s rows
  settled-rise = subst (KeysRise s) (sym left.rows_are) (rows-rise s (results lines) rise (own-keys s load.given lawful.given whole lines fit))

  settled-few : length rows ≤ 262144
  settled-few =
      let moved : length lines ≡ length ops = length_permutation ops lines sorted.moved in
      omega (arith, lawful.count, ap length e, moved, ap length left.rows_are, fewer lines)

  settled-fit : schema_fault s.columns s.keys ≡ None → All (λ row. IsTrue (fits_row s row)) rows
  settled-fit valid = subst (All (λ row. IsTrue (fits_row s row))) (sym settled-rows) (rows-fit s (after s load empty) (loads-keep s load empty valid lawful none))
    where
      none : AreLawfulRows s empty
      none k row is = absurd (clash k row (sym (get-empty key_cmp k) ∙ is))
        where
          clash : (k row : List Value) → None ≡ Some row → ⊥
          clash k row e = cc

-- all that holds of what is left
pub record Settled (s : Layout) (load : Load) (rows : List (List Value)) (entries : List CodeMove) : Type 0 where
  pub rows_are : rows ≡ values (after s load empty)
  pub moves : AreMovesOf s load rows entries
  pub fit : All (λ row. IsTrue (fits_row s row)) rows
  pub rise : KeysRise s rows
  pub few : length rows ≤ 262144

pub settled : (s : Layout) (load : Load) → IsLawful s load → IsWhole s load → (ops : List Op) → ops ≡ load.ops → (lines : List Op) → IsSortedLoad s ops lines
    → (rows : List (List Value)) (entries : List CodeMove) → HasResults s lines rows entries → schema_fault s.columns s.keys ≡ None → Settled s load rows entries
settled s load lawful whole ops e lines sorted rows entries left valid = record {
  rows_are = settled-rows s load lawful whole ops e lines sorted rows entries left;
  moves = settled-moves s load lawful whole ops e lines sorted rows entries left;
  fit = settled-fit s load lawful whole ops e lines sorted rows entries left valid;
  rise = settled-rise s load lawful whole ops e lines sorted rows entries left;
  few = settled-few s load lawful whole ops e lines sorted rows entries left;
}

-- what was settled and written is the load, prepared
pub prepared : (s : Layout) (load : Load) → IsLawful s load → IsWhole s load → (read : List (List Value)) (files : List (Option (List ℕ) × Footer)) (rows : List (List Value)) (entries : List CodeMove)
    → read ≡ rows → rows ≡ values (after s load empty) → AreMovesOf s load rows entries → length rows ≤ 262144 → AreSealedOf s (files_of read) files → IsPrepared s load files entries
prepared s load lawful whole read files rows entries same are moves few sealed = record {
  lawful = lawful;
  whole = whole;
  few = subst (λ (rs : List (List Value)). length rs ≤ 262144) are few;
  sealed = subst (λ rs. AreSealedOf s (files_of rs) files) (same ∙ are) sealed;
  moves = subst (λ rs. AreMovesOf s load rs entries) are moves;
}
