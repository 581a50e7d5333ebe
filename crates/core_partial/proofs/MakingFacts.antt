-- The rows of a load's keys, made one after the other.
use Rattle.std.proofs.Common.{◌≡◌, refl, ap, sym, subst, ◌∙◌, ℕ, zero, suc, ◌+◌, ◌<◌, ◌≤◌, List, [], ◌∷◌, ◌++◌, map, length, take, drop, get_or, Option, Some, None, option_to_list, T, arith}
use Rattle.std.specs.Prelude.{All, IfSome, IsTrue}
use Rattle.std.specs.List.{AllByRecursion}
use Rattle.std.specs.FinMap.{get}
use Rattle.std.proofs.lemmas.List.{length-append, map-append}
use Rattle.key_code.specs.KeyCode.{key_code}
use Rattle.index_level0.specs.declared.place.Place.{Place}
use Rattle.pk_values.specs.Schemas.{Layout, fits_row, key_of, schema_fault}
use Rattle.pk_values.specs.declared.cells.Value.{Value}
use Rattle.pk_model.specs.Lawful.{IsLawful}
use Rattle.pk_model.specs.declared.calls.Load.{Load}
use Rattle.rowsets.specs.Indexing.{CodeMove, code_moves}
use Rattle.segment_form.specs.Segments.{KeysRise}
use Rattle.partial_loads.specs.declared.folds.Folded.{Folded}
use Rattle.partial_loads.specs.Folded.{HasCode, folded_keys, rise_strictly}
use Rattle.partial_loads.specs.Making.{HaveChanges}
use Rattle.partial_loads.specs.Olds.{AreOlds, made_of as rows_made}
use Rattle.partial_loads.proofs.OldFacts.{fit, rises}
use Rattle.core_publish.specs.Prepared.{files_of, moves_to}
use Rattle.core_publish.specs.Results.{placed, rows_left}
use Rattle.core_publish.proofs.PlaceFacts.{entries-are}
use Rattle.core_partial.specs.Again.{results_of, row_made}
use Rattle.core_partial.specs.Making.{AreMadeKeys, MakesKey, row_of, was_of}
use Rattle.core_partial.specs.Prepared.{folded_of, located_move, made_move}
use Rattle.core_partial.specs.Results.{place_for}
use Rattle.core_partial.specs.declared.keys.PreparedKey.{PreparedKey}
use Rattle.core_partial.specs.declared.making.MadeKeys.{MadeKeys}
use Rattle.core_partial.proofs.ChangeFacts.{coded-of}
use Rattle.core_partial.proofs.RemakeFacts.{all-coded, all-rise, keys-rise, left-made, made-more, own-all, placed-more, results-more, same-keys}

abbrev Row : Type 0
Row = List Value

-- the first of keys were made, with their old rows
pub record AreMadeSoFar (s : Layout) (given : List ℕ) (fs : List Folded) (was : List (Option Place)) (os : List (Option Row)) (made : MadeKeys) : Type 0 where
  pub folds : map folded_of made.keys.items ≡ fs
  pub places : map was_of made.keys.items ≡ was
  pub are : AreMadeKeys s given os made

pub none-made : (s : Layout) (given : List ℕ) (made : MadeKeys) → made.keys.items ≡ [] → made.results.rows.items ≡ [] → made.results.moves.items ≡ [] → AreMadeSoFar s given [] [] [] made
none-made s given made keys rows moves = record {
  folds = ap (map folded_of) keys;
  places = ap (map was_of) keys;
  are = record {
    rows = rows ∙ ap (λ (ks : List PreparedKey). rows_made s given (map folded_of ks) []) (sym keys);
    moves = moves ∙ ap (λ (ks : List PreparedKey). placed s 0 (results_of s given ks [])) (sym keys);
    places = ap (map made_move) keys ∙ sym moves;
  };
}

from-none : (n : ℕ) → n ≡ 0 + n
from-none n = omega arith

pub one-made : (s : Layout) (given : List ℕ) (fs : List Folded) (was : List (Option Place)) (os : List (Option Row)) (f : Folded) (place : Option Place) (old : Option Row) (before after : MadeKeys)
    → AreOlds s fs os → HasCode s f → AreMadeSoFar s given fs was os before → MakesKey s given f place old before after
    → AreMadeSoFar s given (fs ++ f ∷ []) (was ++ place ∷ []) (os ++ old ∷ []) after
one-made s given fs was os f place old before after olds code so_far makes = record {
  folds = ap (map folded_of) makes.keys ∙ map-append folded_of ks (k ∷ []) ∙ ap (λ gs. gs ++ f ∷ []) so_far.folds;
  places = ap (map was_of) makes.keys ∙ map-append was_of ks (k ∷ []) ∙ ap (λ ps. ps ++ place ∷ []) so_far.places;
  are = record {
    rows = makes.rows ∙ ap (λ rows. rows ++ option_to_list (row_of s given f old)) so_far.are.rows
        ∙ ap (λ gs. rows_made s given gs os ++ option_to_list (row_of s given f old)) so_far.folds
        ∙ sym (made-more s given fs os f old olds) ∙ ap (λ gs. rows_made s given gs (os ++ old ∷ [])) (sym all_folds);
    moves = makes.moves ∙ (λ i. so_far.are.moves i ++ (code.code i, place_for (as_many i) (row_of s given f old)) ∷ [])
        ∙ sym (placed-more s 0 (results_of s given ks os) f.key (row_of s given f old))
        ∙ ap (placed s 0) (sym (results-more s given ks os k old (subst (λ gs. AreOlds s gs os) (sym so_far.folds) olds)) ∙ ap (λ (xs : List PreparedKey). results_of s given xs (os ++ old ∷ [])) (sym makes.keys));
    places = ap (map made_move) makes.keys ∙ map-append made_move ks (k ∷ []) ∙ ap (λ ms. ms ++ made_move k ∷ []) so_far.are.places ∙ sym makes.moves;
  };
}
  where
    ks : List PreparedKey
    ks = before.keys.items

    k : PreparedKey
    k = record { code = f.code; key = f.key; change = f.change; was = place; made = place_for (length before.results.rows.items) (row_of s given f old) }

    all_folds : map folded_of after.keys.items ≡ fs ++ f ∷ []
    all_folds = ap (map folded_of) makes.keys ∙ map-append folded_of ks (k ∷ []) ∙ ap (λ gs. gs ++ f ∷ []) so_far.folds

    as_many : length before.results.rows.items ≡ 0 + length (rows_left (results_of s given ks os))
    as_many = ap length so_far.are.rows ∙ ap length (sym (left-made s given ks os)) ∙ from-none (length (rows_left (results_of s given ks os)))

-- ---- one after the other

one-after : (i : ℕ) → suc i + 1 ≡ suc (i + 1)
one-after i = omega arith

pub drop-next : {X : Type 0} (i : ℕ) (xs : List X) (x : X) (rest : List X) → drop i xs ≡ x ∷ rest → drop (i + 1) xs ≡ rest
drop-next zero [] x rest e = cc
drop-next zero (y ∷ ys) x rest e = cc
drop-next (suc i) [] x rest e = cc
drop-next (suc i) (y ∷ ys) x rest e = ap (λ k. drop k (y ∷ ys)) (one-after i) ∙ drop-next i ys x rest e

take-next : {X : Type 0} (i : ℕ) (xs : List X) (x : X) (rest : List X) → drop i xs ≡ x ∷ rest → take (i + 1) xs ≡ take i xs ++ x ∷ []
take-next zero [] x rest e = cc
take-next zero (y ∷ ys) x rest e = cc
take-next (suc i) [] x rest e = cc
take-next (suc i) (y ∷ ys) x rest e = ap (λ k. take k (y ∷ ys)) (one-after i) ∙ ap (λ zs. y ∷ zs) (take-next i ys x rest e)

take-all : {X : Type 0} (i : ℕ) (xs : List X) → length xs ≤ i → take i xs ≡ xs
take-all zero [] le = refl
take-all zero (x ∷ xs) le = absurd (omega arith)
take-all (suc i) [] le = refl
take-all (suc i) (x ∷ xs) le = ap (λ ys. x ∷ ys) (take-all i xs (omega arith))

olds-first : (s : Layout) (i : ℕ) (fs : List Folded) (os : List (Option Row)) → AreOlds s fs os → AreOlds s (take i fs) (take i os)
olds-first s zero fs os h = tt
olds-first s (suc i) [] [] h = tt
olds-first s (suc i) [] (o ∷ os) h = absurd h
olds-first s (suc i) (f ∷ fs) [] h = absurd h
olds-first s (suc i) (f ∷ fs) (o ∷ os) h = (h.0, olds-first s i fs os h.1)

code-at : (s : Layout) (i : ℕ) (fs : List Folded) (f : Folded) (rest : List Folded) → AllByRecursion (HasCode s) fs → drop i fs ≡ f ∷ rest → HasCode s f
code-at s zero [] f rest h e = cc
code-at s zero (g ∷ fs) f rest h e = subst (HasCode s) (head_same g f fs rest e) h.0
  where
    head_same : (a b : Folded) (xs ys : List Folded) → a ∷ xs ≡ b ∷ ys → a ≡ b
    head_same a b xs ys e = cc
code-at s (suc i) [] f rest h e = cc
code-at s (suc i) (g ∷ fs) f rest h e = code-at s i fs f rest h.1 e

pub olds-long : (s : Layout) (fs : List Folded) (os : List (Option Row)) → AreOlds s fs os → length os ≡ length fs
olds-long s [] [] h = refl
olds-long s [] (o ∷ os) h = absurd h
olds-long s (f ∷ fs) [] h = absurd h
olds-long s (f ∷ fs) (o ∷ os) h = ap suc (olds-long s fs os h.1)

-- some are left
pub none-left : {X : Type 0} (i : ℕ) (xs : List X) → drop i xs ≡ [] → i < length xs → ⊥
none-left i [] e lt = absurd (omega arith)
none-left zero (x ∷ xs) e lt = cc
none-left (suc i) (x ∷ xs) e lt = none-left i xs e (omega arith)

place-next : (i : ℕ) (es : List CodeMove) (d : CodeMove) → i < length es → map (λ (e : CodeMove). e.1) (take (i + 1) es) ≡ map (λ (e : CodeMove). e.1) (take i es) ++ (get_or es i d).1 ∷ []
place-next i [] d lt = absurd (omega arith)
place-next zero (e ∷ es) d lt = refl
place-next (suc i) (e ∷ es) d lt = ap (λ k. map (λ (x : CodeMove). x.1) (take k (e ∷ es))) (one-after i) ∙ ap (λ ps. e.1 ∷ ps) (place-next i es d (omega arith))

pub next-made : (s : Layout) (given : List ℕ) (fs : List Folded) (es : List CodeMove) (os : List (Option Row)) (i : ℕ) (f : Folded) (more : List Folded) (d : CodeMove) (old : Option Row) (others : List (Option Row))
    (before after : MadeKeys) → AreOlds s fs os → AllByRecursion (HasCode s) fs → i < length es → drop i fs ≡ f ∷ more → drop i os ≡ old ∷ others
    → AreMadeSoFar s given (take i fs) (map (λ (e : CodeMove). e.1) (take i es)) (take i os) before → d ≡ get_or es i d → MakesKey s given f d.1 old before after
    → AreMadeSoFar s given (take (i + 1) fs) (map (λ (e : CodeMove). e.1) (take (i + 1) es)) (take (i + 1) os) after
next-made s given fs es os i f more d old others before after olds coded lt there was so_far is makes =
    subst (λ gs. AreMadeSoFar s given gs (map (λ (e : CodeMove). e.1) (take (i + 1) es)) (take (i + 1) os) after) (sym (take-next i fs f more there))
    (subst (λ ps. AreMadeSoFar s given (take i fs ++ f ∷ []) ps (take (i + 1) os) after) (sym (place-next i es d lt))
    (subst (λ rs. AreMadeSoFar s given (take i fs ++ f ∷ []) (map (λ (e : CodeMove). e.1) (take i es) ++ (get_or es i d).1 ∷ []) rs after) (sym (take-next i os old others was))
    (one-made s given (take i fs) (map (λ (e : CodeMove). e.1) (take i es)) (take i os) f (get_or es i d).1 old before after (olds-first s i fs os olds) (code-at s i fs f more coded there) so_far
    (subst (λ (x : CodeMove). MakesKey s given f x.1 old before after) is makes))))

pub made-all : (s : Layout) (given : List ℕ) (fs : List Folded) (es : List CodeMove) (os : List (Option Row)) (i : ℕ) (made : MadeKeys) → AreOlds s fs os → length es ≡ length fs → length es ≤ i
    → AreMadeSoFar s given (take i fs) (map (λ (e : CodeMove). e.1) (take i es)) (take i os) made → AreMadeSoFar s given fs (map (λ (e : CodeMove). e.1) es) os made
made-all s given fs es os i made olds long le so_far =
    let many = olds-long s fs os olds in
    subst (λ gs. AreMadeSoFar s given gs (map (λ (e : CodeMove). e.1) es) os made) (take-all i fs (omega (arith, long, le)))
    (subst (λ xs. AreMadeSoFar s given (take i fs) (map (λ (e : CodeMove). e.1) xs) os made) (take-all i es le)
    (subst (λ rs. AreMadeSoFar s given (take i fs) (map (λ (e : CodeMove). e.1) (take i es)) rs made) (take-all i os (omega (arith, long, many, le))) so_far))

-- the places at which keys were located, with their codes
pub located-are : (ks : List PreparedKey) (es : List CodeMove) → map (λ (k : PreparedKey). k.code) ks ≡ map (λ (e : CodeMove). e.0) es → map was_of ks ≡ map (λ (e : CodeMove). e.1) es
    → map located_move ks ≡ es
located-are [] [] c w = refl
located-are [] (e ∷ es) c w = cc
located-are (k ∷ ks) [] c w = cc
located-are (k ∷ ks) (e ∷ es) c w =
    let code : k.code ≡ e.0 = first_code k.code e.0 (map (λ (k : PreparedKey). k.code) ks) (map (λ (e : CodeMove). e.0) es) c in
    let place : k.was ≡ e.1 = first_place k.was e.1 (map was_of ks) (map (λ (e : CodeMove). e.1) es) w in
    let rest = located-are ks es (rest_code k.code e.0 (map (λ (k : PreparedKey). k.code) ks) (map (λ (e : CodeMove). e.0) es) c) (rest_place k.was e.1 (map was_of ks) (map (λ (e : CodeMove). e.1) es) w) in
    λ i. (code i, place i) ∷ rest i
  where
    first_code : (a b : List ℕ) (xs ys : List (List ℕ)) → a ∷ xs ≡ b ∷ ys → a ≡ b
    first_code a b xs ys e = cc

    rest_code : (a b : List ℕ) (xs ys : List (List ℕ)) → a ∷ xs ≡ b ∷ ys → xs ≡ ys
    rest_code a b xs ys e = cc

    first_place : (a b : Option Place) (xs ys : List (Option Place)) → a ∷ xs ≡ b ∷ ys → a ≡ b
    first_place a b xs ys e = cc

    rest_place : (a b : Option Place) (xs ys : List (Option Place)) → a ∷ xs ≡ b ∷ ys → xs ≡ ys
    rest_place a b xs ys e = cc

module _ (s : Layout) (load : Load) (clean : schema_fault s.columns s.keys ≡ None) (lawful : IsLawful s load) (made : MadeKeys) (os : List (Option Row))
    (have : HaveChanges load (map folded_of made.keys.items)) (coded : AllByRecursion (HasCode s) (map folded_of made.keys.items)) (rise : T (rise_strictly (folded_keys (map folded_of made.keys.items))))
    (olds : AreOlds s (map folded_of made.keys.items) os) (are : AreMadeKeys s load.given os made) where
  abbrev ks : List PreparedKey
  ks = made.keys.items

  -- the rows can be written, and the moves tell where they stand then
  pub made-fit : All (λ row. IsTrue (fits_row s row)) made.results.rows.items
  made-fit = subst (All (λ row. IsTrue (fits_row s row))) (sym are.rows) (fit s load clean lawful (map folded_of ks) os have coded olds)

  pub made-rise : KeysRise s made.results.rows.items
  made-rise = subst (KeysRise s) (sym are.rows) (keys-rise s (rows_made s load.given (map folded_of ks) os) (rises s load clean lawful (map folded_of ks) os rise have coded olds))

  pub made-moves : map made_move ks ≡ code_moves (key_code s) (moves_to s 0 (files_of made.results.rows.items) (folded_keys (map folded_of ks)))
  made-moves =
      are.places ∙ are.moves
      ∙ entries-are s (results_of s load.given ks os) made.results.rows.items (are.rows ∙ sym (left-made s load.given ks os)) (all-rise s load.given ks os rise)
      (own-all s load clean lawful ks os have (coded-of s ks coded) olds)
      ∙ ap (λ keys. code_moves (key_code s) (moves_to s 0 (files_of made.results.rows.items) keys)) (same-keys s load.given ks os olds)
