-- Places in few files.
use Rattle.std.proofs.Common.{◌≡◌, refl, ap, sym, subst, ◌∙◌, ℕ, ◌+◌, ◌<◌, ◌≤◌, List, [], ◌∷◌, ◌++◌, map, length, Option, Some, None, option_to_list, Bool as Truth, true, false, cond, arith}
use Rattle.std.specs.List.{AllByRecursion, filter}
use Rattle.std.specs.Ordering.{eq_by_cmp}
use Rattle.key_code.specs.KeyCode.{key_code}
use Rattle.pk_values.specs.Order.{key_cmp}
use Rattle.pk_values.specs.Schemas.{Layout}
use Rattle.pk_values.specs.declared.cells.Value.{Value}
use Rattle.index_level0.specs.declared.place.Place.{Place}
use Rattle.rowsets.specs.Ending.{Moved}
use Rattle.rowsets.specs.Indexing.{CodeMove, code_moves, merged_place}
use Rattle.tablet_state.specs.Readies.{NewSegment}
use Rattle.core_publish.specs.Prepared.{files_of, fresh, moves_to, place_in}
use Rattle.core_publish.proofs.EntryFacts.{AreBelow, over-below}
use Rattle.core_publish.proofs.KeyFacts.{as-many}
use Rattle.core_publish.proofs.PlaceFacts.{agree-fresh, moved-fresh, moved_over}
use Rattle.core_partial.specs.Moving.{made_places}
use Rattle.core_partial.specs.Prepared.{AreFilesOf, made_move}
use Rattle.core_partial.specs.Publishing.{IsBelow}
use Rattle.core_partial.specs.declared.keys.PreparedKey.{PreparedKey}
use Rattle.core_partial.proofs.SubFacts.{all-filtered, keys_in}

place-below : (n : ℕ) (es : List Moved) (k : List Value) → AreBelow n es → IsBelow n (merged_place es k)
place-below n [] k h = tt
place-below n (e ∷ es) k h = by (place-below n es k h.1) (eq_by_cmp key_cmp k e.key)
  where
    by : IsBelow n (merged_place es k) → (b : Truth) → IsBelow n (cond b (Some e.place) (merged_place es k))
    by rest true = h.0
    by rest false = rest

in-below : (s : Layout) (n : ℕ) (files : List (List (List Value))) (k : List Value) → length files ≤ n → IsBelow n (place_in s 0 files k)
in-below s n files k le =
    subst (λ (es : List Moved). IsBelow n (merged_place es k)) (sym (moved-fresh s (fresh 0 files) 0 files (agree-fresh 0 files (λ m. []))))
    (place-below n (moved_over s 0 files) k (over-below s n 0 files (omega arith)))

moves-below : (s : Layout) (n : ℕ) (files : List (List (List Value))) (keys : List (List Value)) → length files ≤ n → AllByRecursion (λ e. IsBelow n e.1) (code_moves (key_code s) (moves_to s 0 files keys))
moves-below s n files [] le = tt
moves-below s n files (k ∷ keys) le = (in-below s n files k le, moves-below s n files keys le)

-- the places of rows in files, of which there are few
pub few-moves : (s : Layout) (n : ℕ) (keys : List (List Value)) (rows : List (List Value)) (files : List NewSegment) (moves : List CodeMove) → AreFilesOf s keys rows files moves → length files ≤ n
    → AllByRecursion (λ e. IsBelow n e.1) moves
few-moves s n keys rows files moves are le =
    let long = as-many s (files_of rows) files are.sealed in
    subst (AllByRecursion (λ e. IsBelow n e.1)) (sym are.moves_are) (moves-below s n (files_of rows) keys (omega arith))

pub few-made : (n : ℕ) (ks : List PreparedKey) → AllByRecursion (λ e. IsBelow n e.1) (map made_move ks) → AllByRecursion (λ k. IsBelow n k.made) ks
few-made n [] h = tt
few-made n (k ∷ ks) h = (h.0, few-made n ks h.1)

all-both : (P : Place → Type 0) (xs ys : List Place) → AllByRecursion P xs → AllByRecursion P ys → AllByRecursion P (xs ++ ys)
all-both P [] ys h g = g
all-both P (x ∷ xs) ys h g = (h.0, all-both P xs ys h.1 g)

pub few-places : (n : ℕ) (ks : List PreparedKey) → AllByRecursion (λ k. IsBelow n k.made) ks → AllByRecursion (λ (p : Place). p.segment < n) (made_places ks)
few-places n [] h = tt
few-places n (k ∷ ks) h = all-both (λ (p : Place). p.segment < n) (option_to_list k.made) (made_places ks) (one k.made h.0) (few-places n ks h.1)
  where
    one : (o : Option Place) → IsBelow n o → AllByRecursion (λ (p : Place). p.segment < n) (option_to_list o)
    one None h = tt
    one (Some p) h = (h, tt)

pub few-some : (n : ℕ) (test : PreparedKey → Truth) (ks : List PreparedKey) → AllByRecursion (λ k. IsBelow n k.made) ks → AllByRecursion (λ k. IsBelow n k.made) (filter test ks)
few-some n test ks h = all-filtered (λ k. IsBelow n k.made) test ks h
