-- One key that moved, or didn't.
use Rattle.std.proofs.Common.{◌≡◌, refl, ap, sym, subst, ◌∙◌, ℕ, suc, List, [], ◌∷◌, ◌++◌, map, length, Option, Some, None, option_to_list, Bool as Truth, true, false, cond, append-nil}
use Rattle.std.specs.FinMap.{get}
use Rattle.index_level0.specs.declared.place.Place.{Place}
use Rattle.key_code.specs.KeyCode.{key_code}
use Rattle.pk_values.specs.Schemas.{Layout}
use Rattle.pk_values.specs.declared.cells.Value.{Value}
use Rattle.pk_model.specs.Tables.{Rows}
use Rattle.tablet_state.specs.Contents.{Contents}
use Rattle.tablet_state.specs.State.{SegmentView}
use Rattle.partial_loads.specs.Folds.{apply, overlays}
use Rattle.partial_loads.specs.Making.{made_rows}
use Rattle.partial_loads.proofs.FoldFacts.{old_row_unasked}
use Rattle.core_partial.specs.Again.{Remakes, RemakesKey, RemakesMore, RemakesOver, row_made}
use Rattle.rowsets.specs.Indexing.{Move, code_moves}
use Rattle.core_publish.specs.Prepared.{files_of, place_in}
use Rattle.core_partial.specs.Moving.{IsAgain, IsOldOf, IsRemade, IsSettled, IsSettledOver, is_moved_key, moved_keys}
use Rattle.core_partial.specs.Prepared.{AgainView, PreparedPartialView, folded_of}
use Rattle.core_partial.proofs.SubFacts.{keys_in}
use Rattle.core_partial.specs.declared.again.Remade.{Remade}
use Rattle.core_partial.specs.declared.keys.PreparedKey.{PreparedKey}

pub moved-one : (c : Contents) (v : ℕ) (k : PreparedKey) → is_moved_key c v k ≡ true → moved_keys c v (k ∷ []) ≡ k ∷ []
moved-one c v k e = ap (λ (t : Truth). cond t (k ∷ []) []) e

pub unmoved-none : (c : Contents) (v : ℕ) (k : PreparedKey) → is_moved_key c v k ≡ false → moved_keys c v (k ∷ []) ≡ []
unmoved-none c v k e = ap (λ (t : Truth). cond t (k ∷ []) []) e

-- its row is made of the map's
same-row : (s : Layout) (given : List ℕ) (k : PreparedKey) (m : Rows) (old : Option (List Value)) → IsOldOf m k old → row_made s given k old ≡ row_made s given k (get m k.key)
same-row s given k m old h = go (overlays k.change) refl
  where
    go : (t : Truth) → overlays k.change ≡ t → row_made s given k old ≡ row_made s given k (get m k.key)
    go true e = ap (row_made s given k) (h e)
    go false e = old_row_unasked s given None k.key k.change old (get m k.key) e

pub remakes-over : (s : Layout) (given : List ℕ) (c : Contents) (v : ℕ) (k : PreparedKey) (m : Rows) (old : Option (List Value)) (before after : Remade) → is_moved_key c v k ≡ true → IsOldOf m k old
    → after.results.rows.items ≡ before.results.rows.items ++ option_to_list (row_made s given k old) → RemakesOver s given c v k m before after
remakes-over s given c v k m old before after moved is rows =
    rows ∙ ap (λ (row : Option (List Value)). before.results.rows.items ++ option_to_list row) (same-row s given k m old is)
    ∙ ap (λ rest. before.results.rows.items ++ rest) (sym (append-nil (option_to_list (row_made s given k (get m k.key)))))
    ∙ ap (λ (ks : List PreparedKey). before.results.rows.items ++ made_rows s given m (map folded_of ks)) (sym (moved-one c v k moved))

pub unmoved-over : (s : Layout) (given : List ℕ) (c : Contents) (v : ℕ) (k : PreparedKey) (m : Rows) (before : Remade) → is_moved_key c v k ≡ false → RemakesOver s given c v k m before before
unmoved-over s given c v k m before e =
    sym (append-nil before.results.rows.items) ∙ ap (λ (ks : List PreparedKey). before.results.rows.items ++ made_rows s given m (map folded_of ks)) (sym (unmoved-none c v k e))

pub remakes-moved : (c : Contents) (segs : List SegmentView) (given : List ℕ) (v : ℕ) (k : PreparedKey) (before after : Remade) → is_moved_key c v k ≡ true → RemakesKey c segs given k before after
    → RemakesMore c segs given v k before after
remakes-moved c segs given v k before after e h = subst (λ (t : Truth). Remakes t c segs given k before after) (sym e) h

pub remakes-none : (c : Contents) (segs : List SegmentView) (given : List ℕ) (v : ℕ) (k : PreparedKey) (before : Remade) → is_moved_key c v k ≡ false → RemakesMore c segs given v k before before
remakes-none c segs given v k before e = subst (λ (t : Truth). Remakes t c segs given k before before) (sym e) refl

-- there are as many moves as keys
long-moves : (code : List Value → List ℕ) (f : List Value → Option Place) (ks : List PreparedKey)
    → length (code_moves code (map (λ k. let m : Move = record { key = k; place = f k } in m) (keys_in ks))) ≡ length ks
long-moves code f [] = refl
long-moves code f (k ∷ ks) = ap suc (long-moves code f ks)

pub count-of : (s : Layout) (ks : List PreparedKey) (again : AgainView) → IsAgain s ks again → length again.moves ≡ length ks
count-of s ks again is = ap length is.files.moves_are ∙ long-moves (key_code s) (place_in s 0 (files_of again.rows)) ks

-- what was made again was put in the place of what was before
pub renewed : (c : Contents) (segs : List SegmentView) (old new : PreparedPartialView) (again : AgainView) → new ≡ record old { again = again } → IsRemade c segs old again → IsSettled c segs new
renewed c segs old new again at is = subst (IsSettled c segs) (sym at) (record { is = is.is; read = is.read })

pub renewed-over : (c : Contents) (old new : PreparedPartialView) (again : AgainView) (m : Rows) → new ≡ record old { again = again }
    → again.rows ≡ made_rows old.schema old.load.given m (map folded_of (moved_keys c old.version old.keys)) → IsSettledOver c new m
renewed-over c old new again m at is = subst (λ (p : PreparedPartialView). IsSettledOver c p m) (sym at) is

pub same-again : (old new : PreparedPartialView) (again : AgainView) → new ≡ record old { again = again } → new ≡ record old { again = new.again }
same-again old new again at = at ∙ ap (λ (a : AgainView). record old { again = a }) (sym (ap (λ (p : PreparedPartialView). p.again) at))
