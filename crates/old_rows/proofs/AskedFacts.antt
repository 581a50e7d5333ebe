-- The old rows that were asked for are those that were filled in, and each block was read once.
use Rattle.std.proofs.Common.{◌≡◌, refl, ap, sym, subst, ◌∙◌, ℕ, zero, suc, ◌<◌, List, [], ◌∷◌, map, length, Some, Bool as Truth, true, false, ◌||◌, ◌==◌, slice_get, get_or, arith}
use Rattle.std.specs.Prelude.{All}
use Rattle.std.specs.List.{list_any, AllByRecursion}
use Rattle.std.proofs.lemmas.Bool.{eqb-true}
use Rattle.index_level0.specs.declared.place.Place.{Place}
use Rattle.pk_values.specs.declared.cells.Value.{Value}
use Rattle.rowsets.specs.Indexing.{CodeMove}
use Rattle.snapshot_scan.specs.Parts.{PartView}
use Rattle.snapshot_scan.specs.Snapshots.{SnapshotView}
use Rattle.partial_loads.specs.declared.folds.Folded.{Folded}
use Rattle.old_rows.specs.Reading.{AreFilled, AreOldsRead, HasNoOlds, HaveKeys, Olds, ReadBlocks, ReadsAsked}
use Rattle.old_rows.specs.Wanted.{AreWanted, Block, IsWanted, PlacesInOrder, asked, block_of, is_of, place_wanted, runs}
use Rattle.old_rows.specs.declared.wanted.Wanted.{Wanted}
use Rattle.old_rows.proofs.RunFacts.{runs-all, runs-rise}

some_same : {X : Type 0} (x y : X) → Some x ≡ Some y → x ≡ y
some_same x y e = cc

within : {X : Type 0} (xs : List X) (i : ℕ) (x : X) → slice_get xs i ≡ Some x → i < length xs
within [] i x h = cc
within (y ∷ ys) zero x h = omega arith
within (y ∷ ys) (suc i) x h = let more = within ys i x h in omega arith

pub have-keys : (keys : List Folded) (located : List CodeMove) (n : ℕ) (wanted : List Wanted) → AreWanted keys located n wanted → HaveKeys keys wanted
have-keys keys located n wanted are i d lt =
    let one = are.each i d lt in
    within keys (get_or wanted i d).key one.key one.there

pub filled-none : (v : SnapshotView) (keys : List Folded) (olds : Olds) → HasNoOlds (length keys) olds → AreFilled v keys [] olds
filled-none v keys olds none = record { long = none.long; good = λ i f row has got. absurd (none.none i row got); full = tt }

any-there : (olds : Olds) (wanted : List Wanted) (i : ℕ) → AllByRecursion (λ w. (row : List Value) × (slice_get olds w.key ≡ Some (Some row))) wanted
    → list_any (is_of i) wanted ≡ true → (row : List Value) × (slice_get olds i ≡ Some (Some row))
any-there olds [] i full h = cc
any-there olds (w ∷ ws) i full h = go (w.key == i) refl h (any-there olds ws i full.1)
  where
    go : (t : Truth) → (w.key == i) ≡ t → (t || list_any (is_of i) ws) ≡ true → (list_any (is_of i) ws ≡ true → (row : List Value) × (slice_get olds i ≡ Some (Some row)))
        → (row : List Value) × (slice_get olds i ≡ Some (Some row))
    go true e h more = (full.0.0, ap (slice_get olds) (sym (eqb-true w.key i e)) ∙ full.0.1)
    go false e h more = more h

wanted-at : (keys : List Folded) (located : List CodeMove) (ws : List Wanted) (i : ℕ) (w : Wanted) → All (IsWanted keys located) ws → slice_get ws i ≡ Some w → IsWanted keys located w
wanted-at keys located [] i w h e = cc
wanted-at keys located (x ∷ ws) zero w h e = subst (IsWanted keys located) (some_same x w e) (h 0 x (omega arith))
wanted-at keys located (x ∷ ws) (suc i) w h e = wanted-at keys located ws i w (λ j d lt. h (suc j) d (omega arith)) e

pub olds-are : (v : SnapshotView) (keys : List Folded) (located : List CodeMove) (wanted : List Wanted) (olds : Olds) → AreWanted keys located (length keys) wanted
    → AreFilled v keys wanted olds → AreOldsRead v keys located olds
olds-are v keys located wanted olds are filled = record {
  long = filled.long;
  good = λ i f e row there at got.
      let had = filled.good i f row there got in
      let one = wanted-at keys located wanted had.at had.wanted are.each had.among in
      let key : one.key ≡ f = some_same one.key f (sym one.there ∙ ap (slice_get keys) had.of_key ∙ there) in
      let entry : one.entry ≡ e = some_same one.entry e (sym one.at ∙ ap (slice_get located) had.of_key ∙ at) in
      (had.wanted.place, (λ j. asked (sym key j) (sym entry j)) ∙ one.asks, had.old);
  all = λ i f e p there at asks. any-there olds wanted i filled.full (are.all i f e p (within keys i f there) there at asks);
}

pub reads-asked : (keys : List Folded) (located : List CodeMove) (wanted : List Wanted) (old new : List PartView) → AreWanted keys located (length keys) wanted
    → PlacesInOrder (map place_wanted wanted) → ReadBlocks (runs (map place_wanted wanted)) old new → ReadsAsked keys located old new
reads-asked keys located wanted old new are order read = record {
  blocks = runs (map place_wanted wanted);
  once = runs-rise (map place_wanted wanted) order;
  asked_for = runs-all Asked wanted (λ i d lt.
      let one = are.each i d lt in
      ((get_or wanted i d).key, one.key, one.entry, (get_or wanted i d).place, one.there, one.at, one.asks, refl));
  read = read;
}
  where
    Asked : Block → Type 0
    Asked b = (i : ℕ) × (f : Folded) × (e : CodeMove) × (p : Place) × (slice_get keys i ≡ Some f) × (slice_get located i ≡ Some e) × (asked f e ≡ Some p) × (block_of p ≡ b)
