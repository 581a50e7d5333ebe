-- Old rows are filled in, one after the other.
use Rattle.std.proofs.Common.{◌≡◌, ◌≢◌, refl, ap, sym, subst, ◌∙◌, ℕ, zero, suc, ◌<◌, List, [], ◌∷◌, ◌++◌, length, Option, Some, Bool as Truth, true, false, ◌==◌, slice_get, slice_set, arith, length-set}
use Rattle.std.specs.List.{AllByRecursion}
use Rattle.std.proofs.lemmas.Bool.{eqb-false, eqb-true}
use Rattle.pk_values.specs.Schemas.{Layout, fits_row, key_of}
use Rattle.std.specs.Prelude.{IsTrue}
use Rattle.pk_values.specs.declared.cells.Value.{Value}
use Rattle.snapshot_scan.specs.Snapshots.{SnapshotView}
use Rattle.partial_loads.specs.declared.folds.Folded.{Folded}
use Rattle.index_level0.specs.declared.place.Place.{Place}
use Rattle.snapshot_scan.specs.Parts.{PartView}
use Rattle.old_rows.specs.Reading.{AreFilled, IsOldRow, IsWantedRow, Olds, SameButCounts, StandsAt, StandsIn, still}
use Rattle.old_rows.specs.declared.wanted.Wanted.{Wanted}
use Rattle.old_rows.proofs.StillFacts.{live-same, numbers-same, part-before, tells-same}

some_same : {X : Type 0} (x y : X) → Some x ≡ Some y → x ≡ y
some_same x y e = cc

abbrev Old : Type 0
Old = Option (List Value)

set-here : (xs : Olds) (j : ℕ) (q : Old) → j < length xs → slice_get (slice_set xs j q) j ≡ Some q
set-here [] j q lt = absurd (omega arith)
set-here (x ∷ xs) zero q lt = refl
set-here (x ∷ xs) (suc j) q lt = set-here xs j q (omega arith)

set-other : (xs : Olds) (j k : ℕ) (q : Old) → j ≢ k → slice_get (slice_set xs j q) k ≡ slice_get xs k
set-other [] j k q n = refl
set-other (x ∷ xs) zero zero q n = absurd (n refl)
set-other (x ∷ xs) zero (suc k) q n = refl
set-other (x ∷ xs) (suc j) zero q n = refl
set-other (x ∷ xs) (suc j) (suc k) q n = set-other xs j k q (λ e. n (ap suc e))

all-more : (P : Wanted → Type 0) (xs : List Wanted) (x : Wanted) → AllByRecursion P xs → P x → AllByRecursion P (xs ++ x ∷ [])
all-more P [] x h p = (p, tt)
all-more P (y ∷ ys) x h p = (h.0, all-more P ys x h.1 p)

all-so : (P Q : Wanted → Type 0) → ((w : Wanted) → P w → Q w) → (xs : List Wanted) → AllByRecursion P xs → AllByRecursion Q xs
all-so P Q f [] h = tt
all-so P Q f (x ∷ xs) h = (f x h.0, all-so P Q f xs h.1)

abbrev IsThere : Olds → Wanted → Type 0
IsThere olds w = (row : List Value) × (slice_get olds w.key ≡ Some (Some row))

at-first : (xs : List Wanted) (x y : Wanted) (i : ℕ) → slice_get xs i ≡ Some y → slice_get (xs ++ x ∷ []) i ≡ Some y
at-first [] x y i h = cc
at-first (z ∷ xs) x y zero h = h
at-first (z ∷ xs) x y (suc i) h = at-first xs x y i h

at-last : (xs : List Wanted) (x : Wanted) → slice_get (xs ++ x ∷ []) (length xs) ≡ Some x
at-last [] x = refl
at-last (z ∷ xs) x = at-last xs x

pub filled-more : (v : SnapshotView) (keys : List Folded) (done : List Wanted) (olds : Olds) (w : Wanted) (f : Folded) (row : List Value) → AreFilled v keys done olds
    → w.key < length keys → slice_get keys w.key ≡ Some f → IsOldRow v w.place f.key row → AreFilled v keys (done ++ w ∷ []) (slice_set olds w.key (Some row))
filled-more v keys done olds w f row filled lt there old = record {
  long = length-set olds w.key (Some row) ∙ filled.long;
  good = λ i g r has got. go i g r has got (w.key == i) refl;
  full = all-more (IsThere (slice_set olds w.key (Some row))) done w (all-so (IsThere olds) (IsThere (slice_set olds w.key (Some row))) keep done filled.full) (row, set-here olds w.key (Some row) short);
}
  where
    short : w.key < length olds
    short = omega (arith, lt, filled.long)

    keep : (u : Wanted) → IsThere olds u → IsThere (slice_set olds w.key (Some row)) u
    keep u h = by (w.key == u.key) refl
      where
        by : (t : Truth) → (w.key == u.key) ≡ t → IsThere (slice_set olds w.key (Some row)) u
        by true e = (row, ap (slice_get (slice_set olds w.key (Some row))) (sym (eqb-true w.key u.key e)) ∙ set-here olds w.key (Some row) short)
        by false e = (h.0, set-other olds w.key u.key (Some row) (eqb-false w.key u.key e) ∙ h.1)

    go : (i : ℕ) (g : Folded) (r : List Value) → slice_get keys i ≡ Some g → slice_get (slice_set olds w.key (Some row)) i ≡ Some (Some r) → (t : Truth) → (w.key == i) ≡ t
        → IsWantedRow v (done ++ w ∷ []) i g.key r
    go i g r has got true e =
        let here : w.key ≡ i = eqb-true w.key i e in
        let key : f ≡ g = some_same f g (sym there ∙ ap (slice_get keys) here ∙ has) in
        let same : row ≡ r = some_same row r (some_same (Some row) (Some r) (sym (set-here olds w.key (Some row) short) ∙ ap (slice_get (slice_set olds w.key (Some row))) here ∙ got)) in
        record {
          wanted = w;
          at = length done;
          among = at-last done w;
          of_key = here;
          old = subst (λ k. IsOldRow v w.place k r) (ap (λ (x : Folded). x.key) key) (subst (IsOldRow v w.place f.key) same old);
        }
    go i g r has got false e =
        let had = filled.good i g r has (sym (set-other olds w.key i (Some row) (eqb-false w.key i e)) ∙ got) in
        record { wanted = had.wanted; at = had.at; among = at-first done w had.wanted had.at had.among; of_key = had.of_key; old = had.old }

-- a row stands there, whatever was counted
stands-still : (s : Layout) (a b : PartView) (p : Place) (row : List Value) → still a ≡ still b → StandsIn s b p row → StandsIn s a p row
stands-still s a b p row e h =
    let there : StandsIn s (still a) p row = subst (λ (q : PartView). StandsIn s q p row) (sym e) (record { block = h.block; lives = h.lives; bytes = h.bytes }) in
    record { block = there.block; lives = there.lives; bytes = there.bytes }

stands-same : (v w : SnapshotView) (p : Place) (row : List Value) → SameButCounts v w → StandsAt w p row → StandsAt v p row
stands-same v w p row same h =
    let was = part-before v.parts w.parts h.i h.part same.parts h.there in
    record {
      i = h.i;
      part = was.0;
      there = was.1;
      file = numbers-same was.0 h.part was.2 ∙ h.file;
      stands = subst (λ s. StandsIn s was.0 p row) same.schema (stands-still w.schema was.0 h.part p row was.2 h.stands);
    }

-- an old row of a snapshot is one of the same snapshot, whatever was counted
old-same : (v w : SnapshotView) (p : Place) (key row : List Value) → SameButCounts v w → IsOldRow w p key row → IsOldRow v p key row
old-same v w p key row same old = record {
  stands = stands-same v w p row same old.stands;
  fits = subst (λ s. IsTrue (fits_row s row)) same.schema old.fits;
  key_is = ap (λ s. key_of s row) (sym same.schema) ∙ old.key_is;
  lives = λ stored tells. ap (λ l. l p) (sym (live-same stored v w same)) ∙ old.lives stored (tells-same v w stored same tells);
}

pub filled-same : (v w : SnapshotView) (keys : List Folded) (done : List Wanted) (olds : Olds) → SameButCounts v w → AreFilled w keys done olds → AreFilled v keys done olds
filled-same v w keys done olds same filled = record {
  long = filled.long;
  good = λ i f row has got.
      let had = filled.good i f row has got in
      record { wanted = had.wanted; at = had.at; among = had.among; of_key = had.of_key; old = old-same v w had.wanted.place f.key row same had.old };
  full = filled.full;
}
