-- A row of a block is that of its file, and a live one of the snapshot.
use Rattle.std.proofs.Common.{◌≡◌, inl, inr, refl, ap, sym, subst, ◌∙◌, ℕ, zero, suc, ◌+◌, ◌*◌, ◌/◌, ◌%◌, ◌<◌, ◌≤◌, List, [], ◌∷◌, map, length, take, drop, Some, None, is_some, Bool as Truth, true, false, ◌||◌, ◌==◌, cond, slice_get, arith}
use Rattle.std.specs.List.{list_any}
use Rattle.std.proofs.lemmas.Bool.{eq-eqb, eqb-true}
use Rattle.pk_values.specs.Schemas.{Layout}
use Rattle.pk_values.specs.declared.cells.Value.{Value}
use Rattle.index_level0.specs.declared.place.Place.{Place}
use Rattle.rowsets.specs.Live.{Files, FilesOnce, HasKey, is_dead, live, names}
use Rattle.rowsets.proofs.LiveFacts.{live-named}
use Rattle.snapshot_scan.specs.Parts.{AreWrittenIn, IsBlockOf, IsPieceOf, PartView, block_at}
use Rattle.snapshot_scan.specs.Snapshots.{SnapshotView}
use Rattle.snapshot_scan.proofs.PartFacts.{piece_long}
use Rattle.old_rows.specs.PartsByFile.{FindsParts, found_part}
use Rattle.old_rows.specs.Reading.{AreTold, IsOldRow, IsWrongIn, TellsRows, live_at, part_seen}
use Rattle.old_rows.specs.Taking.{IsNotThere, IsTaken}

some_same : {X : Type 0} (x y : X) → Some x ≡ Some y → x ≡ y
some_same x y e = cc

-- ---- rows by their places

at-take : (n : ℕ) (xs : List (List Value)) (k : ℕ) → k < n → slice_get (take n xs) k ≡ slice_get xs k
at-take zero xs k lt = absurd (omega arith)
at-take (suc n) [] k lt = refl
at-take (suc n) (x ∷ xs) zero lt = refl
at-take (suc n) (x ∷ xs) (suc k) lt = at-take n xs k (omega arith)

at-drop : (m : ℕ) (xs : List (List Value)) (k : ℕ) → slice_get (drop m xs) k ≡ slice_get xs (m + k)
at-drop zero xs k = let e : k ≡ 0 + k = omega arith in ap (slice_get xs) e
at-drop (suc m) [] k = refl
at-drop (suc m) (x ∷ xs) k = let e : suc (m + k) ≡ suc m + k = omega arith in at-drop m xs k ∙ ap (slice_get (x ∷ xs)) e

-- the row of a file in its block
pub in-block : (b r : ℕ) (xs : List (List Value)) → b ≡ r / 1024 → slice_get (block_at b xs) (r % 1024) ≡ slice_get xs r
in-block b r xs e =
    let small : r % 1024 < 1024 = omega arith in
    let place : b * 1024 + r % 1024 ≡ r = omega (arith, e) in
    at-take 1024 (drop (b * 1024) xs) (r % 1024) small ∙ at-drop (b * 1024) xs (r % 1024) ∙ ap (slice_get xs) place

-- ---- the part of a place

part-named : (ps : List PartView) (i : ℕ) (part : PartView) → slice_get ps i ≡ Some part → names (map part_seen ps) part.number ≡ true
part-named [] i part h = cc
part-named (p ∷ ps) zero part h = ap (λ t. t || names (map part_seen ps) part.number) (eq-eqb p.number part.number (ap (λ (q : PartView). q.number) (some_same p part h)))
part-named (p ∷ ps) (suc i) part h = ap (λ t. (p.number == part.number) || t) (part-named ps i part h) ∙ or_true (p.number == part.number)
  where
    or_true : (a : Truth) → (a || true) ≡ true
    or_true true = refl
    or_true false = refl

pub named-part : (ps : List PartView) (n : ℕ) → names (map part_seen ps) n ≡ true → (i : ℕ) × (part : PartView) × (slice_get ps i ≡ Some part) × (part.number ≡ n)
named-part [] n h = cc
named-part (p ∷ ps) n h = go (p.number == n) refl h (named-part ps n)
  where
    go : (t : Truth) → (p.number == n) ≡ t → (t || names (map part_seen ps) n) ≡ true
        → (names (map part_seen ps) n ≡ true → (i : ℕ) × (part : PartView) × (slice_get ps i ≡ Some part) × (part.number ≡ n))
        → (i : ℕ) × (part : PartView) × (slice_get (p ∷ ps) i ≡ Some part) × (part.number ≡ n)
    go true e h more = (0, p, refl, eqb-true p.number n e)
    go false e h more = let found = more h in (suc found.0, found.1, found.2, found.3)

pub live-part : (stored : Files) (ps : List PartView) (i : ℕ) (part : PartView) (p : Place) → FilesOnce (map part_seen ps) → slice_get ps i ≡ Some part → part.number ≡ p.segment
    → live stored (map part_seen ps) p ≡ cond (is_dead (part_seen part) p.row) None (slice_get (stored part.number) p.row)
live-part stored [] i part p once h is = cc
live-part stored (q ∷ ps) zero part p once h is =
    let same : q ≡ part = some_same q part h in
    ap (λ t. cond t (cond (is_dead (part_seen q) p.row) None (slice_get (stored q.number) p.row)) (live stored (map part_seen ps) p)) (eq-eqb q.number p.segment (ap (λ (v : PartView). v.number) same ∙ is))
    ∙ ap (λ (v : PartView). cond (is_dead (part_seen v) p.row) None (slice_get (stored v.number) p.row)) same
live-part stored (q ∷ ps) (suc i) part p once h is =
    ap (λ t. cond t (cond (is_dead (part_seen q) p.row) None (slice_get (stored q.number) p.row)) (live stored (map part_seen ps) p)) (other (q.number == p.segment) refl)
    ∙ live-part stored ps i part p once.1 h is
  where
    clash : (b : Truth) → b ≡ true → b ≡ false → ⊥
    clash b e f = cc (sym e ∙ f)

    other : (t : Truth) → (q.number == p.segment) ≡ t → t ≡ false
    other false e = refl
    other true e =
        absurd (clash (names (map part_seen ps) q.number) (ap (names (map part_seen ps)) (eqb-true q.number p.segment e ∙ sym is) ∙ part-named ps i part h) once.0)

told-at : (s : Layout) (stored : Files) (ps : List PartView) (i : ℕ) (part : PartView) → AreTold s stored ps → slice_get ps i ≡ Some part
    → IsPieceOf s part (record { rows = stored part.number; dead = part.dead })
told-at s stored [] i part told h = cc
told-at s stored (p ∷ ps) zero part told h = subst (λ (q : PartView). IsPieceOf s q (record { rows = stored q.number; dead = q.dead })) (some_same p part h) told.0
told-at s stored (p ∷ ps) (suc i) part told h = told-at s stored ps i part told.1 h

none_some : {X : Type 0} (x : X) → None ≡ Some x → ⊥
none_some x e = cc

-- ---- what is taken of a block

module _ (v : SnapshotView) (i : ℕ) (part : PartView) (there : slice_get v.parts i ≡ Some part) (b : ℕ) (rows : List (List Value)) (are : AreWrittenIn v.schema part b rows) where
  live-is : (stored : Files) → TellsRows v stored → (p : Place) → part.number ≡ p.segment → b ≡ p.row / 1024
      → live_at stored v p ≡ cond (list_any (λ r. r == p.row) part.dead) None (slice_get rows (p.row % 1024))
  live-is stored tells p file block =
      live-part stored v.parts i part p tells.once there file
      ∙ ap (cond (list_any (λ r. r == p.row) part.dead) None)
      (sym (in-block b p.row (stored part.number) block) ∙ ap (λ xs. slice_get xs (p.row % 1024)) (sym (are (record { rows = stored part.number; dead = part.dead }) (told-at v.schema stored v.parts i part tells.told there))))

  pub old-row : (p : Place) (key found : List Value) → b < length part.footer.blocks → IsBlockOf v.schema part b rows → part.number ≡ p.segment → b ≡ p.row / 1024
      → IsTaken v.schema rows part.dead p.row key found → IsOldRow v p key found
  old-row p key found within bytes file block taken = record {
    stands = record {
      i = i;
      part = part;
      there = there;
      file = file;
      stands = record {
        block = subst (λ n. n < length part.footer.blocks) block within;
        lives = taken.lives;
        bytes = λ f told mark at. (rows, bytes f told mark (ap (slice_get part.footer.blocks) block ∙ at), taken.there);
      };
    };
    fits = taken.fits;
    key_is = taken.key_is;
    lives = λ stored tells. live-is stored tells p file block ∙ ap (λ t. cond t None (slice_get rows (p.row % 1024))) taken.lives ∙ taken.there;
  }

  pub not-there : (stored : Files) → TellsRows v stored → (p : Place) (key : List Value) → part.number ≡ p.segment → b ≡ p.row / 1024 → IsNotThere v.schema rows part.dead p.row key
      → HasKey v.schema (live_at stored v) p key → ⊥
  not-there stored tells p key file block missing has = go missing (list_any (λ r. r == p.row) part.dead) refl (sym (live-is stored tells p file block) ∙ has.1)
    where
      go : IsNotThere v.schema rows part.dead p.row key → (t : Truth) → list_any (λ r. r == p.row) part.dead ≡ t → cond t None (slice_get rows (p.row % 1024)) ≡ Some has.0 → ⊥
      go gone true e is = none_some has.0 is
      go (inl dead) false e is = clash (list_any (λ r. r == p.row) part.dead) dead e
        where
          clash : (b : Truth) → b ≡ true → b ≡ false → ⊥
          clash b e f = cc (sym e ∙ f)
      go (inr other) false e is = other has.0 is has.2

  -- how it shows
  pub wrong-there : (p : Place) (key : List Value) → b ≡ p.row / 1024 → IsBlockOf v.schema part b rows → IsNotThere v.schema rows part.dead p.row key → IsWrongIn v.schema part p key
  wrong-there p key block is (inl dead) = inr (inl dead)
  wrong-there p key block is (inr other) =
      inr (inr (λ file told mark at. (rows, is file told mark (ap (slice_get part.footer.blocks) block ∙ at), other)))

-- a row past the end of the file
pub past-end : (v : SnapshotView) (i : ℕ) (part : PartView) → slice_get v.parts i ≡ Some part → (stored : Files) → TellsRows v stored → (p : Place) (key : List Value) → part.number ≡ p.segment → part.footer.rows ≤ p.row → HasKey v.schema (live_at stored v) p key → ⊥
past-end v i part there stored tells p key file past has =
    go (list_any (λ r. r == p.row) part.dead) (sym (live-part stored v.parts i part p tells.once there file) ∙ has.1)
  where
    beyond : (xs : List (List Value)) (k : ℕ) → length xs ≤ k → slice_get xs k ≡ None
    beyond [] k le = refl
    beyond (x ∷ xs) zero le = absurd (omega arith)
    beyond (x ∷ xs) (suc k) le = beyond xs k (omega arith)

    long : part.footer.rows ≡ length (stored part.number)
    long = piece_long v.schema part (record { rows = stored part.number; dead = part.dead }) (told-at v.schema stored v.parts i part tells.told there)

    go : (t : Truth) → cond t None (slice_get (stored part.number) p.row) ≡ Some has.0 → ⊥
    go true is = none_some has.0 is
    go false is = none_some has.0 (sym (beyond (stored part.number) p.row (omega (arith, long, past))) ∙ is)

-- no part of this file
pub no-part : (v : SnapshotView) (found : _) (stored : Files) → FindsParts found v.parts → (p : Place) (key : List Value) → found_part found p.segment ≡ None → HasKey v.schema (live_at stored v) p key → ⊥
no-part v found stored finds p key none has =
    let named = live-named stored (map part_seen v.parts) p has.0 has.1 in
    let part = named-part v.parts p.segment named in
    let there : is_some (found_part found p.segment) ≡ true = ap (λ n. is_some (found_part found n)) (sym part.3) ∙ finds.all part.0 part.1 part.2 in
    absurd (none_is there)
  where
    none_is : is_some (found_part found p.segment) ≡ true → ⊥
    none_is e = cc (sym e ∙ ap is_some none)

-- no part is of this file
pub none-of : (v : SnapshotView) (found : _) → FindsParts found v.parts → (file : ℕ) → found_part found file ≡ None
    → (i : ℕ) (part : PartView) → slice_get v.parts i ≡ Some part → part.number ≡ file → ⊥
none-of v found finds file none i part there is = cc (sym (ap (λ n. is_some (found_part found n)) (sym is) ∙ finds.all i part there) ∙ ap is_some none)
