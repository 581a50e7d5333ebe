-- Runs of wanted rows are read one after the other.
use Rattle.std.proofs.Common.{◌≡◌, inl, inr, refl, ap, sym, subst, ◌∙◌, ℕ, zero, suc, ◌+◌, ◌/◌, ◌≤◌, List, [], ◌∷◌, map, length, take, drop, Some, slice_get, arith}
use Rattle.std.specs.Prelude.{Result}
use Rattle.dev_traits.specs.declared.faults.Damaged.{Damaged}
use Rattle.dev_traits.specs.declared.faults.ReadFault.{ReadFault}
use Rattle.pk_values.specs.Schemas.{Layout, key_of}
use Rattle.pk_values.specs.declared.cells.Value.{Value}
use Rattle.index_level0.specs.declared.place.Place.{Place}
use Rattle.rowsets.specs.Scans.{Piece}
use Rattle.snapshot_scan.specs.Parts.{IsPieceOf, PartView}
use Rattle.snapshot_scan.specs.Scans.{IsBlockDamage}
use Rattle.snapshot_scan.specs.Snapshots.{SnapshotView}
use Rattle.partial_loads.specs.declared.folds.Folded.{Folded}
use Rattle.old_rows.specs.Reading.{IsReadingDamage, IsWrongIn, IsWrongPlace, ReadBlocks, ReadsCause, SameButCounts, still}
use Rattle.old_rows.specs.Wanted.{Block, blocks_in, place_wanted, runs}
use Rattle.old_rows.specs.declared.wanted.Wanted.{Wanted}
use Rattle.old_rows.proofs.StillFacts.{live-same, numbers-same, part-before, tells-same}

some_same : {X : Type 0} (x y : X) → Some x ≡ Some y → x ≡ y
some_same x y e = cc

-- of each part no more was read than blocks were gone through
pub record ReadSoFar (wanted : List Wanted) (at : ℕ) (old now : List PartView) : Type 0 where
  pub long : length now ≡ length old
  pub each : (i : ℕ) (part after : PartView) → slice_get old i ≡ Some part → slice_get now i ≡ Some after
      → after.reader.reads + blocks_in part.number (runs (map place_wanted (drop at wanted))) ≤ part.reader.reads + blocks_in part.number (runs (map place_wanted wanted))

pub none-so-far : (wanted : List Wanted) (old : List PartView) → ReadSoFar wanted 0 old old
none-so-far wanted old = record {
  long = refl;
  each = λ i part after had has.
      let same : after.reader.reads ≡ part.reader.reads = ap (λ (p : PartView). p.reader.reads) (some_same after part (sym has ∙ had)) in
      omega arith;
}

there-too : (xs ys : List PartView) (i : ℕ) (x : PartView) → length xs ≡ length ys → slice_get xs i ≡ Some x → (y : PartView) × (slice_get ys i ≡ Some y)
there-too [] ys i x long h = cc
there-too (a ∷ xs) [] i x long h = absurd (omega arith)
there-too (a ∷ xs) (y ∷ ys) zero x long h = (y, refl)
there-too (a ∷ xs) (y ∷ ys) (suc i) x long h = there-too xs ys i x (omega arith) h

-- the reads of one more run
step : (wanted : List Wanted) (at : ℕ) (b : Block) (left : List Block) (old : SnapshotView) (mid : SnapshotView) (new : List PartView) → runs (map place_wanted (drop at wanted)) ≡ b ∷ left
    → ReadSoFar wanted at old.parts mid.parts → SameButCounts old mid → ReadBlocks (b ∷ []) mid.parts new
    → (i : ℕ) (part after : PartView) → slice_get old.parts i ≡ Some part → slice_get new i ≡ Some after
    → after.reader.reads + blocks_in part.number left ≤ part.reader.reads + blocks_in part.number (runs (map place_wanted wanted))
step wanted at b left old mid new is before same read i part after had has =
    let between = there-too new mid.parts i after read.long has in
    let was = part-before old.parts mid.parts i between.0 same.parts between.1 in
    let number : part.number ≡ between.0.number = numbers-same part between.0 (ap still (some_same part was.0 (sym had ∙ was.1)) ∙ was.2) in
    let first = before.each i part between.0 had between.1 in
    let next = read.each i between.0 after between.1 has in
    let parts : blocks_in part.number (runs (map place_wanted (drop at wanted))) ≡ blocks_in part.number (b ∷ left) = ap (blocks_in part.number) is in
    let one : blocks_in between.0.number (b ∷ []) ≡ blocks_in part.number (b ∷ []) = ap (λ n. blocks_in n (b ∷ [])) (sym number) in
    omega (arith, first, next, parts, one)

pub run-read : (wanted : List Wanted) (at next : ℕ) (b : Block) (old mid : SnapshotView) (new : List PartView)
    → runs (map place_wanted (drop at wanted)) ≡ b ∷ runs (map place_wanted (drop next wanted))
    → ReadSoFar wanted at old.parts mid.parts → SameButCounts old mid → ReadBlocks (b ∷ []) mid.parts new → ReadSoFar wanted next old.parts new
run-read wanted at next b old mid new is before same read = record {
  long = read.long ∙ before.long;
  each = step wanted at b (runs (map place_wanted (drop next wanted))) old mid new is before same read;
}

-- in the end, or at a fault, no more than all blocks
pub all-read : (wanted : List Wanted) (at : ℕ) (b : Block) (left : List Block) (old mid : SnapshotView) (new : List PartView) → runs (map place_wanted (drop at wanted)) ≡ b ∷ left
    → ReadSoFar wanted at old.parts mid.parts → SameButCounts old mid → ReadBlocks (b ∷ []) mid.parts new → ReadBlocks (runs (map place_wanted wanted)) old.parts new
all-read wanted at b left old mid new is before same read = record {
  long = read.long ∙ before.long;
  each = λ i part after had has. let most = step wanted at b left old mid new is before same read i part after had has in omega arith;
}

pub ended-read : (wanted : List Wanted) (at : ℕ) (old new : List PartView) → ReadSoFar wanted at old new → ReadBlocks (runs (map place_wanted wanted)) old new
ended-read wanted at old new before = record {
  long = before.long;
  each = λ i part after had has. let most = before.each i part after had has in omega arith;
}

-- ---- damage

-- a row of a run is one of all
in-drop : (at i : ℕ) (ws : List Wanted) (w : Wanted) → slice_get (drop at ws) i ≡ Some w → slice_get ws (at + i) ≡ Some w
in-drop zero i ws w h = let e : i ≡ 0 + i = omega arith in ap (slice_get ws) (sym e) ∙ h
in-drop (suc at) i [] w h = cc
in-drop (suc at) i (x ∷ ws) w h = let e : suc (at + i) ≡ suc at + i = omega arith in ap (slice_get (x ∷ ws)) (sym e) ∙ in-drop at i ws w h

in-take : (n i : ℕ) (ws : List Wanted) (w : Wanted) → slice_get (take n ws) i ≡ Some w → slice_get ws i ≡ Some w
in-take zero i ws w h = cc
in-take (suc n) i [] w h = h
in-take (suc n) zero (x ∷ ws) w h = h
in-take (suc n) (suc i) (x ∷ ws) w h = in-take n i ws w h

-- a place is wrong whatever was counted
wrong-still : (s : Layout) (a b : PartView) (p : Place) (key : List Value) → still a ≡ still b → IsWrongIn s b p key → IsWrongIn s a p key
wrong-still s a b p key e h = to a (subst (λ (q : PartView). IsWrongIn s q p key) (sym e) (from b h))
  where
    from : (q : PartView) → IsWrongIn s q p key → IsWrongIn s (still q) p key
    from q (inl past) = inl past
    from q (inr (inl dead)) = inr (inl dead)
    from q (inr (inr none)) = inr (inr none)

    to : (q : PartView) → IsWrongIn s (still q) p key → IsWrongIn s q p key
    to q (inl past) = inl past
    to q (inr (inl dead)) = inr (inl dead)
    to q (inr (inr none)) = inr (inr none)

wrong-same : (v w : SnapshotView) (p : Place) (key : List Value) → SameButCounts v w → IsWrongPlace w p key → IsWrongPlace v p key
wrong-same v w p key same (inl none) = inl (λ i part there number.
    let now = part-before w.parts v.parts i part (sym same.parts) there in
    none i now.0 now.1 (numbers-same now.0 part now.2 ∙ number))
wrong-same v w p key same (inr at) =
    let was = part-before v.parts w.parts at.0 at.1 same.parts at.2 in
    inr (at.0, was.0, was.1, numbers-same was.0 at.1 was.2 ∙ at.3, subst (λ s. IsWrongIn s was.0 p key) same.schema (wrong-still w.schema was.0 at.1 p key was.2 at.4))

pub damage-of-all : (v w : SnapshotView) (keys : List Folded) (wanted run : List Wanted) (at count : ℕ) (d : Damaged) → SameButCounts v w → run ≡ take count (drop at wanted)
    → IsReadingDamage w keys run d → IsReadingDamage v keys wanted d
damage-of-all v w keys wanted run at count d same is (inl lost) = inl (record {
  told = lost.told;
  at = at + lost.at;
  row = lost.row;
  among = in-drop at lost.at wanted lost.row (in-take count lost.at (drop at wanted) lost.row (ap (λ ws. slice_get ws lost.at) (sym is) ∙ lost.among));
  key = lost.key;
  is = lost.is;
  wrong = wrong-same v w lost.row.place lost.key.key same lost.wrong;
  lost = λ stored tells has. lost.lost stored (tells-same v w stored same tells)
      (has.0, ap (λ l. l lost.row.place) (live-same stored v w same) ∙ has.1, ap (λ s. key_of s has.0) same.schema ∙ has.2);
})
damage-of-all v w keys wanted run at count d same is (inr broken) =
    let was = part-before v.parts w.parts broken.i broken.part same.parts broken.there in
    inr (record {
      i = broken.i;
      part = was.0;
      there = was.1;
      at = at + broken.at;
      row = broken.row;
      among = in-drop at broken.at wanted broken.row (in-take count broken.at (drop at wanted) broken.row (ap (λ ws. slice_get ws broken.at) (sym is) ∙ broken.among));
      file = numbers-same was.0 broken.part was.2 ∙ broken.file;
      damage = subst (λ s. IsBlockDamage s was.0 (broken.row.place.row / 1024) d) same.schema (block-damage w.schema was.0 broken.part (broken.row.place.row / 1024) d was.2 broken.damage);
      none = λ piece has. broken.none piece (subst (λ s. IsPieceOf s broken.part piece) (sym same.schema) (piece-same v.schema was.0 broken.part piece was.2 has));
    })
  where
    block-damage : (s : Layout) (a b : PartView) (block : ℕ) (d : Damaged) → still a ≡ still b → IsBlockDamage s b block d → IsBlockDamage s a block d
    block-damage s a b block d e h = subst (λ (p : PartView). IsBlockDamage s p block d) (sym e) h

    piece-same : (s : Layout) (a b : PartView) (piece : Piece) → still a ≡ still b → IsPieceOf s a piece → IsPieceOf s b piece
    piece-same s a b piece e h =
        let there : IsPieceOf s (still b) piece = subst (λ (p : PartView). IsPieceOf s p piece) e (record { file = h.file; told = h.told; is = h.is; dead = h.dead }) in
        record { file = there.file; told = there.told; is = there.is; dead = there.dead }

-- ---- counts

pub cause-then : {U : Type 0} (old mid new : ℕ) (result : Result U ReadFault) → mid ≡ old → ReadsCause mid new result → ReadsCause old new result
cause-then old mid new result e h = subst (λ n. ReadsCause n new result) e h
