-- Reading the block that is due, and taking a row, keep what holds of a scan.
use Rattle.std.proofs.Common.{◌≡◌, refl, ap, sym, subst, ◌∙◌, ◌⊎◌, inl, inr, ℕ, ◌<◌, ◌==◌, List, [], ◌∷◌, ◌++◌, length, drop, slice_get, slice_set, get_or, Option, Some, None, true, false, Result, Ok, Err, IfOk, IfErr, IfSome, All, IsTrue, arith}
use Rattle.std.proofs.lemmas.Bool.{eqb-true, eqb-false}
use Rattle.std.proofs.lemmas.List.Elements.{All-tail}
use Rattle.pk_values.specs.Schemas.{Layout, fits_row}
use Rattle.pk_values.specs.declared.cells.Value.{Value}
use Rattle.dev_traits.specs.Reader.{ReaderView}
use Rattle.dev_traits.specs.declared.faults.ReadFault.{ReadFault}
use Rattle.segment_read.specs.Reads.{OnDamage, Reading}
use Rattle.rowsets.specs.Scans.{Piece}
use Rattle.row_merge.specs.Brackets.{end, IsBracket, IsStale, start}
use Rattle.row_merge.specs.Cursors.{CursorView, due, front_at}
use Rattle.row_merge.specs.declared.brackets.Bracket.{Bracket}
use Rattle.row_merge.proofs.BracketFacts.{stale_of, stale_still}
use Rattle.snapshot_scan.specs.Parts.{PartView, IsPieceOf, live_from, read_by}
use Rattle.snapshot_scan.specs.Scans.{AreCursors, HasLive, IsCursor, IsDue, IsPlayed, IsSettled, NoneDue, ReadOn, ReadsDue, rows_ahead, rows_left, Taken}
use Rattle.snapshot_scan.specs.Snapshots.{ArePieces, ReadsPart, SnapshotView}
use Rattle.snapshot_scan.proofs.ListFacts.{at_index, get_other, get_set, length-set, some_one}
use Rattle.snapshot_scan.proofs.LeftFacts.{due_none, due_some, left_set, one_less, piece_there, pieces_set, same_front}
use Rattle.snapshot_scan.proofs.PartFacts.{on_damage}

abbrev Row : Type 0
Row = List Value

pub same_place : (i j : ℕ) → (i ≡ j) ⊎ (i ≡ j → ⊥)
same_place i j = elim (i == j) as (λ t. (i == j) ≡ t → (i ≡ j) ⊎ (i ≡ j → ⊥)) [
  | true ↦ λ e. inl (eqb-true i j e)
  | false ↦ λ e. inr (eqb-false i j e)
] refl

-- another cursor of a part
pub cursors_set : (v : SnapshotView) (cs : List CursorView) (i : ℕ) (old new : CursorView) (part : PartView) → AreCursors v cs → slice_get cs i ≡ Some old → slice_get v.parts i ≡ Some part
    → IsCursor v.schema part new → AreCursors v (slice_set cs i new)
cursors_set v cs i old new part are at there is = record { long = length-set cs i new ∙ are.long; each = each }
  where
    each : (j : ℕ) (p : PartView) (c : CursorView) → slice_get v.parts j ≡ Some p → slice_get (slice_set cs i new) j ≡ Some c → IsCursor v.schema p c
    each j p c e f = elim (same_place j i) [
      | inl g ↦
          let c_is : new ≡ c = some_one new c (sym (get_set cs i old new at) ∙ ap (slice_get (slice_set cs i new)) (sym g) ∙ f) in
          let p_is : part ≡ p = some_one part p (sym there ∙ ap (slice_get v.parts) (sym g) ∙ e) in
          subst (λ d. IsCursor v.schema p d) c_is (subst (λ q. IsCursor v.schema q new) p_is is)
      | inr g ↦ are.each j p c e (sym (get_other cs i j new g) ∙ f)
    ]

-- the same cursors after a read
pub cursors_read : (v now : SnapshotView) (cs : List CursorView) (i : ℕ) (part : PartView) (reader : ReaderView) → AreCursors v cs → now.schema ≡ v.schema → slice_get v.parts i ≡ Some part
    → now.parts ≡ slice_set v.parts i (read_by reader part) → AreCursors now cs
cursors_read v now cs i part reader are schema there is = record { long = are.long ∙ sym (ap length is ∙ length-set v.parts i (read_by reader part)); each = each }
  where
    each : (j : ℕ) (p : PartView) (c : CursorView) → slice_get now.parts j ≡ Some p → slice_get cs j ≡ Some c → IsCursor now.schema p c
    each j p c e f = subst (λ s. IsCursor s p c) (sym schema) (elim (same_place j i) [
      | inl g ↦
          let p_is : read_by reader part ≡ p = some_one (read_by reader part) p (sym (get_set v.parts i part (read_by reader part) there) ∙ ap (λ ps. slice_get ps i) (sym is) ∙ ap (slice_get now.parts) (sym g) ∙ e) in
          let before : IsCursor v.schema part c = are.each i part c there (ap (slice_get cs) (sym g) ∙ f) in
          subst (λ q. IsCursor v.schema q c) p_is before
      | inr g ↦ are.each j p c (sym (get_other v.parts i j (read_by reader part) g) ∙ ap (λ ps. slice_get ps j) (sym is) ∙ e) f
    ])

reading_same : {T : Type 0} (n : ℕ) (old new : ReaderView) (result : Result T ReadFault) → Reading n old new result → new.bytes ≡ old.bytes
reading_same n old new (Ok x) h = h.same.bytes
reading_same n old new (Err e) h = h.same.bytes

-- ---- the block that is due

module _ (v now : SnapshotView) (cs : List CursorView) (i b : ℕ) (result : Result CursorView ReadFault) (are : AreCursors v cs) (schema : now.schema ≡ v.schema)
    (reads : ReadsPart i v.parts now.parts (λ part reader. ReadOn v.schema part b reader result)) where
  pub still_pieces : (pieces : List Piece) → ArePieces v.schema v.parts pieces → ArePieces now.schema now.parts pieces
  still_pieces pieces told =
      subst (λ s. ArePieces s now.parts pieces) (sym schema) (subst (λ ps. ArePieces v.schema ps pieces) (sym reads.now)
      (pieces_set v.schema v.parts pieces i reads.part reads.reader told reads.there (reading_same 1 reads.part.reader reads.reader result reads.how.reading)))

  pub still_cursors : AreCursors now cs
  still_cursors = cursors_read v now cs i reads.part reads.reader are schema reads.there reads.now

  pub no_piece_damaged : IfErr result (λ e. OnDamage e (λ damaged. (pieces : List Piece) → ArePieces v.schema v.parts pieces → ⊥))
  no_piece_damaged = go result reads.how.intact
    where
      go : (r : Result CursorView ReadFault) → IfErr r (λ e. OnDamage e (λ damaged. (piece : Piece) → IsPieceOf v.schema reads.part piece → ⊥))
          → IfErr r (λ e. OnDamage e (λ damaged. (pieces : List Piece) → ArePieces v.schema v.parts pieces → ⊥))
      go (Ok c) h = tt
      go (Err e) h = on_damage e (λ damaged. (piece : Piece) → IsPieceOf v.schema reads.part piece → ⊥) (λ damaged. (pieces : List Piece) → ArePieces v.schema v.parts pieces → ⊥)
          (λ damaged none pieces told. let at = piece_there v.schema v.parts pieces i reads.part told reads.there in none at.0 at.2) h

  module _ (c : CursorView) (ok : result ≡ Ok c) (due : IsDue cs i b) where
    new_is : IsCursor v.schema reads.part c
    new_is = subst (λ (r : Result CursorView ReadFault). IfOk r (IsCursor v.schema reads.part)) ok reads.how.cursor

    pub new_cursors : AreCursors now (slice_set cs i c)
    new_cursors = cursors_read v now (slice_set cs i c) i reads.part reads.reader
        (cursors_set v cs i (record { rows = []; ahead = Some b }) c reads.part are due reads.there new_is) schema reads.there reads.now

    pub new_left : (pieces : List Piece) → ArePieces v.schema v.parts pieces → rows_left (slice_set cs i c) pieces ≡ rows_left cs pieces
    new_left pieces told = left_set cs pieces i (record { rows = []; ahead = Some b }) c due (λ piece e.
        let at = piece_there v.schema v.parts pieces i reads.part told reads.there in
        let is : at.0 ≡ piece = some_one at.0 piece (sym at.1 ∙ e) in
        let rows = subst (λ (r : Result CursorView ReadFault). IfOk r (λ c. (piece : Piece) → IsPieceOf v.schema reads.part piece → c.rows ++ rows_ahead c.ahead piece ≡ live_from b piece)) ok reads.how.rows in
        rows piece (subst (IsPieceOf v.schema reads.part) is at.2))

    pub new_settled : IsSettled (slice_set cs i c) i
    new_settled d e =
        let some = subst (λ (r : Result CursorView ReadFault). IfOk r (λ c. c.rows ≡ [] → ⊥)) ok reads.how.some in
        some (ap (λ (c : CursorView). c.rows) (some_one c (record { rows = []; ahead = Some d }) (sym (get_set cs i (record { rows = []; ahead = Some b }) c due) ∙ e)))

-- ---- a row is taken

less_fits : (s : Layout) (rows : List Row) → All (λ row. IsTrue (fits_row s row)) rows → All (λ row. IsTrue (fits_row s row)) (drop 1 rows)
less_fits s [] h = h
less_fits s (x ∷ xs) h = All-tail (λ row. IsTrue (fits_row s row)) x xs h

module _ (cs new : List CursorView) (w : ℕ) (taken : Taken cs w new) where
  taken_is : new ≡ slice_set cs w (one_less taken.cursor)
  taken_is = taken.now

  other : (j : ℕ) → (j ≡ w → ⊥) → slice_get new j ≡ slice_get cs j
  other j ne = ap (λ ds. slice_get ds j) taken_is ∙ get_other cs w j (one_less taken.cursor) ne

  pub taken_long : length new ≡ length cs
  taken_long = ap length taken_is ∙ length-set cs w (one_less taken.cursor)

  pub taken_cursors : (v : SnapshotView) → AreCursors v cs → AreCursors v new
  taken_cursors v are = record { long = taken_long ∙ are.long; each = each }
    where
      each : (j : ℕ) (p : PartView) (c : CursorView) → slice_get v.parts j ≡ Some p → slice_get new j ≡ Some c → IsCursor v.schema p c
      each j p c e f = elim (same_place j w) [
        | inl g ↦
            let c_is : one_less taken.cursor ≡ c = some_one (one_less taken.cursor) c (sym (get_set cs w taken.cursor (one_less taken.cursor) taken.there) ∙ ap (λ ds. slice_get ds w) (sym taken_is) ∙ ap (slice_get new) (sym g) ∙ f) in
            let before : IsCursor v.schema p taken.cursor = are.each j p taken.cursor e (ap (slice_get cs) g ∙ taken.there) in
            subst (λ d. IsCursor v.schema p d) c_is (less_fits v.schema taken.cursor.rows before.0, before.1)
        | inr g ↦ are.each j p c e (sym (other j g) ∙ f)
      ]

  pub taken_settled : NoneDue cs → (j : ℕ) → (j ≡ w → ⊥) → IsSettled new j
  taken_settled none j ne b e = none j b (sym (other j ne) ∙ e)

  pub taken_played : (s : Layout) (b : Bracket) → IsBracket s (front_at cs) (length cs) b → start b ≡ 0 → end b ≡ length cs → w < length cs → IsPlayed s new w b
  taken_played s b is from to lt = record {
    there = let long = taken_long in omega arith;
    stale = subst (λ n. IsStale s (front_at new) n w b) (sym taken_long) (stale_of s (length cs) w (front_at cs) (front_at new) (λ j ne. same_front new cs j (other j ne)) b is);
    from = from;
    to = to ∙ sym taken_long;
  }

-- another cursor for the part whose matches are stale
pub still_played : (s : Layout) (cs new : List CursorView) (i : ℕ) (b : Bracket) → IsPlayed s cs i b → length new ≡ length cs → ((j : ℕ) → (j ≡ i → ⊥) → slice_get new j ≡ slice_get cs j) → IsPlayed s new i b
still_played s cs new i b is long others = record {
  there = let there = is.there in omega arith;
  stale = subst (λ n. IsStale s (front_at new) n i b) (sym long) (stale_still s (length cs) i (front_at cs) (front_at new) (λ j ne. same_front new cs j (others j ne)) b is.stale);
  from = is.from;
  to = is.to ∙ sym long;
}

pub none_due : (cs new : List CursorView) (i : ℕ) → ((j : ℕ) → (j ≡ i → ⊥) → IsSettled cs j) → ((j : ℕ) → (j ≡ i → ⊥) → slice_get new j ≡ slice_get cs j) → IsSettled new i → NoneDue new
none_due cs new i settled others now j b e = elim (same_place j i) [
  | inl g ↦ now b (ap (slice_get new) (sym g) ∙ e)
  | inr g ↦ settled j g b (sym (others j g) ∙ e)
]

-- ---- what is due of the cursor in a place

pub due_at : (cs : List CursorView) (i : ℕ) (x : CursorView) (o : Option ℕ) (b : ℕ) → i < length cs → x ≡ get_or cs i x → o ≡ due x → o ≡ Some b → IsDue cs i b
due_at cs i x o b lt is e f = at_index cs i x lt is ∙ ap Some (due_some x b (sym e ∙ f))

pub settled_at : (cs : List CursorView) (i : ℕ) (x : CursorView) (o : Option ℕ) → i < length cs → x ≡ get_or cs i x → o ≡ due x → o ≡ None → IsSettled cs i
settled_at cs i x o lt is e f b g = due_none x b (sym e ∙ f) (some_one x (record { rows = []; ahead = Some b }) (sym (at_index cs i x lt is) ∙ g))

pub same_due : (cs : List CursorView) (i b d : ℕ) → IsDue cs i b → IsDue cs i d → b ≡ d
same_due cs i b d e f = some_one b d (ap (λ (c : CursorView). c.ahead) (some_one (record { rows = []; ahead = Some b }) (record { rows = []; ahead = Some d }) (sym e ∙ f)))

pub live_at : (v : SnapshotView) (cs : List CursorView) (i b : ℕ) → AreCursors v cs → IsDue cs i b → IfSome (slice_get v.parts i) (λ part. HasLive part.footer.rows part.dead b)
live_at v cs i b are due = go (slice_get v.parts i) refl
  where
    go : (o : Option PartView) → slice_get v.parts i ≡ o → IfSome o (λ part. HasLive part.footer.rows part.dead b)
    go None e = tt
    go (Some part) e = (are.each i part (record { rows = []; ahead = Some b }) e due).1

pub due_err : (T : Type 0) (s : Layout) (i b d : ℕ) (old new : List PartView) (fault : ReadFault) → b ≡ d → ReadsPart i old new (λ part reader. ReadOn s part b reader (Err fault)) → ReadsDue {T = T} s i d old new (Err fault)
due_err T s i b d old new fault same reads = subst (λ k. ReadsDue {T = T} s i k old new (Err fault)) same (record {
  part = reads.part;
  there = reads.there;
  reader = reads.reader;
  now = reads.now;
  how = (reads.how.reading, reads.how.damaged, tt);
})
