-- The first blocks of all parts, read one after the other.
use Rattle.std.proofs.Common.{◌≡◌, refl, ap, sym, subst, ◌∙◌, ◌⊎◌, inl, inr, ℕ, zero, suc, ◌+◌, ◌-◌, ◌^◌, ◌<◌, ◌≤◌, min, List, [], ◌∷◌, ◌++◌, length, length-append, map, slice_get, Option, Some, None, Ok, Err, arith}
use Rattle.pk_values.specs.Schemas.{Layout}
use Rattle.dev_traits.specs.Reader.{ReaderView}
use Rattle.dev_traits.specs.declared.faults.ReadFault.{ReadFault}
use Rattle.dev_traits.specs.declared.faults.ReadFault.TheVariants as read
use Rattle.segment_read.specs.Reads.{HasFailed, HasRead, MayHaveRead, OnDamage}
use Rattle.rowsets.specs.Scans.{Piece, live_rows}
use Rattle.row_merge.specs.Cursors.{CursorView, due}
use Rattle.snapshot_scan.specs.Parts.{PartView, IsPieceOf, read_by}
use Rattle.snapshot_scan.specs.Scans.{AreCursors, IsCursor, IsDue, IsSettled, PartFailed, ReadsDue, ReadsOnce, rows_ahead, rows_left, ScanFailed}
use Rattle.snapshot_scan.specs.Snapshots.{ArePieces, SnapshotView}
use Rattle.snapshot_scan.proofs.ListFacts.{get_other, get_set, length-set, none_some, some_one}
use Rattle.snapshot_scan.proofs.LeftFacts.{due_none, due_some, get_there, got_within}
use Rattle.snapshot_scan.proofs.PartFacts.{on_damage}
use Rattle.snapshot_scan.proofs.StepFacts.{same_place}

-- a block of the part is due or none is
pub settled_or_due : (cs : List CursorView) (i : ℕ) → i < length cs → IsSettled cs i ⊎ ((b : ℕ) × IsDue cs i b)
settled_or_due cs i lt = let at = get_there cs i lt in go at.0 at.1 (due at.0) refl
  where
    go : (c : CursorView) → slice_get cs i ≡ Some c → (o : Option ℕ) → due c ≡ o → IsSettled cs i ⊎ ((b : ℕ) × IsDue cs i b)
    go c at None e = inl (λ b f. due_none c b e (some_one c (record { rows = []; ahead = Some b }) (sym at ∙ f)))
    go c at (Some b) e = inr (b, at ∙ ap Some (due_some c b e))

abbrev most : ℕ
most = 2 ^ 64 - 1

pub unread : (reader : ReaderView) → MayHaveRead 1 reader reader
unread reader = record { same = record { bytes = refl; size = refl }; reads = omega arith; grows = omega arith; unfailed = refl }

read_once : (old new : ReaderView) → HasRead 1 old new → MayHaveRead 1 old new
read_once old new h = let reads = h.reads in record { same = h.same; reads = omega arith; grows = omega arith; unfailed = h.unfailed }

-- the parts before place i were read at most once, and the others weren't
pub record FilledTo (i : ℕ) (old now : List PartView) : Type 0 where
  pub long : length now ≡ length old
  pub done : (j : ℕ) (part : PartView) → j < i → slice_get old j ≡ Some part → (reader : ReaderView) × (slice_get now j ≡ Some (read_by reader part)) × MayHaveRead 1 part.reader reader
  pub ahead : (j : ℕ) → i ≤ j → slice_get now j ≡ slice_get old j

pub filled_none : (parts : List PartView) → FilledTo 0 parts parts
filled_none parts = record { long = refl; done = λ j part lt e. absurd (omega arith); ahead = λ j le. refl }

pub filled_all : (i : ℕ) (old now : List PartView) → FilledTo i old now → length old ≤ i → ReadsOnce old now
filled_all i old now filled le = record { long = filled.long; each = λ j part e. let lt = got_within old j part e in filled.done j part (omega arith) e }

-- the next part wasn't read
pub filled_settled : (i : ℕ) (old mid new : List PartView) → FilledTo i old mid → new ≡ mid → FilledTo (i + 1) old new
filled_settled i old mid new filled same = subst (FilledTo (i + 1) old) (sym same) (record {
  long = filled.long;
  done = λ j part lt e. elim (same_place j i) [
    | inl g ↦ (part.reader, filled.ahead j (omega arith) ∙ e, unread part.reader)
    | inr g ↦ filled.done j part (omega arith) e
  ];
  ahead = λ j le. filled.ahead j (omega arith);
})

-- it was read
pub filled_due : (s : Layout) (i b : ℕ) (old mid new : List PartView) (u : Unit {0}) → FilledTo i old mid → ReadsDue s i b mid new (Ok u) → FilledTo (i + 1) old new
filled_due s i b old mid new u filled reads = record {
  long = ap length reads.now ∙ length-set mid i (read_by reads.reader reads.part) ∙ filled.long;
  done = λ j part lt e. elim (same_place j i) [
    | inl g ↦
        let is : reads.part ≡ part = some_one reads.part part (sym reads.there ∙ filled.ahead i (omega arith) ∙ ap (slice_get old) (sym g) ∙ e) in (
          reads.reader,
          ap (slice_get new) g ∙ ap (λ ps. slice_get ps i) reads.now ∙ get_set mid i reads.part (read_by reads.reader reads.part) reads.there ∙ ap (λ p. Some (read_by reads.reader p)) is,
          subst (λ (p : PartView). MayHaveRead 1 p.reader reads.reader) is (read_once reads.part.reader reads.reader reads.how.0),
        )
    | inr g ↦ let w = filled.done j part (omega arith) e in
        (w.0, ap (λ ps. slice_get ps j) reads.now ∙ get_other mid i j (read_by reads.reader reads.part) g ∙ w.1, w.2)
  ];
  ahead = λ j le. ap (λ ps. slice_get ps j) reads.now ∙ get_other mid i j (read_by reads.reader reads.part) (λ g. omega arith) ∙ filled.ahead j (omega arith);
}

-- the reading of it failed
pub fill_failed : (v : SnapshotView) (cs : List CursorView) (s : Layout) (i b : ℕ) (fault : ReadFault) (old new : List PartView) → FilledTo i old v.parts → AreCursors v cs → IsDue cs i b
    → ReadsDue {T = Unit {0}} s i b v.parts new (Err fault) → ScanFailed s fault old new
fill_failed v cs s i b fault old new filled are due reads = record { reads = record { long = ap length reads.now ∙ length-set v.parts i (read_by reads.reader reads.part) ∙ filled.long; each = each }; cause = λ ne. failed }
  where
    there : slice_get old i ≡ Some reads.part
    there = sym (filled.ahead i (omega arith)) ∙ reads.there

    now : slice_get new i ≡ Some (read_by reads.reader reads.part)
    now = ap (λ ps. slice_get ps i) reads.now ∙ get_set v.parts i reads.part (read_by reads.reader reads.part) reads.there

    failed : PartFailed s fault old new
    failed = record {
      i = i;
      part = reads.part;
      there = there;
      reader = reads.reader;
      now = now;
      failed = reads.how.0;
      block = b;
      live = (are.each i reads.part (record { rows = []; ahead = Some b }) reads.there due).1;
      damaged = reads.how.1;
    }

    rest : (j : ℕ) → (j ≡ i → ⊥) → slice_get new j ≡ slice_get v.parts j
    rest j ne = ap (λ ps. slice_get ps j) reads.now ∙ get_other v.parts i j (read_by reads.reader reads.part) ne

    each : (j : ℕ) (part : PartView) → slice_get old j ≡ Some part → (reader : ReaderView) × (slice_get new j ≡ Some (read_by reader part)) × (MayHaveRead 1 part.reader reader ⊎ HasFailed 1 part.reader reader fault)
    each j part e = elim (same_place j i) [
      | inl g ↦
          let is : reads.part ≡ part = some_one reads.part part (sym there ∙ ap (slice_get old) (sym g) ∙ e) in
          (reads.reader, ap (slice_get new) g ∙ now ∙ ap (λ p. Some (read_by reads.reader p)) is, inr (subst (λ (p : PartView). HasFailed 1 p.reader reads.reader fault) is reads.how.0))
      | inr g ↦ elim (same_place (min j i) j) [
        | inl h ↦ let w = filled.done j part (omega arith) e in (w.0, rest j g ∙ w.1, inl w.2)
        | inr h ↦ (part.reader, rest j g ∙ filled.ahead j (omega arith) ∙ e, inl (unread part.reader))
      ]
    ]

-- no part failed, and memory was wanted
pub only_memory : (s : Layout) (old new : List PartView) → ReadsOnce old new → ScanFailed s read.Memory old new
only_memory s old new reads = record {
  reads = record { long = reads.long; each = λ j part e. let w = reads.each j part e in (w.0, w.1, inl w.2) };
  cause = λ ne. absurd (ne refl);
}

pub none_read : (parts : List PartView) → ReadsOnce parts parts
none_read parts = record { long = refl; each = λ j part e. (part.reader, e, unread part.reader) }

-- ---- the first cursors

-- the cursors before all live rows of the first i parts
pub record AreFirst (v : SnapshotView) (i : ℕ) (cs : List CursorView) : Type 0 where
  pub long : length cs ≡ i
  pub each : (j : ℕ) (part : PartView) (c : CursorView) → slice_get v.parts j ≡ Some part → slice_get cs j ≡ Some c → IsCursor v.schema part c
  pub rows : (j : ℕ) (part : PartView) (c : CursorView) → slice_get v.parts j ≡ Some part → slice_get cs j ≡ Some c
      → (piece : Piece) → IsPieceOf v.schema part piece → c.rows ++ rows_ahead c.ahead piece ≡ live_rows piece

at_end : {X : Type 0} (xs : List X) (y z : X) (j : ℕ) → slice_get (xs ++ y ∷ []) j ≡ Some z → (slice_get xs j ≡ Some z) ⊎ ((j ≡ length xs) × (y ≡ z))
at_end [] y z zero e = inr (refl, some_one y z e)
at_end [] y z (suc j) e = absurd (none_some z e)
at_end (x ∷ xs) y z zero e = inl e
at_end (x ∷ xs) y z (suc j) e = elim (at_end xs y z j e) [ inl h ↦ inl h | inr h ↦ inr (ap suc h.0, h.1) ]

pub first_none : (v : SnapshotView) → AreFirst v 0 []
first_none v = record { long = refl; each = λ j part c e f. absurd (none_some c f); rows = λ j part c e f. absurd (none_some c f) }

pub first_more : (v : SnapshotView) (i : ℕ) (cs : List CursorView) (c : CursorView) (part : PartView) → AreFirst v i cs → slice_get v.parts i ≡ Some part → IsCursor v.schema part c
    → ((piece : Piece) → IsPieceOf v.schema part piece → c.rows ++ rows_ahead c.ahead piece ≡ live_rows piece) → AreFirst v (i + 1) (cs ++ c ∷ [])
first_more v i cs c part are there is rows = record {
  long = let n = are.long in let m = length-append cs (c ∷ []) in omega arith;
  each = λ j p d e f. elim (at_end cs c d j f) [
    | inl h ↦ are.each j p d e h
    | inr h ↦ subst (IsCursor v.schema p) h.1 (subst (λ q. IsCursor v.schema q c) (same j p h.0 e) is)
  ];
  rows = λ j p d e f piece of_piece. elim (at_end cs c d j f) [
    | inl h ↦ are.rows j p d e h piece of_piece
    | inr h ↦ ap (λ (x : CursorView). x.rows ++ rows_ahead x.ahead piece) (sym h.1) ∙ rows piece (subst (λ q. IsPieceOf v.schema q piece) (sym (same j p h.0 e)) of_piece)
  ];
}
  where
    same : (j : ℕ) (p : PartView) → j ≡ length cs → slice_get v.parts j ≡ Some p → part ≡ p
    same j p e f = some_one part p (sym there ∙ ap (slice_get v.parts) (sym (e ∙ are.long)) ∙ f)

pub first_all : (v : SnapshotView) (i : ℕ) (cs : List CursorView) → AreFirst v i cs → i ≡ length v.parts → AreCursors v cs
first_all v i cs are is = record { long = are.long ∙ is; each = are.each }

first_left_go : (s : Layout) (parts : List PartView) (pieces : List Piece) (cs : List CursorView) → ArePieces s parts pieces → length cs ≡ length parts
    → ((j : ℕ) (part : PartView) (c : CursorView) → slice_get parts j ≡ Some part → slice_get cs j ≡ Some c → (piece : Piece) → IsPieceOf s part piece → c.rows ++ rows_ahead c.ahead piece ≡ live_rows piece)
    → rows_left cs pieces ≡ map live_rows pieces
first_left_go s [] [] [] told long rows = refl
first_left_go s [] [] (c ∷ cs) told long rows = absurd (omega arith)
first_left_go s [] (piece ∷ pieces) cs told long rows = absurd told
first_left_go s (x ∷ parts) [] cs told long rows = absurd told
first_left_go s (x ∷ parts) (piece ∷ pieces) [] told long rows = absurd (omega arith)
first_left_go s (x ∷ parts) (piece ∷ pieces) (c ∷ cs) told long rows =
    ap (λ xs. xs ∷ rows_left cs pieces) (rows 0 x c refl refl piece told.0)
    ∙ ap (λ ls. live_rows piece ∷ ls) (first_left_go s parts pieces cs told.1 (omega arith) (λ j part d e f. rows (suc j) part d e f))

pub first_left : (v : SnapshotView) (i : ℕ) (cs : List CursorView) → AreFirst v i cs → i ≡ length v.parts → (pieces : List Piece) → ArePieces v.schema v.parts pieces → rows_left cs pieces ≡ map live_rows pieces
first_left v i cs are is pieces told = first_left_go v.schema v.parts pieces cs told (are.long ∙ is) are.rows

-- ---- one step of filling

pub settled_more : (cs new : List CursorView) (i : ℕ) → ((j : ℕ) → j < i → IsSettled cs j) → ((j : ℕ) → (j ≡ i → ⊥) → slice_get new j ≡ slice_get cs j) → IsSettled new i → (j : ℕ) → j < i + 1 → IsSettled new j
settled_more cs new i settled others now j lt b e = elim (same_place j i) [
  | inl g ↦ now b (ap (slice_get new) (sym g) ∙ e)
  | inr g ↦ settled j (omega arith) b (sym (others j g) ∙ e)
]

pub none_due_all : (cs : List CursorView) (n : ℕ) → length cs ≤ n → ((j : ℕ) → j < n → IsSettled cs j) → (j b : ℕ) → IsDue cs j b → ⊥
none_due_all cs n le settled j b e = let lt = got_within cs j (record { rows = []; ahead = Some b }) e in settled j (omega arith) b e

pub fill_more : (s : Layout) (cs : List CursorView) (i : ℕ) (old : List PartView) (mid new : SnapshotView) (u : Unit {0}) → FilledTo i old mid.parts → i < length cs → (IsSettled cs i → new ≡ mid)
    → ((b : ℕ) → IsDue cs i b → ReadsDue s i b mid.parts new.parts (Ok u)) → FilledTo (i + 1) old new.parts
fill_more s cs i old mid new u filled lt same reads = elim (settled_or_due cs i lt) [
  | inl h ↦ filled_settled i old mid.parts new.parts filled (ap (λ (v : SnapshotView). v.parts) (same h))
  | inr h ↦ filled_due s i h.0 old mid.parts new.parts u filled (reads h.0 h.1)
]

pub fill_fails : (v : SnapshotView) (cs : List CursorView) (s : Layout) (i : ℕ) (fault : ReadFault) (old new : List PartView) → FilledTo i old v.parts → AreCursors v cs → i < length cs
    → (IsSettled cs i → ⊥) → ((b : ℕ) → IsDue cs i b → ReadsDue {T = Unit {0}} s i b v.parts new (Err fault)) → ScanFailed s fault old new
fill_fails v cs s i fault old new filled are lt unsettled reads = elim (settled_or_due cs i lt) [
  | inl h ↦ absurd (unsettled h)
  | inr h ↦ fill_failed v cs s i h.0 fault old new filled are h.1 (reads h.0 h.1)
]

pub none_damaged : (old mid : SnapshotView) (fault : ReadFault) → ((pieces : List Piece) → ArePieces old.schema old.parts pieces → ArePieces mid.schema mid.parts pieces)
    → OnDamage fault (λ damaged. (pieces : List Piece) → ArePieces mid.schema mid.parts pieces → ⊥) → OnDamage fault (λ damaged. (pieces : List Piece) → ArePieces old.schema old.parts pieces → ⊥)
none_damaged old mid fault still none =
    on_damage fault (λ damaged. (pieces : List Piece) → ArePieces mid.schema mid.parts pieces → ⊥) (λ damaged. (pieces : List Piece) → ArePieces old.schema old.parts pieces → ⊥)
    (λ damaged no pieces told. no pieces (still pieces told)) none
