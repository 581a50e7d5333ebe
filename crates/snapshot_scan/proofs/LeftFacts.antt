-- What the parts of a scan have left, and what taking the first row leaves.
use Rattle.std.proofs.Common.{◌≡◌, refl, ap, sym, subst, ◌∙◌, ℕ, zero, suc, ◌<◌, ◌≤◌, List, [], ◌∷◌, ◌++◌, length, drop, slice_get, slice_set, Option, Some, None, arith}
use Rattle.std.specs.List.{AllByRecursion}
use Rattle.pk_values.specs.Schemas.{Layout}
use Rattle.pk_values.specs.declared.cells.Value.{Value}
use Rattle.dev_traits.specs.Reader.{ReaderView}
use Rattle.rowsets.specs.Scans.{Piece}
use Rattle.row_merge.specs.Brackets.{IsLeading}
use Rattle.row_merge.specs.Cursors.{AllFit, CursorView, due, Fit, front_at}
use Rattle.row_merge.specs.Merge.{comes_before, head_at, head_of, merge_all}
use Rattle.row_merge.proofs.MergeFacts.{merge_first, merge_none}
use Rattle.snapshot_scan.specs.Parts.{PartView, IsPieceOf, read_by}
use Rattle.snapshot_scan.specs.Scans.{AreCursors, Gives, NoneDue, rows_ahead, rows_left}
use Rattle.snapshot_scan.specs.Snapshots.{ArePieces, SnapshotView}
use Rattle.snapshot_scan.proofs.ListFacts.{none_some, set_same, some_one}
use Rattle.snapshot_scan.proofs.PartFacts.{piece_still}

abbrev Row : Type 0
Row = List Value

-- ---- pieces

pub piece_there : (s : Layout) (parts : List PartView) (pieces : List Piece) (i : ℕ) (part : PartView) → ArePieces s parts pieces → slice_get parts i ≡ Some part
    → (piece : Piece) × (slice_get pieces i ≡ Some piece) × IsPieceOf s part piece
piece_there s [] pieces i part are e = absurd (none_some part e)
piece_there s (x ∷ parts) [] i part are e = absurd are
piece_there s (x ∷ parts) (piece ∷ pieces) zero part are e = (piece, refl, subst (λ p. IsPieceOf s p piece) (some_one x part e) are.0)
piece_there s (x ∷ parts) (piece ∷ pieces) (suc i) part are e = piece_there s parts pieces i part are.1 e

pub pieces_long : (s : Layout) (parts : List PartView) (pieces : List Piece) → ArePieces s parts pieces → length pieces ≡ length parts
pieces_long s [] [] are = refl
pieces_long s [] (piece ∷ pieces) are = absurd are
pieces_long s (x ∷ parts) [] are = absurd are
pieces_long s (x ∷ parts) (piece ∷ pieces) are = ap suc (pieces_long s parts pieces are.1)

pub pieces_set : (s : Layout) (parts : List PartView) (pieces : List Piece) (i : ℕ) (part : PartView) (reader : ReaderView) → ArePieces s parts pieces → slice_get parts i ≡ Some part
    → reader.bytes ≡ part.reader.bytes → ArePieces s (slice_set parts i (read_by reader part)) pieces
pieces_set s [] pieces i part reader are e same = absurd (none_some part e)
pieces_set s (x ∷ parts) [] i part reader are e same = absurd are
pieces_set s (x ∷ parts) (piece ∷ pieces) zero part reader are e same = (piece_still s part reader piece (subst (λ p. IsPieceOf s p piece) (some_one x part e) are.0) same, are.1)
pieces_set s (x ∷ parts) (piece ∷ pieces) (suc i) part reader are e same = (are.0, pieces_set s parts pieces i part reader are.1 e same)

-- ---- what is left

-- another cursor that has the same left
pub left_set : (cs : List CursorView) (pieces : List Piece) (i : ℕ) (old new : CursorView) → slice_get cs i ≡ Some old
    → ((piece : Piece) → slice_get pieces i ≡ Some piece → new.rows ++ rows_ahead new.ahead piece ≡ old.rows ++ rows_ahead old.ahead piece)
    → rows_left (slice_set cs i new) pieces ≡ rows_left cs pieces
left_set [] pieces i old new e same = absurd (none_some old e)
left_set (c ∷ cs) [] zero old new e same = refl
left_set (c ∷ cs) [] (suc i) old new e same = refl
left_set (c ∷ cs) (piece ∷ pieces) zero old new e same = ap (λ xs. xs ∷ rows_left cs pieces) (same piece refl ∙ ap (λ (c : CursorView). c.rows ++ rows_ahead c.ahead piece) (sym (some_one c old e)))
left_set (c ∷ cs) (piece ∷ pieces) (suc i) old new e same = ap (λ xs. (c.rows ++ rows_ahead c.ahead piece) ∷ xs) (left_set cs pieces i old new e same)

abbrev made : List Row → Option ℕ → CursorView
made rows ahead = record { rows = rows; ahead = ahead }

pub due_is : (c : CursorView) (b : ℕ) → c.rows ≡ [] → c.ahead ≡ Some b → c ≡ record { rows = []; ahead = Some b }
due_is c b e f = ap (λ rows. made rows c.ahead) e ∙ ap (made []) f

-- what is due of a cursor
pub due_some : (c : CursorView) (b : ℕ) → due c ≡ Some b → c ≡ record { rows = []; ahead = Some b }
due_some c b e = go c.rows refl e
  where
    go : (rows : List Row) → c.rows ≡ rows → due (record { rows = rows; ahead = c.ahead }) ≡ Some b → c ≡ record { rows = []; ahead = Some b }
    go [] f g = due_is c b f g
    go (x ∷ xs) f g = absurd (none_some b g)

pub due_none : (c : CursorView) (b : ℕ) → due c ≡ None → c ≡ record { rows = []; ahead = Some b } → ⊥
due_none c b e f = none_some b (sym e ∙ ap due f)

-- where no block is due what is left begins with the rows at hand
head_left : (c : CursorView) (piece : Piece) → ((b : ℕ) → c ≡ record { rows = []; ahead = Some b } → ⊥) → head_of (c.rows ++ rows_ahead c.ahead piece) ≡ head_of c.rows
head_left c piece none = go c.rows c.ahead refl refl
  where
    go : (rows : List Row) (ahead : Option ℕ) → c.rows ≡ rows → c.ahead ≡ ahead → head_of (rows ++ rows_ahead ahead piece) ≡ head_of rows
    go (x ∷ xs) ahead e f = refl
    go [] None e f = refl
    go [] (Some b) e f = absurd (none b (due_is c b e f))

pub front_left : (cs : List CursorView) (pieces : List Piece) → length pieces ≡ length cs → NoneDue cs → (i : ℕ) → head_at (rows_left cs pieces) i ≡ front_at cs i
front_left [] pieces long none i = refl
front_left (c ∷ cs) [] long none i = absurd (omega arith)
front_left (c ∷ cs) (piece ∷ pieces) long none zero = head_left c piece (λ b e. none 0 b (ap Some e))
front_left (c ∷ cs) (piece ∷ pieces) long none (suc i) = front_left cs pieces (omega arith) (λ j b e. none (suc j) b e) i

-- a row less at hand
abbrev pub one_less : CursorView → CursorView
one_less c = record { rows = drop 1 c.rows; ahead = c.ahead }

left_taken : (cs : List CursorView) (pieces : List Piece) (w : ℕ) (c : CursorView) (r : Row) (q : List Row) → length pieces ≡ length cs → slice_get cs w ≡ Some c → c.rows ≡ r ∷ q
    → (t : List Row) × (slice_get (rows_left cs pieces) w ≡ Some (r ∷ t)) × (rows_left (slice_set cs w (one_less c)) pieces ≡ slice_set (rows_left cs pieces) w t)
left_taken [] pieces w c r q long e f = absurd (none_some c e)
left_taken (x ∷ cs) [] w c r q long e f = absurd (omega arith)
left_taken (x ∷ cs) (piece ∷ pieces) zero c r q long e f = (
  q ++ rows_ahead c.ahead piece,
  ap (λ (y : CursorView). Some (y.rows ++ rows_ahead y.ahead piece)) (some_one x c e) ∙ ap (λ rows. Some (rows ++ rows_ahead c.ahead piece)) f,
  ap (λ rows. (drop 1 rows ++ rows_ahead c.ahead piece) ∷ rows_left cs pieces) f,
)
left_taken (x ∷ cs) (piece ∷ pieces) (suc w) c r q long e f =
    let more = left_taken cs pieces w c r q (omega arith) e f in
    (more.0, more.1, ap (λ ls. (x.rows ++ rows_ahead x.ahead piece) ∷ ls) more.2)

front_is : (cs : List CursorView) (i : ℕ) (c : CursorView) → slice_get cs i ≡ Some c → front_at cs i ≡ head_of c.rows
front_is [] i c e = absurd (none_some c e)
front_is (x ∷ cs) zero c e = ap (λ (y : CursorView). head_of y.rows) (some_one x c e)
front_is (x ∷ cs) (suc i) c e = front_is cs i c e

-- what the first cursor gives is the first row of all, and its others are left
pub gives_first : (s : Layout) (cs : List CursorView) (pieces : List Piece) (w : ℕ) (c : CursorView) → length pieces ≡ length cs → NoneDue cs → IsLeading s (front_at cs) w
    → slice_get cs w ≡ Some c → Gives (head_of c.rows) (merge_all s (rows_left cs pieces)) (λ rest. rest ≡ merge_all s (rows_left (slice_set cs w (one_less c)) pieces))
gives_first s cs pieces w c long none lead at = go c.rows refl
  where
    fronts : (i : ℕ) → head_at (rows_left cs pieces) i ≡ front_at cs i
    fronts = front_left cs pieces long none

    leads : IsLeading s (head_at (rows_left cs pieces)) w
    leads = record {
      before = λ i lt. ap (λ o. comes_before s o (head_at (rows_left cs pieces) i)) (fronts w) ∙ ap (comes_before s (front_at cs w)) (fronts i) ∙ lead.before i lt;
      behind = λ i le. ap (λ o. comes_before s o (head_at (rows_left cs pieces) w)) (fronts i) ∙ ap (comes_before s (front_at cs i)) (fronts w) ∙ lead.behind i le;
    }

    go : (rows : List Row) → c.rows ≡ rows → Gives (head_of rows) (merge_all s (rows_left cs pieces)) (λ rest. rest ≡ merge_all s (rows_left (slice_set cs w (one_less c)) pieces))
    go [] e =
        let all = merge_none s (rows_left cs pieces) w leads (fronts w ∙ front_is cs w c at ∙ ap head_of e) in
        let still : one_less c ≡ c = ap (λ rows. made (drop 1 rows) c.ahead) e ∙ ap (λ rows. made rows c.ahead) (sym e) in
        (all, sym (ap (λ d. merge_all s (rows_left (slice_set cs w d) pieces)) still ∙ ap (λ ds. merge_all s (rows_left ds pieces)) (set_same cs w c at) ∙ all))
    go (r ∷ q) e =
        let t = left_taken cs pieces w c r q long at e in
        (merge_all s (slice_set (rows_left cs pieces) w t.0), merge_first s (rows_left cs pieces) w r t.0 t.1 leads, sym (ap (merge_all s) t.2))

-- ---- cursors

pub same_front : (cs ds : List CursorView) (i : ℕ) → slice_get cs i ≡ slice_get ds i → front_at cs i ≡ front_at ds i
same_front [] [] i e = refl
same_front [] (d ∷ ds) zero e = absurd (none_some d e)
same_front [] (d ∷ ds) (suc i) e = same_front [] ds i e
same_front (c ∷ cs) [] zero e = absurd (none_some c (sym e))
same_front (c ∷ cs) [] (suc i) e = same_front cs [] i e
same_front (c ∷ cs) (d ∷ ds) zero e = ap (λ (y : CursorView). head_of y.rows) (some_one c d e)
same_front (c ∷ cs) (d ∷ ds) (suc i) e = same_front cs ds i e

pub no_front : (cs : List CursorView) (i : ℕ) → length cs ≤ i → front_at cs i ≡ None
no_front [] i le = refl
no_front (c ∷ cs) zero le = absurd (omega arith)
no_front (c ∷ cs) (suc i) le = no_front cs i (omega arith)

pub all_by_place : {X : Type 0} (P : X → Type 0) (xs : List X) → ((i : ℕ) (x : X) → slice_get xs i ≡ Some x → P x) → AllByRecursion P xs
all_by_place P [] h = tt
all_by_place P (x ∷ xs) h = (h 0 x refl, all_by_place P xs (λ i y e. h (suc i) y e))

pub get_there : {X : Type 0} (xs : List X) (i : ℕ) → i < length xs → (x : X) × (slice_get xs i ≡ Some x)
get_there [] i lt = absurd (omega arith)
get_there (x ∷ xs) zero lt = (x, refl)
get_there (x ∷ xs) (suc i) lt = get_there xs i (omega arith)

pub got_within : {X : Type 0} (xs : List X) (i : ℕ) (x : X) → slice_get xs i ≡ Some x → i < length xs
got_within [] i x e = absurd (none_some x e)
got_within (y ∷ xs) zero x e = omega arith
got_within (y ∷ xs) (suc i) x e = let lt = got_within xs i x e in omega arith

pub all_fit : (v : SnapshotView) (cs : List CursorView) → AreCursors v cs → AllFit v.schema cs
all_fit v cs are = all_by_place (Fit v.schema) cs (λ i c e. let lt = got_within cs i c e in let long = are.long in let part = get_there v.parts i (omega arith) in (are.each i part.0 c part.1 e).0)
