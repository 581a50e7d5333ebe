-- How many rows are live, and how often readers failed.
use Rattle.std.proofs.Common.{◌≡◌, refl, ap, sym, subst, ◌∙◌, ℕ, zero, suc, ◌+◌, ◌-◌, ◌*◌, ◌<◌, ◌≤◌, min, List, [], ◌∷◌, length, map, take, slice_get, get_or, Some, arith, length-append}
use Rattle.std.specs.List.{AllByRecursion}
use Rattle.std.specs.FinMap.{len}
use Rattle.std.proofs.lemmas.List.{length-map}
use Rattle.pk_values.specs.Schemas.{Layout}
use Rattle.pk_model.specs.Tables.{Rows}
use Rattle.dev_traits.specs.Causes.{Counts}
use Rattle.dev_traits.specs.Reader.{ReaderView}
use Rattle.segment_read.specs.declared.segments.Segment.{Segment}
use Rattle.del_vector.specs.DeadRows.{AreDeadRows}
use Rattle.rowsets.specs.Marks.{Rises}
use Rattle.rowsets.specs.Scans.{Piece, live_rows, listed}
use Rattle.rowsets.proofs.ScanFacts.{piece_is_counted, listed_are_counted}
use Rattle.snapshot_scan.specs.Parts.{PartView, IsPart, IsPieceOf, seen}
use Rattle.snapshot_scan.specs.Snapshots.{ArePieces, IsSnapshotOf, SnapshotView, fault_count, live_count}
use Rattle.snapshot_scan.proofs.ListFacts.{all_get, all_more, at_index, map_get, none_some, some_one}
use Rattle.snapshot_scan.proofs.PartFacts.{few_rows, piece_long}

few_from : (n x : ℕ) (xs : List ℕ) → Rises (x ∷ xs) → AllByRecursion (λ r. r < n) (x ∷ xs) → x + length (x ∷ xs) ≤ n
few_from n x [] h a = let lt : x < n = a.0 in omega arith
few_from n x (y ∷ ys) h a = let more = few_from n y ys h.1 a.1 in let lt : x < y = h.0 in omega arith

-- there are no more dead rows than rows
pub dead_few : (n : ℕ) (xs : List ℕ) → Rises xs → AllByRecursion (λ r. r < n) xs → length xs ≤ n
dead_few n [] h a = omega arith
dead_few n (x ∷ xs) h a = let most = few_from n x xs h a in omega arith

pub live_more : (parts : List PartView) (i : ℕ) (part : PartView) → slice_get parts i ≡ Some part → live_count (take (suc i) parts) ≡ live_count (take i parts) + (part.footer.rows - length part.dead)
live_more [] i part is = absurd (none_some part is)
live_more (x ∷ parts) zero part is = let same = ap (λ (p : PartView). p.footer.rows - length p.dead) (some_one x part is) in omega arith
live_more (x ∷ parts) (suc i) part is = let more = live_more parts i part is in omega arith

pub faults_more : (parts : List PartView) (i : ℕ) (part : PartView) → slice_get parts i ≡ Some part → fault_count (take (suc i) parts) ≡ fault_count (take i parts) + part.reader.faults
faults_more [] i part is = absurd (none_some part is)
faults_more (x ∷ parts) zero part is = let same = ap (λ (p : PartView). p.reader.faults) (some_one x part is) in omega arith
faults_more (x ∷ parts) (suc i) part is = let more = faults_more parts i part is in omega arith

counted : (s : Layout) (parts : List PartView) (pieces : List Piece) → ArePieces s parts pieces → AllByRecursion (λ part. Rises part.dead) parts → AllByRecursion (IsPart s) parts
    → length (listed pieces) ≡ live_count parts
counted s [] [] told rise is = refl
counted s [] (piece ∷ pieces) told rise is = absurd told
counted s (part ∷ parts) [] told rise is = absurd told
counted s (part ∷ parts) (piece ∷ pieces) told rise is =
    let first : IsPieceOf s part piece = told.0 in
    let same : part.dead ≡ piece.dead = first.dead in
    let long : part.footer.rows ≡ length piece.rows = piece_long s part piece first in
    let within : AllByRecursion (λ r. r < part.footer.rows) part.dead = is.0.within in
    let one = piece_is_counted piece (subst Rises same rise.0) (subst (λ n. AllByRecursion (λ r. r < n) piece.dead) long (subst (AllByRecursion (λ r. r < part.footer.rows)) same within)) in
    let dead = ap (length) same in
    let more = counted s parts pieces told.1 rise.1 is.1 in
    let both = length-append (live_rows piece) (listed pieces) in
    omega arith

pub live_is_size : (v : SnapshotView) (m : Rows) → AllByRecursion (λ part. Rises part.dead) v.parts → AllByRecursion (IsPart v.schema) v.parts → IsSnapshotOf v m → live_count v.parts ≡ len m
live_is_size v m rise is stands = sym (counted v.schema v.parts stands.pieces stands.told rise is) ∙ listed_are_counted v.schema (listed stands.pieces) m stands.rows

pub counts_then : (a b x y m : ℕ) → Counts a x y → Counts b y m → Counts (a + b) x m
counts_then a b x y m first second = omega arith

-- ---- the loops over the parts

live_step : (parts : List PartView) (i : ℕ) (part : PartView) → slice_get parts i ≡ Some part → live_count (take (i + 1) parts) ≡ live_count (take i parts) + (part.footer.rows - length part.dead)
live_step parts i part is = let at : i + 1 ≡ suc i = omega arith in ap (λ n. live_count (take n parts)) at ∙ live_more parts i part is

take_all : {X : Type 0} (n : ℕ) (xs : List X) → length xs ≤ n → take n xs ≡ xs
take_all zero [] le = refl
take_all zero (x ∷ xs) le = absurd (omega arith)
take_all (suc n) [] le = refl
take_all (suc n) (x ∷ xs) le = ap (λ ys. x ∷ ys) (take_all n xs (omega arith))

pub dead_fit : (s : Layout) (parts : List PartView) (i : ℕ) (part : PartView) → AllByRecursion (IsPart s) parts → slice_get parts i ≡ Some part → AreDeadRows part.dead
    → (length part.dead ≤ part.footer.rows) × (part.footer.rows ≤ 65536)
dead_fit s parts i part are at dead =
    let is : IsPart s part = all_get (IsPart s) parts i part are at in
    (dead_few part.footer.rows part.dead dead.rise is.within, few_rows part.footer is.is)

pub count_step : (s : Layout) (parts : List PartView) (i count more : ℕ) (part : PartView) → AllByRecursion (IsPart s) parts → slice_get parts i ≡ Some part → AreDeadRows part.dead
    → more ≡ part.footer.rows - length part.dead
    → count ≡ live_count (take i parts) → count ≤ i * 65536 → AllByRecursion (λ p. Rises p.dead) (take i parts)
    → (count + more ≡ live_count (take (i + 1) parts)) × (count + more ≤ (i + 1) * 65536) × AllByRecursion (λ p. Rises p.dead) (take (i + 1) parts)
count_step s parts i count more part are at dead is so_far low rise =
    let fit = dead_fit s parts i part are at dead in
    let few = fit.1 in
    let step = live_step parts i part at in
    let next : suc i ≡ i + 1 = omega arith in
    (omega arith, omega arith, subst (λ n. AllByRecursion (λ p. Rises p.dead) (take n parts)) next (all_more (λ p. Rises p.dead) parts i part at rise dead.rise))

pub count_ends : (v : SnapshotView) (m : Rows) (i count : ℕ) → length v.parts ≤ i → count ≡ live_count (take i v.parts) → AllByRecursion (λ p. Rises p.dead) (take i v.parts)
    → AllByRecursion (IsPart v.schema) v.parts → IsSnapshotOf v m → count ≡ len m
count_ends v m i count le is rise are stands =
    is ∙ ap live_count (take_all i v.parts le) ∙ live_is_size v m (subst (AllByRecursion (λ p. Rises p.dead)) (take_all i v.parts le) rise) are stands

pub faults_step : (parts : List PartView) (i M faults more sum : ℕ) (part : PartView) → slice_get parts i ≡ Some part → more ≡ part.reader.faults
    → faults ≡ min (fault_count (take i parts)) M → sum ≡ min (faults + more) M → sum ≡ min (fault_count (take (i + 1) parts)) M
faults_step parts i M faults more sum part at is so_far step =
    let one = faults_more parts i part at in
    let next : i + 1 ≡ suc i = omega arith in
    let same = ap (λ n. fault_count (take n parts)) next in
    omega arith

-- the parts as they are seen, found by a loop over them
module _ {R : Type 0} (view : R → ReaderView) (items shown : List (Segment R × List ℕ)) (same : shown ≡ items) where
  pub shown_at : (i : ℕ) (x : Segment R × List ℕ) → i < length shown → x ≡ get_or shown i x → slice_get (map (seen view) items) i ≡ Some (seen view x)
  shown_at i x lt is = subst (λ xs. slice_get (map (seen view) xs) i ≡ Some (seen view x)) same (map_get (seen view) shown i x (at_index shown i x lt is))

  pub shown_long : (i : ℕ) → length shown ≤ i → length (map (seen view) items) ≤ i
  shown_long i le = let n = length-map items (seen view) in let m = ap (length) same in omega arith

-- a reader is handed back, and the others are left
pub given_back : {R : Type 0} (view : R → ReaderView) (left next : List (Segment R × List ℕ)) (x : Segment R × List ℕ) (old mid m : ℕ) → left ≡ x ∷ next
    → Counts (view x.0.reader).faults old mid → Counts (fault_count (map (seen view) next)) mid m → Counts (fault_count (map (seen view) left)) old m
given_back view left next x old mid m is first second =
    subst (λ xs. Counts (fault_count (map (seen view) xs)) old m) (sym is) (counts_then (view x.0.reader).faults (fault_count (map (seen view) next)) old mid m first second)

pub all_given_back : {R : Type 0} (view : R → ReaderView) (left : List (Segment R × List ℕ)) (now : ℕ) → left ≡ [] → Counts (fault_count (map (seen view) left)) now now
all_given_back view left now none = subst (λ xs. Counts (fault_count (map (seen view) xs)) now now) (sym none) (omega arith)
