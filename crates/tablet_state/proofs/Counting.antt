-- How often readers failed.
use Rattle.std.proofs.Common.{◌≡◌, refl, ap, sym, subst, ◌∙◌, ℕ, zero, suc, ◌+◌, ◌-◌, ◌^◌, ◌<◌, min, List, [], ◌∷◌, ◌++◌, length, map, take, slice_get, get_or, Some, None, arith}
use Rattle.std.proofs.lemmas.Option.{slice_get-get_or}
use Rattle.dev_traits.specs.Causes.{Counts}
use Rattle.dev_traits.specs.Reader.{ReaderView}
use Rattle.segment_read.specs.declared.segments.Segment.{Segment}
use Rattle.tablet_state.specs.Seen.{segments_of}
use Rattle.tablet_state.specs.Readies.{NewSegment}
use Rattle.tablet_state.specs.Adopting.{AreAdopted}
use Rattle.tablet_state.specs.State.{SegmentView, reader_faults}

some_one : {X : Type 0} (x y : X) → Some x ≡ Some y → x ≡ y
some_one x y e = cc

none_some : {X : Type 0} (x : X) → None ≡ Some x → ⊥
none_some x e = cc

faults_more : (gs : List SegmentView) (i : ℕ) (g : SegmentView) → slice_get gs i ≡ Some g → reader_faults (take (suc i) gs) ≡ reader_faults (take i gs) + g.reader.faults
faults_more [] i g is = absurd (none_some g is)
faults_more (x ∷ gs) zero g is = let same = ap (λ (h : SegmentView). h.reader.faults) (some_one x g is) in omega arith
faults_more (x ∷ gs) (suc i) g is = let more = faults_more gs i g is in omega arith

pub faults_step : (gs : List SegmentView) (i base most faults more all : ℕ) (g : SegmentView) → slice_get gs i ≡ Some g → more ≡ g.reader.faults
    → faults ≡ min (base + reader_faults (take i gs)) most → all ≡ min (faults + more) most → all ≡ min (base + reader_faults (take (i + 1) gs)) most
faults_step gs i base most faults more all g at is so_far step =
    let one = faults_more gs i g at in
    let next : i + 1 ≡ suc i = omega arith in
    let same = ap (λ (n : ℕ). reader_faults (take n gs)) next in
    omega arith

-- the segments as they are seen, found by a loop over them
pub at_index : {X : Type 0} (xs : List X) (i : ℕ) (x : X) → i < length xs → x ≡ get_or xs i x → slice_get xs i ≡ Some x
at_index xs i x lt is = slice_get-get_or xs i x lt ∙ ap Some (sym is)

map_get : {X Y : Type 0} (f : X → Y) (xs : List X) (i : ℕ) (x : X) → slice_get xs i ≡ Some x → slice_get (map f xs) i ≡ Some (f x)
map_get f [] i x is = absurd (cc is)
map_get f (y ∷ xs) zero x is = let same : y ≡ x = cc in ap (λ z. Some (f z)) same
map_get f (y ∷ xs) (suc i) x is = map_get f xs i x is

pub mapped_at : {X Y : Type 0} (f : X → Y) (items shown : List X) (i : ℕ) (x : X) → shown ≡ items → i < length shown → x ≡ get_or shown i x → slice_get (map f items) i ≡ Some (f x)
mapped_at f items shown i x same lt is = subst (λ xs. slice_get (map f xs) i ≡ Some (f x)) same (map_get f shown i x (at_index shown i x lt is))

-- readers of new files have counted nothing
pub adopted_unfailed : (first : ℕ) (made : List NewSegment) (old more : List SegmentView) → AreAdopted first made more → reader_faults (old ++ more) ≡ reader_faults old
adopted_unfailed first made (g ∷ old) more are = ap (λ (n : ℕ). g.reader.faults + n) (adopted_unfailed first made old more are)
adopted_unfailed first [] [] [] are = refl
adopted_unfailed first [] [] (g ∷ more) are = absurd are
adopted_unfailed first (m ∷ made) [] [] are = absurd are
adopted_unfailed first (m ∷ made) [] (g ∷ more) are =
    let none : g.reader.faults ≡ 0 = are.0.new.faults in
    let rest = adopted_unfailed (first + 1) made [] more are.1 in
    omega arith

-- one fault more
pub one_more_fault : (before now maker readers readers' : ℕ) → Counts 1 before now → readers' ≡ readers
    → min (now + maker + readers') (2 ^ 64 - 1) ≡ min (min (before + maker + readers) (2 ^ 64 - 1) + 1) (2 ^ 64 - 1)
one_more_fault before now maker readers readers' counts same = omega arith

-- ---- readers that are handed back

counts_then : (a b x y m : ℕ) → Counts a x y → Counts b y m → Counts (a + b) x m
counts_then a b x y m first second = omega arith

pub given_back : {R : Type 0} (view : R → ReaderView) (left next : List (Segment R)) (x : Segment R) (old mid m : ℕ) → left ≡ x ∷ next
    → Counts (view x.reader).faults old mid → Counts (reader_faults (segments_of view next)) mid m → Counts (reader_faults (segments_of view left)) old m
given_back view left next x old mid m is first second =
    subst (λ xs. Counts (reader_faults (segments_of view xs)) old m) (sym is) (counts_then (view x.reader).faults (reader_faults (segments_of view next)) old mid m first second)

pub all_given_back : {R : Type 0} (view : R → ReaderView) (left : List (Segment R)) (now : ℕ) → left ≡ [] → Counts (reader_faults (segments_of view left)) now now
all_given_back view left now none = subst (λ xs. Counts (reader_faults (segments_of view xs)) now now) (sym none) (omega arith)

-- a maker, and then the readers
pub both_given_back : (maker readers old mid new : ℕ) → Counts maker old mid → Counts readers mid new → Counts (maker + readers) old new
both_given_back maker readers old mid new first second = omega arith
