-- What reading one block leaves of a snapshot, and what is counted.
use Rattle.std.proofs.Common.{◌≡◌, refl, ap, sym, subst, ◌∙◌, ℕ, zero, suc, ◌+◌, ◌-◌, ◌^◌, ◌≤◌, min, List, [], ◌∷◌, map, length, Some, true, cond, is_some, slice_get, slice_set, ◌⊎◌, inl, inr, arith}
use Rattle.std.specs.Prelude.{Result, Ok, Err, IsErrOf}
use Rattle.std.proofs.lemmas.Bool.{eq-eqb}
use Rattle.dev_traits.specs.Reader.{ReaderView, SameFile}
use Rattle.dev_traits.specs.declared.faults.ReadFault.{ReadFault}
use Rattle.dev_traits.specs.declared.faults.ReadFault.TheVariants as read
use Rattle.segment_read.specs.Reads.{Reading}
use Rattle.pk_values.specs.Schemas.{Layout}
use Rattle.rowsets.specs.Live.{Files, FilesOnce, live}
use Rattle.snapshot_scan.specs.Parts.{PartView, read_by}
use Rattle.snapshot_scan.specs.Snapshots.{SnapshotView, fault_count}
use Rattle.old_rows.specs.PartsByFile.{FindsParts, found_part}
use Rattle.old_rows.specs.Reading.{AreTold, ReadBlocks, ReadsCause, SameButCounts, TellsRows, live_at, part_seen, still}
use Rattle.old_rows.specs.Wanted.{Block, blocks_in}

-- ---- the same but for counts

pub same-itself : (v : SnapshotView) → SameButCounts v v
same-itself v = record { version = refl; schema = refl; parts = refl }

pub same-then : (u v w : SnapshotView) → SameButCounts u v → SameButCounts v w → SameButCounts u w
same-then u v w a b = record { version = b.version ∙ a.version; schema = b.schema ∙ a.schema; parts = b.parts ∙ a.parts }

pub same-back : (v w : SnapshotView) → SameButCounts v w → SameButCounts w v
same-back v w a = record { version = sym a.version; schema = sym a.schema; parts = sym a.parts }

seen-still : (ps : List PartView) → map part_seen (map still ps) ≡ map part_seen ps
seen-still [] = refl
seen-still (p ∷ ps) = ap (λ qs. part_seen p ∷ qs) (seen-still ps)

pub seen-same : (v w : SnapshotView) → SameButCounts v w → map part_seen w.parts ≡ map part_seen v.parts
seen-same v w same = sym (seen-still w.parts) ∙ ap (map part_seen) same.parts ∙ seen-still v.parts

pub live-same : (stored : Files) (v w : SnapshotView) → SameButCounts v w → live_at stored w ≡ live_at stored v
live-same stored v w same = ap (live stored) (seen-same v w same)

to-still : (s : Layout) (stored : Files) (ps : List PartView) → AreTold s stored ps → AreTold s stored (map still ps)
to-still s stored [] h = tt
to-still s stored (p ∷ ps) h = (record { file = h.0.file; told = h.0.told; is = h.0.is; dead = h.0.dead }, to-still s stored ps h.1)

from-still : (s : Layout) (stored : Files) (ps : List PartView) → AreTold s stored (map still ps) → AreTold s stored ps
from-still s stored [] h = tt
from-still s stored (p ∷ ps) h = (record { file = h.0.file; told = h.0.told; is = h.0.is; dead = h.0.dead }, from-still s stored ps h.1)

pub tells-same : (v w : SnapshotView) (stored : Files) → SameButCounts v w → TellsRows v stored → TellsRows w stored
tells-same v w stored same tells = record {
  told =
      from-still w.schema stored w.parts
      (subst (AreTold w.schema stored) (sym same.parts)
      (subst (λ s. AreTold s stored (map still v.parts)) (sym same.schema) (to-still v.schema stored v.parts tells.told)));
  once = subst FilesOnce (sym (seen-same v w same)) tells.once;
}

-- ---- parts by their places

some_same : {X : Type 0} (x y : X) → Some x ≡ Some y → x ≡ y
some_same x y e = cc

at-map : {X Y : Type 0} (f : X → Y) (xs : List X) (i : ℕ) (x : X) → slice_get xs i ≡ Some x → slice_get (map f xs) i ≡ Some (f x)
at-map f [] i x h = cc
at-map f (y ∷ ys) zero x h = ap Some (ap f (some_same y x h))
at-map f (y ∷ ys) (suc i) x h = at-map f ys i x h

from-map : {X Y : Type 0} (f : X → Y) (xs : List X) (i : ℕ) (y : Y) → slice_get (map f xs) i ≡ Some y → (x : X) × (slice_get xs i ≡ Some x) × (f x ≡ y)
from-map f [] i y h = cc
from-map f (x ∷ xs) zero y h = (x, refl, some_same (f x) y h)
from-map f (x ∷ xs) (suc i) y h = from-map f xs i y h

-- the part in the same place, whatever was counted
pub part-before : (old new : List PartView) (i : ℕ) (now : PartView) → map still new ≡ map still old → slice_get new i ≡ Some now
    → (part : PartView) × (slice_get old i ≡ Some part) × (still part ≡ still now)
part-before old new i now same h = from-map still old i (still now) (ap (λ ps. slice_get ps i) (sym same) ∙ at-map still new i now h)

pub numbers-same : (a b : PartView) → still a ≡ still b → a.number ≡ b.number
numbers-same a b e = ap (λ (p : PartView). p.number) e

length-same : {X Y : Type 0} (f : X → Y) (xs : List X) → length (map f xs) ≡ length xs
length-same f [] = refl
length-same f (x ∷ xs) = ap suc (length-same f xs)

pub long-same : (v w : SnapshotView) → SameButCounts v w → length w.parts ≡ length v.parts
long-same v w same = sym (length-same still w.parts) ∙ ap length same.parts ∙ length-same still v.parts

-- ---- one part's reader

module _ (i : ℕ) (q : PartView) where
  map-set : {Y : Type 0} (f : PartView → Y) (xs : List PartView) (j : ℕ) (x : PartView) → slice_get xs j ≡ Some x → f q ≡ f x → map f (slice_set xs j q) ≡ map f xs
  map-set f [] j x h e = refl
  map-set f (y ∷ ys) zero x h e = ap (λ z. z ∷ map f ys) (e ∙ ap f (sym (some_same y x h)))
  map-set f (y ∷ ys) (suc j) x h e = ap (λ zs. f y ∷ zs) (map-set f ys j x h e)

  faults-set : (xs : List PartView) (j : ℕ) (x : PartView) → slice_get xs j ≡ Some x → (fault_count (slice_set xs j q) + x.reader.faults ≡ fault_count xs + q.reader.faults) × (x.reader.faults ≤ fault_count xs)
  faults-set [] j x h = cc
  faults-set (y ∷ ys) zero x h =
      let same : y.reader.faults ≡ x.reader.faults = ap (λ (p : PartView). p.reader.faults) (some_same y x h) in
      (omega arith, omega arith)
  faults-set (y ∷ ys) (suc j) x h =
      let more = faults-set ys j x h in
      let count = more.0 in
      let least = more.1 in
      (omega arith, omega arith)

  -- each part is as it was, or it is this one
  at-set : (xs : List PartView) (j k : ℕ) (x now : PartView) → slice_get xs j ≡ Some x → slice_get (slice_set xs j q) k ≡ Some now
      → (before : PartView) → slice_get xs k ≡ Some before → ((before ≡ x) × (now ≡ q)) ⊎ (now ≡ before)
  at-set [] j k x now h g before b = cc
  at-set (y ∷ ys) zero zero x now h g before b = inl (sym (some_same y before b) ∙ some_same y x h, sym (some_same q now g))
  at-set (y ∷ ys) zero (suc k) x now h g before b = inr (some_same now before (sym g ∙ b))
  at-set (y ∷ ys) (suc j) zero x now h g before b = inr (some_same now before (sym g ∙ b))
  at-set (y ∷ ys) (suc j) (suc k) x now h g before b = at-set ys j k x now h g before b

  long-set : (xs : List PartView) (j : ℕ) → length (slice_set xs j q) ≡ length xs
  long-set [] j = refl
  long-set (y ∷ ys) zero = refl
  long-set (y ∷ ys) (suc j) = ap suc (long-set ys j)

-- what one read did, whatever came of it
pub record ReadOnce (before now : ReaderView) : Type 0 where
  pub same : SameFile before now
  pub most : now.reads ≤ before.reads + 1

pub read-once : {T : Type 0} (before now : ReaderView) (result : Result T ReadFault) → Reading 1 before now result → ReadOnce before now
read-once before now (Ok x) h = record { same = h.same; most = let is = h.reads in omega arith }
read-once before now (Err e) h = record { same = h.same; most = h.reads }

still-read : (part : PartView) (reader : ReaderView) → SameFile part.reader reader → still (read_by reader part) ≡ still part
still-read part reader same = λ i. record {
  number = part.number;
  reader = record { bytes = same.bytes i; size = same.size i; faults = 0; reads = 0 };
  footer = part.footer;
  dead = part.dead;
}

-- the snapshot of which one block was read
pub same-read : (v w : SnapshotView) (i : ℕ) (part : PartView) (reader : ReaderView) → w.version ≡ v.version → w.schema ≡ v.schema
    → slice_get v.parts i ≡ Some part → w.parts ≡ slice_set v.parts i (read_by reader part) → SameFile part.reader reader → SameButCounts v w
same-read v w i part reader version schema there now same = record {
  version = version;
  schema = schema;
  parts = ap (map still) now ∙ map-set i (read_by reader part) still v.parts i part there (still-read part reader same);
}

one_more : (cap r s f g : ℕ) → s ≡ r + min 1 (cap - r) → g + r ≡ f + s → r ≤ f → (more : ℕ) → min (more + g) cap ≡ min (more + f) cap + min 1 (cap - min (more + f) cap)
one_more cap r s f g counts sums least more = omega (arith, counts, sums, least)

pub ok_err : {T : Type 0} {x : T} → Path (Result T ReadFault) (Ok x) (Err read.StoreFault) → ⊥
ok_err e = cc

pub err_same : {T : Type 0} (a b : ReadFault) → Path (Result T ReadFault) (Err a) (Err b) → a ≡ b
err_same a b e = cc

pub counted-once : {T : Type 0} (old : List PartView) (i : ℕ) (part : PartView) (reader : ReaderView) (result : Result T ReadFault) → slice_get old i ≡ Some part
    → Reading 1 part.reader reader result → ReadsCause (fault_count old) (fault_count (slice_set old i (read_by reader part))) result
counted-once old i part reader (Ok x) there h =
    let sums = faults-set i (read_by reader part) old i part there in
    let total = sums.0 in
    let same = h.unfailed in
    record { well = λ n. omega arith; failed = λ e. absurd (ok_err e) }
counted-once old i part reader (Err e) there h =
    let sums = faults-set i (read_by reader part) old i part there in
    let total = sums.0 in
    record {
      well = λ n. let same = h.well (λ f. n (ap (λ (x : ReadFault). Err x) f)) in omega arith;
      failed = λ is more. one_more (2 ^ 64 - 1) part.reader.faults reader.faults (fault_count old) (fault_count (slice_set old i (read_by reader part))) (h.failed (err_same e read.StoreFault is)) total sums.1 more;
    }

pub blocks-read : (old : List PartView) (i b : ℕ) (part : PartView) (reader : ReaderView) (file : ℕ) → slice_get old i ≡ Some part → part.number ≡ file
    → reader.reads ≤ part.reader.reads + 1 → ReadBlocks ((file, b) ∷ []) old (slice_set old i (read_by reader part))
blocks-read old i b part reader file there is most = record {
  long = long-set i (read_by reader part) old i;
  each = λ k before now had has. go before now (at-set i (read_by reader part) old i k part now there has before had);
}
  where
    go : (before now : PartView) → ((before ≡ part) × (now ≡ read_by reader part)) ⊎ (now ≡ before) → now.reader.reads ≤ before.reader.reads + blocks_in before.number ((file, b) ∷ [])
    go before now (inr same) = let e : now.reader.reads ≡ before.reader.reads = ap (λ (p : PartView). p.reader.reads) same in omega arith
    go before now (inl both) =
        let was : before.reader.reads ≡ part.reader.reads = ap (λ (p : PartView). p.reader.reads) both.0 in
        let then : now.reader.reads ≡ reader.reads = ap (λ (p : PartView). p.reader.reads) both.1 in
        let number : file ≡ before.number = sym is ∙ ap (λ (p : PartView). p.number) (sym both.0) in
        let one : blocks_in before.number ((file, b) ∷ []) ≡ 1 = ap (λ t. cond t 1 0 + 0) (eq-eqb file before.number number) in
        omega (arith, one, was, then, most)

-- nothing was read
pub none-read : (blocks : List Block) (old : List PartView) → ReadBlocks blocks old old
none-read blocks old = record {
  long = refl;
  each = λ i part now had has. let same : now.reader.reads ≡ part.reader.reads = ap (λ (p : PartView). p.reader.reads) (some_same now part (sym has ∙ had)) in omega arith;
}

pub none-counted : {T : Type 0} (count : ℕ) (result : Result T ReadFault) → ¬ IsErrOf result read.StoreFault → ReadsCause count count result
none-counted count result unfailed = record { well = λ n. refl; failed = λ is. absurd (unfailed is) }

-- what is found for a file stays
pub finds-same : (v w : SnapshotView) (found : _) → SameButCounts v w → FindsParts found v.parts → FindsParts found w.parts
finds-same v w found same finds = record {
  only = λ file i is.
      let had = finds.only file i is in
      let now = part-before w.parts v.parts i had.part (sym same.parts) had.there in
      record { part = now.0; there = now.1; number = numbers-same now.0 had.part now.2 ∙ had.number };
  all = λ i part there.
      let had = part-before v.parts w.parts i part same.parts there in
      subst (λ n. is_some (found_part found n) ≡ true) (numbers-same had.0 part had.2) (finds.all i had.0 had.1);
}
