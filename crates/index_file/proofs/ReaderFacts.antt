-- Readers of one file, and what was told of damage.
use Rattle.std.proofs.Common.{◌≡◌, ◌≢◌, ap, sym, subst, ◌∙◌, ℕ, zero, suc, ◌+◌, ◌-◌, ◌^◌, ◌<◌, ◌≤◌, arith, min, refl, length, get_or, inl, Ok, Err, Some, List, [], ◌∷◌, true, slice_get}
use Rattle.std.specs.Prelude.{Result}
use Rattle.std.proofs.lemmas.Bool.{and_parts}
use Rattle.std.proofs.lemmas.Option.{slice_get-get_or}
use Rattle.std.proofs.Math.Logic.{∥∥₁_elim, ∥∥₁_map}
use Rattle.dev_traits.specs.Reader.{ReaderView, SameFile}
use Rattle.dev_traits.specs.declared.faults.Part.{Part}
use Rattle.dev_traits.specs.declared.faults.Part.TheVariants as part
use Rattle.dev_traits.specs.declared.faults.Shown.{Shown}
use Rattle.dev_traits.specs.declared.faults.ReadFault.{ReadFault}
use Rattle.dev_traits.specs.declared.faults.ReadFault.TheVariants as read
use Rattle.index_file.specs.declared.footers.BucketMark.{BucketMark}
use Rattle.index_file.specs.declared.footers.IndexFooter.{IndexFooter}
use Rattle.index_file.specs.Buckets.{Pair}
use Rattle.index_file.specs.Entries.{BucketShown, HasLevel, sum_fits, sums_fit}
use Rattle.index_file.specs.Damages.{IsBucketDamage, IsFileDamage}
use Rattle.index_file.proofs.IntactFacts.{intact_not_shown}
use Rattle.index_level0.specs.Levels.{Level}
use Rattle.index_file.specs.Reads.{bucket_in, HasFailed, HasRead, IsDamage, KnowsFooter, OfBucket, OnDamage, OnFile, Reading, TellsDamage}

pub same_read : {T : Type 0} (count : ℕ) (old new : ReaderView) (result : Result T ReadFault) → Reading count old new result → SameFile old new
same_read count old new (Ok x) reading = reading.same
same_read count old new (Err e) reading = reading.same

pub knows_still : (old new : ReaderView) (f : IndexFooter) → SameFile old new → ∥ KnowsFooter old f ∥₁ → ∥ KnowsFooter new f ∥₁
knows_still old new f same known = ∥∥₁_map known (λ k file told. k file (sym same.bytes ∙ told))

pub told_damage : (e : ReadFault) (number : ℕ) (part : Part) (P : Shown → Type 0) → OnDamage e (IsDamage number part P) → TellsDamage e → (shown : Shown) × P shown
told_damage (read.Damaged damaged) number part P is told = (damaged.shown, is.shows)
told_damage read.StoreFault number part P is told = absurd told
told_damage read.Memory number part P is told = absurd told

pub some_mark : (f : IndexFooter) (b : ℕ) → b < length f.buckets → (mark : BucketMark) × (slice_get f.buckets b ≡ Some mark)
some_mark f b less = let d : BucketMark = record { place = 0; length = 0 } in (get_or f.buckets b d, slice_get-get_or f.buckets b d less)

pub sum_at : (base : ℕ) (es : List Pair) (i : ℕ) (d : Pair) → sums_fit base es ≡ true → i < length es → sum_fits base (get_or es i d).1 ≡ true
sum_at base [] i d all less = absurd (omega arith)
sum_at base (e ∷ es) zero d all less = (and_parts (sum_fits base e.1) (sums_fit base es) all).0
sum_at base (e ∷ es) (suc i) d all less = let k : i < length es = omega arith in sum_at base es i d (and_parts (sum_fits base e.1) (sums_fit base es) all).1 k

-- so many reads so far, none of which failed
pub record Looked (count : ℕ) (old new : ReaderView) : Type 0 where
  pub same : SameFile old new
  pub most : new.reads ≤ old.reads + count
  pub grows : min (old.reads + count) (2 ^ 64 - 1) ≤ new.reads
  pub capped : 1 ≤ count → new.reads ≤ 2 ^ 64 - 1
  pub unfailed : new.faults ≡ old.faults

same_through : (old mid new : ReaderView) → SameFile old mid → SameFile mid new → SameFile old new
same_through old mid new one two = record { bytes = two.bytes ∙ one.bytes; size = two.size ∙ one.size }

pub looked_none : (reader : ReaderView) → Looked 0 reader reader
looked_none reader = record { same = record { bytes = refl; size = refl }; most = omega arith; grows = omega arith; capped = λ h. absurd (omega (arith, h)); unfailed = refl }

pub looked_on : (count : ℕ) (old mid new : ReaderView) → Looked count old mid → HasRead 1 mid new → Looked (count + 1) old new
looked_on count old mid new so_far one = record {
  same = same_through old mid new so_far.same one.same;
  most = omega (arith, so_far.most, one.reads);
  grows = omega (arith, so_far.grows, one.reads);
  capped = λ h. omega (arith, one.reads);
  unfailed = one.unfailed ∙ so_far.unfailed;
}

pub looked_all : (count n : ℕ) (old new : ReaderView) → 1 ≤ n → count ≡ n → Looked count old new → HasRead n old new
looked_all count n old new some all l = record { same = l.same; reads = omega (arith, l.most, l.grows, l.capped (omega (arith, some, all)), all); unfailed = l.unfailed }

pub fails_later : (b n : ℕ) (old mid new : ReaderView) (fault : ReadFault) → b < n → Looked b old mid → HasFailed 1 mid new fault → HasFailed n old new fault
fails_later b n old mid new fault less first more = record {
  same = same_through old mid new first.same more.same;
  reads = omega (arith, less, first.most, more.reads);
  grows = omega (arith, first.grows, more.grows);
  well = λ other. more.well other ∙ first.unfailed;
  failed = λ is. more.failed is ∙ ap (λ (k : ℕ). k + min 1 (2 ^ 64 - 1 - k)) first.unfailed;
}

pub wants_later : (b n : ℕ) (old mid new : ReaderView) → b < n → Looked b old mid → HasRead 1 mid new → HasFailed n old new read.Memory
wants_later b n old mid new less first more = record {
  same = same_through old mid new first.same more.same;
  reads = omega (arith, less, first.most, more.reads);
  grows = omega (arith, first.grows, more.reads);
  well = λ other. more.unfailed ∙ first.unfailed;
  failed = λ is. cc;
}

-- ---- the damage of a bucket, as one of the file

pub bucket_damage : (e : ReadFault) (base number b : ℕ) (f : IndexFooter) (mid old : ReaderView) → b < length f.buckets → mid.bytes ≡ old.bytes
    → OnDamage e (IsDamage number (part.Bucket b) (λ shown. OnFile mid (λ file. OfBucket f b (λ mark. BucketShown (length f.buckets) b base mark.length (bucket_in file mark) shown)))) → OnDamage e (IsBucketDamage base f number old)
bucket_damage (read.Damaged damaged) base number b f mid old less same is = record {
  bucket = b;
  there = less;
  is = record { file_is = is.file_is; part_is = is.part_is; shows = λ file told. is.shows file (same ∙ told) };
}
bucket_damage read.StoreFault base number b f mid old less same is = tt
bucket_damage read.Memory base number b f mid old less same is = tt

pub file_damage : (e : ReadFault) (base number : ℕ) (f : IndexFooter) (reader : ReaderView) → OnDamage e (IsBucketDamage base f number reader) → OnDamage e (IsFileDamage base f number reader)
file_damage (read.Damaged damaged) base number f reader is = inl is
file_damage read.StoreFault base number f reader is = tt
file_damage read.Memory base number f reader is = tt

-- no damage is told of a level's file
pub no_damage : (e : ReadFault) (base number : ℕ) (f : IndexFooter) (reader : ReaderView) (level : Level) → ∥ KnowsFooter reader f ∥₁ → OnDamage e (IsBucketDamage base f number reader) → TellsDamage e → HasLevel base f reader level → ⊥
no_damage (read.Damaged damaged) base number f reader level known is tells h =
    let mark = some_mark f is.bucket is.there in
    ∥∥₁_elim known (λ x. absurd x) (λ k. intact_not_shown base f h.file level h.is (k h.file h.told) is.bucket mark.0 damaged.shown mark.1 (is.is.shows h.file h.told mark.0 mark.1))
no_damage read.StoreFault base number f reader level known is tells h = tells
no_damage read.Memory base number f reader level known is tells h = tells

-- ---- the damage of bytes that were read

pub failed_after : (old new : ReaderView) (e : ReadFault) → HasRead 1 old new → e ≢ read.StoreFault → HasFailed 1 old new e
failed_after old new e has other = record {
  same = has.same;
  reads = omega (arith, has.reads);
  grows = omega (arith, has.reads);
  well = λ _. has.unfailed;
  failed = λ is. absurd (other is);
}

-- no bucket stands outside of a file that tells its bytes
pub outside_damage : (e : ReadFault) (base number b : ℕ) (f : IndexFooter) (reader : ReaderView) → OnDamage e (IsDamage number (part.Bucket b) (λ shown. OnFile reader (λ file. ⊥)))
    → OnDamage e (IsDamage number (part.Bucket b) (λ shown. OnFile reader (λ file. OfBucket f b (λ mark. BucketShown (length f.buckets) b base mark.length (bucket_in file mark) shown))))
outside_damage (read.Damaged damaged) base number b f reader is = record { file_is = is.file_is; part_is = is.part_is; shows = λ file told mark got. absurd (is.shows file told) }
outside_damage read.StoreFault base number b f reader is = tt
outside_damage read.Memory base number b f reader is = tt

-- the bytes are those of the file's bucket
pub read_damage : (e : ReadFault) (base number b : ℕ) (f : IndexFooter) (reader : ReaderView) (bytes : List ℕ) → OnFile reader (λ file. OfBucket f b (λ mark. bytes ≡ bucket_in file mark))
    → OnDamage e (IsDamage number (part.Bucket b) (λ shown. OfBucket f b (λ mark. BucketShown (length f.buckets) b base mark.length bytes shown)))
    → OnDamage e (IsDamage number (part.Bucket b) (λ shown. OnFile reader (λ file. OfBucket f b (λ mark. BucketShown (length f.buckets) b base mark.length (bucket_in file mark) shown))))
read_damage (read.Damaged damaged) base number b f reader bytes are is = record {
  file_is = is.file_is;
  part_is = is.part_is;
  shows = λ file told mark got. subst (λ (bs : List ℕ). BucketShown (length f.buckets) b base mark.length bs damaged.shown) (are file told mark got) (is.shows mark got);
}
read_damage read.StoreFault base number b f reader bytes are is = tt
read_damage read.Memory base number b f reader bytes are is = tt
