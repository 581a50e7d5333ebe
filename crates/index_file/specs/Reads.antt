-- What calls that read do to a reader, and what they tell.
use Rattle.std.specs.Prelude.{◌≡◌, ◌≢◌, ℕ, ◌+◌, ◌-◌, ◌^◌, ◌≤◌, min, List, take, drop, Some, slice_get, Result, MatchResult, ⊤}
use Rattle.dev_traits.specs.Causes.{Counts}
use Rattle.dev_traits.specs.Reader.{ReaderView, SameFile}
use Rattle.dev_traits.specs.declared.faults.Damaged.{Damaged}
use Rattle.dev_traits.specs.declared.faults.Part.{Part}
use Rattle.dev_traits.specs.declared.faults.Shown.{Shown}
use Rattle.dev_traits.specs.declared.faults.ReadFault.{ReadFault}
use Rattle.dev_traits.specs.declared.faults.ReadFault.TheVariants as read
use Rattle.index_file.specs.declared.faults.PartFault.{PartFault}
use Rattle.index_file.specs.declared.faults.PartFault.TheVariants as parts
use Rattle.index_file.specs.declared.footers.BucketMark.{BucketMark}
use Rattle.index_file.specs.declared.footers.IndexFooter.{IndexFooter}
use Rattle.index_file.specs.Footers.{HasFooter}

-- where a reader tells the bytes of its file, this holds of them
abbrev pub OnFile : ReaderView → (List ℕ → Type 0) → Type 0
OnFile reader P = (file : List ℕ) → reader.bytes ≡ Some file → P file

-- where the reader tells, the footer is that of its file
abbrev pub KnowsFooter : ReaderView → IndexFooter → Type 0
KnowsFooter reader f = OnFile reader (HasFooter f)

-- this holds of what a footer tells of bucket b
abbrev pub OfBucket : IndexFooter → ℕ → (BucketMark → Type 0) → Type 0
OfBucket f b P = (mark : BucketMark) → slice_get f.buckets b ≡ Some mark → P mark

-- the bytes of a bucket and its digest
abbrev pub bucket_in : List ℕ → BucketMark → List ℕ
bucket_in file mark = take (mark.length + 32) (drop mark.place file)

-- a reader of the same file after so many reads more, none of which failed; the number of reads stops at the last u64
pub record HasRead (count : ℕ) (old new : ReaderView) : Type 0 where
  pub same : SameFile old new
  pub reads : new.reads ≡ min (old.reads + count) (2 ^ 64 - 1)
  pub unfailed : new.faults ≡ old.faults

-- a reader of the same file after at most so many reads more, none of which failed
pub record MayHaveRead (most : ℕ) (old new : ReaderView) : Type 0 where
  pub same : SameFile old new
  pub reads : new.reads ≤ old.reads + most
  pub grows : min old.reads (2 ^ 64 - 1) ≤ new.reads
  pub unfailed : new.faults ≡ old.faults

-- a reader of the same file after at most so many reads more, and a fault; of the faults that of the device alone is counted, once
pub record HasFailed (most : ℕ) (old new : ReaderView) (fault : ReadFault) : Type 0 where
  pub same : SameFile old new
  pub reads : new.reads ≤ old.reads + most
  pub grows : min old.reads (2 ^ 64 - 1) ≤ new.reads
  pub well : fault ≢ read.StoreFault → new.faults ≡ old.faults
  pub failed : fault ≡ read.StoreFault → Counts 1 old.faults new.faults

-- a call that reads so often where it goes well, and else no more often
abbrev pub Reading : {T : Type 0} → ℕ → ReaderView → ReaderView → Result T ReadFault → Type 0
Reading count old new result = MatchResult result (λ _. HasRead count old new) (λ fault. HasFailed count old new fault)

-- a damage of this part of this file, which shows so
pub record IsDamage (file : ℕ) (part : Part) (Shows : Shown → Type 0) (damaged : Damaged) : Type 0 where
  pub file_is : damaged.file ≡ file
  pub part_is : damaged.part ≡ part
  pub shows : Shows damaged.shown

-- of what a fault tells as damage
abbrev pub OnDamage : ReadFault → (Damaged → Type 0) → Type 0
OnDamage (read.Damaged damaged) P = P damaged
OnDamage read.StoreFault P = ⊤
OnDamage read.Memory P = ⊤

-- the fault of a part, as a fault of its file
abbrev pub fault_of : ℕ → Part → PartFault → ReadFault
fault_of file part (parts.Damaged shown) = read.Damaged (record { file = file; part = part; shown = shown })
fault_of file part parts.Memory = read.Memory

-- what is told of the damage of a part, where an error is one
abbrev pub OnShown : PartFault → (Shown → Type 0) → Type 0
OnShown (parts.Damaged shown) P = P shown
OnShown parts.Memory P = ⊤

-- damage was told
abbrev pub TellsDamage : ReadFault → Type 0
TellsDamage (read.Damaged damaged) = ⊤
TellsDamage read.StoreFault = ⊥
TellsDamage read.Memory = ⊥
