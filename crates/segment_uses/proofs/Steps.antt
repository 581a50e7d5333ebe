-- What is counted of a reader's faults by the store that takes it back.
use Rattle.std.proofs.Common.{◌≡◌, ℕ, refl, arith, Ok, Err, Result}
use Rattle.dev_traits.specs.Causes.{Counts, HasOutsideCause, HasReadCause}
use Rattle.dev_traits.specs.Faults.{outside_of_read}
use Rattle.dev_traits.specs.declared.faults.ReadFault.{ReadFault}
use Rattle.dev_traits.specs.declared.faults.ReadFault.TheVariants as read

-- a new reader, what it counted since, and the store before and after it took it back
pub record TakenBack {T : Type 0} (none more before now : ℕ) (result : Result T ReadFault) : Type 0 where
  pub is_new : none ≡ 0
  pub cause : HasReadCause none more result
  pub counts : Counts more before now

well_counted : (none more before now : ℕ) → none ≡ 0 → more ≡ none → Counts more before now → now ≡ before
well_counted none more before now is same counts = omega arith

once_counted : (none more before now : ℕ) → none ≡ 0 → Counts 1 none more → Counts more before now → Counts 1 before now
once_counted none more before now is once counts = omega arith

pub read_well : {T U : Type 0} (result : Result T ReadFault) (x : T) (y : U) (none more before now : ℕ) → result ≡ Ok x → TakenBack none more before now result → HasOutsideCause before now (Ok y)
read_well result x y none more before now is taken = record {
  well = λ not. well_counted none more before now taken.is_new (taken.cause.well (λ e. cc)) taken.counts;
  failed = λ e. cc;
}

pub read_failed : {T U : Type 0} (result : Result T ReadFault) (fault : ReadFault) (none more before now : ℕ) → result ≡ Err fault → TakenBack none more before now result → HasOutsideCause {T = U} before now (Err (outside_of_read fault))
read_failed result read.StoreFault none more before now is taken = record {
  well = λ not. absurd (not refl);
  failed = λ e. once_counted none more before now taken.is_new (taken.cause.failed is) taken.counts;
}
read_failed result (read.Damaged damaged) none more before now is taken = record {
  well = λ not. well_counted none more before now taken.is_new (taken.cause.well (λ e. cc)) taken.counts;
  failed = λ e. cc;
}
read_failed result read.Memory none more before now is taken = record {
  well = λ not. well_counted none more before now taken.is_new (taken.cause.well (λ e. cc)) taken.counts;
  failed = λ e. cc;
}
