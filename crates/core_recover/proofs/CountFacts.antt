-- Faults that are counted while a store is opened.
use Rattle.std.proofs.Common.{◌≡◌, refl, ap, sym, subst, ◌∙◌, ℕ, ◌+◌, ◌-◌, ◌^◌, ◌≤◌, min, Result, Ok, Err, arith}
use Rattle.dev_traits.specs.Causes.{Counts, HasCause, HasCauseOf, RoseBy}
use Rattle.dev_traits.proofs.Counting.{counts_rose, rose_less, rose_none}
use Rattle.dev_traits.specs.declared.faults.Damaged.{Damaged}
use Rattle.dev_traits.specs.View.{View}
use Rattle.tablet_state.specs.State.{Shown, reader_faults}
use Rattle.core_recover.specs.Keeping.{CountsAs, CountsNone}
use Rattle.core_recover.specs.Opening.{IsWant}
use Rattle.core_recover.specs.declared.faults.OpenFault.{OpenFault}
use Rattle.core_recover.specs.declared.faults.OpenFault.TheVariants as fault

apart : {T : Type 0} (e f : OpenFault) → (e ≡ f → ⊥) → ◌≡◌ {A = Result T OpenFault} (Err e) (Err f) → ⊥
apart {T} e f against is = against (inner is)
  where
    inner : ◌≡◌ {A = Result T OpenFault} (Err e) (Err f) → e ≡ f
    inner h = cc

same_rose : (before now : ℕ) → now ≡ before → RoseBy 0 before now
same_rose before now same = subst (λ (n : ℕ). RoseBy 0 before n) (sym same) (rose_none before)

pub never_fell : {T : Type 0} (before now : ℕ) (e : OpenFault) → HasCauseOf {T = T} fault.StoreFault before now (Err e) → RoseBy 0 before now
never_fell before now fault.StoreFault cause = rose_less 0 1 before now (omega arith) (counts_rose 1 before now (cause.failed refl))
never_fell before now fault.Empty cause = same_rose before now (cause.well (λ is. apart fault.Empty fault.StoreFault (λ h. cc) is))
never_fell before now (fault.Damaged d) cause = same_rose before now (cause.well (λ is. apart (fault.Damaged d) fault.StoreFault (λ h. cc) is))
never_fell before now fault.Memory cause = same_rose before now (cause.well (λ is. apart fault.Memory fault.StoreFault (λ h. cc) is))

pub rose_one : {T : Type 0} (before now : ℕ) (e : OpenFault) → HasCauseOf {T = T} fault.StoreFault before now (Err e) → e ≡ fault.StoreFault → RoseBy 1 before now
rose_one before now e cause is = counts_rose 1 before now (cause.failed (ap Err is))

pub rose_ok : {T : Type 0} (before now all : ℕ) (x : T) → HasCauseOf {E = OpenFault} fault.StoreFault before now (Ok x) → all ≡ min now (2 ^ 64 - 1) → RoseBy 0 before all
rose_ok before now all x cause is =
    let same = cause.well (λ h. no x fault.StoreFault h) in
    omega arith
  where
    no : {T E : Type 0} (y : T) (e : E) → Ok y ≡ Err e → ⊥
    no y e h = cc

-- ---- exactly

pub counted_so : {T : Type 0} (before now : ℕ) (e : OpenFault) → HasCauseOf {T = T} fault.StoreFault before now (Err e) → CountsAs e before now
counted_so before now fault.StoreFault cause = cause.failed refl
counted_so before now fault.Empty cause = cause.well (λ is. apart fault.Empty fault.StoreFault (λ h. cc) is)
counted_so before now (fault.Damaged d) cause = cause.well (λ is. apart (fault.Damaged d) fault.StoreFault (λ h. cc) is)
counted_so before now fault.Memory cause = cause.well (λ is. apart fault.Memory fault.StoreFault (λ h. cc) is)

pub uncounted_so : {S T : Type 0} (view : S → View) (before : ℕ) (left : S) (st : Shown S) (x : T) → st.store ≡ left → HasCauseOf {E = OpenFault} fault.StoreFault before (view left).faults (Ok x)
    → st.maker_faults ≡ 0 → reader_faults st.segments ≡ 0 → CountsNone view before st
uncounted_so view before left st x is cause maker readers =
    let same : (view left).faults ≡ before = cause.well (λ h. never x fault.StoreFault h) in
    let here : (view st.store).faults ≡ before = ap (λ s. (view s).faults) is ∙ same in
    record { store = here; maker = maker; readers = readers; all = omega arith }
  where
    never : {T E : Type 0} (y : T) (e : E) → Ok y ≡ Err e → ⊥
    never y e h = cc
