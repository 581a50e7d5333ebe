-- Outcomes that tell faults, and counts.
use Rattle.std.proofs.Common.{◌≡◌, refl, ap, sym, subst, ◌∙◌, ◌⊎◌, inl, inr, ℕ, zero, suc, ◌+◌, ◌-◌, ◌^◌, ◌≤◌, arith, List, [], ◌∷◌, ◌++◌, min, Option, Some, None, Bool as Truth, true, false, ◌==◌, ◌||◌, cond}
use Rattle.std.specs.Prelude.{find, option_map, unwrap_or}
use Rattle.std.specs.List.{AllByRecursion, list_any}
use Rattle.std.proofs.lemmas.List.Sums.{sum_by-cons, sum_by_push}
use Rattle.dev_traits.specs.Causes.{RoseBy}
use Rattle.dev_traits.specs.declared.faults.OutsideFault.TheVariants as outside
use Rattle.load_csv.specs.declared.loads.LoadFault.TheVariants as fault
use Rattle.pk_model.specs.declared.calls.Reply.{Reply}
use Rattle.pk_model.specs.declared.calls.Reply.TheVariants as reply
use Rattle.script_text.specs.declared.outcomes.Outcome.{Outcome}
use Rattle.script_text.specs.declared.outcomes.Outcome.TheVariants as outcome
use Rattle.reports.specs.declared.endings.Ending.{Ending}
use Rattle.reports.specs.declared.endings.Ending.TheVariants as ending
use Rattle.reports.specs.Bearing.{AreBorneOut, FaultsAreCounted, GoesShut, IntactEndsWell, TellsIntact, TellsOpen, tells_cause, told_by}
use Rattle.reports.specs.Endings.{SomeEnds, ending_of, faults_told, gives, outcome_ending, outcome_status, tells_fault, status_of, ending_status}
use Rattle.reports.proofs.EndingLaws.{ending-has-status, ending-is-told}

-- ---- a status of 4

four : (o : Outcome) → (outcome_status o == 4) ≡ true → (tells_fault o ≡ true) ⊎ (TellsOpen o → ⊥)
four (outcome.Turn (reply.Published v)) e = cc
four (outcome.Turn (reply.Opened v)) e = cc
four (outcome.Turn (reply.Begun v)) e = cc
four (outcome.Turn (reply.Compacted before after rows late)) e = cc
four (outcome.Turn (reply.Floor f)) e = cc
four (outcome.Turn (reply.Stat floor version rows rowsets)) e = cc
four (outcome.Turn reply.GaveUp) e = cc
four (outcome.Turn (reply.Expired f)) e = cc
four (outcome.Turn (reply.NotYet v)) e = cc
four (outcome.Turn (reply.Busy v)) e = cc
four (outcome.Turn reply.ManyVersions) e = cc
four (outcome.Turn (reply.Closed p)) e = inr (λ h. h)
four (outcome.Turn (reply.StoreFault n)) e = inl refl
four (outcome.Turn (reply.Damaged d)) e = cc
four (outcome.Turn reply.Memory) e = cc
four (outcome.Turn reply.NoPlan) e = cc
four (outcome.Turn (reply.Worn n)) e = cc
four (outcome.Rows v c t) e = cc
four (outcome.Load fault.NoHeader) e = cc
four (outcome.Load (fault.UnknownName c)) e = cc
four (outcome.Load (fault.NameTwice c)) e = cc
four (outcome.Load (fault.Missing i)) e = cc
four (outcome.Load (fault.NoDefault i)) e = cc
four (outcome.Load fault.ManyRows) e = cc
four (outcome.Load (fault.Width r)) e = cc
four (outcome.Load (fault.BadOp r)) e = cc
four (outcome.Load (fault.BadCell r c)) e = cc
four (outcome.Load (fault.KeyTooLong r l)) e = cc
four (outcome.Load fault.Memory) e = cc
four (outcome.Outside outside.Fault) e = inl refl
four (outcome.Outside (outside.Damaged d)) e = cc
four (outcome.Outside outside.Memory) e = cc
four outcome.NotRun e = cc

-- ---- a status of 5

five : (o : Outcome) → (outcome_status o == 5) ≡ true → TellsIntact o → ⊥
five (outcome.Turn (reply.Published v)) e h = cc
five (outcome.Turn (reply.Opened v)) e h = cc
five (outcome.Turn (reply.Begun v)) e h = cc
five (outcome.Turn (reply.Compacted before after rows late)) e h = cc
five (outcome.Turn (reply.Floor f)) e h = cc
five (outcome.Turn (reply.Stat floor version rows rowsets)) e h = cc
five (outcome.Turn reply.GaveUp) e h = cc
five (outcome.Turn (reply.Expired f)) e h = cc
five (outcome.Turn (reply.NotYet v)) e h = cc
five (outcome.Turn (reply.Busy v)) e h = cc
five (outcome.Turn reply.ManyVersions) e h = cc
five (outcome.Turn (reply.Closed p)) e h = cc
five (outcome.Turn (reply.StoreFault n)) e h = cc
five (outcome.Turn (reply.Damaged d)) e h = h
five (outcome.Turn reply.Memory) e h = cc
five (outcome.Turn reply.NoPlan) e h = cc
five (outcome.Turn (reply.Worn n)) e h = cc
five (outcome.Rows v c t) e h = cc
five (outcome.Load fault.NoHeader) e h = cc
five (outcome.Load (fault.UnknownName c)) e h = cc
five (outcome.Load (fault.NameTwice c)) e h = cc
five (outcome.Load (fault.Missing i)) e h = cc
five (outcome.Load (fault.NoDefault i)) e h = cc
five (outcome.Load fault.ManyRows) e h = cc
five (outcome.Load (fault.Width r)) e h = cc
five (outcome.Load (fault.BadOp r)) e h = cc
five (outcome.Load (fault.BadCell r c)) e h = cc
five (outcome.Load (fault.KeyTooLong r l)) e h = cc
five (outcome.Load fault.Memory) e h = cc
five (outcome.Outside outside.Fault) e h = cc
five (outcome.Outside (outside.Damaged d)) e h = h
five (outcome.Outside outside.Memory) e h = cc
five outcome.NotRun e h = cc

-- ---- lists of outcomes

fault-cons : (o : Outcome) (os : List Outcome) → faults_told (o ∷ os) ≡ told_by o + faults_told os
fault-cons o os = sum_by-cons (λ y. cond (tells_fault y) 1 0) o os

fault-push : (os : List Outcome) (o : Outcome) → faults_told (os ++ o ∷ []) ≡ faults_told os + told_by o
fault-push os o = sum_by_push (λ y. cond (tells_fault y) 1 0) os o

told-four : (os : List Outcome) → gives 4 os ≡ true → (1 ≤ faults_told os) ⊎ (AllByRecursion TellsOpen os → ⊥)
told-four [] e = cc
told-four (o ∷ os) e = by (outcome_status o == 4) refl e (told-four os)
  where
    by : (b : Truth) → (outcome_status o == 4) ≡ b → (b || gives 4 os) ≡ true → (gives 4 os ≡ true → (1 ≤ faults_told os) ⊎ (AllByRecursion TellsOpen os → ⊥))
        → (1 ≤ faults_told (o ∷ os)) ⊎ (AllByRecursion TellsOpen (o ∷ os) → ⊥)
    by true f g rest = elim (four o f) [
      | inl t ↦ let count = fault-cons o os in let one : told_by o ≡ 1 = ap (λ b. cond b 1 0) t in inl (omega (arith, count, one))
      | inr n ↦ inr (λ h. n h.0)
    ]
    by false f g rest = elim (rest g) [
      | inl t ↦ let count = fault-cons o os in inl (omega (arith, count, t))
      | inr n ↦ inr (λ h. n h.1)
    ]

pub intact-ends-well : IntactEndsWell
intact-ends-well [] h e = cc
intact-ends-well (o ∷ os) h e = by (outcome_status o == 5) refl e (intact-ends-well os h.1)
  where
    by : (b : Truth) → (outcome_status o == 5) ≡ b → (b || gives 5 os) ≡ true → (gives 5 os ≡ true → ⊥) → ⊥
    by true f g rest = five o f h.0
    by false f g rest = rest g

gives-push : (n : ℕ) (os : List Outcome) (o : Outcome) → gives n os ≡ true → gives n (os ++ o ∷ []) ≡ true
gives-push n [] o e = cc
gives-push n (p ∷ os) o e = by (outcome_status p == n) e (gives-push n os o)
  where
    by : (b : Truth) → (b || gives n os) ≡ true → (gives n os ≡ true → gives n (os ++ o ∷ []) ≡ true) → (b || gives n (os ++ o ∷ [])) ≡ true
    by true e rest = refl
    by false e rest = rest e

gives-last : (n : ℕ) (os : List Outcome) (o : Outcome) → (outcome_status o == n) ≡ true → gives n (os ++ o ∷ []) ≡ true
gives-last n [] o e = ap (λ b. b || false) e
gives-last n (p ∷ os) o e = by (outcome_status p == n) (gives-last n os o e)
  where
    by : (b : Truth) → gives n (os ++ o ∷ []) ≡ true → (b || gives n (os ++ o ∷ [])) ≡ true
    by true rest = refl
    by false rest = rest

all-push : (P : Outcome → Type 0) (os : List Outcome) (o : Outcome) → AllByRecursion P os → P o → AllByRecursion P (os ++ o ∷ [])
all-push P [] o h k = (k, tt)
all-push P (p ∷ os) o h k = (h.0, all-push P os o h.1 k)

-- ---- the status 4 is borne out

abbrev first_of_these : Truth → Truth → Truth → Truth → ℕ
first_of_these a b c d = cond a 5 (cond b 4 (cond c 7 (cond d 1 0)))

status-four : (a b c d : Truth) → first_of_these a b c d ≡ 4 → (a ≡ false) × (b ≡ true)
status-four true b c d e = absurd (omega (arith, e))
status-four false true c d e = (refl, refl)
status-four false false true d e = absurd (omega (arith, e))
status-four false false false true e = absurd (omega (arith, e))
status-four false false false false e = absurd (omega (arith, e))

at-least-one : (before now told : ℕ) → 1 ≤ told → RoseBy told before now → RoseBy 1 before now
at-least-one before now told h r = omega (arith, h, r)

pub faults-are-counted : FaultsAreCounted
faults-are-counted before now closed os h e =
    let four_is : status_of os ≡ 4 = sym (ending-has-status os) ∙ ap ending_status e in
    let both = status-four (gives 5 os) (gives 4 os) (gives 7 os) (gives 1 os) four_is in
    elim (told-four os both.1) [
      | inl t ↦ at-least-one before now (faults_told os) t h.rose
      | inr shut ↦ by closed refl both.0 shut
    ]
  where
    wrong : false ≡ true → ⊥
    wrong e = cc

    by : (o : Option ℕ) → closed ≡ o → gives 5 os ≡ false → (AllByRecursion TellsOpen os → ⊥) → RoseBy 1 before now
    by None c five shut = absurd (shut (h.opened c))
    by (Some p) c five shut = elim (h.shut p c) [
      | inl t ↦ at-least-one before now (faults_told os) t h.rose
      | inr f ↦ absurd (wrong (sym five ∙ f))
    ]

-- ---- one outcome more

pub borne-none : (before now : ℕ) → RoseBy 0 before now → AreBorneOut before now None []
borne-none before now h = record { rose = h; shut = λ p e. cc; opened = λ e. tt }

rose-more : (before mid now a b : ℕ) → RoseBy a before mid → RoseBy b mid now → RoseBy (a + b) before now
rose-more before mid now a b h k = omega (arith, h, k)

caused : (o : Outcome) (os : List Outcome) → tells_cause o ≡ true → (1 ≤ faults_told (os ++ o ∷ [])) ⊎ (gives 5 (os ++ o ∷ []) ≡ true)
caused o os e = by (tells_fault o) refl e
  where
    by : (b : Truth) → tells_fault o ≡ b → (b || (outcome_status o == 5)) ≡ true → (1 ≤ faults_told (os ++ o ∷ [])) ⊎ (gives 5 (os ++ o ∷ []) ≡ true)
    by true f g = let count = fault-push os o in let one : told_by o ≡ 1 = ap (λ b. cond b 1 0) f in inl (omega (arith, count, one))
    by false f g = inr (gives-last 5 os o g)

pub borne-more : (before mid now : ℕ) (closed closed_now : Option ℕ) (os : List Outcome) (o : Outcome) → AreBorneOut before mid closed os
    → RoseBy (told_by o) mid now → GoesShut closed closed_now o → AreBorneOut before now closed_now (os ++ o ∷ [])
borne-more before mid now closed closed_now os o h rose goes = by closed closed_now refl goes
  where
    counted : RoseBy (faults_told (os ++ o ∷ [])) before now
    counted = subst (λ n. RoseBy n before now) (sym (fault-push os o)) (rose-more before mid now (faults_told os) (told_by o) h.rose rose)

    more : (1 ≤ faults_told os) ⊎ (gives 5 os ≡ true) → (1 ≤ faults_told (os ++ o ∷ [])) ⊎ (gives 5 (os ++ o ∷ []) ≡ true)
    more k = elim k [
      | inl t ↦ let count = fault-push os o in inl (omega (arith, count, t))
      | inr f ↦ inr (gives-push 5 os o f)
    ]

    by : (a b : Option ℕ) → closed ≡ a → GoesShut a b o → AreBorneOut before now b (os ++ o ∷ [])
    by (Some p) b c g = subst (λ x. AreBorneOut before now x (os ++ o ∷ [])) (sym g)
        (record { rose = counted; shut = λ q e. more (h.shut p c); opened = λ e. cc })
    by None None c g = record { rose = counted; shut = λ q e. cc; opened = λ e. all-push TellsOpen os o (h.opened c) g }
    by None (Some q) c g = record { rose = counted; shut = λ r e. caused o os g; opened = λ e. cc }

-- the other count of a sum
pub rose-beside : (least a b before now : ℕ) → RoseBy least before now → RoseBy least (min (before + a) (2 ^ 64 - 1)) (min (now + a) (2 ^ 64 - 1))
rose-beside least a b before now h = omega (arith, h)
