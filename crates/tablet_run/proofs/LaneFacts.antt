-- What the calls of a lane give, as its jobs need it.
use Rattle.std.proofs.Common.{◌≡◌, refl, ap, sym, subst, ◌∙◌, ◌⊎◌, inl, inr, ℕ, ◌+◌, ◌-◌, ◌^◌, ◌≤◌, arith, List, length, min, Option, Some, None, Ok, Err, true, false}
use Rattle.std.specs.Prelude.{⊤, IfSome, IfNone}
use Rattle.std.specs.FinMap as fin
use Rattle.std.proofs.lemmas.List.{length-map}
use Rattle.dev_traits.specs.Causes.{Counts, HasMakeCause, RoseBy}
use Rattle.dev_traits.specs.Faults.{outside_of_make, outside_of_read}
use Rattle.dev_traits.specs.View.{Calm, View}
use Rattle.dev_traits.specs.declared.faults.Damaged.{Damaged}
use Rattle.dev_traits.specs.declared.faults.MakeFault.{MakeFault}
use Rattle.dev_traits.specs.declared.faults.MakeFault.TheVariants as make
use Rattle.dev_traits.specs.declared.faults.ReadFault.{ReadFault}
use Rattle.dev_traits.specs.declared.faults.ReadFault.TheVariants as read
use Rattle.dev_traits.specs.declared.faults.OutsideFault.{OutsideFault}
use Rattle.dev_traits.specs.declared.faults.OutsideFault.TheVariants as outside
use Rattle.pk_values.specs.declared.cells.Value.{Value}
use Rattle.pk_model.specs.declared.books.Book.{Book}
use Rattle.pk_model.specs.Tables.{Rows}
use Rattle.pk_model.specs.declared.calls.Call.TheVariants as call
use Rattle.pk_model.specs.declared.calls.Load.{Load}
use Rattle.pk_model.specs.declared.calls.Reply.{Reply}
use Rattle.pk_model.specs.declared.calls.Reply.TheVariants as reply
use Rattle.core_publish.specs.Replies as told
use Rattle.core_publish.specs.Replies.{told_by_reply}
use Rattle.script_text.specs.declared.scripts.JobAct.TheVariants as act
use Rattle.reports.specs.declared.jobs.FiledJob.{FiledJob}
use Rattle.reports.specs.Jobs.{load_in}
use Rattle.reports.specs.Shutting.{TellsShut, shut_after}
use Rattle.script_text.specs.Texts.{rows_text}
use Rattle.script_text.specs.declared.outcomes.Outcome.{Outcome}
use Rattle.script_text.specs.declared.outcomes.Outcome.TheVariants as outcome
use Rattle.reports.specs.Bearing.{TellsIntact, told_by}
use Rattle.tablet_state.specs.Contents.{worn_of}
use Rattle.tablet_state.specs.State.{Has, Rests, Shown, StandsThroughout, Steps, faults_of}
use Rattle.tablet_run.specs.Doing.{Does, faults_beside}
use Rattle.tablet_run.specs.declared.done.Parts.TheVariants as parts
use Rattle.tablet_run.proofs.DoingLaws.{publish-does, unmade-does}
use Rattle.tablet_run.specs.Scanning.{IsIdle, RowsTold}

-- ---- faults outside of a turn

pub intact-outside : (f : OutsideFault) → ((d : Damaged) → f ≡ outside.Damaged d → ⊥) → TellsIntact (outcome.Outside f)
intact-outside outside.Fault h = tt
intact-outside (outside.Damaged d) h = h d refl
intact-outside outside.Memory h = tt

-- a fault that readers counted is one of the tablet, which takes them back
pub rose-outside : (f : OutsideFault) (k old new : ℕ) → (f ≡ outside.Fault → 1 ≤ k) → new ≡ min (old + k) (2 ^ 64 - 1) → RoseBy (told_by (outcome.Outside f)) old new
rose-outside outside.Fault k old new h e = let some = h refl in omega (arith, some, e)
rose-outside (outside.Damaged d) k old new h e = omega (arith, e)
rose-outside outside.Memory k old new h e = omega (arith, e)

pub rose-rows : (k old new : ℕ) → new ≡ min (old + k) (2 ^ 64 - 1) → RoseBy 0 old new
rose-rows k old new e = omega (arith, e)

pub read-fault : (e : ReadFault) → outside_of_read e ≡ outside.Fault → e ≡ read.StoreFault
read-fault read.StoreFault h = refl
read-fault (read.Damaged d) h = cc h
read-fault read.Memory h = cc h

pub read-damaged : (e : ReadFault) (d : Damaged) → outside_of_read e ≡ outside.Damaged d → e ≡ read.Damaged d
read-damaged read.StoreFault d h = cc h
read-damaged (read.Damaged c) d h = ap read.Damaged (cc h)
read-damaged read.Memory d h = cc h

-- ---- rows

length-values : (m : Rows) → length (fin.values m) ≡ fin.len m
length-values m = length-map (fin.entries m) (λ e. e.1) ∙ sym (fin.len-entries m)

pub told-text : (v : ℕ) (m : Rows) (count : ℕ) (text : List ℕ) → count ≡ fin.len m → (length (fin.values m) ≡ count → text ≡ rows_text (fin.values m)) → RowsTold v m (outcome.Rows v count text)
told-text v m count text e h = inl (λ i. outcome.Rows v (e i) (h (length-values m ∙ sym e) i))

pub told-fault : (v : ℕ) (m : Rows) (f : OutsideFault) → ((d : Damaged) → f ≡ outside.Damaged d → ⊥) → RowsTold v m (outcome.Outside f)
told-fault v m f h = inr (tt, intact-outside f h)

-- ---- a tablet at rest

pub idle : {S : Type 0} (view : S → View) (old new : Shown S) → ((b : Book) → Has view old b → Has view new b) → Rests view old new → IsIdle view old new
idle view old new has rests = record { has = has; calm = rests.calm; contents = rests.contents; closed = rests.closed }

-- ---- what a turn tells of a closed tablet

pub tells-shut : (o : Option ℕ) (r : Reply) → told.TellsShut o r → TellsShut o r
tells-shut (Some p) r h = h
tells-shut None r h = by r h
  where
    by : (r : Reply) → told.TellsShut None r → TellsShut None r
    by (reply.Published v) h = tt
    by (reply.Opened v) h = tt
    by (reply.Begun v) h = tt
    by (reply.Compacted before after rows late) h = tt
    by (reply.Floor f) h = tt
    by (reply.Stat floor version rows rowsets) h = tt
    by reply.GaveUp h = tt
    by (reply.Expired f) h = tt
    by (reply.NotYet v) h = tt
    by (reply.Busy v) h = tt
    by reply.ManyVersions h = tt
    by (reply.Closed at) h = h
    by (reply.StoreFault n) h = tt
    by (reply.Damaged d) h = tt
    by reply.Memory h = tt
    by reply.NoPlan h = tt
    by (reply.Worn n) h = tt

pub same-shut : (o : Option ℕ) (place : ℕ) (r : Reply) → told.shut_after o place r ≡ shut_after o place r
same-shut (Some p) place r = refl
same-shut None place r = by r
  where
    by : (r : Reply) → told.shut_after None place r ≡ shut_after None place r
    by (reply.Published v) = refl
    by (reply.Opened v) = refl
    by (reply.Begun v) = refl
    by (reply.Compacted before after rows late) = refl
    by (reply.Floor f) = refl
    by (reply.Stat floor version rows rowsets) = refl
    by reply.GaveUp = refl
    by (reply.Expired f) = refl
    by (reply.NotYet v) = refl
    by (reply.Busy v) = refl
    by reply.ManyVersions = refl
    by (reply.Closed at) = refl
    by (reply.StoreFault n) = refl
    by (reply.Damaged d) = refl
    by reply.Memory = refl
    by reply.NoPlan = refl
    by (reply.Worn n) = refl

pub at-some : {X : Type 0} (P : X → Type 0) (o : Option X) (x : X) → o ≡ Some x → IfSome o P → P x
at-some P o x e h = subst (λ o. IfSome o P) e h

pub at-none : {X : Type 0} (P : Type 0) (o : Option X) → o ≡ None → IfNone o P → P
at-none P o e h = subst (λ o. IfNone o P) e h

-- ---- a load that was published

pub published-does : {S : Type 0} (view : S → View) (j : FiledJob) (place : ℕ) (name : List ℕ) → j.job.act ≡ act.Load name
    → (old new : Shown S) (load given : Load) (r : Reply) (n m : ℕ) → load_in old.contents.schema j ≡ Ok load → given ≡ load → m ≡ n
    → ((b : Book) → Has view old b → Steps view new b place (call.Load given) r)
    → ((b : Book) → Has view old b → old.closed ≡ None → StandsThroughout old.contents.schema b place (call.Load given) (view old.store) (view new.store))
    → ((b : Book) → Has view old b → (d : Damaged) → r ≡ reply.Damaged d → ⊥)
    → told.TellsShut old.closed r → new.closed ≡ told.shut_after old.closed place r → ((p : ℕ) → old.closed ≡ Some p → new ≡ old)
    → new.contents.schema ≡ old.contents.schema → (view new.store).is_honest ≡ (view old.store).is_honest
    → RoseBy (told_by_reply r) (faults_of view old) (faults_of view new)
    → ((k : ℕ) → r ≡ reply.Worn k → (worn_of old.contents ≡ Some k) × (new ≡ old))
    → ((k : ℕ) → old.closed ≡ None → worn_of old.contents ≡ Some k → r ≡ reply.Worn k)
    → Does view j place old new (faults_beside view old n) (faults_beside view new m) (record { parts = parts.Whole; outcome = outcome.Turn r })
published-does view j place name is old new load given r n m read same count turn moment intact tells shut stays schema honest rose worn stays_worn =
    publish-does view j place name is old new load r n m read count
    (subst (λ l. (b : Book) → Has view old b → Steps view new b place (call.Load l) r) same turn)
    (subst (λ l. (b : Book) → Has view old b → old.closed ≡ None → StandsThroughout old.contents.schema b place (call.Load l) (view old.store) (view new.store)) same moment)
    intact (tells-shut old.closed r tells) (shut ∙ same-shut old.closed place r) stays schema honest rose worn stays_worn

-- one whose files weren't made
pub unmade : {S : Type 0} (view : S → View) (j : FiledJob) (place : ℕ) (name : List ℕ) → j.job.act ≡ act.Load name
    → (old : Shown S) (load : Load) (f : MakeFault) (told : OutsideFault) (n m : ℕ) → load_in old.contents.schema j ≡ Ok load → told ≡ outside_of_make f
    → (f ≡ make.StoreFault → Counts 1 n m) → ((f ≡ make.StoreFault → ⊥) → m ≡ n)
    → Does view j place old old (faults_beside view old n) (faults_beside view old m) (record { parts = parts.None; outcome = outcome.Outside told })
unmade view j place name is old load f told n m read same counts stays =
    subst (λ t. Does view j place old old (faults_beside view old n) (faults_beside view old m) (record { parts = parts.None; outcome = outcome.Outside t })) (sym same)
    (unmade-does view j place name is old load f n m read counts stays)

pub well-made : {T : Type 0} (x : T) (n m : ℕ) → HasMakeCause n m (Ok x) → m ≡ n
well-made x n m h = h.well (λ e. cc e)

pub failed-made : {T : Type 0} (f : MakeFault) (n m : ℕ) → HasMakeCause {T = T} n m (Err f) → (f ≡ make.StoreFault → Counts 1 n m) × ((f ≡ make.StoreFault → ⊥) → m ≡ n)
failed-made f n m h = (λ e. h.failed (ap Err e), λ other. h.well (λ e. other (cc e)))
