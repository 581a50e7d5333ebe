-- Where nothing disturbed a job, its turns got the book's own replies, and its outcome follows from them.
use Rattle.std.proofs.Common.{◌≡◌, refl, ap, sym, subst, ◌∙◌, inl, inr, ℕ, List, [], ◌∷◌, Option, Some, None, IsSomeAnd, Result, Ok, Err}
use Rattle.std.specs.FinMap as fin
use Rattle.std.specs.List.{AllByRecursion}
use Rattle.std.proofs.lemmas.Option.{same_Some}
use Rattle.load_csv.specs.declared.loads.LoadFault.{LoadFault}
use Rattle.pk_model.specs.declared.calls.Load.{Load}
use Rattle.pk_model.specs.declared.calls.Call.{Call}
use Rattle.pk_model.specs.declared.calls.Call.TheVariants as call
use Rattle.pk_model.specs.declared.calls.Want.{Want}
use Rattle.pk_model.specs.declared.calls.Reply.{Reply}
use Rattle.pk_model.specs.declared.calls.Reply.TheVariants as reply
use Rattle.pk_model.specs.declared.books.Book.{Book}
use Rattle.pk_model.specs.Tables.{Rows}
use Rattle.pk_model.specs.Books.{IsOfDevice, MayGet, MayReply, answer, rows_at}
use Rattle.pk_values.specs.Schemas.{Layout}
use Rattle.script_text.specs.declared.scripts.JobAct.{JobAct}
use Rattle.script_text.specs.declared.scripts.JobAct.TheVariants as act
use Rattle.script_text.specs.declared.outcomes.ItemPart.{ItemPart}
use Rattle.script_text.specs.declared.outcomes.ItemPart.TheVariants as part
use Rattle.script_text.specs.declared.outcomes.Outcome.{Outcome}
use Rattle.script_text.specs.declared.outcomes.Outcome.TheVariants as outcome
use Rattle.reports.specs.declared.jobs.FiledJob.{FiledJob}
use Rattle.reports.specs.declared.turns.Turn.{Turn}
use Rattle.reports.specs.Jobs.{load_in}
use Rattle.reports.specs.Courses.{AreRowsOf, ReadingTells, IsRefused, IsOutside, IsWhole, IsFirst, EndsWith, ScanEnds, PartialPublishes, PartialGoesOn, CompactEnds, CompactMerged, CompactMerges, CompactGoesOn, HasTurns, IsCourse, WithoutTurn}
use Rattle.script_text.specs.Texts.{rows_text}
use Rattle.reports.specs.Reports.{HasItsRows, TellsTheRows}
use Rattle.reports.specs.Calm.{IsOfBook, IsOfFile, IsUndisturbed}

-- each turn got a reply that no device gave
abbrev pub AreOfBook : List Turn → Type 0
AreOfBook ts = AllByRecursion (λ (t : Turn). IsOfBook t.reply) ts

pub not-outside : (o : Outcome) → IsOutside o → IsUndisturbed o → ⊥
not-outside (outcome.Turn r) h u = h
not-outside (outcome.Rows v count text) h u = h
not-outside (outcome.Load f) h u = h
not-outside (outcome.Outside f) h u = u
not-outside outcome.NotRun h u = h

-- ---- replies

pub device-apart : (r : Reply) → IsOfDevice r → IsOfBook r → ⊥
device-apart (reply.Published v) h u = h
device-apart (reply.Opened v) h u = h
device-apart (reply.Begun v) h u = h
device-apart (reply.Compacted before after rows late) h u = h
device-apart (reply.Floor f) h u = h
device-apart (reply.Stat floor version rows rowsets) h u = h
device-apart reply.GaveUp h u = h
device-apart (reply.Expired f) h u = h
device-apart (reply.NotYet v) h u = h
device-apart (reply.Busy v) h u = h
device-apart reply.ManyVersions h u = h
device-apart (reply.Closed at) h u = h
device-apart (reply.StoreFault x) h u = u
device-apart (reply.Damaged d) h u = u
device-apart reply.Memory h u = u
device-apart reply.NoPlan h u = h
device-apart (reply.Worn x) h u = u

open-apart : (w : Want) (r : Reply) → MayGet (call.Open w) r → IsOfBook r → ⊥
open-apart w (reply.Published v) h u = h
open-apart w (reply.Opened v) h u = h
open-apart w (reply.Begun v) h u = h
open-apart w (reply.Compacted before after rows late) h u = h
open-apart w (reply.Floor f) h u = h
open-apart w (reply.Stat floor version rows rowsets) h u = h
open-apart w reply.GaveUp h u = h
open-apart w (reply.Expired f) h u = h
open-apart w (reply.NotYet v) h u = h
open-apart w (reply.Busy v) h u = h
open-apart w reply.ManyVersions h u = h
open-apart w (reply.Closed at) h u = h
open-apart w (reply.StoreFault x) h u = u
open-apart w (reply.Damaged d) h u = u
open-apart w reply.Memory h u = u
open-apart w reply.NoPlan h u = h
open-apart w (reply.Worn x) h u = u

expire-apart : (v : ℕ) (r : Reply) → MayGet (call.Expire v) r → IsOfBook r → ⊥
expire-apart v0 (reply.Published v) h u = h
expire-apart v0 (reply.Opened v) h u = h
expire-apart v0 (reply.Begun v) h u = h
expire-apart v0 (reply.Compacted before after rows late) h u = h
expire-apart v0 (reply.Floor f) h u = h
expire-apart v0 (reply.Stat floor version rows rowsets) h u = h
expire-apart v0 reply.GaveUp h u = h
expire-apart v0 (reply.Expired f) h u = h
expire-apart v0 (reply.NotYet v) h u = h
expire-apart v0 (reply.Busy v) h u = h
expire-apart v0 reply.ManyVersions h u = h
expire-apart v0 (reply.Closed at) h u = h
expire-apart v0 (reply.StoreFault x) h u = u
expire-apart v0 (reply.Damaged d) h u = u
expire-apart v0 reply.Memory h u = u
expire-apart v0 reply.NoPlan h u = h
expire-apart v0 (reply.Worn x) h u = u

get-apart : (c : Call) (r : Reply) → MayGet c r → IsOfBook r → ⊥
get-apart (call.Load l) r h u = device-apart r h u
get-apart (call.Open w) r h u = open-apart w r h u
get-apart call.Begin r h u = device-apart r h u
get-apart (call.End p) r h u = device-apart r h u
get-apart (call.GiveUp p) r h u = h
get-apart (call.Expire v) r h u = expire-apart v r h u
get-apart call.Stat r h u = h

-- a reply that no device gave is the book's answer
pub book-answers : (b : Book) (c : Call) (r : Reply) → MayReply b c r → IsOfBook r → r ≡ answer b c
book-answers b c r m u = elim m [
  | inl is ↦ is
  | inr device ↦ absurd (get-apart c r device.0 u)
]

-- ---- the turns of a course

calm-end : (r : Reply) (ts : List Turn) (o : Outcome) → EndsWith r ts o → IsUndisturbed o → IsOfBook r × AreOfBook ts
calm-end r ts o h u = (subst IsUndisturbed h.1 u, subst AreOfBook (sym h.0) tt)

calm-publishes : (ts : List Turn) (o : Outcome) → PartialPublishes ts o → IsUndisturbed o → AreOfBook ts
calm-publishes [] o h u = tt
calm-publishes (t ∷ ts) o h u = calm-end t.reply ts o h.1 u

calm-partial : (o : Outcome) (r : Reply) (ts : List Turn) → PartialGoesOn o r ts → IsUndisturbed o → IsOfBook r × AreOfBook ts
calm-partial o (reply.Published v) ts h u = calm-end (reply.Published v) ts o h u
calm-partial o (reply.Opened v) ts h u = (tt, calm-publishes ts o h u)
calm-partial o (reply.Begun v) ts h u = calm-end (reply.Begun v) ts o h u
calm-partial o (reply.Compacted before after rows late) ts h u = calm-end (reply.Compacted before after rows late) ts o h u
calm-partial o (reply.Floor f) ts h u = calm-end (reply.Floor f) ts o h u
calm-partial o (reply.Stat floor version rows rowsets) ts h u = calm-end (reply.Stat floor version rows rowsets) ts o h u
calm-partial o reply.GaveUp ts h u = calm-end reply.GaveUp ts o h u
calm-partial o (reply.Expired f) ts h u = calm-end (reply.Expired f) ts o h u
calm-partial o (reply.NotYet v) ts h u = calm-end (reply.NotYet v) ts o h u
calm-partial o (reply.Busy v) ts h u = calm-end (reply.Busy v) ts o h u
calm-partial o reply.ManyVersions ts h u = calm-end reply.ManyVersions ts o h u
calm-partial o (reply.Closed at) ts h u = calm-end (reply.Closed at) ts o h u
calm-partial o (reply.StoreFault x) ts h u = calm-end (reply.StoreFault x) ts o h u
calm-partial o (reply.Damaged d) ts h u = calm-end (reply.Damaged d) ts o h u
calm-partial o reply.Memory ts h u = calm-end reply.Memory ts o h u
calm-partial o reply.NoPlan ts h u = calm-end reply.NoPlan ts o h u
calm-partial o (reply.Worn x) ts h u = calm-end (reply.Worn x) ts o h u

calm-ends : (r : Reply) (ts : List Turn) (o : Outcome) → CompactEnds r ts o → IsUndisturbed o → IsOfBook r × AreOfBook ts
calm-ends (reply.Published v) ts o h u = calm-end (reply.Published v) ts o h u
calm-ends (reply.Opened v) ts o h u = calm-end (reply.Opened v) ts o h u
calm-ends (reply.Begun v) ts o h u = calm-end (reply.Begun v) ts o h u
calm-ends (reply.Compacted before after rows late) ts o h u = calm-end (reply.Compacted before after rows late) ts o h u
calm-ends (reply.Floor f) ts o h u = calm-end (reply.Floor f) ts o h u
calm-ends (reply.Stat floor version rows rowsets) ts o h u = calm-end (reply.Stat floor version rows rowsets) ts o h u
calm-ends reply.GaveUp ts o h u = calm-end reply.GaveUp ts o h u
calm-ends (reply.Expired f) ts o h u = calm-end (reply.Expired f) ts o h u
calm-ends (reply.NotYet v) ts o h u = calm-end (reply.NotYet v) ts o h u
calm-ends (reply.Busy v) ts o h u = calm-end (reply.Busy v) ts o h u
calm-ends reply.ManyVersions ts o h u = calm-end reply.ManyVersions ts o h u
calm-ends (reply.Closed at) ts o h u = calm-end (reply.Closed at) ts o h u
calm-ends (reply.StoreFault x) ts o h u = calm-end (reply.StoreFault x) ts o h u
calm-ends (reply.Damaged d) ts o h u = calm-end (reply.Damaged d) ts o h u
calm-ends reply.Memory ts o h u = absurd (subst IsUndisturbed h.1 u)
calm-ends reply.NoPlan ts o h u = calm-end reply.NoPlan ts o h u
calm-ends (reply.Worn x) ts o h u = calm-end (reply.Worn x) ts o h u

calm-merged : (p : ItemPart) (r : Reply) (ts : List Turn) (o : Outcome) → CompactMerged p r ts o → IsUndisturbed o → IsOfBook r × AreOfBook ts
calm-merged part.Whole r ts o h u = absurd h
calm-merged part.First r ts o h u = absurd h
calm-merged part.Last r ts o h u = calm-ends r ts o h u
calm-merged part.GaveUp r ts o h u = absurd (not-outside o h.1 u)

calm-merges : (ts : List Turn) (o : Outcome) → CompactMerges ts o → IsUndisturbed o → AreOfBook ts
calm-merges [] o h u = absurd h
calm-merges (t ∷ ts) o h u = calm-merged t.part t.reply ts o h u

calm-compact : (o : Outcome) (r : Reply) (ts : List Turn) → CompactGoesOn o r ts → IsUndisturbed o → IsOfBook r × AreOfBook ts
calm-compact o (reply.Published v) ts h u = calm-end (reply.Published v) ts o h u
calm-compact o (reply.Opened v) ts h u = calm-end (reply.Opened v) ts o h u
calm-compact o (reply.Begun v) ts h u = (tt, calm-merges ts o h u)
calm-compact o (reply.Compacted before after rows late) ts h u = calm-end (reply.Compacted before after rows late) ts o h u
calm-compact o (reply.Floor f) ts h u = calm-end (reply.Floor f) ts o h u
calm-compact o (reply.Stat floor version rows rowsets) ts h u = calm-end (reply.Stat floor version rows rowsets) ts o h u
calm-compact o reply.GaveUp ts h u = calm-end reply.GaveUp ts o h u
calm-compact o (reply.Expired f) ts h u = calm-end (reply.Expired f) ts o h u
calm-compact o (reply.NotYet v) ts h u = calm-end (reply.NotYet v) ts o h u
calm-compact o (reply.Busy v) ts h u = calm-end (reply.Busy v) ts o h u
calm-compact o reply.ManyVersions ts h u = calm-end reply.ManyVersions ts o h u
calm-compact o (reply.Closed at) ts h u = calm-end (reply.Closed at) ts o h u
calm-compact o (reply.StoreFault x) ts h u = calm-end (reply.StoreFault x) ts o h u
calm-compact o (reply.Damaged d) ts h u = calm-end (reply.Damaged d) ts o h u
calm-compact o reply.Memory ts h u = calm-end reply.Memory ts o h u
calm-compact o reply.NoPlan ts h u = calm-end reply.NoPlan ts o h u
calm-compact o (reply.Worn x) ts h u = calm-end (reply.Worn x) ts o h u

calm-scan : (r : Reply) (o : Outcome) → ScanEnds r o → IsUndisturbed o → IsOfBook r
calm-scan (reply.Published v) o h u = subst IsUndisturbed h u
calm-scan (reply.Opened v) o h u = tt
calm-scan (reply.Begun v) o h u = subst IsUndisturbed h u
calm-scan (reply.Compacted before after rows late) o h u = subst IsUndisturbed h u
calm-scan (reply.Floor f) o h u = subst IsUndisturbed h u
calm-scan (reply.Stat floor version rows rowsets) o h u = subst IsUndisturbed h u
calm-scan reply.GaveUp o h u = subst IsUndisturbed h u
calm-scan (reply.Expired f) o h u = subst IsUndisturbed h u
calm-scan (reply.NotYet v) o h u = subst IsUndisturbed h u
calm-scan (reply.Busy v) o h u = subst IsUndisturbed h u
calm-scan reply.ManyVersions o h u = subst IsUndisturbed h u
calm-scan (reply.Closed at) o h u = subst IsUndisturbed h u
calm-scan (reply.StoreFault x) o h u = subst IsUndisturbed h u
calm-scan (reply.Damaged d) o h u = subst IsUndisturbed h u
calm-scan reply.Memory o h u = subst IsUndisturbed h u
calm-scan reply.NoPlan o h u = subst IsUndisturbed h u
calm-scan (reply.Worn x) o h u = subst IsUndisturbed h u

calm-whole : (ts : List Turn) (Ends : Turn → Type 0) → IsWhole ts Ends → ((t : Turn) → Ends t → IsOfBook t.reply) → AreOfBook ts
calm-whole [] Ends h f = absurd h
calm-whole (t ∷ []) Ends h f = (f t h.1, tt)
calm-whole (t ∷ u ∷ ts) Ends h f = absurd h

calm-first : (ts : List Turn) (GoesOn : Reply → List Turn → Type 0) → IsFirst ts GoesOn → ((r : Reply) (us : List Turn) → GoesOn r us → IsOfBook r × AreOfBook us) → AreOfBook ts
calm-first [] GoesOn h f = absurd h
calm-first (t ∷ ts) GoesOn h f = f t.reply ts h.1

calm-turns : (a : JobAct) (ts : List Turn) (o : Outcome) → HasTurns a ts o → IsUndisturbed o → AreOfBook ts
calm-turns (act.Load name) ts o h u = calm-whole ts _ h (λ t e. subst IsUndisturbed e u)
calm-turns (act.Partial name) ts o h u = calm-first ts (PartialGoesOn o) h (λ r us k. calm-partial o r us k u)
calm-turns (act.Scan want) ts o h u = calm-whole ts _ h (λ t k. calm-scan t.reply o k u)
calm-turns act.Compact ts o h u = calm-first ts (CompactGoesOn o) h (λ r us k. calm-compact o r us k u)
calm-turns (act.Expire v) ts o h u = calm-whole ts _ h (λ t e. subst IsUndisturbed e u)
calm-turns act.Stat ts o h u = calm-whole ts _ h (λ t e. subst IsUndisturbed e u)

pub calm-course : (s : Layout) (j : FiledJob) (ts : List Turn) (o : Outcome) → IsCourse s j ts o → IsUndisturbed o → AreOfBook ts
calm-course s j [] o h u = tt
calm-course s j (t ∷ ts) o h u = calm-turns j.job.act (t ∷ ts) o h u

-- ---- the outcome of a course

same-end : (r : Reply) (ts : List Turn) (o p : Outcome) → EndsWith r ts o → EndsWith r ts p → o ≡ p
same-end r ts o p h k = h.1 ∙ sym k.1

pub on-both : {X : Type 0} (A B : X → Type 0) (C : Type 0) (o p : Option X) → o ≡ p → IsSomeAnd o A → IsSomeAnd p B → ((x : X) → A x → B x → C) → C
on-both A B C None p e a b f = absurd a
on-both A B C (Some x) None e a b f = absurd b
on-both A B C (Some x) (Some y) e a b f = f x a (subst B (sym (same_Some x y e)) b)

abbrev AreTheRows : ℕ → List ℕ → Rows → Type 0
AreTheRows count text m = (count ≡ fin.len m) × (text ≡ rows_text (fin.values m))

same-told : (b : Book) (n k c d : ℕ) (t v : List ℕ) → n ≡ k → IsSomeAnd (rows_at b n) (AreTheRows c t) → IsSomeAnd (rows_at b k) (AreTheRows d v) → outcome.Rows n c t ≡ outcome.Rows k d v
same-told b n k c d t v e x y = on-both (AreTheRows c t) (AreTheRows d v) (outcome.Rows n c t ≡ outcome.Rows k d v) (rows_at b n) (rows_at b k) (ap (rows_at b) e) x y
    (λ m a q. λ i. outcome.Rows (e i) ((a.0 ∙ sym q.0) i) ((a.1 ∙ sym q.1) i))

same-rows : (b : Book) (v : ℕ) (o p : Outcome) → IsUndisturbed o → IsUndisturbed p → AreRowsOf v o → AreRowsOf v p → HasItsRows b o → HasItsRows b p → o ≡ p
same-rows b v (outcome.Turn r) p u w h k x y = absurd h
same-rows b v (outcome.Load f) p u w h k x y = absurd h
same-rows b v (outcome.Outside f) p u w h k x y = absurd u
same-rows b v outcome.NotRun p u w h k x y = absurd h
same-rows b v (outcome.Rows n c t) (outcome.Turn r) u w h k x y = absurd k
same-rows b v (outcome.Rows n c t) (outcome.Load f) u w h k x y = absurd k
same-rows b v (outcome.Rows n c t) (outcome.Outside f) u w h k x y = absurd w
same-rows b v (outcome.Rows n c t) outcome.NotRun u w h k x y = absurd k
same-rows b v (outcome.Rows n c t) (outcome.Rows m d z) u w h k x y = same-told b n m c d t z (h ∙ sym k) x y

module _ (o p : Outcome) (u : IsUndisturbed o) (w : IsUndisturbed p) where
  same-publishes : (ts : List Turn) → PartialPublishes ts o → PartialPublishes ts p → o ≡ p
  same-publishes [] h k = absurd (not-outside o h u)
  same-publishes (t ∷ ts) h k = same-end t.reply ts o p h.1 k.1

  same-partial : (r : Reply) (ts : List Turn) → PartialGoesOn o r ts → PartialGoesOn p r ts → o ≡ p
  same-partial (reply.Published v) ts h k = same-end (reply.Published v) ts o p h k
  same-partial (reply.Opened v) ts h k = same-publishes ts h k
  same-partial (reply.Begun v) ts h k = same-end (reply.Begun v) ts o p h k
  same-partial (reply.Compacted before after rows late) ts h k = same-end (reply.Compacted before after rows late) ts o p h k
  same-partial (reply.Floor f) ts h k = same-end (reply.Floor f) ts o p h k
  same-partial (reply.Stat floor version rows rowsets) ts h k = same-end (reply.Stat floor version rows rowsets) ts o p h k
  same-partial reply.GaveUp ts h k = same-end reply.GaveUp ts o p h k
  same-partial (reply.Expired f) ts h k = same-end (reply.Expired f) ts o p h k
  same-partial (reply.NotYet v) ts h k = same-end (reply.NotYet v) ts o p h k
  same-partial (reply.Busy v) ts h k = same-end (reply.Busy v) ts o p h k
  same-partial reply.ManyVersions ts h k = same-end reply.ManyVersions ts o p h k
  same-partial (reply.Closed at) ts h k = same-end (reply.Closed at) ts o p h k
  same-partial (reply.StoreFault x) ts h k = same-end (reply.StoreFault x) ts o p h k
  same-partial (reply.Damaged d) ts h k = same-end (reply.Damaged d) ts o p h k
  same-partial reply.Memory ts h k = same-end reply.Memory ts o p h k
  same-partial reply.NoPlan ts h k = same-end reply.NoPlan ts o p h k
  same-partial (reply.Worn x) ts h k = same-end (reply.Worn x) ts o p h k

  same-ends : (r : Reply) (ts : List Turn) → CompactEnds r ts o → CompactEnds r ts p → o ≡ p
  same-ends (reply.Published v) ts h k = same-end (reply.Published v) ts o p h k
  same-ends (reply.Opened v) ts h k = same-end (reply.Opened v) ts o p h k
  same-ends (reply.Begun v) ts h k = same-end (reply.Begun v) ts o p h k
  same-ends (reply.Compacted before after rows late) ts h k = same-end (reply.Compacted before after rows late) ts o p h k
  same-ends (reply.Floor f) ts h k = same-end (reply.Floor f) ts o p h k
  same-ends (reply.Stat floor version rows rowsets) ts h k = same-end (reply.Stat floor version rows rowsets) ts o p h k
  same-ends reply.GaveUp ts h k = same-end reply.GaveUp ts o p h k
  same-ends (reply.Expired f) ts h k = same-end (reply.Expired f) ts o p h k
  same-ends (reply.NotYet v) ts h k = same-end (reply.NotYet v) ts o p h k
  same-ends (reply.Busy v) ts h k = same-end (reply.Busy v) ts o p h k
  same-ends reply.ManyVersions ts h k = same-end reply.ManyVersions ts o p h k
  same-ends (reply.Closed at) ts h k = same-end (reply.Closed at) ts o p h k
  same-ends (reply.StoreFault x) ts h k = same-end (reply.StoreFault x) ts o p h k
  same-ends (reply.Damaged d) ts h k = same-end (reply.Damaged d) ts o p h k
  same-ends reply.Memory ts h k = h.1 ∙ sym k.1
  same-ends reply.NoPlan ts h k = same-end reply.NoPlan ts o p h k
  same-ends (reply.Worn x) ts h k = same-end (reply.Worn x) ts o p h k

  same-merged : (q : ItemPart) (r : Reply) (ts : List Turn) → CompactMerged q r ts o → CompactMerged q r ts p → o ≡ p
  same-merged part.Whole r ts h k = absurd h
  same-merged part.First r ts h k = absurd h
  same-merged part.Last r ts h k = same-ends r ts h k
  same-merged part.GaveUp r ts h k = absurd (not-outside o h.1 u)

  same-merges : (ts : List Turn) → CompactMerges ts o → CompactMerges ts p → o ≡ p
  same-merges [] h k = absurd h
  same-merges (t ∷ ts) h k = same-merged t.part t.reply ts h k

  same-compact : (r : Reply) (ts : List Turn) → CompactGoesOn o r ts → CompactGoesOn p r ts → o ≡ p
  same-compact (reply.Published v) ts h k = same-end (reply.Published v) ts o p h k
  same-compact (reply.Opened v) ts h k = same-end (reply.Opened v) ts o p h k
  same-compact (reply.Begun v) ts h k = same-merges ts h k
  same-compact (reply.Compacted before after rows late) ts h k = same-end (reply.Compacted before after rows late) ts o p h k
  same-compact (reply.Floor f) ts h k = same-end (reply.Floor f) ts o p h k
  same-compact (reply.Stat floor version rows rowsets) ts h k = same-end (reply.Stat floor version rows rowsets) ts o p h k
  same-compact reply.GaveUp ts h k = same-end reply.GaveUp ts o p h k
  same-compact (reply.Expired f) ts h k = same-end (reply.Expired f) ts o p h k
  same-compact (reply.NotYet v) ts h k = same-end (reply.NotYet v) ts o p h k
  same-compact (reply.Busy v) ts h k = same-end (reply.Busy v) ts o p h k
  same-compact reply.ManyVersions ts h k = same-end reply.ManyVersions ts o p h k
  same-compact (reply.Closed at) ts h k = same-end (reply.Closed at) ts o p h k
  same-compact (reply.StoreFault x) ts h k = same-end (reply.StoreFault x) ts o p h k
  same-compact (reply.Damaged d) ts h k = same-end (reply.Damaged d) ts o p h k
  same-compact reply.Memory ts h k = same-end reply.Memory ts o p h k
  same-compact reply.NoPlan ts h k = same-end reply.NoPlan ts o p h k
  same-compact (reply.Worn x) ts h k = same-end (reply.Worn x) ts o p h k

  same-scan : (b : Book) (r : Reply) → ScanEnds r o → ScanEnds r p → HasItsRows b o → HasItsRows b p → o ≡ p
  same-scan b (reply.Published v) h k y z = h ∙ sym k
  same-scan b (reply.Opened v) h k x y = same-rows b v o p u w h k x y
  same-scan b (reply.Begun v) h k y z = h ∙ sym k
  same-scan b (reply.Compacted before after rows late) h k y z = h ∙ sym k
  same-scan b (reply.Floor f) h k y z = h ∙ sym k
  same-scan b (reply.Stat floor version rows rowsets) h k y z = h ∙ sym k
  same-scan b reply.GaveUp h k y z = h ∙ sym k
  same-scan b (reply.Expired f) h k y z = h ∙ sym k
  same-scan b (reply.NotYet v) h k y z = h ∙ sym k
  same-scan b (reply.Busy v) h k y z = h ∙ sym k
  same-scan b reply.ManyVersions h k y z = h ∙ sym k
  same-scan b (reply.Closed at) h k y z = h ∙ sym k
  same-scan b (reply.StoreFault x) h k y z = h ∙ sym k
  same-scan b (reply.Damaged d) h k y z = h ∙ sym k
  same-scan b reply.Memory h k y z = h ∙ sym k
  same-scan b reply.NoPlan h k y z = h ∙ sym k
  same-scan b (reply.Worn x) h k y z = h ∙ sym k

  same-whole : (ts : List Turn) (Ends Does : Turn → Type 0) → IsWhole ts Ends → IsWhole ts Does → ((t : Turn) → Ends t → Does t → o ≡ p) → o ≡ p
  same-whole [] Ends Does h k f = absurd h
  same-whole (t ∷ []) Ends Does h k f = f t h.1 k.1
  same-whole (t ∷ q ∷ ts) Ends Does h k f = absurd h

  same-first : (ts : List Turn) (GoesOn Goes : Reply → List Turn → Type 0) → IsFirst ts GoesOn → IsFirst ts Goes → ((r : Reply) (us : List Turn) → GoesOn r us → Goes r us → o ≡ p) → o ≡ p
  same-first [] GoesOn Goes h k f = absurd h
  same-first (t ∷ ts) GoesOn Goes h k f = f t.reply ts h.1 k.1

  same-scans : (books : ℕ → Book) (ts : List Turn) → IsWhole ts (λ t. ScanEnds t.reply o) → IsWhole ts (λ t. ScanEnds t.reply p) → TellsTheRows books ts o → TellsTheRows books ts p → o ≡ p
  same-scans books [] h k x y = absurd h
  same-scans books (t ∷ []) h k x y = same-scan (books t.place) t.reply h.1 k.1 x.0 y.0
  same-scans books (t ∷ q ∷ ts) h k x y = absurd h

  same-turns : (books : ℕ → Book) (a : JobAct) (ts : List Turn) → HasTurns a ts o → HasTurns a ts p → TellsTheRows books ts o → TellsTheRows books ts p → o ≡ p
  same-turns books (act.Load name) ts h k x y = same-whole ts _ _ h k (λ t e f. e ∙ sym f)
  same-turns books (act.Partial name) ts h k x y = same-first ts (PartialGoesOn o) (PartialGoesOn p) h k (λ r us a b. same-partial r us a b)
  same-turns books (act.Scan want) ts h k x y = same-scans books ts h k x y
  same-turns books act.Compact ts h k x y = same-first ts (CompactGoesOn o) (CompactGoesOn p) h k (λ r us a b. same-compact r us a b)
  same-turns books (act.Expire v) ts h k x y = same-whole ts _ _ h k (λ t e f. e ∙ sym f)
  same-turns books act.Stat ts h k x y = same-whole ts _ _ h k (λ t e f. e ∙ sym f)

-- ---- a job without a turn

-- a file that is refused, and no want of memory
refused-with : (load : Result Load LoadFault) (f : LoadFault) → ReadingTells load f → IsOfFile f → load ≡ Err f
refused-with (Ok l) f h u = absurd (subst IsOfFile h u)
refused-with (Err g) f h u = elim h [
  | inl e ↦ ap Err (sym e)
  | inr e ↦ absurd (subst IsOfFile e u)
]

refused-by : (a : JobAct) (load : Result Load LoadFault) (f : LoadFault) → IsRefused a load f → IsOfFile f → load ≡ Err f
refused-by (act.Load name) load f h u = refused-with load f h u
refused-by (act.Partial name) load f h u = refused-with load f h u
refused-by (act.Scan want) load f h u = absurd h
refused-by act.Compact load f h u = absurd h
refused-by (act.Expire v) load f h u = absurd h
refused-by act.Stat load f h u = absurd h

without-turn : (a : JobAct) (load : Result Load LoadFault) (o : Outcome) → WithoutTurn a load o → IsUndisturbed o → (f : LoadFault) × (o ≡ outcome.Load f) × (load ≡ Err f)
without-turn a load (outcome.Turn r) h u = absurd h
without-turn a load (outcome.Rows v count text) h u = absurd h
without-turn a load (outcome.Load f) h u = (f, refl, refused-by a load f h u)
without-turn a load (outcome.Outside f) h u = absurd u
without-turn a load outcome.NotRun h u = absurd u

same-fault : (load : Result Load LoadFault) (f g : LoadFault) → load ≡ Err f → load ≡ Err g → f ≡ g
same-fault load f g e k = cc

same-without : (a : JobAct) (load : Result Load LoadFault) (o p : Outcome) → IsUndisturbed o → IsUndisturbed p → WithoutTurn a load o → WithoutTurn a load p → o ≡ p
same-without a load o p u w h k =
    let x = without-turn a load o h u in
    let y = without-turn a load p k w in
    x.1 ∙ ap outcome.Load (same-fault load x.0 y.0 x.2 y.2) ∙ sym y.1

pub same-course : (s : Layout) (books : ℕ → Book) (j : FiledJob) (ts : List Turn) (o p : Outcome) → IsUndisturbed o → IsUndisturbed p → IsCourse s j ts o → IsCourse s j ts p
    → TellsTheRows books ts o → TellsTheRows books ts p → o ≡ p
same-course s books j [] o p u w h k x y = same-without j.job.act (load_in s j) o p u w h k
same-course s books j (t ∷ ts) o p u w h k x y = same-turns o p u w books j.job.act (t ∷ ts) h k x y
