-- What each kind of job does to a tablet.
use Rattle.std.proofs.Common.{◌≡◌, ◌≢◌, refl, ap, sym, subst, ◌∙◌, ◌⊎◌, inl, inr, ℕ, zero, suc, ◌+◌, ◌-◌, ◌^◌, ◌≤◌, arith, List, [], ◌∷◌, ◌++◌, length, take, min, Option, Some, None, IsSomeAnd, Result, Ok, Err, true, false, length-append}
use Rattle.std.specs.Prelude.{⊤}
use Rattle.std.specs.FinMap as fin
use Rattle.std.proofs.lemmas.List.{take-append-le, take_all}
use Rattle.dev_traits.specs.Causes.{Counts, HasMakeCause, RoseBy}
use Rattle.dev_traits.specs.Faults.{outside_of_make}
use Rattle.dev_traits.specs.Image.{Image}
use Rattle.dev_traits.specs.View.{Calm, EachImage, View}
use Rattle.dev_traits.specs.declared.faults.Damaged.{Damaged}
use Rattle.dev_traits.specs.declared.faults.MakeFault.{MakeFault}
use Rattle.dev_traits.specs.declared.faults.MakeFault.TheVariants as make
use Rattle.dev_traits.specs.declared.faults.OutsideFault.{OutsideFault}
use Rattle.dev_traits.specs.declared.faults.OutsideFault.TheVariants as outside
use Rattle.load_csv.specs.declared.loads.LoadFault.{LoadFault}
use Rattle.load_csv.specs.declared.loads.LoadFault.TheVariants as fault
use Rattle.load_csv.specs.Loads.{load_of}
use Rattle.pk_values.specs.Schemas.{Layout}
use Rattle.pk_model.specs.declared.books.Book.{Book}
use Rattle.pk_model.specs.declared.calls.Call.{Call}
use Rattle.pk_model.specs.declared.calls.Call.TheVariants as call
use Rattle.pk_model.specs.declared.calls.Load.{Load}
use Rattle.pk_model.specs.declared.calls.Want.{Want}
use Rattle.pk_model.specs.declared.calls.Reply.{Reply}
use Rattle.pk_model.specs.declared.calls.Reply.TheVariants as reply
use Rattle.pk_model.specs.Books.{Entry, IsOfDevice, MayReply, answer, next, replay, rows_at}
use Rattle.pk_model.specs.Tables.{Rows}
use Rattle.pk_model.proofs.HistoryLaws.{replay-append}
use Rattle.script_text.specs.declared.scripts.JobAct.{JobAct}
use Rattle.script_text.specs.declared.scripts.JobAct.TheVariants as act
use Rattle.script_text.specs.declared.outcomes.ItemPart.TheVariants as part
use Rattle.script_text.specs.declared.outcomes.Outcome.{Outcome}
use Rattle.script_text.specs.declared.outcomes.Outcome.TheVariants as outcome
use Rattle.reports.specs.declared.jobs.FiledJob.{FiledJob}
use Rattle.reports.specs.declared.turns.Turn.{Turn}
use Rattle.reports.specs.Bearing.{GoesShut, TellsIntact, TellsOpen, told_by}
use Rattle.reports.specs.Calm.{IsOfBook}
use Rattle.reports.specs.Courses.{AreRowsOf, HasTurns, IsCourse, IsOutside, ReadingTells, ScanEnds, WithoutTurn}
use Rattle.reports.specs.Jobs.{PartMayGet, call_of, first_place, load_call, load_in, part_call}
use Rattle.reports.specs.Notes.{entry_at}
use Rattle.reports.specs.Progress.{IsRun, Turns}
use Rattle.reports.specs.Reports.{HasItsRows, book_at}
use Rattle.reports.specs.Shutting.{TellsShut, shut_after, shut_by}
use Rattle.reports.proofs.BearingLaws.{rose-beside}
use Rattle.reports.proofs.NoteLaws.{entry-longer}
use Rattle.reports.proofs.PlainLaws.{get-here}
use Rattle.reports.proofs.PlainSteps.{open-stays, opened-kept, refused-tells, unless}
use Rattle.core_publish.specs.Replies.{IsOpening, IsStat, told_by_reply}
use Rattle.tablet_state.specs.State.{Has, Shown, StandsThroughout, Steps, faults_of}
use Rattle.tablet_state.specs.Turns.{StandsEither}
use Rattle.tablet_run.specs.Doing.{IsAfter, ShutStands}
use Rattle.tablet_run.specs.Scanning.{IsIdle, RowsTold}

-- ---- replies

pub told-turn : (r : Reply) → told_by (outcome.Turn r) ≡ told_by_reply r
told-turn (reply.Published v) = refl
told-turn (reply.Opened v) = refl
told-turn (reply.Begun v) = refl
told-turn (reply.Compacted before after rows late) = refl
told-turn (reply.Floor f) = refl
told-turn (reply.Stat floor version rows rowsets) = refl
told-turn reply.GaveUp = refl
told-turn (reply.Expired f) = refl
told-turn (reply.NotYet v) = refl
told-turn (reply.Busy v) = refl
told-turn reply.ManyVersions = refl
told-turn (reply.Closed at) = refl
told-turn (reply.StoreFault n) = refl
told-turn (reply.Damaged d) = refl
told-turn reply.Memory = refl
told-turn reply.NoPlan = refl
told-turn (reply.Worn n) = refl

pub intact-turn : (r : Reply) → ((d : Damaged) → r ≡ reply.Damaged d → ⊥) → TellsIntact (outcome.Turn r)
intact-turn (reply.Published v) n = tt
intact-turn (reply.Opened v) n = tt
intact-turn (reply.Begun v) n = tt
intact-turn (reply.Compacted before after rows late) n = tt
intact-turn (reply.Floor f) n = tt
intact-turn (reply.Stat floor version rows rowsets) n = tt
intact-turn reply.GaveUp n = tt
intact-turn (reply.Expired f) n = tt
intact-turn (reply.NotYet v) n = tt
intact-turn (reply.Busy v) n = tt
intact-turn reply.ManyVersions n = tt
intact-turn (reply.Closed at) n = tt
intact-turn (reply.StoreFault k) n = tt
intact-turn (reply.Damaged d) n = n d refl
intact-turn reply.Memory n = tt
intact-turn reply.NoPlan n = tt
intact-turn (reply.Worn k) n = tt

open-turn : (place : ℕ) (r : Reply) → TellsShut None r → GoesShut None (shut_by place r) (outcome.Turn r)
open-turn place (reply.Published v) h = tt
open-turn place (reply.Opened v) h = tt
open-turn place (reply.Begun v) h = tt
open-turn place (reply.Compacted before after rows late) h = tt
open-turn place (reply.Floor f) h = tt
open-turn place (reply.Stat floor version rows rowsets) h = tt
open-turn place reply.GaveUp h = tt
open-turn place (reply.Expired f) h = tt
open-turn place (reply.NotYet v) h = tt
open-turn place (reply.Busy v) h = tt
open-turn place reply.ManyVersions h = tt
open-turn place (reply.Closed at) h = absurd h
open-turn place (reply.StoreFault n) h = refl
open-turn place (reply.Damaged d) h = refl
open-turn place reply.Memory h = tt
open-turn place reply.NoPlan h = tt
open-turn place (reply.Worn n) h = tt

pub goes-turn : (old : Option ℕ) (place : ℕ) (r : Reply) → TellsShut old r → GoesShut old (shut_after old place r) (outcome.Turn r)
goes-turn None place r h = open-turn place r h
goes-turn (Some p) place r h = refl

pub goes-on : (old : Option ℕ) (o : Outcome) → TellsOpen o → GoesShut old old o
goes-on None o h = h
goes-on (Some p) o h = refl

-- an opening closes nothing
opening-shuts : (place : ℕ) (r : Reply) → IsOpening r → shut_by place r ≡ None
opening-shuts place (reply.Published v) h = refl
opening-shuts place (reply.Opened v) h = refl
opening-shuts place (reply.Begun v) h = refl
opening-shuts place (reply.Compacted before after rows late) h = refl
opening-shuts place (reply.Floor f) h = refl
opening-shuts place (reply.Stat floor version rows rowsets) h = refl
opening-shuts place reply.GaveUp h = refl
opening-shuts place (reply.Expired f) h = refl
opening-shuts place (reply.NotYet v) h = refl
opening-shuts place (reply.Busy v) h = refl
opening-shuts place reply.ManyVersions h = refl
opening-shuts place (reply.Closed at) h = refl
opening-shuts place (reply.StoreFault n) h = absurd h
opening-shuts place (reply.Damaged d) h = absurd h
opening-shuts place reply.Memory h = refl
opening-shuts place reply.NoPlan h = refl
opening-shuts place (reply.Worn n) h = refl

pub opening-stays : (old : Option ℕ) (place : ℕ) (r : Reply) → IsOpening r → shut_after old place r ≡ old
opening-stays None place r h = opening-shuts place r h
opening-stays (Some p) place r h = refl

-- and wants memory at the most
pub opening-listed : (r : Reply) → IsOpening r → IsOfDevice r → r ≡ reply.Memory
opening-listed (reply.Published v) h d = absurd d
opening-listed (reply.Opened v) h d = absurd d
opening-listed (reply.Begun v) h d = absurd d
opening-listed (reply.Compacted before after rows late) h d = absurd d
opening-listed (reply.Floor f) h d = absurd d
opening-listed (reply.Stat floor version rows rowsets) h d = absurd d
opening-listed reply.GaveUp h d = absurd d
opening-listed (reply.Expired f) h d = absurd d
opening-listed (reply.NotYet v) h d = absurd d
opening-listed (reply.Busy v) h d = absurd d
opening-listed reply.ManyVersions h d = absurd d
opening-listed (reply.Closed at) h d = absurd d
opening-listed (reply.StoreFault n) h d = absurd h
opening-listed (reply.Damaged k) h d = absurd h
opening-listed reply.Memory h d = refl
opening-listed reply.NoPlan h d = absurd d
opening-listed (reply.Worn n) h d = absurd h

pub opening-intact : (r : Reply) → IsOpening r → TellsIntact (outcome.Turn r)
opening-intact (reply.Published v) h = tt
opening-intact (reply.Opened v) h = tt
opening-intact (reply.Begun v) h = tt
opening-intact (reply.Compacted before after rows late) h = tt
opening-intact (reply.Floor f) h = tt
opening-intact (reply.Stat floor version rows rowsets) h = tt
opening-intact reply.GaveUp h = tt
opening-intact (reply.Expired f) h = tt
opening-intact (reply.NotYet v) h = tt
opening-intact (reply.Busy v) h = tt
opening-intact reply.ManyVersions h = tt
opening-intact (reply.Closed at) h = tt
opening-intact (reply.StoreFault n) h = tt
opening-intact (reply.Damaged d) h = absurd h
opening-intact reply.Memory h = tt
opening-intact reply.NoPlan h = tt
opening-intact (reply.Worn n) h = tt

pub opening-tells : (r : Reply) → IsOpening r → told_by (outcome.Turn r) ≡ 0
opening-tells (reply.Published v) h = refl
opening-tells (reply.Opened v) h = refl
opening-tells (reply.Begun v) h = refl
opening-tells (reply.Compacted before after rows late) h = refl
opening-tells (reply.Floor f) h = refl
opening-tells (reply.Stat floor version rows rowsets) h = refl
opening-tells reply.GaveUp h = refl
opening-tells (reply.Expired f) h = refl
opening-tells (reply.NotYet v) h = refl
opening-tells (reply.Busy v) h = refl
opening-tells reply.ManyVersions h = refl
opening-tells (reply.Closed at) h = refl
opening-tells (reply.StoreFault n) h = absurd h
opening-tells (reply.Damaged d) h = refl
opening-tells reply.Memory h = refl
opening-tells reply.NoPlan h = refl
opening-tells (reply.Worn n) h = refl

-- one that opens no version is what a scan tells
pub scan-refused : (r : Reply) → ((v : ℕ) → r ≡ reply.Opened v → ⊥) → ScanEnds r (outcome.Turn r)
scan-refused (reply.Published v) n = refl
scan-refused (reply.Opened v) n = absurd (n v refl)
scan-refused (reply.Begun v) n = refl
scan-refused (reply.Compacted before after rows late) n = refl
scan-refused (reply.Floor f) n = refl
scan-refused (reply.Stat floor version rows rowsets) n = refl
scan-refused reply.GaveUp n = refl
scan-refused (reply.Expired f) n = refl
scan-refused (reply.NotYet v) n = refl
scan-refused (reply.Busy v) n = refl
scan-refused reply.ManyVersions n = refl
scan-refused (reply.Closed at) n = refl
scan-refused (reply.StoreFault k) n = refl
scan-refused (reply.Damaged d) n = refl
scan-refused reply.Memory n = refl
scan-refused reply.NoPlan n = refl
scan-refused (reply.Worn k) n = refl

-- a count closes nothing, uses no device and changes no book
stat-shuts : (place : ℕ) (r : Reply) → IsStat r → shut_by place r ≡ None
stat-shuts place (reply.Published v) h = refl
stat-shuts place (reply.Opened v) h = refl
stat-shuts place (reply.Begun v) h = refl
stat-shuts place (reply.Compacted before after rows late) h = refl
stat-shuts place (reply.Floor f) h = refl
stat-shuts place (reply.Stat floor version rows rowsets) h = refl
stat-shuts place reply.GaveUp h = refl
stat-shuts place (reply.Expired f) h = refl
stat-shuts place (reply.NotYet v) h = refl
stat-shuts place (reply.Busy v) h = refl
stat-shuts place reply.ManyVersions h = refl
stat-shuts place (reply.Closed at) h = refl
stat-shuts place (reply.StoreFault n) h = absurd h
stat-shuts place (reply.Damaged d) h = absurd h
stat-shuts place reply.Memory h = refl
stat-shuts place reply.NoPlan h = refl
stat-shuts place (reply.Worn n) h = refl

pub stat-stays : (old : Option ℕ) (place : ℕ) (r : Reply) → IsStat r → shut_after old place r ≡ old
stat-stays None place r h = stat-shuts place r h
stat-stays (Some p) place r h = refl

pub stat-listed : (r : Reply) → IsStat r → IsOfDevice r → ⊥
stat-listed (reply.Published v) h d = d
stat-listed (reply.Opened v) h d = d
stat-listed (reply.Begun v) h d = d
stat-listed (reply.Compacted before after rows late) h d = d
stat-listed (reply.Floor f) h d = d
stat-listed (reply.Stat floor version rows rowsets) h d = d
stat-listed reply.GaveUp h d = d
stat-listed (reply.Expired f) h d = d
stat-listed (reply.NotYet v) h d = d
stat-listed (reply.Busy v) h d = d
stat-listed reply.ManyVersions h d = d
stat-listed (reply.Closed at) h d = d
stat-listed (reply.StoreFault n) h d = h
stat-listed (reply.Damaged k) h d = h
stat-listed reply.Memory h d = h
stat-listed reply.NoPlan h d = d
stat-listed (reply.Worn n) h d = h

pub stat-leaves : (s : Layout) (b : Book) (place : ℕ) (r : Reply) → IsStat r → next s b place call.Stat r ≡ b
stat-leaves s b place (reply.Published v) h = unless b.closed b
stat-leaves s b place (reply.Opened v) h = unless b.closed b
stat-leaves s b place (reply.Begun v) h = unless b.closed b
stat-leaves s b place (reply.Compacted before after rows late) h = unless b.closed b
stat-leaves s b place (reply.Floor f) h = unless b.closed b
stat-leaves s b place (reply.Stat floor version rows rowsets) h = unless b.closed b
stat-leaves s b place reply.GaveUp h = unless b.closed b
stat-leaves s b place (reply.Expired f) h = unless b.closed b
stat-leaves s b place (reply.NotYet v) h = unless b.closed b
stat-leaves s b place (reply.Busy v) h = unless b.closed b
stat-leaves s b place reply.ManyVersions h = unless b.closed b
stat-leaves s b place (reply.Closed at) h = unless b.closed b
stat-leaves s b place (reply.StoreFault n) h = absurd h
stat-leaves s b place (reply.Damaged d) h = absurd h
stat-leaves s b place reply.Memory h = absurd h
stat-leaves s b place reply.NoPlan h = unless b.closed b
stat-leaves s b place (reply.Worn n) h = absurd h

pub stat-intact : (r : Reply) → IsStat r → TellsIntact (outcome.Turn r)
stat-intact (reply.Published v) h = tt
stat-intact (reply.Opened v) h = tt
stat-intact (reply.Begun v) h = tt
stat-intact (reply.Compacted before after rows late) h = tt
stat-intact (reply.Floor f) h = tt
stat-intact (reply.Stat floor version rows rowsets) h = tt
stat-intact reply.GaveUp h = tt
stat-intact (reply.Expired f) h = tt
stat-intact (reply.NotYet v) h = tt
stat-intact (reply.Busy v) h = tt
stat-intact reply.ManyVersions h = tt
stat-intact (reply.Closed at) h = tt
stat-intact (reply.StoreFault n) h = tt
stat-intact (reply.Damaged d) h = absurd h
stat-intact reply.Memory h = tt
stat-intact reply.NoPlan h = tt
stat-intact (reply.Worn n) h = tt

pub stat-tells : (r : Reply) → IsStat r → told_by (outcome.Turn r) ≡ 0
stat-tells (reply.Published v) h = refl
stat-tells (reply.Opened v) h = refl
stat-tells (reply.Begun v) h = refl
stat-tells (reply.Compacted before after rows late) h = refl
stat-tells (reply.Floor f) h = refl
stat-tells (reply.Stat floor version rows rowsets) h = refl
stat-tells reply.GaveUp h = refl
stat-tells (reply.Expired f) h = refl
stat-tells (reply.NotYet v) h = refl
stat-tells (reply.Busy v) h = refl
stat-tells reply.ManyVersions h = refl
stat-tells (reply.Closed at) h = refl
stat-tells (reply.StoreFault n) h = absurd h
stat-tells (reply.Damaged d) h = refl
stat-tells reply.Memory h = refl
stat-tells reply.NoPlan h = refl
stat-tells (reply.Worn n) h = refl

-- an opening leaves the book
pub opened-leaves : (s : Layout) (b : Book) (place : ℕ) (w : Want) (v : ℕ) → next s b place (call.Open w) (reply.Opened v) ≡ b
opened-leaves s b place w v = unless b.closed b

-- an opened version is kept
pub opened-answer : (b : Book) (w : Want) (v : ℕ) → MayReply b (call.Open w) (reply.Opened v) → reply.Opened v ≡ answer b (call.Open w)
opened-answer b w v h = elim h [
  | inl is ↦ is
  | inr device ↦ absurd device.0
]

-- ---- a tablet after one entry more

pub calm-each : (P : Image → Type 0) (old new : View) → Calm old new → EachImage old P → EachImage new P
calm-each P old new calm h = λ image left. h image ((calm.now image).0 left)

on-some : {X : Type 0} (P Q : X → Type 0) (o : Option X) → ((x : X) → P x → Q x) → IsSomeAnd o P → IsSomeAnd o Q
on-some P Q None f h = h
on-some P Q (Some x) f h = f x h

pub calm-shut : (old new : View) → Calm old new → (s : Layout) (b : Book) (seen : List Entry) (p : ℕ) → ShutStands old s b seen p → ShutStands new s b seen p
calm-shut old new calm s b seen p h =
    on-some (λ (e : Entry). EachImage old (StandsEither s (book_at s b seen (p - 1)) p e.0)) (λ (e : Entry). EachImage new (StandsEither s (book_at s b seen (p - 1)) p e.0))
    (entry_at seen p) (λ e k. calm-each (StandsEither s (book_at s b seen (p - 1)) p e.0) old new calm k) h

pub shut-longer : (view : View) (s : Layout) (b : Book) (seen more : List Entry) (p : ℕ) → ShutStands view s b seen p → ShutStands view s b (seen ++ more) p
shut-longer view s b seen more p h =
    let long = entry-longer (λ (e : Entry). EachImage view (StandsEither s (book_at s b seen (p - 1)) p e.0)) seen more p h in
    let within = long.1 in
    let low : p - 1 ≤ length seen = omega (arith, within) in
    let same : book_at s b seen (p - 1) ≡ book_at s b (seen ++ more) (p - 1) = ap (replay s b 1) (sym (take-append-le (p - 1) seen more low)) in
    subst (λ d. IsSomeAnd (entry_at (seen ++ more) p) (λ (e : Entry). EachImage view (StandsEither s d p e.0))) same long.0

shut-here : (view : View) (s : Layout) (b : Book) (seen : List Entry) (c : Call) (r : Reply) → EachImage view (StandsEither s (replay s b 1 seen) (suc (length seen)) c)
    → ShutStands view s b (seen ++ (c, r) ∷ []) (suc (length seen))
shut-here view s b seen c r h =
    let zero_less : length seen ≤ length seen = omega arith in
    let same : replay s b 1 seen ≡ book_at s b (seen ++ (c, r) ∷ []) (length seen) =
    ap (replay s b 1) (sym (take-append-le (length seen) seen ((c, r) ∷ []) zero_less ∙ take_all (length seen) seen zero_less)) in
    let back : suc (length seen) - 1 ≡ length seen = omega arith in
    subst (λ k. IsSomeAnd (entry_at (seen ++ (c, r) ∷ []) (suc (length seen))) (λ (e : Entry). EachImage view (StandsEither s (book_at s b (seen ++ (c, r) ∷ []) k) (suc (length seen)) e.0))) (sym back)
    (subst (λ o. IsSomeAnd o (λ (e : Entry). EachImage view (StandsEither s (book_at s b (seen ++ (c, r) ∷ []) (length seen)) (suc (length seen)) e.0))) (sym (get-here seen (c, r) []))
    (subst (λ d. EachImage view (StandsEither s d (suc (length seen)) c)) same h))

-- the book after one entry more
pub replay-one : (s : Layout) (b : Book) (seen : List Entry) (place : ℕ) (c : Call) (r : Reply) → place ≡ length seen + 1
    → replay s b 1 (seen ++ (c, r) ∷ []) ≡ next s (replay s b 1 seen) place c r
replay-one s b seen place c r e =
    let here : 1 + length seen ≡ place = omega (arith, e) in
    replay-append s b 1 seen ((c, r) ∷ []) ∙ ap (λ n. next s (replay s b 1 seen) n c r) here

some-same : (x y : ℕ) → Some x ≡ Some y → x ≡ y
some-same x y e = cc

module _ {S : Type 0} (view : S → View) (s : Layout) where
  pub rests-after : (old new : Shown S) → IsIdle view old new → (b : Book) (seen : List Entry) → IsAfter view s old b seen → IsAfter view s new b seen
  rests-after old new r b seen h = record {
    has = r.has (replay s b 1 seen) h.has;
    shut = λ p e. calm-shut (view old.store) (view new.store) r.calm s b seen p (h.shut p (sym r.closed ∙ e));
  }

  -- after a call that committed, or tried to
  pub committed : (old new : Shown S) (b : Book) (seen : List Entry) (place : ℕ) (c : Call) (r : Reply)
      → old.contents.schema ≡ s → new.contents.schema ≡ old.contents.schema → place ≡ length seen + 1 → IsAfter view s old b seen
      → Has view new (next new.contents.schema (replay s b 1 seen) place c r)
      → (old.closed ≡ None → StandsThroughout old.contents.schema (replay s b 1 seen) place c (view old.store) (view new.store))
      → new.closed ≡ shut_after old.closed place r
      → ((p : ℕ) → old.closed ≡ Some p → new ≡ old)
      → IsAfter view s new b (seen ++ (c, r) ∷ [])
  committed old new b seen place c r schema kept here h has moment shut stays = record {
    has = subst (Has view new) (ap (λ t. next t (replay s b 1 seen) place c r) (kept ∙ schema) ∙ sym (replay-one s b seen place c r here)) has;
    shut = λ p e. by old.closed refl p (sym shut ∙ e);
  }
    where
      same : place ≡ suc (length seen)
      same = omega (arith, here)

      closes : (r : Reply) (p : ℕ) → shut_by place r ≡ Some p → p ≡ place
      closes (reply.Published v) p e = cc
      closes (reply.Opened v) p e = cc
      closes (reply.Begun v) p e = cc
      closes (reply.Compacted before after rows late) p e = cc
      closes (reply.Floor f) p e = cc
      closes (reply.Stat floor version rows rowsets) p e = cc
      closes reply.GaveUp p e = cc
      closes (reply.Expired f) p e = cc
      closes (reply.NotYet v) p e = cc
      closes (reply.Busy v) p e = cc
      closes reply.ManyVersions p e = cc
      closes (reply.Closed at) p e = cc
      closes (reply.StoreFault n) p e = sym (some-same place p e)
      closes (reply.Damaged d) p e = sym (some-same place p e)
      closes reply.Memory p e = cc
      closes reply.NoPlan p e = cc
      closes (reply.Worn n) p e = cc

      by : (o : Option ℕ) → old.closed ≡ o → (p : ℕ) → shut_after o place r ≡ Some p → ShutStands (view new.store) s b (seen ++ (c, r) ∷ []) p
      by None was p e =
          let at : p ≡ suc (length seen) = closes r p e ∙ same in
          let images : EachImage (view new.store) (StandsEither s (replay s b 1 seen) (suc (length seen)) c) =
          subst (λ n. EachImage (view new.store) (StandsEither s (replay s b 1 seen) n c)) same
          (subst (λ t. EachImage (view new.store) (StandsEither t (replay s b 1 seen) place c)) schema (moment was).now) in
          subst (λ n. ShutStands (view new.store) s b (seen ++ (c, r) ∷ []) n) (sym at) (shut-here (view new.store) s b seen c r images)
      by (Some q) was p e =
          subst (λ (st : Shown S). ShutStands (view st.store) s b (seen ++ (c, r) ∷ []) p) (sym (stays q was))
          (shut-longer (view old.store) s b seen ((c, r) ∷ []) p (h.shut p (was ∙ e)))

  -- after a call that wrote nothing
  pub opened : (old mid new : Shown S) (b : Book) (seen : List Entry) (place : ℕ) (c : Call) (r : Reply)
      → mid.contents.schema ≡ s → place ≡ length seen + 1 → IsAfter view s old b seen
      → Has view mid (next mid.contents.schema (replay s b 1 seen) place c r)
      → Calm (view old.store) (view mid.store) → mid.closed ≡ old.closed → IsIdle view mid new
      → IsAfter view s new b (seen ++ (c, r) ∷ [])
  opened old mid new b seen place c r schema here h has calm closed rests = record {
    has = rests.has (replay s b 1 (seen ++ (c, r) ∷ [])) (subst (Has view mid) (ap (λ t. next t (replay s b 1 seen) place c r) schema ∙ sym (replay-one s b seen place c r here)) has);
    shut = λ p e. calm-shut (view mid.store) (view new.store) rests.calm s b (seen ++ (c, r) ∷ []) p
        (calm-shut (view old.store) (view mid.store) calm s b (seen ++ (c, r) ∷ []) p
        (shut-longer (view old.store) s b seen ((c, r) ∷ []) p (h.shut p (sym closed ∙ sym rests.closed ∙ e))));
  }
