-- How a run ends.
use Rattle.std.proofs.Common.{◌≡◌, ◌≢◌, refl, ap, sym, subst, ◌∙◌, ◌⊎◌, inl, inr, ℕ, ◌+◌, ◌-◌, ◌^◌, ◌≤◌, arith, List, [], ◌∷◌, length, min, Option, Some, None, Bool as Truth, true, false, cond}
use Rattle.std.specs.List.{AllByRecursion}
use Rattle.dev_traits.specs.Causes.{Counts, RoseBy}
use Rattle.dev_traits.specs.Image.{Image}
use Rattle.dev_traits.specs.Streams.{Files}
use Rattle.dev_traits.specs.View.{View, Calm, EachImage}
use Rattle.dev_traits.specs.declared.faults.Damaged.{Damaged}
use Rattle.pk_values.specs.Schemas.{Layout}
use Rattle.pk_model.specs.declared.books.Book.{Book}
use Rattle.pk_model.specs.Books.{new_book}
use Rattle.pk_model.specs.Durable.{durable}
use Rattle.script_text.specs.Texts.{report}
use Rattle.script_text.specs.declared.outcomes.Item.{Item}
use Rattle.script_text.specs.declared.outcomes.Outcome.{Outcome}
use Rattle.reports.specs.declared.jobs.FiledJob.{FiledJob}
use Rattle.reports.specs.declared.endings.Ending.{Ending}
use Rattle.reports.specs.declared.endings.Ending.TheVariants as ending
use Rattle.reports.specs.Bearing.{AreBorneOut}
use Rattle.reports.specs.Endings.{ending_of, ending_status, gives, status_of}
use Rattle.reports.proofs.BearingLaws.{faults-are-counted, intact-ends-well}
use Rattle.reports.proofs.EndingLaws.{ending-has-status}
use Rattle.version_journal.specs.Images.{HasNoRecord}
use Rattle.tablet_state.specs.Stands.{Stands}
use Rattle.tablet_run.specs.Asks.{HasFiled}
use Rattle.tablet_run.specs.Puts.{ToldAs}
use Rattle.tablet_run.specs.Runs.{Ends, InputCause, IsWell, Ran, Reported, Setting, SinkCause, Stops, Unopened}
use Rattle.tablet_run.specs.Statuses.{cause_of}
use Rattle.tablet_run.specs.Steps.{PutAs}
use Rattle.tablet_run.specs.Stores.{IsUntouched, Opens, ReadsAs, Refuses, Runs, StandsForNone}
use Rattle.tablet_run.specs.Streams.{FailsAfter, HeldAfter}
use Rattle.tablet_run.specs.declared.causes.Cause.{Cause}
use Rattle.tablet_run.specs.declared.causes.Cause.TheVariants as cause
use Rattle.tablet_run.specs.declared.causes.StoredTable.{StoredTable}
use Rattle.tablet_run.proofs.StopLaws.{jobs-exclude, one-table}

-- ---- a report that was put

pub put-told : (before now : Option (List ℕ)) (order : List Item) (outcomes : List Outcome) (text : List ℕ) (c : Cause) → text ≡ report order outcomes
    → PutAs before now text (ending_of outcomes) c → ToldAs before now order outcomes c
put-told before now order outcomes text cause.None e h = (subst (HeldAfter before now) e h.0, h.1)
put-told before now order outcomes text cause.Words e h = (subst (HeldAfter before now) e h.0, h.1)
put-told before now order outcomes text (cause.Missing name) e h = (subst (HeldAfter before now) e h.0, h.1)
put-told before now order outcomes text (cause.InputFault name) e h = (subst (HeldAfter before now) e h.0, h.1)
put-told before now order outcomes text (cause.TooLarge name bytes) e h = (subst (HeldAfter before now) e h.0, h.1)
put-told before now order outcomes text (cause.Table f) e h = (subst (HeldAfter before now) e h.0, h.1)
put-told before now order outcomes text (cause.Script f) e h = (subst (HeldAfter before now) e h.0, h.1)
put-told before now order outcomes text (cause.Unbuilt n) e h = (subst (HeldAfter before now) e h.0, h.1)
put-told before now order outcomes text (cause.OtherSchema t) e h = (subst (HeldAfter before now) e h.0, h.1)
put-told before now order outcomes text cause.Store e h = (subst (HeldAfter before now) e h.0, h.1)
put-told before now order outcomes text (cause.Damaged d) e h = (subst (HeldAfter before now) e h.0, h.1)
put-told before now order outcomes text cause.Sink e h = subst (FailsAfter before now) e h
put-told before now order outcomes text cause.Memory e h = inr (subst (HeldAfter before now) e h.0, h.1)
put-told before now order outcomes text cause.Refused e h = (subst (HeldAfter before now) e h.0, h.1)

reported-ends : (r : Setting) (e : Ending) → Reported r e → Ends r (cause_of e)
reported-ends r ending.Well h = h
reported-ends r ending.Refused h = h
reported-ends r ending.Memory h = inr (inr (inr h))
reported-ends r ending.Store h = inr h
reported-ends r (ending.Damaged d) h = inr h

-- jobs that were done, and told so, end the run
pub told-ends : (r : Setting) (order : List Item) (outcomes : List Outcome) (c : Cause) → Ran r order outcomes → ToldAs r.before r.now order outcomes c → Ends r c
told-ends r order outcomes c ran told = by c told
  where
    put : (d : Cause) → HeldAfter r.before r.now (report order outcomes) × (d ≡ cause_of (ending_of outcomes)) → Ends r d
    put d h = subst (Ends r) (sym h.1) (reported-ends r (ending_of outcomes) (order, outcomes, ran, h.0, refl))

    by : (d : Cause) → ToldAs r.before r.now order outcomes d → Ends r d
    by cause.None h = put cause.None h
    by cause.Words h = put cause.Words h
    by (cause.Missing name) h = put (cause.Missing name) h
    by (cause.InputFault name) h = put (cause.InputFault name) h
    by (cause.TooLarge name bytes) h = put (cause.TooLarge name bytes) h
    by (cause.Table f) h = put (cause.Table f) h
    by (cause.Script f) h = put (cause.Script f) h
    by (cause.Unbuilt n) h = put (cause.Unbuilt n) h
    by (cause.OtherSchema t) h = put (cause.OtherSchema t) h
    by cause.Store h = put cause.Store h
    by (cause.Damaged d) h = put (cause.Damaged d) h
    by cause.Sink h = (order, outcomes, ran, h)
    by cause.Memory h = elim h [
      | inl same ↦ inr (inr (inl (order, outcomes, ran, same)))
      | inr held ↦ put cause.Memory held
    ]
    by cause.Refused h = put cause.Refused h

-- a tablet that wasn't opened ends it
pub unopened-ends : (r : Setting) (c : Cause) → Unopened r c → Ends r c
unopened-ends r cause.None h = absurd h.4
unopened-ends r cause.Words h = absurd h.4
unopened-ends r (cause.Missing name) h = absurd h.4
unopened-ends r (cause.InputFault name) h = absurd h.4
unopened-ends r (cause.TooLarge name bytes) h = absurd h.4
unopened-ends r (cause.Table f) h = absurd h.4
unopened-ends r (cause.Script f) h = absurd h.4
unopened-ends r (cause.Unbuilt n) h = absurd h.4
unopened-ends r (cause.OtherSchema t) h = h
unopened-ends r cause.Store h = inl h
unopened-ends r (cause.Damaged d) h = inl h
unopened-ends r cause.Sink h = absurd h.4
unopened-ends r cause.Memory h = inr (inl h)
unopened-ends r cause.Refused h = absurd h.4

-- and a run that stops before it comes to the store
pub stop-ends : (r : Setting) (c : Cause) → Stops r.files r.words c → r.now ≡ r.before → IsUntouched r.store r.left → Ends r c
stop-ends r cause.None h e u = absurd h
stop-ends r cause.Words h e u = (h, e, u)
stop-ends r (cause.Missing name) h e u = (h, e, u)
stop-ends r (cause.InputFault name) h e u = (h, e, u)
stop-ends r (cause.TooLarge name bytes) h e u = (h, e, u)
stop-ends r (cause.Table f) h e u = (h, e, u)
stop-ends r (cause.Script f) h e u = (h, e, u)
stop-ends r (cause.Unbuilt n) h e u = (h, e, u)
stop-ends r (cause.OtherSchema t) h e u = absurd h
stop-ends r cause.Store h e u = absurd h
stop-ends r (cause.Damaged d) h e u = absurd h
stop-ends r cause.Sink h e u = absurd h
stop-ends r cause.Memory h e u = inl (h, e, u)
stop-ends r cause.Refused h e u = absurd h

pub untouched : (view : View) → IsUntouched view view
untouched view = record {
  calm = record { seen = refl; honest = refl; calls = omega arith; bytes = omega arith; moment = refl; now = λ image. (λ h. h, λ h. h); since = λ t image. (λ h. h, λ h. h) };
  faults = refl;
}

-- ---- what bears an end out

-- the store counted a fault where a run ends by one
pub ends-counted : (r : Setting) → Ends r cause.Store → RoseBy 1 r.store.faults r.left.faults
ends-counted r h = elim h [
  | inl unopened ↦ unopened.4.1
  | inr reported ↦ faults-are-counted r.store.faults r.left.faults reported.2.runs.closed reported.1 reported.2.runs.borne (sym reported.4)
]

abbrev first_of_these : Truth → Truth → Truth → Truth → ℕ
first_of_these a b c d = cond a 5 (cond b 4 (cond c 7 (cond d 1 0)))

five-given : (os : List Outcome) (d : Damaged) → ending.Damaged d ≡ ending_of os → gives 5 os ≡ true
five-given os d e = by (gives 5 os) (gives 4 os) (gives 7 os) (gives 1 os) refl (sym (ending-has-status os) ∙ ap ending_status (sym e))
  where
    by : (a b c f : Truth) → gives 5 os ≡ a → first_of_these a b c f ≡ 5 → gives 5 os ≡ true
    by true b c f g e = g
    by false true c f g e = absurd (omega (arith, e))
    by false false true f g e = absurd (omega (arith, e))
    by false false false true g e = absurd (omega (arith, e))
    by false false false false g e = absurd (omega (arith, e))

-- and no honest store that is empty or stands for a book is told to be damaged
pub ends-intact : (r : Setting) (d : Damaged) → Ends r (cause.Damaged d) → StandsForNone r.store
ends-intact r d h = elim h [
  | inl unopened ↦ unopened.4.1
  | inr reported ↦ (
    λ image reads none. intact reported new_book (image, reads, inl (none, refl)),
    λ image t b reads stands. let table = reported.2.table image t b reads stands in
        intact reported (durable b) (image, reads, inr (b, subst (λ s. Stands s b image) table stands, refl)),
  )
]
  where
    intact : (k : Reported r (ending.Damaged d)) → (b : Book) → Opens r.store k.2.s b → ⊥
    intact k b opens = intact-ends-well k.1 (k.2.runs.over b opens).intact (five-given k.1 d k.4)

-- ---- a run where all is there and well

counts-rose : (before now : ℕ) → Counts 1 before now → RoseBy 1 before now
counts-rose before now h = omega (arith, h)

pub ends-well : (r : Setting) (fs : Files) (s : Layout) (jobs : List FiledJob) (b : Book) (inputs inputs_now sink sink_now : ℕ) (c : Cause)
    → r.files ≡ Some fs → HasFiled (Some fs) r.words s jobs → Opens r.store s b
    → (RoseBy 1 inputs inputs_now → ⊥) → (RoseBy 1 sink sink_now → ⊥) → (RoseBy 1 r.store.faults r.left.faults → ⊥)
    → InputCause inputs inputs_now c → SinkCause sink sink_now c → Ends r c → IsWell c
ends-well r fs s jobs b inputs inputs_now sink sink_now c told asked opens no_input no_sink no_store input sunk ends = by c input sunk ends
  where
    stop : (d : Cause) → Stops r.files r.words d → Stops (Some fs) r.words d
    stop d h = subst (λ f. Stops f r.words d) told h

    not-damaged : (d : Damaged) → Ends r (cause.Damaged d) → ⊥
    not-damaged d h = let none = ends-intact r d h in elim opens.2 [
      | inl empty ↦ none.0 opens.0 opens.1 empty.0
      | inr stands ↦ none.1 opens.0 s stands.0 opens.1 stands.1
    ]

    same-schema : (t : StoredTable) → Ends r (cause.OtherSchema t) → ⊥
    same-schema t h =
        let same : h.0 ≡ s = one-table fs r.words h.0 s h.1 jobs (subst (λ f. HasFiled f r.words h.0 h.1) told h.2) asked in
        elim opens.2 [
          | inl empty ↦ h.4.2 opens.0 opens.1 empty.0
          | inr stands ↦ h.4.1 (sym (h.4.3 opens.0 s stands.0 opens.1 stands.1) ∙ sym same)
        ]

    by : (d : Cause) → InputCause inputs inputs_now d → SinkCause sink sink_now d → Ends r d → IsWell d
    by cause.None i k h = tt
    by cause.Words i k h = jobs-exclude fs r.words s jobs cause.Words asked (stop cause.Words h.0) tt
    by (cause.Missing name) i k h = jobs-exclude fs r.words s jobs (cause.Missing name) asked (stop (cause.Missing name) h.0) tt
    by (cause.InputFault name) i k h = no_input (counts-rose inputs inputs_now i)
    by (cause.TooLarge name bytes) i k h = jobs-exclude fs r.words s jobs (cause.TooLarge name bytes) asked (stop (cause.TooLarge name bytes) h.0) tt
    by (cause.Table f) i k h = jobs-exclude fs r.words s jobs (cause.Table f) asked (stop (cause.Table f) h.0) tt
    by (cause.Script f) i k h = jobs-exclude fs r.words s jobs (cause.Script f) asked (stop (cause.Script f) h.0) tt
    by (cause.Unbuilt n) i k h = jobs-exclude fs r.words s jobs (cause.Unbuilt n) asked (stop (cause.Unbuilt n) h.0) tt
    by (cause.OtherSchema t) i k h = same-schema t h
    by cause.Store i k h = no_store (ends-counted r h)
    by (cause.Damaged d) i k h = not-damaged d h
    by cause.Sink i k h = no_sink (counts-rose sink sink_now k)
    by cause.Memory i k h = tt
    by cause.Refused i k h = tt
