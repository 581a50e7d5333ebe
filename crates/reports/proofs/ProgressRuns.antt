-- What a lane that did all jobs has told.
use Rattle.std.proofs.Common.{◌≡◌, refl, ap, sym, subst, ◌∙◌, inl, inr, ◌↔◌, ℕ, zero, suc, ◌+◌, ◌<◌, ◌≤◌, arith, List, [], ◌∷◌, length, Option, Some, None}
use Rattle.std.specs.Prelude.{option_map, unwrap_or, map}
use Rattle.std.specs.List.{AllByRecursion, slice_get}
use Rattle.std.proofs.lemmas.Bool.{cases_lt}
use Rattle.pk_model.specs.declared.books.Book.{Book}
use Rattle.pk_model.specs.Books.{Entry}
use Rattle.pk_values.specs.Schemas.{Layout}
use Rattle.script_text.specs.declared.outcomes.Item.{Item}
use Rattle.script_text.specs.declared.outcomes.Outcome.{Outcome}
use Rattle.script_text.specs.declared.outcomes.Outcome.TheVariants as outcome
use Rattle.reports.specs.declared.jobs.FiledJob.{FiledJob}
use Rattle.reports.specs.declared.turns.Turn.{Turn}
use Rattle.reports.specs.Jobs.{phase_at}
use Rattle.reports.specs.Orders.{EachJob, IsNotRun}
use Rattle.reports.specs.Reports.{GoesBy, HasRun, TellsTheRows, book_at}
use Rattle.reports.specs.Notes.{AreMade, AreNotes, AreSorted, CameInOrder, EachNote, In, IsMade, IsNoteOf, Note, outcomes_in, turns_in}
use Rattle.reports.specs.Plain.{PhasesRise}
use Rattle.reports.specs.Progress.{GoesOver, HasCome, IsRun, Over}
use Rattle.reports.proofs.NoteLaws.{all-in, from-notes, note-at, notes-follow, notes-make-run}
use Rattle.reports.proofs.RunLaws.{compare, phase-rises, phase_in, total}

run-once : (o : Outcome) → IsRun o → IsNotRun o → ⊥
run-once (outcome.Turn r) h k = k
run-once (outcome.Rows v c t) h k = k
run-once (outcome.Load f) h k = k
run-once (outcome.Outside f) h k = k
run-once outcome.NotRun h k = h

all-run : (Is : FiledJob → Note → Type 0) (stops n : ℕ) (js : List FiledJob) (xs : List Note) → total js < stops → EachNote Is n js xs → AllByRecursion IsRun (outcomes_in xs)
    → EachJob (λ n j o. IsNotRun o ↔ (stops ≤ j.job.phase)) n js (outcomes_in xs)
all-run Is stops n [] [] lt h run = tt
all-run Is stops n [] (x ∷ xs) lt h run = absurd h
all-run Is stops n (j ∷ js) [] lt h run = absurd h
all-run Is stops n (j ∷ js) (x ∷ xs) lt h run =
    ((λ k. absurd (run-once x.outcome run.0 k), λ k. absurd (omega (arith, k, lt))), all-run Is stops (n + 1) js xs (omega arith) h.2 run.1)

-- notes that are well made, and tell a book's rows, are right
right : (s : Layout) (b : Book) (seen : List Entry) (n : ℕ) (js : List FiledJob) (xs : List Note) → AreMade s seen n js xs
    → AllByRecursion (λ (x : Note). TellsTheRows (book_at s b seen) x.turns x.outcome) xs → AreNotes s b seen n js xs
right s b seen n [] [] h r = tt
right s b seen n [] (x ∷ xs) h r = absurd h
right s b seen n (j ∷ js) [] h r = absurd h
right s b seen n (j ∷ js) (x ∷ xs) h r = (h.0, record { made = h.1; rows = r.0 }, right s b seen (n + 1) js xs h.2 r.1)

module _ (s : Layout) (Opens : Book → Type 0) (Now : Over) (closed : Option ℕ) (jobs : List FiledJob) (order : List Item) (outcomes : List Outcome)
    (h : HasCome s Opens Now closed jobs order outcomes) where
  -- a turn is of one of the jobs
  job-is : (t : Turn) → In (turns_in h.notes) t → (i : ℕ) × (t.job ≡ suc i) × (i < length jobs)
  job-is t i =
      let noted = from-notes h.notes t i in
      let x = noted.1 in
      let mine = note-at s h.seen (IsMade s h.seen) (λ j x k. k) 1 jobs h.notes h.gone.are noted.0 x noted.2 in
      let own : t.job ≡ x.job = all-in (λ t. t.job ≡ x.job) x.turns mine.3.own t noted.3 in
      let number = mine.2 in
      (noted.0, omega (arith, own, number), got jobs noted.0 mine.0 mine.1)
    where
      got : (js : List FiledJob) (n : ℕ) (j : FiledJob) → slice_get js n ≡ Some j → n < length js
      got [] n j e = absurd (none-some e)
        where
          none-some : None ≡ Some j → ⊥
          none-some e = cc
      got (k ∷ js) zero j e = omega arith
      got (k ∷ js) (suc n) j e = let less = got js n j e in omega (arith, less)

  came : PhasesRise jobs → CameInOrder jobs (turns_in h.notes)
  came rise = record {
    phases = λ t u i j lt. compare 0 (turns_in h.notes) h.gone.in_order h.gone.rise t u i j (earlier t u i j lt);
    lanes = λ t u i j same lt. compare 0 (turns_in h.notes) h.gone.in_order h.gone.rise t u i j lt;
  }
    where
      earlier : (t u : Turn) → In (turns_in h.notes) t → In (turns_in h.notes) u → phase_at jobs t.job < phase_at jobs u.job → t.job < u.job
      earlier t u i j lt = elim (cases_lt t.job u.job) [
        | inl less ↦ less
        | inr more ↦
            let a = job-is t i in
            let b = job-is u j in
            let job_t = a.1 in
            let job_u = b.1 in
            let rises = phase-rises jobs rise b.0 a.0 (omega (arith, more, job_t, job_u)) a.2 in
            let low : phase_at jobs t.job ≡ phase_in (slice_get jobs a.0) = ap (phase_at jobs) a.1 in
            let high : phase_at jobs u.job ≡ phase_in (slice_get jobs b.0) = ap (phase_at jobs) b.1 in
            absurd (omega (arith, rises, low, high, lt))
      ]

  sorted : AreSorted h.notes h.seen (turns_in h.notes)
  sorted = record { rise = h.gone.rise; same = λ t. (λ i. i, λ i. i); count = h.gone.count }

  pub come-goes : PhasesRise jobs → GoesBy s jobs (turns_in h.notes) h.seen outcomes
  come-goes rise = subst (GoesBy s jobs (turns_in h.notes) h.seen) (sym h.gone.outcomes_are)
      (notes-follow s jobs h.notes h.seen (turns_in h.notes) (suc (suc (total jobs))) h.gone.are sorted (came rise) (omega arith)
      (all-run (IsMade s h.seen) (suc (suc (total jobs))) 1 jobs h.notes (omega arith) h.gone.are h.gone.run))

  pub come-runs : PhasesRise jobs → (b : Book) → GoesOver s b h.seen h.notes → HasRun s b jobs (turns_in h.notes) h.seen outcomes
  come-runs rise b over = subst (HasRun s b jobs (turns_in h.notes) h.seen) (sym h.gone.outcomes_are)
      (notes-make-run s b jobs h.notes h.seen (turns_in h.notes) (suc (suc (total jobs))) (right s b h.seen 1 jobs h.notes h.gone.are over.rows) over.legal sorted (came rise) (omega arith)
      (all-run (IsMade s h.seen) (suc (suc (total jobs))) 1 jobs h.notes (omega arith) h.gone.are h.gone.run))
