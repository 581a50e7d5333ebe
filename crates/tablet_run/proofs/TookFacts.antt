-- Turns of a job, one after the other.
use Rattle.std.proofs.Common.{◌≡◌, refl, ap, sym, subst, ◌∙◌, ◌⊎◌, inl, inr, ℕ, zero, suc, ◌+◌, ◌<◌, ◌≤◌, arith, List, [], ◌∷◌, ◌++◌, length, map, Option, Some, None, IsSomeAnd, length-append}
use Rattle.std.specs.List.{AllByRecursion}
use Rattle.std.proofs.lemmas.List.{append-nil, append_assoc, length-map, map-append}
use Rattle.pk_values.specs.Schemas.{Layout}
use Rattle.pk_model.specs.declared.books.Book.{Book}
use Rattle.pk_model.specs.declared.calls.Reply.{Reply}
use Rattle.pk_model.specs.Books.{Entry, IsLegal, IsOfDevice, MayReply, next, replay}
use Rattle.pk_model.proofs.HistoryLaws.{replay-append}
use Rattle.script_text.specs.declared.outcomes.Item.{Item}
use Rattle.script_text.specs.declared.outcomes.ItemPart.{ItemPart}
use Rattle.script_text.specs.declared.outcomes.Outcome.{Outcome}
use Rattle.reports.specs.declared.jobs.FiledJob.{FiledJob}
use Rattle.reports.specs.declared.turns.Turn.{Turn}
use Rattle.reports.specs.Jobs.{PartMayGet, call_of}
use Rattle.reports.specs.Notes.{IsSeen, Rise, entry_at}
use Rattle.reports.specs.Orders.{Each, IsListed}
use Rattle.reports.specs.Progress.{InJobOrder}
use Rattle.reports.specs.Reports.{IsTurnOf, TellsTheRows, HasItsRows, item_of}
use Rattle.reports.specs.Shutting.{ShutsBy, TellsShut, shut_after}
use Rattle.reports.proofs.PlainLaws.{get-here}
use Rattle.tablet_run.specs.Doing.{Took, entries_of, items_of, turns_at}

-- ---- the turns of a job with a number, from a place on

pub turns-own : (n place : ℕ) (took : List Took) → AllByRecursion (λ (t : Turn). t.job ≡ n) (turns_at n place took)
turns-own n place [] = tt
turns-own n place (t ∷ took) = (refl, turns-own n (place + 1) took)

pub turns-rise : (n k place : ℕ) (took : List Took) → k < place → Rise k (turns_at n place took)
turns-rise n k place [] lt = tt
turns-rise n k place (t ∷ took) lt = (lt, turns-rise n place (place + 1) took (omega arith))

pub turns-count : (n place : ℕ) (took : List Took) → length (turns_at n place took) ≡ length (entries_of took)
turns-count n place [] = refl
turns-count n place (t ∷ took) = ap suc (turns-count n (place + 1) took)

turns-late : (n m place : ℕ) (took : List Took) → m ≤ n → AllByRecursion (λ (u : Turn). m ≤ u.job) (turns_at n place took)
turns-late n m place [] le = tt
turns-late n m place (t ∷ took) le = (le, turns-late n m (place + 1) took le)

pub turns-ordered : (n place : ℕ) (took : List Took) → Each InJobOrder (turns_at n place took)
turns-ordered n place [] = tt
turns-ordered n place (t ∷ took) = (turns-late n n (place + 1) took (omega arith), turns-ordered n (place + 1) took)

pub turns-items : (n place : ℕ) (took : List Took) → map item_of (turns_at n place took) ≡ items_of n (map (λ (t : Took). t.part) took)
turns-items n place [] = refl
turns-items n place (t ∷ took) = ap (λ (is : List Item). (record { job = n; part = t.part }) ∷ is) (turns-items n (place + 1) took)

pub turns-listed : (j : FiledJob) (n place : ℕ) (took : List Took) → AllByRecursion (λ (t : Took). IsOfDevice t.reply → PartMayGet j.job.act t.part t.reply) took
    → AllByRecursion (IsListed j) (turns_at n place took)
turns-listed j n place [] h = tt
turns-listed j n place (t ∷ took) h = (h.0, turns-listed j n (place + 1) took h.1)

-- each stood at its place
pub turns-stood : (s : Layout) (j : FiledJob) (mine : List Turn) (n place : ℕ) (seen : List Entry) (took : List Took) → place ≡ suc (length seen)
    → AllByRecursion (λ (t : Took). call_of s j mine t.part ≡ Some t.call) took
    → AllByRecursion (IsSeen s (seen ++ entries_of took) j mine) (turns_at n place took)
turns-stood s j mine n place seen [] e h = tt
turns-stood s j mine n place seen (t ∷ took) e h =
    let entry : Entry = (t.call, t.reply) in
    let turn : Turn = record { job = n; part = t.part; place = place; reply = t.reply } in
    let there : entry_at (seen ++ entry ∷ entries_of took) place ≡ Some entry = ap (entry_at (seen ++ entry ∷ entries_of took)) e ∙ get-here seen entry (entries_of took) in
    let moved : (seen ++ entry ∷ []) ++ entries_of took ≡ seen ++ entry ∷ entries_of took = append_assoc seen (entry ∷ []) (entries_of took) in
    let count = length-append seen (entry ∷ []) in
    let later = turns-stood s j mine n (place + 1) (seen ++ entry ∷ []) took (omega (arith, e, count)) h.1 in (
      subst (λ o. IsSomeAnd o (IsTurnOf s j mine turn)) (sym there) (record { calls = h.0; replies = refl }),
      subst (λ es. AllByRecursion (IsSeen s es j mine) (turns_at n (place + 1) took)) moved later,
    )

-- no rows are told of them
pub turns-plain : (books : ℕ → Book) (o : Outcome) → ((b : Book) → HasItsRows b o) → (n place : ℕ) (took : List Took) → TellsTheRows books (turns_at n place took) o
turns-plain books o plain n place [] = tt
turns-plain books o plain n place (t ∷ took) = (plain (books place), turns-plain books o plain n (place + 1) took)

-- ---- entries behind entries

pub entries-append : (ts us : List Took) → entries_of (ts ++ us) ≡ entries_of ts ++ entries_of us
entries-append ts us = map-append (λ (t : Took). (t.call, t.reply)) ts us

pub shuts-then : (old mid now : Option ℕ) (place : ℕ) (es fs : List Entry) → ShutsBy old place es mid → ShutsBy mid (place + length es) fs now → ShutsBy old place (es ++ fs) now
shuts-then old mid now place [] fs h k =
    let here : place + 0 ≡ place = omega arith in
    subst (λ o. ShutsBy o place fs now) h (subst (λ n. ShutsBy mid n fs now) here k)
shuts-then old mid now place (e ∷ es) fs h k =
    let moved : place + suc (length es) ≡ place + 1 + length es = omega arith in
    (h.0, shuts-then (shut_after old place e.1) mid now (place + 1) es fs h.1 (subst (λ n. ShutsBy mid n fs now) moved k))

-- one entry, and others behind it
pub legal-one : (s : Layout) (b : Book) (seen : List Entry) (place : ℕ) (e : Entry) (es : List Entry) → place ≡ length seen + 1
    → MayReply (replay s b 1 seen) e.0 e.1 → IsLegal s (replay s b 1 (seen ++ e ∷ [])) (place + 1) es → IsLegal s (replay s b 1 seen) place (e ∷ es)
legal-one s b seen place e es here may later =
    let plus : 1 + length seen ≡ place = omega (arith, here) in
    let left : replay s b 1 (seen ++ e ∷ []) ≡ next s (replay s b 1 seen) place e.0 e.1 =
    replay-append s b 1 seen (e ∷ []) ∙ ap (λ n. next s (replay s b 1 seen) n e.0 e.1) plus in
    (may, subst (λ d. IsLegal s d (place + 1) es) left later)
