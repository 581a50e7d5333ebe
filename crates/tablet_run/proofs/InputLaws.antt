-- What was read for jobs, and why a run stops, from where it stopped.
use Rattle.std.proofs.Common.{◌≡◌, refl, ap, sym, subst, ◌∙◌, ⊎_elim, ℕ, zero, suc, ◌+◌, ◌<◌, ◌≤◌, arith, add-one, List, [], ◌∷◌, ◌++◌, length, take, drop, get_or, Option, Some, None, inl, inr, Bool as Truth, true, false, cond}
use Rattle.std.specs.Prelude.{All, AllPairs, map}
use Rattle.std.specs.List.{AllByRecursion}
use Rattle.std.proofs.lemmas.List.{length-map, map-append}
use Rattle.dev_traits.specs.Streams.{Files}
use Rattle.pk_values.specs.Schemas.{Layout}
use Rattle.script_text.specs.Answers.{Follows}
use Rattle.script_text.specs.declared.scripts.Job.{Job}
use Rattle.reports.specs.declared.jobs.FiledJob.{FiledJob}
use Rattle.reports.specs.declared.endings.Ending.{Ending}
use Rattle.reports.specs.declared.endings.Ending.TheVariants as ending
use Rattle.reports.specs.Filed.{AreFiled, AreHeld, HasItsFile, bytes_in, file_name, most_files}
use Rattle.reports.specs.Plain.{HasFewBytes, PhasesRise}
use Rattle.tablet_run.specs.Asks.{Asks, FileIsNext, HasFiled, HasJobs, NamesTexts, first_unbuilt, is_built, most_after, limit_after}
use Rattle.tablet_run.specs.Runs.{InputCause, SinkCause, Stops}
use Rattle.tablet_run.specs.Statuses.{cause_of}
use Rattle.tablet_run.specs.Steps.{FileStops, JobsStop, PlanStops, PutAs, StopsAt}
use Rattle.tablet_run.specs.Streams.{Lacks, Exceeds, HeldAfter}
use Rattle.tablet_run.specs.declared.causes.Cause.{Cause}
use Rattle.tablet_run.specs.declared.causes.Cause.TheVariants as cause

-- ---- why a run stops

pub stops-at : (files : Option Files) (words : List (List ℕ)) (name : List ℕ) (most limit : ℕ) (c : Cause)
    → Asks files words name most limit → StopsAt files name most limit c → Stops files words c
stops-at files words name most limit (cause.Missing n) asks h =
    (most, limit, subst (λ x. Asks files words x most limit) (sym h.0) asks, subst (λ x. Lacks files x) (sym h.0) h.1)
stops-at files words name most limit (cause.InputFault n) asks h = (most, limit, subst (λ x. Asks files words x most limit) (sym h) asks)
stops-at files words name most limit (cause.TooLarge n bytes) asks h =
    (most, limit, subst (λ x. Asks files words x most limit) (sym h.0) asks, subst (λ x. Exceeds files x most) (sym h.0) h.2, h.1)
stops-at files words name most limit cause.Memory asks h = tt
stops-at files words name most limit cause.None asks h = absurd h
stops-at files words name most limit cause.Refused asks h = absurd h
stops-at files words name most limit cause.Words asks h = absurd h
stops-at files words name most limit (cause.Table f) asks h = absurd h
stops-at files words name most limit (cause.Script f) asks h = absurd h
stops-at files words name most limit (cause.Unbuilt n) asks h = absurd h
stops-at files words name most limit cause.Sink asks h = absurd h
stops-at files words name most limit (cause.OtherSchema t) asks h = absurd h
stops-at files words name most limit cause.Store asks h = absurd h
stops-at files words name most limit (cause.Damaged d) asks h = absurd h

pub plan-stops : (files : Option Files) (words : List (List ℕ)) (table script : List ℕ) (c : Cause)
    → NamesTexts files words table script → PlanStops table script c → Stops files words c
plan-stops files words table script (cause.Table f) t h = (table, script, t, h)
plan-stops files words table script (cause.Script f) t h = (h.0, table, script, t, h.1, h.2)
plan-stops files words table script (cause.Unbuilt n) t h =
    (h.0, h.1, record { table = table; script = script; texts = t; table_is = h.2; script_is = h.3 }, h.4)
plan-stops files words table script cause.Memory t h = tt
plan-stops files words table script (cause.Missing n) t h = cc
plan-stops files words table script (cause.InputFault n) t h = cc
plan-stops files words table script (cause.TooLarge n bytes) t h = cc
plan-stops files words table script cause.None t h = cc
plan-stops files words table script cause.Refused t h = cc
plan-stops files words table script cause.Words t h = cc
plan-stops files words table script cause.Sink t h = cc
plan-stops files words table script (cause.OtherSchema k) t h = cc
plan-stops files words table script cause.Store t h = cc
plan-stops files words table script (cause.Damaged d) t h = cc

pub jobs-stop : (files : Option Files) (words : List (List ℕ)) (s : Layout) (jobs : List Job) (c : Cause)
    → HasJobs files words s jobs → first_unbuilt 1 jobs ≡ None → JobsStop files jobs c → Stops files words c
jobs-stop files words s jobs c has built h = ⊎_elim
    (λ e. subst (λ x. Stops files words x) (sym e) tt)
    (λ p. stops-at files words p.0 (most_after p.1) (limit_after p.1) c (inr (inr (p.1, (s, jobs, has, built, p.2), refl, refl))) p.3)
    h

-- ---- jobs beside their files

pub filed-none : (files : Option Files) → AreFiled files [] []
filed-none files = record { jobs_are = refl; held = tt; few = omega arith }

bytes-push : (fs : List FiledJob) (f : FiledJob) → bytes_in (fs ++ f ∷ []) ≡ bytes_in fs + length f.file
bytes-push [] f = omega arith
bytes-push (g ∷ fs) f = let e = bytes-push fs f in omega (arith, e)

jobs-push : (js : List Job) (fs : List FiledJob) (f : FiledJob) → map (λ (x : FiledJob). x.job) fs ≡ js → map (λ (x : FiledJob). x.job) (fs ++ f ∷ []) ≡ js ++ f.job ∷ []
jobs-push js fs f e = map-append (λ (x : FiledJob). x.job) fs (f ∷ []) ∙ ap (λ xs. xs ++ f.job ∷ []) e

held-push : (files : Option Files) (fs : List FiledJob) (f : FiledJob) → AllByRecursion (HasItsFile files) fs → HasItsFile files f → AllByRecursion (HasItsFile files) (fs ++ f ∷ [])
held-push files [] f h k = (k, tt)
held-push files (g ∷ fs) f h k = (h.0, held-push files fs f h.1 k)

-- one job more, beside its file
pub filed-push : (files : Option Files) (js : List Job) (fs : List FiledJob) (j : Job) (file : List ℕ) → AreFiled files js fs → AreHeld files (file_name j.act) file → bytes_in fs + length file ≤ most_files
    → AreFiled files (js ++ j ∷ []) (fs ++ (record { job = j; file = file }) ∷ [])
filed-push files js fs j file h held few =
    let f : FiledJob = record { job = j; file = file } in
    let sum = bytes-push fs f in
    record { jobs_are = jobs-push js fs f h.jobs_are; held = held-push files fs f h.held held; few = omega (arith, sum, few) }

pub bytes-more : (fs : List FiledJob) (f : FiledJob) → bytes_in (fs ++ f ∷ []) ≡ bytes_in fs + length f.file
bytes-more = bytes-push

pub same-count : (files : Option Files) (js : List Job) (fs : List FiledJob) → AreFiled files js fs → length fs ≡ length js
same-count files js fs h = sym (length-map fs (λ (x : FiledJob). x.job)) ∙ ap length h.jobs_are

few-held : (files : Option Files) (name : Option (List ℕ)) (bytes : List ℕ) → AreHeld files name bytes → length bytes ≤ 67108864
few-held files None bytes h = let none = ap length h in omega (arith, none)
few-held files (Some name) bytes h = h.0

pub few-filed : (files : Option Files) (fs : List FiledJob) → AllByRecursion (HasItsFile files) fs → AllByRecursion HasFewBytes fs
few-filed files [] h = tt
few-filed files (f ∷ fs) h = (few-held files (file_name f.job.act) f.file h.0, few-filed files fs h.1)

-- phases that rise in a script rise among its jobs beside their files
below-all : (j : FiledJob) (fs : List FiledJob) (js : List Job) → map (λ (x : FiledJob). x.job) fs ≡ js → All (Follows j.job) js → AllByRecursion (λ (i : FiledJob). j.job.phase ≤ i.job.phase) fs
below-all j [] js e h = tt
below-all j (f ∷ fs) [] e h = cc e
below-all j (f ∷ fs) (k ∷ js) e h =
    let first : f.job ≡ k = cc e in
    let rest : map (λ (x : FiledJob). x.job) fs ≡ js = cc e in
    (subst (λ (x : Job). j.job.phase ≤ x.phase) (sym first) (h 0 k (omega arith)), below-all j fs js rest (λ n d lt. h (suc n) d (omega arith)))

pub phases-rise : (fs : List FiledJob) (js : List Job) → map (λ (x : FiledJob). x.job) fs ≡ js → AllPairs Follows js → PhasesRise fs
phases-rise [] js e h = tt
phases-rise (f ∷ fs) [] e h = cc e
phases-rise (f ∷ fs) (k ∷ js) e h =
    let first : f.job ≡ k = cc e in
    let rest : map (λ (x : FiledJob). x.job) fs ≡ js = cc e in
    (below-all f fs js rest (subst (λ (x : Job). All (Follows x) js) (sym first) (λ n d lt. h 0 (suc n) d (omega arith) (omega arith))), phases-rise fs js rest (λ m n d lt ln. h (suc m) (suc n) d (omega arith) (omega arith)))

pub take-next : {X : Type 0} (xs : List X) (i : ℕ) (d : X) → i < length xs → take (i + 1) xs ≡ take i xs ++ get_or xs i d ∷ []
take-next {X = X} xs i d lt = rw (add-one) (by xs i lt)
  where
    by : (xs : List X) (i : ℕ) → i < length xs → take (suc i) xs ≡ take i xs ++ get_or xs i d ∷ []
    by [] i lt = absurd (omega arith)
    by (x ∷ xs) zero lt = refl
    by (x ∷ xs) (suc i) lt = ap (λ ys. x ∷ ys) (by xs i (omega arith))

split-at : {X : Type 0} (xs : List X) (i : ℕ) (d : X) → i < length xs → xs ≡ take i xs ++ get_or xs i d ∷ drop (suc i) xs
split-at [] i d lt = absurd (omega arith)
split-at (x ∷ xs) zero d lt = refl
split-at (x ∷ xs) (suc i) d lt = ap (λ ys. x ∷ ys) (split-at xs i d (omega arith))

-- the file of the job in place i is the next one
pub next-stops : (files : Option Files) (jobs : List Job) (i : ℕ) (j : Job) (fs : List FiledJob) (read : ℕ) (c : Cause)
    → i < length jobs → j ≡ get_or jobs i j → AreFiled files (take i jobs) fs → read ≡ bytes_in fs → FileStops files (file_name j.act) read c → JobsStop files jobs c
next-stops files jobs i j fs read c lt is are sum h = by (file_name j.act) refl h
  where
    found : (name : List ℕ) → file_name j.act ≡ Some name → FileIsNext files jobs name read
    found name e = record {
      earlier = take i jobs;
      job = j;
      later = drop (suc i) jobs;
      jobs_are = split-at jobs i j lt ∙ ap (λ x. take i jobs ++ x ∷ drop (suc i) jobs) (sym is);
      filed = fs;
      are = are;
      before_is = sum;
      names = e;
    }

    by : (o : Option (List ℕ)) → file_name j.act ≡ o → FileStops files o read c → JobsStop files jobs c
    by None e k = inl k
    by (Some name) e k = inr (name, read, found name e, k)

-- ---- the end of a run

pub inputs-quiet : (count : ℕ) (e : Ending) → InputCause count count (cause_of e)
inputs-quiet count ending.Well = refl
inputs-quiet count ending.Refused = refl
inputs-quiet count ending.Memory = refl
inputs-quiet count ending.Store = refl
inputs-quiet count (ending.Damaged d) = refl

pub sink-quiet : (before now : ℕ) (e : Ending) → now ≡ before → SinkCause before now (cause_of e)
sink-quiet before now ending.Well h = h
sink-quiet before now ending.Refused h = h
sink-quiet before now ending.Memory h = h
sink-quiet before now ending.Store h = h
sink-quiet before now (ending.Damaged d) h = h

pub put-as : (before now : Option (List ℕ)) (text : List ℕ) (e : Ending) → HeldAfter before now text → PutAs before now text e (cause_of e)
put-as before now text ending.Well h = (h, refl)
put-as before now text ending.Refused h = (h, refl)
put-as before now text ending.Memory h = (h, refl)
put-as before now text ending.Store h = (h, refl)
put-as before now text (ending.Damaged d) h = (h, refl)

-- ---- each job is built

no-number : (n : ℕ) → Some n ≡ None → ⊥
no-number n e = cc

pub all-built : (n : ℕ) (jobs : List Job) (fs : List FiledJob) → map (λ (x : FiledJob). x.job) fs ≡ jobs → first_unbuilt n jobs ≡ None → AllByRecursion (λ (x : FiledJob). is_built x.job ≡ true) fs
all-built n jobs [] e h = tt
all-built n [] (f ∷ fs) e h = cc e
all-built n (j ∷ jobs) (f ∷ fs) e h =
    let job : f.job ≡ j = cc e in
    let rest : map (λ (x : FiledJob). x.job) fs ≡ jobs = cc e in
    let parts = by (is_built j) refl h in
    (ap is_built job ∙ parts.0, all-built (n + 1) jobs fs rest parts.1)
  where
    by : (b : Truth) → is_built j ≡ b → cond b (first_unbuilt (n + 1) jobs) (Some n) ≡ None → (is_built j ≡ true) × (first_unbuilt (n + 1) jobs ≡ None)
    by true f g = (f, g)
    by false f g = absurd (no-number n g)
