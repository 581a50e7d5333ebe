-- How notes of jobs make a run.
use Rattle.std.proofs.Common.{◌≡◌, refl, ap, sym, subst, ◌∙◌, ◌⊎◌, inl, inr, ℕ, zero, suc, ◌+◌, ◌<◌, ◌≤◌, arith, List, [], ◌∷◌, ◌++◌, length, Option, Some, None, IsSomeAnd, Bool as Truth, true, false, ◌==◌, cond}
use Rattle.std.specs.List.{AllByRecursion, slice_get}
use Rattle.std.proofs.lemmas.Bool.{cases_lt}
use Rattle.std.proofs.lemmas.Bool.Decides.{Decides-eqb}
use Rattle.std.proofs.lemmas.List.{take-append-le}
use Rattle.std.proofs.lemmas.Option.{same_Some}
use Rattle.pk_model.specs.declared.books.Book.{Book}
use Rattle.pk_model.specs.Books.{Entry, replay}
use Rattle.pk_values.specs.Schemas.{Layout}
use Rattle.script_text.specs.declared.outcomes.Outcome.{Outcome}
use Rattle.reports.proofs.Determined.{have-jobs}
use Rattle.reports.specs.declared.jobs.FiledJob.{FiledJob}
use Rattle.reports.specs.declared.turns.Turn.{Turn}
use Rattle.reports.specs.Jobs.{job_at, phase_at, turns_of}
use Rattle.reports.specs.Courses.{IsCourse}
use Rattle.reports.specs.Orders.{AreNotRunFrom, Each, EachJob, InLanes, InPhases, IsListed, IsListedIn}
use Rattle.reports.specs.Reports.{GoesBy, AreEntries, ArePlaced, HasItsRows, IsEntry, IsTurnOf, TellsTheRows, book_at}
use Rattle.reports.specs.Notes.{AreMade, AreNotes, AreSorted, CameInOrder, EachNote, In, IsMade, IsNoteOf, IsSeen, Note, NotesFollow, NotesMakeRun, NotesStay, TurnsStay, Rise, entry_at, outcomes_in, turns_in}

none-some : {X : Type 0} (x : X) → None ≡ Some x → ⊥
none-some x e = cc

-- ---- what is among turns

pub all-in : (P : Turn → Type 0) (ts : List Turn) → AllByRecursion P ts → (t : Turn) → In ts t → P t
all-in P [] h t i = absurd i
all-in P (u ∷ ts) h t i = elim i [
  | inl e ↦ subst P e h.0
  | inr later ↦ all-in P ts h.1 t later
]

pub all-from : (P : Turn → Type 0) (ts : List Turn) → ((t : Turn) → In ts t → P t) → AllByRecursion P ts
all-from P [] f = tt
all-from P (u ∷ ts) f = (f u (inl refl), all-from P ts (λ t i. f t (inr i)))

pub in-left : (ts us : List Turn) (t : Turn) → In ts t → In (ts ++ us) t
in-left [] us t i = absurd i
in-left (x ∷ ts) us t i = elim i [
  | inl e ↦ inl e
  | inr later ↦ inr (in-left ts us t later)
]

pub in-right : (ts us : List Turn) (t : Turn) → In us t → In (ts ++ us) t
in-right [] us t i = i
in-right (x ∷ ts) us t i = inr (in-right ts us t i)

pub in-either : (ts us : List Turn) (t : Turn) → In (ts ++ us) t → In ts t ⊎ In us t
in-either [] us t i = inr i
in-either (x ∷ ts) us t i = elim i [
  | inl e ↦ inl (inl e)
  | inr later ↦ elim (in-either ts us t later) [
    | inl a ↦ inl (inr a)
    | inr b ↦ inr b
  ]
]

pub above : (k : ℕ) (ts : List Turn) → Rise k ts → (t : Turn) → In ts t → k < t.place
above k [] r t i = absurd i
above k (u ∷ ts) r t i = elim i [
  | inl e ↦ subst (λ (x : Turn). k < x.place) e r.0
  | inr later ↦ let far = above u.place ts r.1 t later in omega (arith, r.0, far)
]

lower : (k m : ℕ) (ts : List Turn) → k ≤ m → Rise m ts → Rise k ts
lower k m [] le r = tt
lower k m (t ∷ ts) le r = (omega (arith, r.0), r.1)

-- the turns of one job
of-job : (n : ℕ) (ts : List Turn) (t : Turn) → In (turns_of n ts) t → In ts t × (t.job ≡ n)
of-job n [] t i = absurd i
of-job n (u ∷ ts) t i = by (λ i. let found = of-job n ts t i in (inr found.0, found.1)) (u.job == n) refl i
  where
    by : (In (turns_of n ts) t → In (u ∷ ts) t × (t.job ≡ n)) → (b : Truth) → (u.job == n) ≡ b → In (cond b (u ∷ turns_of n ts) (turns_of n ts)) t → In (u ∷ ts) t × (t.job ≡ n)
    by later true e i = elim i [
      | inl same ↦ (inl same, subst (λ (x : Turn). x.job ≡ n) same ((Decides-eqb u.job n).0 e))
      | inr rest ↦ later rest
    ]
    by later false e i = later i

is-of-job : (n : ℕ) (ts : List Turn) (t : Turn) → In ts t → t.job ≡ n → In (turns_of n ts) t
is-of-job n [] t i e = absurd i
is-of-job n (u ∷ ts) t i e = by (λ later. is-of-job n ts t later e) (u.job == n) refl
  where
    by : (In ts t → In (turns_of n ts) t) → (b : Truth) → (u.job == n) ≡ b → In (cond b (u ∷ turns_of n ts) (turns_of n ts)) t
    by rest true f = elim i [
      | inl same ↦ inl same
      | inr later ↦ inr (rest later)
    ]
    by rest false f = elim i [
      | inl same ↦ absurd (unlike (sym f ∙ (Decides-eqb u.job n).1 (ap (λ (x : Turn). x.job) same ∙ e)))
      | inr later ↦ rest later
    ]
      where
        unlike : false ≡ true → ⊥
        unlike e = cc

filter-rises : (n k : ℕ) (ts : List Turn) → Rise k ts → Rise k (turns_of n ts)
filter-rises n k [] r = tt
filter-rises n k (u ∷ ts) r = by (filter-rises n u.place ts r.1) (u.job == n)
  where
    by : Rise u.place (turns_of n ts) → (b : Truth) → Rise k (cond b (u ∷ turns_of n ts) (turns_of n ts))
    by rest true = (r.0, rest)
    by rest false = lower k u.place (turns_of n ts) (omega (arith, r.0)) rest

-- two lists whose places rise and that have the same members are one
pub same-members : (k : ℕ) (xs ys : List Turn) → Rise k xs → Rise k ys → ((t : Turn) → In xs t → In ys t) → ((t : Turn) → In ys t → In xs t) → xs ≡ ys
same-members k [] [] r q f g = refl
same-members k [] (y ∷ ys) r q f g = absurd (g y (inl refl))
same-members k (x ∷ xs) [] r q f g = absurd (f x (inl refl))
same-members k (x ∷ xs) (y ∷ ys) r q f g =
    let rest = same-members x.place xs ys r.1 (subst (λ (z : Turn). Rise z.place ys) (sym same) q.1) into from in
    λ i. same i ∷ rest i
  where
    same : x ≡ y
    same = elim (f x (inl refl)) [
      | inl e ↦ sym e
      | inr late ↦ elim (g y (inl refl)) [
        | inl e ↦ e
        | inr later ↦ let a = above y.place ys q.1 x late in let b = above x.place xs r.1 y later in absurd (omega (arith, a, b))
      ]
    ]

    into : (t : Turn) → In xs t → In ys t
    into t i = elim (f t (inr i)) [
      | inl e ↦ let a = above x.place xs r.1 t i in let p : x.place ≡ t.place = ap (λ (z : Turn). z.place) (same ∙ e) in absurd (omega (arith, a, p))
      | inr later ↦ later
    ]

    from : (t : Turn) → In ys t → In xs t
    from t i = elim (g t (inr i)) [
      | inl e ↦ let a = above y.place ys q.1 t i in let p : y.place ≡ t.place = ap (λ (z : Turn). z.place) (sym same ∙ e) in absurd (omega (arith, a, p))
      | inr later ↦ later
    ]

-- ---- as many rising places as there are are all places

far : (m k : ℕ) (ts : List Turn) → k ≤ m → Rise k ts → AllByRecursion (λ t. t.place ≤ m) ts → k + length ts ≤ m
far m k [] le r h = omega arith
far m k (t ∷ ts) le r h = let rest = far m t.place ts h.0 r.1 h.1 in omega (arith, rest, r.0)

pub all-placed : (k : ℕ) (ts : List Turn) → Rise k ts → AllByRecursion (λ t. t.place ≤ k + length ts) ts → ArePlaced (k + 1) ts
all-placed k [] r h = tt
all-placed k (t ∷ ts) r h =
    let rest = far (k + suc (length ts)) t.place ts h.0 r.1 h.1 in
    let here : t.place ≡ k + 1 = omega (arith, rest, r.0) in
    let moved : k + suc (length ts) ≡ (k + 1) + length ts = omega arith in
    (here, all-placed (k + 1) ts (subst (λ n. Rise n ts) here r.1) (subst (λ n. AllByRecursion (λ t. t.place ≤ n) ts) moved h.1))

-- ---- relations between each turn and the later ones

pub each-from : (R : Turn → Turn → Type 0) (k : ℕ) (ts : List Turn) → Rise k ts → ((t u : Turn) → In ts t → In ts u → t.place < u.place → R t u) → Each R ts
each-from R k [] r f = tt
each-from R k (t ∷ ts) r f = (all-from (R t) ts (λ u i. f t u (inl refl) (inr i) (above t.place ts r.1 u i)), each-from R t.place ts r.1 (λ x y i j. f x y (inr i) (inr j)))

-- ---- entries by their places

-- the entry of a turn, where the first entry stands at n
abbrev Finds : (Turn → Entry → Type 0) → ℕ → List Entry → Turn → Type 0
Finds P n es t = (i : ℕ) × (t.place ≡ n + i) × IsSomeAnd (slice_get es i) (P t)

found-at : (P : Turn → Entry → Type 0) (es : List Entry) (t : Turn) → IsSomeAnd (entry_at es t.place) (P t) → Finds P 1 es t
found-at P es t h = by t.place refl h
  where
    by : (n : ℕ) → t.place ≡ n → IsSomeAnd (entry_at es n) (P t) → Finds P 1 es t
    by zero e h = absurd h
    by (suc n) e h = (n, omega (arith, e), h)

finds-next : (P : Turn → Entry → Type 0) (n : ℕ) (e : Entry) (es : List Entry) (t : Turn) → n < t.place → Finds P n (e ∷ es) t → Finds P (n + 1) es t
finds-next P n e es t lt (zero, at, is) = absurd (omega (arith, at, lt))
finds-next P n e es t lt (suc i, at, is) = (i, omega (arith, at), is)

finds-none : (P : Turn → Entry → Type 0) (n : ℕ) (t : Turn) → Finds P n [] t → ⊥
finds-none P n t h = h.2

pub placed-above : (n : ℕ) (ts : List Turn) → ArePlaced n ts → AllByRecursion (λ t. n ≤ t.place) ts
placed-above n [] p = tt
placed-above n (t ∷ ts) p = (omega (arith, p.0), raise ts (placed-above (n + 1) ts p.1))
  where
    raise : (us : List Turn) → AllByRecursion (λ t. n + 1 ≤ t.place) us → AllByRecursion (λ t. n ≤ t.place) us
    raise [] h = tt
    raise (u ∷ us) h = (omega (arith, h.0), raise us h.1)

module _ (s : Layout) (jobs : List FiledJob) (all : List Turn) where
  are-entries : (n : ℕ) (ts : List Turn) (es : List Entry) → ArePlaced n ts → length ts ≡ length es → AllByRecursion (Finds (IsEntry s jobs all) n es) ts → AreEntries s jobs all ts es
  are-entries n [] [] p l h = tt
  are-entries n [] (e ∷ es) p l h = absurd (omega arith)
  are-entries n (t ∷ ts) [] p l h = absurd (omega arith)
  are-entries n (t ∷ ts) (e ∷ es) p l h = (
    head h.0,
    are-entries (n + 1) ts es p.1 (omega (arith, l)) (rest ts (placed-above (n + 1) ts p.1) h.1),
  )
    where
      head : Finds (IsEntry s jobs all) n (e ∷ es) t → IsEntry s jobs all t e
      head (zero, at, is) = is
      head (suc i, at, is) = let here : t.place ≡ n = p.0 in absurd (omega (arith, at, here))

      rest : (us : List Turn) → AllByRecursion (λ t. n + 1 ≤ t.place) us → AllByRecursion (Finds (IsEntry s jobs all) n (e ∷ es)) us → AllByRecursion (Finds (IsEntry s jobs all) (n + 1) es) us
      rest [] a k = tt
      rest (u ∷ us) a k = (finds-next (IsEntry s jobs all) n e es u (omega (arith, a.0)) k.0, rest us a.1 k.1)

-- ---- the note of a job

pub in-notes : (notes : List Note) (i : ℕ) (x : Note) (t : Turn) → slice_get notes i ≡ Some x → In x.turns t → In (turns_in notes) t
in-notes [] i x t e h = absurd (none-some x e)
in-notes (y ∷ notes) zero x t e h = in-left y.turns (turns_in notes) t (subst (λ (z : Note). In z.turns t) (sym (same_Some y x e)) h)
in-notes (y ∷ notes) (suc i) x t e h = in-right y.turns (turns_in notes) t (in-notes notes i x t e h)

pub from-notes : (notes : List Note) (t : Turn) → In (turns_in notes) t → (i : ℕ) × (x : Note) × (slice_get notes i ≡ Some x) × In x.turns t
from-notes [] t h = absurd h
from-notes (y ∷ notes) t h = elim (in-either y.turns (turns_in notes) t h) [
  | inl a ↦ (0, y, refl, a)
  | inr b ↦ let found = from-notes notes t b in (suc found.0, found.1, found.2, found.3)
]

-- notes of which something is known, that makes them well made
module _ (s : Layout) (seen : List Entry) (Is : FiledJob → Note → Type 0) (well : (j : FiledJob) (x : Note) → Is j x → IsMade s seen j x) where
  -- the note in a place is that of the job in this place
  pub note-at : (n : ℕ) (jobs : List FiledJob) (notes : List Note) → EachNote Is n jobs notes → (i : ℕ) (x : Note) → slice_get notes i ≡ Some x
      → (j : FiledJob) × (slice_get jobs i ≡ Some j) × (x.job ≡ n + i) × Is j x
  note-at n [] [] h i x e = absurd (none-some x e)
  note-at n [] (y ∷ notes) h i x e = absurd h
  note-at n (j ∷ jobs) [] h i x e = absurd h
  note-at n (j ∷ jobs) (y ∷ notes) h zero x e =
      let same = same_Some y x e in
      let number : y.job ≡ n = h.0 in
      let here : x.job ≡ y.job = ap (λ (z : Note). z.job) (sym same) in
      (j, refl, omega (arith, number, here), subst (λ (z : Note). Is j z) same h.1)
  note-at n (j ∷ jobs) (y ∷ notes) h (suc i) x e =
      let found = note-at (n + 1) jobs notes h.2 i x e in
      let number = found.2 in
      (found.0, found.1, omega (arith, number), found.3)

  made-at : (n : ℕ) (jobs : List FiledJob) (notes : List Note) → EachNote Is n jobs notes → (i : ℕ) (x : Note) → slice_get notes i ≡ Some x
      → (j : FiledJob) × (slice_get jobs i ≡ Some j) × (x.job ≡ n + i) × IsMade s seen j x
  made-at n jobs notes h i x e = let found = note-at n jobs notes h i x e in (found.0, found.1, found.2, well found.0 x found.3)

  module _ (jobs : List FiledJob) (notes : List Note) (ts : List Turn) (are : EachNote Is 1 jobs notes) (sorted : AreSorted notes seen ts) where
    -- the turns of a job are those of its note
    turns-noted : (i : ℕ) (x : Note) → slice_get notes i ≡ Some x → turns_of (1 + i) ts ≡ x.turns
    turns-noted i x e =
        same-members 0 (turns_of (1 + i) ts) x.turns (filter-rises (1 + i) 0 ts sorted.rise) mine.3.rise into from
      where
        mine : (j : FiledJob) × (slice_get jobs i ≡ Some j) × (x.job ≡ 1 + i) × IsMade s seen j x
        mine = made-at 1 jobs notes are i x e

        into : (t : Turn) → In (turns_of (1 + i) ts) t → In x.turns t
        into t h =
            let found = of-job (1 + i) ts t h in
            let noted = from-notes notes t ((sorted.same t).0 found.0) in
            let other = made-at 1 jobs notes are noted.0 noted.1 noted.2 in
            let own : t.job ≡ noted.1.job = all-in (λ t. t.job ≡ noted.1.job) noted.1.turns other.3.own t noted.3 in
            let number : noted.1.job ≡ 1 + noted.0 = other.2 in
            let job : t.job ≡ 1 + i = found.1 in
            let place : noted.0 ≡ i = omega (arith, own, number, job) in
            let same : noted.1 ≡ x = same_Some noted.1 x (sym noted.2 ∙ ap (slice_get notes) place ∙ e) in
            subst (λ (z : Note). In z.turns t) same noted.3

        from : (t : Turn) → In x.turns t → In (turns_of (1 + i) ts) t
        from t h =
            let own : t.job ≡ x.job = all-in (λ t. t.job ≡ x.job) x.turns mine.3.own t h in
            is-of-job (1 + i) ts t ((sorted.same t).1 (in-notes notes i x t e h)) (own ∙ mine.2)

    -- each turn has its entry
    turn-seen : (t : Turn) → In ts t → IsSomeAnd (entry_at seen t.place) (IsEntry s jobs ts t)
    turn-seen t h =
        let noted = from-notes notes t ((sorted.same t).0 h) in
        let x = noted.1 in
        let mine = made-at 1 jobs notes are noted.0 x noted.2 in
        let own : t.job ≡ x.job = all-in (λ t. t.job ≡ x.job) x.turns mine.3.own t noted.3 in
        let at : t.job ≡ suc noted.0 = let number = mine.2 in omega (arith, own, number) in
        let there : job_at jobs t.job ≡ Some mine.0 = ap (job_at jobs) at ∙ mine.1 in
        let plus : suc noted.0 ≡ 1 + noted.0 = omega arith in
        let turns : x.turns ≡ turns_of t.job ts = sym (turns-noted noted.0 x noted.2) ∙ ap (λ n. turns_of n ts) (sym (at ∙ plus)) in
        let is : IsSeen s seen mine.0 (turns_of t.job ts) t = subst (λ us. IsSeen s seen mine.0 us t) turns (all-in (IsSeen s seen mine.0 x.turns) x.turns mine.3.stood t noted.3) in
        by (entry_at seen t.place) mine.0 there is
      where
        by : (o : Option Entry) (j : FiledJob) → job_at jobs t.job ≡ Some j → IsSomeAnd o (IsTurnOf s j (turns_of t.job ts) t) → IsSomeAnd o (IsEntry s jobs ts t)
        by None j there h = absurd h
        by (Some e) j there h = subst (λ o. IsSomeAnd o (λ j. IsTurnOf s j (turns_of t.job ts) t e)) (sym there) h

    place-within : (t : Turn) → In ts t → t.place ≤ length seen
    place-within t h = by seen t.place (turn-seen t h)
      where
        got : (es : List Entry) (n : ℕ) → IsSomeAnd (slice_get es n) (IsEntry s jobs ts t) → n < length es
        got [] n h = absurd h
        got (e ∷ es) zero h = omega arith
        got (e ∷ es) (suc n) h = let rest = got es n h in omega (arith, rest)

        by : (es : List Entry) (n : ℕ) → IsSomeAnd (entry_at es n) (IsEntry s jobs ts t) → n ≤ length es
        by es zero h = absurd h
        by es (suc n) h = let less = got es n h in omega (arith, less)

    placed : ArePlaced 1 ts
    placed = all-placed 0 ts sorted.rise (all-from (λ t. t.place ≤ 0 + length ts) ts (λ t h. let within = place-within t h in let count = sorted.count in omega (arith, within, count)))

    made : AreEntries s jobs ts ts seen
    made = are-entries s jobs ts 1 ts seen placed sorted.count (all-from (Finds (IsEntry s jobs ts) 1 seen) ts (λ t h. found-at (IsEntry s jobs ts) seen t (turn-seen t h)))

    -- what holds of each job and its note holds of its turns among all
    each-noted : (Holds : FiledJob → List Turn → Outcome → Type 0) → ((j : FiledJob) (x : Note) → Is j x → Holds j x.turns x.outcome)
        → (n i : ℕ) (js : List FiledJob) (xs : List Note) → n ≡ 1 + i → EachNote Is n js xs → ((k : ℕ) → slice_get xs k ≡ slice_get notes (i + k))
        → EachJob (λ n j o. Holds j (turns_of n ts) o) n js (outcomes_in xs)
    each-noted Holds f n i [] [] e h at = tt
    each-noted Holds f n i [] (x ∷ xs) e h at = absurd h
    each-noted Holds f n i (j ∷ js) [] e h at = absurd h
    each-noted Holds f n i (j ∷ js) (x ∷ xs) e h at =
        let here : i + 0 ≡ i = omega arith in
        let noted : turns_of (1 + i) ts ≡ x.turns = turns-noted i x (sym (at 0 ∙ ap (slice_get notes) here)) in
        let turns : x.turns ≡ turns_of n ts = sym noted ∙ ap (λ n. turns_of n ts) (sym e) in (
          subst (λ us. Holds j us x.outcome) turns (f j x h.1),
          each-noted Holds f (n + 1) (i + 1) js xs (omega (arith, e)) h.2 (λ k. let moved : i + suc k ≡ i + 1 + k = omega arith in at (suc k) ∙ ap (slice_get notes) moved),
        )

    all-noted : (Holds : FiledJob → List Turn → Outcome → Type 0) → ((j : FiledJob) (x : Note) → Is j x → Holds j x.turns x.outcome)
        → EachJob (λ n j o. Holds j (turns_of n ts) o) 1 jobs (outcomes_in notes)
    all-noted Holds f = each-noted Holds f 1 0 jobs notes (omega arith) are (λ k. let none : k ≡ 0 + k = omega arith in ap (slice_get notes) none)

    -- a device gave each turn only what it may
    all-listed : AllByRecursion (IsListedIn jobs) ts
    all-listed = all-from (IsListedIn jobs) ts is
      where
        is : (t : Turn) → In ts t → IsListedIn jobs t
        is t h =
            let noted = from-notes notes t ((sorted.same t).0 h) in
            let x = noted.1 in
            let mine = made-at 1 jobs notes are noted.0 x noted.2 in
            let own : t.job ≡ x.job = all-in (λ t. t.job ≡ x.job) x.turns mine.3.own t noted.3 in
            let at : t.job ≡ suc noted.0 = let number = mine.2 in omega (arith, own, number) in
            let there : job_at jobs t.job ≡ Some mine.0 = ap (job_at jobs) at ∙ mine.1 in
            let fine : IsListed mine.0 t = all-in (IsListed mine.0) x.turns mine.3.listed t noted.3 in
            subst (λ o. IsSomeAnd o (λ j. IsListed j t)) (sym there) fine

module _ (s : Layout) (seen : List Entry) (Is : FiledJob → Note → Type 0) (well : (j : FiledJob) (x : Note) → Is j x → IsMade s seen j x) where
  pub notes-go : (jobs : List FiledJob) (notes : List Note) (ts : List Turn) (stops : ℕ) → EachNote Is 1 jobs notes → AreSorted notes seen ts → CameInOrder jobs (turns_in notes)
      → 2 ≤ stops → AreNotRunFrom stops jobs (outcomes_in notes) → GoesBy s jobs ts seen (outcomes_in notes)
  notes-go jobs notes ts stops are sorted came late not_run = record {
    placed = placed s seen Is well jobs notes ts are sorted;
    made = made s seen Is well jobs notes ts are sorted;
    fits = record {
      named = have-jobs s jobs ts ts seen (made s seen Is well jobs notes ts are sorted);
      listed = all-listed s seen Is well jobs notes ts are sorted;
      phases = each-from (InPhases jobs) 0 ts sorted.rise (λ t u a b lt.
          phase t u (came.phases u t ((sorted.same u).0 b) ((sorted.same t).0 a)) lt);
      lanes = each-from (InLanes jobs) 0 ts sorted.rise (λ t u a b lt same.
          lane t u (came.lanes u t ((sorted.same u).0 b) ((sorted.same t).0 a) (sym same)) lt);
      courses = all-noted s seen Is well jobs notes ts are sorted (IsCourse s) (λ j x h. (well j x h).course);
      stops = stops;
      stops_late = late;
      not_run = not_run;
    };
  }
    where
      phase : (t u : Turn) → (phase_at jobs u.job < phase_at jobs t.job → u.place < t.place) → t.place < u.place → phase_at jobs t.job ≤ phase_at jobs u.job
      phase t u f lt = elim (cases_lt (phase_at jobs u.job) (phase_at jobs t.job)) [
        | inl less ↦ let back = f less in absurd (omega (arith, back, lt))
        | inr more ↦ omega (arith, more)
      ]

      lane : (t u : Turn) → (u.job < t.job → u.place < t.place) → t.place < u.place → t.job ≤ u.job
      lane t u f lt = elim (cases_lt u.job t.job) [
        | inl less ↦ let back = f less in absurd (omega (arith, back, lt))
        | inr more ↦ omega (arith, more)
      ]

pub notes-follow : NotesFollow
notes-follow s jobs notes seen ts stops are sorted came late not_run = notes-go s seen (IsMade s seen) (λ j x h. h) jobs notes ts stops are sorted came late not_run

pub notes-make-run : NotesMakeRun
notes-make-run s book jobs notes seen ts stops are legal sorted came late not_run = record {
  goes = notes-go s seen (IsNoteOf s book seen) (λ j x h. h.made) jobs notes ts stops are sorted came late not_run;
  legal = legal;
  rows = all-noted s seen (IsNoteOf s book seen) (λ j x h. h.made) jobs notes ts are sorted (λ j us o. TellsTheRows (book_at s book seen) us o) (λ j x h. h.rows);
}

-- ---- a longer history

abbrev Agree : (ℕ → Book) → (ℕ → Book) → List Turn → Type 0
Agree books others ts = AllByRecursion (λ t. books t.place ≡ others t.place) ts

rows-agree : (books others : ℕ → Book) (ts : List Turn) (o : Outcome) → Agree books others ts → TellsTheRows books ts o → TellsTheRows others ts o
rows-agree books others [] o a h = tt
rows-agree books others (t ∷ ts) o a h = (subst (λ b. HasItsRows b o) a.0 h.0, rows-agree books others ts o a.1 h.1)

pub got-longer : (P : Entry → Type 0) (es more : List Entry) (i : ℕ) → IsSomeAnd (slice_get es i) P → IsSomeAnd (slice_get (es ++ more) i) P × (i < length es)
got-longer P [] more i h = absurd h
got-longer P (e ∷ es) more zero h = (h, omega arith)
got-longer P (e ∷ es) more (suc i) h = let rest = got-longer P es more i h in (rest.0, omega (arith, rest.1))

pub entry-longer : (P : Entry → Type 0) (es more : List Entry) (n : ℕ) → IsSomeAnd (entry_at es n) P → IsSomeAnd (entry_at (es ++ more) n) P × (n ≤ length es)
entry-longer P es more zero h = absurd h
entry-longer P es more (suc n) h = let rest = got-longer P es more n h in (rest.0, omega (arith, rest.1))

longer : (s : Layout) (seen more : List Entry) (j : FiledJob) (x : Note) → IsMade s seen j x → (t : Turn) → In x.turns t
    → IsSomeAnd (entry_at (seen ++ more) t.place) (IsTurnOf s j x.turns t) × (t.place ≤ length seen)
longer s seen more j x h t i = entry-longer (IsTurnOf s j x.turns t) seen more t.place (all-in (IsSeen s seen j x.turns) x.turns h.stood t i)

pub made-stay : (s : Layout) (seen more : List Entry) (j : FiledJob) (x : Note) → IsMade s seen j x → IsMade s (seen ++ more) j x
made-stay s seen more j x h = record {
  own = h.own;
  rise = h.rise;
  stood = all-from (IsSeen s (seen ++ more) j x.turns) x.turns (λ t i. (longer s seen more j x h t i).0);
  listed = h.listed;
  course = h.course;
}

pub rows-stay : (s : Layout) (book : Book) (seen more : List Entry) (j : FiledJob) (x : Note) → IsMade s seen j x
    → TellsTheRows (book_at s book seen) x.turns x.outcome → TellsTheRows (book_at s book (seen ++ more)) x.turns x.outcome
rows-stay s book seen more j x h rows =
    rows-agree (book_at s book seen) (book_at s book (seen ++ more)) x.turns x.outcome
    (all-from (λ t. book_at s book seen t.place ≡ book_at s book (seen ++ more) t.place) x.turns (λ t i. ap (replay s book 1) (sym (take-append-le t.place seen more (longer s seen more j x h t i).1)))) rows

pub notes-stay : NotesStay
notes-stay s book seen more j x h = record { made = made-stay s seen more j x h.made; rows = rows-stay s book seen more j x h.made h.rows }

pub turns-stay : TurnsStay
turns-stay s seen more j mine t h = (entry-longer (IsTurnOf s j mine t) seen more t.place h).0
