-- Where nothing disturbs a run, the order determines its turns, and so every outcome.
use Rattle.std.proofs.Common.{◌≡◌, refl, ap, sym, subst, ◌∙◌, ℕ, zero, suc, ◌+◌, arith, List, [], ◌∷◌, Option, Some, None, IsSomeAnd, Bool as Truth, true, false, ◌==◌, cond}
use Rattle.std.specs.Prelude.{map, ⊤}
use Rattle.std.specs.List.{AllByRecursion, slice_get}
use Rattle.std.proofs.lemmas.Bool.Decides.{Decides-eqb}
use Rattle.std.proofs.lemmas.Option.{same_Some}
use Rattle.pk_model.specs.declared.books.Book.{Book}
use Rattle.pk_model.specs.Books.{Entry, IsLegal, answer, next}
use Rattle.pk_values.specs.Schemas.{Layout}
use Rattle.script_text.specs.declared.outcomes.Item.{Item}
use Rattle.script_text.specs.declared.outcomes.Outcome.{Outcome}
use Rattle.dev_traits.specs.Streams.{Files}
use Rattle.script_text.specs.declared.scripts.Job.{Job}
use Rattle.reports.specs.Filed.{AreHeld, HasItsFile, file_name}
use Rattle.reports.specs.declared.jobs.FiledJob.{FiledJob}
use Rattle.reports.specs.declared.turns.Turn.{Turn}
use Rattle.reports.specs.Jobs.{first_place, job_at, load_in, part_call, turns_of}
use Rattle.reports.specs.Courses.{IsCourse}
use Rattle.reports.specs.Orders.{EachJob}
use Rattle.reports.specs.Reports.{AreEntries, ArePlaced, HasRun, Reports, IsEntry, IsTurnOf, TellsTheRows, book_at, item_of}
use Rattle.reports.specs.Calm.{IsOfBook, IsUndisturbed}
use Rattle.reports.specs.Laws.{OrderDetermines, ScriptDetermines}
use Rattle.reports.proofs.CalmCourses.{AreOfBook, book-answers, calm-course, on-both, same-course}

-- ---- lists

head-same : {X : Type 0} (x y : X) (xs ys : List X) → x ∷ xs ≡ y ∷ ys → x ≡ y
head-same x y xs ys e = cc

tail-same : {X : Type 0} (x y : X) (xs ys : List X) → x ∷ xs ≡ y ∷ ys → xs ≡ ys
tail-same x y xs ys e = cc

nil-cons : {X : Type 0} (x : X) (xs : List X) → [] ≡ x ∷ xs → ⊥
nil-cons x xs e = cc

cons-nil : {X : Type 0} (x : X) (xs : List X) → x ∷ xs ≡ [] → ⊥
cons-nil x xs e = cc

true-false : true ≡ false → ⊥
true-false e = cc

-- ---- a job's first turn follows from the order

first-same : (n k : ℕ) (ts us : List Turn) → map item_of ts ≡ map item_of us → ArePlaced k ts → ArePlaced k us → first_place (turns_of n ts) ≡ first_place (turns_of n us)
first-same n k [] [] e p q = refl
first-same n k [] (u ∷ us) e p q = absurd (nil-cons (item_of u) (map item_of us) e)
first-same n k (t ∷ ts) [] e p q = absurd (cons-nil (item_of t) (map item_of ts) e)
first-same n k (t ∷ ts) (u ∷ us) e p q =
    let jobs : t.job ≡ u.job = ap (λ (i : Item). i.job) (head-same (item_of t) (item_of u) (map item_of ts) (map item_of us) e) in
    by (t.job == n) (u.job == n) (ap (λ (m : ℕ). m == n) jobs) (first-same n (k + 1) ts us (tail-same (item_of t) (item_of u) (map item_of ts) (map item_of us) e) p.1 q.1)
  where
    by : (x y : Truth) → x ≡ y → first_place (turns_of n ts) ≡ first_place (turns_of n us)
        → first_place (cond x (t ∷ turns_of n ts) (turns_of n ts)) ≡ first_place (cond y (u ∷ turns_of n us) (turns_of n us))
    by true true f h = p.0 ∙ sym q.0
    by false false f h = h
    by true false f h = absurd (true-false f)
    by false true f h = absurd (true-false (sym f))

-- ---- each turn got the book's own reply

abbrev HasJob : List FiledJob → ℕ → Type 0
HasJob jobs n = IsSomeAnd (job_at jobs n) (λ j. ⊤)

abbrev AllOf : (Turn → Type 0) → List Turn → Type 0
AllOf P ts = AllByRecursion P ts

-- what holds of the turns of each job holds of all turns
pub by-jobs : (P : Turn → Type 0) (Is : ℕ → Type 0) (ts : List Turn) → ((n : ℕ) → Is n → AllOf P (turns_of n ts)) → AllOf (λ t. Is t.job) ts → AllOf P ts
by-jobs P Is [] h k = tt
by-jobs P Is (t ∷ ts) h k = (
  (subst (λ b. AllOf P (cond b (t ∷ turns_of t.job ts) (turns_of t.job ts))) ((Decides-eqb t.job t.job).1 refl) (h t.job k.0)).0,
  by-jobs P Is ts (λ n i. rest n (t.job == n) (h n i)) k.1,
)
  where
    rest : (n : ℕ) (b : Truth) → AllOf P (cond b (t ∷ turns_of n ts) (turns_of n ts)) → AllOf P (turns_of n ts)
    rest n true a = a.1
    rest n false a = a

-- what holds of each job and its outcome holds of the job in a place
pub each-at : (Is : ℕ → FiledJob → Outcome → Type 0) (P : Outcome → Type 0) (k : ℕ) (jobs : List FiledJob) (os : List Outcome) → EachJob Is k jobs os → AllByRecursion P os
    → (i : ℕ) (j : FiledJob) → slice_get jobs i ≡ Some j → (o : Outcome) × Is (k + i) j o × P o
each-at Is P k [] [] h a i j e = absurd (none-some e)
  where
    none-some : None ≡ Some j → ⊥
    none-some e = cc
each-at Is P k [] (o ∷ os) h a i j e = absurd h
each-at Is P k (x ∷ jobs) [] h a i j e = absurd h
each-at Is P k (x ∷ jobs) (o ∷ os) h a zero j e =
    let same : k ≡ k + 0 = omega arith in
    (o, subst (λ n. Is n j o) same (subst (λ y. Is k y o) (same_Some x j e) h.0), a.0)
each-at Is P k (x ∷ jobs) (o ∷ os) h a (suc i) j e =
    let found = each-at Is P (k + 1) jobs os h.1 a.1 i j e in
    let same : k + 1 + i ≡ k + suc i = omega arith in
    (found.0, subst (λ n. Is n j found.0) same found.1, found.2)

module _ (s : Layout) (jobs : List FiledJob) where
  pub have-jobs : (all ts : List Turn) (es : List Entry) → AreEntries s jobs all ts es → AllOf (λ t. HasJob jobs t.job) ts
  have-jobs all [] [] h = tt
  have-jobs all [] (e ∷ es) h = absurd h
  have-jobs all (t ∷ ts) [] h = absurd h
  have-jobs all (t ∷ ts) (e ∷ es) h = (by (job_at jobs t.job) h.0, have-jobs all ts es h.1)
    where
      by : (o : Option FiledJob) → IsSomeAnd o (λ j. IsTurnOf s j (turns_of t.job all) t e) → IsSomeAnd o (λ j. ⊤)
      by None h = absurd h
      by (Some j) h = tt

  calm-job : (ts : List Turn) (os : List Outcome) → EachJob (λ n j o. IsCourse s j (turns_of n ts) o) 1 jobs os → AllByRecursion IsUndisturbed os
      → (n : ℕ) → HasJob jobs n → AreOfBook (turns_of n ts)
  calm-job ts os h u zero k = absurd k
  calm-job ts os h u (suc n) k = by (slice_get jobs n) refl k
    where
      by : (o : Option FiledJob) → slice_get jobs n ≡ o → IsSomeAnd o (λ j. ⊤) → AreOfBook (turns_of (suc n) ts)
      by None e k = absurd k
      by (Some j) e k =
          let found = each-at (λ n j o. IsCourse s j (turns_of n ts) o) IsUndisturbed 1 jobs os h u n j e in
          let same : 1 + n ≡ suc n = omega arith in
          subst (λ m. AreOfBook (turns_of m ts)) same (calm-course s j (turns_of (1 + n) ts) found.0 found.1 found.2)

  calm-run : (book : Book) (ts : List Turn) (es : List Entry) (os : List Outcome) → HasRun s book jobs ts es os → AllByRecursion IsUndisturbed os → AreOfBook ts
  calm-run book ts es os h u = by-jobs (λ t. IsOfBook t.reply) (HasJob jobs) ts (calm-job ts os h.goes.fits.courses u) (have-jobs ts ts es h.goes.made)

-- ---- the turns follow from the order

same-entry : (e f : Entry) → e.0 ≡ f.0 → e.1 ≡ f.1 → e ≡ f
same-entry e f p q = λ i. (p i, q i)

same-turn : (t u : Turn) → item_of t ≡ item_of u → t.place ≡ u.place → t.reply ≡ u.reply → t ≡ u
same-turn t u e p q =
    let jobs : t.job ≡ u.job = ap (λ (i : Item). i.job) e in
    let parts : t.part ≡ u.part = ap (λ (i : Item). i.part) e in
    λ i. record { job = jobs i; part = parts i; place = p i; reply = q i }

module _ (s : Layout) (jobs : List FiledJob) (all every : List Turn) (firsts : (n : ℕ) → first_place (turns_of n all) ≡ first_place (turns_of n every)) where
  -- of one book at one place, two turns of one item got one reply
  same-step : (b : Book) (t u : Turn) (e f : Entry) → item_of t ≡ item_of u → IsEntry s jobs all t e → IsEntry s jobs every u f
      → (IsOfBook e.1 → e.1 ≡ answer b e.0) → (IsOfBook f.1 → f.1 ≡ answer b f.0) → IsOfBook t.reply → IsOfBook u.reply → (e ≡ f) × (t.reply ≡ u.reply)
  same-step b t u e f same h k m n v w =
      let jobs_same : t.job ≡ u.job = ap (λ (i : Item). i.job) same in
      let parts_same : t.part ≡ u.part = ap (λ (i : Item). i.part) same in
      on-both (λ j. IsTurnOf s j (turns_of t.job all) t e) (λ j. IsTurnOf s j (turns_of u.job every) u f) ((e ≡ f) × (t.reply ≡ u.reply)) (job_at jobs t.job) (job_at jobs u.job)
      (ap (job_at jobs) jobs_same) h k
      (λ j x y.
      let places : first_place (turns_of t.job all) ≡ first_place (turns_of u.job every) = firsts t.job ∙ ap (λ (q : ℕ). first_place (turns_of q every)) jobs_same in
      let calls : part_call j.job.act (load_in s j) (first_place (turns_of t.job all)) t.part ≡ part_call j.job.act (load_in s j) (first_place (turns_of u.job every)) u.part =
      λ i. part_call j.job.act (load_in s j) (places i) (parts_same i) in
      let call : e.0 ≡ f.0 = same_Some e.0 f.0 (sym x.calls ∙ calls ∙ y.calls) in
      let answered : e.1 ≡ answer b e.0 = m (subst IsOfBook (sym x.replies) v) in
      let answered_too : f.1 ≡ answer b f.0 = n (subst IsOfBook (sym y.replies) w) in
      let reply : e.1 ≡ f.1 = answered ∙ ap (answer b) call ∙ sym answered_too in
      (same-entry e f call reply, sym x.replies ∙ reply ∙ y.replies))

  same-runs : (b : Book) (n : ℕ) (ts us : List Turn) (es fs : List Entry) → map item_of ts ≡ map item_of us → ArePlaced n ts → ArePlaced n us
      → AreEntries s jobs all ts es → AreEntries s jobs every us fs → IsLegal s b n es → IsLegal s b n fs → AreOfBook ts → AreOfBook us → (ts ≡ us) × (es ≡ fs)
  same-runs b n [] [] [] [] e p q h k l m v w = (refl, refl)
  same-runs b n [] [] [] (f ∷ fs) e p q h k l m v w = absurd k
  same-runs b n [] [] (x ∷ es) fs e p q h k l m v w = absurd h
  same-runs b n [] (u ∷ us) es fs e p q h k l m v w = absurd (nil-cons (item_of u) (map item_of us) e)
  same-runs b n (t ∷ ts) [] es fs e p q h k l m v w = absurd (cons-nil (item_of t) (map item_of ts) e)
  same-runs b n (t ∷ ts) (u ∷ us) [] fs e p q h k l m v w = absurd h
  same-runs b n (t ∷ ts) (u ∷ us) (x ∷ es) [] e p q h k l m v w = absurd k
  same-runs b n (t ∷ ts) (u ∷ us) (x ∷ es) (y ∷ fs) e p q h k l m v w =
      let item = head-same (item_of t) (item_of u) (map item_of ts) (map item_of us) e in
      let one = same-step b t u x y item h.0 k.0 (book-answers b x.0 x.1 l.0) (book-answers b y.0 y.1 m.0) v.0 w.0 in
      let turn = same-turn t u item (p.0 ∙ sym q.0) one.1 in
      let legal : IsLegal s (next s b n x.0 x.1) (n + 1) fs = subst (λ (z : Entry). IsLegal s (next s b n z.0 z.1) (n + 1) fs) (sym one.0) m.1 in
      let rest = same-runs (next s b n x.0 x.1) (n + 1) ts us es fs (tail-same (item_of t) (item_of u) (map item_of ts) (map item_of us) e) p.1 q.1 h.1 k.1 l.1 legal v.1 w.1 in
      (λ i. turn i ∷ rest.0 i, λ i. one.0 i ∷ rest.1 i)

-- ---- the outcomes follow from the turns

abbrev HaveCourses : Layout → List Turn → ℕ → List FiledJob → List Outcome → Type 0
HaveCourses s ts n jobs os = EachJob (λ n j o. IsCourse s j (turns_of n ts) o) n jobs os

abbrev HaveRows : (ℕ → Book) → List Turn → ℕ → List FiledJob → List Outcome → Type 0
HaveRows books ts n jobs os = EachJob (λ n j o. TellsTheRows books (turns_of n ts) o) n jobs os

same-outcomes : (s : Layout) (books : ℕ → Book) (ts : List Turn) (n : ℕ) (jobs : List FiledJob) (os ps : List Outcome)
    → HaveCourses s ts n jobs os → HaveCourses s ts n jobs ps → HaveRows books ts n jobs os → HaveRows books ts n jobs ps
    → AllByRecursion IsUndisturbed os → AllByRecursion IsUndisturbed ps → os ≡ ps
same-outcomes s books ts n [] [] [] h k x y u w = refl
same-outcomes s books ts n [] [] (p ∷ ps) h k x y u w = absurd k
same-outcomes s books ts n [] (o ∷ os) ps h k x y u w = absurd h
same-outcomes s books ts n (j ∷ jobs) [] ps h k x y u w = absurd h
same-outcomes s books ts n (j ∷ jobs) (o ∷ os) [] h k x y u w = absurd k
same-outcomes s books ts n (j ∷ jobs) (o ∷ os) (p ∷ ps) h k x y u w =
    let one = same-course s books j (turns_of n ts) o p u.0 w.0 h.0 k.0 x.0 y.0 in
    let rest = same-outcomes s books ts (n + 1) jobs os ps h.1 k.1 x.1 y.1 u.1 w.1 in
    λ i. one i ∷ rest i

pub order-determines : OrderDetermines
order-determines s book jobs order os ps r q u w =
    let h = r.run in
    let k = q.run in
    let items : map item_of r.turns ≡ map item_of q.turns = sym r.order_is ∙ q.order_is in
    let same = same-runs s jobs r.turns q.turns (λ n. first-same n 1 r.turns q.turns items h.goes.placed k.goes.placed) book 1 r.turns q.turns r.entries q.entries items h.goes.placed k.goes.placed
    h.goes.made k.goes.made h.legal k.legal (calm-run s jobs book r.turns r.entries os h u) (calm-run s jobs book q.turns q.entries ps k w) in
    let courses : HaveCourses s r.turns 1 jobs ps = subst (λ ts. HaveCourses s ts 1 jobs ps) (sym same.0) k.goes.fits.courses in
    let rows : HaveRows (book_at s book r.entries) r.turns 1 jobs ps =
    subst (λ ts. HaveRows (book_at s book r.entries) ts 1 jobs ps) (sym same.0) (subst (λ es. HaveRows (book_at s book es) q.turns 1 jobs ps) (sym same.1) k.rows) in
    same-outcomes s (book_at s book r.entries) r.turns 1 jobs os ps h.goes.fits.courses courses h.rows rows u w

-- ---- inputs that tell determine the files

same-file : (fs : Files) (name : Option (List ℕ)) (a b : List ℕ) → AreHeld (Some fs) name a → AreHeld (Some fs) name b → a ≡ b
same-file fs None a b h k = h ∙ sym k
same-file fs (Some name) a b h k = same_Some a b (sym h.1 ∙ k.1)

same-filed : (fs : Files) (xs ys : List FiledJob) → map (λ (f : FiledJob). f.job) xs ≡ map (λ (f : FiledJob). f.job) ys
    → AllByRecursion (HasItsFile (Some fs)) xs → AllByRecursion (HasItsFile (Some fs)) ys → xs ≡ ys
same-filed fs [] [] e h k = refl
same-filed fs [] (y ∷ ys) e h k = absurd (nil-cons y.job (map (λ (f : FiledJob). f.job) ys) e)
same-filed fs (x ∷ xs) [] e h k = absurd (cons-nil x.job (map (λ (f : FiledJob). f.job) xs) e)
same-filed fs (x ∷ xs) (y ∷ ys) e h k =
    let job : x.job ≡ y.job = head-same x.job y.job (map (λ (f : FiledJob). f.job) xs) (map (λ (f : FiledJob). f.job) ys) e in
    let file : x.file ≡ y.file = same-file fs (file_name x.job.act) x.file y.file h.0 (subst (λ (j : Job). AreHeld (Some fs) (file_name j.act) y.file) (sym job) k.0) in
    let rest = same-filed fs xs ys (tail-same x.job y.job (map (λ (f : FiledJob). f.job) xs) (map (λ (f : FiledJob). f.job) ys) e) h.1 k.1 in
    λ i. (record { job = job i; file = file i }) ∷ rest i

pub script-determines : ScriptDetermines
script-determines s book fs script jobs others order os ps a b r q u w =
    let same = same-filed fs jobs others (a.jobs_are ∙ sym b.jobs_are) a.held b.held in
    order-determines s book jobs order os ps r (subst (λ js. Reports s book js order ps) (sym same) q) u w
