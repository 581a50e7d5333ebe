-- What each kind of job does to a course.
use Rattle.std.proofs.Common.{◌≡◌, ◌≢◌, refl, ap, sym, subst, ◌∙◌, inl, inr, ℕ, zero, suc, ◌+◌, ◌-◌, arith, List, [], ◌∷◌, ◌++◌, length, drop, Option, Some, None, IsSomeAnd, OnOk, Result, Ok, Err, Bool as Truth, true, false, cond, max}
use Rattle.std.specs.Prelude.{⊤, nat_lt, is_some}
use Rattle.std.specs.FinMap as fin
use Rattle.std.specs.List.{AllByRecursion}
use Rattle.std.specs.Option.{option_map}
use Rattle.std.proofs.lemmas.List.{length-map, length-append, append_assoc}
use Rattle.std.proofs.lemmas.Option.{same_Some}
use Rattle.pk_model.specs.declared.books.Book.{Book}
use Rattle.pk_model.specs.declared.books.Plan.{Plan}
use Rattle.pk_model.specs.declared.calls.Call.{Call}
use Rattle.pk_model.specs.declared.calls.Call.TheVariants as call
use Rattle.pk_model.specs.declared.calls.Load.{Load}
use Rattle.pk_model.specs.declared.calls.Want.{Want}
use Rattle.pk_model.specs.declared.calls.Want.TheVariants.{Latest, At}
use Rattle.pk_model.specs.declared.calls.Reply.{Reply}
use Rattle.pk_model.specs.declared.calls.Reply.TheVariants as reply
use Rattle.pk_model.specs.Lawful.{IsLawful}
use Rattle.pk_model.specs.Tables.{Rows}
use Rattle.pk_model.specs.Books.{IsOfDevice, MayReply, TakesMemory, answer, answer_begin, answer_end, answer_give_up, answer_open, answer_unless, change, change_unless, is_full, next, open_answer, open_change, plan_at, publish, rows_at, version, change_begin, change_end, change_give_up}
use Rattle.pk_model.proofs.VersionLaws.{current-rows, opens-kept}
use Rattle.pk_values.specs.Schemas.{Layout, schema_fault}
use Rattle.pk_values.specs.SchemaFacts.{lawful_column}
use Rattle.load_csv.specs.Loads.{load_of}
use Rattle.load_csv.specs.declared.loads.LoadFault.{LoadFault}
use Rattle.load_csv.specs.declared.loads.LoadFault.TheVariants as fault
use Rattle.script_text.specs.Texts.{AreWritable, rows_text}
use Rattle.script_text.specs.declared.scripts.JobAct.{JobAct}
use Rattle.script_text.specs.declared.scripts.JobAct.TheVariants as act
use Rattle.script_text.specs.declared.outcomes.Item.{Item}
use Rattle.script_text.specs.declared.outcomes.ItemPart.TheVariants as part
use Rattle.script_text.specs.declared.outcomes.Outcome.{Outcome}
use Rattle.script_text.specs.declared.outcomes.Outcome.TheVariants as outcome
use Rattle.reports.specs.declared.jobs.FiledJob.{FiledJob}
use Rattle.reports.specs.declared.plain.Course.{Course}
use Rattle.reports.specs.declared.turns.Turn.{Turn}
use Rattle.reports.specs.Jobs.{PartMayGet, call_of, first_place, is_partial, load_call, load_in, look_up_call, part_call}
use Rattle.reports.specs.Courses.{AreRowsOf, CompactEnds, CompactGoesOn, CompactMerged, HasTurns, IsCourse, IsOutside, PartialGoesOn, ReadingTells, ScanEnds, WithoutTurn}
use Rattle.reports.specs.Reports.{HasItsRows}
use Rattle.reports.specs.Calm.{IsOfBook}
use Rattle.reports.specs.Plain.{AnswersPlainly, Does, Ends, IsOfMemory, IsTaken, RowsTold, ScanTells, Takes, TellsReply, Told, WasRun}
use Rattle.reports.specs.Texts.{HasTexts, HaveTexts}
use Rattle.reports.proofs.CalmCourses.{device-apart}
use Rattle.reports.proofs.PlainLaws.{add-none, add-one-turn, add-two-turns}
use Rattle.reports.proofs.TextLaws.{kept-texts, published-texts, schema-defaults, values-writable}

-- ---- a book answers by itself

load-own : (b : Book) (t : Truth) → IsOfBook (cond t reply.ManyVersions (reply.Published (version b + 1)))
load-own b true = tt
load-own b false = tt

open-own : (b : Book) (w : Want) → IsOfBook (answer_open b w)
open-own b Latest = tt
open-own b (At v) = by (nat_lt v b.floor) (nat_lt (version b) v)
  where
    by : (x y : Truth) → IsOfBook (cond x (reply.Expired b.floor) (cond y (reply.NotYet (version b)) (reply.Opened v)))
    by true y = tt
    by false true = tt
    by false false = tt

begin-own : (b : Book) (p : Option Plan) → IsOfBook (answer_begin b p)
begin-own b None = tt
begin-own b (Some p) = tt

end-own : (b : Book) (p : Option Plan) → IsOfBook (answer_end b p)
end-own b None = tt
end-own b (Some p) = tt

give-up-own : (p : Option Plan) → IsOfBook (answer_give_up p)
give-up-own None = tt
give-up-own (Some p) = tt

expire-own : (b : Book) (v : ℕ) (t : Truth) → IsOfBook (cond t (reply.NotYet (version b)) (reply.Floor (max b.floor v)))
expire-own b v true = tt
expire-own b v false = tt

open-answers : (b : Book) (c : Call) → IsOfBook (open_answer b c)
open-answers b (call.Load l) = load-own b (is_full b)
open-answers b (call.Open w) = open-own b w
open-answers b call.Begin = begin-own b b.plan
open-answers b (call.End p) = end-own b (plan_at b.plan p)
open-answers b (call.GiveUp p) = give-up-own (plan_at b.plan p)
open-answers b (call.Expire v) = expire-own b v (nat_lt (version b) v)
open-answers b call.Stat = tt

pub answers-own : (b : Book) (c : Call) → IsOfBook (answer b c)
answers-own b c = by b.closed
  where
    by : (o : Option ℕ) → IsOfBook (answer_unless o (open_answer b c))
    by None = open-answers b c
    by (Some p) = tt

pub may-reply : (b : Book) (c : Call) (r : Reply) → AnswersPlainly b c r → MayReply b c r
may-reply b c r h = elim h [
  | inl is ↦ inl is
  | inr wants ↦ wants.1
]

-- where a call takes no memory, its reply is the book's
plain-own : (b : Book) (c : Call) (r : Reply) → (TakesMemory c → ⊥) → AnswersPlainly b c r → r ≡ answer b c
plain-own b c r n h = elim h [
  | inl is ↦ is
  | inr wants ↦ absurd (n wants.2)
]

own-reply : (b : Book) (c : Call) (r : Reply) → (TakesMemory c → ⊥) → AnswersPlainly b c r → IsOfBook r
own-reply b c r n h = subst IsOfBook (sym (plain-own b c r n h)) (answers-own b c)

not-device : (b : Book) (c : Call) (r : Reply) → (TakesMemory c → ⊥) → AnswersPlainly b c r → IsOfDevice r → ⊥
not-device b c r n h d = device-apart r d (own-reply b c r n h)

-- ---- texts stay

dropped-texts : (n : ℕ) (ms : List Rows) (m : Rows) → AllByRecursion HasTexts (ms ++ m ∷ []) → AllByRecursion HasTexts (drop n ms ++ m ∷ [])
dropped-texts zero ms m h = h
dropped-texts (suc n) [] m h = h
dropped-texts (suc n) (x ∷ ms) m h = dropped-texts n ms m h.1

module _ (s : Layout) (valid : schema_fault s.columns s.keys ≡ None) (b : Book) (h : HaveTexts b) where
  load-texts : (l : Load) (t : Truth) → IsLawful s l → HaveTexts (cond t b (publish s b l))
  load-texts l true lawful = h
  load-texts l false lawful = published-texts s (schema-defaults s (λ i c g. lawful_column s i c valid g)) b l lawful h

  begin-texts : (place : ℕ) (p : Option Plan) → HaveTexts (change_begin b place p)
  begin-texts place None = h
  begin-texts place (Some p) = h

  end-texts : (p : Option Plan) → HaveTexts (change_end b p)
  end-texts None = h
  end-texts (Some p) = h

  give-up-texts : (p : Option Plan) → HaveTexts (change_give_up b p)
  give-up-texts None = h
  give-up-texts (Some p) = h

  expire-texts : (v : ℕ) (t : Truth) → HaveTexts (cond t b (record b { floor = max b.floor v; older = drop (v - b.floor) b.older }))
  expire-texts v true = h
  expire-texts v false = dropped-texts (v - b.floor) b.older b.current h

  open-texts : (place : ℕ) (c : Call) → IsTaken s c → HaveTexts (open_change s b place c)
  open-texts place (call.Load l) k = load-texts l (is_full b) k
  open-texts place (call.Open w) k = h
  open-texts place call.Begin k = begin-texts place b.plan
  open-texts place (call.End p) k = end-texts (plan_at b.plan p)
  open-texts place (call.GiveUp p) k = give-up-texts (plan_at b.plan p)
  open-texts place (call.Expire v) k = expire-texts v (nat_lt (version b) v)
  open-texts place call.Stat k = h

  change-texts : (place : ℕ) (c : Call) → IsTaken s c → HaveTexts (change s b place c)
  change-texts place c k = by b.closed
    where
      by : (o : Option ℕ) → HaveTexts (change_unless o b (open_change s b place c))
      by None = open-texts place c k
      by (Some p) = h

  pub next-texts : (place : ℕ) (c : Call) (r : Reply) → IsTaken s c → HaveTexts (next s b place c r)
  next-texts place c (reply.Published v) k = change-texts place c k
  next-texts place c (reply.Opened v) k = change-texts place c k
  next-texts place c (reply.Begun v) k = change-texts place c k
  next-texts place c (reply.Compacted before after rows late) k = change-texts place c k
  next-texts place c (reply.Floor f) k = change-texts place c k
  next-texts place c (reply.Stat floor version rows rowsets) k = change-texts place c k
  next-texts place c reply.GaveUp k = change-texts place c k
  next-texts place c (reply.Expired f) k = change-texts place c k
  next-texts place c (reply.NotYet v) k = change-texts place c k
  next-texts place c (reply.Busy v) k = change-texts place c k
  next-texts place c reply.ManyVersions k = change-texts place c k
  next-texts place c (reply.Closed at) k = change-texts place c k
  next-texts place c (reply.StoreFault x) k = h
  next-texts place c (reply.Damaged d) k = h
  next-texts place c reply.Memory k = h
  next-texts place c reply.NoPlan k = change-texts place c k
  next-texts place c (reply.Worn x) k = h

-- ---- the course of each kind of job

pub tells-course : (a : JobAct) (t : Turn) (r : Reply) → TellsReply a → t.part ≡ part.Whole → t.reply ≡ r → HasTurns a (t ∷ []) (outcome.Turn r)
tells-course (act.Load name) t r h p e = (p, ap outcome.Turn (sym e))
tells-course (act.Partial name) t r h p e = absurd h
tells-course (act.Scan want) t r h p e = absurd h
tells-course act.Compact t r h p e = absurd h
tells-course (act.Expire v) t r h p e = (p, ap outcome.Turn (sym e))
tells-course act.Stat t r h p e = (p, ap outcome.Turn (sym e))

tells-listed : (b : Book) (a : JobAct) (load : Result Load LoadFault) (c : Call) (r : Reply) → TellsReply a → part_call a load 0 part.Whole ≡ Some c → AnswersPlainly b c r → IsOfDevice r → PartMayGet a part.Whole r
tells-listed b (act.Load name) load c r h e k d = d
tells-listed b (act.Partial name) load c r h e k d = absurd h
tells-listed b (act.Scan want) load c r h e k d = absurd h
tells-listed b act.Compact load c r h e k d = absurd h
tells-listed b (act.Expire v) load c r h e k d = absurd (not-device b c r (λ m. subst TakesMemory (sym (same_Some (call.Expire v) c e)) m) k d)
tells-listed b act.Stat load c r h e k d = absurd (not-device b c r (λ m. subst TakesMemory (sym (same_Some call.Stat c e)) m) k d)

partial-refused : (r : Reply) → ((v : ℕ) → r ≢ reply.Opened v) → PartialGoesOn (outcome.Turn r) r []
partial-refused (reply.Published v) n = (refl, refl)
partial-refused (reply.Opened v) n = absurd (n v refl)
partial-refused (reply.Begun v) n = (refl, refl)
partial-refused (reply.Compacted before after rows late) n = (refl, refl)
partial-refused (reply.Floor f) n = (refl, refl)
partial-refused (reply.Stat floor version rows rowsets) n = (refl, refl)
partial-refused reply.GaveUp n = (refl, refl)
partial-refused (reply.Expired f) n = (refl, refl)
partial-refused (reply.NotYet v) n = (refl, refl)
partial-refused (reply.Busy v) n = (refl, refl)
partial-refused reply.ManyVersions n = (refl, refl)
partial-refused (reply.Closed at) n = (refl, refl)
partial-refused (reply.StoreFault x) n = (refl, refl)
partial-refused (reply.Damaged d) n = (refl, refl)
partial-refused reply.Memory n = (refl, refl)
partial-refused reply.NoPlan n = (refl, refl)
partial-refused (reply.Worn x) n = (refl, refl)

compact-refused : (r : Reply) → ((v : ℕ) → r ≢ reply.Begun v) → CompactGoesOn (outcome.Turn r) r []
compact-refused (reply.Published v) n = (refl, refl)
compact-refused (reply.Opened v) n = (refl, refl)
compact-refused (reply.Begun v) n = absurd (n v refl)
compact-refused (reply.Compacted before after rows late) n = (refl, refl)
compact-refused (reply.Floor f) n = (refl, refl)
compact-refused (reply.Stat floor version rows rowsets) n = (refl, refl)
compact-refused reply.GaveUp n = (refl, refl)
compact-refused (reply.Expired f) n = (refl, refl)
compact-refused (reply.NotYet v) n = (refl, refl)
compact-refused (reply.Busy v) n = (refl, refl)
compact-refused reply.ManyVersions n = (refl, refl)
compact-refused (reply.Closed at) n = (refl, refl)
compact-refused (reply.StoreFault x) n = (refl, refl)
compact-refused (reply.Damaged d) n = (refl, refl)
compact-refused reply.Memory n = (refl, refl)
compact-refused reply.NoPlan n = (refl, refl)
compact-refused (reply.Worn x) n = (refl, refl)

compact-ended : (q : Reply) → IsOfBook q → CompactEnds q [] (outcome.Turn q)
compact-ended (reply.Published v) h = (refl, refl)
compact-ended (reply.Opened v) h = (refl, refl)
compact-ended (reply.Begun v) h = (refl, refl)
compact-ended (reply.Compacted before after rows late) h = (refl, refl)
compact-ended (reply.Floor f) h = (refl, refl)
compact-ended (reply.Stat floor version rows rowsets) h = (refl, refl)
compact-ended reply.GaveUp h = (refl, refl)
compact-ended (reply.Expired f) h = (refl, refl)
compact-ended (reply.NotYet v) h = (refl, refl)
compact-ended (reply.Busy v) h = (refl, refl)
compact-ended reply.ManyVersions h = (refl, refl)
compact-ended (reply.Closed at) h = (refl, refl)
compact-ended (reply.StoreFault x) h = (refl, refl)
compact-ended (reply.Damaged d) h = (refl, refl)
compact-ended reply.Memory h = absurd h
compact-ended reply.NoPlan h = (refl, refl)
compact-ended (reply.Worn x) h = (refl, refl)

compact-course : (t u : Turn) (v : ℕ) (q : Reply) → t.part ≡ part.First → t.reply ≡ reply.Begun v → u.part ≡ part.Last → u.reply ≡ q → IsOfBook q
    → (t.part ≡ part.First) × CompactGoesOn (outcome.Turn q) t.reply (u ∷ [])
compact-course t u v q p e l f own =
    (p, subst (λ r. CompactGoesOn (outcome.Turn q) r (u ∷ [])) (sym e) (subst (λ x. CompactMerged x u.reply [] (outcome.Turn q)) (sym l) (subst (λ x. CompactEnds x [] (outcome.Turn q)) (sym f) (compact-ended q own))))

partial-course : (t u : Turn) (v : ℕ) (q : Reply) → t.part ≡ part.First → t.reply ≡ reply.Opened v → u.part ≡ part.Last → u.reply ≡ q
    → (t.part ≡ part.First) × PartialGoesOn (outcome.Turn q) t.reply (u ∷ [])
partial-course t u v q p e l f =
    (p, subst (λ r. PartialGoesOn (outcome.Turn q) r (u ∷ [])) (sym e) (l, (refl, ap outcome.Turn (sym f))))

own-memory : (r : Reply) → IsOfBook r → IsOfMemory r
own-memory (reply.Published v) h = tt
own-memory (reply.Opened v) h = tt
own-memory (reply.Begun v) h = tt
own-memory (reply.Compacted before after rows late) h = tt
own-memory (reply.Floor f) h = tt
own-memory (reply.Stat floor version rows rowsets) h = tt
own-memory reply.GaveUp h = tt
own-memory (reply.Expired f) h = tt
own-memory (reply.NotYet v) h = tt
own-memory (reply.Busy v) h = tt
own-memory reply.ManyVersions h = tt
own-memory (reply.Closed at) h = tt
own-memory (reply.StoreFault x) h = absurd h
own-memory (reply.Damaged d) h = absurd h
own-memory reply.Memory h = absurd h
own-memory reply.NoPlan h = tt
own-memory (reply.Worn x) h = absurd h

-- a turn's reply is the book's own, or want of memory
pub turn-run : (b : Book) (c : Call) (r : Reply) → AnswersPlainly b c r → WasRun (outcome.Turn r)
turn-run b c r h = elim h [
  | inl is ↦ subst IsOfMemory (sym is) (own-memory (answer b c) (answers-own b c))
  | inr wants ↦ subst IsOfMemory (sym wants.0) tt
]

-- ---- jobs of one turn

none-old : (old mid new : Course) (o : Outcome) → Told mid new o → mid.order ≡ old.order → new.order ≡ old.order
none-old old mid new o h e = h.order ∙ e

pub whole-does : (s : Layout) (number : ℕ) (c : Call) (r : Reply) (old mid new : Course) (j : FiledJob)
    → schema_fault s.columns s.keys ≡ None → IsTaken s c
    → Takes s number part.Whole c old mid r → Told mid new (outcome.Turn r)
    → TellsReply j.job.act → ((mine : List Turn) → call_of s j mine part.Whole ≡ Some c)
    → Does s number j old new
whole-does s number c r old mid new j valid taken takes told tells calls book jobs e h =
    add-one-turn s book jobs old h j part.Whole c r (outcome.Turn r) new calls
    (may-reply old.book c r takes.plainly)
    (tells-listed old.book j.job.act (load_in s j) c r tells (calls []) takes.plainly)
    (λ t p q. tells-course j.job.act t r tells p q)
    tt
    (turn-run old.book c r takes.plainly)
    (told.book ∙ takes.book)
    (subst HaveTexts (sym (told.book ∙ takes.book)) (next-texts s valid old.book h.texts (length old.order + 1) c r taken))
    (told.order ∙ takes.order ∙ ap (λ (n : ℕ). old.order ++ (record { job = n; part = part.Whole }) ∷ []) e)
    (told.outcomes ∙ ap (λ (os : List Outcome). os ++ outcome.Turn r ∷ []) takes.outcomes)

pub refused-tells : (r : Result Load LoadFault) (f : LoadFault) → (f ≢ fault.Memory → r ≡ Err f) → ReadingTells r f
refused-tells r f h = by f h
  where
    told : (g : LoadFault) → r ≡ Err g → ReadingTells r g
    told g e = subst (λ x. ReadingTells x g) (sym e) (inl refl)

    wanting : (x : Result Load LoadFault) → ReadingTells x fault.Memory
    wanting (Ok l) = refl
    wanting (Err g) = inr refl

    by : (g : LoadFault) → (g ≢ fault.Memory → r ≡ Err g) → ReadingTells r g
    by fault.NoHeader k = told fault.NoHeader (k (λ e. cc))
    by (fault.UnknownName c) k = told (fault.UnknownName c) (k (λ e. cc))
    by (fault.NameTwice c) k = told (fault.NameTwice c) (k (λ e. cc))
    by (fault.Missing c) k = told (fault.Missing c) (k (λ e. cc))
    by (fault.NoDefault c) k = told (fault.NoDefault c) (k (λ e. cc))
    by fault.ManyRows k = told fault.ManyRows (k (λ e. cc))
    by (fault.Width n) k = told (fault.Width n) (k (λ e. cc))
    by (fault.BadOp n) k = told (fault.BadOp n) (k (λ e. cc))
    by (fault.BadCell n c) k = told (fault.BadCell n c) (k (λ e. cc))
    by (fault.KeyTooLong n l) k = told (fault.KeyTooLong n l) (k (λ e. cc))
    by fault.Memory k = wanting r

-- a job whose file is refused
abbrev pub NamesFile : JobAct → Type 0
NamesFile a = (load : Result Load LoadFault) (f : LoadFault) → ReadingTells load f → WithoutTurn a load (outcome.Load f)

pub load-names : (a : JobAct) (name : List ℕ) → a ≡ act.Load name → NamesFile a
load-names a name e load f h = subst (λ x. WithoutTurn x load (outcome.Load f)) (sym e) h

pub partial-names : (a : JobAct) (name : List ℕ) → a ≡ act.Partial name → NamesFile a
partial-names a name e load f h = subst (λ x. WithoutTurn x load (outcome.Load f)) (sym e) h

-- what a job's file stands for, by the job's kind
pub load-is : (s : Layout) (j : FiledJob) (partial : Truth) (file : List ℕ) → is_partial j.job.act ≡ partial → j.file ≡ file → load_in s j ≡ load_of s partial file
load-is s j partial file kind same = λ i. load_of s (kind i) (same i)

pub refused-does : (s : Layout) (number : ℕ) (f : LoadFault) (partial : Truth) (file : List ℕ) (old new : Course) (j : FiledJob)
    → NamesFile j.job.act → is_partial j.job.act ≡ partial → j.file ≡ file → (f ≢ fault.Memory → load_of s partial file ≡ Err f) → Told old new (outcome.Load f)
    → Does s number j old new
refused-does s number f partial file old new j names kind same h told book jobs e come =
    add-none s book jobs old come j (outcome.Load f) new
    (names (load_in s j) f (subst (λ x. ReadingTells x f) (sym (load-is s j partial file kind same)) (refused-tells (load_of s partial file) f h)))
    tt
    told.book told.order told.outcomes

-- a load that was read
pub load-calls : (s : Layout) (j : FiledJob) (name file : List ℕ) (load : Load) → j.job.act ≡ act.Load name → j.file ≡ file → load_of s false file ≡ Ok load
    → (mine : List Turn) → call_of s j mine part.Whole ≡ Some (call.Load load)
load-calls s j name file load e same read mine =
    ap (λ a. part_call a (load_in s j) (first_place mine) part.Whole) e ∙ ap load_call (load-is s j false file (ap is_partial e) same ∙ read)

pub load-tells : (a : JobAct) (name : List ℕ) → a ≡ act.Load name → TellsReply a
load-tells a name e = subst TellsReply (sym e) tt

-- ---- a scan

pub unless : (o : Option ℕ) (b : Book) → change_unless o b b ≡ b
unless None b = refl
unless (Some p) b = refl

pub open-stays : (s : Layout) (b : Book) (place : ℕ) (w : Want) (r : Reply) → IsOfBook r → next s b place (call.Open w) r ≡ b
open-stays s b place w (reply.Published v) h = unless b.closed b
open-stays s b place w (reply.Opened v) h = unless b.closed b
open-stays s b place w (reply.Begun v) h = unless b.closed b
open-stays s b place w (reply.Compacted before after rows late) h = unless b.closed b
open-stays s b place w (reply.Floor f) h = unless b.closed b
open-stays s b place w (reply.Stat floor version rows rowsets) h = unless b.closed b
open-stays s b place w reply.GaveUp h = unless b.closed b
open-stays s b place w (reply.Expired f) h = unless b.closed b
open-stays s b place w (reply.NotYet v) h = unless b.closed b
open-stays s b place w (reply.Busy v) h = unless b.closed b
open-stays s b place w reply.ManyVersions h = unless b.closed b
open-stays s b place w (reply.Closed at) h = unless b.closed b
open-stays s b place w (reply.StoreFault x) h = absurd h
open-stays s b place w (reply.Damaged d) h = absurd h
open-stays s b place w reply.Memory h = absurd h
open-stays s b place w reply.NoPlan h = unless b.closed b
open-stays s b place w (reply.Worn x) h = absurd h

some-true : {X : Type 0} (o : Option X) → is_some o ≡ true → IsSomeAnd o (λ m. ⊤)
some-true None e = cc
some-true (Some x) e = tt

pub opened-kept : (b : Book) (w : Want) (v : ℕ) → answer b (call.Open w) ≡ reply.Opened v → IsSomeAnd (rows_at b v) (λ m. ⊤)
opened-kept b w v e = by b.closed refl w e
  where
    at-version : (u : ℕ) (x y : Truth) → cond x (reply.Expired b.floor) (cond y (reply.NotYet (version b)) (reply.Opened u)) ≡ reply.Opened v → u ≡ v
    at-version u true y e = cc
    at-version u false true e = cc
    at-version u false false e = cc

    latest : reply.Opened (version b) ≡ reply.Opened v → version b ≡ v
    latest e = cc

    by : (o : Option ℕ) → b.closed ≡ o → (w : Want) → answer_unless o (answer_open b w) ≡ reply.Opened v → IsSomeAnd (rows_at b v) (λ m. ⊤)
    by (Some p) c w e = cc
    by None c Latest e = subst (λ n. IsSomeAnd (rows_at b n) (λ m. ⊤)) (latest e) (subst (λ o. IsSomeAnd o (λ m. ⊤)) (sym (current-rows b)) tt)
    by None c (At u) e =
        let same : u ≡ v = at-version u (nat_lt u b.floor) (nat_lt (version b) u) e in
        let answered : answer b (call.Open (At v)) ≡ reply.Opened v = ap (λ o. answer_unless o (answer_open b (At v))) c ∙ ap (λ n. answer_open b (At n)) (sym same) ∙ e in
        some-true (rows_at b v) ((opens-kept b v c).0 answered)

-- after its turn a scan has the version that it was told
pub scan-kept : (s : Layout) (number : ℕ) (w : Want) (r : Reply) (old mid : Course) → Takes s number part.Whole (call.Open w) old mid r
    → (v : ℕ) → r ≡ reply.Opened v → IsSomeAnd (rows_at mid.book v) (λ m. ⊤)
scan-kept s number w r old mid takes v e =
    let is = plain-own old.book (call.Open w) r (λ x. x) takes.plainly in
    let own = own-reply old.book (call.Open w) r (λ x. x) takes.plainly in
    subst (λ b. IsSomeAnd (rows_at b v) (λ m. ⊤)) (sym (takes.book ∙ open-stays s old.book (length old.order + 1) w r own)) (opened-kept old.book w v (sym is ∙ e))

pub scan-texts : (s : Layout) (number : ℕ) (w : Want) (r : Reply) (old mid : Course) → Takes s number part.Whole (call.Open w) old mid r → HaveTexts old.book → HaveTexts mid.book
scan-texts s number w r old mid takes h =
    let own = own-reply old.book (call.Open w) r (λ x. x) takes.plainly in
    subst HaveTexts (sym (takes.book ∙ open-stays s old.book (length old.order + 1) w r own)) h

-- a fault in reading is one whatever the version
pub outside-ends : (b : Book) (v : ℕ) (o : Outcome) → IsOutside o → AreRowsOf v o × HasItsRows b o
outside-ends b v (outcome.Turn r) h = absurd h
outside-ends b v (outcome.Rows n c t) h = absurd h
outside-ends b v (outcome.Load f) h = absurd h
outside-ends b v (outcome.Outside f) h = (tt, tt)
outside-ends b v outcome.NotRun h = absurd h

pub rows-end : (b : Book) (v : ℕ) (o : Outcome) (kept : Option Rows) → rows_at b v ≡ kept → IsSomeAnd kept (λ m. RowsTold v m o) → AreRowsOf v o × HasItsRows b o
rows-end b v o None e h = absurd h
rows-end b v o (Some m) e h = elim h [
  | inl is ↦ subst (λ p. AreRowsOf v p × HasItsRows b p) (sym is) (refl, subst (λ k. IsSomeAnd k (λ (n : Rows). (fin.len m ≡ fin.len n) × (rows_text (fin.values m) ≡ rows_text (fin.values n)))) (sym e) (refl, refl))
  | inr out ↦ outside-ends b v o out
]

reply-ends : (b : Book) (r : Reply) (o : Outcome) → o ≡ outcome.Turn r → HasItsRows b o
reply-ends b r o e = subst (HasItsRows b) (sym e) tt

-- what a scan tells splits into what needs no book and its rows
scan-ends : (b : Book) (r : Reply) (o : Outcome) → ScanTells b r o → ScanEnds r o × HasItsRows b o
scan-ends b (reply.Opened v) o h = rows-end b v o (rows_at b v) refl h
scan-ends b (reply.Published v) o h = (h, reply-ends b (reply.Published v) o h)
scan-ends b (reply.Begun v) o h = (h, reply-ends b (reply.Begun v) o h)
scan-ends b (reply.Compacted before after rows late) o h = (h, reply-ends b (reply.Compacted before after rows late) o h)
scan-ends b (reply.Floor f) o h = (h, reply-ends b (reply.Floor f) o h)
scan-ends b (reply.Stat floor version rows rowsets) o h = (h, reply-ends b (reply.Stat floor version rows rowsets) o h)
scan-ends b reply.GaveUp o h = (h, reply-ends b reply.GaveUp o h)
scan-ends b (reply.Expired f) o h = (h, reply-ends b (reply.Expired f) o h)
scan-ends b (reply.NotYet v) o h = (h, reply-ends b (reply.NotYet v) o h)
scan-ends b (reply.Busy v) o h = (h, reply-ends b (reply.Busy v) o h)
scan-ends b reply.ManyVersions o h = (h, reply-ends b reply.ManyVersions o h)
scan-ends b (reply.Closed at) o h = (h, reply-ends b (reply.Closed at) o h)
scan-ends b (reply.StoreFault x) o h = (h, reply-ends b (reply.StoreFault x) o h)
scan-ends b (reply.Damaged d) o h = (h, reply-ends b (reply.Damaged d) o h)
scan-ends b reply.Memory o h = (h, reply-ends b reply.Memory o h)
scan-ends b reply.NoPlan o h = (h, reply-ends b reply.NoPlan o h)
scan-ends b (reply.Worn x) o h = (h, reply-ends b (reply.Worn x) o h)

pub scan-does : (s : Layout) (number : ℕ) (w : Want) (r : Reply) (o : Outcome) (old mid new : Course) (j : FiledJob)
    → j.job.act ≡ act.Scan w → Takes s number part.Whole (call.Open w) old mid r → ScanTells mid.book r o → WasRun o → Told mid new o → HaveTexts old.book
    → Does s number j old new
scan-does s number w r o old mid new j is takes tells run told texts book jobs e h =
    add-one-turn s book jobs old h j part.Whole (call.Open w) r o new
    (λ mine. ap (λ a. part_call a (load_in s j) (first_place mine) part.Whole) is)
    (may-reply old.book (call.Open w) r takes.plainly)
    (λ d. absurd (not-device old.book (call.Open w) r (λ x. x) takes.plainly d))
    (λ t p q. subst (λ a. HasTurns a (t ∷ []) o) (sym is) (p, subst (λ x. ScanEnds x o) (sym q) (scan-ends mid.book r o tells).0))
    (subst (λ b. HasItsRows b o) (sym told.book) (scan-ends mid.book r o tells).1)
    run
    (told.book ∙ takes.book)
    (subst HaveTexts (sym told.book) (scan-texts s number w r old mid takes h.texts))
    (told.order ∙ takes.order ∙ ap (λ (n : ℕ). old.order ++ (record { job = n; part = part.Whole }) ∷ []) e)
    (told.outcomes ∙ ap (λ (os : List Outcome). os ++ o ∷ []) takes.outcomes)

length-values : (m : Rows) → length (fin.values m) ≡ fin.len m
length-values m = length-map (fin.entries m) (λ e. e.1) ∙ sym (fin.len-entries m)

pub rows-told : (m : Rows) (rows : List (List _)) (v : ℕ) (text : List ℕ) → rows ≡ fin.values m → text ≡ rows_text rows → RowsTold v m (outcome.Rows v (length rows) text)
rows-told m rows v text e f = inl (λ i. outcome.Rows v ((ap length e ∙ length-values m) i) ((f ∙ ap rows_text e) i))

pub opened-writable : (b : Book) (v : ℕ) (rows : List (List _)) → HaveTexts b → Some rows ≡ option_map fin.values (rows_at b v) → AreWritable rows
opened-writable b v rows h e = by (rows_at b v) refl e
  where
    by : (o : Option Rows) → rows_at b v ≡ o → Some rows ≡ option_map fin.values o → AreWritable rows
    by None f g = cc
    by (Some m) f g = subst AreWritable (sym (same_Some rows (fin.values m) g)) (values-writable m (kept-texts b v m h f))

-- ---- jobs of two turns

first-does : (s : Layout) (number : ℕ) (c : Call) (r : Reply) (old mid new : Course) (j : FiledJob)
    → schema_fault s.columns s.keys ≡ None → IsTaken s c
    → ((mine : List Turn) → call_of s j mine part.First ≡ Some c)
    → (IsOfDevice r → PartMayGet j.job.act part.First r)
    → ((t : Turn) → t.part ≡ part.First → t.reply ≡ r → IsCourse s j (t ∷ []) (outcome.Turn r))
    → Takes s number part.First c old mid r → Told mid new (outcome.Turn r)
    → Does s number j old new
first-does s number c r old mid new j valid taken calls listed course takes told book jobs e h =
    add-one-turn s book jobs old h j part.First c r (outcome.Turn r) new calls
    (may-reply old.book c r takes.plainly)
    listed
    (λ t p q. course t p q)
    tt
    (turn-run old.book c r takes.plainly)
    (told.book ∙ takes.book)
    (subst HaveTexts (sym (told.book ∙ takes.book)) (next-texts s valid old.book h.texts (length old.order + 1) c r taken))
    (told.order ∙ takes.order ∙ ap (λ (n : ℕ). old.order ++ (record { job = n; part = part.First }) ∷ []) e)
    (told.outcomes ∙ ap (λ (os : List Outcome). os ++ outcome.Turn r ∷ []) takes.outcomes)

both-do : (s : Layout) (number : ℕ) (c d : Call) (r : Reply) (old mid new : Course) (j : FiledJob)
    → schema_fault s.columns s.keys ≡ None → IsTaken s c → IsTaken s d
    → (ends : Ends s number d mid new)
    → ((mine : List Turn) → call_of s j mine part.First ≡ Some c)
    → ((t : Turn) (ts : List Turn) → t.place ≡ length old.order + 1 → call_of s j (t ∷ ts) part.Last ≡ Some d)
    → (IsOfDevice r → PartMayGet j.job.act part.First r) → (IsOfDevice ends.reply → PartMayGet j.job.act part.Last ends.reply)
    → ((t u : Turn) → t.part ≡ part.First → t.reply ≡ r → u.part ≡ part.Last → u.reply ≡ ends.reply → IsCourse s j (t ∷ u ∷ []) (outcome.Turn ends.reply))
    → Takes s number part.First c old mid r
    → Does s number j old new
both-do s number c d r old mid new j valid taken taken_too ends calls last listed late course takes book jobs e h =
    let t : Item = record { job = number; part = part.First } in
    let u : Item = record { job = number; part = part.Last } in
    let count : length mid.order + 1 ≡ length old.order + 2 = let sum = length-append old.order (t ∷ []) in let is = ap length takes.order in omega (arith, sum, is) in
    let ended = ends.takes in
    let told = ends.told in
    let q = ends.reply in
    let after : new.book ≡ next s mid.book (length old.order + 2) d q = told.book ∙ ended.book ∙ ap (λ n. next s mid.book n d q) count in
    let texts : HaveTexts mid.book = subst HaveTexts (sym takes.book) (next-texts s valid old.book h.texts (length old.order + 1) c r taken) in
    add-two-turns s book jobs old h j c d r q (outcome.Turn q) mid new calls last
    (may-reply old.book c r takes.plainly) (may-reply mid.book d q ended.plainly)
    listed late course
    (λ b. tt)
    (turn-run mid.book d q ended.plainly)
    takes.book after
    (subst HaveTexts (sym after) (next-texts s valid mid.book texts (length old.order + 2) d q taken_too))
    (told.order ∙ ended.order ∙ ap (λ (xs : List Item). xs ++ u ∷ []) takes.order ∙ append_assoc old.order (t ∷ []) (u ∷ [])
    ∙ ap (λ (n : ℕ). old.order ++ (record { job = n; part = part.First }) ∷ (record { job = n; part = part.Last }) ∷ []) e)
    (told.outcomes ∙ ap (λ (os : List Outcome). os ++ outcome.Turn q ∷ []) (ended.outcomes ∙ takes.outcomes))

module _ (s : Layout) (number : ℕ) (old mid new : Course) (j : FiledJob) (valid : schema_fault s.columns s.keys ≡ None) where
  pub compact-refused-does : (r : Reply) → j.job.act ≡ act.Compact → ((v : ℕ) → r ≢ reply.Begun v) → Takes s number part.First call.Begin old mid r → Told mid new (outcome.Turn r) → Does s number j old new
  compact-refused-does r is n takes told =
      first-does s number call.Begin r old mid new j valid tt
      (λ mine. ap (λ a. part_call a (load_in s j) (first_place mine) part.First) is)
      (λ d. subst (λ a. PartMayGet a part.First r) (sym is) d)
      (λ t p q. subst (λ a. HasTurns a (t ∷ []) (outcome.Turn r)) (sym is) (p, subst (λ x. CompactGoesOn (outcome.Turn r) x []) (sym q) (compact-refused r n)))
      takes told

  pub compact-does : (r : Reply) (v : ℕ) (begun : ℕ) → j.job.act ≡ act.Compact → r ≡ reply.Begun v → begun ≡ length old.order + 1
      → Takes s number part.First call.Begin old mid r → Ends s number (call.End begun) mid new → Does s number j old new
  compact-does r v begun is opened at takes ends =
      both-do s number call.Begin (call.End begun) r old mid new j valid tt tt ends
      (λ mine. ap (λ a. part_call a (load_in s j) (first_place mine) part.First) is)
      (λ t ts e. ap (λ a. part_call a (load_in s j) t.place part.Last) is ∙ ap (λ n. Some (call.End n)) (e ∙ sym at))
      (λ d. subst (λ a. PartMayGet a part.First r) (sym is) d)
      (λ d. subst (λ a. PartMayGet a part.Last ends.reply) (sym is) d)
      (λ t u p q l f. subst (λ a. HasTurns a (t ∷ u ∷ []) (outcome.Turn ends.reply)) (sym is)
      (compact-course t u v ends.reply p (q ∙ opened) l f (own-reply mid.book (call.End begun) ends.reply (λ x. x) ends.takes.plainly)))
      takes

  pub partial-refused-does : (r : Reply) (name : List ℕ) (load : Load) → j.job.act ≡ act.Partial name → load_in s j ≡ Ok load → ((v : ℕ) → r ≢ reply.Opened v) → Takes s number part.First (call.Open Latest) old mid r → Told mid new (outcome.Turn r) → Does s number j old new
  partial-refused-does r name load is read n takes told =
      first-does s number (call.Open Latest) r old mid new j valid tt
      (λ mine. ap (λ a. part_call a (load_in s j) (first_place mine) part.First) is ∙ ap look_up_call read)
      (λ d. absurd (not-device old.book (call.Open Latest) r (λ x. x) takes.plainly d))
      (λ t p q. subst (λ a. HasTurns a (t ∷ []) (outcome.Turn r)) (sym is) (p, subst (λ x. PartialGoesOn (outcome.Turn r) x []) (sym q) (partial-refused r n)))
      takes told

  pub partial-does : (r : Reply) (v : ℕ) (name : List ℕ) (load : Load) → j.job.act ≡ act.Partial name → load_in s j ≡ Ok load → IsLawful s load → r ≡ reply.Opened v
      → Takes s number part.First (call.Open Latest) old mid r → Ends s number (call.Load load) mid new → Does s number j old new
  partial-does r v name load is read lawful opened takes ends =
      both-do s number (call.Open Latest) (call.Load load) r old mid new j valid tt lawful ends
      (λ mine. ap (λ a. part_call a (load_in s j) (first_place mine) part.First) is ∙ ap look_up_call read)
      (λ t ts e. ap (λ a. part_call a (load_in s j) t.place part.Last) is ∙ ap load_call read)
      (λ d. absurd (not-device old.book (call.Open Latest) r (λ x. x) takes.plainly d))
      (λ d. subst (λ a. PartMayGet a part.Last ends.reply) (sym is) d)
      (λ t u p q l f. subst (λ a. HasTurns a (t ∷ u ∷ []) (outcome.Turn ends.reply)) (sym is) (partial-course t u v ends.reply p (q ∙ opened) l f))
      takes

-- what follows from a fact about an answer that is Ok
pub on-ok : {X E : Type 0} (r : Result X E) (A B : Type 0) → (A → B) → OnOk r A → OnOk r B
on-ok (Ok x) A B f a = f a
on-ok (Err e) A B f a = tt
