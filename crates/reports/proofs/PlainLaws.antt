-- One job more, behind those that were done.
use Rattle.std.proofs.Common.{◌≡◌, refl, ap, sym, subst, ◌∙◌, inl, inr, ℕ, zero, suc, ◌+◌, ◌<◌, ◌≤◌, arith, List, [], ◌∷◌, ◌++◌, length, Some, None, IsSomeAnd, length-append}
use Rattle.std.specs.Prelude.{map}
use Rattle.std.specs.List.{AllByRecursion, slice_get}
use Rattle.std.proofs.lemmas.List.{append-nil, append_assoc, map-append, length-map, take_all}
use Rattle.pk_model.specs.declared.books.Book.{Book}
use Rattle.pk_model.specs.declared.calls.Call.{Call}
use Rattle.pk_model.specs.declared.calls.Reply.{Reply}
use Rattle.pk_model.specs.Books.{Entry, IsLegal, IsOfDevice, MayReply, next, replay}
use Rattle.pk_model.proofs.HistoryLaws.{replay-append}
use Rattle.pk_values.specs.Schemas.{Layout}
use Rattle.script_text.specs.declared.outcomes.ItemPart.{ItemPart}
use Rattle.script_text.specs.declared.outcomes.ItemPart.TheVariants as part
use Rattle.script_text.specs.declared.outcomes.Outcome.{Outcome}
use Rattle.reports.specs.declared.jobs.FiledJob.{FiledJob}
use Rattle.reports.specs.declared.plain.Course.{Course}
use Rattle.reports.specs.declared.turns.Turn.{Turn}
use Rattle.reports.specs.Jobs.{PartMayGet, call_of}
use Rattle.reports.specs.Courses.{IsCourse}
use Rattle.reports.specs.Orders.{Each}
use Rattle.reports.specs.Reports.{HasItsRows, IsTurnOf, book_at, item_of}
use Rattle.reports.specs.Notes.{AreNotes, In, IsNoteOf, IsSeen, Note, Rise, outcomes_in, turns_in}
use Rattle.reports.specs.Plain.{HasCome, InJobOrder, WasRun}
use Rattle.reports.specs.Texts.{HaveTexts}
use Rattle.reports.proofs.NoteLaws.{all-from, all-in, entry-longer, from-notes, note-at, notes-stay}

-- ---- lists one behind the other

pub rise-append : (k m : ℕ) (ts us : List Turn) → k ≤ m → Rise k ts → ((t : Turn) → In ts t → t.place ≤ m) → Rise m us → Rise k (ts ++ us)
rise-append k m [] [] le r b q = tt
rise-append k m [] (u ∷ us) le r b q = (let first = q.0 in omega (arith, first), q.1)
rise-append k m (t ∷ ts) us le r b q = (r.0, rise-append t.place m ts us (b t (inl refl)) r.1 (λ u i. b u (inr i)) q)

all-append : (P : Turn → Type 0) (ts us : List Turn) → AllByRecursion P ts → AllByRecursion P us → AllByRecursion P (ts ++ us)
all-append P [] us h k = k
all-append P (t ∷ ts) us h k = (h.0, all-append P ts us h.1 k)

pub each-append : (R : Turn → Turn → Type 0) (ts us : List Turn) → Each R ts → Each R us → ((t u : Turn) → In ts t → In us u → R t u) → Each R (ts ++ us)
each-append R [] us h k f = k
each-append R (t ∷ ts) us h k f =
    (all-append (R t) ts us h.0 (all-from (R t) us (λ u i. f t u (inl refl) i)), each-append R ts us h.1 k (λ x u i j. f x u (inr i) j))

pub turns-append : (notes : List Note) (x : Note) → turns_in (notes ++ x ∷ []) ≡ turns_in notes ++ x.turns
turns-append [] x = append-nil x.turns
turns-append (y ∷ notes) x = ap (λ ts. y.turns ++ ts) (turns-append notes x) ∙ sym (append_assoc y.turns (turns_in notes) x.turns)

pub outcomes-append : (P : Outcome → Type 0) (os : List Outcome) (o : Outcome) → AllByRecursion P os → P o → AllByRecursion P (os ++ o ∷ [])
outcomes-append P [] o h k = (k, tt)
outcomes-append P (p ∷ os) o h k = (h.0, outcomes-append P os o h.1 k)

notes-append : (s : Layout) (book : Book) (seen more : List Entry) (n : ℕ) (jobs : List FiledJob) (notes : List Note) (j : FiledJob) (x : Note) → AreNotes s book seen n jobs notes
    → x.job ≡ n + length jobs → IsNoteOf s book (seen ++ more) j x → AreNotes s book (seen ++ more) n (jobs ++ j ∷ []) (notes ++ x ∷ [])
notes-append s book seen more n [] [] j x h e k = (omega (arith, e), k, tt)
notes-append s book seen more n [] (y ∷ notes) j x h e k = absurd h
notes-append s book seen more n (i ∷ jobs) [] j x h e k = absurd h
notes-append s book seen more n (i ∷ jobs) (y ∷ notes) j x h e k =
    (h.0, notes-stay s book seen more i y h.1, notes-append s book seen more (n + 1) jobs notes j x h.2 (omega (arith, e)) k)

pub legal-append : (s : Layout) (b : Book) (place : ℕ) (es fs : List Entry) → IsLegal s b place es → IsLegal s (replay s b place es) (place + length es) fs → IsLegal s b place (es ++ fs)
legal-append s b place [] fs h k = let e : place + 0 ≡ place = omega arith in subst (λ p. IsLegal s b p fs) e k
legal-append s b place (e ∷ es) fs h k =
    let moved : place + suc (length es) ≡ place + 1 + length es = omega arith in
    (h.0, legal-append s (next s b place e.0 e.1) (place + 1) es fs h.1 (subst (λ p. IsLegal s (replay s (next s b place e.0 e.1) (place + 1) es) p fs) moved k))

pub get-here : (es : List Entry) (e : Entry) (fs : List Entry) → slice_get (es ++ e ∷ fs) (length es) ≡ Some e
get-here [] e fs = refl
get-here (x ∷ es) e fs = get-here es e fs

get-next : (es : List Entry) (e f : Entry) → slice_get (es ++ e ∷ f ∷ []) (suc (length es)) ≡ Some f
get-next [] e f = refl
get-next (x ∷ es) e f = get-next es e f

-- ---- a note more

module _ (s : Layout) (book : Book) (jobs : List FiledJob) (old : Course) (h : HasCome s book jobs old) where
  pub seen-is : length old.order ≡ length h.seen
  seen-is = ap length h.order_is ∙ length-map (turns_in h.notes) item_of ∙ h.count

  -- a turn so far is of a job so far, at a place so far
  within : (t : Turn) → In (turns_in h.notes) t → (t.place ≤ length h.seen) × (t.job ≤ length jobs)
  within t i =
      let noted = from-notes h.notes t i in
      let x = noted.1 in
      let mine = note-at s h.seen (IsNoteOf s book h.seen) (λ j x k. k.made) 1 jobs h.notes h.are noted.0 x noted.2 in
      let own : t.job ≡ x.job = all-in (λ t. t.job ≡ x.job) x.turns mine.3.made.own t noted.3 in
      let number = mine.2 in
      let less = got jobs noted.0 mine.0 mine.1 in
      ((entry-longer (IsTurnOf s mine.0 x.turns t) h.seen [] t.place (all-in (IsSeen s h.seen mine.0 x.turns) x.turns mine.3.made.stood t noted.3)).1, omega (arith, own, number, less))
    where
      got : (js : List FiledJob) (n : ℕ) (j : FiledJob) → slice_get js n ≡ Some j → n < length js
      got [] n j e = absurd (none-some e)
        where
          none-some : None ≡ Some j → ⊥
          none-some e = cc
      got (k ∷ js) zero j e = omega arith
      got (k ∷ js) (suc n) j e = let less = got js n j e in omega (arith, less)

  pub add-note : (j : FiledJob) (x : Note) (fs : List Entry) (new : Course)
      → x.job ≡ length jobs + 1
      → IsNoteOf s book (h.seen ++ fs) j x
      → IsLegal s old.book (1 + length h.seen) fs
      → replay s old.book (1 + length h.seen) fs ≡ new.book
      → Rise (length h.seen) x.turns
      → Each InJobOrder x.turns
      → length x.turns ≡ length fs → length fs ≤ 2
      → WasRun x.outcome
      → HaveTexts new.book
      → new.order ≡ old.order ++ map item_of x.turns
      → new.outcomes ≡ old.outcomes ++ x.outcome ∷ []
      → HasCome s book (jobs ++ j ∷ []) new
  add-note j x fs new number is legal left rise each count few run texts order outcomes =
      let turns = turns-append h.notes x in
      let outs : outcomes_in (h.notes ++ x ∷ []) ≡ outcomes_in h.notes ++ x.outcome ∷ [] = map-append (λ (y : Note). y.outcome) h.notes (x ∷ []) in
      let jobs_count = length-append jobs (j ∷ []) in
      let seen_count = length-append h.seen fs in
      let turns_count = length-append (turns_in h.notes) x.turns in
      let old_count = h.count in
      let old_few = h.few in
      record {
        notes = h.notes ++ x ∷ [];
        seen = h.seen ++ fs;
        are = notes-append s book h.seen fs 1 jobs h.notes j x h.are (omega (arith, number)) is;
        legal = legal-append s book 1 h.seen fs h.legal (subst (λ b. IsLegal s b (1 + length h.seen) fs) (sym h.left) legal);
        left = replay-append s book 1 h.seen fs ∙ ap (λ b. replay s b (1 + length h.seen) fs) h.left ∙ left;
        rise = subst (Rise 0) (sym turns) (rise-append 0 (length h.seen) (turns_in h.notes) x.turns (omega arith) h.rise (λ t i. (within t i).0) rise);
        count = ap length turns ∙ omega (arith, turns_count, seen_count, count, old_count);
        in_order = subst (Each InJobOrder) (sym turns) (each-append InJobOrder (turns_in h.notes) x.turns h.in_order each
            (λ t u i k. let low = (within t i).1 in let own : u.job ≡ x.job = all-in (λ t. t.job ≡ x.job) x.turns is.made.own u k in omega (arith, low, own, number)));
        order_is = order ∙ ap (λ o. o ++ map item_of x.turns) h.order_is ∙ sym (ap (map item_of) turns ∙ map-append item_of (turns_in h.notes) x.turns);
        outcomes_are = outcomes ∙ ap (λ o. o ++ x.outcome ∷ []) h.outcomes_are ∙ sym outs;
        run = subst (AllByRecursion WasRun) (sym outs) (outcomes-append WasRun (outcomes_in h.notes) x.outcome h.run run);
        few = omega (arith, old_few, seen_count, few, jobs_count);
        texts = texts;
      }

  -- the books after one turn more, and after two
  module _ (new : Course) (e : Entry) where
    book-one : replay s old.book (1 + length h.seen) (e ∷ []) ≡ new.book → book_at s book (h.seen ++ e ∷ []) (suc (length h.seen)) ≡ new.book
    book-one left =
        let count = length-append h.seen (e ∷ []) in
        ap (replay s book 1) (take_all (suc (length h.seen)) (h.seen ++ e ∷ []) (omega (arith, count)))
        ∙ replay-append s book 1 h.seen (e ∷ []) ∙ ap (λ b. replay s b (1 + length h.seen) (e ∷ [])) h.left ∙ left

  -- a job without a turn
  pub add-none : (j : FiledJob) (o : Outcome) (new : Course)
      → IsCourse s j [] o → WasRun o
      → new.book ≡ old.book → new.order ≡ old.order → new.outcomes ≡ old.outcomes ++ o ∷ []
      → HasCome s book (jobs ++ j ∷ []) new
  add-none j o new course run same order outcomes =
      let noted : Note = record { job = length jobs + 1; turns = []; outcome = o } in
      add-note j noted [] new refl (record { made = record { own = tt; rise = tt; stood = tt; listed = tt; course = course }; rows = tt }) tt (sym same) tt tt refl (omega arith) run
      (subst HaveTexts (sym same) h.texts) (order ∙ sym (append-nil old.order)) outcomes

  -- a job of one turn, or one that ended with its first
  pub add-one-turn : (j : FiledJob) (p : ItemPart) (c : Call) (r : Reply) (o : Outcome) (new : Course)
      → ((mine : List Turn) → call_of s j mine p ≡ Some c)
      → MayReply old.book c r
      → (IsOfDevice r → PartMayGet j.job.act p r)
      → ((t : Turn) → t.part ≡ p → t.reply ≡ r → IsCourse s j (t ∷ []) o) → HasItsRows new.book o → WasRun o
      → new.book ≡ next s old.book (length old.order + 1) c r
      → HaveTexts new.book
      → new.order ≡ old.order ++ (record { job = length jobs + 1; part = p }) ∷ [] → new.outcomes ≡ old.outcomes ++ o ∷ []
      → HasCome s book (jobs ++ j ∷ []) new
  add-one-turn j p c r o new calls may listed course rows run after texts order outcomes =
      let t : Turn = record { job = length jobs + 1; part = p; place = suc (length h.seen); reply = r } in
      let noted : Note = record { job = length jobs + 1; turns = t ∷ []; outcome = o } in
      let e : Entry = (c, r) in
      let here : length old.order + 1 ≡ 1 + length h.seen = let same = seen-is in omega (arith, same) in
      let left : replay s old.book (1 + length h.seen) (e ∷ []) ≡ new.book = ap (λ n. next s old.book n c r) (sym here) ∙ sym after in
      let stood : IsSeen s (h.seen ++ e ∷ []) j (t ∷ []) t =
      subst (λ x. IsSomeAnd x (IsTurnOf s j (t ∷ []) t)) (sym (get-here h.seen e [])) (record { calls = calls (t ∷ []); replies = refl }) in
      add-note j noted (e ∷ []) new refl
      (record { made = record { own = (refl, tt); rise = (omega arith, tt); stood = (stood, tt); listed = (listed, tt); course = course t refl refl }; rows = (subst (λ b. HasItsRows b o) (sym (book-one new e left)) rows, tt) })
      (may, tt) left (omega arith, tt) (tt, tt) refl (omega arith) run texts order outcomes

  -- a job of a first and a last turn
  pub add-two-turns : (j : FiledJob) (c d : Call) (r q : Reply) (o : Outcome) (mid new : Course)
      → ((mine : List Turn) → call_of s j mine part.First ≡ Some c)
      → ((t : Turn) (ts : List Turn) → t.place ≡ length old.order + 1 → call_of s j (t ∷ ts) part.Last ≡ Some d)
      → MayReply old.book c r → MayReply mid.book d q
      → (IsOfDevice r → PartMayGet j.job.act part.First r) → (IsOfDevice q → PartMayGet j.job.act part.Last q)
      → ((t u : Turn) → t.part ≡ part.First → t.reply ≡ r → u.part ≡ part.Last → u.reply ≡ q → IsCourse s j (t ∷ u ∷ []) o) → ((b : Book) → HasItsRows b o) → WasRun o
      → mid.book ≡ next s old.book (length old.order + 1) c r
      → new.book ≡ next s mid.book (length old.order + 2) d q
      → HaveTexts new.book
      → new.order ≡ old.order ++ (record { job = length jobs + 1; part = part.First }) ∷ (record { job = length jobs + 1; part = part.Last }) ∷ [] → new.outcomes ≡ old.outcomes ++ o ∷ []
      → HasCome s book (jobs ++ j ∷ []) new
  add-two-turns j c d r q o mid new calls last may goes listed late course rows run after again texts order outcomes =
      let t : Turn = record { job = length jobs + 1; part = part.First; place = suc (length h.seen); reply = r } in
      let u : Turn = record { job = length jobs + 1; part = part.Last; place = suc (suc (length h.seen)); reply = q } in
      let mine : List Turn = t ∷ u ∷ [] in
      let noted : Note = record { job = length jobs + 1; turns = mine; outcome = o } in
      let e : Entry = (c, r) in
      let f : Entry = (d, q) in
      let books = book_at s book (h.seen ++ e ∷ f ∷ []) in
      let same = seen-is in
      let here : length old.order + 1 ≡ 1 + length h.seen = omega (arith, same) in
      let there : length old.order + 2 ≡ 1 + length h.seen + 1 = omega (arith, same) in
      let first : next s old.book (1 + length h.seen) c r ≡ mid.book = ap (λ n. next s old.book n c r) (sym here) ∙ sym after in
      let left : replay s old.book (1 + length h.seen) (e ∷ f ∷ []) ≡ new.book = ap (λ b. next s b (1 + length h.seen + 1) d q) first ∙ ap (λ n. next s mid.book n d q) (sym there) ∙ sym again in
      let stood : IsSeen s (h.seen ++ e ∷ f ∷ []) j mine t =
      subst (λ x. IsSomeAnd x (IsTurnOf s j mine t)) (sym (get-here h.seen e (f ∷ []))) (record { calls = calls mine; replies = refl }) in
      let stood_too : IsSeen s (h.seen ++ e ∷ f ∷ []) j mine u =
      subst (λ x. IsSomeAnd x (IsTurnOf s j mine u)) (sym (get-next h.seen e f)) (record { calls = last t (u ∷ []) (omega (arith, same)); replies = refl }) in
      add-note j noted (e ∷ f ∷ []) new refl
      (record { made = record { own = (refl, (refl, tt)); rise = (omega arith, (omega arith, tt)); stood = (stood, (stood_too, tt)); listed = (listed, (late, tt)); course = course t u refl refl refl refl }; rows = (rows (books t.place), (rows (books u.place), tt)) })
      (may, (subst (λ b. MayReply b d q) (sym first) goes, tt)) left (omega arith, (omega arith, tt)) ((omega arith, tt), (tt, tt)) refl (omega arith) run texts order outcomes
