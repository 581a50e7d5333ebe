-- One job more, behind those that were done over a tablet.
use Rattle.std.proofs.Common.{◌≡◌, refl, ap, sym, subst, ◌∙◌, inl, inr, ℕ, zero, suc, ◌+◌, ◌<◌, ◌≤◌, arith, List, [], ◌∷◌, ◌++◌, length, Option, Some, None, IsSomeAnd, length-append}
use Rattle.std.specs.Prelude.{map}
use Rattle.std.specs.List.{AllByRecursion, slice_get}
use Rattle.std.proofs.lemmas.List.{append-nil, append_assoc, map-append, length-map, take_all}
use Rattle.pk_model.specs.declared.books.Book.{Book}
use Rattle.pk_model.specs.declared.calls.Call.{Call}
use Rattle.pk_model.specs.declared.calls.Reply.{Reply}
use Rattle.pk_model.specs.Books.{Entry, IsLegal, IsOfDevice, MayReply, next, replay}
use Rattle.pk_model.proofs.HistoryLaws.{replay-append}
use Rattle.pk_values.specs.Schemas.{Layout}
use Rattle.script_text.specs.declared.outcomes.Item.{Item}
use Rattle.script_text.specs.declared.outcomes.ItemPart.{ItemPart}
use Rattle.script_text.specs.declared.outcomes.Outcome.{Outcome}
use Rattle.reports.specs.declared.jobs.FiledJob.{FiledJob}
use Rattle.reports.specs.declared.turns.Turn.{Turn}
use Rattle.reports.specs.Bearing.{TellsIntact}
use Rattle.reports.specs.Jobs.{PartMayGet, call_of}
use Rattle.reports.specs.Courses.{IsCourse}
use Rattle.reports.specs.Orders.{AreNotRunFrom, Each}
use Rattle.reports.specs.Reports.{GoesBy, HasItsRows, HasRun, IsTurnOf, TellsTheRows, book_at, item_of}
use Rattle.reports.specs.Notes.{AreMade, AreNotes, AreSorted, CameInOrder, EachNote, In, IsMade, IsNoteOf, IsSeen, Note, Rise, outcomes_in, turns_in}
use Rattle.reports.specs.Progress.{GoesOver, HasCome, HasGone, InJobOrder, IsRun, Over, Turns}
use Rattle.reports.specs.Shutting.{ShutsBy, TellsShut, shut_after}
use Rattle.reports.proofs.NoteLaws.{all-from, all-in, entry-longer, from-notes, made-stay, note-at, notes-go, rows-stay}
use Rattle.reports.proofs.PlainLaws.{each-append, get-here, legal-append, outcomes-append, rise-append, turns-append}

notes-append : (s : Layout) (seen more : List Entry) (n : ℕ) (jobs : List FiledJob) (notes : List Note) (j : FiledJob) (x : Note) → AreMade s seen n jobs notes
    → x.job ≡ n + length jobs → IsMade s (seen ++ more) j x → AreMade s (seen ++ more) n (jobs ++ j ∷ []) (notes ++ x ∷ [])
notes-append s seen more n [] [] j x h e k = (omega (arith, e), k, tt)
notes-append s seen more n [] (y ∷ notes) j x h e k = absurd h
notes-append s seen more n (i ∷ jobs) [] j x h e k = absurd h
notes-append s seen more n (i ∷ jobs) (y ∷ notes) j x h e k =
    (h.0, made-stay s seen more i y h.1, notes-append s seen more (n + 1) jobs notes j x h.2 (omega (arith, e)) k)

rows-append : (s : Layout) (book : Book) (seen more : List Entry) (n : ℕ) (jobs : List FiledJob) (notes : List Note) (x : Note) → AreMade s seen n jobs notes
    → AllByRecursion (λ (x : Note). TellsTheRows (book_at s book seen) x.turns x.outcome) notes → TellsTheRows (book_at s book (seen ++ more)) x.turns x.outcome
    → AllByRecursion (λ (x : Note). TellsTheRows (book_at s book (seen ++ more)) x.turns x.outcome) (notes ++ x ∷ [])
rows-append s book seen more n [] [] x h r k = (k, tt)
rows-append s book seen more n [] (y ∷ notes) x h r k = absurd h
rows-append s book seen more n (i ∷ jobs) [] x h r k = absurd h
rows-append s book seen more n (i ∷ jobs) (y ∷ notes) x h r k = (rows-stay s book seen more i y h.1 r.0, rows-append s book seen more (n + 1) jobs notes x h.2 r.1 k)

shuts-append : (at : Option ℕ) (place : ℕ) (es : List Entry) (mid : Option ℕ) (e : Entry) → ShutsBy at place es mid → TellsShut mid e.1
    → ShutsBy at place (es ++ e ∷ []) (shut_after mid (place + length es) e.1)
shuts-append at place [] mid e h t =
    let here : place + 0 ≡ place = omega arith in
    (subst (λ o. TellsShut o e.1) h t, ap (λ n. shut_after mid n e.1) here ∙ ap (λ o. shut_after o place e.1) h)
shuts-append at place (d ∷ es) mid e h t =
    let moved : place + 1 + length es ≡ place + suc (length es) = omega arith in
    (h.0, subst (λ n. ShutsBy (shut_after at place d.1) (place + 1) (es ++ e ∷ []) (shut_after mid n e.1)) moved (shuts-append (shut_after at place d.1) (place + 1) es mid e h.1 t))

module _ (s : Layout) (Opens : Book → Type 0) (Old : Over) (closed : Option ℕ) (jobs : List FiledJob) (order : List Item) (outcomes : List Outcome)
    (h : HasCome s Opens Old closed jobs order outcomes) where
  -- as many turns were taken as entries were seen
  pub seen-is : length order ≡ length h.seen
  seen-is = ap length h.gone.order_is ∙ length-map (turns_in h.notes) item_of ∙ h.gone.count

  -- a turn so far is of a job so far, at a place so far
  within : (t : Turn) → In (turns_in h.notes) t → (t.place ≤ length h.seen) × (t.job ≤ length jobs)
  within t i =
      let noted = from-notes h.notes t i in
      let x = noted.1 in
      let mine = note-at s h.seen (IsMade s h.seen) (λ j x k. k) 1 jobs h.notes h.gone.are noted.0 x noted.2 in
      let own : t.job ≡ x.job = all-in (λ t. t.job ≡ x.job) x.turns mine.3.own t noted.3 in
      let number = mine.2 in
      let less = got jobs noted.0 mine.0 mine.1 in
      ((entry-longer (IsTurnOf s mine.0 x.turns t) h.seen [] t.place (all-in (IsSeen s h.seen mine.0 x.turns) x.turns mine.3.stood t noted.3)).1, omega (arith, own, number, less))
    where
      got : (js : List FiledJob) (n : ℕ) (j : FiledJob) → slice_get js n ≡ Some j → n < length js
      got [] n j e = absurd (none-some e)
        where
          none-some : None ≡ Some j → ⊥
          none-some e = cc
      got (k ∷ js) zero j e = omega arith
      got (k ∷ js) (suc n) j e = let less = got js n j e in omega (arith, less)

  pub add-note : (New : Over) (now : Option ℕ) (j : FiledJob) (x : Note) (fs : List Entry) (order_now : List Item) (outcomes_now : List Outcome)
      → x.job ≡ length jobs + 1
      → IsMade s (h.seen ++ fs) j x
      → ShutsBy None 1 (h.seen ++ fs) now
      → ((b : Book) → Old b h.seen → IsLegal s (replay s b 1 h.seen) (1 + length h.seen) fs × TellsTheRows (book_at s b (h.seen ++ fs)) x.turns x.outcome × TellsIntact x.outcome × New b (h.seen ++ fs))
      → Rise (length h.seen) x.turns → Each InJobOrder x.turns
      → length x.turns ≡ length fs → IsRun x.outcome
      → order_now ≡ order ++ map item_of x.turns → outcomes_now ≡ outcomes ++ x.outcome ∷ []
      → HasCome s Opens New now (jobs ++ j ∷ []) order_now outcomes_now
  add-note New now j x fs order_now outcomes_now number is shuts over rise each count run order_is outcomes_are =
      let turns = turns-append h.notes x in
      let outs : outcomes_in (h.notes ++ x ∷ []) ≡ outcomes_in h.notes ++ x.outcome ∷ [] = map-append (λ (y : Note). y.outcome) h.notes (x ∷ []) in
      let jobs_count = length-append jobs (j ∷ []) in
      let seen_count = length-append h.seen fs in
      let turns_count = length-append (turns_in h.notes) x.turns in
      let old_count = h.gone.count in
      record {
        notes = h.notes ++ x ∷ [];
        seen = h.seen ++ fs;
        gone = record {
          are = notes-append s h.seen fs 1 jobs h.notes j x h.gone.are (omega (arith, number)) is;
          rise = subst (Rise 0) (sym turns) (rise-append 0 (length h.seen) (turns_in h.notes) x.turns (omega arith) h.gone.rise (λ t i. (within t i).0) rise);
          count = ap length turns ∙ omega (arith, turns_count, seen_count, count, old_count);
          in_order = subst (Each InJobOrder) (sym turns) (each-append InJobOrder (turns_in h.notes) x.turns h.gone.in_order each
              (λ t u i k. let low = (within t i).1 in let own : u.job ≡ x.job = all-in (λ t. t.job ≡ x.job) x.turns is.own u k in omega (arith, low, own, number)));
          order_is = order_is ∙ ap (λ o. o ++ map item_of x.turns) h.gone.order_is ∙ sym (ap (map item_of) turns ∙ map-append item_of (turns_in h.notes) x.turns);
          outcomes_are = outcomes_are ∙ ap (λ o. o ++ x.outcome ∷ []) h.gone.outcomes_are ∙ sym outs;
          run = subst (AllByRecursion IsRun) (sym outs) (outcomes-append IsRun (outcomes_in h.notes) x.outcome h.gone.run run);
        };
        shuts = shuts;
        over = λ b opens. let old = h.over b opens in let step = over b old.1 in (
          record {
            legal = legal-append s b 1 h.seen fs old.0.legal step.0;
            rows = rows-append s b h.seen fs 1 jobs h.notes x h.gone.are old.0.rows step.1;
            intact = subst (AllByRecursion TellsIntact) (sym outs) (outcomes-append TellsIntact (outcomes_in h.notes) x.outcome old.0.intact step.2);
          },
          step.3,
        );
      }

  -- a job without a turn
  pub add-none : (New : Over) (j : FiledJob) (o : Outcome) (order_now : List Item) (outcomes_now : List Outcome)
      → IsCourse s j [] o → IsRun o
      → ((b : Book) (seen : List Entry) → Old b seen → New b seen × TellsIntact o)
      → order_now ≡ order → outcomes_now ≡ outcomes ++ o ∷ []
      → HasCome s Opens New closed (jobs ++ j ∷ []) order_now outcomes_now
  add-none New j o order_now outcomes_now course run stays order_is outcomes_are =
      let noted : Note = record { job = length jobs + 1; turns = []; outcome = o } in
      let same = append-nil h.seen in
      add-note New closed j noted [] order_now outcomes_now refl (record { own = tt; rise = tt; stood = tt; listed = tt; course = course })
      (subst (λ es. ShutsBy None 1 es closed) (sym same) h.shuts)
      (λ b old. let next = stays b h.seen old in (tt, tt, next.1, subst (New b) (sym same) next.0))
      tt tt refl run (order_is ∙ sym (append-nil order)) outcomes_are

  -- a job of one turn, or one that ended with its first
  pub add-one-turn : (New : Over) (now : Option ℕ) (j : FiledJob) (p : ItemPart) (c : Call) (r : Reply) (o : Outcome) (order_now : List Item) (outcomes_now : List Outcome)
      → ((mine : List Turn) → call_of s j mine p ≡ Some c)
      → (IsOfDevice r → PartMayGet j.job.act p r)
      → ((t : Turn) → t.part ≡ p → t.reply ≡ r → IsCourse s j (t ∷ []) o) → IsRun o
      → TellsShut closed r → now ≡ shut_after closed (length order + 1) r
      → ((b : Book) (seen : List Entry) → length seen ≡ length order → Old b seen → Turns s New b seen c r o)
      → order_now ≡ order ++ (record { job = length jobs + 1; part = p }) ∷ [] → outcomes_now ≡ outcomes ++ o ∷ []
      → HasCome s Opens New now (jobs ++ j ∷ []) order_now outcomes_now
  add-one-turn New now j p c r o order_now outcomes_now calls listed course run tells shut over order_is outcomes_are =
      let t : Turn = record { job = length jobs + 1; part = p; place = suc (length h.seen); reply = r } in
      let noted : Note = record { job = length jobs + 1; turns = t ∷ []; outcome = o } in
      let e : Entry = (c, r) in
      let same = seen-is in
      let here : 1 + length h.seen ≡ length order + 1 = omega (arith, same) in
      let next_place : suc (length h.seen) ≡ length h.seen + 1 = omega arith in
      let stood : IsSeen s (h.seen ++ e ∷ []) j (t ∷ []) t =
      subst (λ x. IsSomeAnd x (IsTurnOf s j (t ∷ []) t)) (sym (get-here h.seen e [])) (record { calls = calls (t ∷ []); replies = refl }) in
      add-note New now j noted (e ∷ []) order_now outcomes_now refl
      (record { own = (refl, tt); rise = (omega arith, tt); stood = (stood, tt); listed = (listed, tt); course = course t refl refl })
      (subst (ShutsBy None 1 (h.seen ++ e ∷ [])) (ap (λ n. shut_after closed n r) here ∙ sym shut) (shuts-append None 1 h.seen closed e h.shuts tells))
      (λ b old. let turn = over b h.seen (sym same) old in (
        (turn.may, tt),
        (subst (λ d. HasItsRows d o) (sym (left b)) (subst (λ n. HasItsRows (next s (replay s b 1 h.seen) n c r) o) (sym next_place) turn.rows), tt),
        turn.intact,
        turn.now,
      ))
      (omega arith, tt) (tt, tt) refl run order_is outcomes_are
    where
      left : (b : Book) → book_at s b (h.seen ++ (c, r) ∷ []) (suc (length h.seen)) ≡ next s (replay s b 1 h.seen) (suc (length h.seen)) c r
      left b =
          let count = length-append h.seen ((c, r) ∷ []) in
          ap (replay s b 1) (take_all (suc (length h.seen)) (h.seen ++ (c, r) ∷ []) (omega (arith, count))) ∙ replay-append s b 1 h.seen ((c, r) ∷ [])
          ∙ ap (λ n. next s (replay s b 1 h.seen) n c r) plus
        where
          plus : 1 + length h.seen ≡ suc (length h.seen)
          plus = omega arith

-- no job was done
pub come-none : (s : Layout) (Opens : Book → Type 0) (Now : Over) → ((b : Book) → Opens b → Now b []) → HasCome s Opens Now None [] [] []
come-none s Opens Now begins = record {
  notes = [];
  seen = [];
  gone = record { are = tt; rise = tt; count = refl; in_order = tt; order_is = refl; outcomes_are = refl; run = tt };
  shuts = refl;
  over = λ b opens. (record { legal = tt; rows = tt; intact = tt }, begins b opens);
}
