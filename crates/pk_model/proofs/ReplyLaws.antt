-- Whose replies stand in a history, and how histories are put together.
use Rattle.std.proofs.Common.{◌≡◌, ◌⊎◌, refl, ap, sym, subst, ℕ, ◌+◌, ◌-◌, suc, max, drop, List, [], ◌∷◌, ◌++◌, length, arith, Bool as Truth, true, false, Option, Some, None, inl, inr, cond}
use Rattle.std.specs.Prelude.{nat_lt}
use Rattle.pk_values.specs.Schemas.{Layout}
use Rattle.pk_model.specs.declared.books.Book.{Book}
use Rattle.pk_model.specs.declared.books.Plan.{Plan}
use Rattle.pk_model.specs.declared.calls.Call.{Call}
use Rattle.pk_model.specs.declared.calls.Call.TheVariants as call
use Rattle.pk_model.specs.declared.calls.Load.{Load}
use Rattle.pk_model.specs.declared.calls.Want.{Want}
use Rattle.pk_model.specs.declared.calls.Want.TheVariants.{Latest, At}
use Rattle.pk_model.specs.declared.calls.Reply.{Reply}
use Rattle.pk_model.specs.declared.calls.Reply.TheVariants as reply
use Rattle.pk_model.specs.Books.{Entry, IsLegal, IsOfDevice, IsOfReading, IsOfWriting, MayGet, MayReply, answer, answer_begin, answer_end, answer_give_up, answer_open, answer_unless, change, change_begin, change_end, change_give_up, change_unless, is_full, next, open_answer, open_change, plan_at, publish, replay, version}
use Rattle.pk_model.specs.Histories.{AnswersAreOwn, ChangesCloseNothing, Closes, FaultsAloneClose, IsOfBook, LegalAppends, NoDamageAfter, NoDamageAppends, NoDamageBefore, OwnReplyIsAnswer, ReplyLeavesOneOfThree, RestIsLegal, TellNoDamage}
use Rattle.pk_model.proofs.HistoryLaws.{after-reply, moved}

-- ---- a book answers by itself

load-own : (b : Book) (t : Truth) → IsOfBook (cond t reply.ManyVersions (reply.Published (version b + 1)))
load-own b true = tt
load-own b false = tt

open-own : (b : Book) (w : Want) → IsOfBook (answer_open b w)
open-own b Latest = tt
open-own b (At v) = by (nat_lt v b.floor) (nat_lt (version b) v)
  where
    by : (x y : Truth) → IsOfBook (cond x (reply.Expired b.floor) (cond y (reply.NotYet (version b)) (reply.Opened v)))
    by true y = tt
    by false true = tt
    by false false = tt

begin-own : (b : Book) (p : Option Plan) → IsOfBook (answer_begin b p)
begin-own b None = tt
begin-own b (Some p) = tt

end-own : (b : Book) (p : Option Plan) → IsOfBook (answer_end b p)
end-own b None = tt
end-own b (Some p) = tt

give-up-own : (p : Option Plan) → IsOfBook (answer_give_up p)
give-up-own None = tt
give-up-own (Some p) = tt

expire-own : (b : Book) (v : ℕ) (t : Truth) → IsOfBook (cond t (reply.NotYet (version b)) (reply.Floor (max b.floor v)))
expire-own b v true = tt
expire-own b v false = tt

open-answers : (b : Book) (c : Call) → IsOfBook (open_answer b c)
open-answers b (call.Load l) = load-own b (is_full b)
open-answers b (call.Open w) = open-own b w
open-answers b call.Begin = begin-own b b.plan
open-answers b (call.End p) = end-own b (plan_at b.plan p)
open-answers b (call.GiveUp p) = give-up-own (plan_at b.plan p)
open-answers b (call.Expire v) = expire-own b v (nat_lt (version b) v)
open-answers b call.Stat = tt

pub answers-own : AnswersAreOwn
answers-own b c = by b.closed
  where
    by : (o : Option ℕ) → IsOfBook (answer_unless o (open_answer b c))
    by None = open-answers b c
    by (Some p) = tt

-- ---- a device's reply isn't the book's

device-apart : (r : Reply) → IsOfDevice r → IsOfBook r → ⊥
device-apart (reply.Published v) h u = h
device-apart (reply.Opened v) h u = h
device-apart (reply.Begun v) h u = h
device-apart (reply.Compacted before after rows late) h u = h
device-apart (reply.Floor f) h u = h
device-apart (reply.Stat floor version rows rowsets) h u = h
device-apart reply.GaveUp h u = h
device-apart (reply.Expired f) h u = h
device-apart (reply.NotYet v) h u = h
device-apart (reply.Busy v) h u = h
device-apart reply.ManyVersions h u = h
device-apart (reply.Closed at) h u = h
device-apart (reply.StoreFault n) h u = u
device-apart (reply.Damaged d) h u = u
device-apart reply.Memory h u = u
device-apart reply.NoPlan h u = h
device-apart (reply.Worn n) h u = u

of-reading : (r : Reply) → IsOfReading r → IsOfDevice r
of-reading (reply.Published v) h = h
of-reading (reply.Opened v) h = h
of-reading (reply.Begun v) h = h
of-reading (reply.Compacted before after rows late) h = h
of-reading (reply.Floor f) h = h
of-reading (reply.Stat floor version rows rowsets) h = h
of-reading reply.GaveUp h = h
of-reading (reply.Expired f) h = h
of-reading (reply.NotYet v) h = h
of-reading (reply.Busy v) h = h
of-reading reply.ManyVersions h = h
of-reading (reply.Closed at) h = h
of-reading (reply.StoreFault n) h = h
of-reading (reply.Damaged d) h = h
of-reading reply.Memory h = h
of-reading reply.NoPlan h = h
of-reading (reply.Worn n) h = absurd h

of-writing : (r : Reply) → IsOfWriting r → IsOfDevice r
of-writing (reply.Published v) h = h
of-writing (reply.Opened v) h = h
of-writing (reply.Begun v) h = h
of-writing (reply.Compacted before after rows late) h = h
of-writing (reply.Floor f) h = h
of-writing (reply.Stat floor version rows rowsets) h = h
of-writing reply.GaveUp h = h
of-writing (reply.Expired f) h = h
of-writing (reply.NotYet v) h = h
of-writing (reply.Busy v) h = h
of-writing reply.ManyVersions h = h
of-writing (reply.Closed at) h = h
of-writing (reply.StoreFault n) h = h
of-writing (reply.Damaged d) h = absurd h
of-writing reply.Memory h = h
of-writing reply.NoPlan h = h
of-writing (reply.Worn n) h = h

get-apart : (c : Call) (r : Reply) → MayGet c r → IsOfBook r → ⊥
get-apart (call.Load l) r h u = device-apart r h u
get-apart (call.Open w) r h u = device-apart r (of-reading r h) u
get-apart call.Begin r h u = device-apart r h u
get-apart (call.End p) r h u = device-apart r h u
get-apart (call.GiveUp p) r h u = h
get-apart (call.Expire v) r h u = device-apart r (of-writing r h) u
get-apart call.Stat r h u = h

pub own-is-answer : OwnReplyIsAnswer
own-is-answer b c r m u = elim m [
  | inl is ↦ is
  | inr device ↦ absurd (get-apart c r device.0 u)
]

-- ---- a call without a fault leaves a book as open as it was

begin-stays : (b : Book) (place : ℕ) (p : Option Plan) → (change_begin b place p).closed ≡ b.closed
begin-stays b place None = refl
begin-stays b place (Some p) = refl

end-stays : (b : Book) (p : Option Plan) → (change_end b p).closed ≡ b.closed
end-stays b None = refl
end-stays b (Some p) = refl

give-up-stays : (b : Book) (p : Option Plan) → (change_give_up b p).closed ≡ b.closed
give-up-stays b None = refl
give-up-stays b (Some p) = refl

load-stays : (s : Layout) (b : Book) (l : Load) (t : Truth) → (cond t b (publish s b l)).closed ≡ b.closed
load-stays s b l true = refl
load-stays s b l false = refl

expire-stays : (b : Book) (v : ℕ) (t : Truth) → (cond t b (record b { floor = max b.floor v; older = drop (v - b.floor) b.older })).closed ≡ b.closed
expire-stays b v true = refl
expire-stays b v false = refl

open-change-stays : (s : Layout) (b : Book) (place : ℕ) (c : Call) → (open_change s b place c).closed ≡ b.closed
open-change-stays s b place (call.Load l) = load-stays s b l (is_full b)
open-change-stays s b place (call.Open w) = refl
open-change-stays s b place call.Begin = begin-stays b place b.plan
open-change-stays s b place (call.End p) = end-stays b (plan_at b.plan p)
open-change-stays s b place (call.GiveUp p) = give-up-stays b (plan_at b.plan p)
open-change-stays s b place (call.Expire v) = expire-stays b v (nat_lt (version b) v)
open-change-stays s b place call.Stat = refl

pub changes-close-nothing : ChangesCloseNothing
changes-close-nothing s b place c = by b.closed
  where
    by : (o : Option ℕ) → (change_unless o b (open_change s b place c)).closed ≡ b.closed
    by None = open-change-stays s b place c
    by (Some p) = refl

pub faults-alone-close : FaultsAloneClose
faults-alone-close s b place c (reply.Published v) = ((λ h. absurd h), λ n. changes-close-nothing s b place c)
faults-alone-close s b place c (reply.Opened v) = ((λ h. absurd h), λ n. changes-close-nothing s b place c)
faults-alone-close s b place c (reply.Begun v) = ((λ h. absurd h), λ n. changes-close-nothing s b place c)
faults-alone-close s b place c (reply.Compacted before after rows late) = ((λ h. absurd h), λ n. changes-close-nothing s b place c)
faults-alone-close s b place c (reply.Floor f) = ((λ h. absurd h), λ n. changes-close-nothing s b place c)
faults-alone-close s b place c (reply.Stat floor version rows rowsets) = ((λ h. absurd h), λ n. changes-close-nothing s b place c)
faults-alone-close s b place c reply.GaveUp = ((λ h. absurd h), λ n. changes-close-nothing s b place c)
faults-alone-close s b place c (reply.Expired f) = ((λ h. absurd h), λ n. changes-close-nothing s b place c)
faults-alone-close s b place c (reply.NotYet v) = ((λ h. absurd h), λ n. changes-close-nothing s b place c)
faults-alone-close s b place c (reply.Busy v) = ((λ h. absurd h), λ n. changes-close-nothing s b place c)
faults-alone-close s b place c reply.ManyVersions = ((λ h. absurd h), λ n. changes-close-nothing s b place c)
faults-alone-close s b place c (reply.Closed at) = ((λ h. absurd h), λ n. changes-close-nothing s b place c)
faults-alone-close s b place c (reply.StoreFault n) = ((λ h. refl), λ n. absurd (n tt))
faults-alone-close s b place c (reply.Damaged d) = ((λ h. refl), λ n. absurd (n tt))
faults-alone-close s b place c reply.Memory = ((λ h. absurd h), λ n. refl)
faults-alone-close s b place c reply.NoPlan = ((λ h. absurd h), λ n. changes-close-nothing s b place c)
faults-alone-close s b place c (reply.Worn n) = ((λ h. absurd h), λ n. refl)

pub one-of-three : ReplyLeavesOneOfThree
one-of-three s b place c r =
    after-reply (λ n. (n ≡ b) ⊎ (n ≡ record b { closed = Some place }) ⊎ (n ≡ change s b place c)) s b place c r
    (inl refl) (inr (inl refl)) (inr (inr refl))

-- ---- histories one after the other

pub legal-append : LegalAppends
legal-append s b place [] fs h k = let e : place + 0 ≡ place = omega arith in subst (λ p. IsLegal s b p fs) e k
legal-append s b place (e ∷ es) fs h k =
    let later = next s b place e.0 e.1 in
    (h.0, legal-append s later (place + 1) es fs h.1 (subst (λ p. IsLegal s (replay s later (place + 1) es) p fs) (sym (moved place (length es))) k))

pub legal-rest : RestIsLegal
legal-rest s b place [] fs h = let e : place ≡ place + 0 = omega arith in subst (λ p. IsLegal s b p fs) e h
legal-rest s b place (e ∷ es) fs h =
    let later = next s b place e.0 e.1 in
    subst (λ p. IsLegal s (replay s later (place + 1) es) p fs) (moved place (length es)) (legal-rest s later (place + 1) es fs h.1)

pub undamaged-append : NoDamageAppends
undamaged-append [] fs h k = k
undamaged-append (e ∷ es) fs h k = (h.0, undamaged-append es fs h.1 k)

pub undamaged-before : NoDamageBefore
undamaged-before [] fs h = tt
undamaged-before (e ∷ es) fs h = (h.0, undamaged-before es fs h.1)

pub undamaged-rest : NoDamageAfter
undamaged-rest [] fs h = h
undamaged-rest (e ∷ es) fs h = undamaged-rest es fs h.1
