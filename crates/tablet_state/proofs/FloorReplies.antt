-- What an expiry answers that raises no floor.
use Rattle.std.proofs.Common.{◌≡◌, inl, inr, refl, ap, sym, subst, ◌∙◌, ℕ, ◌-◌, ◌<◌, ◌≤◌, ◌^◌, max, List, [], ◌∷◌, drop, nat_le, Some, None, Bool, true, false, if◌then◌else◌, Result, Ok, Err, OnErr, arith}
use Rattle.std.specs.List.{find}
use Rattle.std.proofs.lemmas.Bool.{le-ltb, leb-true, lt-ltb}
use Rattle.dev_traits.specs.View.{View}
use Rattle.pk_model.specs.declared.books.Book.{Book}
use Rattle.pk_model.specs.declared.calls.Call.TheVariants as call
use Rattle.pk_model.specs.declared.calls.Reply.{Reply}
use Rattle.pk_model.specs.declared.calls.Reply.TheVariants as reply
use Rattle.pk_model.specs.Books.{GivesWay, MayGet, MayReply, answer, version}
use Rattle.tablet_state.specs.Turns.{IsStep}
use Rattle.tablet_state.specs.Contents.{Contents, current_number, is_worn, worn_of}
use Rattle.tablet_state.specs.Floors.{ExpireFaultIsAStep, ExpireMemoryIsAStep, ExpireWornIsAStep, LowFloorIsAStep, NotYetIsAStep}
use Rattle.tablet_state.specs.State.{Has, HasStore, Shown, Steps}
use Rattle.tablet_state.proofs.Publishing.{version_is}
use Rattle.tablet_state.proofs.StandFacts.{closed_is_a_step, opened_answer, opened_change}

kept_answer : (b : Book) (v : ℕ) → b.closed ≡ None → v ≤ version b → answer b (call.Expire v) ≡ reply.Floor (max b.floor v)
kept_answer b v none le = opened_answer b (call.Expire v) none ∙ ap (λ (t : Bool). if t then reply.NotYet (version b) else reply.Floor (max b.floor v)) (le-ltb (version b) v le)

instead : (b : Book) (v : ℕ) (r : Reply) → b.closed ≡ None → v ≤ version b → MayGet (call.Expire v) r → GivesWay (reply.Floor (max b.floor v)) r → MayReply b (call.Expire v) r
instead b v r none le may gives = inr (may, subst (λ (a : Reply). GivesWay a r) (sym (kept_answer b v none le)) gives)

pub not_yet_is_a_step : NotYetIsAStep
not_yet_is_a_step s b seq v none lt = (
  inl (sym (opened_answer b (call.Expire v) none ∙ ap (λ (t : Bool). if t then reply.NotYet (version b) else reply.Floor (max b.floor v)) (lt-ltb (version b) v lt))),
  opened_change s b seq (call.Expire v) none ∙ ap (λ (t : Bool). let x : Book = if t then b else record b { floor = max b.floor v; older = drop (v - b.floor) b.older } in x) (lt-ltb (version b) v lt),
)

pub low_floor_is_a_step : LowFloorIsAStep
low_floor_is_a_step s b seq v none le =
    let kept : v ≤ version b = omega arith in
    let greater : max b.floor v ≡ b.floor = omega arith in
    let nothing : v - b.floor ≡ 0 = omega arith in
    let all : drop (v - b.floor) b.older ≡ b.older = ap (λ (n : ℕ). drop n b.older) nothing in
    let same : record b { floor = max b.floor v; older = drop (v - b.floor) b.older } ≡ b = λ i. record b { floor = greater i; older = all i } in (
      inl (sym (kept_answer b v none kept ∙ ap reply.Floor greater)),
      opened_change s b seq (call.Expire v) none ∙ ap (λ (t : Bool). let x : Book = if t then b else record b { floor = max b.floor v; older = drop (v - b.floor) b.older } in x) (le-ltb (version b) v kept) ∙ same,
    )

pub expire_memory_is_a_step : ExpireMemoryIsAStep
expire_memory_is_a_step s b seq v none le = (instead b v reply.Memory none le tt tt, refl)

pub expire_worn_is_a_step : ExpireWornIsAStep
expire_worn_is_a_step s b seq v n none le worn = (instead b v (reply.Worn n) none le worn tt, refl)

pub expire_fault_is_a_step : ExpireFaultIsAStep
expire_fault_is_a_step s b seq v n none le = (instead b v (reply.StoreFault n) none le tt tt, refl)

-- ---- of a state's book

module _ {S : Type 0} (view : S → View) (st : Shown S) (b : Book) (seq v : ℕ) (h : Has view st b) where
  stays : (r : Reply) → IsStep st.contents.schema b seq (call.Expire v) r b → Steps view st b seq (call.Expire v) r
  stays r is = (is.0, subst (λ (x : Book). Has view st x) (sym is.1) h)

  pub closed_refuses : (place : ℕ) → st.closed ≡ Some place → Steps view st b seq (call.Expire v) (reply.Closed place)
  closed_refuses place is = stays (reply.Closed place) (closed_is_a_step st.contents.schema b seq place (call.Expire v) (sym h.same ∙ is))

  module _ (open_ : st.closed ≡ None) where
    images : HasStore (view st.store) st.area st.end st.contents b
    images = (h.opened open_).images

    number : current_number st.contents ≡ version b
    number = version_is (view st.store) st.area st.end st.contents b images

    floor : st.contents.floor ≡ b.floor
    floor = images.holds.floor

    none : b.closed ≡ None
    none = sym h.same ∙ open_

    pub not_yet_refuses : current_number st.contents < v → Steps view st b seq (call.Expire v) (reply.NotYet (current_number st.contents))
    not_yet_refuses lt =
        subst (λ (n : ℕ). Steps view st b seq (call.Expire v) (reply.NotYet n)) (sym number)
        (stays (reply.NotYet (version b)) (not_yet_is_a_step st.contents.schema b seq v none (subst (λ (n : ℕ). n < v) number lt)))

    pub low_refuses : v ≤ st.contents.floor → Steps view st b seq (call.Expire v) (reply.Floor st.contents.floor)
    low_refuses le =
        subst (λ (n : ℕ). Steps view st b seq (call.Expire v) (reply.Floor n)) (sym floor)
        (stays (reply.Floor b.floor) (low_floor_is_a_step st.contents.schema b seq v none (subst (λ (n : ℕ). v ≤ n) floor le)))

    pub floor_worn_refuses : (n : ℕ) → v ≤ current_number st.contents → 2 ^ 62 ≤ n → Steps view st b seq (call.Expire v) (reply.Worn n)
    floor_worn_refuses n le worn = stays (reply.Worn n) (expire_worn_is_a_step st.contents.schema b seq v n none (subst (λ (k : ℕ). v ≤ k) number le) worn)

    -- want of memory, after which a state has the book still
    pub floor_memory : (new : Shown S) → Has view new b → v ≤ current_number st.contents → Steps view new b seq (call.Expire v) reply.Memory
    floor_memory new has le = ((expire_memory_is_a_step st.contents.schema b seq v none (subst (λ (k : ℕ). v ≤ k) number le)).0, has)

-- ---- a number that has come to its end

found_worn : (ns : List ℕ) (n : ℕ) → find is_worn ns ≡ Some n → 2 ^ 62 ≤ n
found_worn [] n is = absurd (cc is)
found_worn (m ∷ ns) n is = go (nat_le (2 ^ 62) m) refl is (found_worn ns n)
  where
    go : (t : Bool) → nat_le (2 ^ 62) m ≡ t → (if t then Some m else find is_worn ns) ≡ Some n → (find is_worn ns ≡ Some n → 2 ^ 62 ≤ n) → 2 ^ 62 ≤ n
    go true e f rest = let same : m ≡ n = cc in let le = leb-true (2 ^ 62) m e in omega (arith, le, same)
    go false e f rest = rest f

pub worn_number : (c : Contents) (n : ℕ) → worn_of c ≡ Some n → 2 ^ 62 ≤ n
worn_number c n is = found_worn (c.next_file ∷ c.edit ∷ current_number c ∷ []) n is

-- what holds anyhow holds at an error
pub on_err : {T E : Type 0} (r : Result T E) {P : Type 0} → P → OnErr r P
on_err (Ok x) h = tt
on_err (Err e) h = h
