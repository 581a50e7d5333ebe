-- Which rows each version has after a call.
use Rattle.std.proofs.Common.{◌≡◌, refl, ap, sym, subst, ◌∙◌, ℕ, ◌+◌, ◌-◌, ◌≤◌, ◌<◌, suc, zero, max, arith, List, [], ◌∷◌, ◌++◌, length, drop, Option, Some, None, is_some, ◌↔◌, inl, inr, Bool as Truth, true, false, nat_lt, ◌==◌, if◌then◌else◌, Result, Ok, Err, OnOk, OnErr}
use Rattle.std.specs.List.{slice_get}
use Rattle.std.proofs.lemmas.Bool.{cases_lt}
use Rattle.std.proofs.lemmas.List.{length-append}
use Rattle.std.proofs.lemmas.Option.{slice_get-get_or, slice_get_past}
use Rattle.pk_values.specs.Schemas.{Layout}
use Rattle.pk_model.specs.declared.books.Book.{Book}
use Rattle.pk_model.specs.declared.books.Plan.{Plan}
use Rattle.pk_model.specs.Tables.{Rows, after, writes}
use Rattle.std.specs.FinMap.{len}
use Rattle.pk_model.specs.declared.calls.Call.{Call}
use Rattle.pk_model.specs.declared.calls.Call.TheVariants as call
use Rattle.pk_model.specs.declared.calls.Load.{Load}
use Rattle.pk_model.specs.declared.calls.Want.TheVariants.{At}
use Rattle.pk_model.specs.declared.calls.Reply.{Reply}
use Rattle.pk_model.specs.declared.calls.Reply.TheVariants as reply
use Rattle.std.specs.declared.alloc.AllocError.{AllocError}
use Rattle.pk_model.specs.Books.{answer, answer_open, answer_unless, greatest_number, version, rows_at, publish, plan_at, change_begin, change_end, change_give_up, change_expire, open_change, is_full}
use Rattle.pk_model.specs.Laws.{CurrentRows, NewVersion, OlderStay, EndLeavesRows, ExpiryDrops, ExpiryKeepsVersion, LoadMakesOne, OpensKept}
use borrow.Author.Tests.{ltb-true, ltb-false}

get-last : {X : Type 0} (xs : List X) (x : X) (ys : List X) (i : ℕ) → i ≡ length xs → slice_get (xs ++ x ∷ ys) i ≡ Some x
get-last [] x ys zero e = refl
get-last [] x ys (suc i) e = absurd (omega arith)
get-last (y ∷ xs) x ys zero e = absurd (omega arith)
get-last (y ∷ xs) x ys (suc i) e = let f : i ≡ length xs = omega arith in get-last xs x ys i f

get-before : {X : Type 0} (xs ys : List X) (i : ℕ) → i < length xs → slice_get (xs ++ ys) i ≡ slice_get xs i
get-before [] ys i l = absurd (omega arith)
get-before (x ∷ xs) ys zero l = refl
get-before (x ∷ xs) ys (suc i) l = let k : i < length xs = omega arith in get-before xs ys i k

get-drop : {X : Type 0} (n : ℕ) (xs : List X) (i : ℕ) → slice_get (drop n xs) i ≡ slice_get xs (n + i)
get-drop zero xs i = let e : i ≡ 0 + i = omega arith in ap (slice_get xs) e
get-drop (suc n) [] i = refl
get-drop (suc n) (x ∷ xs) i = let e : suc (n + i) ≡ suc n + i = omega arith in get-drop n xs i ∙ ap (slice_get (x ∷ xs)) e

drop-before : {X : Type 0} (n : ℕ) (xs ys : List X) → n ≤ length xs → drop n (xs ++ ys) ≡ drop n xs ++ ys
drop-before zero xs ys l = refl
drop-before (suc n) [] ys l = absurd (omega arith)
drop-before (suc n) (x ∷ xs) ys l = let k : n ≤ length xs = omega arith in drop-before n xs ys k

pub length_dropped : {X : Type 0} (n : ℕ) (xs : List X) → length (drop n xs) ≡ length xs - n
length_dropped zero xs = omega arith
length_dropped (suc n) [] = omega arith
length_dropped (suc n) (x ∷ xs) = length_dropped n xs ∙ omega arith

-- a kept version by its place from the floor on
pub kept : (b : Book) (v : ℕ) → b.floor ≤ v → rows_at b v ≡ slice_get (b.older ++ b.current ∷ []) (v - b.floor)
kept b v l = elim (nat_lt v b.floor) as (λ t. nat_lt v b.floor ≡ t → (if t then None else slice_get (b.older ++ b.current ∷ []) (v - b.floor)) ≡ slice_get (b.older ++ b.current ∷ []) (v - b.floor)) [
  | true ↦ λ e. absurd (omega (arith, ltb-true v b.floor e))
  | false ↦ λ e. refl
] refl

pub gone : (b : Book) (v : ℕ) → v < b.floor → rows_at b v ≡ None
gone b v l = elim (nat_lt v b.floor) as (λ t. nat_lt v b.floor ≡ t → (if t then None else slice_get (b.older ++ b.current ∷ []) (v - b.floor)) ≡ None) [
  | true ↦ λ e. refl
  | false ↦ λ e. absurd (omega (arith, ltb-false v b.floor e))
] refl

pub current-rows : CurrentRows
current-rows b = kept b (version b) (omega arith) ∙ get-last b.older b.current [] (version b - b.floor) (omega arith)

pub new-version : NewVersion
new-version s b load =
    let n = publish s b load in
    kept n (version b + 1) (omega arith)
    ∙ get-last (b.older ++ b.current ∷ []) (after s load b.current) [] (version b + 1 - b.floor) (omega (arith, length-append b.older (b.current ∷ [])))

pub older-stay : OlderStay
older-stay s b load v l = elim (cases_lt v b.floor) [
  | inl below ↦ gone (publish s b load) v below ∙ sym (gone b v below)
  | inr from ↦ kept (publish s b load) v from
      ∙ get-before (b.older ++ b.current ∷ []) (after s load b.current ∷ []) (v - b.floor) (omega (arith, length-append b.older (b.current ∷ [])))
      ∙ sym (kept b v from)
]

end-leaves : (b : Book) (p : Option Plan) (v : ℕ) → rows_at (change_end b p) v ≡ rows_at b v
end-leaves b None v = refl
end-leaves b (Some p) v = refl

pub end-leaves-rows : EndLeavesRows
end-leaves-rows b begun v = end-leaves b (plan_at b.plan begun) v

-- an expiry that is not ahead of the current version
pub expired : (b : Book) (f : ℕ) → f ≤ version b → change_expire b f ≡ record b { floor = max b.floor f; older = drop (f - b.floor) b.older }
expired b f l = elim (nat_lt (version b) f) as (λ t. nat_lt (version b) f ≡ t → (if t then b else record b { floor = max b.floor f; older = drop (f - b.floor) b.older }) ≡ record b { floor = max b.floor f; older = drop (f - b.floor) b.older }) [
  | true ↦ λ e. absurd (omega (arith, ltb-true (version b) f e))
  | false ↦ λ e. refl
] refl

below-floor : (b : Book) (g : ℕ) (o : Option Rows) (v : ℕ) → v < g → (if nat_lt v g then None else o) ≡ None
below-floor b g o v l = elim (nat_lt v g) as (λ t. nat_lt v g ≡ t → (if t then None else o) ≡ None) [ true ↦ λ e. refl | false ↦ λ e. absurd (omega (arith, ltb-false v g e)) ] refl

from-floor : (b : Book) (g : ℕ) (o : Option Rows) (v : ℕ) → g ≤ v → (if nat_lt v g then None else o) ≡ o
from-floor b g o v l = elim (nat_lt v g) as (λ t. nat_lt v g ≡ t → (if t then None else o) ≡ o) [ true ↦ λ e. absurd (omega (arith, ltb-true v g e)) | false ↦ λ e. refl ] refl

pub expiry-drops : ExpiryDrops
expiry-drops b f v l =
    let n : Book = record b { floor = max b.floor f; older = drop (f - b.floor) b.older } in
    ap (λ c. rows_at c v) (expired b f l)
    ∙ elim (cases_lt v (max b.floor f)) [
      | inl below ↦ gone n v below ∙ sym (below-floor b (max b.floor f) (rows_at b v) v below)
      | inr from ↦
          let old : b.floor ≤ v = omega arith in
          let within : f - b.floor ≤ length b.older = omega arith in
          let place : (f - b.floor) + (v - max b.floor f) ≡ v - b.floor = omega arith in
          kept n v from
          ∙ ap (λ ms. slice_get ms (v - max b.floor f)) (sym (drop-before (f - b.floor) b.older (b.current ∷ []) within))
          ∙ get-drop (f - b.floor) (b.older ++ b.current ∷ []) (v - max b.floor f)
          ∙ ap (slice_get (b.older ++ b.current ∷ [])) place
          ∙ sym (kept b v old)
          ∙ sym (from-floor b (max b.floor f) (rows_at b v) v from)
    ]

pub expiry-keeps-version : ExpiryKeepsVersion
expiry-keeps-version b f = elim (cases_lt (version b) f) [
  | inl ahead ↦ elim (nat_lt (version b) f) as (λ t. nat_lt (version b) f ≡ t → version (if t then b else record b { floor = max b.floor f; older = drop (f - b.floor) b.older }) ≡ version b) [
    | true ↦ λ e. refl
    | false ↦ λ e. absurd (omega (arith, ltb-false (version b) f e))
  ] refl
  | inr within ↦ ap version (expired b f within) ∙ omega (arith, length_dropped (f - b.floor) b.older)
]

pub load-makes-one : LoadMakesOne
load-makes-one s b load = omega (arith, length-append b.older (b.current ∷ []))

-- a call adds at most one to the version and to the number of rowsets
one-at-most : (t : Truth) → (if t then 1 else 0) ≤ 1
one-at-most true = omega arith
one-at-most false = omega arith

none-or-one : (t : Truth) → (if t then 0 else 1) ≤ 1
none-or-one true = omega arith
none-or-one false = omega arith

load-grows : (s : Layout) (b : Book) (load : Load) (t : Truth) → greatest_number (if t then b else publish s b load) ≤ greatest_number b + 1
load-grows s b load true = omega arith
load-grows s b load false = omega (arith, length-append b.older (b.current ∷ []), one-at-most (writes load.ops))

begin-grows : (b : Book) (place : ℕ) (p : Option Plan) → greatest_number (change_begin b place p) ≤ greatest_number b + 1
begin-grows b place None = omega arith
begin-grows b place (Some p) = omega arith

end-grows : (b : Book) (p : Option Plan) → greatest_number (change_end b p) ≤ greatest_number b + 1
end-grows b None = omega arith
end-grows b (Some p) = omega (arith, none-or-one (len p.rows == 0))

give_up-grows : (b : Book) (p : Option Plan) → greatest_number (change_give_up b p) ≤ greatest_number b + 1
give_up-grows b None = omega arith
give_up-grows b (Some p) = omega arith

expiry-keeps-rowsets : (b : Book) (f : ℕ) → (change_expire b f).rowsets ≡ b.rowsets
expiry-keeps-rowsets b f = elim (nat_lt (version b) f) as (λ t. (if t then b else record b { floor = max b.floor f; older = drop (f - b.floor) b.older }).rowsets ≡ b.rowsets) [ true ↦ refl | false ↦ refl ]

pub open-grows : (s : Layout) (b : Book) (place : ℕ) (c : Call) → greatest_number (open_change s b place c) ≤ greatest_number b + 1
open-grows s b place (call.Load load) = load-grows s b load (is_full b)
open-grows s b place (call.Open want) = omega arith
open-grows s b place call.Begin = begin-grows b place b.plan
open-grows s b place (call.End begun) = end-grows b (plan_at b.plan begun)
open-grows s b place (call.GiveUp begun) = give_up-grows b (plan_at b.plan begun)
open-grows s b place (call.Expire v) = omega (arith, expiry-keeps-version b v, expiry-keeps-rowsets b v)
open-grows s b place call.Stat = omega arith

pub step-grows : (s : Layout) (b : Book) (place : ℕ) (c : Call) (r : Result Reply AllocError) (n : Book) → OnOk r (n ≡ open_change s b place c) → OnErr r (n ≡ b) → greatest_number n ≤ greatest_number b + 1
step-grows s b place c (Ok reply) n h e = subst (λ k. greatest_number k ≤ greatest_number b + 1) (sym h) (open-grows s b place c)
step-grows s b place c (Err error) n h e = subst (λ k. greatest_number k ≤ greatest_number b + 1) (sym e) (omega arith)

-- ---- opening

if-below : {X : Type 0} (a b : ℕ) (x y : X) → a < b → (if nat_lt a b then x else y) ≡ x
if-below a b x y l = elim (nat_lt a b) as (λ t. nat_lt a b ≡ t → (if t then x else y) ≡ x) [ true ↦ λ e. refl | false ↦ λ e. absurd (omega (arith, ltb-false a b e)) ] refl

if-from : {X : Type 0} (a b : ℕ) (x y : X) → b ≤ a → (if nat_lt a b then x else y) ≡ y
if-from a b x y l = elim (nat_lt a b) as (λ t. nat_lt a b ≡ t → (if t then x else y) ≡ y) [ true ↦ λ e. absurd (omega (arith, ltb-true a b e)) | false ↦ λ e. refl ] refl

refuses : (b : Book) (v : ℕ) (r : Reply) → b.closed ≡ None → answer_open b (At v) ≡ r → (r ≡ reply.Opened v → ⊥) → rows_at b v ≡ None
    → (answer b (call.Open (At v)) ≡ reply.Opened v) ↔ (is_some (rows_at b v) ≡ true)
refuses b v r e a n g =
    let whole : answer b (call.Open (At v)) ≡ answer_open b (At v) = ap (λ o. answer_unless o (answer_open b (At v))) e in
    (λ h. absurd (n (sym a ∙ (sym whole ∙ h))), λ h. let none : false ≡ true = ap is_some (sym g) ∙ h in cc)

opens : (b : Book) (v : ℕ) → b.closed ≡ None → b.floor ≤ v → v ≤ version b → (answer b (call.Open (At v)) ≡ reply.Opened v) ↔ (is_some (rows_at b v) ≡ true)
opens b v e low high =
    let all : List Rows = b.older ++ b.current ∷ [] in
    let within : v - b.floor < length all = omega (arith, length-append b.older (b.current ∷ [])) in
    let whole : answer b (call.Open (At v)) ≡ answer_open b (At v) = ap (λ o. answer_unless o (answer_open b (At v))) e in (
      λ h. ap is_some (kept b v low ∙ slice_get-get_or all (v - b.floor) b.current within),
      λ h. whole ∙ (if-from v b.floor (reply.Expired b.floor) (if nat_lt (version b) v then reply.NotYet (version b) else reply.Opened v) low ∙ if-from (version b) v (reply.NotYet (version b)) (reply.Opened v) high),
    )

pub opens-kept : OpensKept
opens-kept b v e = elim (cases_lt v b.floor) [
  | inl below ↦ refuses b v (reply.Expired b.floor) e (if-below v b.floor (reply.Expired b.floor) (if nat_lt (version b) v then reply.NotYet (version b) else reply.Opened v) below) (λ c. cc) (gone b v below)
  | inr from ↦ elim (cases_lt (version b) v) [
    | inl ahead ↦
        let past : length (b.older ++ b.current ∷ []) ≤ v - b.floor = omega (arith, length-append b.older (b.current ∷ [])) in
        let told : answer_open b (At v) ≡ reply.NotYet (version b) =
        if-from v b.floor (reply.Expired b.floor) (if nat_lt (version b) v then reply.NotYet (version b) else reply.Opened v) from ∙ if-below (version b) v (reply.NotYet (version b)) (reply.Opened v) ahead in
        refuses b v (reply.NotYet (version b)) e told (λ c. cc) (kept b v from ∙ slice_get_past (b.older ++ b.current ∷ []) (v - b.floor) past)
    | inr within ↦ opens b v e from within
  ]
]
