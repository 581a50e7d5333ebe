-- What a crash keeps of a book.
use Rattle.std.proofs.Common.{◌≡◌, refl, ap, sym, subst, ◌∙◌, ℕ, zero, suc, ◌+◌, ◌-◌, max, drop, List, [], ◌∷◌, ◌++◌, length, arith, Bool as Truth, true, false, Option, Some, None, cond}
use Rattle.std.specs.Prelude.{nat_lt, slice_get}
use Rattle.std.proofs.lemmas.List.{length-append}
use Rattle.std.proofs.lemmas.Option.{same_Some}
use Rattle.pk_values.specs.Schemas.{Layout}
use Rattle.pk_model.specs.declared.books.Book.{Book}
use Rattle.pk_model.specs.declared.books.Plan.{Plan}
use Rattle.pk_model.specs.declared.calls.Call.{Call}
use Rattle.pk_model.specs.declared.calls.Call.TheVariants as call
use Rattle.pk_model.specs.declared.calls.Load.{Load}
use Rattle.pk_model.specs.declared.calls.Reply.{Reply}
use Rattle.pk_model.specs.declared.calls.Reply.TheVariants as reply
use Rattle.pk_model.specs.Tables.{Rows}
use Rattle.pk_model.specs.Books.{change, change_begin, change_end, change_expire, change_give_up, change_load, change_unless, is_full, new_book, next, open_change, plan_at, publish, rows_at, version}
use Rattle.pk_model.specs.Durable.{DeviceRepliesLeaveDurable, DurableGoesOn, DurableIsKept, DurableKeeps, MayChangeDurable, NewIsDurable, OthersLeaveDurable, durable}
use Rattle.pk_model.proofs.VersionLaws.{kept}

pub durable-keeps : DurableKeeps
durable-keeps b = record { floor = refl; version_kept = refl; rows = λ v. refl; rowsets = refl; unplanned = refl; opened = refl }

pub new-is-durable : NewIsDurable
new-is-durable = refl

pub device-leaves : DeviceRepliesLeaveDurable
device-leaves s b place c (reply.Published v) h = absurd h
device-leaves s b place c (reply.Opened v) h = absurd h
device-leaves s b place c (reply.Begun v) h = absurd h
device-leaves s b place c (reply.Compacted before after rows late) h = absurd h
device-leaves s b place c (reply.Floor f) h = absurd h
device-leaves s b place c (reply.Stat floor version rows rowsets) h = absurd h
device-leaves s b place c reply.GaveUp h = absurd h
device-leaves s b place c (reply.Expired f) h = absurd h
device-leaves s b place c (reply.NotYet v) h = absurd h
device-leaves s b place c (reply.Busy v) h = absurd h
device-leaves s b place c reply.ManyVersions h = absurd h
device-leaves s b place c (reply.Closed at) h = absurd h
device-leaves s b place c (reply.StoreFault n) h = refl
device-leaves s b place c (reply.Damaged d) h = refl
device-leaves s b place c reply.Memory h = refl
device-leaves s b place c reply.NoPlan h = absurd h
device-leaves s b place c (reply.Worn n) h = refl

-- ---- which calls leave it

begin-leaves : (b : Book) (place : ℕ) (p : Option Plan) → durable (change_begin b place p) ≡ durable b
begin-leaves b place None = refl
begin-leaves b place (Some p) = refl

give-up-leaves : (b : Book) (p : Option Plan) → durable (change_give_up b p) ≡ durable b
give-up-leaves b None = refl
give-up-leaves b (Some p) = refl

open-leaves : (s : Layout) (b : Book) (place : ℕ) (c : Call) → (MayChangeDurable c → ⊥) → durable (open_change s b place c) ≡ durable b
open-leaves s b place (call.Load load) n = absurd (n tt)
open-leaves s b place (call.Open want) n = refl
open-leaves s b place call.Begin n = begin-leaves b place b.plan
open-leaves s b place (call.End begun) n = absurd (n tt)
open-leaves s b place (call.GiveUp begun) n = give-up-leaves b (plan_at b.plan begun)
open-leaves s b place (call.Expire v) n = absurd (n tt)
open-leaves s b place call.Stat n = refl

pub others-leave : OthersLeaveDurable
others-leave s b place c n = by b.closed
  where
    by : (o : Option ℕ) → durable (change_unless o b (open_change s b place c)) ≡ durable b
    by None = open-leaves s b place c n
    by (Some p) = refl

-- ---- what the others make of it

load-goes-on : (s : Layout) (b : Book) (load : Load) (t : Truth) → durable (cond t b (publish s b load)) ≡ cond t (durable b) (publish s (durable b) load)
load-goes-on s b load true = refl
load-goes-on s b load false = refl

expire-goes-on : (b : Book) (v : ℕ) (t : Truth)
    → durable (cond t b (record b { floor = max b.floor v; older = drop (v - b.floor) b.older }))
    ≡ cond t (durable b) (record (durable b) { floor = max b.floor v; older = drop (v - b.floor) b.older })
expire-goes-on b v true = refl
expire-goes-on b v false = refl

opened : (o : Option ℕ) (b c : Book) → o ≡ None → change_unless o b c ≡ c
opened o b c e = ap (λ p. change_unless p b c) e

pub goes-on : DurableGoesOn
goes-on s b place e = (
  (λ load. ap durable (opened b.closed b (change_load s b load) e) ∙ load-goes-on s b load (is_full b)),
  (λ v. ap durable (opened b.closed b (change_expire b v) e) ∙ expire-goes-on b v (nat_lt (version b) v)),
)

-- ---- it is exactly what is kept

same-lists : (xs ys : List Rows) → length xs ≡ length ys → ((i : ℕ) → slice_get xs i ≡ slice_get ys i) → xs ≡ ys
same-lists [] [] l f = refl
same-lists [] (y ∷ ys) l f = absurd (omega arith)
same-lists (x ∷ xs) [] l f = absurd (omega arith)
same-lists (x ∷ xs) (y ∷ ys) l f =
    let head : x ≡ y = same_Some x y (f zero) in
    let rest = same-lists xs ys (omega arith) (λ i. f (suc i)) in
    λ i. head i ∷ rest i

-- all but the last of a list, and the last
last-apart : (xs ys : List Rows) (x y : Rows) → length xs ≡ length ys → xs ++ x ∷ [] ≡ ys ++ y ∷ [] → (xs ≡ ys) × (x ≡ y)
last-apart [] [] x y l e = (refl, cc)
last-apart [] (z ∷ ys) x y l e = absurd (omega arith)
last-apart (z ∷ xs) [] x y l e = absurd (omega arith)
last-apart (z ∷ xs) (w ∷ ys) x y l e =
    let heads : z ≡ w = cc in
    let tails : xs ++ x ∷ [] ≡ ys ++ y ∷ [] = cc in
    let rest = last-apart xs ys x y (omega arith) tails in
    ((λ i. heads i ∷ rest.0 i), rest.1)

pub durable-is-kept : DurableIsKept
durable-is-kept b d floors versions rows rowsets =
    let lengths : length b.older ≡ length d.older = omega arith in
    let at : (i : ℕ) → slice_get (b.older ++ b.current ∷ []) i ≡ slice_get (d.older ++ d.current ∷ []) i = λ i.
    let here : (b.floor + i) - b.floor ≡ i = omega arith in
    let there : (b.floor + i) - d.floor ≡ i = omega arith in
    ap (slice_get (b.older ++ b.current ∷ [])) (sym here) ∙ sym (kept b (b.floor + i) (omega arith)) ∙ rows (b.floor + i)
    ∙ kept d (b.floor + i) (omega arith) ∙ ap (slice_get (d.older ++ d.current ∷ [])) there in
    let all : b.older ++ b.current ∷ [] ≡ d.older ++ d.current ∷ [] =
    same-lists (b.older ++ b.current ∷ []) (d.older ++ d.current ∷ []) (omega (arith, length-append b.older (b.current ∷ []), length-append d.older (d.current ∷ []))) at in
    let parts = last-apart b.older d.older b.current d.current lengths all in
    λ i. record { floor = floors i; older = parts.0 i; current = parts.1 i; rowsets = rowsets i; plan = None; closed = None }
