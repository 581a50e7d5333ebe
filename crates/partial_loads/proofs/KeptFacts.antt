-- A version that is kept has the rows that it had.
use Rattle.std.proofs.Common.{◌≡◌, ◌⊎◌, inl, inr, refl, ap, sym, ◌∙◌, ℕ, ◌+◌, ◌≤◌, ◌<◌, max, nat_lt, List, [], ◌∷◌, arith, Option, Some, None, is_some, Bool as Truth, true, false, if◌then◌else◌}
use Rattle.std.proofs.lemmas.Bool.{cases_lt, ltb-false}
use Rattle.pk_values.specs.Schemas.{Layout}
use Rattle.pk_model.specs.declared.books.Book.{Book}
use Rattle.pk_model.specs.declared.books.Plan.{Plan}
use Rattle.pk_model.specs.declared.calls.Call.{Call}
use Rattle.pk_model.specs.declared.calls.Call.TheVariants as call
use Rattle.pk_model.specs.declared.calls.Load.{Load}
use Rattle.pk_model.specs.declared.calls.Reply.{Reply}
use Rattle.pk_model.specs.declared.calls.Reply.TheVariants as reply
use Rattle.pk_model.specs.Books.{Entry, change, change_begin, change_end, change_expire, change_give_up, change_load, change_unless, is_full, next, open_change, plan_at, publish, replay, rows_at, version}
use Rattle.pk_model.specs.Tables.{Rows}
use Rattle.pk_model.proofs.VersionLaws.{older-stay, expiry-drops, expiry-keeps-version, load-makes-one}
use Rattle.partial_loads.specs.Moves.{KeptVersionStays, HadRowsStays}

-- the version is there still, and dropped or as it was
abbrev Stays : Book → ℕ → Book → Type 0
Stays b v n = (v ≤ version n) × ((rows_at n v ≡ None) ⊎ (rows_at n v ≡ rows_at b v))

after-reply : (P : Book → Type 0) (s : Layout) (b : Book) (place : ℕ) (c : Call) (r : Reply)
    → P b → P (record b { closed = Some place }) → P (change s b place c) → P (next s b place c r)
after-reply P s b place c (reply.Published v) same closed changed = changed
after-reply P s b place c (reply.Opened v) same closed changed = changed
after-reply P s b place c (reply.Begun v) same closed changed = changed
after-reply P s b place c (reply.Compacted before after rows late) same closed changed = changed
after-reply P s b place c (reply.Floor f) same closed changed = changed
after-reply P s b place c (reply.Stat floor version rows rowsets) same closed changed = changed
after-reply P s b place c reply.GaveUp same closed changed = changed
after-reply P s b place c (reply.Expired f) same closed changed = changed
after-reply P s b place c (reply.NotYet v) same closed changed = changed
after-reply P s b place c (reply.Busy v) same closed changed = changed
after-reply P s b place c reply.ManyVersions same closed changed = changed
after-reply P s b place c (reply.Closed at) same closed changed = changed
after-reply P s b place c (reply.StoreFault n) same closed changed = closed
after-reply P s b place c (reply.Damaged d) same closed changed = closed
after-reply P s b place c reply.Memory same closed changed = same
after-reply P s b place c reply.NoPlan same closed changed = changed
after-reply P s b place c (reply.Worn n) same closed changed = same

unless-closed : (P : Book → Type 0) (o : Option ℕ) (b changed : Book) → P b → P changed → P (change_unless o b changed)
unless-closed P None b changed same p = p
unless-closed P (Some at) b changed same p = same

begun-stays : (b : Book) (v place : ℕ) (p : Option Plan) → v ≤ version b → Stays b v (change_begin b place p)
begun-stays b v place None l = (l, inr refl)
begun-stays b v place (Some p) l = (l, inr refl)

ended-stays : (b : Book) (v : ℕ) (p : Option Plan) → v ≤ version b → Stays b v (change_end b p)
ended-stays b v None l = (l, inr refl)
ended-stays b v (Some p) l = (l, inr refl)

given-stays : (b : Book) (v : ℕ) (p : Option Plan) → v ≤ version b → Stays b v (change_give_up b p)
given-stays b v None l = (l, inr refl)
given-stays b v (Some p) l = (l, inr refl)

loaded-stays : (s : Layout) (b : Book) (v : ℕ) (load : Load) → v ≤ version b → Stays b v (change_load s b load)
loaded-stays s b v load l = go (is_full b)
  where
    go : (t : Truth) → Stays b v (if t then b else publish s b load)
    go true = (l, inr refl)
    go false = (omega (arith, load-makes-one s b load), inr (older-stay s b load v l))

dropped : (t : Truth) (o : Option Rows) (n : Option Rows) → n ≡ (if t then None else o) → (n ≡ None) ⊎ (n ≡ o)
dropped true o n e = inl e
dropped false o n e = inr e

expired-stays : (b : Book) (v f : ℕ) → v ≤ version b → Stays b v (change_expire b f)
expired-stays b v f l = (omega (arith, expiry-keeps-version b f), go (cases_lt (version b) f))
  where
    ahead : (t : Truth) (n : Book) → t ≡ true → rows_at (if t then b else n) v ≡ rows_at b v
    ahead true n e = refl
    ahead false n e = cc

    is_ahead : version b < f → (t : Truth) → nat_lt (version b) f ≡ t → t ≡ true
    is_ahead h true e = refl
    is_ahead h false e = absurd (omega (arith, ltb-false (version b) f e))

    go : (version b < f) ⊎ (f ≤ version b) → (rows_at (change_expire b f) v ≡ None) ⊎ (rows_at (change_expire b f) v ≡ rows_at b v)
    go (inl h) = inr (ahead (nat_lt (version b) f) _ (is_ahead h (nat_lt (version b) f) refl))
    go (inr h) = dropped (nat_lt v (max b.floor f)) (rows_at b v) (rows_at (change_expire b f) v) (expiry-drops b f v h)

open-stays : (s : Layout) (b : Book) (v place : ℕ) (c : Call) → v ≤ version b → Stays b v (open_change s b place c)
open-stays s b v place (call.Load load) l = loaded-stays s b v load l
open-stays s b v place (call.Open want) l = (l, inr refl)
open-stays s b v place call.Begin l = begun-stays b v place b.plan l
open-stays s b v place (call.End begun) l = ended-stays b v (plan_at b.plan begun) l
open-stays s b v place (call.GiveUp begun) l = given-stays b v (plan_at b.plan begun) l
open-stays s b v place (call.Expire f) l = expired-stays b v f l
open-stays s b v place call.Stat l = (l, inr refl)

next-stays : (s : Layout) (b : Book) (v place : ℕ) (c : Call) (r : Reply) → v ≤ version b → Stays b v (next s b place c r)
next-stays s b v place c r l =
    after-reply (Stays b v) s b place c r (l, inr refl) (l, inr refl)
    (unless-closed (Stays b v) b.closed b (open_change s b place c) (l, inr refl) (open-stays s b v place c l))

replay-stays : (s : Layout) (b : Book) (v place : ℕ) (es : List Entry) → v ≤ version b → Stays b v (replay s b place es)
replay-stays s b v place [] l = (l, inr refl)
replay-stays s b v place (e ∷ es) l =
    let first = next-stays s b v place e.0 e.1 l in
    let later = replay-stays s (next s b place e.0 e.1) v (place + 1) es first.0 in
    (later.0, both (rows_at b v) (rows_at (next s b place e.0 e.1) v) (rows_at (replay s (next s b place e.0 e.1) (place + 1) es) v) first.1 later.1)
  where
    both : (x y z : Option Rows) → (y ≡ None) ⊎ (y ≡ x) → (z ≡ None) ⊎ (z ≡ y) → (z ≡ None) ⊎ (z ≡ x)
    both x y z f (inl g) = inl g
    both x y z (inl f) (inr g) = inl (g ∙ f)
    both x y z (inr f) (inr g) = inr (g ∙ f)

pub kept_version_stays : KeptVersionStays
kept_version_stays s b place es v l there = go (rows_at (replay s b place es) v) (replay-stays s b v place es l).1 there
  where
    go : (o : Option Rows) → (o ≡ None) ⊎ (o ≡ rows_at b v) → is_some o ≡ true → o ≡ rows_at b v
    go o (inr e) h = e
    go None (inl e) h = cc
    go (Some m) (inl e) h = cc

pub had_rows_stays : HadRowsStays
had_rows_stays s b place es v was l had m is =
    let there : is_some (rows_at (replay s b place es) v) ≡ true = ap is_some is in
    had m (sym (kept_version_stays s b place es v l there) ∙ is)
