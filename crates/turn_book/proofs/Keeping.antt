-- Each step keeps the rule.
use Rattle.std.proofs.Common.{◌≡◌, ◌≢◌, ◌⊎◌, ℕ, zero, suc, ◌+◌, ◌^◌, ◌%◌, ◌<◌, ◌≤◌, List, [], ◌∷◌, ◌++◌, length, get_or, set, sym, refl, ap, ◌∙◌, subst, ⊎_elim, inl, inr, arith, Option, Some, length-append, append_assoc, append-nil}
use mathlib.Core.Logic.{dite}
use mathlib.Core.Option.{some, none, some-injective, some-ne-none}
use mathlib.Core.List.{IsPrefix}
use native.Mathlib.Decide.{ℕ_discrete}
use lib.ListN.{get_elem?}
use Rattle.atomic_table.specs.Table.{State, Me, Step, step, Act, keeps, takes, gives, stepped, put_back, rest, Allows, Splits, Joins, opening, Final, Seen}
use Rattle.atomic_table.proofs.Lists.{at_set, set_here, set_else, set_again, at_snoc, at_longer}
use Rattle.turn_book.specs.declared.rule.PassState.{PassState}
use Rattle.turn_book.specs.Places.{Rises, Has, RiseUpTo, places_after}
use Rattle.turn_book.specs.Turns.{lefts, Known, Apart, AtHome, AtTurn, Kept, spent, newcomer}
use Rattle.turn_book.specs.Plays.{waiting, turning, ending, drew, awaited, ended, looked, kept_part, given_part, joined}
use Rattle.turn_book.proofs.Merging.{merged_rises, merged_has, longer_begins, shorter_begins, longer_length, rises_full, prefix_whole, none_some, some_is}

module _ {A : Type 0} where
  pub prefix_more : (xs ys zs : List A) → IsPrefix xs ys → IsPrefix xs (ys ++ zs)
  prefix_more xs ys zs p = (p.0 ++ zs, sym (append_assoc xs p.0 zs) ∙ ap (λ w. w ++ zs) p.1)

  pub at_inside : (xs : List A) (i : ℕ) (a : A) → get_elem? xs i ≡ some a → i < length xs
  at_inside [] i a e = absurd (some-ne-none a (sym e))
  at_inside (x ∷ xs) zero a e = omega arith
  at_inside (x ∷ xs) (suc i) a e = let h = at_inside xs i a e in omega arith

  pub prefix_length : (xs ys : List A) → IsPrefix xs ys → length xs ≤ length ys
  prefix_length xs ys p = let e : length (xs ++ p.0) ≡ length ys = ap length p.1 in let f = length-append xs p.0 in omega arith

pub has_snoc : (xs : List ℕ) (n p : ℕ) → Has (xs ++ n ∷ []) p → Has xs p ⊎ (n ≡ p)
has_snoc [] n p h = ⊎_elim (λ (e : n ≡ p). inr e) (λ (e : ⊥). absurd e) h
has_snoc (x ∷ xs) n p h = ⊎_elim (λ (e : x ≡ p). inl (inl e)) (λ (t : Has (xs ++ n ∷ []) p). ⊎_elim (λ (a : Has xs p). inl (inr a)) (λ (a : n ≡ p). inr a) (has_snoc xs n p t)) h

pub rises_snoc : (low : ℕ) (xs : List ℕ) (n : ℕ) → low < n → Rises low xs → ((p : ℕ) → Has xs p → p < n) → Rises low (xs ++ n ∷ [])
rises_snoc low [] n above r all = (above, tt)
rises_snoc low (x ∷ xs) n above r all = (r.0, rises_snoc x xs n (all x (inl refl)) r.1 (λ p h. all p (inr h)))

-- rising numbers up to n are no more than n
pub rises_length : (low : ℕ) (xs : List ℕ) (n : ℕ) → low ≤ n → Rises low xs → ((p : ℕ) → Has xs p → p ≤ n) → length xs + low ≤ n
rises_length low [] n le r all = omega arith
rises_length low (x ∷ xs) n le r all = let a = r.0 in let h = rises_length x xs n (all x (inl refl)) r.1 (λ p h. all p (inr h)) in omega arith

module _ {E O : Type 0} where
  pub lefts_set : (vs : List (PassState E O)) (id : ℕ) (v w : PassState E O) → get_elem? vs id ≡ some v → lefts (set vs id w) + v.left ≡ lefts vs + w.left
  lefts_set [] id v w e = absurd (some-ne-none v (sym e))
  lefts_set (x ∷ xs) zero v w e = let s : x.left ≡ v.left = ap (λ (y : PassState E O). y.left) (some-injective x v e) in omega arith
  lefts_set (x ∷ xs) (suc id) v w e = let h = lefts_set xs id v w e in omega arith

  pub lefts_least : (vs : List (PassState E O)) (id : ℕ) (v : PassState E O) → get_elem? vs id ≡ some v → v.left ≤ lefts vs
  lefts_least [] id v e = absurd (some-ne-none v (sym e))
  lefts_least (x ∷ xs) zero v e = let s : x.left ≡ v.left = ap (λ (y : PassState E O). y.left) (some-injective x v e) in omega arith
  lefts_least (x ∷ xs) (suc id) v e = let h = lefts_least xs id v e in omega arith

  pub lefts_snoc : (vs : List (PassState E O)) (w : PassState E O) → lefts (vs ++ w ∷ []) ≡ lefts vs + w.left
  lefts_snoc [] w = omega arith
  lefts_snoc (x ∷ xs) w = let h = lefts_snoc xs w in omega arith

  pub apart_sym : (v w : PassState E O) → Apart v w → Apart w v
  apart_sym v w a = record { tickets = λ x y e. a.tickets y x (sym e); places = λ p x y. a.places p y x }

  pub each_set : (K : PassState E O → Type 0) (vs : List (PassState E O)) (id : ℕ) (w : PassState E O) → K w → ((j : ℕ) (v : PassState E O) → j ≢ id → get_elem? vs j ≡ some v → K v)
      → (j : ℕ) (v : PassState E O) → get_elem? (set vs id w) j ≡ some v → K v
  each_set K vs id w mine others j v e = ⊎_elim (λ (t : (j ≡ id) × (w ≡ v)). subst K t.1 mine) (λ (t : (j ≢ id) × (get_elem? vs j ≡ some v)). others j v t.0 t.1) (at_set vs id j w v e)

  abbrev pub AllApart : List (PassState E O) → Type 0
  AllApart vs = (i j : ℕ) (v w : PassState E O) → i ≢ j → get_elem? vs i ≡ some v → get_elem? vs j ≡ some w → Apart v w

  pub apart_set : (vs : List (PassState E O)) (id : ℕ) (w : PassState E O) → AllApart vs → ((j : ℕ) (v : PassState E O) → j ≢ id → get_elem? vs j ≡ some v → Apart w v) → AllApart (set vs id w)
  apart_set vs id w all mine i j a b ne ea eb = ⊎_elim
      (λ (t : (i ≡ id) × (w ≡ a)). ⊎_elim (λ (u : (j ≡ id) × (w ≡ b)). absurd (ne (t.0 ∙ sym u.0)))
      (λ (u : (j ≢ id) × (get_elem? vs j ≡ some b)). subst (λ (z : PassState E O). Apart z b) t.1 (mine j b u.0 u.1)) (at_set vs id j w b eb))
      (λ (t : (i ≢ id) × (get_elem? vs i ≡ some a)). ⊎_elim (λ (u : (j ≡ id) × (w ≡ b)). subst (λ (z : PassState E O). Apart a z) u.1 (apart_sym w a (mine i a t.0 t.1)))
      (λ (u : (j ≢ id) × (get_elem? vs j ≡ some b)). all i j a b ne t.1 u.1) (at_set vs id j w b eb)) (at_set vs id i w a ea)

  pub each_snoc : (K : PassState E O → Type 0) (vs : List (PassState E O)) (w : PassState E O) → K w → ((j : ℕ) (v : PassState E O) → get_elem? vs j ≡ some v → K v) → (j : ℕ) (v : PassState E O) → get_elem? (vs ++ w ∷ []) j ≡ some v → K v
  each_snoc K vs w mine others j v e = ⊎_elim (λ (t : get_elem? vs j ≡ some v). others j v t) (λ (t : w ≡ v). subst K t mine) (at_snoc vs w v j e)

  pub apart_snoc : (vs : List (PassState E O)) (w : PassState E O) → AllApart vs → ((v : PassState E O) → Apart w v) → AllApart (vs ++ w ∷ [])
  apart_snoc vs w all alone i j a b ne ea eb = ⊎_elim
      (λ (t : get_elem? vs i ≡ some a). ⊎_elim (λ (u : get_elem? vs j ≡ some b). all i j a b ne t u) (λ (u : w ≡ b). subst (λ (z : PassState E O). Apart a z) u (apart_sym w a (alone a))) (at_snoc vs w b j eb))
      (λ (t : w ≡ a). subst (λ (z : PassState E O). Apart z b) t (alone b)) (at_snoc vs w a i ea)

  -- one more turn is drawn
  pub known_later : (o : O) (log : List E) (next next' : ℕ) (v : PassState E O) → next ≤ next' → Known o log next v → Known o log next' v
  known_later o log next next' v le k = record {
    opened = k.opened;
    begins = k.begins;
    short = k.short;
    rising = k.rising;
    within = k.within;
    waits = λ s. let w = k.waits s in (w.0, omega arith);
    turn = k.turn;
  }

module _ {T E O : Type 0} (legal : O → List E → Type 0) (outcome : O → List E → T → Type 0) (turns : ℕ) (o : O) where
  abbrev W : Type 0
  W = PassState E O

  abbrev St : Type 0
  St = State (Option T) W

  abbrev M : Type 0
  M = Me (Option T) W

  abbrev Rule : St → Type 0
  Rule = Kept legal outcome turns o

  abbrev Homes : Type 0
  Homes = List (mathlib.Core.Option.Option (Option T))

  pub known_few : {s : St} (r : Rule s) (id : ℕ) (v : W) → get_elem? s.views id ≡ some v → length v.mine ≤ 2 ^ 62
  known_few {s} r id v at = let k = r.each id v at in let a = rises_length 0 v.mine (length v.seen) (omega arith) k.rising k.within in let b = prefix_length v.seen r.log k.begins in
      let c = r.behind in let d = r.budget in let f = r.few in omega arith

  -- the slot stays where it is, at a step of a pass that is not and will not be in its turn
  slot_stays : (log : List E) (vs : List W) (homes : Homes) (id : ℕ) (v w : W) → get_elem? vs id ≡ some v → v.stage ≢ 2 → w.stage ≢ 2
      → AtHome outcome o log vs homes ⊎ AtTurn outcome o log vs homes → AtHome outcome o log (set vs id w) homes ⊎ AtTurn outcome o log (set vs id w) homes
  slot_stays log vs homes id v w at not not' = ⊎_elim
      (λ (h : AtHome outcome o log vs homes). inl (h.0, h.1, h.2, each_set (λ (z : W). z.stage ≢ 2) vs id w not' (λ j u ne e. h.3 j u e)))
      (λ (h : AtTurn outcome o log vs homes). let other : h.1 ≢ id = λ e. not (ap (λ (z : W). z.stage) (some-injective v h.2 (sym at ∙ (ap (get_elem? vs) (sym e) ∙ h.3))) ∙ h.4) in
      inr (h.0, h.1, h.2, set_else vs id h.1 w other ∙ h.3, h.4))

  slot_longer : (log : List E) (vs : List W) (homes : Homes) (w : W) → w.stage ≢ 2
      → AtHome outcome o log vs homes ⊎ AtTurn outcome o log vs homes → AtHome outcome o log (vs ++ w ∷ []) homes ⊎ AtTurn outcome o log (vs ++ w ∷ []) homes
  slot_longer log vs homes w not = ⊎_elim
      (λ (h : AtHome outcome o log vs homes). inl (h.0, h.1, h.2, each_snoc (λ (z : W). z.stage ≢ 2) vs w not h.3))
      (λ (h : AtTurn outcome o log vs homes). inr (h.0, h.1, h.2, at_longer vs (w ∷ []) h.1 h.2 h.3, h.4))

  joined_apart : (s : St) (r : Rule s) (id : ℕ) (v : W) (other : ℕ) (w : W) → v.stage ≡ 0 → w.stage ≡ 0 → get_elem? s.views id ≡ some v → (other ≡ id → ⊥) → get_elem? s.views other ≡ some w
      → AllApart (set (set s.views id (joined v w)) other spent)
  joined_apart s r id v other w rest rest' at ne' was i j a b ne ea eb =
      let B : W = joined v w in let views : List W = set s.views id B in
      let empty : (x : W) → Apart spent x = λ x. record { tickets = λ z. absurd (z refl); places = λ p h. absurd h } in
      let with_both : (q : ℕ) (x : W) → q ≢ id → q ≢ other → get_elem? s.views q ≡ some x → Apart B x = λ q x no_i no_o e.
      let y = r.apart id q v x (λ z. no_i (sym z)) at e in let z = r.apart other q w x (λ z. no_o (sym z)) was e in
      record { tickets = λ st. absurd (st rest); places = λ p h h'. ⊎_elim (λ (c : Has v.mine p). y.places p c h') (λ (c : Has w.mine p). z.places p c h') (merged_has v.mine w.mine p h) } in
      ⊎_elim (λ (t : (i ≡ other) × (spent ≡ a)). subst (λ (z : W). Apart z b) t.1 (empty b))
      (λ (t : (i ≢ other) × (get_elem? views i ≡ some a)). ⊎_elim (λ (u : (j ≡ other) × (spent ≡ b)). subst (λ (z : W). Apart a z) u.1 (apart_sym spent a (empty a)))
      (λ (u : (j ≢ other) × (get_elem? views j ≡ some b)).
      ⊎_elim (λ (x : (i ≡ id) × (B ≡ a)). ⊎_elim (λ (y : (j ≡ id) × (B ≡ b)). absurd (ne (x.0 ∙ sym y.0)))
      (λ (y : (j ≢ id) × (get_elem? s.views j ≡ some b)). subst (λ (z : W). Apart z b) x.1 (with_both j b y.0 u.0 y.1)) (at_set s.views id j B b u.1))
      (λ (x : (i ≢ id) × (get_elem? s.views i ≡ some a)). ⊎_elim (λ (y : (j ≡ id) × (B ≡ b)). subst (λ (z : W). Apart a z) y.1 (apart_sym B a (with_both i a x.0 t.0 x.1)))
      (λ (y : (j ≢ id) × (get_elem? s.views j ≡ some b)). r.apart i j a b ne x.1 y.1) (at_set s.views id j B b u.1)) (at_set s.views id i B a t.1))
      (at_set views other j spent b eb)) (at_set views other i spent a ea)

  draws_at : (s : St) (r : Rule s) (id : ℕ) (me : M) → get_elem? s.views id ≡ some me.0 → me.0.stage ≡ 0 → 0 < me.0.left → s.words ≡ r.next ∷ length r.log ∷ []
      → Rule record { words = ((r.next + 1) % 2 ^ 64) ∷ length r.log ∷ []; homes = s.homes; views = set s.views id (waiting me.0 r.next) }
  draws_at s r id me at rest some_left is =
      let v : W = me.0 in let w : W = waiting me.0 r.next in let k = r.each id v at in let sum = lefts_set s.views id v w at in
      let budget = r.budget in let few = r.few in let behind = r.behind in
      let small : r.next + 1 < 2 ^ 64 = omega arith in
      let n : (r.next + 1) % 2 ^ 64 ≡ r.next + 1 = omega arith in record {
        log = r.log;
        next = r.next + 1;
        words = ap (λ (z : ℕ). z ∷ length r.log ∷ []) n;
        behind = omega arith;
        lawful = r.lawful;
        each = each_set (Known o r.log (r.next + 1)) s.views id w
            record { opened = k.opened; begins = k.begins; short = k.short; rising = k.rising; within = k.within; waits = λ _. (behind, omega arith); turn = λ e. absurd (omega arith) }
            (λ j u ne e. known_later o r.log r.next (r.next + 1) u (omega arith) (r.each j u e));
        apart = apart_set s.views id w r.apart (λ j u ne e. let a = r.apart id j v u (λ z. ne (sym z)) at e in
            record { tickets = λ x y z. let q = (r.each j u e).waits y in omega arith; places = a.places });
        budget = omega arith;
        few = r.few;
        slot = slot_stays r.log s.views s.homes id v w at (λ e. omega arith) (λ e. omega arith) r.slot;
      }

  pub draws : (slots id : ℕ) (me : M) → me.0.stage ≡ 0 → 0 < me.0.left → Allows Rule slots id me 0 (λ n. (n + 1) % 2 ^ 64) (drew (step slots 0 1 0 none) me)
  draws slots id me rest some_left s r deep at small =
      let P : List ℕ → Type 0 = λ ws. (w : W) × (a : Act (Option T)) × Rattle.atomic_table.specs.Table.Valid s.homes me.1 a
      × Rule (stepped record { words = ws; homes = s.homes; views = s.views } 0 ((get_or ws 0 0 + 1) % 2 ^ 64) id me.1 w a) × drew (step slots 0 1 0 none) me (get_or ws 0 0) (w, Rattle.atomic_table.specs.Table.carried_after me.1 a) in
      let few : r.next < 2 ^ 62 = let sum = lefts_set s.views id me.0 me.0 at in let a = r.budget in let b = r.few in let c = lefts_least s.views id me.0 at in omega arith in
      subst P (sym r.words) (waiting me.0 r.next, keeps, tt, draws_at s r id me at rest some_left r.words, (refl, few))

  -- the pass with the lowest ticket finds the slot at home
  found_home : (s : St) (r : Rule s) (id : ℕ) (v : W) → get_elem? s.views id ≡ some v → v.stage ≡ 1 → length r.log ≡ v.ticket → AtHome outcome o r.log s.views s.homes
  found_home s r id v at one here = ⊎_elim (λ (h : AtHome outcome o r.log s.views s.homes). h)
      (λ (h : AtTurn outcome o r.log s.views s.homes).
      let same : h.1 ≡ id → (h.2).stage ≡ v.stage = λ e. ap (λ (z : W). z.stage) (some-injective h.2 v (sym h.3 ∙ (ap (get_elem? s.views) e ∙ at))) in
      let t = ((r.each h.1 h.2 h.3).turn h.4).0 in
      dite (ℕ_discrete h.1 id) (λ e. let q = same e in let two = h.4 in absurd (omega arith))
      (λ ne. let two = h.4 in absurd ((r.apart h.1 id h.2 v ne h.3 at).tickets (λ z. omega arith) (λ z. omega arith) (t ∙ here))))
      r.slot

  takes_turn : (s : St) (r : Rule s) (id : ℕ) (me : M) → get_elem? s.views id ≡ some me.0 → me.0.stage ≡ 1 → length r.log ≡ me.0.ticket → (h : AtHome outcome o r.log s.views s.homes)
      → Rule record { words = r.next ∷ length r.log ∷ []; homes = none ∷ []; views = set s.views id (turning me.0 r.log) }
  takes_turn s r id me at one here h =
      let v : W = me.0 in let w : W = turning me.0 r.log in let k = r.each id v at in let sum = lefts_set s.views id v w at in let budget = r.budget in
      let wait = k.waits (λ z. omega arith) in record {
        log = r.log;
        next = r.next;
        words = refl;
        behind = r.behind;
        lawful = r.lawful;
        each = each_set (Known o r.log r.next) s.views id w
            record {
              opened = k.opened;
              begins = ([], append-nil r.log);
              short = (r.log, refl);
              rising = k.rising;
              within = λ p has. let a = k.within p has in let b = prefix_length v.seen r.log k.begins in omega arith;
              waits = λ _. wait;
              turn = λ _. (sym here, refl);
            }
            (λ j u ne e. r.each j u e);
        apart = apart_set s.views id w r.apart (λ j u ne e. let a = r.apart id j v u (λ z. ne (sym z)) at e in
            record { tickets = λ x y z. a.tickets (λ q. omega arith) y z; places = a.places });
        budget = omega arith;
        few = r.few;
        slot = inr (refl, id, w, set_here s.views id w (at_inside s.views id v at), refl);
      }

  pub awaits : (slots id : ℕ) (me : M) → me.0.stage ≡ 1 → me.1 ≡ [] → Allows Rule slots id me 1 (λ n. n) (awaited legal outcome (step slots 1 0 0 none) me)
  awaits slots id me one bare s r deep at small =
      let P : List ℕ → Type 0 = λ ws. (w : W) × (a : Act (Option T)) × Rattle.atomic_table.specs.Table.Valid s.homes me.1 a
      × Rule (stepped record { words = ws; homes = s.homes; views = s.views } 1 (get_or ws 1 0) id me.1 w a) × awaited legal outcome (step slots 1 0 0 none) me (get_or ws 1 0) (w, Rattle.atomic_table.specs.Table.carried_after me.1 a) in
      subst P (sym r.words) (dite (ℕ_discrete (length r.log) me.0.ticket)
      (λ here. let h = found_home s r id me.0 at one here in (
        turning me.0 r.log,
        takes 0 (Some h.0),
        ap (λ (hs : Homes). get_elem? hs 0) h.1,
        subst (λ (hs : Homes). Rule record { words = r.next ∷ length r.log ∷ []; homes = set hs 0 none; views = set s.views id (turning me.0 r.log) }) (sym h.1) (takes_turn s r id me at one here h),
        (
          (λ ne. absurd (ne here)),
          (λ _. (
            h.0,
            r.log,
            ap (λ (c : List (ℕ × Option T)). (turning me.0 r.log, (0, Some h.0) ∷ c)) bare,
            (r.each id me.0 at).begins,
            refl,
            λ x is. let e = (r.each id me.0 at).opened x is in subst (λ (z : O). legal z r.log × outcome z r.log h.0) (sym e) (r.lawful, h.2),
          )),
        ),
      ))
      (λ ne. (
        me.0,
        keeps,
        tt,
        let P' : List W → Type 0 = λ vs. Rule record { words = r.next ∷ length r.log ∷ []; homes = s.homes; views = vs } in
            subst P' (sym (set_again s.views id me.0 at)) (subst (λ (ws : List ℕ). Rule record { words = ws; homes = s.homes; views = s.views }) r.words r),
        ((λ _. refl), (λ e. absurd (ne e))),
      )))

  -- the others, once the turn of the pass v has ended
  known_further : (log : List E) (e : E) (next : ℕ) (v u : W) → v.stage ≡ 2 → v.ticket ≡ length log → Apart v u → Known o log next u → Known o (log ++ e ∷ []) next u
  known_further log e next v u two here a k = let n = length-append log (e ∷ []) in record {
    opened = k.opened;
    begins = prefix_more u.seen log (e ∷ []) k.begins;
    short = k.short;
    rising = k.rising;
    within = k.within;
    waits = λ s. let w = k.waits s in let other : v.ticket ≢ u.ticket = a.tickets (λ z. omega arith) s in
        let past : length (log ++ e ∷ []) ≤ u.ticket = omega arith in (past, w.1);
    turn = λ s. let t = (k.turn s).0 in absurd (a.tickets (λ z. omega arith) (λ z. omega arith) (here ∙ sym t));
  }

  ends_at : (s : St) (r : Rule s) (id : ℕ) (me : M) (e : E) (y : T) → get_elem? s.views id ≡ some me.0 → me.0.stage ≡ 2
      → ((x : O) × (me.0.opening ≡ Some x) × legal x (me.0.seen ++ e ∷ []) × outcome x (me.0.seen ++ e ∷ []) y)
      → Rule record { words = r.next ∷ ((length r.log + 1) % 2 ^ 64) ∷ []; homes = some (Some y) ∷ []; views = set s.views id (ending me.0 (e ∷ [])) }
  ends_at s r id me e y at two good =
      let v : W = me.0 in let w : W = ending me.0 (e ∷ []) in let k = r.each id v at in let sum = lefts_set s.views id v w at in
      let budget = r.budget in let few = r.few in let behind = r.behind in
      let wait = k.waits (λ z. omega arith) in let turn = k.turn two in let here = turn.0 in
      let n : length (r.log ++ e ∷ []) ≡ length r.log + 1 = length-append r.log (e ∷ []) ∙ (omega arith) in
      let m : (length r.log + 1) % 2 ^ 64 ≡ length (r.log ++ e ∷ []) = omega arith in
      let seen : v.seen ++ e ∷ [] ≡ r.log ++ e ∷ [] = ap (λ z. z ++ e ∷ []) turn.1 in
      let long : length v.seen ≡ length r.log = ap length turn.1 in
      let told : good.0 ≡ o = k.opened good.0 good.1 in
      let fine : legal o (r.log ++ e ∷ []) × outcome o (r.log ++ e ∷ []) y = subst (λ (z : O × List E). legal z.0 z.1 × outcome z.0 z.1 y) (λ i. (told i, seen i)) (good.2, good.3) in record {
        log = r.log ++ e ∷ [];
        next = r.next;
        words = ap (λ (z : ℕ). r.next ∷ z ∷ []) m;
        behind = omega arith;
        lawful = fine.0;
        each = each_set (Known o (r.log ++ e ∷ []) r.next) s.views id w
            record {
              opened = k.opened;
              begins = ([], append-nil (v.seen ++ e ∷ []) ∙ seen);
              short = prefix_more v.shorter v.seen (e ∷ []) k.short;
              rising = rises_snoc 0 v.mine (length v.seen + 1) (omega arith) k.rising (λ p has. let a = k.within p has in omega arith);
              within = λ p has. let l = length-append v.seen (e ∷ []) in ⊎_elim (λ (a : Has v.mine p). let b = k.within p a in omega arith) (λ (a : length v.seen + 1 ≡ p). omega arith) (has_snoc v.mine (length v.seen + 1) p has);
              waits = λ z. absurd (z refl);
              turn = λ z. absurd (omega arith);
            }
            (λ j u ne at'. known_further r.log e r.next v u two here (r.apart id j v u (λ z. ne (sym z)) at at') (r.each j u at'));
        apart = apart_set s.views id w r.apart (λ j u ne at'. let a = r.apart id j v u (λ z. ne (sym z)) at at' in
            record {
              tickets = λ z. absurd (z refl);
              places = λ p mine his. ⊎_elim (λ (b : Has v.mine p). a.places p b his)
                  (λ (b : length v.seen + 1 ≡ p). let q = (r.each j u at').within p his in let l = prefix_length u.seen r.log (r.each j u at').begins in absurd (omega arith)) (has_snoc v.mine (length v.seen + 1) p mine);
            });
        budget = omega arith;
        few = r.few;
        slot = inl (
          y,
          refl,
          fine.1,
          each_set (λ (z : W). z.stage ≢ 2) s.views id w (λ z. omega arith)
              (λ j u ne at' s2. (r.apart id j v u (λ z. ne (sym z)) at at').tickets (λ z. omega arith) (λ z. omega arith) (here ∙ sym ((r.each j u at').turn s2).0)),
        );
      }

  out_now : (s : St) (r : Rule s) (id : ℕ) (v : W) → get_elem? s.views id ≡ some v → v.stage ≡ 2 → s.homes ≡ none ∷ []
  out_now s r id v at two = ⊎_elim (λ (h : AtHome outcome o r.log s.views s.homes). absurd (h.3 id v at two)) (λ (h : AtTurn outcome o r.log s.views s.homes). h.0) r.slot

  pub ends : (slots id : ℕ) (me : M) (more : List E) (e : E) (y : T) → me.0.stage ≡ 2 → me.1 ≡ (0, Some y) ∷ [] → more ≡ e ∷ []
      → ((x : O) × (me.0.opening ≡ Some x) × legal x (me.0.seen ++ e ∷ []) × outcome x (me.0.seen ++ e ∷ []) y)
      → Allows Rule slots id me 1 (λ n. (n + 1) % 2 ^ 64) (ended more (step slots 1 1 0 none) me)
  ends slots id me more e y two holding single good s r deep at small =
      let P : List ℕ → Type 0 = λ ws. (w : W) × (a : Act (Option T)) × Rattle.atomic_table.specs.Table.Valid s.homes me.1 a
      × Rule (stepped record { words = ws; homes = s.homes; views = s.views } 1 ((get_or ws 1 0 + 1) % 2 ^ 64) id me.1 w a) × ended more (step slots 1 1 0 none) me (get_or ws 1 0) (w, Rattle.atomic_table.specs.Table.carried_after me.1 a) in
      let r' = ends_at s r id me e y at two good in
      let counted : length (ending me.0 (e ∷ [])).mine ≤ 2 ^ 62 = known_few r' id (ending me.0 (e ∷ [])) (set_here s.views id (ending me.0 (e ∷ [])) (at_inside s.views id me.0 at)) in
      let after = r'.each id (ending me.0 (e ∷ [])) (set_here s.views id (ending me.0 (e ∷ [])) (at_inside s.views id me.0 at)) in
      let rise : RiseUpTo (length (ending me.0 (e ∷ [])).seen) (ending me.0 (e ∷ [])).mine = (after.rising, after.within) in
      let Q : List (ℕ × Option T) → Homes → Type 0 = λ c hs. Rule record { words = r.next ∷ ((length r.log + 1) % 2 ^ 64) ∷ []; homes = put_back hs c; views = set s.views id (ending me.0 (e ∷ [])) } in
      subst P (sym r.words) (
        ending me.0 (e ∷ []),
        gives,
        tt,
        subst (λ (c : List (ℕ × Option T)). Q c s.homes) (sym holding) (subst (λ (hs : Homes). Q ((0, Some y) ∷ []) hs) (sym (out_now s r id me.0 at two)) r'),
        ((λ i. (ending me.0 (sym single i), rest (holding i))), counted, rise),
      )

  pub looks : (slots id : ℕ) (me : M) → ((x : O) (h k : List E) → legal x (h ++ k) → legal x h) → Allows Rule slots id me 1 (λ n. n) (looked legal (step slots 1 0 0 none) me)
  looks slots id me earlier s r deep at small =
      let k = r.each id me.0 at in let sum = lefts_least s.views id me.0 at in let b = r.budget in let f = r.few in
      let P : List ℕ → Type 0 = λ ws. (w : W) × (a : Act (Option T)) × Rattle.atomic_table.specs.Table.Valid s.homes me.1 a
      × Rule (stepped record { words = ws; homes = s.homes; views = s.views } 1 (get_or ws 1 0) id me.1 w a) × looked legal (step slots 1 0 0 none) me (get_or ws 1 0) (w, Rattle.atomic_table.specs.Table.carried_after me.1 a) in
      subst P (sym r.words) (
        me.0,
        keeps,
        tt,
        subst (λ (vs : List W). Rule record { words = r.next ∷ length r.log ∷ []; homes = s.homes; views = vs }) (sym (set_again s.views id me.0 at))
            (subst (λ (ws : List ℕ). Rule record { words = ws; homes = s.homes; views = s.views }) r.words r),
        (refl, (λ x e. earlier x me.0.seen k.begins.0 (subst (λ (z : O × List E). legal z.0 z.1) (λ i. (sym (k.opened x e) i, sym k.begins.1 i)) r.lawful)), k.short, (k.rising, k.within), (omega arith), known_few r id me.0 at),
      )

  pub splits : (id n : ℕ) (v : W) → v.stage ≡ 0 → n ≤ v.left → Splits Rule id v (kept_part n v) (given_part n v)
  splits id n v rest le s r at =
      let w : W = kept_part n v in let u : W = given_part n v in let k = r.each id v at in
      let sum = lefts_set s.views id v w at in let more = lefts_snoc (set s.views id w) u in let budget = r.budget in
      let known : (j : ℕ) (x : W) → get_elem? (set s.views id w) j ≡ some x → Known o r.log r.next x = each_set (Known o r.log r.next) s.views id w
      record { opened = k.opened; begins = k.begins; short = k.short; rising = k.rising; within = k.within; waits = k.waits; turn = k.turn } (λ j x ne e. r.each j x e) in
      let new : Known o r.log r.next u = record { opened = k.opened; begins = k.begins; short = (v.seen, refl); rising = tt; within = λ p h. absurd h; waits = λ z. absurd (z refl); turn = λ e. absurd (omega arith) } in
      let alone : (x : W) → Apart u x = λ x. record { tickets = λ z. absurd (z refl); places = λ p h. absurd h } in record {
        log = r.log;
        next = r.next;
        words = r.words;
        behind = r.behind;
        lawful = r.lawful;
        each = each_snoc (Known o r.log r.next) (set s.views id w) u new known;
        apart = apart_snoc (set s.views id w) u (apart_set s.views id w r.apart (λ j x ne e. let a = r.apart id j v x (λ z. ne (sym z)) at e in record { tickets = a.tickets; places = a.places })) alone;
        budget = omega arith;
        few = r.few;
        slot = slot_longer r.log (set s.views id w) s.homes u (λ z. omega arith) (slot_stays r.log s.views s.homes id v w at (λ z. omega arith) (λ z. omega arith) r.slot);
      }

  pub joins : (id : ℕ) (v : W) (other : ℕ) (w : W) → v.stage ≡ 0 → w.stage ≡ 0 → Joins Rule id v other w (joined v w) spent
  joins id v other w rest rest' s r at ne' at' =
      let b : W = joined v w in let views : List W = set s.views id b in
      let was : get_elem? s.views other ≡ some w = sym (set_else s.views id other b ne') ∙ at' in
      let k = r.each id v at in let l = r.each other w was in let a = r.apart id other v w (λ z. ne' (sym z)) at was in
      let sum = lefts_set s.views id v b at in let sum' = lefts_set views other w spent at' in let budget = r.budget in
      let long = longer_length v.seen w.seen in
      let both : Known o r.log r.next b = record {
        opened = k.opened;
        begins = longer_begins v.seen w.seen r.log k.begins l.begins;
        short = shorter_begins v.seen w.seen r.log k.begins l.begins;
        rising = merged_rises 0 v.mine w.mine k.rising l.rising a.places;
        within = λ p h. ⊎_elim (λ (x : Has v.mine p). let c = k.within p x in let d = long.0 in omega arith) (λ (x : Has w.mine p). let c = l.within p x in let d = long.1 in omega arith) (merged_has v.mine w.mine p h);
        waits = λ z. absurd (z rest);
        turn = λ z. absurd (omega arith);
      } in
      let none_left : Known o r.log r.next spent = record { opened = λ x e. absurd (none_some x e); begins = (r.log, refl); short = ([], refl); rising = tt; within = λ p h. absurd h; waits = λ z. absurd (z refl); turn = λ z. absurd (omega arith) } in
      let at_both : get_elem? views id ≡ some b = set_here s.views id b (at_inside s.views id v at) in
      let away : (j : ℕ) (x : W) → j ≢ other → j ≢ id → get_elem? views j ≡ some x → get_elem? s.views j ≡ some x = λ j x no_o no_i e. sym (set_else s.views id j b no_i) ∙ e in record {
        log = r.log;
        next = r.next;
        words = r.words;
        behind = r.behind;
        lawful = r.lawful;
        each = each_set (Known o r.log r.next) views other spent none_left (λ j x no_o e. dite (ℕ_discrete j id)
            (λ same. subst (Known o r.log r.next) (some-injective b x (sym at_both ∙ (ap (get_elem? views) (sym same) ∙ e))) both) (λ no_i. r.each j x (away j x no_o no_i e)));
        apart = joined_apart s r id v other w rest rest' at ne' was;
        budget = omega arith;
        few = r.few;
        slot = slot_stays r.log views s.homes other w spent at' (λ z. omega arith) (λ z. omega arith) (slot_stays r.log s.views s.homes id v b at (λ z. omega arith) (λ z. omega arith) r.slot);
      }

  -- a pass that has used all turns but those it has left knows the whole history, and the value is home
  pub closes : (s : St) (r : Rule s) (id : ℕ) (v : W) → get_elem? s.views id ≡ some v → v.left + length v.mine ≡ turns
      → (x : T) × (get_elem? s.homes 0 ≡ some (some (Some x))) × outcome o v.seen x × legal o v.seen × (v.mine ≡ places_after 0 (length v.seen)) × (length v.mine ≡ length v.seen)
  closes s r id v at all =
      let k = r.each id v at in let a = rises_length 0 v.mine (length v.seen) (omega arith) k.rising k.within in let b = prefix_length v.seen r.log k.begins in
      let c = r.behind in let d = r.budget in let l = lefts_least s.views id v at in
      let whole : v.seen ≡ r.log = prefix_whole v.seen r.log k.begins (omega arith) in
      let full : length v.mine ≡ length v.seen = omega arith in
      let home = ⊎_elim (λ (h : AtHome outcome o r.log s.views s.homes). h) (λ (h : AtTurn outcome o r.log s.views s.homes). let two = h.4 in let w = (r.each h.1 h.2 h.3).waits (λ z. omega arith) in absurd (omega arith)) r.slot in (
        home.0,
        ap (λ (hs : Homes). get_elem? hs 0) home.1,
        subst (λ (h : List E). outcome o h home.0) (sym whole) home.2,
        subst (legal o) (sym whole) r.lawful,
        rises_full 0 v.mine (length v.seen) k.rising (λ p h. let q = k.within p h in omega arith) full,
        full,
      )

  pub begins : (x : T) → legal o [] → outcome o [] x → turns ≤ 2 ^ 62 → Rule (opening (0 ∷ 0 ∷ []) (Some x ∷ []) (newcomer o turns))
  begins x lawful good few = record {
    log = [];
    next = 0;
    words = refl;
    behind = omega arith;
    lawful = lawful;
    each = one_each;
    apart = one_apart;
    budget = omega arith;
    few = few;
    slot = inl (x, refl, good, one_rests);
  }
    where
      first : W
      first = newcomer o turns

      only : (j : ℕ) (v : W) → get_elem? (newcomer o turns ∷ []) j ≡ some v → (j ≡ 0) × (newcomer o turns ≡ v)
      only zero v e = (refl, some-injective (newcomer o turns) v e)
      only (suc j) v e = absurd (some-ne-none v (sym e))

      one_each : (j : ℕ) (v : W) → get_elem? (newcomer o turns ∷ []) j ≡ some v → Known o [] 0 v
      one_each j v e = subst (Known o [] 0) (only j v e).1 record { opened = λ y q. some_is y o (sym q); begins = ([], refl); short = ([], refl); rising = tt; within = λ p h. absurd h; waits = λ z. absurd (z refl); turn = λ z. absurd (omega arith) }

      one_apart : (i j : ℕ) (v w : W) → i ≢ j → get_elem? (newcomer o turns ∷ []) i ≡ some v → get_elem? (newcomer o turns ∷ []) j ≡ some w → Apart v w
      one_apart i j v w ne e f = absurd (ne ((only i v e).0 ∙ sym (only j w f).0))

      one_rests : (j : ℕ) (v : W) → get_elem? (newcomer o turns ∷ []) j ≡ some v → v.stage ≢ 2
      one_rests j v e two = let z : 0 ≡ v.stage = ap (λ (y : W). y.stage) (only j v e).1 in omega arith

  -- what the table holds at its end
  pub closed_with : (ws : List ℕ) (xs : List (Option T)) (id : ℕ) (v : W) → Final (Seen Rule id v) ws xs → v.left + length v.mine ≡ turns
      → (x : T) × (get_elem? xs 0 ≡ some (Some x)) × outcome o v.seen x × legal o v.seen × (v.mine ≡ places_after 0 (length v.seen)) × (length v.mine ≡ length v.seen)
  closed_with ws xs id v f all = let q = closes f.0 f.1.0 id v f.1.1 all in (q.0, f.4 0 (Some q.0) q.1, q.2, q.3, q.4, q.5)
