-- One area, call by call.
use Rattle.std.proofs.Common.{◌≡◌, ℕ, zero, ◌+◌, ◌-◌, ◌≤◌, ◌<◌, Bool, true, false, nat_eq, if◌then◌else◌, List, [], ◌∷◌, ◌++◌, length, get_or, set, take, drop, map, Result, Ok, Err, OnOk, refl, sym, ◌∙◌, ap, subst, arith, length-drop, length-take}
use Rattle.std.proofs.lemmas.Bool.Decides.{nat_tests}
use Rattle.std.proofs.lemmas.List.{length-map, get_or_default, take_rest, drop_more, take_more, drop-drop, get_or-set_same, get_or-set_other, take-append-drop}
use Rattle.std.proofs.Math.ListN.{get_or-map}
use Rattle.std.proofs.lemmas.Bool.{eqb-true}
use Rattle.dev_traits.specs.Image.{Torn}
use Rattle.dev_memory.specs.Disk.{Deed, Wrote, Synced, Blanked, ChangedFiles, AreaDisk, at_rest, area_in, Reaches, wrote, blanked, after, replay, deeds, written}
use Rattle.dev_memory.specs.Crash.{size_of, deed_of, one_after, one_replay, settles, IsAtRest, Remains, Left}
use Rattle.dev_memory.specs.Laws.{length-after}
use Rattle.dev_memory.specs.declared.call.Call.{Call}
use Rattle.dev_memory.specs.declared.call.Call.TheVariants.{Write, Sync, Blank, OnFiles}
use Rattle.dev_memory.proofs.Calls.{deeds-append, written-append}

-- Calls, one after the other.

drop_none : (l : List ℕ) → drop zero l ≡ l
drop_none [] = refl
drop_none (x ∷ l) = refl

deeds_split : (call : Call) (calls : List Call) (pieces : List ℕ) → deeds pieces (call ∷ calls) ≡ deed_of (take (size_of call) pieces) call ∷ deeds (drop (size_of call) pieces) calls
deeds_split (Write a at size done) calls pieces = refl
deeds_split (Sync a) calls pieces = ap (λ (l : List ℕ). Synced a ∷ deeds l calls) (sym (drop_none pieces))
deeds_split (Blank a done) calls pieces = ap (λ (l : List ℕ). Blanked a done ∷ deeds l calls) (sym (drop_none pieces))
deeds_split OnFiles calls pieces = ap (λ (l : List ℕ). ChangedFiles ∷ deeds l calls) (sym (drop_none pieces))

written_split : (call : Call) (calls : List Call) → written (call ∷ calls) ≡ size_of call + written calls
written_split (Write a at size done) calls = refl
written_split (Sync a) calls = omega arith
written_split (Blank a done) calls = omega arith
written_split OnFiles calls = omega arith

-- the call at a place and those behind it, with their bytes from an offset on
pub record NextCall (calls : List Call) (pieces : List ℕ) (i at : ℕ) (call : Call) (piece : List ℕ) : Type 0 where
  pub deeds_is : deeds (drop at pieces) (drop i calls) ≡ deed_of piece call ∷ deeds (drop (at + length piece) pieces) (drop (i + 1) calls)
  pub written_is : at + length piece + written (drop (i + 1) calls) ≡ at + written (drop i calls)

pub next_call : (calls : List Call) (pieces : List ℕ) (i at : ℕ) (call e : Call) (piece : List ℕ) → i < length calls → call ≡ get_or calls i e → at + written (drop i calls) ≤ length pieces
    → piece ≡ take (size_of call) (take (length pieces - at) (drop at pieces)) → NextCall calls pieces i at call piece
next_call calls pieces i at call e piece lt is fits given =
    let split : drop i calls ≡ call ∷ drop (i + 1) calls = drop_more calls i e lt ∙ ap (λ (c : Call). c ∷ drop (i + 1) calls) (sym is) in
    let here : written (drop i calls) ≡ size_of call + written (drop (i + 1) calls) = ap written split ∙ written_split call (drop (i + 1) calls) in
    let part = given ∙ ap (take (size_of call)) (take_rest pieces at) in
    let size : length piece ≡ size_of call = omega (arith, here, fits, ap length part, length-take (size_of call) (drop at pieces), length-drop at pieces) in
    record {
      deeds_is = ap (deeds (drop at pieces)) split ∙ deeds_split call (drop (i + 1) calls) (drop at pieces)
          ∙ (λ j. deed_of (sym part j) call ∷ deeds ((drop-drop (size_of call) at pieces ∙ ap (λ (n : ℕ). drop (at + n) pieces) (sym size)) j) (drop (i + 1) calls));
      written_is = omega (arith, here, size);
    }

-- At rest.

replay_append : (a : ℕ) (xs ys : List Deed) (d : AreaDisk) → one_replay a (xs ++ ys) d ≡ one_replay a ys (one_replay a xs d)
replay_append a [] ys d = refl
replay_append a (x ∷ xs) ys d = replay_append a xs ys (one_after a x d)

settled : (a : ℕ) (call : Call) (piece : List ℕ) (d : AreaDisk) → settles a call ≡ true → IsAtRest (one_after a (deed_of piece call) d)
settled a (Write b at size done) piece d is = cc
settled a (Sync b) piece d is = subst (λ (t : Bool). IsAtRest (if t then at_rest d.bytes else d)) (sym is) refl
settled a (Blank b true) piece d is = subst (λ (t : Bool). IsAtRest (if t then at_rest (0 ∷ []) else d)) (sym is) refl
settled a (Blank b false) piece d is = cc
settled a OnFiles piece d is = cc

pub rests_next : (a : ℕ) (calls : List Call) (i : ℕ) (call e : Call) → i < length calls → call ≡ get_or calls i e → settles a call ≡ true
    → (pieces : List ℕ) (d : AreaDisk) → IsAtRest (one_replay a (deeds pieces (take (i + 1) calls)) d)
rests_next a calls i call e lt is does pieces d =
    let front : take (i + 1) calls ≡ take i calls ++ call ∷ [] = take_more calls i e lt ∙ ap (λ (c : Call). take i calls ++ c ∷ []) (sym is) in
    let rest = drop (written (take i calls)) pieces in
    let split : deeds pieces (take (i + 1) calls) ≡ deeds pieces (take i calls) ++ deed_of (take (size_of call) rest) call ∷ [] =
    ap (deeds pieces) front ∙ deeds-append (take i calls) (call ∷ []) pieces ∙ ap (λ (l : List Deed). deeds pieces (take i calls) ++ l) (deeds_split call [] rest) in
    subst (λ (x : AreaDisk). IsAtRest x) (sym (ap (λ (l : List Deed). one_replay a l d) split ∙ replay_append a (deeds pieces (take i calls)) (deed_of (take (size_of call) rest) call ∷ []) d))
    (settled a call (take (size_of call) rest) (one_replay a (deeds pieces (take i calls)) d) does)

-- What a crash leaves.

torn_less : (at m n : ℕ) (old new : List ℕ) → m ≤ n → Torn at m old new → Torn at n old new
torn_less at m n old new le torn =
    let far : at + m + (n - m) ≡ at + n = omega arith in
    record {
      before = torn.before;
      after = sym (drop-drop (n - m) (at + m) new ∙ ap (λ (k : ℕ). drop k new) far) ∙ ap (λ (l : List ℕ). drop (n - m) l) torn.after ∙ drop-drop (n - m) (at + m) old ∙ ap (λ (k : ℕ). drop k old) far;
      no_shorter = torn.no_shorter;
      no_longer = omega (arith, torn.no_longer);
    }

pub on_ok : {T E : Type 0} {P Q : Type 0} (r : Result T E) → OnOk r P → (P → Q) → OnOk r Q
on_ok (Ok x) p f = f p
on_ok (Err e) p f = p

pub torn_within : (at n : ℕ) (piece old new : List ℕ) → length piece ≤ n → Torn at (length piece) old new → Torn at n old new
torn_within at n piece old new le torn = torn_less at (length piece) n old new le torn

-- the whole: calls up to a rest, and the others
pub left_whole : (a pick : ℕ) (start : List ℕ) (calls : List Call) (pieces : List ℕ) (n : ℕ) (early late : List Call) (at_bytes bytes left : List ℕ) → early ≡ take n calls → late ≡ drop n calls
    → IsAtRest (one_replay a (deeds pieces early) (at_rest start)) → at_bytes ≡ (one_replay a (deeds pieces early) (at_rest start)).bytes → (pick ≡ 0 → ⊥)
    → ((d : AreaDisk) → Remains pick d at_bytes at_bytes → Remains pick (one_replay a (deeds (drop (written early) pieces) late) d) bytes left)
    → Left pick (one_replay a (deeds pieces calls) (at_rest start)) left
left_whole a pick start calls pieces n early late at_bytes bytes left front back rest reads some stands =
    let d = one_replay a (deeds pieces early) (at_rest start) in
    let first : Remains pick d at_bytes at_bytes = record {
      reads = sym reads;
      reaches = subst (λ (x : AreaDisk). Reaches x.base x.steps at_bytes) (sym rest) reads;
      synced = λ one. reads ∙ sym (ap (λ (x : AreaDisk). x.base) rest);
    } in
    let last = stands d first in
    let whole : deeds pieces calls ≡ deeds pieces early ++ deeds (drop (written early) pieces) late =
    ap (deeds pieces) (sym (take-append-drop n calls) ∙ (λ i. sym front i ++ sym back i)) ∙ deeds-append early late pieces in
    subst (λ (x : AreaDisk). Left pick x left) (sym (ap (λ (l : List Deed). one_replay a l (at_rest start)) whole ∙ replay_append a (deeds pieces early) (deeds (drop (written early) pieces) late) (at_rest start)))
    (record { reaches = last.reaches; read = λ none. absurd (some none); synced = last.synced })

-- the bytes of the calls up to a place, and of those behind it
pub written_parts : (calls early late : List Call) (n : ℕ) → early ≡ take n calls → late ≡ drop n calls → written early + written late ≡ written calls
written_parts calls early late n front back =
    sym (written-append early late) ∙ ap written ((λ i. front i ++ back i) ∙ take-append-drop n calls)

-- One area of the disk.

set_after : (a b : ℕ) (f : AreaDisk → AreaDisk) (areas : List AreaDisk) → a < length areas → area_in (set areas b (f (area_in areas b))) a ≡ (if nat_eq b a then f (area_in areas a) else area_in areas a)
set_after a b f areas lt = go (nat_eq b a) refl
  where
    other : nat_eq b a ≡ false → a ≡ b → ⊥
    other is same = grind (arith, nat_tests)

    go : (t : Bool) → nat_eq b a ≡ t → area_in (set areas b (f (area_in areas b))) a ≡ (if t then f (area_in areas a) else area_in areas a)
    go true is = subst (λ (k : ℕ). area_in (set areas k (f (area_in areas k))) a ≡ f (area_in areas a)) (sym (eqb-true b a is)) (get_or-set_same areas a (f (area_in areas a)) (at_rest []) lt)
    go false is = get_or-set_other areas b a (f (area_in areas b)) (at_rest []) (other is)

area_after : (a : ℕ) (deed : Deed) (areas : List AreaDisk) → a < length areas → area_in (after deed areas) a ≡ one_after a deed (area_in areas a)
area_after a (Wrote b at piece ok) areas lt = set_after a b (wrote at piece ok) areas lt
area_after a (Synced b) areas lt = set_after a b (λ d. at_rest d.bytes) areas lt
area_after a (Blanked b ok) areas lt = set_after a b (blanked ok) areas lt
area_after a ChangedFiles areas lt = refl

pub area_replay : (a : ℕ) (all : List Deed) (areas : List AreaDisk) → a < length areas → area_in (replay areas all) a ≡ one_replay a all (area_in areas a)
area_replay a [] areas lt = refl
area_replay a (deed ∷ all) areas lt =
    area_replay a all (after deed areas) (omega (arith, lt, length-after deed areas)) ∙ ap (one_replay a all) (area_after a deed areas lt)

-- an area of the disk, from what it was at first
pub area_from : (a : ℕ) (start : List (List ℕ)) (all : List Deed) (first : List ℕ) → a < length start → first ≡ get_or start a first → area_in (replay (map at_rest start) all) a ≡ one_replay a all (at_rest first)
area_from a start all first lt is =
    area_replay a all (map at_rest start) (omega (arith, lt, length-map start at_rest))
    ∙ ap (one_replay a all) (get_or-map at_rest start a [] ∙ ap at_rest (get_or_default start a [] first lt ∙ sym is))
