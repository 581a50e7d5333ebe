-- A run of wanted rows among all: it stands in one block, and what was filled in and read with it.
use Rattle.std.proofs.Common.{◌≡◌, refl, ap, sym, subst, ◌∙◌, ℕ, zero, suc, ◌+◌, ◌-◌, ◌<◌, ◌≤◌, List, [], ◌∷◌, ◌++◌, map, length, take, drop, arith}
use Rattle.std.specs.Prelude.{All, Ok, Result}
use Rattle.std.proofs.lemmas.List.Elements.{All-cons, All-nil}
use Rattle.dev_traits.specs.declared.faults.ReadFault.{ReadFault}
use Rattle.dev_traits.specs.declared.faults.ReadFault.TheVariants as read
use Rattle.segment_read.specs.Reads.{OnDamage}
use Rattle.snapshot_scan.specs.Snapshots.{SnapshotView}
use Rattle.partial_loads.specs.declared.folds.Folded.{Folded}
use Rattle.old_rows.specs.Reading.{AreFilled, HaveKeys, IsReadingDamage, Olds, ReadBlocks, ReadsCause, SameButCounts}
use Rattle.old_rows.specs.Wanted.{InOneBlock, IsRun, block_of, place_wanted, runs}
use Rattle.old_rows.specs.declared.wanted.Wanted.{Wanted}
use Rattle.old_rows.proofs.FillFacts.{filled-same}
use Rattle.old_rows.proofs.FillingFacts.{ReadSoFar, all-read, damage-of-all, run-read}
use Rattle.old_rows.proofs.StillFacts.{none-counted, ok_err, same-back}

all-drop : (P : Wanted → Type 0) (n : ℕ) (ws : List Wanted) → All P ws → All P (drop n ws)
all-drop P zero ws h = h
all-drop P (suc n) [] h = h
all-drop P (suc n) (w ∷ ws) h = all-drop P n ws (λ i d lt. h (suc i) d (omega arith))

all-take : (P : Wanted → Type 0) (n : ℕ) (ws : List Wanted) → All P ws → All P (take n ws)
all-take P zero ws h = All-nil P
all-take P (suc n) [] h = h
all-take P (suc n) (w ∷ ws) h = All-cons P w (take n ws) (h 0 w (omega arith)) (all-take P n ws (λ i d lt. h (suc i) d (omega arith)))

drop-none : (n : ℕ) → drop {A = Wanted} n [] ≡ []
drop-none zero = refl
drop-none (suc n) = refl

take-none : (n : ℕ) → take {A = Wanted} n [] ≡ []
take-none zero = refl
take-none (suc n) = refl

drop-drop : (n m : ℕ) (ws : List Wanted) → drop m (drop n ws) ≡ drop (n + m) ws
drop-drop zero m ws = let e : m ≡ 0 + m = omega arith in ap (λ k. drop k ws) e
drop-drop (suc n) m [] = drop-none m ∙ sym (drop-none (suc n + m))
drop-drop (suc n) m (w ∷ ws) = let e : suc (n + m) ≡ suc n + m = omega arith in drop-drop n m ws ∙ ap (λ k. drop k (w ∷ ws)) e

take-take : (n m : ℕ) (ws : List Wanted) → take n ws ++ take m (drop n ws) ≡ take (n + m) ws
take-take zero m ws = let e : m ≡ 0 + m = omega arith in ap (λ k. take k ws) e
take-take (suc n) m [] = take-none m ∙ sym (take-none (suc n + m))
take-take (suc n) m (w ∷ ws) = let e : suc (n + m) ≡ suc n + m = omega arith in ap (λ xs. w ∷ xs) (take-take n m ws) ∙ ap (λ k. take k (w ∷ ws)) e

some-left : (n : ℕ) (ws : List Wanted) → n < length ws → (u : Wanted) × (us : List Wanted) × (drop n ws ≡ u ∷ us)
some-left n [] lt = absurd (omega arith)
some-left zero (w ∷ ws) lt = (w, ws, refl)
some-left (suc n) (w ∷ ws) lt = some-left n ws (omega arith)

head_is : (a b : Wanted) (xs ys : List Wanted) → a ∷ xs ≡ b ∷ ys → a ≡ b
head_is a b xs ys e = cc

pub take-all : (n : ℕ) (ws : List Wanted) → length ws ≤ n → take n ws ≡ ws
take-all zero [] le = refl
take-all zero (w ∷ ws) le = absurd (omega arith)
take-all (suc n) [] le = refl
take-all (suc n) (w ∷ ws) le = ap (λ vs. w ∷ vs) (take-all n ws (omega arith))

-- ---- a run

front : (count : ℕ) (u : Wanted) (us : List Wanted) → 1 ≤ count → (vs : List Wanted) × (take count (u ∷ us) ≡ u ∷ vs)
front zero u us some = absurd (omega arith)
front (suc n) u us some = (take n us, refl)

drop-long : (n : ℕ) (ws : List Wanted) → n ≤ length ws → n + length (drop n ws) ≡ length ws
drop-long zero ws le = omega arith
drop-long (suc n) [] le = absurd (omega arith)
drop-long (suc n) (w ∷ ws) le = let more = drop-long n ws (omega arith) in omega (arith, more)

-- the slices that are taken
pub rest-is : (n : ℕ) (ws : List Wanted) → n ≤ length ws → take (length ws - n) (drop n ws) ≡ drop n ws
rest-is n ws le = let long = drop-long n ws le in take-all (length ws - n) (drop n ws) (omega (arith, long))

pub run-is : (n m : ℕ) (ws : List Wanted) → take (n + m - n) (drop n ws) ≡ take m (drop n ws)
run-is n m ws = let e : n + m - n ≡ m = omega arith in ap (λ k. take k (drop n ws)) e

module _ (wanted : List Wanted) (at count : ℕ) (lt : at < length wanted) (rest run : List Wanted) (rest_is : rest ≡ drop at wanted) (run_is : run ≡ take count (drop at wanted))
    (is_rest : IsRun count rest) where
  is : IsRun count (drop at wanted)
  is = subst (IsRun count) rest_is is_rest

  pub run-most : at + count ≤ length wanted
  run-most = let long = drop-long at wanted (omega (arith, lt)) in omega (arith, long, is.most)

  head : (u : Wanted) × (us : List Wanted) × (drop at wanted ≡ u ∷ us)
  head = some-left at wanted lt

  first : (vs : List Wanted) × (run ≡ head.0 ∷ vs)
  first =
      let vs = front count head.0 head.1 is.some in
      (vs.0, run_is ∙ ap (take count) head.2 ∙ vs.1)

  pub run-some : 0 < length run
  run-some = let e : length run ≡ suc (length first.0) = ap length first.1 in omega (arith, e)

  pub run-one : InOneBlock run
  run-one w ws e =
      subst (λ u. All (λ v. block_of v.place ≡ block_of u.place) run) (head_is head.0 w first.0 ws (sym first.1 ∙ e))
      (subst (All (λ v. block_of v.place ≡ block_of head.0.place)) (sym run_is) (is.one head.0 head.1 head.2))

  pub run-keys : (keys : List Folded) → HaveKeys keys wanted → HaveKeys keys run
  run-keys keys have = subst (All (λ w. w.key < length keys)) (sym run_is) (all-take (λ w. w.key < length keys) count (drop at wanted) (all-drop (λ w. w.key < length keys) at wanted have))

  runs-are : runs (map place_wanted (drop at wanted)) ≡ block_of head.0.place ∷ runs (map place_wanted (drop (at + count) wanted))
  runs-are = is.rest head.0 head.1 head.2 ∙ ap (λ ws. block_of head.0.place ∷ runs (map place_wanted ws)) (drop-drop at count wanted)

  module _ (v mid new : SnapshotView) (same : SameButCounts v mid) where
    pub run-filled : (keys : List Folded) (old after : Olds) → AreFilled v keys (take at wanted) old
        → ((done : List Wanted) → AreFilled mid keys done old → AreFilled mid keys (done ++ run) after) → AreFilled v keys (take (at + count) wanted) after
    run-filled keys old after filled more =
        filled-same v mid keys (take (at + count) wanted) after same
        (subst (λ ws. AreFilled mid keys ws after) (ap (λ ws. take at wanted ++ ws) run_is ∙ take-take at count wanted)
        (more (take at wanted) (filled-same mid v keys (take at wanted) old (same-back v mid same) filled)))

    module _ (before : ReadSoFar wanted at v.parts mid.parts) (read : (w : Wanted) (ws : List Wanted) → run ≡ w ∷ ws → ReadBlocks (block_of w.place ∷ []) mid.parts new.parts) where
      pub run-reads : ReadSoFar wanted (at + count) v.parts new.parts
      run-reads = run-read wanted at (at + count) (block_of head.0.place) v mid new.parts runs-are before same (read head.0 first.0 first.1)

      pub last-reads : ReadBlocks (runs (map place_wanted wanted)) v.parts new.parts
      last-reads = all-read wanted at (block_of head.0.place) (runs (map place_wanted (drop (at + count) wanted))) v mid new.parts runs-are before same (read head.0 first.0 first.1)

    pub run-damage : (keys : List Folded) (e : ReadFault) → OnDamage e (IsReadingDamage mid keys run) → OnDamage e (IsReadingDamage v keys wanted)
    run-damage keys (read.Damaged d) h = damage-of-all v mid keys wanted run at count d same run_is h
    run-damage keys read.StoreFault h = tt
    run-damage keys read.Memory h = tt

pub faults-after : {T : Type 0} (old mid new : ℕ) (result : Result T ReadFault) (x : T) → result ≡ Ok x → mid ≡ old → ReadsCause mid new result → new ≡ old
faults-after old mid new result x is same cause = cause.well (λ e. ok_err (sym is ∙ e)) ∙ same

pub well-counted : {T : Type 0} (old new : ℕ) (result : Result T ReadFault) (x : T) → result ≡ Ok x → new ≡ old → ReadsCause old new result
well-counted old new result x is same = subst (λ n. ReadsCause old n result) (sym same) (none-counted old result (λ e. ok_err (sym is ∙ e)))
