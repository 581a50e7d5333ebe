-- Runs of equal cells, one after the other.
use Rattle.std.proofs.Common.{◌≡◌, ℕ, zero, suc, ◌+◌, ◌-◌, ◌<◌, ◌≤◌, List, [], ◌∷◌, ◌++◌, length, replicate, get_or, drop, refl, sym, ap, ◌∙◌, arith, subst, true, false}
use Rattle.std.specs.Str.{bytes_eq}
use Rattle.std.proofs.lemmas.Bool.{false≢true, false_from_ne_true}
use Rattle.std.specs.Prelude.{if◌then◌else◌}
use Rattle.std.proofs.lemmas.List.{append_assoc, drop_more, drop-drop, length-drop, replicate_more}
use Rattle.std.proofs.lemmas.Slice.Eq.{bytes_eq-Decides}
use Rattle.std.specs.Prelude.{All}
use Rattle.std.proofs.Common.{inl, inr}
use Rattle.std.proofs.lemmas.Bool.{cases_Bool}
use Rattle.std.proofs.lemmas.List.Elements.{All-cons, All-head, All-nil, All-tail}
use Rattle.column_page.specs.Reading.{expanded}
use Rattle.column_page.specs.Page.{Cell, FirstDiffers, put_run, runs}

differs_back : (c d : Cell) → bytes_eq d c ≡ false → bytes_eq c d ≡ false
differs_back c d h = false_from_ne_true (bytes_eq c d) (λ t. false≢true (sym h ∙ (bytes_eq-Decides d c).1 (sym ((bytes_eq-Decides c d).0 t))))

-- a cell before runs that begin with another cell is a run of its own
put_apart : (c d : Cell) (rs : List (ℕ × Cell)) → bytes_eq c d ≡ false → put_run c (put_run d rs) ≡ (1, c) ∷ put_run d rs
put_apart c d [] h = rw h refl
put_apart c d (r ∷ rs) h = elim (bytes_eq d r.1) as (λ b. put_run c (if b then (r.0 + 1, d) ∷ rs else (1, d) ∷ r ∷ rs) ≡ (1, c) ∷ (if b then (r.0 + 1, d) ∷ rs else (1, d) ∷ r ∷ rs)) [
  | true ↦ rw h refl
  | false ↦ rw h refl
]

put_new : (c : Cell) (ys : List Cell) → FirstDiffers c ys → put_run c (runs ys) ≡ (1, c) ∷ runs ys
put_new c [] h = refl
put_new c (d ∷ ds) h = put_apart c d (runs ds) (differs_back c d h)

same_cell : (c : Cell) → bytes_eq c c ≡ true
same_cell c = (bytes_eq-Decides c c).1 refl

put_same : (c : Cell) (n : ℕ) (rs : List (ℕ × Cell)) → put_run c ((n, c) ∷ rs) ≡ (n + 1, c) ∷ rs
put_same c n rs = rw (same_cell c) refl

-- equal cells before another cell are one run
pub grown : (n : ℕ) (c : Cell) (ys : List Cell) → FirstDiffers c ys → runs (replicate (suc n) c ++ ys) ≡ (suc n, c) ∷ runs ys
grown zero c ys h = put_new c ys h
grown (suc n) c ys h =
    let k : suc n + 1 ≡ suc (suc n) = omega arith in
    ap (put_run c) (grown n c ys h) ∙ put_same c (suc n) (runs ys) ∙ ap (λ (m : ℕ). (m, c) ∷ runs ys) k

-- a run of l cells stands at place s
pub record RunAt (xs : List Cell) (s l : ℕ) (first : Cell) : Type 0 where
  pub some : 0 < l
  pub within : s + l ≤ length xs
  pub is : runs (drop s xs) ≡ (l, first) ∷ runs (drop (s + l) xs)

no_empty_run : (xs rest : List Cell) (s : ℕ) (first d : Cell) → s < length xs → first ≡ get_or xs s d → rest ≡ drop s xs → FirstDiffers first rest → ⊥
no_empty_run xs rest s first d lt at e h =
    let split : rest ≡ first ∷ drop (s + 1) xs = e ∙ drop_more xs s d lt ∙ ap (λ (c : Cell). c ∷ drop (s + 1) xs) (sym at) in
    let differs : FirstDiffers first (first ∷ drop (s + 1) xs) = subst (FirstDiffers first) split h in
    false≢true (sym differs ∙ same_cell first)

pub run_at : (xs rest : List Cell) (s l : ℕ) (first d : Cell) → s < length xs → first ≡ get_or xs s d → rest ≡ drop s xs → l ≤ length rest → rest ≡ replicate l first ++ drop l rest → FirstDiffers first (drop l rest) → RunAt xs s l first
run_at xs rest s zero first d lt at e le eq h = absurd (no_empty_run xs rest s first d lt at e h)
run_at xs rest s (suc n) first d lt at e le eq h =
    let after : drop (suc n) rest ≡ drop (s + suc n) xs = ap (drop (suc n)) e ∙ drop-drop (suc n) s xs in
    let len : length rest ≡ length xs - s = ap length e ∙ length-drop s xs in
    record {
      some = omega arith;
      within = omega arith;
      is = ap runs (sym e ∙ eq) ∙ grown n first (drop (suc n) rest) h ∙ ap (λ (t : List Cell). (suc n, first) ∷ runs t) after;
    }

pub longer_run : (xs : List Cell) (i : ℕ) (first d : Cell) → i < length xs → xs ≡ replicate i first ++ drop i xs → get_or xs i d ≡ first → xs ≡ replicate (i + 1) first ++ drop (i + 1) xs
longer_run xs i first d lt so_far at =
    so_far
    ∙ ap (λ (t : List Cell). replicate i first ++ t) (drop_more xs i d lt ∙ ap (λ (c : Cell). c ∷ drop (i + 1) xs) at)
    ∙ sym (append_assoc (replicate i first) (first ∷ []) (drop (i + 1) xs))
    ∙ ap (λ (t : List Cell). t ++ drop (i + 1) xs) (replicate_more i first)

-- ---- runs stand for their cells

expanded-put_run : (c : Cell) (rs : List (ℕ × Cell)) → expanded (put_run c rs) ≡ c ∷ expanded rs
expanded-put_run c [] = refl
expanded-put_run c (r ∷ rs) = elim (cases_Bool (bytes_eq c r.1)) [
  | inl e ↦
      let same : c ≡ r.1 = (bytes_eq-Decides c r.1).0 e in
      let k : r.0 + 1 ≡ suc r.0 = omega arith in
      rw (e, k) (ap (λ (x : Cell). c ∷ (replicate r.0 x ++ expanded rs)) same)
  | inr n ↦ rw n refl
]

pub expanded-runs : (cells : List Cell) → expanded (runs cells) ≡ cells
expanded-runs [] = refl
expanded-runs (c ∷ cells) = expanded-put_run c (runs cells) ∙ ap (λ (t : List Cell). c ∷ t) (expanded-runs cells)

put_run_all : (P : Cell → Type 0) (c : Cell) (rs : List (ℕ × Cell)) → P c → All (λ r. P r.1) rs → All (λ r. P r.1) (put_run c rs)
put_run_all P c [] p all = All-cons (λ (r : ℕ × Cell). P r.1) (1, c) [] p (All-nil (λ (r : ℕ × Cell). P r.1))
put_run_all P c (r ∷ rs) p all = let Q : ℕ × Cell → Type 0 = λ q. P q.1 in elim (cases_Bool (bytes_eq c r.1)) [
  | inl e ↦ rw e (All-cons Q (r.0 + 1, c) rs p (All-tail Q r rs all))
  | inr n ↦ rw n (All-cons Q (1, c) (r ∷ rs) p all)
]

-- what holds of each cell holds of the cell of each run
pub runs_all : (P : Cell → Type 0) (cells : List Cell) → All P cells → All (λ r. P r.1) (runs cells)
runs_all P [] all = All-nil (λ (r : ℕ × Cell). P r.1)
runs_all P (c ∷ cells) all = put_run_all P c (runs cells) (All-head P c cells all) (runs_all P cells (All-tail P c cells all))

put_run_few : (c : Cell) (rs : List (ℕ × Cell)) → length (put_run c rs) ≤ suc (length rs)
put_run_few c [] = omega arith
put_run_few c (r ∷ rs) = elim (cases_Bool (bytes_eq c r.1)) [
  | inl e ↦ rw e (omega arith)
  | inr n ↦ rw n (omega arith)
]

pub runs_few : (cells : List Cell) → length (runs cells) ≤ length cells
runs_few [] = omega arith
runs_few (c ∷ cells) = let a = put_run_few c (runs cells) in let b = runs_few cells in omega arith
