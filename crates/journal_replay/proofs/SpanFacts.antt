-- New files as a rowset of consecutive numbers.
use Rattle.std.proofs.Common.{◌≡◌, refl, ap, sym, subst, ◌∙◌, ℕ, ◌+◌, ◌-◌, ◌^◌, ◌≤◌, ◌<◌, max, arith, List, [], ◌∷◌, length, Bool, true, ◌&&◌, nat_le, nat_lt, ◌==◌}
use Rattle.std.proofs.lemmas.Bool.{and_parts, leb-true, eqb-true}
use Rattle.journal_form.specs.declared.records.NewFile.{NewFile}
use Rattle.journal_form.specs.Versions.{above, all_below, bound, consecutive, files_fit, numbers_of}
use Rattle.journal_form.proofs.Numbers.{below_head, below_tail}

run_short : (m k : ℕ) (f : NewFile) (files : List NewFile) → consecutive k (f ∷ files) ≡ true → all_below m (numbers_of (f ∷ files)) ≡ true → k + length (f ∷ files) ≤ m
run_short m k f [] h low =
    let e = eqb-true f.file k (and_parts (f.file == k) true h).0 in
    let lt = below_head m f.file [] low in
    omega arith
run_short m k f (g ∷ files) h low =
    let p = and_parts (f.file == k) (consecutive (k + 1) (g ∷ files)) h in
    let rest = run_short m (k + 1) g files p.1 (below_tail m f.file (numbers_of (g ∷ files)) low) in
    omega arith

above_run : (k : ℕ) (files : List NewFile) → consecutive k files ≡ true → above k (numbers_of files) ≡ k + length files
above_run k [] h = omega arith
above_run k (f ∷ files) h =
    let p = and_parts (f.file == k) (consecutive (k + 1) files) h in
    let e = eqb-true f.file k p.0 in
    let rest = above_run (k + 1) files p.1 in
    let step : max k (f.file + 1) ≡ k + 1 = omega arith in
    let sum : k + 1 + length files ≡ k + length (f ∷ files) = omega arith in
    ap (λ (n : ℕ). above n (numbers_of files)) step ∙ rest ∙ sum

pub span_short : (next : ℕ) (f : NewFile) (files : List NewFile) → files_fit next (bound - 1) (f ∷ files) ≡ true → f.file + length (f ∷ files) < 2 ^ 63
span_short next f files h =
    let p = and_parts (nat_le next f.file) _ h in
    let q = and_parts (consecutive f.file (f ∷ files)) (all_below (bound - 1) (numbers_of (f ∷ files))) p.1 in
    let le = run_short (bound - 1) f.file f files q.0 q.1 in
    omega arith

pub span_above : (next : ℕ) (f : NewFile) (files : List NewFile) → files_fit next (bound - 1) (f ∷ files) ≡ true → f.file + length (f ∷ files) ≡ above next (numbers_of (f ∷ files))
span_above next f files h =
    let p = and_parts (nat_le next f.file) _ h in
    let q = and_parts (consecutive f.file (f ∷ files)) (all_below (bound - 1) (numbers_of (f ∷ files))) p.1 in
    let r = and_parts (f.file == f.file) (consecutive (f.file + 1) files) q.0 in
    let le = leb-true next f.file p.0 in
    let step : f.file + 1 ≡ max next (f.file + 1) = omega arith in
    let sum : f.file + length (f ∷ files) ≡ f.file + 1 + length files = omega arith in
    sum ∙ sym (above_run (f.file + 1) files r.1) ∙ ap (λ (n : ℕ). above n (numbers_of files)) step
