-- What is told of files while they are read, and which of them counts a fault.
use Rattle.std.proofs.Common.{◌≡◌, refl, ap, sym, subst, ◌∙◌, ℕ, suc, zero, ◌+◌, ◌-◌, ◌<◌, arith, List, [], ◌∷◌, ◌++◌, drop, take, reverse, append_assoc, length, map, get_or, slice_set, Err, Ok, inl, inr}
use Rattle.std.specs.Prelude.{Result}
use Rattle.std.proofs.lemmas.List.{drop_more, length-append, reverse-append, take_more}
use Rattle.std.proofs.Math.Seq.{map-set_same}
use Rattle.dev_traits.specs.Causes.{Counts, HasReadCause}
use Rattle.dev_traits.specs.declared.faults.ReadFault.{ReadFault}
use Rattle.dev_traits.specs.declared.faults.ReadFault.TheVariants as read
use Rattle.index_level0.specs.Levels.{Level}
use Rattle.index_file.specs.Reads.{TellsDamage}
use Rattle.pk_index.specs.Shown.{HaveCause, HaveLevels, OneCounts}
use Rattle.pk_index.proofs.IndexFacts.{level_at}

abbrev pub fault_in : {C : Type 0} → Result C ReadFault → ReadFault
fault_in (Err e) = e
fault_in (Ok x) = read.Memory

module _ {F : Type 0} where
  pub told_same : {X : Type 0} (g : F → X) (before files : List F) (i : ℕ) (d y : F) → g y ≡ g (get_or files i d) → map g files ≡ map g before → map g (slice_set files i y) ≡ map g before
  told_same g before files i d y same so_far = map-set_same g files i y d same ∙ so_far

  one_set : (faults : F → ℕ) (files : List F) (i : ℕ) (d y : F) → i < length files → Counts 1 (faults (get_or files i d)) (faults y) → OneCounts (map faults files) (map faults (slice_set files i y))
  one_set faults [] i d y less counts = absurd (omega arith)
  one_set faults (f ∷ fs) zero d y less counts = inl (counts, refl)
  one_set faults (f ∷ fs) (suc i) d y less counts = let k : i < length fs = omega arith in inr (refl, one_set faults fs i d y k counts)

  pub fails_once : {A B : Type 0} (faults : F → ℕ) (before files : List F) (i : ℕ) (d y : F) (e : ReadFault) → i < length files → HasReadCause {T = A} (faults (get_or files i d)) (faults y) (Err e) → map faults files ≡ map faults before
      → HaveCause {A = B} (map faults before) (map faults (slice_set files i y)) (Err e)
  fails_once faults before files i d y e less cause so_far = record {
    well = λ other. told_same faults before files i d y (cause.well (λ is. other (ap Err (ap fault_in is)))) so_far;
    failed = λ is. subst (λ ns. OneCounts ns (map faults (slice_set files i y))) so_far (one_set faults files i d y less (cause.failed (ap Err (ap fault_in is))));
  }

  -- a file whose bytes are damaged has no level
  pub none_have : (has : F → Level → Type 0) (files : List F) (i : ℕ) (d : F) (e : ReadFault) (ls : List Level) → i < length files → (TellsDamage e → (level : Level) → has (get_or files i d) level → ⊥) → TellsDamage e → HaveLevels has files ls → ⊥
  none_have has files i d e ls less intact damaged have = let p = level_at has files i d ls less have in intact damaged p.level p.is

  pub none_fails : {B : Type 0} (faults : F → ℕ) (before files : List F) (i : ℕ) (d y : F) (x : B) → faults y ≡ faults (get_or files i d) → map faults files ≡ map faults before
      → HaveCause {A = B} (map faults before) (map faults (slice_set files i y)) (Ok x)
  none_fails faults before files i d y x same so_far = record { well = λ other. told_same faults before files i d y same so_far; failed = λ is. cc }

  pub calm_fault : {B : Type 0} (faults : F → ℕ) (before files : List F) (i : ℕ) (d y : F) → faults y ≡ faults (get_or files i d) → map faults files ≡ map faults before
      → HaveCause {A = B} (map faults before) (map faults (slice_set files i y)) (Err read.Memory)
  calm_fault faults before files i d y same so_far = record { well = λ other. told_same faults before files i d y same so_far; failed = λ is. cc }

  -- ---- files that are moved

  same_last : (a b : List F) (x y : F) → a ++ x ∷ [] ≡ b ++ y ∷ [] → (a ≡ b) × (x ≡ y)
  same_last [] [] x y e = (refl, cc)
  same_last [] (b ∷ bs) x y e = absurd (omega (arith, ap length e, length-append bs (y ∷ [])))
  same_last (a ∷ more) [] x y e = absurd (omega (arith, ap length e, length-append more (x ∷ [])))
  same_last (a ∷ more) (b ∷ bs) x y e =
      let h = heads a b (more ++ x ∷ []) (bs ++ y ∷ []) e in
      let rest = same_last more bs x y h.1 in
      (λ i. h.0 i ∷ rest.0 i, rest.1)
    where
      heads : (u v : F) (us vs : List F) → u ∷ us ≡ v ∷ vs → (u ≡ v) × (us ≡ vs)
      heads u v us vs e = (cc, cc)

  -- the last of the first files is taken
  pub popped : (xs now left aside moved put : List F) (n : ℕ) (file : F) → n < length xs → now ≡ take (length xs - n) xs → now ≡ left ++ file ∷ [] → moved ≡ aside ++ reverse (drop (length xs - n) xs) → put ≡ moved ++ file ∷ []
      → (left ≡ take (length xs - (n + 1)) xs) × (put ≡ aside ++ reverse (drop (length xs - (n + 1)) xs))
  popped xs now left aside moved put n file less is split so_far is_put =
      let m = length xs - (n + 1) in
      let next : m + 1 ≡ length xs - n = omega arith in
      let within : m < length xs = omega arith in
      let both = same_last left (take m xs) file (get_or xs m file) (sym split ∙ is ∙ ap (λ (k : ℕ). take k xs) (sym next) ∙ take_more xs m file within) in
      let onward : drop m xs ≡ file ∷ drop (length xs - n) xs = drop_more xs m file within ∙ ap (λ (x : F). x ∷ drop (m + 1) xs) (sym both.1) ∙ ap (λ (k : ℕ). file ∷ drop k xs) next in
      let turned : reverse (drop (length xs - n) xs) ++ file ∷ [] ≡ reverse (file ∷ drop (length xs - n) xs) = sym (reverse-append (file ∷ []) (drop (length xs - n) xs)) in
      (both.0, is_put ∙ ap (λ (ys : List F). ys ++ file ∷ []) so_far ∙ append_assoc aside (reverse (drop (length xs - n) xs)) (file ∷ []) ∙ ap (λ (ys : List F). aside ++ ys) (turned ∙ ap reverse (sym onward)))
