-- Files that calls leave as they were, and whose damage is told.
use Rattle.std.proofs.Common.{◌≡◌, sym, subst, ◌∙◌, ℕ, suc, zero, ◌+◌, ◌<◌, arith, List, [], ◌∷◌, length, take, drop, get_or, slice_set, inl, inr, Option}
use Rattle.std.proofs.lemmas.Grind.{drop_more_same}
use Rattle.std.proofs.lemmas.List.{drop_more}
use Rattle.dev_traits.specs.declared.faults.Damaged.{Damaged}
use Rattle.dev_traits.specs.declared.faults.ReadFault.{ReadFault}
use Rattle.dev_traits.specs.declared.faults.ReadFault.TheVariants as read
use Rattle.index_level0.specs.Levels.{Entry, Level}
use Rattle.index_file.specs.Reads.{OnDamage}
use Rattle.pk_index.specs.Files.{FirstDamaged, IsSame, OneDamaged, OnIndexDamage, Stay}
use Rattle.pk_index.specs.Shown.{HaveLevels, index_of_read}

module _ {F : Type 0} (has_level : F → Level → Type 0) (has_entry : F → List ℕ → Option Entry → Type 0) (reads_as : F → Level → Type 0)
    (damaged_at : F → List ℕ → Damaged → Type 0) (damaged : F → Damaged → Type 0) where
  abbrev Same : F → F → Type 0
  Same = λ old new. IsSame has_level has_entry reads_as damaged_at damaged old new

  same_itself : (f : F) → Same f f
  same_itself f = record {
    levels = λ l. (λ h. h, λ h. h);
    entries = λ k e. (λ h. h, λ h. h);
    reading = λ l. (λ h. h, λ h. h);
    damage_at = λ k d. (λ h. h, λ h. h);
    damage = λ d. (λ h. h, λ h. h);
  }

  same_further : (a b c : F) → Same a b → Same b c → Same a c
  same_further a b c p q = record {
    levels = λ l. (λ h. (q.levels l).0 ((p.levels l).0 h), λ h. (p.levels l).1 ((q.levels l).1 h));
    entries = λ k e. (λ h. (q.entries k e).0 ((p.entries k e).0 h), λ h. (p.entries k e).1 ((q.entries k e).1 h));
    reading = λ l. (λ h. (q.reading l).0 ((p.reading l).0 h), λ h. (p.reading l).1 ((q.reading l).1 h));
    damage_at = λ k d. (λ h. (q.damage_at k d).0 ((p.damage_at k d).0 h), λ h. (p.damage_at k d).1 ((q.damage_at k d).1 h));
    damage = λ d. (λ h. (q.damage d).0 ((p.damage d).0 h), λ h. (p.damage d).1 ((q.damage d).1 h));
  }

  pub stay_themselves : (fs : List F) → Stay (λ old new. IsSame has_level has_entry reads_as damaged_at damaged old new) fs fs
  stay_themselves [] = tt
  stay_themselves (f ∷ fs) = (same_itself f, stay_themselves fs)

  -- one file more was read
  pub stay_on : (before files : List F) (i : ℕ) (d y : F) → IsSame has_level has_entry reads_as damaged_at damaged (get_or files i d) y
      → Stay (λ old new. IsSame has_level has_entry reads_as damaged_at damaged old new) before files → Stay (λ old new. IsSame has_level has_entry reads_as damaged_at damaged old new) before (slice_set files i y)
  stay_on [] [] i d y one all = all
  stay_on [] (f ∷ fs) i d y one all = absurd all
  stay_on (b ∷ bs) [] i d y one all = absurd all
  stay_on (b ∷ bs) (f ∷ fs) zero d y one all = (same_further b f y all.0 one, all.1)
  stay_on (b ∷ bs) (f ∷ fs) (suc i) d y one all = (all.0, stay_on bs fs i d y one all.1)

  pub still_levels : (before files : List F) (ls : List Level) → Stay (λ old new. IsSame has_level has_entry reads_as damaged_at damaged old new) before files → HaveLevels has_level before ls → HaveLevels has_level files ls
  still_levels [] [] ls all have = have
  still_levels [] (f ∷ fs) ls all have = absurd all
  still_levels (b ∷ bs) [] ls all have = absurd all
  still_levels (b ∷ bs) (f ∷ fs) [] all have = absurd have
  still_levels (b ∷ bs) (f ∷ fs) (l ∷ ls) all have = ((all.0.levels l).0 have.0, still_levels bs fs ls all.1 have.1)

-- ---- damage

pub of_damage : (e : ReadFault) (P Q : Damaged → Type 0) → ((d : Damaged) → P d → Q d) → OnDamage e P → OnDamage e Q
of_damage (read.Damaged d) P Q on h = on d h
of_damage read.StoreFault P Q on h = tt
of_damage read.Memory P Q on h = tt

pub of_index_damage : (e : ReadFault) (P Q : Damaged → Type 0) → ((d : Damaged) → P d → Q d) → OnDamage e P → OnIndexDamage (index_of_read e) Q
of_index_damage (read.Damaged d) P Q on h = on d h
of_index_damage read.StoreFault P Q on h = tt
of_index_damage read.Memory P Q on h = tt

module _ {F : Type 0} where
  pub first_damaged : (none is : F → Type 0) (before files : List F) (i : ℕ) (d : F) → i < length files → drop i files ≡ drop i before
      → (FirstDamaged none is (drop i before) → FirstDamaged none is before) → is (get_or files i d) → FirstDamaged none is before
  first_damaged none is before files i d less rest so_far one =
      so_far (subst (λ (fs : List F). FirstDamaged none is fs) (sym (drop_more files i d less) ∙ rest) (inl one))

  pub none_damaged : (none is : F → Type 0) (before files : List F) (i : ℕ) (d : F) → i < length files → drop i files ≡ drop i before
      → (FirstDamaged none is (drop i before) → FirstDamaged none is before) → none (get_or files i d) → FirstDamaged none is (drop (i + 1) before) → FirstDamaged none is before
  none_damaged none is before files i d less rest so_far one later =
      so_far (subst (λ (fs : List F). FirstDamaged none is fs) (sym (drop_more files i d less) ∙ rest)
      (inr (one, subst (λ (fs : List F). FirstDamaged none is fs) (sym (drop_more_same files before i rest)) later)))

  heads : (x y : F) (xs ys : List F) → x ∷ xs ≡ y ∷ ys → x ≡ y
  heads x y xs ys e = cc

  one_at : (is : F → Type 0) (before : List F) (i n : ℕ) (d : F) → i < length before → i < n → is (get_or before i d) → OneDamaged is (take n before)
  one_at is [] i n d less under one = absurd (omega arith)
  one_at is (b ∷ bs) i zero d less under one = absurd (omega arith)
  one_at is (b ∷ bs) zero (suc n) d less under one = inl one
  one_at is (b ∷ bs) (suc i) (suc n) d less under one =
      let k : i < length bs = omega arith in
      let m : i < n = omega arith in
      inr (one_at is bs i n d k m one)

  pub one_damaged : (is : F → Type 0) (before files : List F) (i n : ℕ) (d : F) → i < length files → i < length before → i < n → drop i files ≡ drop i before → is (get_or files i d) → OneDamaged is (take n before)
  one_damaged is before files i n d less within under rest one =
      let same : get_or files i d ≡ get_or before i d = heads (get_or files i d) (get_or before i d) (drop (i + 1) files) (drop (i + 1) before) (sym (drop_more files i d less) ∙ rest ∙ drop_more before i d within) in
      one_at is before i n d within under (subst is same one)
