-- What files are read as, one after the other.
use Rattle.std.proofs.Common.{◌≡◌, refl, sym, subst, ◌∙◌, ℕ, ◌+◌, ◌<◌, ◌≤◌, arith, List, [], ◌∷◌, ◌++◌, length, take, drop, get_or, slice_set, inl, inr, Option, Some, None, is_some, true, false}
use Rattle.std.proofs.lemmas.Bool.{true≢false}
use Rattle.std.proofs.lemmas.Grind.{drop_more_same}
use Rattle.std.proofs.lemmas.List.{drop-set-lt, drop_all, drop_more, take_more}
use Rattle.index_level0.specs.Levels.{Entry, Level}
use Rattle.pk_index.specs.Shown.{FirstHas, HaveLevels}

pub none_of : (o : Option Entry) → is_some o ≡ false → o ≡ None
none_of None e = refl
none_of (Some x) e = absurd (true≢false e)

module _ {F : Type 0} where
  -- the files from a place on are as they were
  pub rest_on : (before files : List F) (i : ℕ) (y : F) → drop i files ≡ drop i before → drop (i + 1) (slice_set files i y) ≡ drop (i + 1) before
  rest_on before files i y rest = drop-set-lt (i + 1) files i y (omega arith) ∙ drop_more_same files before i rest

  pub found_first : (has : F → Option Entry → Type 0) (before files : List F) (i : ℕ) (d : F) (found : Option Entry) → i < length files → drop i files ≡ drop i before
      → ((e : Option Entry) → FirstHas has (drop i before) e → FirstHas has before e) → has (get_or files i d) found → is_some found ≡ true → FirstHas has before found
  found_first has before files i d found less rest so_far one there =
      so_far found (subst (λ (fs : List F). FirstHas has fs found) (sym (drop_more files i d less) ∙ rest) (inl (one, there)))

  pub missed_first : (has : F → Option Entry → Type 0) (before files : List F) (i : ℕ) (d : F) (found : Option Entry) → i < length files → drop i files ≡ drop i before
      → ((e : Option Entry) → FirstHas has (drop i before) e → FirstHas has before e) → has (get_or files i d) found → is_some found ≡ false
      → (e : Option Entry) → FirstHas has (drop (i + 1) before) e → FirstHas has before e
  missed_first has before files i d found less rest so_far one there e later =
      so_far e (subst (λ (fs : List F). FirstHas has fs e) (sym (drop_more files i d less) ∙ rest)
      (inr (subst (has (get_or files i d)) (none_of found there) one, subst (λ (fs : List F). FirstHas has fs e) (sym (drop_more_same files before i rest)) later)))

  pub none_first : (has : F → Option Entry → Type 0) (before : List F) (i : ℕ) → length before ≤ i → ((e : Option Entry) → FirstHas has (drop i before) e → FirstHas has before e) → FirstHas has before None
  none_first has before i past so_far = so_far None (subst (λ (fs : List F). FirstHas has fs None) (sym (drop_all i before past)) refl)

  have_end : (has : F → Level → Type 0) (fs : List F) (ls : List Level) (f : F) (l : Level) → HaveLevels has fs ls → has f l → HaveLevels has (fs ++ f ∷ []) (ls ++ l ∷ [])
  have_end has [] [] f l have one = (one, tt)
  have_end has [] (x ∷ ls) f l have one = absurd have
  have_end has (g ∷ fs) [] f l have one = absurd have
  have_end has (g ∷ fs) (x ∷ ls) f l have one = (have.0, have_end has fs ls f l have.1 one)

  heads : (x y : F) (xs ys : List F) → x ∷ xs ≡ y ∷ ys → x ≡ y
  heads x y xs ys e = cc

  -- one file more was read
  pub levels_on : (has : F → Level → Type 0) (before files : List F) (i : ℕ) (d : F) (ls : List Level) (level : Level) → i < length files → i < length before → drop i files ≡ drop i before
      → HaveLevels has (take i before) ls → has (get_or files i d) level → HaveLevels has (take (i + 1) before) (ls ++ level ∷ [])
  levels_on has before files i d ls level less within rest have one =
      let same : get_or files i d ≡ get_or before i d = heads (get_or files i d) (get_or before i d) (drop (i + 1) files) (drop (i + 1) before) (sym (drop_more files i d less) ∙ rest ∙ drop_more before i d within) in
      subst (λ (fs : List F). HaveLevels has fs (ls ++ level ∷ [])) (sym (take_more before i d within))
      (have_end has (take i before) ls (get_or before i d) level have (subst (λ (f : F). has f level) same one))
