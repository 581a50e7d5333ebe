-- Parts are put in one after the other, by the numbers of their files.
use Rattle.std.proofs.Common.{◌≡◌, ◌⊎◌, inl, inr, refl, ap, sym, subst, ◌∙◌, ℕ, zero, suc, ◌+◌, ◌<◌, ◌≤◌, List, [], ◌∷◌, length, IfSome, Option, Some, None, Bool as Truth, true, false, ◌==◌, cond, is_some, nat_lt, slice_get, arith}
use Rattle.std.specs.Ordering.{is_eq, nat_cmp}
use Rattle.std.specs.declared.cmp.Ordering.TheVariants.{Less, Equal, Greater}
use Rattle.std.proofs.lemmas.Bool.{cases_order, eq-eqb, eqb-true, ltb-true}
use Rattle.snapshot_scan.specs.Parts.{PartView}
use Rattle.old_rows.specs.PartsByFile.{FindsParts, IsPartOfFile, found_part}
use Rattle.old_rows.specs.declared.parts_by_file.PartsByFile.{PartsByFile}

-- of the first parts
pub record FindsFirst (found : ℕ → Option ℕ) (n : ℕ) (parts : List PartView) : Type 0 where
  pub only : (file i : ℕ) → found file ≡ Some i → IsPartOfFile parts file i
  pub all : (i : ℕ) (part : PartView) → i < n → slice_get parts i ≡ Some part → is_some (found part.number) ≡ true

some_same : {X : Type 0} (x y : X) → Some x ≡ Some y → x ≡ y
some_same x y e = cc

none_some : {X : Type 0} (x : X) → None ≡ Some x → ⊥
none_some x e = cc

same-number : (a b : ℕ) → is_eq (nat_cmp a b) ≡ true → a ≡ b
same-number a b h = go (nat_lt a b) (a == b) refl h
  where
    go : (l t : Truth) → (a == b) ≡ t → is_eq (cond l Less (cond t Equal Greater)) ≡ true → a ≡ b
    go true t e h = cc
    go false true e h = eqb-true a b e
    go false false e h = cc

itself : (n : ℕ) → is_eq (nat_cmp n n) ≡ true
itself n = go (nat_lt n n) refl
  where
    go : (t : Truth) → nat_lt n n ≡ t → is_eq (nat_cmp n n) ≡ true
    go true e = absurd (let lt : n < n = ltb-true n n e in omega arith)
    go false e = ap (λ (t : Truth). is_eq (cond t Less (cond (n == n) Equal Greater))) e ∙ ap (λ (t : Truth). is_eq (cond t Equal Greater)) (eq-eqb n n refl)

pub finds-none : (found : ℕ → Option ℕ) (parts : List PartView) → ((file : ℕ) → found file ≡ None) → FindsFirst found 0 parts
finds-none found parts none = record { only = λ file i is. absurd (none_some i (sym (none file) ∙ is)); all = λ i part lt. absurd (omega arith) }

pub finds-more : (old new : ℕ → Option ℕ) (n number : ℕ) (parts : List PartView) (part : PartView) → slice_get parts n ≡ Some part → number ≡ part.number
    → ((file : ℕ) → new file ≡ cond (is_eq (nat_cmp number file)) (Some n) (old file)) → FindsFirst old n parts → FindsFirst new (n + 1) parts
finds-more old new n number parts part there is put finds = record {
  only = λ file i h. only file i (is_eq (nat_cmp number file)) refl (sym (put file) ∙ h);
  all = λ i p lt h. ap is_some (put p.number) ∙ all i p (is_eq (nat_cmp number p.number)) refl h (cases_order i n) lt;
}
  where
    only : (file i : ℕ) (t : Truth) → is_eq (nat_cmp number file) ≡ t → cond t (Some n) (old file) ≡ Some i → IsPartOfFile parts file i
    only file i true e h =
        record { part = part; there = ap (slice_get parts) (sym (some_same n i h)) ∙ there; number = sym is ∙ same-number number file e }
    only file i false e h = finds.only file i h

    all : (i : ℕ) (p : PartView) (t : Truth) → is_eq (nat_cmp number p.number) ≡ t → slice_get parts i ≡ Some p → (i ≡ n) ⊎ ((i < n) ⊎ (n < i)) → i < n + 1
        → is_some (cond t (Some n) (old p.number)) ≡ true
    all i p true e h order lt = refl
    all i p false e h (inl same) lt =
        let key : part ≡ p = some_same part p (sym there ∙ ap (slice_get parts) (sym same) ∙ h) in
        absurd (clash (is_eq (nat_cmp number p.number)) (ap (λ m. is_eq (nat_cmp number m)) (sym (is ∙ ap (λ (q : PartView). q.number) key)) ∙ itself number) e)
      where
        clash : (b : Truth) → b ≡ true → b ≡ false → ⊥
        clash b e f = cc (sym e ∙ f)
    all i p false e h (inr (inl below)) lt = finds.all i p below h
    all i p false e h (inr (inr above)) lt = absurd (omega arith)

within : (parts : List PartView) (i : ℕ) (part : PartView) → slice_get parts i ≡ Some part → i < length parts
within [] i part h = cc
within (p ∷ ps) zero part h = omega arith
within (p ∷ ps) (suc i) part h = let more = within ps i part h in omega arith

pub finds-next : (old new : ℕ → Option ℕ) (n number : ℕ) (parts : List PartView) → IfSome (slice_get parts n) (λ part. number ≡ part.number)
    → ((file : ℕ) → new file ≡ cond (is_eq (nat_cmp number file)) (Some n) (old file)) → n < length parts → FindsFirst old n parts → FindsFirst new (n + 1) parts
finds-next old new n number parts is put lt finds =
    let part = got parts n lt in
    finds-more old new n number parts part.0 part.1 (subst (λ o. IfSome o (λ p. number ≡ p.number)) part.1 is) put finds
  where
    got : (ps : List PartView) (i : ℕ) → i < length ps → (part : PartView) × (slice_get ps i ≡ Some part)
    got [] i lt = absurd (omega arith)
    got (p ∷ ps) zero lt = (p, refl)
    got (p ∷ ps) (suc i) lt = got ps i (omega arith)

pub all-found : (found : PartsByFile) (parts : List PartView) (n : ℕ) → length parts ≤ n → FindsFirst (found_part found) n parts → FindsParts found parts
all-found found parts n le finds = record { only = finds.only; all = λ i part h. finds.all i part (let lt = within parts i part h in omega arith) h }
