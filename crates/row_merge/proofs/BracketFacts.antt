-- A bracket's winner leads, and which brackets one row leaves stale.
use Rattle.std.proofs.Common.{◌≡◌, refl, ap, sym, subst, ◌∙◌, ◌⊎◌, inl, inr, ℕ, zero, suc, ◌<◌, ◌≤◌, List, [], ◌∷◌, length, get_or, Option, Some, None, Bool, true, false, cond, nat_lt, arith}
use Rattle.std.proofs.lemmas.Bool.{ltb-true, ltb-false}
use Rattle.pk_values.specs.Schemas.{Layout}
use Rattle.pk_values.specs.declared.cells.Value.{Value}
use Rattle.row_merge.specs.Brackets.{better, end, IsBracket, IsLeading, IsStale, leader, start}
use Rattle.row_merge.specs.Cursors.{CursorView, front_at}
use Rattle.row_merge.specs.Merge.{comes_before, head_of}
use Rattle.row_merge.specs.declared.brackets.Bracket.{Bracket}
use Rattle.row_merge.specs.declared.brackets.Bracket.TheVariants.{Part, Match'}
use Rattle.row_merge.proofs.OrderFacts.{before_both, before_upto, before_back, not_before, not_before_itself}

module _ (s : Layout) (n : ℕ) where
  pub start_end : (front : ℕ → Option (List Value)) (b : Bracket) → IsBracket s front n b → start b < end b
  start_end front (Part i) is = omega arith
  start_end front (Match' p left middle first q right) is =
      let low = start_end front left is.0 in
      let high = start_end front right is.1 in
      let to = is.2 in
      let from = is.3 in
      omega arith

  pub end_within : (front : ℕ → Option (List Value)) (b : Bracket) → IsBracket s front n b → end b ≤ n
  end_within front (Part i) is = omega arith
  end_within front (Match' p left middle first q right) is = end_within front right is.1

  one_of : (front : ℕ → Option (List Value)) (a b : ℕ) → (better s front a b ≡ a) ⊎ (better s front a b ≡ b)
  one_of front a b = go (comes_before s (front b) (front a))
    where
      go : (t : Bool) → (cond t b a ≡ a) ⊎ (cond t b a ≡ b)
      go true = inr refl
      go false = inl refl

  pub leader_within : (front : ℕ → Option (List Value)) (b : Bracket) → IsBracket s front n b → (start b ≤ leader b) × (leader b < end b)
  leader_within front (Part i) is = (omega arith, omega arith)
  leader_within front (Match' p left middle first q right) is =
      let to = is.2 in
      let from = is.3 in
      let first_is = is.4 in
      let l = leader_within front left is.0 in
      let r = leader_within front right is.1 in
      let low = start_end front left is.0 in
      let high = start_end front right is.1 in
      let l0 = l.0 in
      let l1 = l.1 in
      let r0 = r.0 in
      let r1 = r.1 in
      elim (one_of front (leader left) (leader right)) [
        | inl e ↦ (omega arith, omega arith)
        | inr e ↦ (omega arith, omega arith)
      ]

  pub leader_there : (front : ℕ → Option (List Value)) (b : Bracket) → IsBracket s front n b → leader b < n
  leader_there front b is = let lt = (leader_within front b is).1 in let le = end_within front b is in omega arith

  -- the same first rows within it
  pub same_within : (front now : ℕ → Option (List Value)) (b : Bracket) → IsBracket s front n b → ((i : ℕ) → start b ≤ i → i < end b → now i ≡ front i) → IsBracket s now n b
  same_within front now (Part i) is same = is
  same_within front now (Match' p left middle first q right) is same =
      let to = is.2 in
      let from = is.3 in
      let low = start_end front left is.0 in
      let high = start_end front right is.1 in
      let l = leader_within front left is.0 in
      let r = leader_within front right is.1 in
      let l0 = l.0 in
      let l1 = l.1 in
      let r0 = r.0 in
      let r1 = r.1 in (
        same_within front now left is.0 (λ i le lt. same i le (omega arith)),
        same_within front now right is.1 (λ i le lt. same i (omega arith) lt),
        to,
        from,
        is.4 ∙ ap (λ o. cond (comes_before s o (front (leader left))) (leader right) (leader left)) (sym (same (leader right) (omega arith) r1))
            ∙ ap (λ o. cond (comes_before s (now (leader right)) o) (leader right) (leader left)) (sym (same (leader left) l0 (omega arith))),
      )

  module _ (part : ℕ) (front now : ℕ → Option (List Value)) (other : (i : ℕ) → (i ≡ part → ⊥) → now i ≡ front i) where
    -- where a part has another first row, its matches are stale
    pub stale_of : (b : Bracket) → IsBracket s front n b → IsStale s now n part b
    stale_of (Part i) is = is
    stale_of (Match' p left middle first q right) is =
        let to = is.2 in
        let from = is.3 in (
          (λ lt. stale_of left is.0),
          (λ le. same_within front now left is.0 (λ i low high. other i (λ e. omega arith))),
          (λ lt. same_within front now right is.1 (λ i low high. other i (λ e. omega arith))),
          (λ le. stale_of right is.1),
          to,
          from,
        )

    -- and stay so
    pub stale_still : (b : Bracket) → IsStale s front n part b → IsStale s now n part b
    stale_still (Part i) is = is
    stale_still (Match' p left middle first q right) is =
        let to = is.4 in
        let from = is.5 in (
          (λ lt. stale_still left (is.0 lt)),
          (λ le. same_within front now left (is.1 le) (λ i low high. other i (λ e. omega arith))),
          (λ lt. same_within front now right (is.2 lt) (λ i low high. other i (λ e. omega arith))),
          (λ le. stale_still right (is.3 le)),
          to,
          from,
        )

  -- what leads on its side leads among both, if it won
  abbrev Leads : (ℕ → Option (List Value)) → ℕ → ℕ → Type 0
  Leads front w i = (i < w → comes_before s (front w) (front i) ≡ true) × (w ≤ i → comes_before s (front i) (front w) ≡ false)

  leads_one : (front : ℕ → Option (List Value)) (left right : Bracket) (middle : ℕ) → IsBracket s front n left → IsBracket s front n right → end left ≡ middle → start right ≡ middle
      → (i : ℕ) → start left ≤ i → i < end right → (start left ≤ i → i < end left → Leads front (leader left) i) → (start right ≤ i → i < end right → Leads front (leader right) i)
      → Leads front (better s front (leader left) (leader right)) i
  leads_one front left right middle is_left is_right to from i low high l r = won (comes_before s (front b) (front a)) refl
    where
      a : ℕ
      a = leader left

      b : ℕ
      b = leader right

      aw : (start left ≤ a) × (a < end left)
      aw = leader_within front left is_left

      bw : (start right ≤ b) × (b < end right)
      bw = leader_within front right is_right

      -- the right side won
      right_won : comes_before s (front b) (front a) ≡ true → (i < b → comes_before s (front b) (front i) ≡ true) × (b ≤ i → comes_before s (front i) (front b) ≡ false)
      right_won e = elim (nat_lt i middle) as (λ t. nat_lt i middle ≡ t → (i < b → comes_before s (front b) (front i) ≡ true) × (b ≤ i → comes_before s (front i) (front b) ≡ false)) [
        | true ↦ λ f.
            let lt = ltb-true i middle f in let b0 = bw.0 in
            let mine = l low (omega arith) in (
              (λ less. elim (nat_lt i a) as (λ t. nat_lt i a ≡ t → comes_before s (front b) (front i) ≡ true) [
                | true ↦ λ g. before_both s (front b) (front a) (front i) e (mine.0 (ltb-true i a g))
                | false ↦ λ g. before_upto s (front b) (front a) (front i) e (mine.1 (ltb-false i a g))
              ] refl),
              (λ le. absurd (omega arith)),
            )
        | false ↦ λ f. let le = ltb-false i middle f in r (omega arith) high
      ] refl

      -- the left side won
      left_won : comes_before s (front b) (front a) ≡ false → (i < a → comes_before s (front a) (front i) ≡ true) × (a ≤ i → comes_before s (front i) (front a) ≡ false)
      left_won e = elim (nat_lt i middle) as (λ t. nat_lt i middle ≡ t → (i < a → comes_before s (front a) (front i) ≡ true) × (a ≤ i → comes_before s (front i) (front a) ≡ false)) [
        | true ↦ λ f. let lt = ltb-true i middle f in l low (omega arith)
        | false ↦ λ f.
            let ge = ltb-false i middle f in let a1 = aw.1 in
            let mine = r (omega arith) high in (
              (λ less. absurd (omega arith)),
              (λ le. elim (nat_lt i b) as (λ t. nat_lt i b ≡ t → comes_before s (front i) (front a) ≡ false) [
                | true ↦ λ g. not_before s (front i) (front b) (front a) (before_back s (front b) (front i) (mine.0 (ltb-true i b g))) e
                | false ↦ λ g. not_before s (front i) (front b) (front a) (mine.1 (ltb-false i b g)) e
              ] refl),
            )
      ] refl

      won : (t : Bool) → comes_before s (front b) (front a) ≡ t → (i < cond t b a → comes_before s (front (cond t b a)) (front i) ≡ true) × (cond t b a ≤ i → comes_before s (front i) (front (cond t b a)) ≡ false)
      won true e = right_won e
      won false e = left_won e

  -- among its parts the winner leads
  pub leads : (front : ℕ → Option (List Value)) (b : Bracket) → IsBracket s front n b → (i : ℕ) → start b ≤ i → i < end b
      → (i < leader b → comes_before s (front (leader b)) (front i) ≡ true) × (leader b ≤ i → comes_before s (front i) (front (leader b)) ≡ false)
  leads front (Part j) is i low high =
      let at : i ≡ j = omega arith in
      ((λ lt. absurd (omega arith)), (λ le. ap (λ k. comes_before s (front k) (front j)) at ∙ not_before_itself s (front j)))
  leads front (Match' p left middle first q right) is i low high =
      subst (λ w. (i < w → comes_before s (front w) (front i) ≡ true) × (w ≤ i → comes_before s (front i) (front w) ≡ false)) (sym is.4)
      (leads_one front left right middle is.0 is.1 is.2 is.3 i low high (leads front left is.0 i) (leads front right is.1 i))

  -- a bracket of all parts
  pub leads_all : (front : ℕ → Option (List Value)) (b : Bracket) → IsBracket s front n b → start b ≡ 0 → end b ≡ n → ((i : ℕ) → n ≤ i → front i ≡ None) → IsLeading s front (leader b)
  leads_all front b is from to none = record {
    before = λ i lt. let w = (leader_within front b is).1 in (leads front b is i (omega arith) (omega arith)).0 lt;
    behind = λ i le. elim (nat_lt i n) as (λ t. nat_lt i n ≡ t → comes_before s (front i) (front (leader b)) ≡ false) [
      | true ↦ λ e. let lt = ltb-true i n e in (leads front b is i (omega arith) (omega arith)).1 le
      | false ↦ λ e. ap (λ o. comes_before s o (front (leader b))) (none i (ltb-false i n e))
    ] refl;
  }

-- ---- first rows of cursors

pub front_got : (cs : List CursorView) (i : ℕ) (c : CursorView) → i < length cs → c ≡ get_or cs i c → front_at cs i ≡ head_of c.rows
front_got [] i c lt is = absurd (omega arith)
front_got (x ∷ cs) zero c lt is = ap (λ (y : CursorView). head_of y.rows) (sym is)
front_got (x ∷ cs) (suc i) c lt is = front_got cs i c (omega arith) is

pub better_is : (s : Layout) (cs : List CursorView) (a b : ℕ) (ca cb : CursorView) (t : Bool) → a < length cs → ca ≡ get_or cs a ca → b < length cs → cb ≡ get_or cs b cb
    → t ≡ comes_before s (head_of cb.rows) (head_of ca.rows) → cond t b a ≡ better s (front_at cs) a b
better_is s cs a b ca cb t alt ais blt bis is =
    ap (λ t. cond t b a) (is ∙ ap (λ o. comes_before s o (head_of ca.rows)) (sym (front_got cs b cb blt bis)) ∙ ap (comes_before s (front_at cs b)) (sym (front_got cs a ca alt ais)))
