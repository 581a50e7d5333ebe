-- Areas that are synced, and areas that are blanked.
use Rattle.std.proofs.Common.{◌≡◌, ◌≢◌, ◌⊎◌, inl, inr, refl, ap, sym, subst, ◌∙◌, ℕ, zero, suc, ◌+◌, ◌<◌, ◌≤◌, List, [], ◌∷◌, length, Option, Some, None, is_some, IsTrue, Bool, true, false, ◌==◌, Result, Ok, Err, OnOk, arith}
use Rattle.std.specs.FinMap.{get}
use Rattle.std.specs.Option.{option_map}
use Rattle.std.proofs.lemmas.Bool.{eqb-true, eqb-false}
use Rattle.std.proofs.lemmas.List.{get_or-set_same, get_or-set_other}
use Rattle.dev_traits.specs.Image.{Image, area_of, file, with_area, Same, Blanked, Elsewhere}
use Rattle.dev_traits.specs.View.{View, Told, EachImage, Leaves, LeavesOnly, Calm, ReadsElsewhere}
use Rattle.dev_traits.proofs.Moments.{calm_before, calm_leaves, leaves_by, leaves_only_here, leaves_only_then, leaves_then}
use Rattle.gated_log.specs.Log.{IsSynced}
use Rattle.core_recover.specs.Areas.{BlanksEmpty, BlanksIn, IsEmptyOrBlank, IsLike, IsSyncedOrEmpty, SameFiles}

pub some_one : {X : Type 0} (x y : X) → Some x ≡ Some y → x ≡ y
some_one x y e = cc

pub on_so : {T E : Type 0} (r : Result T E) (P Q : Type 0) → (P → Q) → OnOk r P → OnOk r Q
on_so (Ok t) P Q f p = f p
on_so (Err e) P Q f p = tt

-- ---- syncs

-- what a call that takes images away alone leaves
pub each_kept : (a : ℕ) (u v : View) (image : Image) → Leaves Same u v → EachImage u (λ left. area_of left a ≡ area_of image a) → EachImage v (λ left. area_of left a ≡ area_of image a)
each_kept a u v image call each left may = let from = call.now left may in subst (λ (i : Image). area_of i a ≡ area_of image a) (sym from.2) (each from.0 from.1)

pub synced_still : (a : ℕ) (u v : View) → v.seen ≡ u.seen → Leaves Same u v → IsSyncedOrEmpty a u → IsSyncedOrEmpty a v
synced_still a u v same call was image told = elim (was image (sym same ∙ told)) [
  | inl empty ↦ inl empty
  | inr each ↦ inr (each_kept a u v image call each)
]

pub synced_now : (a : ℕ) (v : View) → Told v (λ image. EachImage v (λ left. area_of left a ≡ area_of image a)) → IsSyncedOrEmpty a v
synced_now a v synced image told = inr (synced image told)

no_byte : (xs : List ℕ) → 0 ≡ length xs → xs ≡ []
no_byte [] e = refl
no_byte (x ∷ xs) e = absurd (omega arith)

pub read_empty : (a n : ℕ) (u v : View) → Told u (λ image. n ≡ length (area_of image a)) → n ≡ 0 → v.seen ≡ u.seen → IsSyncedOrEmpty a v
read_empty a n u v size none same image told = inl (no_byte (area_of image a) (sym none ∙ size image (sym same ∙ told)))

pub all_three : (v : View) → IsSyncedOrEmpty 0 v → IsSyncedOrEmpty 1 v → IsSyncedOrEmpty 2 v → (a : ℕ) → a < 3 → IsSyncedOrEmpty a v
all_three v zeroth first second zero lt = zeroth
all_three v zeroth first second (suc zero) lt = first
all_three v zeroth first second (suc (suc zero)) lt = second
all_three v zeroth first second (suc (suc (suc n))) lt = absurd (omega arith)

-- ---- blanking

pub told_after : (u v : View) (before : Image) → is_some v.seen ≡ is_some u.seen → u.seen ≡ Some before → (after : Image) × (v.seen ≡ Some after)
told_after u v before tells told = go v.seen (is_some v.seen) refl (tells ∙ ap is_some told)
  where
    go : (o : Option Image) (t : Bool) → is_some o ≡ t → t ≡ true → (after : Image) × (o ≡ Some after)
    go (Some image) t e f = (image, refl)
    go None t e f = cc

blanked_same : (a : ℕ) (d i : Image) → Same d i → Blanked a d i
blanked_same a d i same = subst (Blanked a d) (sym same) (record { elsewhere = record { areas = λ b other. refl; files = refl }; blank = inl refl })

pub calm_blanked : (a : ℕ) (u v : View) → Calm u v → Leaves (Blanked a) u v
calm_blanked a u v calm = leaves_by Same (Blanked a) u v (calm_leaves u v calm) (λ d i left same. blanked_same a d i same)

pub then_blanked : (a : ℕ) (u v w : View) → Calm u v → Leaves (Blanked a) v w → Leaves (Blanked a) u w
then_blanked a u v w calm blank = calm_before (Blanked a) u v w calm blank

pub blanked_in : (a : ℕ) (read d i : Image) → area_of read a ≡ [] → Blanked a d i → BlanksIn read d i
blanked_in a read d i none is = record { files = is.elsewhere.files; areas = λ b. go b (b == a) refl }
  where
    same : (area_of i a ≡ area_of d a) ⊎ (area_of i a ≡ 0 ∷ []) → (area_of i a ≡ area_of d a) ⊎ ((area_of read a ≡ []) × (area_of i a ≡ 0 ∷ []))
    same (inl e) = inl e
    same (inr e) = inr (none, e)

    go : (b : ℕ) (t : Bool) → (b == a) ≡ t → (area_of i b ≡ area_of d b) ⊎ ((area_of read b ≡ []) × (area_of i b ≡ 0 ∷ []))
    go b false e = inl (is.elsewhere.areas b (eqb-false b a e))
    go b true e = subst (λ n. (area_of i n ≡ area_of d n) ⊎ ((area_of read n ≡ []) × (area_of i n ≡ 0 ∷ []))) (sym (eqb-true b a e)) (same is.blank)

same_in : (read d i : Image) → Same d i → BlanksIn read d i
same_in read d i same = record { files = ap (λ (x : Image). x.files) same; areas = λ a. inl (ap (λ (x : Image). area_of x a) same) }

pub calm_in : (u v : View) → Calm u v → Told u (λ image. Leaves (BlanksIn image) u v)
calm_in u v calm image told = leaves_by Same (BlanksIn image) u v (calm_leaves u v calm) (λ d i left same. same_in image d i same)

pub blank_in : (a n : ℕ) (u v w : View) → Calm u v → Told u (λ image. n ≡ length (area_of image a)) → n ≡ 0 → Leaves (Blanked a) v w → Told u (λ image. Leaves (BlanksIn image) u w)
blank_in a n u v w calm size none blank image told =
    leaves_by (Blanked a) (BlanksIn image) u w (calm_before (Blanked a) u v w calm blank) (λ d i left is. blanked_in a image d i (no_byte (area_of image a) (sym none ∙ size image told)) is)

in_then : (before after d e i : Image) → BlanksEmpty before after → BlanksIn before d e → BlanksIn after e i → BlanksIn before d i
in_then before after d e i blank first second = record { files = second.files ∙ first.files; areas = λ a. go a (second.areas a) (first.areas a) (blank.areas a) }
  where
    Has : ℕ → Type 0
    Has a = (area_of i a ≡ area_of d a) ⊎ ((area_of before a ≡ []) × (area_of i a ≡ 0 ∷ []))

    go : (a : ℕ) → (area_of i a ≡ area_of e a) ⊎ ((area_of after a ≡ []) × (area_of i a ≡ 0 ∷ [])) → (area_of e a ≡ area_of d a) ⊎ ((area_of before a ≡ []) × (area_of e a ≡ 0 ∷ []))
        → (area_of after a ≡ area_of before a) ⊎ ((area_of before a ≡ []) × (area_of after a ≡ 0 ∷ [])) → (area_of i a ≡ area_of d a) ⊎ ((area_of before a ≡ []) × (area_of i a ≡ 0 ∷ []))
    go a (inl same) (inl was) b = inl (same ∙ was)
    go a (inl same) (inr was) b = inr (was.0, same ∙ was.1)
    go a (inr now) f (inl b) = inr (sym b ∙ now.0, now.1)
    go a (inr now) f (inr b) = inr (b.0, now.1)

pub in_both : (u v w : View) → is_some v.seen ≡ is_some u.seen → Told u (λ before. Told v (BlanksEmpty before)) → Told u (λ image. Leaves (BlanksIn image) u v) → Told v (λ image. Leaves (BlanksIn image) v w)
    → Told u (λ image. Leaves (BlanksIn image) u w)
in_both u v w tells blank first second image told =
    let after = told_after u v image tells told in
    leaves_then (BlanksIn image) (BlanksIn after.0) (BlanksIn image) u v w (first image told) (second after.0 after.1) (λ d i left is. is)
    (λ d e i left one from two. in_then image after.0 d e i (blank image told after.0 after.1) one two)

-- the other areas are as they were
pub kept_elsewhere : (a b : ℕ) (u v : View) → b ≢ a → Leaves (Blanked a) u v → ReadsElsewhere a u v → (before after : Image) → u.seen ≡ Some before → v.seen ≡ Some after
    → EachImage u (λ left. area_of left b ≡ area_of before b) → EachImage v (λ left. area_of left b ≡ area_of after b)
kept_elsewhere a b u v apart call elsewhere before after told told' each left may =
    let from = call.now left may in
    from.2.elsewhere.areas b apart ∙ each from.0 from.1 ∙ sym ((elsewhere before told after told').areas b apart)

seen_before : (o : Option Image) (t : Bool) → is_some o ≡ t → t ≡ true → (before : Image) × (o ≡ Some before)
seen_before (Some image) t e f = (image, refl)
seen_before None t e f = cc

-- where a store tells after a call, it told before
pub told_before : (u v : View) (after : Image) → is_some v.seen ≡ is_some u.seen → v.seen ≡ Some after → (before : Image) × (u.seen ≡ Some before)
told_before u v after tells told = seen_before u.seen (is_some v.seen) (sym tells) (ap is_some told)

pub synced_elsewhere : (a b : ℕ) (u v : View) → b ≢ a → is_some v.seen ≡ is_some u.seen → Leaves (Blanked a) u v → ReadsElsewhere a u v → IsSynced b u → IsSynced b v
synced_elsewhere a b u v apart tells call elsewhere synced after told =
    let w = told_before u v after tells told in
    kept_elsewhere a b u v apart call elsewhere w.0 after w.1 told (synced w.0 w.1)

pub either_elsewhere : (a b : ℕ) (u v : View) → b ≢ a → is_some v.seen ≡ is_some u.seen → Leaves (Blanked a) u v → ReadsElsewhere a u v → IsSyncedOrEmpty b u → IsSyncedOrEmpty b v
either_elsewhere a b u v apart tells call elsewhere was after told =
    let w = told_before u v after tells told in
    elim (was w.0 w.1) [
      | inl empty ↦ inl ((elsewhere w.0 w.1 after told).areas b apart ∙ empty)
      | inr each ↦ inr (kept_elsewhere a b u v apart call elsewhere w.0 after w.1 told each)
    ]

-- an area that is blanked is synced
module _ (a : ℕ) (u v w : View) (calm : v.seen ≡ u.seen) (three : Told v (λ image. length image.areas ≡ 3)) (there : a < 3)
    (blank : w.seen ≡ option_map (with_area a (0 ∷ [])) v.seen) where
  pub blank_image : (after : Image) → w.seen ≡ Some after → (before : Image) × (u.seen ≡ Some before) × (after ≡ with_area a (0 ∷ []) before)
  blank_image after told = go v.seen refl
    where
      go : (o : Option Image) → v.seen ≡ o → (before : Image) × (u.seen ≡ Some before) × (after ≡ with_area a (0 ∷ []) before)
      go None e = let not : w.seen ≡ None = blank ∙ ap (option_map (with_area a (0 ∷ []))) e in cc
      go (Some before) e =
          let is : w.seen ≡ Some (with_area a (0 ∷ []) before) = blank ∙ ap (option_map (with_area a (0 ∷ []))) e in
          (before, sym calm ∙ e, some_one after (with_area a (0 ∷ []) before) (sym told ∙ is))

  pub area_blank : (before : Image) → v.seen ≡ Some before → area_of (with_area a (0 ∷ []) before) a ≡ 0 ∷ []
  area_blank before told = let few = three before told in get_or-set_same before.areas a (0 ∷ []) [] (omega arith)

  pub blanked_synced : EachImage w (λ left. area_of left a ≡ 0 ∷ []) → IsSynced a w
  blanked_synced each after told left may =
      let b = blank_image after told in
      each left may ∙ sym (ap (λ (i : Image). area_of i a) b.2 ∙ area_blank b.0 (calm ∙ b.1))

  pub blanked_empty : (n : ℕ) → Told u (λ image. n ≡ length (area_of image a)) → n ≡ 0 → Told u (λ before. Told w (BlanksEmpty before))
  blanked_empty n size none before told after told' =
      let b = blank_image after told' in
      let same : b.0 ≡ before = some_one b.0 before (sym b.1 ∙ told) in
      let is : after ≡ with_area a (0 ∷ []) before = b.2 ∙ ap (with_area a (0 ∷ [])) same in
      subst (BlanksEmpty before) (sym is) (record { files = refl; areas = λ x. go x (x == a) refl })
    where
      go : (x : ℕ) (t : Bool) → (x == a) ≡ t → (area_of (with_area a (0 ∷ []) before) x ≡ area_of before x) ⊎ ((area_of before x ≡ []) × (area_of (with_area a (0 ∷ []) before) x ≡ 0 ∷ []))
      go x false e = inl (get_or-set_other before.areas a x (0 ∷ []) [] (eqb-false x a e))
      go x true e = subst (λ y. (area_of (with_area a (0 ∷ []) before) y ≡ area_of before y) ⊎ ((area_of before y ≡ []) × (area_of (with_area a (0 ∷ []) before) y ≡ 0 ∷ []))) (sym (eqb-true x a e))
          (inr (no_byte (area_of before a) (sym none ∙ size before told), area_blank before (calm ∙ told)))

-- ---- files

pub files_still : (u v : View) → v.seen ≡ u.seen → Told u (λ before. Told v (SameFiles before))
files_still u v same before told after told' = ap (λ (i : Image). i.files) (some_one after before (sym told' ∙ same ∙ told))

pub files_elsewhere : (a : ℕ) (u v : View) → ReadsElsewhere a u v → Told u (λ before. Told v (SameFiles before))
files_elsewhere a u v elsewhere before told after told' = (elsewhere before told after told').files

pub files_then : (u v w : View) → is_some w.seen ≡ is_some v.seen → Told u (λ before. Told v (SameFiles before)) → Told v (λ before. Told w (SameFiles before)) → Told u (λ before. Told w (SameFiles before))
files_then u v w tells first second before told after told' =
    let mid = told_before v w after tells told' in
    second mid.0 mid.1 after told' ∙ first before told mid.0 mid.1

-- ---- in an honest store

-- an honest store whose empty area was blanked, or not
pub blanked_still : (a n : ℕ) (u v w : View) → Calm u v → Told u (λ image. n ≡ length (area_of image a)) → n ≡ 0
    → Told v (λ image. (b : ℕ) → area_of image b ≡ [] → EachImage v (λ left. (area_of left b ≡ []) ⊎ (area_of left b ≡ 0 ∷ [])))
    → (image : Image) × (w.seen ≡ Some image) × w.may_leave image → Leaves (Blanked a) v w → ReadsElsewhere a v w → Told u (λ before. Told w (BlanksEmpty before))
blanked_still a n u v w calm size none empty reads call elsewhere before told after told' =
    let other = elsewhere before (calm.seen ∙ told) after told' in
    record { files = other.files; areas = λ b. go b (b == a) refl other }
  where
    was : area_of before a ≡ []
    was = no_byte (area_of before a) (sym none ∙ size before told)

    may : w.may_leave after
    may = subst w.may_leave (some_one reads.0 after (sym reads.1 ∙ told')) reads.2

    back : (i : Image) → v.may_leave i → Blanked a i after → (area_of after a ≡ []) ⊎ (area_of after a ≡ 0 ∷ [])
    back i from is = elim is.blank [
      | inl same ↦ elim (empty before (calm.seen ∙ told) a was i from) [
        | inl e ↦ inl (same ∙ e)
        | inr e ↦ inr (same ∙ e)
      ]
      | inr blank ↦ inr blank
    ]

    here : (area_of after a ≡ area_of before a) ⊎ ((area_of before a ≡ []) × (area_of after a ≡ 0 ∷ []))
    here = let from = call.now after may in
        elim (back from.0 from.1 from.2) [
          | inl e ↦ inl (e ∙ sym was)
          | inr e ↦ inr (was, e)
        ]

    go : (b : ℕ) (t : Bool) → (b == a) ≡ t → Elsewhere a before after → (area_of after b ≡ area_of before b) ⊎ ((area_of before b ≡ []) × (area_of after b ≡ 0 ∷ []))
    go b false e other = inl (other.areas b (eqb-false b a e))
    go b true e other = subst (λ n. (area_of after n ≡ area_of before n) ⊎ ((area_of before n ≡ []) × (area_of after n ≡ 0 ∷ []))) (sym (eqb-true b a e)) here

-- an area that was blanked reads so
pub blanked_reads : (a : ℕ) (v w : View) → Told v (λ image. length image.areas ≡ 3) → a < 3 → w.seen ≡ option_map (with_area a (0 ∷ [])) v.seen → Told w (λ after. area_of after a ≡ 0 ∷ [])
blanked_reads a v w three there blank after told =
    let b = blank_image a v v w refl three there blank after told in
    ap (λ (i : Image). area_of i a) b.2 ∙ area_blank a v v w refl three there blank b.0 b.1

-- an area that is empty
pub empty_reads : (a n : ℕ) (u v : View) → Told u (λ image. n ≡ length (area_of image a)) → n ≡ 0 → v.seen ≡ u.seen → Told v (IsEmptyOrBlank a)
empty_reads a n u v size none same image told = inl (no_byte (area_of image a) (sym none ∙ size image (sym same ∙ told)))

pub each_empty : (a n : ℕ) (u v : View) → Told u (λ image. n ≡ length (area_of image a)) → n ≡ 0 → v.seen ≡ u.seen → (image : Image) × (v.seen ≡ Some image) × v.may_leave image
    → Told v (λ image. (b : ℕ) → area_of image b ≡ [] → EachImage v (λ left. (area_of left b ≡ []) ⊎ (area_of left b ≡ 0 ∷ []))) → EachImage v (IsEmptyOrBlank a)
each_empty a n u v size none same reads empty left may =
    empty reads.0 reads.1 a (no_byte (area_of reads.0 a) (sym none ∙ size reads.0 (sym same ∙ reads.1))) left may

-- an area that isn't empty stays as it is
pub full_synced : (a n : ℕ) (u v : View) → Calm u v → Told u (λ image. n ≡ length (area_of image a)) → n ≢ 0 → IsSyncedOrEmpty a u → IsSynced a v
full_synced a n u v calm size some was after told left may =
    elim (was after (sym calm.seen ∙ told)) [
      | inl empty ↦ absurd (some (size after (sym calm.seen ∙ told) ∙ ap (length) empty))
      | inr each ↦ each left ((calm.now left).0 may)
    ]

pub none_blanked : (u v : View) → v.seen ≡ u.seen → Told u (λ before. Told v (BlanksEmpty before))
none_blanked u v same before told after told' =
    let is : after ≡ before = some_one after before (sym told' ∙ same ∙ told) in
    subst (BlanksEmpty before) (sym is) (record { files = refl; areas = λ a. inl refl })

both : (before mid after : Image) → BlanksEmpty before mid → BlanksEmpty mid after → BlanksEmpty before after
both before mid after first second = record { files = second.files ∙ first.files; areas = λ a. go a (second.areas a) (first.areas a) }
  where
    go : (a : ℕ) → (area_of after a ≡ area_of mid a) ⊎ ((area_of mid a ≡ []) × (area_of after a ≡ 0 ∷ [])) → (area_of mid a ≡ area_of before a) ⊎ ((area_of before a ≡ []) × (area_of mid a ≡ 0 ∷ []))
        → (area_of after a ≡ area_of before a) ⊎ ((area_of before a ≡ []) × (area_of after a ≡ 0 ∷ []))
    go a (inl same) (inl was) = inl (same ∙ was)
    go a (inl same) (inr was) = inr (was.0, same ∙ was.1)
    go a (inr blank) (inl was) = inr (sym was ∙ blank.0, blank.1)
    go a (inr blank) (inr was) = let e = sym blank.0 ∙ was.1 in cc

pub blanks_then : (u v w : View) → is_some w.seen ≡ is_some v.seen → Told u (λ before. Told v (BlanksEmpty before)) → Told v (λ before. Told w (BlanksEmpty before)) → Told u (λ before. Told w (BlanksEmpty before))
blanks_then u v w tells first second before told after told' =
    let mid = told_before v w after tells told' in
    both before mid.0 after (first before told mid.0 mid.1) (second mid.0 mid.1 after told')

pub both_synced : (v : View) → IsSynced 0 v → IsSynced 1 v → (a : ℕ) → a < 2 → IsSynced a v
both_synced v zeroth first zero lt = zeroth
both_synced v zeroth first (suc zero) lt = first
both_synced v zeroth first (suc (suc n)) lt = absurd (omega arith)

-- ---- like what is read

pub like_then : (image d i : Image) → IsLike image d → BlanksIn image d i → IsLike image i
like_then image d i like is = record {
  areas = λ a lt. go a (is.areas a) (like.areas a lt);
  files = λ number bytes h. ap (λ fs. get fs number) is.files ∙ like.files number bytes h;
}
  where
    go : (a : ℕ) → (area_of i a ≡ area_of d a) ⊎ ((area_of image a ≡ []) × (area_of i a ≡ 0 ∷ [])) → (area_of d a ≡ area_of image a) ⊎ ((area_of image a ≡ []) × (area_of d a ≡ 0 ∷ []))
        → (area_of i a ≡ area_of image a) ⊎ ((area_of image a ≡ []) × (area_of i a ≡ 0 ∷ []))
    go a (inl same) (inl was) = inl (same ∙ was)
    go a (inl same) (inr was) = inr (was.0, same ∙ was.1)
    go a (inr blank) was = inr blank

pub blanks_like : (before after : Image) → BlanksEmpty before after → IsLike before after
blanks_like before after is = record { areas = λ a lt. is.areas a; files = λ number bytes h. ap (λ fs. get fs number) is.files ∙ h }

-- once each area that isn't empty was synced
pub synced_like : (u v : View) (image : Image) → v.seen ≡ u.seen → u.seen ≡ Some image → ((a : ℕ) → a < 3 → IsSyncedOrEmpty a v)
    → Told v (λ image. (a : ℕ) → area_of image a ≡ [] → EachImage v (λ left. (area_of left a ≡ []) ⊎ (area_of left a ≡ 0 ∷ [])))
    → Told v (λ image. (number : ℕ) (bytes : List ℕ) → file image number ≡ Some bytes → EachImage v (λ left. file left number ≡ Some bytes))
    → EachImage v (IsLike image)
synced_like u v image same told synced empty files left may = record {
  areas = λ a lt. go a (synced a lt image (same ∙ told));
  files = λ number bytes h. files image (same ∙ told) number bytes h left may;
}
  where
    by : (a : ℕ) → area_of image a ≡ [] → (area_of left a ≡ []) ⊎ (area_of left a ≡ 0 ∷ []) → (area_of left a ≡ area_of image a) ⊎ ((area_of image a ≡ []) × (area_of left a ≡ 0 ∷ []))
    by a none (inl e) = inl (e ∙ sym none)
    by a none (inr e) = inr (none, e)

    go : (a : ℕ) → (area_of image a ≡ []) ⊎ EachImage v (λ left. area_of left a ≡ area_of image a) → (area_of left a ≡ area_of image a) ⊎ ((area_of image a ≡ []) × (area_of left a ≡ 0 ∷ []))
    go a (inl none) = by a none (empty image (same ∙ told) a none left may)
    go a (inr each) = inl (each left may)

-- while areas are synced
pub while_synced : (P : Image → Type 0) (u v : View) → ((i : Image) → u.might_since u.moment i → u.may_leave i) → Leaves Same u v → LeavesOnly (λ left. u.may_leave left ⊎ P left) u v
while_synced P u v only call =
    leaves_only_then Same (λ left. u.may_leave left ⊎ P left) u u v (leaves_only_here (λ left. u.may_leave left ⊎ P left) u only (λ i may. inl may)) call
    (λ d i may same. inl (subst u.may_leave (sym same) may))

-- and then blanked
pub while_blanked : (u v w : View) (image : Image) → ((i : Image) → u.might_since u.moment i → u.may_leave i) → Leaves Same u v → EachImage v (IsLike image) → Leaves (BlanksIn image) v w
    → LeavesOnly (λ left. u.may_leave left ⊎ IsLike image left) u w
while_blanked u v w image only call like blank =
    leaves_only_then (BlanksIn image) (λ left. u.may_leave left ⊎ IsLike image left) u v w (while_synced (IsLike image) u v only call) blank (λ d i may is. inr (like_then image d i (like d may) is))

pub blanked_like : (v w : View) (image : Image) → EachImage v (IsLike image) → Leaves (BlanksIn image) v w → EachImage w (IsLike image)
blanked_like v w image like blank left may = let from = blank.now left may in like_then image from.0 left (like from.0 from.1) from.2
