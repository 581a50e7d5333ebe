-- A run of adoptions.
use Rattle.std.proofs.Common.{◌≡◌, ◌≢◌, ℕ, ◌+◌, List, [], ◌∷◌, ◌++◌, length, Option, Some, None, IfSome, IsSome, is_some, Bool, true, false, cond, refl, sym, ◌∙◌, ap, subst, arith, length-append, Result, append-nil, append_assoc}
use Rattle.std.specs.Option.{option_map}
use Rattle.std.specs.Ordering.{nat_cmp, eq_by_cmp, is_eq}
use Rattle.std.specs.declared.cmp.Ordering.{Ordering}
use Rattle.std.specs.declared.cmp.Ordering.TheVariants.{Less, Equal, Greater}
use Rattle.std.specs.FinMap.{get, get-insert, nat_cmp-IsAntisymmetric}
use Rattle.std.proofs.lemmas.Cmp.{nat_cmp_total}
use Rattle.dev_traits.specs.Causes.{HasCause}
use Rattle.dev_traits.specs.Image.{Image, file, with_file, Same}
use Rattle.dev_traits.specs.View.{View, Told, EachImage, Leaves, Spends}
use Rattle.dev_traits.proofs.Moments.{leaves_still, each_still}
use Rattle.tablet_state.specs.Adopting.{AllJoined, AreAdopted, HasFiles, IsAdopted, Joined, SameAreas}
use Rattle.tablet_state.specs.State.{IsFree, SegmentView}
use Rattle.tablet_state.specs.Readies.{NewSegment}

is_equal : (r : Ordering) → is_eq r ≡ true → r ≡ Equal
is_equal Less e = cc
is_equal Equal e = refl
is_equal Greater e = cc

other_file : (number n : ℕ) (bytes : List ℕ) (image : Image) → n ≢ number → file (with_file number bytes image) n ≡ file image n
other_file number n bytes image other = get-insert nat_cmp_total image.files number bytes n ∙ go (eq_by_cmp nat_cmp n number) refl
  where
    go : (b : Bool) → eq_by_cmp nat_cmp n number ≡ b → cond b (Some bytes) (get image.files n) ≡ get image.files n
    go true e = absurd (other (nat_cmp-IsAntisymmetric n number (is_equal (nat_cmp n number) e)))
    go false e = refl

pub has_files-push : (first n : ℕ) (done : List (Option (List ℕ))) (told : Option (List ℕ)) (image : Image) → n ≡ first + length done → HasFiles first done image → IfSome told (λ bytes. file image n ≡ Some bytes) → HasFiles first (done ++ told ∷ []) image
has_files-push first n [] told image is has one = let same : n ≡ first = omega (arith, is) in (subst (λ (k : ℕ). IfSome told (λ bytes. file image k ≡ Some bytes)) same one, tt)
has_files-push first n (d ∷ done) told image is has one = (has.0, has_files-push (first + 1) n done told image (omega (arith, is)) has.1 one)

-- so far
pub record Adopting (first total : ℕ) (start now : View) (number : ℕ) (done rest : List (Option (List ℕ))) : Type 0 where
  pub number_is : number ≡ first + length done
  pub total_is : total ≡ length done + length rest
  pub there : EachImage now (HasFiles first done)
  pub spends : Spends (length done) 0 start now
  pub crash : Leaves Same start now
  pub faults : now.faults ≡ start.faults
  pub free : Told now (IsFree number)
  pub areas : SameAreas start now

pub begins : (first total : ℕ) (u : View) (rest : List (Option (List ℕ))) → total ≡ length rest → Leaves Same u u → Told u (IsFree first) → Adopting first total u u first [] rest
begins first total u rest is none free = record {
  number_is = omega arith;
  total_is = omega (arith, is);
  there = λ i left. tt;
  spends = record { tells = refl; honest = refl; spare_calls = omega arith; spare_bytes = omega arith };
  crash = none;
  faults = refl;
  free = free;
  areas = λ before reads after again. ap (λ (i : Image). i.areas) (some_image after before (sym again ∙ reads));
}
  where
    some_image : (x y : Image) → Some x ≡ Some y → x ≡ y
    some_image x y is = cc

some_of : {A : Type 0} (o : Option A) → IsSome o → (x : A) × (o ≡ Some x)
some_of (Some x) is = (x, refl)
some_of None is = absurd (no_some is)
  where
    no_some : false ≡ true → ⊥
    no_some e = cc

pub one_more : (first total : ℕ) (start now next : View) (number : ℕ) (done rest : List (Option (List ℕ))) (told : Option (List ℕ)) → Adopting first total start now number done (told ∷ rest)
    → (IsSome now.seen → IsSome told)
    → ((bytes : List ℕ) → told ≡ Some bytes → next.seen ≡ option_map (with_file number bytes) now.seen)
    → ((bytes : List ℕ) → told ≡ Some bytes → EachImage next (λ left. file left number ≡ Some bytes))
    → Spends 1 0 now next → Leaves Same now next → next.faults ≡ now.faults
    → Adopting first total start next (number + 1) (done ++ told ∷ []) rest
one_more first total start now next number done rest told so_far tells adopted durable spends crash faults = record {
  number_is = omega (arith, so_far.number_is, length-append done (told ∷ []));
  total_is = omega (arith, so_far.total_is, length-append done (told ∷ []));
  there = λ i left. has_files-push first number done told i so_far.number_is (each_still (HasFiles first done) now next crash so_far.there i left) (one told refl i left);
  spends = record {
    tells = spends.tells ∙ so_far.spends.tells;
    honest = spends.honest ∙ so_far.spends.honest;
    spare_calls = omega (arith, spends.spare_calls, so_far.spends.spare_calls, length-append done (told ∷ []));
    spare_bytes = omega (arith, spends.spare_bytes, so_far.spends.spare_bytes);
  };
  crash = leaves_still Same start now next so_far.crash crash;
  faults = faults ∙ so_far.faults;
  free = free;
  areas = λ before reads after again.
      let mid = some_of now.seen (sym spends.tells ∙ ap is_some again) in
      let bytes = some_of told (tells (ap is_some mid.1)) in
      let same : with_file number bytes.0 mid.0 ≡ after = same_image _ _ (sym (adopted bytes.0 bytes.1 ∙ ap (option_map (with_file number bytes.0)) mid.1) ∙ again) in
      ap (λ (i : Image). i.areas) (sym same) ∙ so_far.areas before reads mid.0 mid.1;
}
  where
    one : (o : Option (List ℕ)) → told ≡ o → (i : Image) → next.may_leave i → IfSome o (λ bytes. file i number ≡ Some bytes)
    one None is i left = tt
    one (Some bytes) is i left = durable bytes is i left

    same_image : (x y : Image) → Some x ≡ Some y → x ≡ y
    same_image x y is = cc

    free : Told next (IsFree (number + 1))
    free image reads n above =
        let before = some_of now.seen (sym spends.tells ∙ ap is_some reads) in
        let bytes = some_of told (tells (ap is_some before.1)) in
        let same : with_file number bytes.0 before.0 ≡ image = same_image _ _ (sym (adopted bytes.0 bytes.1 ∙ ap (option_map (with_file number bytes.0)) before.1) ∙ reads) in
        ap (λ (i : Image). file i n) (sym same) ∙ other_file number n bytes.0 before.0 (λ e. absurd (omega arith)) ∙ so_far.free before.0 before.1 n (omega arith)

pub same_cause : {T E : Type 0} (a b c : ℕ) (result : Result T E) → b ≡ a → HasCause b c result → HasCause a c result
same_cause a b c result same cause = subst (λ (n : ℕ). HasCause n c result) same cause

-- ---- segments of the files so far

adopted_more : (first : ℕ) (made : List NewSegment) (m : NewSegment) (more : List SegmentView) (g : SegmentView) → AreAdopted first made more → IsAdopted (first + length made) m g → AreAdopted first (made ++ m ∷ []) (more ++ g ∷ [])
adopted_more first [] m [] g are one = (subst (λ (n : ℕ). IsAdopted n m g) (omega arith) one, tt)
adopted_more first [] m (h ∷ more) g are one = absurd are
adopted_more first (x ∷ made) m [] g are one = absurd are
adopted_more first (x ∷ made) m (h ∷ more) g are one = (are.0, adopted_more (first + 1) made m more g are.1 (subst (λ (n : ℕ). IsAdopted n m g) (omega arith) one))

pub joins_none : (first : ℕ) (old : List SegmentView) → AllJoined first [] old old
joins_none first old = record { more = []; joined = sym (append-nil old); adopted = tt }

pub joins_more : (first number : ℕ) (made : List NewSegment) (m : NewSegment) (old now : List SegmentView) (g : SegmentView) → number ≡ first + length made → AllJoined first made old now → IsAdopted number m g → AllJoined first (made ++ m ∷ []) old (now ++ g ∷ [])
joins_more first number made m old now g is j one = record {
  more = j.more ++ g ∷ [];
  joined = ap (λ (gs : List SegmentView). gs ++ g ∷ []) j.joined ∙ append_assoc old j.more (g ∷ []);
  adopted = adopted_more first made m j.more g j.adopted (subst (λ (n : ℕ). IsAdopted n m g) is one);
}

pub joined_some : (first : ℕ) (made done left : List NewSegment) (old now : List SegmentView) → made ≡ done ++ left → AllJoined first done old now → Joined first made old now
joined_some first made done left old now split j = record { done = done; left = left; split = split; more = j.more; joined = j.joined; adopted = j.adopted }
