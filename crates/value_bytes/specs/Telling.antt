-- Fields that are put together tell their values.
use Rattle.std.proofs.Common.{◌≡◌, ℕ, List, [], ◌∷◌, ◌++◌, length, take, refl, sym, ap, subst, ◌∙◌, arith, true}
use Rattle.std.proofs.Common.{false, Some, None, append_assoc}
use Rattle.std.specs.Prelude.{All}
use Rattle.std.specs.List.{flat_map}
use Rattle.std.proofs.lemmas.List.{append_cancel_left, take_at}
use Rattle.std.proofs.lemmas.List.Elements.{All-head, All-tail}
use Rattle.byteorder.specs.Endian.{big_bytes, big_number}
use Rattle.byteorder.specs.Numbers.{big_number-reads_back}
use Rattle.value_bytes.specs.Fields.{Field, Tells, both, by, counted, flag, followed, number, optional, such, text}
use Rattle.value_bytes.specs.Fields.{times, u8, u16, u32, u64}

-- texts of one length at the front of one list are the same
pub same_front : (a b r s : List ℕ) → length a ≡ length b → a ++ r ≡ b ++ s → (a ≡ b) × (r ≡ s)
same_front a b r s e h =
    let same : a ≡ b = sym (take_at a r (length b) e) ∙ ap (take (length b)) h ∙ take_at b s (length b) refl in
    (same, append_cancel_left b r s (ap (λ (t : List ℕ). t ++ r) (sym same) ∙ h))

pub number-tells : (w : ℕ) → Tells (number w)
number-tells w n m r s f g h =
    let same : n ≡ m = sym (big_number-reads_back w n r f) ∙ ap (big_number w) h ∙ big_number-reads_back w m s g in
    (same, append_cancel_left (big_bytes w m) r s (ap (λ (k : ℕ). big_bytes w k ++ r) (sym same) ∙ h))

pub flag-tells : Tells flag
flag-tells false false r s f g h = (refl, cc)
flag-tells true true r s f g h = (refl, cc)
flag-tells false true r s f g h = cc
flag-tells true false r s f g h = cc

module _ {X Y : Type 0} where
  pub followed-tells : (f : Field X) (g : X → Field Y) → Tells f → ((x : X) → Tells (g x)) → Tells (followed f g)
  followed-tells f g tf tg p q r s fp fq h =
      let first = tf p.0 q.0 ((g p.0).bytes p.1 ++ r) ((g q.0).bytes q.1 ++ s) fp.0 fq.0 (sym (append_assoc (f.bytes p.0) ((g p.0).bytes p.1) r) ∙ h ∙ append_assoc (f.bytes q.0) ((g q.0).bytes q.1) s) in
      let fits : (g p.0).fits q.1 = subst (λ (x : X). (g x).fits q.1) (sym first.0) fq.1 in
      let bytes : (g p.0).bytes p.1 ++ r ≡ (g p.0).bytes q.1 ++ s = first.1 ∙ ap (λ (x : X). (g x).bytes q.1 ++ s) (sym first.0) in
      let second = tg p.0 p.1 q.1 r s fp.1 fits bytes in
      ((λ i. (first.0 i, second.0 i)), second.1)

  pub both-tells : (f : Field X) (g : Field Y) → Tells f → Tells g → Tells (both f g)
  both-tells f g tf tg = followed-tells f (λ x. g) tf (λ x. tg)

  -- where the parts give the value back
  pub by-tells : (parts : X → Y) (whole : Y → X) (f : Field Y) → ((x : X) → whole (parts x) ≡ x) → Tells f
      → Tells (by parts f)
  by-tells parts whole f back tf x y r s fx fy h =
      let p = tf (parts x) (parts y) r s fx fy h in
      (sym (back x) ∙ ap whole p.0 ∙ back y, p.1)

module _ {X : Type 0} where
  pub such-tells : (f : Field X) (P : X → Type 0) → Tells f → Tells (such f P)
  such-tells f P tf x y r s fx fy h = tf x y r s fx.0 fy.0 h

  times-tells-lists : (f : Field X) → Tells f → (xs ys : List X) (r s : List ℕ) → length xs ≡ length ys
      → All f.fits xs → All f.fits ys → flat_map f.bytes xs ++ r ≡ flat_map f.bytes ys ++ s → (xs ≡ ys) × (r ≡ s)
  times-tells-lists f tf [] [] r s e fx fy h = (refl, h)
  times-tells-lists f tf [] (y ∷ ys) r s e fx fy h = absurd (omega arith)
  times-tells-lists f tf (x ∷ xs) [] r s e fx fy h = absurd (omega arith)
  times-tells-lists f tf (x ∷ xs) (y ∷ ys) r s e fx fy h =
      let first = tf x y (flat_map f.bytes xs ++ r) (flat_map f.bytes ys ++ s) (All-head f.fits x xs fx) (All-head f.fits y ys fy) (sym (append_assoc (f.bytes x) (flat_map f.bytes xs) r) ∙ h ∙ append_assoc (f.bytes y) (flat_map f.bytes ys) s) in
      let len : length xs ≡ length ys = omega arith in
      let rest = times-tells-lists f tf xs ys r s len (All-tail f.fits x xs fx) (All-tail f.fits y ys fy) first.1 in
      ((λ i. first.0 i ∷ rest.0 i), rest.1)

  pub times-tells : (f : Field X) (n : ℕ) → Tells f → Tells (times f n)
  times-tells f n tf xs ys r s fx fy h = times-tells-lists f tf xs ys r s (fx.0 ∙ sym fy.0) fx.1 fy.1 h

  pub counted-tells : (count : Field ℕ) (f : Field X) → Tells count → Tells f → Tells (counted count f)
  counted-tells count f tc tf = by-tells (λ xs. (length xs, xs)) (λ p. p.1) (followed count (λ n. times f n)) (λ xs. refl) (followed-tells count (λ n. times f n) tc (λ n. times-tells f n tf))

  pub optional-tells : (f : Field X) → Tells f → Tells (optional f)
  optional-tells f tf None None r s fx fy h = (refl, cc)
  optional-tells f tf (Some x) (Some y) r s fx fy h = let p = tf x y r s fx fy cc in (ap Some p.0, p.1)
  optional-tells f tf None (Some y) r s fx fy h = cc
  optional-tells f tf (Some x) None r s fx fy h = cc

pub text-tells : (count : Field ℕ) → Tells count → Tells (text count)
text-tells count tc t u r s ft fu h =
    let first = tc (length t) (length u) (t ++ r) (u ++ s) ft fu (sym (append_assoc (count.bytes (length t)) t r) ∙ h ∙ append_assoc (count.bytes (length u)) u s) in
    same_front t u r s first.0 first.1

pub u16-tells : Tells u16
u16-tells = number-tells 2

pub u32-tells : Tells u32
u32-tells = number-tells 4

pub u64-tells : Tells u64
u64-tells = number-tells 8

pub u8-tells : Tells u8
u8-tells = number-tells 1
