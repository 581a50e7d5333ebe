-- How readers of fields follow each other.
use Rattle.std.proofs.Common.{◌≡◌, ℕ, ◌<◌, ◌^◌, List, [], ◌∷◌, ◌++◌, length, take, drop, refl, sym, ap, subst, ◌∙◌, arith, append_assoc, append-nil, length-append, Some, None, Bool, true, false, ◌==◌}
use Rattle.std.specs.Prelude.{All}
use Rattle.std.specs.List.{flat_map}
use Rattle.std.proofs.lemmas.List.{take-append-drop}
use Rattle.std.proofs.lemmas.List.Elements.{All-cons, All-head, All-tail}
use Rattle.byteorder.specs.Endian.{big_bytes}
use Rattle.byteorder.specs.Numbers.{length-bytes_high_first}
use Rattle.value_bytes.specs.Fields.{Field, Tells, by, counted, followed, number, optional, such, text, times}
use Rattle.value_bytes.specs.Reads.{HasRead, IsWhole, NotRead, NotWhole, Reads}

pub number_read : (w n : ℕ) (bytes rest : List ℕ) → n < 256 ^ w → take w bytes ≡ big_bytes w n → rest ≡ drop w bytes → Reads (number w) bytes n rest
number_read w n bytes rest f h e = record { fits = f; spelled = ap (λ (t : List ℕ). t ++ rest) (sym h) ∙ ap (λ (t : List ℕ). take w bytes ++ t) e ∙ take-append-drop w bytes }

pub number_short : (w : ℕ) (bytes : List ℕ) → length bytes < w → NotRead (number w) bytes
number_short w bytes short n rest f e =
    let len = length-append (big_bytes w n) rest in
    let known = length-bytes_high_first w n in
    let all : length (big_bytes w n ++ rest) ≡ length bytes = ap length e in
    omega arith

module _ {X Y : Type 0} (f : Field X) (g : X → Field Y) where
  pub then_read : (bytes mid rest : List ℕ) (x : X) (y : Y) → Reads f bytes x mid → Reads (g x) mid y rest → Reads (followed f g) bytes (x, y) rest
  then_read bytes mid rest x y p q = record {
    fits = (p.fits, q.fits);
    spelled = append_assoc (f.bytes x) ((g x).bytes y) rest ∙ ap (λ (t : List ℕ). f.bytes x ++ t) q.spelled ∙ p.spelled;
  }

  pub not_first : (bytes : List ℕ) → NotRead f bytes → NotRead (followed f g) bytes
  not_first bytes none p rest fits e = none p.0 ((g p.0).bytes p.1 ++ rest) fits.0 (sym (append_assoc (f.bytes p.0) ((g p.0).bytes p.1) rest) ∙ e)

  pub not_second : Tells f → (bytes mid : List ℕ) (x : X) → Reads f bytes x mid → NotRead (g x) mid → NotRead (followed f g) bytes
  not_second tells bytes mid x is none p rest fits e =
      let same = tells p.0 x ((g p.0).bytes p.1 ++ rest) mid fits.0 is.fits (sym (append_assoc (f.bytes p.0) ((g p.0).bytes p.1) rest) ∙ e ∙ sym is.spelled) in
      none p.1 rest (subst (λ (z : X). (g z).fits p.1) same.0 fits.1) (ap (λ (z : X). (g z).bytes p.1 ++ rest) (sym same.0) ∙ same.1)

module _ {X Y : Type 0} (parts : X → Y) (f : Field Y) where
  pub by_read : (bytes rest : List ℕ) (x : X) → Reads f bytes (parts x) rest → Reads (by parts f) bytes x rest
  by_read bytes rest x p = record { fits = p.fits; spelled = p.spelled }

  pub not_by : (bytes : List ℕ) → NotRead f bytes → NotRead (by parts f) bytes
  not_by bytes none x rest fits e = none (parts x) rest fits e

module _ {X : Type 0} (f : Field X) where
  flat-push : (xs : List X) (x : X) → flat_map f.bytes (xs ++ x ∷ []) ≡ flat_map f.bytes xs ++ f.bytes x
  flat-push [] x = append-nil (f.bytes x)
  flat-push (y ∷ xs) x = ap (λ (t : List ℕ). f.bytes y ++ t) (flat-push xs x) ∙ sym (append_assoc (f.bytes y) (flat_map f.bytes xs) (f.bytes x))

  all-push : (xs : List X) (x : X) → All f.fits xs → f.fits x → All f.fits (xs ++ x ∷ [])
  all-push [] x h g = All-cons f.fits x [] g h
  all-push (y ∷ xs) x h g = All-cons f.fits y (xs ++ x ∷ []) (All-head f.fits y xs h) (all-push xs x (All-tail f.fits y xs h) g)

  pub none_read : (bytes : List ℕ) → HasRead f bytes [] bytes
  none_read bytes = record { fits = λ k d lt. absurd (omega arith); spelled = refl }

  pub one_read : (bytes left rest : List ℕ) (xs : List X) (x : X) → HasRead f bytes xs left → Reads f left x rest → HasRead f bytes (xs ++ x ∷ []) rest
  one_read bytes left rest xs x h p = record {
    fits = all-push xs x h.fits p.fits;
    spelled = ap (λ (t : List ℕ). t ++ rest) (flat-push xs x) ∙ append_assoc (flat_map f.bytes xs) (f.bytes x) rest ∙ ap (λ (t : List ℕ). flat_map f.bytes xs ++ t) p.spelled ∙ h.spelled;
  }

  pub all_read : (bytes left : List ℕ) (n : ℕ) (xs : List X) → length xs ≡ n → HasRead f bytes xs left → Reads (times f n) bytes xs left
  all_read bytes left n xs e h = record { fits = (e, h.fits); spelled = h.spelled }

  pub stops : Tells f → (bytes left : List ℕ) (n : ℕ) (xs : List X) → length xs < n → HasRead f bytes xs left → NotRead f left → NotRead (times f n) bytes
  stops tells bytes left n [] lt h none [] rest fits e = let len = fits.0 in absurd (omega arith)
  stops tells bytes left n [] lt h none (y ∷ ys) rest fits e =
      none y (flat_map f.bytes ys ++ rest) (All-head f.fits y ys fits.1) (sym (append_assoc (f.bytes y) (flat_map f.bytes ys) rest) ∙ e ∙ sym h.spelled)
  stops tells bytes left n (x ∷ xs) lt h none [] rest fits e = let len = fits.0 in absurd (omega arith)
  stops tells bytes left n (x ∷ xs) lt h none (y ∷ ys) rest fits e =
      let same = tells y x (flat_map f.bytes ys ++ rest) (flat_map f.bytes xs ++ left) (All-head f.fits y ys fits.1) (All-head f.fits x xs h.fits)
      (sym (append_assoc (f.bytes y) (flat_map f.bytes ys) rest) ∙ e ∙ sym h.spelled ∙ append_assoc (f.bytes x) (flat_map f.bytes xs) left) in
      let len = fits.0 in
      stops tells (flat_map f.bytes xs ++ left) left (length ys) xs (omega arith) (record { fits = All-tail f.fits x xs h.fits; spelled = refl }) none ys rest (refl, All-tail f.fits y ys fits.1) same.1

module _ {X : Type 0} (count : Field ℕ) (f : Field X) where
  pub counted_read : (bytes mid rest : List ℕ) (n : ℕ) (xs : List X) → Reads count bytes n mid → Reads (times f n) mid xs rest → Reads (counted count f) bytes xs rest
  counted_read bytes mid rest n xs p q =
      let first : Reads count bytes (length xs) mid = subst (λ (k : ℕ). Reads count bytes k mid) (sym q.fits.0) p in
      let second : Reads (times f (length xs)) mid xs rest = record { fits = (refl, q.fits.1); spelled = q.spelled } in
      by_read (λ xs. (length xs, xs)) (followed count (λ n. times f n)) bytes rest xs (then_read count (λ n. times f n) bytes mid rest (length xs) xs first second)

  pub not_count : (bytes : List ℕ) → NotRead count bytes → NotRead (counted count f) bytes
  not_count bytes none = not_by (λ xs. (length xs, xs)) (followed count (λ n. times f n)) bytes (not_first count (λ n. times f n) bytes none)

  pub not_list : Tells count → (bytes mid : List ℕ) (n : ℕ) → Reads count bytes n mid → NotRead (times f n) mid → NotRead (counted count f) bytes
  not_list tells bytes mid n p none = not_by (λ xs. (length xs, xs)) (followed count (λ n. times f n)) bytes (not_second count (λ n. times f n) tells bytes mid n p none)

module _ (count : Field ℕ) where
  pub text_read : (bytes mid rest t : List ℕ) (n : ℕ) → Reads count bytes n mid → length t ≡ n → t ++ rest ≡ mid → Reads (text count) bytes t rest
  text_read bytes mid rest t n p len e =
      let first : Reads count bytes (length t) mid = subst (λ (k : ℕ). Reads count bytes k mid) (sym len) p in
      record { fits = first.fits; spelled = append_assoc (count.bytes (length t)) t rest ∙ ap (λ (s : List ℕ). count.bytes (length t) ++ s) e ∙ first.spelled }

  pub not_length : (bytes : List ℕ) → NotRead count bytes → NotRead (text count) bytes
  not_length bytes none t rest fits e = none (length t) (t ++ rest) fits (sym (append_assoc (count.bytes (length t)) t rest) ∙ e)

  pub text_short : Tells count → (bytes mid : List ℕ) (n : ℕ) → Reads count bytes n mid → length mid < n → NotRead (text count) bytes
  text_short tells bytes mid n p short t rest fits e =
      let same = tells (length t) n (t ++ rest) mid fits p.fits (sym (append_assoc (count.bytes (length t)) t rest) ∙ e ∙ sym p.spelled) in
      let all = ap length same.1 in
      let number = same.0 in
      absurd (omega (arith, length-append t rest))

module _ {X : Type 0} (f : Field X) where
  pub some_read : (bytes mid rest : List ℕ) (x : X) → bytes ≡ 1 ∷ mid → Reads f mid x rest → Reads (optional f) bytes (Some x) rest
  some_read bytes mid rest x e p = record { fits = p.fits; spelled = ap (λ (t : List ℕ). 1 ∷ t) p.spelled ∙ sym e }

  pub none_there : (bytes rest : List ℕ) → bytes ≡ 0 ∷ rest → Reads (optional f) bytes None rest
  none_there bytes rest e = record { fits = tt; spelled = sym e }

  pub not_value : (bytes mid : List ℕ) → bytes ≡ 1 ∷ mid → NotRead f mid → NotRead (optional f) bytes
  not_value bytes mid e none None rest fits g = let h : 0 ∷ rest ≡ 1 ∷ mid = g ∙ e in cc
  not_value bytes mid e none (Some x) rest fits g = let h : 1 ∷ (f.bytes x ++ rest) ≡ 1 ∷ mid = g ∙ e in none x rest fits cc

module _ {X : Type 0} (f : Field X) where
  pub whole_read : (bytes rest : List ℕ) (x : X) → rest ≡ [] → Reads f bytes x rest → IsWhole f bytes x
  whole_read bytes rest x e p = record { fits = p.fits; spelled = sym (append-nil (f.bytes x)) ∙ ap (λ (t : List ℕ). f.bytes x ++ t) (sym e) ∙ p.spelled }

  pub not_begun : (bytes : List ℕ) → NotRead f bytes → NotWhole f bytes
  not_begun bytes none x is = none x [] is.fits (append-nil (f.bytes x) ∙ is.spelled)

  pub not_ended : Tells f → (bytes rest : List ℕ) (x : X) → (rest ≡ [] → ⊥) → Reads f bytes x rest → NotWhole f bytes
  not_ended tells bytes rest x more p y is = more (sym (tells y x [] rest is.fits p.fits (append-nil (f.bytes y) ∙ is.spelled ∙ sym p.spelled)).1)

pub not_empty : (xs : List ℕ) (b : Bool) → b ≡ (length xs == 0) → b ≡ false → xs ≡ [] → ⊥
not_empty [] b e f is = apart (sym e ∙ f)
  where
    apart : true ≡ false → ⊥
    apart q = cc
not_empty (x ∷ xs) b e f is = cc

module _ {X : Type 0} (f : Field X) (P : X → Type 0) where
  pub such_read : (bytes rest : List ℕ) (x : X) → Reads f bytes x rest → P x → Reads (such f P) bytes x rest
  such_read bytes rest x p q = record { fits = (p.fits, q); spelled = p.spelled }

  pub not_such : Tells f → (bytes rest : List ℕ) (x : X) → Reads f bytes x rest → (P x → ⊥) → NotRead (such f P) bytes
  not_such tells bytes rest x p none y left fits e = none (subst P (tells y x left rest fits.0 p.fits (e ∙ sym p.spelled)).0 fits.1)

  pub not_any : (bytes : List ℕ) → NotRead f bytes → NotRead (such f P) bytes
  not_any bytes none y left fits e = none y left fits.0 e
