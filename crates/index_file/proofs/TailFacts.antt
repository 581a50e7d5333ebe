-- The end of a file, and the footer there.
use Rattle.std.proofs.Common.{◌≡◌, ℕ, ◌+◌, ◌-◌, ◌<◌, ◌≤◌, ◌^◌, List, [], ◌++◌, length, take, drop, refl, sym, subst, ap, ◌∙◌, append_assoc, arith, length-append, length-drop}
use Rattle.std.proofs.lemmas.List.{drop-drop, drop_at, length-take-le, take-append-drop, take_all, take_at}
use Rattle.sha2.specs.Sha256.{sha256}
use Rattle.sha2.proofs.Facts256.{length-sha256}
use Rattle.dev_traits.specs.declared.faults.Part.{Part}
use Rattle.dev_traits.specs.declared.faults.Shown.{Shown}
use Rattle.dev_traits.specs.declared.faults.Shown.TheVariants.{Digests, Form, Absent}
use Rattle.index_file.specs.declared.footers.IndexFooter.{IndexFooter}
use Rattle.index_file.specs.Buckets.{footer_body, footer_bytes, tail_of, u64_bytes}
use Rattle.index_file.specs.Footers.{FooterShown, HasFooter, HasTail, IsFooter, IsFooterAt, TailShown}
use Rattle.index_file.specs.Reads.{fault_of, IsDamage, OnDamage, OnShown}
use Rattle.index_file.specs.declared.faults.PartFault.{PartFault}
use Rattle.index_file.specs.declared.faults.PartFault.TheVariants as fault
use Rattle.index_file.proofs.Fronts.{length-u64, u64_front}

pub same_number : (n m : ℕ) → n < 2 ^ 64 → m < 2 ^ 64 → u64_bytes n ≡ u64_bytes m → n ≡ m
same_number n m small small' e = (u64_front n m [] [] small small' (ap (λ (bytes : List ℕ). bytes ++ []) e)).0

-- a file that ends with a number
pub ends_with : (file front : List ℕ) (n : ℕ) → file ≡ front ++ u64_bytes n → (drop (length file - 8) file ≡ u64_bytes n) × (length file ≡ length front + 8)
ends_with file front n e =
    let long : length file ≡ length front + 8 = omega (arith, ap length e, length-append front (u64_bytes n), length-u64 n) in
    (ap (drop (length file - 8)) e ∙ drop_at front (u64_bytes n) (length file - 8) (omega arith), long)

-- the bytes before a file's last eight, which tell their number
abbrev pub told_bytes : ℕ → List ℕ → List ℕ
told_bytes n file = take n (drop (length file - 8 - n) file)

-- what a tail is, by the file's last eight bytes
pub record TailParts (file body digest : List ℕ) : Type 0 where
  pub number : drop (length file - 8) file ≡ u64_bytes (length body + 32)
  pub inside : length body + 40 ≤ length file
  pub short : length body + 32 < 2 ^ 64
  pub bytes : told_bytes (length body + 32) file ≡ body ++ digest

pub tail_parts : (file body digest : List ℕ) → HasTail file body digest → TailParts file body digest
tail_parts file body digest tail =
    let n = length body + 32 in
    let both = body ++ digest in
    let long : length both ≡ n = omega (arith, length-append body digest, tail.is_long) in
    let split : file ≡ tail.front ++ (both ++ u64_bytes n) = tail.split ∙ ap (λ (t : List ℕ). tail.front ++ t) (sym (append_assoc body digest (u64_bytes n))) in
    let end = ends_with file (tail.front ++ both) n (split ∙ sym (append_assoc tail.front both (u64_bytes n))) in
    let counted : length file ≡ length tail.front + n + 8 = omega (arith, end.1, length-append tail.front both) in
    record {
      number = end.0;
      inside = omega arith;
      short = tail.is_short;
      bytes = ap (λ (t : List ℕ). take n t) (ap (drop (length file - 8 - n)) split ∙ drop_at tail.front (both ++ u64_bytes n) (length file - 8 - n) (omega arith)) ∙ take_at both (u64_bytes n) n long;
    }

-- the file, split where its last eight bytes tell
pub split_at : (file : List ℕ) (n : ℕ) → n + 8 ≤ length file → drop (length file - 8) file ≡ u64_bytes n → file ≡ take (length file - 8 - n) file ++ (told_bytes n file ++ u64_bytes n)
split_at file n inside number =
    let at = length file - 8 - n in
    let next : at + n ≡ length file - 8 = omega arith in
    sym (take-append-drop at file)
    ∙ ap (λ (t : List ℕ). take at file ++ t) (sym (take-append-drop n (drop at file))
    ∙ ap (λ (t : List ℕ). told_bytes n file ++ t) (drop-drop n at file ∙ ap (λ (k : ℕ). drop k file) next ∙ number))

-- the tail of a file by its bytes
pub is_tail : (file bytes : List ℕ) (len : ℕ) → length bytes ≡ len + 32 → len + 40 ≤ length file → len + 32 < 2 ^ 64 → drop (length file - 8) file ≡ u64_bytes (len + 32) → bytes ≡ told_bytes (len + 32) file
    → HasTail file (take len bytes) (drop len bytes)
is_tail file bytes len long inside short number is =
    let counted : length (take len bytes) ≡ len = length-take-le len bytes (omega arith) in
    let split = split_at file (len + 32) (omega arith) number in
    record {
      front = take (length file - 8 - (len + 32)) file;
      split = split ∙ ap (λ (t : List ℕ). take (length file - 8 - (len + 32)) file ++ t) (
          ap (λ (t : List ℕ). t ++ u64_bytes (len + 32)) (sym is ∙ sym (take-append-drop len bytes))
          ∙ append_assoc (take len bytes) (drop len bytes) (u64_bytes (len + 32))
          ∙ ap (λ (k : ℕ). take len bytes ++ (drop len bytes ++ u64_bytes (k + 32))) (sym counted));
      is_long = omega (arith, length-drop len bytes);
      is_short = omega (arith, counted, short);
    }

-- a file has no other tail
pub only_tail : (file bytes body digest : List ℕ) (len : ℕ) → length bytes ≡ len + 32 → len + 32 < 2 ^ 64 → drop (length file - 8) file ≡ u64_bytes (len + 32) → bytes ≡ told_bytes (len + 32) file
    → HasTail file body digest → (body ≡ take len bytes) × (digest ≡ drop len bytes)
only_tail file bytes body digest len long small number is tail =
    let parts = tail_parts file body digest tail in
    let same : len + 32 ≡ length body + 32 = same_number (len + 32) (length body + 32) small parts.short (sym number ∙ parts.number) in
    let counted : length body ≡ len = omega arith in
    let all : bytes ≡ body ++ digest = is ∙ ap (λ (k : ℕ). told_bytes k file) same ∙ parts.bytes in
    (sym (take_at body digest len counted) ∙ ap (take len) (sym all), sym (drop_at body digest len counted) ∙ ap (drop len) (sym all))

-- the footer of a file is its tail
pub tail_of_footer : (f : IndexFooter) (file : List ℕ) → HasFooter f file → HasTail file (footer_body f) (sha256 (footer_body f))
tail_of_footer f file has =
    let body = footer_body f in
    let long : length (sha256 body) ≡ 32 = length-sha256 body in
    let counted : length (footer_bytes f) ≡ length body + 32 = omega (arith, length-append body (sha256 body)) in
    record {
      front = has.buckets;
      split = has.split ∙ ap (λ (t : List ℕ). has.buckets ++ t) (append_assoc body (sha256 body) (u64_bytes (length (footer_bytes f))) ∙ ap (λ (k : ℕ). body ++ (sha256 body ++ u64_bytes k)) counted);
      is_long = long;
      is_short = omega (arith, counted, has.short);
    }

-- the footer of a file, between the place where the buckets end and its length
pub footer_at : (f : IndexFooter) (file bytes : List ℕ) (len : ℕ) → length bytes ≡ len + 32 → len + 32 < 2 ^ 64 → drop (length file - 8) file ≡ u64_bytes (len + 32) → bytes ≡ told_bytes (len + 32) file
    → HasFooter f file → IsFooterAt (length file - 8 - (len + 32)) bytes f
footer_at f file bytes len long small number is has =
    let body = footer_body f in
    let parts = only_tail file bytes body (sha256 body) len long small number is (tail_of_footer f file has) in
    let written : footer_bytes f ≡ bytes = ap (λ (t : List ℕ). t ++ sha256 body) parts.0 ∙ ap (λ (t : List ℕ). take len bytes ++ t) parts.1 ∙ take-append-drop len bytes in
    let ends : length has.buckets ≡ length file - 8 - (len + 32) =
    omega (arith, ap length has.split, length-append has.buckets (tail_of f), length-append (footer_bytes f) (u64_bytes (length (footer_bytes f))), length-u64 (length (footer_bytes f)), ap length written) in
    record { is = subst (λ (k : ℕ). IsFooter f k) ends has.is; written = written }

-- and the other way round
pub has_footer : (f : IndexFooter) (file bytes : List ℕ) (len : ℕ) → length bytes ≡ len + 32 → len + 40 ≤ length file → len + 32 < 2 ^ 64 → drop (length file - 8) file ≡ u64_bytes (len + 32) → bytes ≡ told_bytes (len + 32) file
    → IsFooterAt (length file - 8 - (len + 32)) bytes f → HasFooter f file
has_footer f file bytes len long inside small number is at =
    let counted : len + 32 ≡ length (footer_bytes f) = omega (arith, ap length at.written) in
    let ends : length (take (length file - 8 - (len + 32)) file) ≡ length file - 8 - (len + 32) = length-take-le (length file - 8 - (len + 32)) file (omega arith) in
    record {
      buckets = take (length file - 8 - (len + 32)) file;
      is = subst (λ (k : ℕ). IsFooter f k) (sym ends) at.is;
      short = omega (arith, counted, small);
      split = split_at file (len + 32) (omega arith) number
          ∙ ap (λ (t : List ℕ). take (length file - 8 - (len + 32)) file ++ (t ++ u64_bytes (len + 32))) (sym is ∙ sym at.written)
          ∙ ap (λ (k : ℕ). take (length file - 8 - (len + 32)) file ++ (footer_bytes f ++ u64_bytes k)) counted;
    }

-- ---- what was read of a file's end

-- the last eight bytes, by the number that they tell
pub last_eight : (file last : List ℕ) (size n : ℕ) → size ≡ length file → 8 ≤ size → last ≡ take 8 (drop (size - 8) file) → last ≡ u64_bytes n → drop (length file - 8) file ≡ u64_bytes n
last_eight file last size n same some is told =
    sym (take_all 8 (drop (length file - 8) file) (omega (arith, length-drop (length file - 8) file))) ∙ ap (λ (k : ℕ). take 8 (drop (k - 8) file)) (sym same) ∙ sym is ∙ told

-- n bytes at a place, before the last eight bytes, which tell n
pub record TailRead (file bytes : List ℕ) (at n : ℕ) : Type 0 where
  pub at_is : at ≡ length file - 8 - n
  pub long : length bytes ≡ n
  pub low : 32 ≤ n
  pub high : n < 2 ^ 64
  pub inside : n + 8 ≤ length file
  pub number : drop (length file - 8) file ≡ u64_bytes n
  pub is : bytes ≡ take n (drop at file)

pub tail_read : (file bytes items : List ℕ) (length_told n size : ℕ) → length_told ≡ size → size ≡ length file → size ≤ 2 ^ 44 → (32 ≤ n) × (n + 8 ≤ size) → drop (length file - 8) file ≡ u64_bytes n
    → bytes ≡ items → length items ≡ n → items ≡ take n (drop (length_told - 8 - n) file) → TailRead file bytes (length_told - 8 - n) n
tail_read file bytes items length_told n size same told bound fits number is long read = record {
  at_is = omega (arith, same, told);
  long = ap length is ∙ long;
  low = fits.0;
  high = omega (arith, bound, fits.1);
  inside = omega (arith, told, fits.1);
  number = number;
  is = is ∙ read;
}

-- the same, by the length of what stands before the digest
record BodyRead (file bytes : List ℕ) (at len : ℕ) : Type 0 where
  at_is : at ≡ length file - 8 - (len + 32)
  long : length bytes ≡ len + 32
  small : len + 32 < 2 ^ 64
  inside : len + 40 ≤ length file
  number : drop (length file - 8) file ≡ u64_bytes (len + 32)
  is : bytes ≡ told_bytes (len + 32) file

body_read : (file bytes : List ℕ) (at n : ℕ) → TailRead file bytes at n → BodyRead file bytes at (n - 32)
body_read file bytes at n tail =
    let low = tail.low in
    let high = tail.high in
    let same : n ≡ n - 32 + 32 = omega arith in
    record {
      at_is = tail.at_is ∙ ap (λ (k : ℕ). length file - 8 - k) same;
      long = tail.long ∙ same;
      small = omega arith;
      inside = omega (arith, tail.inside);
      number = tail.number ∙ ap u64_bytes same;
      is = tail.is ∙ ap (λ (k : ℕ). take n (drop k file)) tail.at_is ∙ ap (λ (k : ℕ). told_bytes k file) same;
    }

pub footer_there : (f : IndexFooter) (file bytes : List ℕ) (at n : ℕ) → TailRead file bytes at n → IsFooterAt at bytes f → HasFooter f file
footer_there f file bytes at n tail is =
    let b = body_read file bytes at n tail in
    has_footer f file bytes (n - 32) b.long b.inside b.small b.number b.is (subst (λ (k : ℕ). IsFooterAt k bytes f) b.at_is is)

pub footer_read : (f : IndexFooter) (file bytes : List ℕ) (at n : ℕ) → TailRead file bytes at n → HasFooter f file → IsFooterAt at bytes f
footer_read f file bytes at n tail has =
    let b = body_read file bytes at n tail in
    subst (λ (k : ℕ). IsFooterAt k bytes f) (sym b.at_is) (footer_at f file bytes (n - 32) b.long b.small b.number b.is has)

pub tail_shown : (file bytes : List ℕ) (at n : ℕ) (shown : Shown) → TailRead file bytes at n → TailShown at (n - 32) bytes shown → FooterShown file shown
tail_shown file bytes at n (Digests kept found) tail differs =
    let b = body_read file bytes at n tail in
    record {
      body = take (n - 32) bytes;
      tail = subst (λ (d : List ℕ). HasTail file (take (n - 32) bytes) d) (sym differs.kept_is) (is_tail file bytes (n - 32) b.long b.inside b.small b.number b.is);
      found_is = differs.found_is;
      differ = differs.differ;
    }
tail_shown file bytes at n Form tail none =
    let b = body_read file bytes at n tail in
    record {
      agree = λ body digest t.
          let parts = only_tail file bytes body digest (n - 32) b.long b.small b.number b.is t in
          parts.1 ∙ none.agree ∙ ap sha256 (sym parts.0);
      none = λ f has. none.none f (footer_read f file bytes at n tail has);
    }
tail_shown file bytes at n Absent tail none = none

-- a file without a tail has no footer
pub no_tail : (file : List ℕ) → ((body digest : List ℕ) → HasTail file body digest → ⊥) → FooterShown file Form
no_tail file none = record {
  agree = λ body digest tail. absurd (none body digest tail);
  none = λ f has. none (footer_body f) (sha256 (footer_body f)) (tail_of_footer f file has);
}

-- the damage of a part, told of its file
pub damage_of : (file : ℕ) (part : Part) (fault : PartFault) (P Q : Shown → Type 0) → ((shown : Shown) → P shown → Q shown) → OnShown fault P → OnDamage (fault_of file part fault) (IsDamage file part Q)
damage_of file part (fault.Damaged shown) P Q step shows = record { file_is = refl; part_is = refl; shows = step shown shows }
damage_of file part fault.Memory P Q step shows = tt
