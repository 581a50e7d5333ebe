-- A file that was made has its footer, and is attached with it.
use Rattle.std.proofs.Common.{◌≡◌, ◌∙◌, ap, refl, sym, subst, ℕ, ◌+◌, ◌<◌, ◌≤◌, ◌^◌, ◌==◌, ◌&&◌, arith, All, List, [], ◌∷◌, length, Some, true, Bool as Truth}
use Rattle.std.specs.List.{flat_map}
use Rattle.std.specs.FinMap.{len}
use Rattle.std.proofs.lemmas.Bool.Decides.{nat_tests}
use Rattle.std.proofs.lemmas.List.{length-append}
use Rattle.std.proofs.lemmas.List.Elements.{All-cons, All-nil}
use Rattle.sha2.specs.Sha256.{sha256}
use Rattle.dev_traits.specs.Reader.{ReaderView, SameFile}
use Rattle.dev_traits.specs.declared.faults.Digest.{Digest}
use Rattle.dev_traits.specs.declared.faults.Part.TheVariants as part
use Rattle.dev_traits.specs.declared.faults.ReadFault.{ReadFault}
use Rattle.dev_traits.specs.declared.faults.ReadFault.TheVariants as read
use Rattle.dev_traits.specs.declared.faults.Shown.{Shown}
use Rattle.dev_traits.specs.declared.faults.Shown.TheVariants.{Digests, Form, Absent}
use Rattle.index_level0.specs.Levels.{Level}
use Rattle.index_file.specs.Buckets.{LevelFits, Pair, bucket_body, bucket_file, buckets_for, buckets_of, footer_body, footer_of, index_file, marks_from, tail_of}
use Rattle.index_file.specs.Entries.{HasLevel, IsFileOf}
use Rattle.index_file.specs.Footers.{FooterShown, HasFooter, HasTail, MarkFits, stand_until}
use Rattle.index_file.specs.FormLaws.{MadeHasFooter}
use Rattle.index_file.specs.Reads.{IsDamage, OnDamage, OnFile, TellsDamage}
use Rattle.index_file.specs.declared.footers.IndexFooter.{IndexFooter}
use Rattle.index_file.proofs.BucketFacts.{length-bucket_file}
use Rattle.index_file.proofs.FormFacts.{short_footer}
use Rattle.index_file.proofs.Fronts.{ends}
use Rattle.index_file.proofs.IntactFacts.{buckets_number}
use Rattle.index_file.proofs.TailFacts.{same_number, tail_of_footer, tail_parts, told_bytes}

itself : (n : ℕ) → (n == n) ≡ true
itself n = grind (arith, nat_tests)

equal : (n m : ℕ) → n ≡ m → (n == m) ≡ true
equal n m e = grind (arith, nat_tests)

-- buckets that stand one after the other end where their bytes do
standing : (end at : ℕ) (bs : List (List Pair)) → at + length (flat_map bucket_file bs) ≡ end → stand_until end at (marks_from at bs) ≡ true
standing end at [] e = equal at end (omega (arith, e))
standing end at (b ∷ bs) e =
    let next : at + length (bucket_file b) ≡ at + length (bucket_body b) + 32 = omega (arith, length-bucket_file b) in
    let later : at + length (bucket_file b) + length (flat_map bucket_file bs) ≡ end = omega (arith, e, length-append (bucket_file b) (flat_map bucket_file bs)) in
    ap (λ (t : Truth). t && stand_until end (at + length (bucket_body b) + 32) (marks_from (at + length (bucket_file b)) bs)) (itself at)
    ∙ subst (λ (k : ℕ). stand_until end k (marks_from (at + length (bucket_file b)) bs) ≡ true) next (standing end (at + length (bucket_file b)) bs later)

made_marks : (end at : ℕ) (bs : List (List Pair)) → at + length (flat_map bucket_file bs) ≤ end → end < 2 ^ 64 → All MarkFits (marks_from at bs)
made_marks end at [] inside small = All-nil MarkFits
made_marks end at (b ∷ bs) inside small =
    let long = length-append (bucket_file b) (flat_map bucket_file bs) in
    let body = length-bucket_file b in
    let later : at + length (bucket_file b) + length (flat_map bucket_file bs) ≤ end = omega (arith, inside, long) in
    let low : at < 2 ^ 64 = omega (arith, inside, small) in
    let short : length (bucket_body b) < 2 ^ 64 = omega (arith, inside, small, long, body) in
    All-cons MarkFits (record { place = at; length = length (bucket_body b) }) (marks_from (at + length (bucket_file b)) bs) (low, short) (made_marks end (at + length (bucket_file b)) bs later small)

few_buckets : (n : ℕ) → n < 2 ^ 64 → buckets_for n < 2 ^ 64
few_buckets n few = omega arith

stored_footer : (level : Level) → LevelFits level → HasFooter (footer_of level) (index_file level)
stored_footer level fits =
    let all = flat_map bucket_file (buckets_of level) in
    let small : length all < 2 ^ 64 = omega (arith, fits.size, length-append all (tail_of (footer_of level))) in
    let number : length (footer_of level).buckets ≡ buckets_for (len level) = buckets_number level in
    record {
      buckets = all;
      is = record {
        fits = record {
          entries = fits.few;
          number = subst (λ (n : ℕ). n < 2 ^ 64) (sym number) (few_buckets (len level) fits.few);
          marks = made_marks (length all) 0 (buckets_of level) (omega arith) small;
        };
        number = number;
        stand = standing (length all) 0 (buckets_of level) (omega arith);
      };
      short = short_footer level fits;
      split = refl;
    }

pub made_has_footer : MadeHasFooter
made_has_footer base f file level is = subst (λ (p : IndexFooter × List ℕ). HasFooter p.0 p.1) (λ i. (sym is.footer_is i, sym is.file_is i)) (stored_footer is.stored is.fits)

-- ---- attached

same_tail : (file a b da db : List ℕ) → HasTail file a da → HasTail file b db → (a ≡ b) × (da ≡ db)
same_tail file a b da db s t =
    let p = tail_parts file a da s in
    let q = tail_parts file b db t in
    let same : length a + 32 ≡ length b + 32 = same_number (length a + 32) (length b + 32) p.short q.short (sym p.number ∙ q.number) in
    ends a b da db (s.is_long ∙ sym t.is_long) (sym p.bytes ∙ ap (λ (k : ℕ). told_bytes k file) same ∙ q.bytes)

same_digest : (a b : Digest) → a.bytes ≡ b.bytes → a ≡ b
same_digest a b e = λ i. record { bytes = e i }

not_shown : (file : List ℕ) (f : IndexFooter) (shown : Shown) → HasFooter f file → FooterShown file shown → ⊥
not_shown file f (Digests kept found) has differs =
    let both = same_tail file differs.body (footer_body f) kept.bytes (sha256 (footer_body f)) differs.tail (tail_of_footer f file has) in
    differs.differ (same_digest kept found (both.1 ∙ ap sha256 (sym both.0) ∙ sym differs.found_is))
not_shown file f Form has none = none.none f has
not_shown file f Absent has none = none

pub intact_footer : (e : ReadFault) (number base : ℕ) (reader : ReaderView) → OnDamage e (IsDamage number part.Footer (λ shown. OnFile reader (λ bytes. FooterShown bytes shown))) → TellsDamage e
    → OnFile reader (λ bytes. (f : IndexFooter) (level : Level) → IsFileOf base f bytes level → ⊥)
intact_footer (read.Damaged damaged) number base reader damage tells bytes told f level is = not_shown bytes f damaged.shown (made_has_footer base f bytes level is) (damage.shows bytes told)
intact_footer read.StoreFault number base reader damage tells bytes told f level is = tells
intact_footer read.Memory number base reader damage tells bytes told f level is = tells

pub attached_level : (base : ℕ) (f g : IndexFooter) (bytes : List ℕ) (level : Level) (old new : ReaderView) → g ≡ f → SameFile old new → old.bytes ≡ Some bytes → IsFileOf base f bytes level
    → HasLevel base g new level
attached_level base f g bytes level old new e same told is = record {
  file = bytes;
  told = same.bytes ∙ told;
  is = subst (λ (h : IndexFooter). IsFileOf base h bytes level) (sym e) is;
}
