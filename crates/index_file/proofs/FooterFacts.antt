-- The fields of a footer, and where its buckets stand.
use Rattle.std.proofs.Common.{◌≡◌, refl, ap, sym, subst, ◌∙◌, ℕ, zero, suc, ◌+◌, ◌<◌, ◌≤◌, ◌^◌, ◌==◌, arith, List, [], ◌∷◌, ◌++◌, length, map, drop, take, get_or, Some, Bool as Truth, true, false, All, slice_get}
use Rattle.std.specs.List.{flat_map}
use Rattle.std.proofs.lemmas.Bool.{and_parts}
use Rattle.std.proofs.lemmas.Bool.Decides.{nat_tests}
use Rattle.std.proofs.lemmas.List.{append-nil, drop_more, length-append, take-append-drop, take_at}
use Rattle.std.proofs.lemmas.List.Elements.{All-cons, All-head, All-nil, All-tail}
use Rattle.sha2.specs.Sha256.{sha256}
use Rattle.sha2.proofs.Facts256.{length-sha256}
use Rattle.value_bytes.specs.Fields.{both, counted, u64}
use Rattle.value_bytes.specs.Reads.{IsWhole, NotWhole}
use Rattle.value_bytes.specs.Telling.{both-tells, counted-tells, u64-tells}
use Rattle.index_file.specs.declared.footers.BucketMark.{BucketMark}
use Rattle.index_file.specs.declared.footers.IndexFooter.{IndexFooter}
use Rattle.index_file.specs.Buckets.{buckets_for, footer_body, footer_bytes, mark_bytes, tail_of, u64_bytes}
use Rattle.index_file.specs.FooterFields.{footer_field, mark_of_pair, marks_of_pairs}
use Rattle.index_file.specs.Footers.{FooterFits, HasFooter, IsFooter, IsFooterAt, IsNoFooter, IsTheFooter, MarkFits, stand_until}
use Rattle.index_file.proofs.Fronts.{ends}

abbrev pub pair_of : BucketMark → ℕ × ℕ
pair_of m = (m.place, m.length)

abbrev pub fields : IndexFooter → ℕ × List (ℕ × ℕ)
fields f = (f.entries, map pair_of f.buckets)

length_mapped : {A B : Type 0} (g : A → B) (xs : List A) → length (map g xs) ≡ length xs
length_mapped g [] = refl
length_mapped g (x ∷ xs) = ap suc (length_mapped g xs)

marks_written : (ms : List BucketMark) → flat_map (both u64 u64).bytes (map pair_of ms) ≡ flat_map mark_bytes ms
unfolding u64_bytes
marks_written [] = refl
marks_written (m ∷ ms) = ap (λ (t : List ℕ). (both u64 u64).bytes (pair_of m) ++ t) (marks_written ms)

-- a footer's bytes are those of its fields
pub spelled : (f : IndexFooter) → footer_body f ≡ 80 ∷ 75 ∷ 73 ∷ 88 ∷ 1 ∷ footer_field.bytes (fields f)
unfolding u64_bytes
spelled f =
    ap (λ (t : List ℕ). 80 ∷ 75 ∷ 73 ∷ 88 ∷ 1 ∷ (u64.bytes f.entries ++ (u64.bytes (length f.buckets) ++ t))) (sym (marks_written f.buckets))
    ∙ ap (λ (n : ℕ). 80 ∷ 75 ∷ 73 ∷ 88 ∷ 1 ∷ (u64.bytes f.entries ++ (u64.bytes n ++ flat_map (both u64 u64).bytes (map pair_of f.buckets)))) (sym (length_mapped pair_of f.buckets))

pairs_fit : (ms : List BucketMark) → All MarkFits ms → All (both u64 u64).fits (map pair_of ms)
pairs_fit [] fit = All-nil (both u64 u64).fits
pairs_fit (m ∷ ms) fit = All-cons (both u64 u64).fits (pair_of m) (map pair_of ms) (All-head MarkFits m ms fit) (pairs_fit ms (All-tail MarkFits m ms fit))

marks_fit : (ps : List (ℕ × ℕ)) → All (both u64 u64).fits ps → All MarkFits (marks_of_pairs ps)
marks_fit [] fit = All-nil MarkFits
marks_fit (p ∷ ps) fit = All-cons MarkFits (mark_of_pair p) (marks_of_pairs ps) (All-head (both u64 u64).fits p ps fit) (marks_fit ps (All-tail (both u64 u64).fits p ps fit))

pub fields_fit : (f : IndexFooter) → FooterFits f → footer_field.fits (fields f)
fields_fit f fits = (fits.entries, (subst (λ (n : ℕ). n < 2 ^ 64) (sym (length_mapped pair_of f.buckets)) fits.number, (refl, pairs_fit f.buckets fits.marks)))

back : (ps : List (ℕ × ℕ)) → map pair_of (marks_of_pairs ps) ≡ ps
back [] = refl
back (p ∷ ps) = ap (λ (qs : List (ℕ × ℕ)). p ∷ qs) (back ps)

-- the footer that fields make
abbrev pub footer_from : ℕ × List (ℕ × ℕ) → IndexFooter
footer_from p = record { entries = p.0; buckets = marks_of_pairs p.1 }

pub made_fits : (p : ℕ × List (ℕ × ℕ)) (bytes : List ℕ) → IsWhole footer_field bytes p → FooterFits (footer_from p)
made_fits p bytes whole = record { entries = whole.fits.0; number = subst (λ (n : ℕ). n < 2 ^ 64) (sym (length_mapped mark_of_pair p.1)) whole.fits.1.0; marks = marks_fit p.1 whole.fits.1.1.1 }

pub made_is : (p : ℕ × List (ℕ × ℕ)) (bytes rest : List ℕ) → IsWhole footer_field rest p → bytes ≡ 80 ∷ 75 ∷ 73 ∷ 88 ∷ 1 ∷ rest → footer_body (footer_from p) ≡ bytes
made_is p bytes rest whole is =
    spelled (footer_from p) ∙ ap (λ (ps : List (ℕ × ℕ)). 80 ∷ 75 ∷ 73 ∷ 88 ∷ 1 ∷ footer_field.bytes (p.0, ps)) (back p.1) ∙ ap (λ (t : List ℕ). 80 ∷ 75 ∷ 73 ∷ 88 ∷ 1 ∷ t) whole.spelled ∙ sym is

five : (r s : List ℕ) → 80 ∷ 75 ∷ 73 ∷ 88 ∷ 1 ∷ r ≡ 80 ∷ 75 ∷ 73 ∷ 88 ∷ 1 ∷ s → r ≡ s
five r s e = cc

pub no_fields : (bytes rest : List ℕ) → bytes ≡ 80 ∷ 75 ∷ 73 ∷ 88 ∷ 1 ∷ rest → NotWhole footer_field rest → (f : IndexFooter) → FooterFits f → footer_body f ≡ bytes → ⊥
no_fields bytes rest is none f fits written =
    none (fields f) (record { fits = fields_fit f fits; spelled = five (footer_field.bytes (fields f)) rest (sym (spelled f) ∙ written ∙ is) })

-- footers of one body are the same
pub same_footer : (f g : IndexFooter) → FooterFits f → FooterFits g → footer_body f ≡ footer_body g → f ≡ g
same_footer f g fits fits' e =
    let tells = both-tells u64 (counted u64 (both u64 u64)) u64-tells (counted-tells u64 (both u64 u64) u64-tells (both-tells u64 u64 u64-tells u64-tells)) in
    let body = five (footer_field.bytes (fields f)) (footer_field.bytes (fields g)) (sym (spelled f) ∙ e ∙ spelled g) in
    let same = (tells (fields f) (fields g) [] [] (fields_fit f fits) (fields_fit g fits') (append-nil (footer_field.bytes (fields f)) ∙ body ∙ sym (append-nil (footer_field.bytes (fields g))))).0 in
    sym (whole f) ∙ ap footer_from same ∙ whole g
  where
    again : (ms : List BucketMark) → marks_of_pairs (map pair_of ms) ≡ ms
    again [] = refl
    again (m ∷ ms) = ap (λ (ns : List BucketMark). m ∷ ns) (again ms)

    whole : (h : IndexFooter) → footer_from (fields h) ≡ h
    whole h = ap (λ (ms : List BucketMark). made h.entries ms) (again h.buckets)
      where
        made : ℕ → List BucketMark → IndexFooter
        made n ms = record { entries = n; buckets = ms }

pub only_footer : (at : ℕ) (bytes : List ℕ) (f other : IndexFooter) → IsFooterAt at bytes f → IsFooterAt at bytes other → f ≡ other
only_footer at bytes f other is has =
    same_footer f other is.is.fits has.is.fits
    (ends (footer_body f) (footer_body other) (sha256 (footer_body f)) (sha256 (footer_body other)) (length-sha256 (footer_body f) ∙ sym (length-sha256 (footer_body other))) (is.written ∙ sym has.written)).0

-- ---- where buckets stand

-- no bucket ends above the end
pub not_past : (end at : ℕ) (ms : List BucketMark) → stand_until end at ms ≡ true → at ≤ end
not_past end at [] h = grind (arith, nat_tests, h)
not_past end at (m ∷ ms) h =
    let parts = and_parts (m.place == at) (stand_until end (at + m.length + 32) ms) h in
    omega (arith, not_past end (at + m.length + 32) ms parts.1)

pub stands_inside : (end at : ℕ) (ms : List BucketMark) (b : ℕ) (mark : BucketMark) → stand_until end at ms ≡ true → slice_get ms b ≡ Some mark → mark.place + mark.length + 32 ≤ end
stands_inside end at [] b mark h there = cc
stands_inside end at (m ∷ ms) zero mark h there =
    let parts = and_parts (m.place == at) (stand_until end (at + m.length + 32) ms) h in
    let place : m.place ≡ at = grind (arith, nat_tests, parts.0) in
    let is : m ≡ mark = same m mark there in
    omega (arith, not_past end (at + m.length + 32) ms parts.1, place, ap (λ (x : BucketMark). x.place) is, ap (λ (x : BucketMark). x.length) is)
  where
    same : (x y : BucketMark) → Some x ≡ Some y → x ≡ y
    same x y e = cc
stands_inside end at (m ∷ ms) (suc b) mark h there =
    let parts = and_parts (m.place == at) (stand_until end (at + m.length + 32) ms) h in
    stands_inside end (at + m.length + 32) ms b mark parts.1 there

-- each bucket of a file stands inside it
pub bucket_within : (f : IndexFooter) (file : List ℕ) (b : ℕ) (mark : BucketMark) → HasFooter f file → slice_get f.buckets b ≡ Some mark → mark.place + mark.length + 32 ≤ length file
bucket_within f file b mark has there =
    omega (arith, stands_inside (length has.buckets) 0 f.buckets b mark has.is.stand there, ap length has.split, length-append has.buckets (tail_of f))

-- a bucket that ends above all u64
pub stand_past : (end at : ℕ) (ms : List BucketMark) (i : ℕ) (d : BucketMark) → i < length ms → end < 2 ^ 64 → 2 ^ 64 ≤ (get_or ms i d).place + (get_or ms i d).length + 32 → false ≡ stand_until end at (drop i ms)
stand_past end at ms i d less small past = go (stand_until end at (drop i ms)) refl
  where
    first : slice_get (drop i ms) 0 ≡ Some (get_or ms i d)
    first = ap (λ (xs : List BucketMark). slice_get xs 0) (drop_more ms i d less)

    go : (t : Truth) → stand_until end at (drop i ms) ≡ t → false ≡ t
    go false e = refl
    go true e = absurd (omega (arith, past, small, stands_inside end at (drop i ms) 0 (get_or ms i d) e first))

-- ---- the footer that was read

abbrev pub made : ℕ → List BucketMark → IndexFooter
made n bs = record { entries = n; buckets = bs }

made_same : (n : ℕ) (ps told : List (ℕ × ℕ)) (bs : List BucketMark) → bs ≡ marks_of_pairs told → told ≡ ps → footer_from (n, ps) ≡ made n bs
made_same n ps told bs is told_is = ap (λ (xs : List BucketMark). made n xs) (sym (is ∙ ap marks_of_pairs told_is))

pub read_fits : (n : ℕ) (ps told : List (ℕ × ℕ)) (bs : List BucketMark) (rest : List ℕ) → IsWhole footer_field rest (n, ps) → bs ≡ marks_of_pairs told → told ≡ ps → FooterFits (made n bs)
read_fits n ps told bs rest whole is told_is = subst FooterFits (made_same n ps told bs is told_is) (made_fits (n, ps) rest whole)

pub read_is : (n : ℕ) (ps told : List (ℕ × ℕ)) (bs : List BucketMark) (bytes rest : List ℕ) → IsWhole footer_field rest (n, ps) → bytes ≡ 80 ∷ 75 ∷ 73 ∷ 88 ∷ 1 ∷ rest → bs ≡ marks_of_pairs told → told ≡ ps → footer_body (made n bs) ≡ bytes
read_is n ps told bs bytes rest whole behind is told_is = ap footer_body (sym (made_same n ps told bs is told_is)) ∙ made_is (n, ps) bytes rest whole behind

-- a footer's bytes without the digest, and with it
pub body_of : (f : IndexFooter) (bytes : List ℕ) (len : ℕ) → length bytes ≡ len + 32 → footer_bytes f ≡ bytes → footer_body f ≡ take len bytes
body_of f bytes len long is =
    let body = footer_body f in
    let counted : length body ≡ len = omega (arith, long, ap length is, length-append body (sha256 body), length-sha256 body) in
    sym (take_at body (sha256 body) len counted) ∙ ap (take len) is

pub with_digest : (body bytes : List ℕ) (len : ℕ) → body ≡ take len bytes → drop len bytes ≡ sha256 (take len bytes) → body ++ sha256 body ≡ bytes
with_digest body bytes len is agree = ap (λ (b : List ℕ). b ++ sha256 b) is ∙ ap (λ (d : List ℕ). take len bytes ++ d) (sym agree) ∙ take-append-drop len bytes

pub the_footer : (end len : ℕ) (bytes : List ℕ) (f : IndexFooter) → FooterFits f → footer_body f ≡ take len bytes → drop len bytes ≡ sha256 (take len bytes) → length f.buckets ≡ buckets_for f.entries → stand_until end 0 f.buckets ≡ true → IsTheFooter end bytes f
the_footer end len bytes f fits body agree number stand =
    let at : IsFooterAt end bytes f = record { is = record { fits = fits; number = number; stand = stand }; written = with_digest (footer_body f) bytes len body agree } in
    record { is = at; only = λ other has. only_footer end bytes f other at has }

pub no_other : (end len : ℕ) (bytes : List ℕ) (f : IndexFooter) → length bytes ≡ len + 32 → FooterFits f → footer_body f ≡ take len bytes → drop len bytes ≡ sha256 (take len bytes)
    → (length f.buckets ≡ buckets_for f.entries → stand_until end 0 f.buckets ≡ true → ⊥) → IsNoFooter end len bytes
no_other end len bytes f long fits body agree not = record {
  agree = agree;
  none = λ other has.
      let same : other ≡ f = same_footer other f has.is.fits fits (body_of other bytes len long has.written ∙ sym body) in
      let is : IsFooter f end = subst (λ (g : IndexFooter). IsFooter g end) same has.is in
      not is.number is.stand;
}

pub no_footer : (end len : ℕ) (bytes : List ℕ) → length bytes ≡ len + 32 → drop len bytes ≡ sha256 (take len bytes) → ((f : IndexFooter) → FooterFits f → footer_body f ≡ take len bytes → ⊥) → IsNoFooter end len bytes
no_footer end len bytes long agree none = record { agree = agree; none = λ f has. none f has.is.fits (body_of f bytes len long has.written) }
