use Rattle.std.proofs.Common.{◌≡◌, ◌-◌, ◌∷◌, ◌++◌, ℕ, List, ◌+◌, length, take, drop, refl, sym, ap, ◌∙◌, arith}
use Rattle.std.proofs.lemmas.List.{drop_at, length-append, take_at}
use Rattle.std.proofs.lemmas.Result.{err_from_is_err_and}
use Rattle.sha2.specs.Sha256.{sha256}
use Rattle.sha2.proofs.Facts256.{length-sha256}
use Rattle.column_page.specs.declared.footers.FooterFields.{FooterFields}
use Rattle.column_page.specs.Footers.{footer_body, footer_bytes}
use Rattle.column_page.proofs.whole_footers.read_footer.Goals as goal

length-bytes : (f : FooterFields) (bytes : List ℕ) → footer_bytes f ≡ bytes → length bytes ≡ length (footer_body f) + 32
length-bytes f bytes e = omega (arith, ap length e, length-append (footer_body f) (sha256 (footer_body f)), length-sha256 (footer_body f))

-- the body and the digest of a footer with these bytes
parted : (f : FooterFields) (bytes body digest : List ℕ) (n : ℕ) → n ≡ length bytes - 32 → body ≡ take n bytes → digest ≡ drop n bytes → footer_bytes f ≡ bytes → (footer_body f ≡ body) × (digest ≡ sha256 body)
parted f bytes body digest n en eb ed e =
    let long : length (footer_body f) ≡ n = omega (arith, length-bytes f bytes e) in
    let here : footer_body f ≡ body = sym (take_at (footer_body f) (sha256 (footer_body f)) n long) ∙ ap (take n) e ∙ sym eb in
    (here, ed ∙ ap (drop n) (sym e) ∙ drop_at (footer_body f) (sha256 (footer_body f)) n long ∙ ap sha256 here)

pub returns-then-bytes-lt32-clause-none : goal.returns-then-bytes-lt32-clause-none
returns-then-bytes-lt32-clause-none c is f fit e = absurd (omega (arith, length-bytes f c.args.bytes.now e, c.if-bytes-lt32.true))

pub returns-then-not-has_digest-clause-none : goal.returns-then-not-has_digest-clause-none
returns-then-not-has_digest-clause-none c is f fit e =
    let parts = parted f c.args.bytes.now c.split_at.result.0.now c.split_at.result.1.now _ refl c.split_at.ensures.front c.split_at.ensures.back e in
    let told = c.has_digest.ensures.1 parts.1 in
    cc

pub returns-in_err-footer-clause-none : goal.returns-in_err-footer-clause-none
returns-in_err-footer-clause-none c =
    let p = err_from_is_err_and c.from_residual.result c.from_residual.ensures.1 in
    rw (p.1, p.2) (λ is f fit e.
    let parts = parted f c.args.bytes.now c.split_at.result.0.now c.split_at.result.1.now _ refl c.split_at.ensures.front c.split_at.ensures.back e in
    c.in_err-footer.ensures.none is f fit parts.0)

pub returns-clause-only : goal.returns-clause-only
returns-clause-only c f fit e =
    let parts = parted f c.args.bytes.now c.split_at.result.0.now c.split_at.result.1.now _ refl c.split_at.ensures.front c.split_at.ensures.back e in
    c.in_ok-footer.ensures.only f fit parts.0
