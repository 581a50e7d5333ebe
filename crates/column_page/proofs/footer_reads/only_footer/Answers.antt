use Rattle.std.proofs.Common.{◌≡◌, ◌∷◌, ◌++◌, [], ℕ, List, ap, drop, ◌∙◌}
use Rattle.std.proofs.lemmas.List.{append-nil}
use Rattle.std.proofs.lemmas.Result.{err_from_is_err_and}
use Rattle.column_page.specs.declared.footers.FooterFields.{FooterFields}
use Rattle.column_page.specs.Footers.{footer_body, footer_fields}
use Rattle.column_page.proofs.footer_reads.only_footer.Goals as goal

-- what stands behind the form
behind : (f : FooterFields) (body fields : List ℕ) → footer_body f ≡ body → body ≡ 80 ∷ 75 ∷ 83 ∷ 71 ∷ 1 ∷ fields → footer_fields f ++ [] ≡ fields
behind f body fields e g = append-nil (footer_fields f) ∙ ap (drop 5) (e ∙ g)

pub returns-clause-only : goal.returns-clause-only
returns-clause-only c f fit e = c.in_ok-footer.ensures.only f [] fit (behind f c.args.body.now c.in-Some.fields.now e c.in-Some.ensures.some)

pub returns-in_err-footer-clause-none : goal.returns-in_err-footer-clause-none
returns-in_err-footer-clause-none c =
    let p = err_from_is_err_and c.from_residual.result c.from_residual.ensures.1 in
    rw (p.1, p.2) (λ is f fit e. c.in_err-footer.ensures.none is f [] fit (behind f c.args.body.now c.in-Some.fields.now e c.in-Some.ensures.some))
