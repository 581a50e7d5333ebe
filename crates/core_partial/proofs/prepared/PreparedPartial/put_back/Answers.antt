use Rattle.std.proofs.Common.{◌≡◌, ◌∙◌, ap, sym, subst, refl, map, take, List, ℕ, Option, false}
use Rattle.std.proofs.lemmas.List.{take-map}
use Rattle.column_page.specs.declared.footers.Footer.{Footer}
use Rattle.segment_write.specs.declared.segments.Made.{Made}
use Rattle.tablet_state.specs.Readies.{NewSegment}
use Rattle.core_partial.specs.Prepared.{IsPreparedPartial, PreparedPartialView}
use Rattle.core_partial.proofs.prepared.PreparedPartial.put_back.Goals as goal

pub invariant_of-self : goal.invariant_of-self
invariant_of-self g c =
    let see : Made g.row.M.Denot g.row.M-Sealed.Denot g.M.FileMaker → NewSegment = λ m. (g.M.FileMaker.sealed_bytes m.sealed, m.footer) in
    let files : take c.args.count (map see c.args.files.items) ≡ map see c.truncate.new.self.items = take-map see c.args.count c.args.files.items ∙ ap (map see) (sym c.truncate.ensures.items) in
    (c.self.invariant.0, λ e. subst IsPreparedPartial (λ i. record (sym c.self.view_is i) { files = files i; spent = false }) c.requires.kept)

pub returns : goal.returns
returns g c =
    let see : Made g.row.M.Denot g.row.M-Sealed.Denot g.M.FileMaker → NewSegment = λ m. (g.M.FileMaker.sealed_bytes m.sealed, m.footer) in
    let files : take c.args.count (map see c.args.files.items) ≡ map see c.truncate.new.self.items = take-map see c.args.count c.args.files.items ∙ ap (map see) (sym c.truncate.ensures.items) in
    λ i. record (c.self.view_is i) { files = sym files i; spent = false }
