use mir.Val.{SFits, of_z, to_z}
use mir.Syntax.{w128}
use Rattle.std.proofs.lemmas.Int.{to_z-of_z}
use Rattle.std.proofs.Common.{rules, ◌≡◌, ◌++◌, sym, ap, ◌∙◌, drop}
use Rattle.std.specs.Prelude.{ℤ}
use Rattle.std.proofs.lemmas.List.{drop-drop}
use Rattle.std.proofs.lemmas.Result.{err_from_is_err_and}
use Rattle.column_page.specs.Footers.{wide_bytes}
use Rattle.column_page.specs.declared.footers.Span.{Span}
use Rattle.column_page.proofs.SequenceFacts.{wide_long, wide_step}
use Rattle.column_page.proofs.Pieces.{to_end}
use Rattle.column_page.proofs.footer_reads.read_span.Goals as goal

span_is : (a b : ℤ) (t : Span) → a ≡ t.least → b ≡ t.greatest → ◌≡◌ {A = Span} (record { least = a; greatest = b }) t
span_is a b t e f = let x : Span = record { least = a; greatest = b } in let y : Span = record { least = t.least; greatest = b } in
    let one : x ≡ y = ap (λ (z : ℤ). record x { least = z }) e in
    one ∙ ap (λ (z : ℤ). record y { greatest = z }) f

pub returns-clause-only : goal.returns-clause-only
returns-clause-only c t rest fit e =
    let bytes = c.args.bytes.now in
    let least = c.in_ok-least.ensures.some in
    let greatest = c.in_ok-greatest.ensures.some in
    let one = wide_step c.in_ok-least.least t.least bytes (wide_bytes t.greatest ++ rest) least.0 fit.least least.2 e in
    let piece = to_end bytes 16 in
    let two = wide_step c.in_ok-greatest.greatest t.greatest _ rest greatest.0 fit.greatest greatest.2 (sym one.1 ∙ sym piece) in
    let least_fits : SFits w128 c.in_ok-least.least = search rules in
    let greatest_fits : SFits w128 c.in_ok-greatest.greatest = search rules in
    let a : to_z w128 (of_z w128 c.in_ok-least.least) ≡ c.in_ok-least.least = to_z-of_z w128 c.in_ok-least.least least_fits in
    let b : to_z w128 (of_z w128 c.in_ok-greatest.greatest) ≡ c.in_ok-greatest.greatest = to_z-of_z w128 c.in_ok-greatest.greatest greatest_fits in
    (span_is (to_z w128 (of_z w128 c.in_ok-least.least)) (to_z w128 (of_z w128 c.in_ok-greatest.greatest)) t (a ∙ one.0) (b ∙ two.0), sym (drop-drop 16 16 bytes) ∙ ap (drop 16) (sym piece) ∙ two.1)

pub returns-in_err-least-clause-none : goal.returns-in_err-least-clause-none
returns-in_err-least-clause-none c =
    let p = err_from_is_err_and c.from_residual.result c.from_residual.ensures.1 in
    rw p.1 (λ t rest fit e. wide_long t.least c.args.bytes.now (wide_bytes t.greatest ++ rest) c.in_err-least.ensures.none e)

pub returns-in_err-greatest-clause-none : goal.returns-in_err-greatest-clause-none
returns-in_err-greatest-clause-none c =
    let p = err_from_is_err_and c.from_residual-in_err-greatest.result c.from_residual-in_err-greatest.ensures.1 in
    rw p.1 (λ t rest fit e.
    let bytes = c.args.bytes.now in
    let least = c.in_ok-least.ensures.some in
    let one = wide_step c.in_ok-least.least t.least bytes (wide_bytes t.greatest ++ rest) least.0 fit.least least.2 e in
    let piece = to_end bytes 16 in
    wide_long t.greatest _ rest c.in_err-greatest.ensures.none (sym one.1 ∙ sym piece))
