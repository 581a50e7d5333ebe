use Rattle.std.proofs.Common.{◌≡◌, ◌<◌, sym, subst, ℕ, arith}
use Rattle.std.specs.List.{AllByRecursion}
use Rattle.pk_values.specs.Schemas.{Layout}
use Rattle.segment_read.specs.Reads.{KnowsFooter}
use Rattle.scan_cases.proofs.PartsFacts.{parts_push}
use Rattle.scan_cases.proofs.parts.Parts.add.Goals as goal

pub invariant_of-self-2 : goal.invariant_of-self-2
invariant_of-self-2 g c =
    let view = g.R.SealedReader.view in
    let rows : c.fields.result.now.rows ≡ c.args.segment.footer.rows = λ i. (c.fields.ensures.fields i).rows in
    parts_push view c.self.inside.schema c.self.inside.parts.items c.push.new.self.items (c.args.segment, c.args.dead) c.in_ok-push.ensures.items c.self.invariant
    (record {
      is = c.fields.ensures.valid.is;
      known = subst (λ (s : Layout). KnowsFooter s (view c.args.segment.reader) c.args.segment.footer) (sym c.self.view_is) c.requires;
      within = subst (λ (n : ℕ). AllByRecursion (λ r. r < n) c.args.dead) rows (c.in_ok-are_below.ensures c.if-not-branch.false);
    })
    (omega (arith, c.self.inside.parts.ok.0, c.len.ensures))
