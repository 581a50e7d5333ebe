use Rattle.std.proofs.Common.{◌≡◌, ℕ, ◌∙◌, List, [], ◌∷◌, ◌++◌, map, take, length, sym, subst, ap, IsTrue}
use Rattle.std.specs.List.{AllByRecursion}
use Rattle.std.proofs.lemmas.List.{map-append}
use Rattle.column_page.specs.Footers.{is_footer}
use Rattle.tablet_state.proofs.FileFacts.{all-append}
use Rattle.core_recover.proofs.IndexingFacts.{take_got}
use Rattle.core_recover.proofs.NamingFacts.{at_index}
use Rattle.core_recover.proofs.reading.numbers_of.Goals as goal

pub loop-segment-preserved : goal.loop-segment-preserved
loop-segment-preserved g c =
    let got = take_got c.args.segments.now c.loop-segment.segment-index c.segment-item.result (at_index c.args.segments.now c.loop-segment.segment-index c.segment-item.result c.loop-segment-test.true c.segment-item.is) in
    record {
      numbers = c.in_ok-push.ensures.items ∙ ap (λ ns. ns ++ c.segment-item.result.number ∷ []) c.loop-segment.invariant.numbers
          ∙ sym (map-append (λ s. s.number) (take c.loop-segment.segment-index c.args.segments.now) (c.segment-item.result ∷ [])) ∙ ap (map (λ s. s.number)) (sym got);
      footers = subst (AllByRecursion (λ s. IsTrue (is_footer s.footer))) (sym got)
          (all-append (λ s. IsTrue (is_footer s.footer)) (take c.loop-segment.segment-index c.args.segments.now) (c.segment-item.result ∷ []) c.loop-segment.invariant.footers (c.blocks-blocks.ensures.valid.is, tt));
    }
