use Rattle.std.proofs.Common.{◌≡◌, ◌∙◌, ap, sym, subst, List, map}
use Rattle.std.specs.FinMap.{get}
use Rattle.rowsets.specs.Indexing.{CodeMove}
use Rattle.partial_loads.specs.declared.folds.Folded.{Folded}
use Rattle.core_partial.specs.Found.{AreStored}
use Rattle.core_partial.proofs.FoundFacts.{stored-more}
use Rattle.core_partial.proofs.LoopFacts.{codes_step}
use Rattle.core_partial.proofs.locating.located.Goals as goal

pub loop-key-preserved : goal.loop-key-preserved
loop-key-preserved g c =
    let inv = c.loop-key.invariant in
    let codes = c.args.state.now.contents.codes in
    let before : List CodeMove = c.loop-key.located.items in
    let e : CodeMove = (c.copy.result, c.place_of.result) in
    let key : Folded = c.key-item.result in
    record {
      codes = codes_step before c.push.new.self.items _ c.loop-key.key-index key e c.in_ok-push.ensures.items c.copy.ensures c.loop-key-test.true c.key-item.is inv.codes;
      stored = subst (AreStored codes) (sym c.in_ok-push.ensures.items) (stored-more codes before e inv.stored (c.place_of.ensures.stored ∙ ap (get codes) (sym c.copy.ensures)));
    }
