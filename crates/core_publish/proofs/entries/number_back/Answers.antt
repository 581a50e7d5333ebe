use Rattle.std.proofs.Common.{◌≡◌, ◌∙◌, sym, ap, get_or, set, arith}
use Rattle.std.proofs.lemmas.List.Edits.{map_over_more}
use Rattle.rowsets.specs.Indexing.{CodeMove}
use Rattle.core_publish.specs.Publishing.{entry_back, placed_back}
use Rattle.core_publish.proofs.entries.number_back.Goals as goal

pub loop-entry-preserved : goal.loop-entry-preserved
loop-entry-preserved c =
    let x : CodeMove = c.entry-item.result in
    let items = c.loop-entry.entry-items in
    let i = c.loop-entry.entry-index in
    let placed : c.place_back.new.place ≡ placed_back c.args.first x.1 = c.place_back.ensures ∙ ap (λ (e : CodeMove). placed_back c.args.first e.1) (sym c.entry-item.is) in
    let code : (get_or items i x).0 ≡ x.0 = ap (λ (e : CodeMove). e.0) (sym c.entry-item.is) in
    ap (set items i) (λ j. (code j, placed j))
    ∙ map_over_more (entry_back c.args.first) c.args.entries.now.items items i x (omega arith) c.loop-entry.invariant c.entry-item.is
